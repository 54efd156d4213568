-- Comments: what a search of the text finds is where a comment ends.
use Rattle.std.proofs.Common.{◌≡◌, ℕ, ◌<◌, ◌≤◌, ◌≢◌, List, [], ◌∷◌, ◌++◌, length, get_or, take, drop, codes, Option, Some, None, refl, sym, ap, ◌∙◌, arith, append_assoc, length-append, length-take, take-append-drop, IsUtf8, true}
use Rattle.std.specs.Str.Pattern.{FindsText}
use Rattle.std.proofs.lemmas.Bool.{ne_eqb, eq-eqb, not_from_true, not_from_false}
use Rattle.std.proofs.lemmas.Bool.Decides.{nat_tests}
use Rattle.std.proofs.lemmas.List.{drop_at, drop_all}
use Rattle.std.proofs.lemmas.List.Sums.{prefix_len_is}
use Rattle.std.proofs.lemmas.Str.{IsCharBoundary-after_ascii}
use Rattle.std.specs.Str.{IsCharBoundary}
use Rattle.spec_text.specs.Bytes.{is_white}
use Rattle.spec_lexing.specs.Kinds.{EndsFirst}
use Rattle.lbnf_readers.specs.Scanning.{is_in_line, behind_line, behind_closing}
use Rattle.lbnf_readers.proofs.SpaceLemmas.{closing_read, closing_again}

module _ (bytes : List ℕ) where
  -- a line ends at the first LF
  pub line_found : (end : ℕ) → end < length bytes → get_or bytes end 0 ≡ 10
      → ((i : ℕ) → i < end → get_or bytes i 0 ≢ 10) → drop end bytes ≡ behind_line bytes
  line_found end within is_lf before =
      let len = prefix_len_is is_in_line bytes end 0 (omega arith) (λ k l. not_from_false _ (ne_eqb _ 10 (before k l))) (λ l. not_from_true _ (eq-eqb _ 10 is_lf)) in
      ap (λ n. drop n bytes) (sym len)

  -- a last line ends with the bytes
  pub last_line : ((i : ℕ) → i < length bytes → get_or bytes i 0 ≢ 10) → [] ≡ behind_line bytes
  last_line before =
      let len = prefix_len_is is_in_line bytes (length bytes) 0 (omega arith) (λ k l. not_from_false _ (ne_eqb _ 10 (before k l))) (λ l. absurd (omega arith)) in
      sym (ap (λ n. drop n bytes) len ∙ drop_all (length bytes) bytes (omega arith))

  -- the text stands behind as many bytes as stand before it
  stands_behind : (front text rest : List ℕ) → bytes ≡ front ++ (text ++ rest) → drop (length front) bytes ≡ text ++ rest
  stands_behind front text rest e = ap (drop (length front)) e ∙ drop_at front (text ++ rest) (length front) refl

  -- what is found first is the first closing text
  pub closing_found : (start end : ℕ) → start ≤ length bytes → FindsText (codes "-}") bytes (Some (start, end))
      → Some (drop end bytes) ≡ behind_closing bytes
  closing_found start end within (lacks, has) =
      let inside : List ℕ = take start bytes in
      let rest : List ℕ = drop end bytes in
      let whole : bytes ≡ (inside ++ codes "-}") ++ rest =
      sym (take-append-drop start bytes) ∙ ap (λ l. inside ++ l) has.split ∙ sym (append_assoc inside (codes "-}") rest) in
      let ends : EndsFirst (inside ++ codes "-}") (codes "-}") = record { inside = inside; whole = refl; first = by whole } in
      sym (ap behind_closing whole ∙ closing_again inside rest ends)
    where
      by : bytes ≡ (take start bytes ++ codes "-}") ++ drop end bytes → (before behind : List ℕ)
          → take start bytes ++ codes "-}" ≡ before ++ (codes "-}" ++ behind) → behind ≡ []
      by whole before [] e = refl
      by whole before (b ∷ behind) e =
          let earlier : length before < start = omega (arith, simp length-append at (ap length e), length-take start bytes) in
          let stands : bytes ≡ before ++ (codes "-}" ++ (b ∷ behind ++ drop end bytes)) =
          whole ∙ ap (λ l. l ++ drop end bytes) e ∙ append_assoc before (codes "-}" ++ b ∷ behind) (drop end bytes) in
          absurd (lacks (length before) earlier (b ∷ behind ++ drop end bytes) (stands_behind before (codes "-}") (b ∷ behind ++ drop end bytes) stands))

  -- where none is found, there is none
  pub closing_none : FindsText (codes "-}") bytes None → None ≡ behind_closing bytes
  closing_none lacks = by (behind_closing bytes) refl
    where
      by : (o : Option (List ℕ)) → behind_closing bytes ≡ o → None ≡ behind_closing bytes
      by None e = sym e
      by (Some rest) e =
          let read = closing_read bytes rest e in
          let inside : List ℕ = read.1.inside in
          let stands : bytes ≡ inside ++ (codes "-}" ++ rest) =
          read.2 ∙ ap (λ l. l ++ rest) read.1.whole ∙ append_assoc inside (codes "-}") rest in
          let within : length inside ≤ length bytes = omega (arith, simp length-append at (ap length stands)) in
          absurd (lacks (length inside) within rest (stands_behind inside (codes "-}") rest stands))

  -- a text may be cut behind a white byte
  pub behind_white_byte : IsUtf8 bytes → 0 < length bytes → is_white (get_or bytes 0 0) ≡ true → IsCharBoundary bytes 1
  behind_white_byte utf8 some white =
      let low : get_or bytes 0 0 < 128 = grind (arith, nat_tests) in
      IsCharBoundary-after_ascii bytes 0 utf8 some low
