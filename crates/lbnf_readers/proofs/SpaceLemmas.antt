-- What separates tokens: what stands before a rest is read, and what is read stands there.
use Rattle.std.proofs.Common.{◌≡◌, ℕ, List, [], ◌∷◌, ◌++◌, length, take, drop, codes, true, false, eqb, Some, refl, sym, ap, subst, ◌∙◌, inl, inr, arith, take-append-drop, length-append}
use Rattle.std.specs.List.{prefix_len, AllByRecursion}
use Rattle.std.proofs.lemmas.Bool.{cases_Bool, both_ways, not-true, not_from_false, false_from_ne_true}
use Rattle.std.proofs.lemmas.Bool.Decides.{nat_tests}
use Rattle.std.proofs.lemmas.Option.{cond_some, none-some, same_Some}
use Rattle.std.proofs.lemmas.Slice.Eq.{bytes_eq-Decides}
use Rattle.std.proofs.lemmas.List.{take_at}
use Rattle.std.proofs.lemmas.List.Elements.{All-from_recursion, recursion_from_All}
use Rattle.spec_text.specs.Bytes.{is_white}
use Rattle.spec_lexing.specs.Kinds.{EndsFirst}
use Rattle.spec_lbnf.specs.FileTokens.{HasFront, IsWhiteByte, IsLineComment, IsBlockComment}
use Rattle.lbnf_readers.specs.Scanning.{has_front, is_in_line, behind_line, behind_closing, behind_white, behind_space, IsSpaceAt}
use Rattle.lbnf_readers.proofs.RunLemmas.{run_passes, run_stops, run_whole, run_drop}

-- what the test finds stands at the front
pub front_read : (front bytes : List ℕ) → has_front front bytes ≡ true
    → bytes ≡ front ++ drop (length front) bytes
front_read front bytes h =
    let is_front : take (length front) bytes ≡ front = (bytes_eq-Decides (take (length front) bytes) front).0 h in
    sym (take-append-drop (length front) bytes) ∙ ap (λ l. l ++ drop (length front) bytes) is_front

-- what stands at the front is found
pub front_again : (front bytes rest : List ℕ) → bytes ≡ front ++ rest → has_front front bytes ≡ true
front_again front bytes rest e =
    ap (has_front front) e ∙ (bytes_eq-Decides (take (length front) (front ++ rest)) front).1 (take_at front rest (length front) refl)

-- what is not found does not stand at the front
pub front_not : (front bytes : List ℕ) → has_front front bytes ≡ false → HasFront front bytes → ⊥
front_not front bytes h begins = both_ways (has_front front bytes) h (front_again front bytes begins.0 begins.1)

-- what does not stand at the front is not found
pub not_found : (front bytes : List ℕ) → (HasFront front bytes → ⊥) → has_front front bytes ≡ false
not_found front bytes apart =
    false_from_ne_true (has_front front bytes) (λ h. apart (drop (length front) bytes, front_read front bytes h))

-- a list that is as long as its front has nothing behind it
nothing_behind : (before closing behind : List ℕ) → length closing ≡ length (before ++ (closing ++ behind))
    → behind ≡ []
nothing_behind before closing [] e = refl
nothing_behind before closing (b ∷ behind) e =
    absurd (omega (arith, simp length-append at e))

-- a closing text is first in itself
first_in_itself : (closing : List ℕ) → EndsFirst closing closing
first_in_itself closing = record {
  inside = [];
  whole = refl;
  first = λ before behind e. nothing_behind before closing behind (ap length e);
}

-- a closing text that does not stand at the front is first behind the first byte too
first_behind : (byte : ℕ) (block rest : List ℕ) → EndsFirst block (codes "-}")
    → (HasFront (codes "-}") (byte ∷ block ++ rest) → ⊥) → EndsFirst (byte ∷ block) (codes "-}")
first_behind byte block rest ends apart = record {
  inside = byte ∷ ends.inside;
  whole = ap (λ l. byte ∷ l) ends.whole;
  first = by;
}
  where
    by : (before behind : List ℕ) → byte ∷ block ≡ before ++ (codes "-}" ++ behind) → behind ≡ []
    by [] behind e = absurd (apart (behind ++ rest, ap (λ l. l ++ rest) e))
    by (b ∷ before) behind e = ends.first before behind (cc)

-- what is behind the first closing text is behind a block
pub closing_read : (bytes rest : List ℕ) → behind_closing bytes ≡ Some rest
    → (block : List ℕ) × EndsFirst block (codes "-}") × (bytes ≡ block ++ rest)
unfolding behind_closing
closing_read [] rest e = absurd (none-some rest e)
closing_read (byte ∷ bytes) rest e = elim (cases_Bool (has_front (codes "-}") (byte ∷ bytes))) [
  | inl h ↦ (codes "-}", first_in_itself (codes "-}"), front_read (codes "-}") (byte ∷ bytes) h ∙ ap (λ l. codes "-}" ++ l) (same_Some _ _ (rw h at e)))
  | inr h ↦
      let found = closing_read bytes rest (rw h at e) in
      let apart = front_not (codes "-}") (byte ∷ bytes) h in
      (byte ∷ found.0, first_behind byte found.0 rest found.1 (λ b. apart (b.0, ap (λ l. byte ∷ l) found.2 ∙ b.1)), ap (λ l. byte ∷ l) found.2)
]

-- the closing text is not at the front of a block that has more inside
not_at_front : (byte : ℕ) (inside rest : List ℕ) → EndsFirst (byte ∷ inside ++ codes "-}") (codes "-}")
    → HasFront (codes "-}") (byte ∷ (inside ++ codes "-}") ++ rest) → ⊥
not_at_front byte [] rest ends begins =
    let e : ◌≡◌ {A = ℕ} 45 125 = cc (begins.1) in
    absurd (omega arith)
not_at_front byte (next ∷ inside) rest ends begins =
    let first : byte ≡ 45 = cc (begins.1) in
    let second : next ≡ 125 = cc (begins.1) in
    let closes : byte ∷ next ∷ (inside ++ codes "-}") ≡ codes "-}" ++ (inside ++ codes "-}") = cc in
    let ended = ends.first [] (inside ++ codes "-}") closes in
    absurd (omega (arith, simp length-append at (ap length ended)))

-- behind a block is what is behind the first closing text
pub closing_again : (inside rest : List ℕ) → EndsFirst (inside ++ codes "-}") (codes "-}")
    → behind_closing ((inside ++ codes "-}") ++ rest) ≡ Some rest
unfolding behind_closing
closing_again [] rest ends = refl
closing_again (byte ∷ inside) rest ends =
    let apart : has_front (codes "-}") (byte ∷ (inside ++ codes "-}") ++ rest) ≡ false =
    not_found (codes "-}") (byte ∷ (inside ++ codes "-}") ++ rest) (not_at_front byte inside rest ends) in
    rw apart (closing_again inside rest (record {
      inside = inside;
      whole = refl;
      first = λ before behind e. ends.first (byte ∷ before) behind (ap (λ l. byte ∷ l) e);
    }))

-- behind a block comment is what is behind its opening text and the first closing text
block_again : (bytes space rest : List ℕ) → bytes ≡ space ++ rest → IsBlockComment space
    → behind_space bytes ≡ Some rest
unfolding behind_space
block_again bytes space rest e is =
    let ends : EndsFirst (is.closed.inside ++ codes "-}") (codes "-}") =
    subst (λ block. EndsFirst block (codes "-}")) is.closed.whole is.closed in
    let found = closing_again is.closed.inside rest ends in
    rw (e, is.whole, is.closed.whole) found

-- behind a line comment is what is behind its opening text and the first line
line_again : (bytes space rest : List ℕ) → bytes ≡ space ++ rest → IsLineComment space rest
    → behind_space bytes ≡ Some rest
unfolding behind_space
line_again bytes space rest e is =
    let each : AllByRecursion (λ b. is_in_line b ≡ true) is.line =
    recursion_from_All (λ b. is_in_line b ≡ true) is.line (λ k d h. not_from_false _ (is.on_line k d h)) in
    rw (e, is.whole) (ap Some (run_drop is_in_line is.line rest each is.stops))

-- a white byte does not begin a comment
white_again : (bytes space rest : List ℕ) → bytes ≡ space ++ rest → IsWhiteByte space
    → behind_space bytes ≡ Some rest
unfolding behind_space
white_again bytes space rest e (byte, white, one) =
    let apart : eqb byte 45 ≡ false = grind (arith, nat_tests) in
    let apart' : eqb byte 123 ≡ false = grind (arith, nat_tests) in
    rw (e, one, apart, apart', white) refl

-- what separates tokens before a rest is read
pub space_again : (bytes rest : List ℕ) → IsSpaceAt bytes rest → behind_space bytes ≡ Some rest
space_again bytes rest (space, e, inl is) = white_again bytes space rest e is
space_again bytes rest (space, e, inr (inl is)) = line_again bytes space rest e is
space_again bytes rest (space, e, inr (inr is)) = block_again bytes space rest e is

-- what is read behind a white byte has one before it
white_read : (bytes rest : List ℕ) → behind_white bytes ≡ Some rest → IsSpaceAt bytes rest
white_read [] rest e = absurd (none-some rest e)
white_read (byte ∷ bytes) rest e =
    let found = cond_some (is_white byte) bytes rest e in
    (byte ∷ [], ap (λ l. byte ∷ l) found.1, inl (byte, found.0, refl))

-- what is read behind a line has a line comment before it
line_read : (bytes : List ℕ) → has_front (codes "--") bytes ≡ true
    → IsSpaceAt bytes (behind_line (drop 2 bytes))
line_read bytes h =
    let line : List ℕ = take (prefix_len is_in_line (drop 2 bytes)) (drop 2 bytes) in
    let is : IsLineComment (codes "--" ++ line) (behind_line (drop 2 bytes)) = record {
      line = line;
      on_line = λ k d l. not-true _ (All-from_recursion (λ b. is_in_line b ≡ true) _ (run_passes is_in_line (drop 2 bytes)) k d l);
      stops = run_stops is_in_line (drop 2 bytes);
      whole = refl;
    } in
    (codes "--" ++ line, front_read (codes "--") bytes h ∙ ap (λ l. codes "--" ++ l) (sym (run_whole is_in_line (drop 2 bytes))), inr (inl is))

-- what is read behind a closing text has a block comment before it
block_read : (bytes rest : List ℕ) → has_front (codes "{-") bytes ≡ true
    → behind_closing (drop 2 bytes) ≡ Some rest → IsSpaceAt bytes rest
block_read bytes rest h e =
    let found = closing_read (drop 2 bytes) rest e in
    let is : IsBlockComment (codes "{-" ++ found.0) = record { block = found.0; closed = found.1; whole = refl } in
    (codes "{-" ++ found.0, front_read (codes "{-") bytes h ∙ ap (λ l. codes "{-" ++ l) found.2, inr (inr is))

-- what is read separates tokens before the rest
pub space_read : (bytes rest : List ℕ) → behind_space bytes ≡ Some rest → IsSpaceAt bytes rest
unfolding behind_space
space_read bytes rest e = elim (cases_Bool (has_front (codes "--") bytes)) [
  | inl h ↦
      let same : behind_line (drop 2 bytes) ≡ rest = same_Some _ _ (rw h at e) in
      subst (IsSpaceAt bytes) same (line_read bytes h)
  | inr h ↦ elim (cases_Bool (has_front (codes "{-") bytes)) [
    | inl k ↦ block_read bytes rest k (rw (h, k) at e)
    | inr k ↦ white_read bytes rest (rw (h, k) at e)
  ]
]
