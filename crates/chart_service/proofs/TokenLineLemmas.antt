-- How a text is printed character by character, and tokens one after another.
use Rattle.std.proofs.Common.{◌≡◌, ℕ, zero, suc, ◌+◌, ◌-◌, ◌<◌, ◌≤◌, ◌⊎◌, inl, inr, List, [], ◌∷◌, ◌++◌, length, take, drop, slice_range, get_or, slice_get, Option, Some, Result, Ok, Err, OnOk, is_ok, if◌then◌else◌}
use Rattle.std.proofs.Common.{Bool, true, false, cond, nat_eq, codes, decimal, flat_map, refl, sym, ◌∙◌, ap, subst, arith, append_assoc, append-nil, length-drop, length-take, get_or-drop}
use Rattle.std.specs.Char.{encode_utf8, IsNotAsciiControl}
use Rattle.std.proofs.lemmas.Bool.{cases_lt}
use Rattle.std.proofs.lemmas.Bool.Decides.{nat_tests}
use Rattle.std.proofs.lemmas.List.{take_more, flat_map_more}
use Rattle.std.specs.Option.{option_map}
use Rattle.std.proofs.lemmas.Option.{get_or_from_slice_get, slice_get-map, same_Some}
use Rattle.std.proofs.lemmas.Grind.{flat_map-append}
use Rattle.std.proofs.lemmas.Str.{encode_ascii, inside_one}
use Rattle.spec_text.specs.Escapes.{is_control, hexadecimal, printed_byte, printed}
use Rattle.spec_lexing.specs.declared.kind_def.KindDef.{KindDef}
use Rattle.spec_lexing.specs.declared.token.Token.{Token}
use Rattle.spec_lexing.specs.Tokens.{kinds_of}
use Rattle.text_store.specs.TextStore.{token_bytes}
use Rattle.spec_session.specs.TokenAnswers.{token_name, token_text, tokens_text, tokens_line}

-- what is printed of a byte, by whether it is a control byte and whether it is a backslash
abbrev printed_by : ℕ → Bool → Bool → List ℕ
printed_by byte control slash =
    cond control (codes "\\x" ++ hexadecimal byte) (cond slash (codes "\\\\") (byte ∷ []))

-- a byte that is neither is printed as it is
plain_byte : (byte : ℕ) → 31 < byte → (byte ≡ 127 → ⊥) → (byte ≡ 92 → ⊥) → printed_byte byte ≡ byte ∷ []
plain_byte byte above other another =
    let control : is_control byte ≡ false = grind (arith, nat_tests) in
    let slash : nat_eq byte 92 ≡ false = grind (arith, nat_tests) in
    ap (λ t. printed_by byte t (nat_eq byte 92)) control ∙ ap (λ t. printed_by byte false t) slash

-- bytes of which each is printed as it is are printed as they are
plain_bytes : (bytes : List ℕ)
    → ((k : ℕ) → k < length bytes → printed_byte (get_or bytes k 0) ≡ get_or bytes k 0 ∷ [])
    → printed bytes ≡ bytes
plain_bytes [] plain = refl
plain_bytes (byte ∷ bytes) plain =
    let first : printed_byte byte ≡ byte ∷ [] = plain 0 (omega arith) in
    let others : printed bytes ≡ bytes = plain_bytes bytes (λ k lt. plain (suc k) (omega (arith, lt))) in
    ap (λ front. front ++ printed bytes) first ∙ ap (λ back. byte ∷ back) others

-- so is a character that is no such byte: each of its bytes is itself, or is no ASCII byte
plain_character : (c : ℕ) → 31 < c → (c ≡ 127 → ⊥) → (c ≡ 92 → ⊥) → printed (encode_utf8 c) ≡ encode_utf8 c
plain_character c above other another =
    plain_bytes (encode_utf8 c) (λ k lt.
    let byte : ℕ = get_or (encode_utf8 c) k 0 in
    elim (cases_lt byte 128) [
      | inl low ↦
          let same : c ≡ byte = inside_one c [] (encode_utf8 c) k (sym (append-nil (encode_utf8 c))) lt low in
          subst (λ b. printed_byte b ≡ b ∷ []) same (plain_byte c above other another)
      | inr high ↦ plain_byte byte (omega (arith, high)) (λ e. omega (arith, high, e)) (λ e. omega (arith, high, e))
    ])

-- so is what it is printed as, where it was added
pub character_added : {X E : Type 0} → (r : Result X E) (old new : List ℕ) (c : ℕ) → IsNotAsciiControl c
    → (c ≡ 92 → ⊥) → new ≡ (if is_ok r then old ++ encode_utf8 c else old)
    → OnOk r (new ≡ old ++ printed (encode_utf8 c))
character_added (Ok x) old new c outside other added =
    let above : 31 < c = elim outside.0 [ inl low ↦ absurd (omega (arith, low)) | inr high ↦ high ] in
    let last : c ≡ 127 → ⊥ =
    λ e. elim outside.1 [ inl low ↦ omega (arith, e, low) | inr high ↦ omega (arith, e, high) ] in
    added ∙ ap (λ more. old ++ more) (sym (plain_character c above last other))
character_added (Err e) old new c outside other added = tt

-- what is left to print, with one character less
pub printed_step : (old new rest behind whole : List ℕ) (c : ℕ) → rest ≡ encode_utf8 c ++ behind
    → old ++ printed rest ≡ whole → new ≡ old ++ printed (encode_utf8 c) → new ++ printed behind ≡ whole
printed_step old new rest behind whole c parts held added =
    ap (λ bytes. bytes ++ printed behind) added
    ∙ append_assoc old (printed (encode_utf8 c)) (printed behind)
    ∙ ap (λ bytes. old ++ bytes) (sym (flat_map-append printed_byte (encode_utf8 c) behind))
    ∙ ap (λ bytes. old ++ printed bytes) (sym parts)
    ∙ held

-- nothing is left
pub printed_end : (line rest whole : List ℕ) → length rest ≡ 0 → line ++ printed rest ≡ whole → line ≡ whole
printed_end line [] whole none held = sym (append-nil line) ∙ held
printed_end line (byte ∷ rest) whole none held = absurd (omega (arith, none))

-- a token of the text, of this kind and these bytes
module _ (kinds : List KindDef) (text : List ℕ) (tokens : List Token) (place : ℕ) (token : Token)
    (is : slice_get tokens place ≡ Some token) (kind : Option ℕ)
    (kind_is : slice_get (kinds_of tokens) place ≡ Some kind) (bytes : List ℕ)
    (bytes_are : option_map (token_bytes text) (slice_get tokens place) ≡ Some bytes) where
  same_kind : kind ≡ token.kind
  same_kind =
      same_Some kind token.kind (sym kind_is ∙ slice_get-map (λ (t : Token). t.kind) tokens place
      ∙ ap (option_map (λ (t : Token). t.kind)) is)

  same_bytes : bytes ≡ token_bytes text token
  same_bytes = same_Some bytes (token_bytes text token) (sym bytes_are ∙ ap (option_map (token_bytes text)) is)

  -- has its text in parts, one after another
  token_spelled : (old spaced named closed new name shown : List ℕ)
      → spaced ≡ old ++ encode_utf8 32 → named ≡ spaced ++ name → closed ≡ named ++ encode_utf8 58
      → new ≡ closed ++ printed shown → name ≡ token_name kinds kind → shown ≡ bytes
      → new ≡ old ++ (32 ∷ token_text kinds text token)
  token_spelled old spaced named closed new name shown a b c d e f =
      let space : encode_utf8 32 ≡ 32 ∷ [] = encode_ascii 32 (omega arith) in
      let colon : encode_utf8 58 ≡ 58 ∷ [] = encode_ascii 58 (omega arith) in
      let front : spaced ≡ old ++ 32 ∷ [] = a ∙ ap (λ sign. old ++ sign) space in
      let middle : named ≡ (old ++ 32 ∷ []) ++ name = b ∙ ap (λ line. line ++ name) front in
      let back : closed ≡ ((old ++ 32 ∷ []) ++ name) ++ 58 ∷ [] =
      c ∙ ap (λ sign. named ++ sign) colon ∙ ap (λ line. line ++ 58 ∷ []) middle in
      d ∙ ap (λ line. line ++ printed shown) back
      ∙ append_assoc ((old ++ 32 ∷ []) ++ name) (58 ∷ []) (printed shown)
      ∙ append_assoc (old ++ 32 ∷ []) name (58 ∷ printed shown)
      ∙ append_assoc old (32 ∷ []) (name ++ (58 ∷ printed shown))
      ∙ ap (λ word. old ++ (32 ∷ (word ++ (58 ∷ printed shown)))) (e ∙ ap (token_name kinds) same_kind)
      ∙ ap (λ own. old ++ (32 ∷ (token_name kinds token.kind ++ (58 ∷ printed own)))) (f ∙ same_bytes)

  pub token_pushed : {X E : Type 0} → (r : Result X E) (old spaced named closed new name shown : List ℕ)
      → spaced ≡ old ++ encode_utf8 32 → named ≡ spaced ++ name → closed ≡ named ++ encode_utf8 58
      → OnOk r (new ≡ closed ++ printed shown) → name ≡ token_name kinds kind → shown ≡ bytes
      → OnOk r (new ≡ old ++ (32 ∷ token_text kinds text token))
  token_pushed (Ok x) old spaced named closed new name shown a b c d e f =
      token_spelled old spaced named closed new name shown a b c d e f
  token_pushed (Err error) old spaced named closed new name shown a b c d e f = tt

-- a range with one item more
range_more : {X : Type 0} (xs : List X) (first place : ℕ) (x : X) → first ≤ place → slice_get xs place ≡ Some x
    → place < length xs → slice_range xs first (place + 1) ≡ slice_range xs first place ++ x ∷ []
range_more xs first place x order is within =
    let size : place + 1 - first ≡ place - first + 1 = omega (arith, order) in
    let inside : place - first < length (drop first xs) = omega (arith, length-drop first xs, order, within) in
    let back : first + (place - first) ≡ place = omega (arith, order) in
    let item : get_or (drop first xs) (place - first) x ≡ x =
    get_or-drop first xs (place - first) x ∙ ap (λ k. get_or xs k x) back ∙ get_or_from_slice_get xs place x x is in
    ap (λ k. take k (drop first xs)) size
    ∙ take_more (drop first xs) (place - first) x inside
    ∙ ap (λ y. take (place - first) (drop first xs) ++ y ∷ []) item

-- how many items are in a range
length_range : {X : Type 0} (xs : List X) (first end : ℕ) → first ≤ end → end ≤ length xs
    → length (slice_range xs first end) ≡ end - first
length_range xs first end order within =
    omega (arith, length-take (end - first) (drop first xs), length-drop first xs, order, within)

module _ (kinds : List KindDef) (text : List ℕ) (tokens : List Token) where
  -- a line with one token more
  pub token_added : (start old new : List ℕ) (first place : ℕ) (token : Token) → first ≤ place
      → place < length tokens → slice_get tokens place ≡ Some token
      → old ≡ start ++ tokens_text kinds text (slice_range tokens first place)
      → new ≡ old ++ (32 ∷ token_text kinds text token)
      → new ≡ start ++ tokens_text kinds text (slice_range tokens first (place + 1))
  token_added start old new first place token order within is held added =
      let front : List Token = slice_range tokens first place in
      added ∙ ap (λ bytes. bytes ++ (32 ∷ token_text kinds text token)) held
      ∙ flat_map_more (λ (t : Token). 32 ∷ token_text kinds text t) start front token
      ∙ ap (λ (ts : List Token). start ++ tokens_text kinds text ts) (sym (range_more tokens first place token order is within))

  -- the whole line
  pub line_told : (first end : ℕ) → first ≤ end → end ≤ length tokens → (head body : List ℕ)
      → head ≡ codes "tokens " ++ decimal (end - first)
      → body ≡ head ++ tokens_text kinds text (slice_range tokens first end)
      → body ++ 10 ∷ [] ≡ tokens_line kinds text (slice_range tokens first end)
  line_told first end order within head body head_is body_is =
      let front : List Token = slice_range tokens first end in
      let counted : head ≡ codes "tokens " ++ decimal (length front) =
      head_is ∙ ap (λ n. codes "tokens " ++ decimal n) (sym (length_range tokens first end order within)) in
      ap (λ bytes. bytes ++ 10 ∷ []) (body_is ∙ ap (λ bytes. bytes ++ tokens_text kinds text front) counted)
