-- Where a UTF-8 text may be cut, and that it is of bytes.
use Rattle.std.proofs.Common.{inl, inr, ◌≡◌, ℕ, ◌+◌, ◌-◌, ◌/◌, ◌%◌, ◌<◌, ◌≤◌, List, [], ◌∷◌, ◌++◌, length, drop, min, true, slice_index, slice_range, refl, sym, ◌∙◌, ap, subst, arith, length-drop, length-append}
use Rattle.std.specs.Char.{IsScalar, encode_utf8}
use Rattle.std.specs.Str.{IsUtf8}
use lib.Utf8.{scalar, scalars, encodes}
use Rattle.std.proofs.lemmas.Bool.{cases_lt, and_parts}
use Rattle.std.proofs.lemmas.Bool.Decides.{nat_tests}
use Rattle.std.proofs.lemmas.List.{drop_more, drop-drop, drop_at}
use Rattle.std.proofs.lemmas.List.Elements.{All-from_recursion, All-append, All-nil}
use Rattle.std.proofs.lemmas.Str.{encode_ascii, IsUtf8-past_char, IsUtf8-between, IsCharBoundary-from_drop}
use Rattle.spec_text.specs.Scalars.{scalar_len}
use Rattle.spec_text.proofs.ScalarsLemmas.{encode_two, encode_three, encode_four, has_length}
use Rattle.spec_lexing.specs.Tokens.{scalar_end}
use Rattle.spec_automata.specs.States.{AreBytes}
use Rattle.spec_automata.proofs.ScalarLemmas.{scalar_below}

-- a scalar's bytes are bytes
scalar_bytes : (c : ℕ) → IsScalar c → AreBytes (encode_utf8 c)
scalar_bytes c is =
    let below : c < 0x11_0000 = scalar_below c is in
    elim (cases_lt c 0x80) [
      | inl small ↦ rw (encode_ascii c small) (All-from_recursion (λ b. b < 256) (c ∷ []) (omega arith, tt))
      | inr two ↦ elim (cases_lt c 0x800) [
        | inl small ↦ rw (encode_two c two small)
            (All-from_recursion (λ b. b < 256) ((192 + c / 64) ∷ (128 + c % 64) ∷ [])
            (omega (arith, small), (omega arith, tt)))
        | inr three ↦ elim (cases_lt c 0x1_0000) [
          | inl small ↦ rw (encode_three c three small)
              (All-from_recursion (λ b. b < 256)
              ((224 + c / 4096) ∷ (128 + (c / 64) % 64) ∷ (128 + c % 64) ∷ [])
              (omega (arith, small), (omega arith, (omega arith, tt))))
          | inr four ↦ rw (encode_four c four)
              (All-from_recursion (λ b. b < 256)
              ((240 + c / 262144) ∷ (128 + (c / 4096) % 64) ∷ (128 + (c / 64) % 64) ∷ (128 + c % 64) ∷ [])
              (omega (arith, below), (omega arith, (omega arith, (omega arith, tt)))))
        ]
      ]
    ]

scalars_bytes : (cs : List ℕ) → scalars cs ≡ true → AreBytes (encodes cs)
scalars_bytes [] all = All-nil (λ b. b < 256)
scalars_bytes (c ∷ cs) all =
    let both = and_parts (scalar c) (scalars cs) all in
    All-append (λ b. b < 256) (encode_utf8 c) (encodes cs) (scalar_bytes c both.0) (scalars_bytes cs both.1)

-- a UTF-8 text is of bytes
pub utf8_bytes : (bytes : List ℕ) → IsUtf8 bytes → AreBytes bytes
utf8_bytes bytes text = subst AreBytes (text.1).1 (scalars_bytes text.0 (text.1).0)

-- a text that is not empty begins with a scalar
first_scalar : (bytes : List ℕ) → IsUtf8 bytes → 0 < length bytes →
    (c : ℕ) × (rest : List ℕ) × IsScalar c × (bytes ≡ encode_utf8 c ++ rest)
first_scalar bytes text some = by_scalars text.0 (text.1).0 (text.1).1
  where
    by_scalars : (cs : List ℕ) → scalars cs ≡ true → encodes cs ≡ bytes →
        (c : ℕ) × (rest : List ℕ) × IsScalar c × (bytes ≡ encode_utf8 c ++ rest)
    by_scalars [] all is = absurd (omega (arith, some, ap length is))
    by_scalars (c ∷ cs) all is = (c, encodes cs, (and_parts (scalar c) (scalars cs) all).0, sym is)

-- the first byte of what stands first
first_byte : (front rest : List ℕ) → 0 < length front → slice_index (front ++ rest) 0 ≡ slice_index front 0
first_byte [] rest some = absurd (omega (arith, some))
first_byte (byte ∷ front) rest some = refl

-- a scalar has a byte
scalar_some : (byte : ℕ) → 0 < scalar_len byte
scalar_some byte = grind (arith, nat_tests)

-- where the text goes on as UTF-8, one scalar further it does too
pub behind_stray : (text : List ℕ) (start : ℕ) → start < length text → IsUtf8 (drop start text) →
    IsUtf8 (drop (scalar_end text start) text)
behind_stray text start within utf8 =
    let some : 0 < length (drop start text) = simp length-drop (omega arith) in
    let first = first_scalar (drop start text) utf8 some in
    let c : ℕ = first.0 in
    let rest : List ℕ = first.1 in
    let whole : drop start text ≡ encode_utf8 c ++ rest = first.3 in
    let size : length (encode_utf8 c) ≡ scalar_len (slice_index (encode_utf8 c) 0) = has_length c first.2 in
    let here : slice_index text start ≡ slice_index (drop start text) 0 =
    ap (λ (q : List ℕ). slice_index q 0) (sym (drop_more text start 0 within)) in
    let byte : slice_index text start ≡ slice_index (encode_utf8 c) 0 =
    here ∙ ap (λ (q : List ℕ). slice_index q 0) whole
    ∙ first_byte (encode_utf8 c) rest (some_bytes c first.2) in
    let all : length (drop start text) ≡ length (encode_utf8 c) + length rest =
    ap length whole ∙ length-append (encode_utf8 c) rest in
    let left : length (drop start text) ≡ length text - start = length-drop start text in
    let ends : scalar_end text start ≡ start + length (encode_utf8 c) =
    rw (ap scalar_len byte, sym size) (min_left (start + length (encode_utf8 c)) (length text) (omega (arith, all, left, within))) in
    let behind : drop (start + length (encode_utf8 c)) text ≡ rest =
    sym (drop-drop (length (encode_utf8 c)) start text) ∙ ap (drop (length (encode_utf8 c))) whole
    ∙ drop_at (encode_utf8 c) rest (length (encode_utf8 c)) refl in
    subst IsUtf8 (sym (ap (λ (n : ℕ). drop n text) ends ∙ behind))
    (IsUtf8-past_char (drop start text) rest c utf8 whole)
  where
    some_bytes : (c : ℕ) → IsScalar c → 0 < length (encode_utf8 c)
    some_bytes c is = omega (arith, has_length c is, scalar_some (slice_index (encode_utf8 c) 0))

    min_left : (m n : ℕ) → m ≤ n → min m n ≡ m
    min_left m n le = grind (arith, le)

-- between two places where the text goes on as UTF-8 lies UTF-8
pub utf8_between : (text : List ℕ) (start end : ℕ) → IsUtf8 text → start ≤ end → end ≤ length text →
    IsUtf8 (drop start text) → IsUtf8 (drop end text) → IsUtf8 (slice_range text start end)
utf8_between text start end utf8 before within first last =
    IsUtf8-between text start end utf8 before
    (IsCharBoundary-from_drop text start (omega (arith, before, within)) first)
    (IsCharBoundary-from_drop text end within last)

-- behind a front of the rest the text goes on as the rest does
pub drop_behind : (text : List ℕ) (start len : ℕ) → drop len (drop start text) ≡ drop (start + len) text
drop_behind text start len = drop-drop len start text
