-- Sets of bytes without some ASCII characters, and what ASCII classes match.
use Rattle.std.proofs.Common.{◌≡◌, ℕ, ◌<◌, ◌↔◌, List, [], ◌∷◌, ◌++◌, Bool, true, false, ◌&&◌, not, refl, sym, ◌∙◌, ap, inl, inr, arith, subst}
use Rattle.std.specs.Str.{chars}
use Rattle.std.proofs.lemmas.Bool.{both_ways, and_parts, and_from, and_left, or_cases, or_left, or_right, not-true, not_from_false, eqb-true, eq-eqb, lt-leb, cases_Bool}
use Rattle.std.proofs.lemmas.Bool.Decides.{Decides-eqb, nat_tests}
use Rattle.std.proofs.lemmas.List.Elements.{All-contains}
use Rattle.std.proofs.lemmas.Map.Made.{is_member-Decides}
use Rattle.std.proofs.lemmas.Str.{encode_ascii}
use Rattle.spec_lexing.specs.declared.expression.Class.{Class}
use Rattle.spec_lexing.specs.declared.expression.Class.TheVariants.{Digit, Letter, Upper, Lower, AnyChar}
use Rattle.spec_lexing.specs.Classes.{IsAsciiClass, IsClass, IsSound}
use Rattle.spec_lexing.specs.Expressions.{Expression, class, scalar, any_of, word, minus, optional}
use Rattle.spec_lexing.specs.Matching.{Repeats, none, more, IsOneScalar, Matches, is_of_class}
use Rattle.spec_automata.specs.ByteExpressions.{ByteExpression, empty, nothing, byte_in, in_turn, either, star, plus, until, MatchesBytes}
use Rattle.spec_automata.specs.Encoding.{is_ascii, without, has_character}
use Rattle.spec_automata.proofs.ByteSetLemmas.{in_filter}
use Rattle.spec_automata.proofs.ScalarLemmas.{ascii_is_scalar, AllWide}

-- the byte is none of the ASCII characters that pass
abbrev pub IsKept : (ℕ → Bool) → ℕ → Type 0
IsKept test byte = (is_ascii byte && test byte) ≡ false

-- each byte is kept
abbrev pub AreKept : (ℕ → Bool) → List ℕ → Type 0
AreKept test [] = Unit {0}
AreKept test (byte ∷ bytes) = IsKept test byte × AreKept test bytes

kept_both : (test : ℕ → Bool) (u v : List ℕ) → AreKept test u → AreKept test v → AreKept test (u ++ v)
kept_both test [] v k l = l
kept_both test (byte ∷ u) v k l = (k.0, kept_both test u v k.1 l)

kept_front : (test : ℕ → Bool) (u v : List ℕ) → AreKept test (u ++ v) → AreKept test u
kept_front test [] v k = tt
kept_front test (byte ∷ u) v k = (k.0, kept_front test u v k.1)

kept_rest : (test : ℕ → Bool) (u v : List ℕ) → AreKept test (u ++ v) → AreKept test v
kept_rest test [] v k = k
kept_rest test (byte ∷ u) v k = kept_rest test u v k.1

kept_same : (test : ℕ → Bool) (bytes others : List ℕ) → bytes ≡ others → AreKept test others → AreKept test bytes
kept_same test bytes others e k = subst (AreKept test) (sym e) k

-- the bytes of a scalar that is not ASCII are kept
pub wide_kept : (test : ℕ → Bool) (bytes : List ℕ) → AllWide bytes → AreKept test bytes
wide_kept test [] wide = tt
wide_kept test (byte ∷ bytes) wide =
    (and_left (is_ascii byte) (test byte) (lt-leb byte 127 (omega (arith, wide.0))), wide_kept test bytes wide.1)

-- there is no closing text in the expression
abbrev pub IsPlain : ByteExpression → Type 0
IsPlain empty = Unit {0}
IsPlain nothing = Unit {0}
IsPlain (byte_in set) = Unit {0}
IsPlain (in_turn x y) = IsPlain x × IsPlain y
IsPlain (either x y) = IsPlain x × IsPlain y
IsPlain (star x) = IsPlain x
IsPlain (plus x) = IsPlain x
IsPlain (until closing) = ⊥

module _ (test : ℕ → Bool) where
  -- the expression without some characters matches what it matches and has none of them
  abbrev Narrows : (List ℕ → Type 0) → (List ℕ → Type 0) → Type 0
  Narrows Less Part = (bytes : List ℕ) → Less bytes ↔ (Part bytes × AreKept test bytes)

  repeats_to : (Less Part : List ℕ → Type 0) → Narrows Less Part → (bytes : List ℕ) → Repeats Less bytes →
      Repeats Part bytes × AreKept test bytes
  repeats_to Less Part narrows bytes (none _ e) = (none bytes e, kept_same test bytes [] e tt)
  repeats_to Less Part narrows bytes (more _ front rest e some m r) =
      let here = (narrows front).0 m in
      let others = repeats_to Less Part narrows rest r in (
        more bytes front rest e some here.0 others.0,
        kept_same test bytes (front ++ rest) e (kept_both test front rest here.1 others.1),
      )

  repeats_from : (Less Part : List ℕ → Type 0) → Narrows Less Part → (bytes : List ℕ) → Repeats Part bytes →
      AreKept test bytes → Repeats Less bytes
  repeats_from Less Part narrows bytes (none _ e) kept = none bytes e
  repeats_from Less Part narrows bytes (more _ front rest e some m r) kept =
      let all : AreKept test (front ++ rest) = subst (AreKept test) e kept in
      more bytes front rest e some ((narrows front).1 (m, kept_front test front rest all))
      (repeats_from Less Part narrows rest r (kept_rest test front rest all))

  -- an expression without some characters matches what it matches and has none of them
  pub without_narrows : (x : ByteExpression) → IsPlain x → (bytes : List ℕ) →
      MatchesBytes (without test x) bytes ↔ (MatchesBytes x bytes × AreKept test bytes)
  without_narrows empty plain bytes = (λ m. (m, kept_same test bytes [] m tt), λ m. m.0)
  without_narrows nothing plain bytes = (λ m. absurd m, λ m. absurd m.0)
  without_narrows (byte_in set) plain bytes = (
    λ m.
        let h = (in_filter (λ b. not (is_ascii b && test b)) set m.0).0 m.2 in
        ((m.0, m.1, h.0), kept_same test bytes (m.0 ∷ []) m.1 (not-true (is_ascii m.0 && test m.0) h.1, tt)),
    λ m.
        let one = m.0 in
        let kept : AreKept test (one.0 ∷ []) = subst (AreKept test) one.1 m.1 in (
          one.0,
          one.1,
          (in_filter (λ b. not (is_ascii b && test b)) set one.0).1
              (one.2, not_from_false (is_ascii one.0 && test one.0) kept.0),
        ),
  )
  without_narrows (in_turn x y) plain bytes = (
    λ m.
        let here = (without_narrows x plain.0 m.0).0 m.3 in
        let behind = (without_narrows y plain.1 m.1).0 m.4 in
        ((m.0, m.1, m.2, here.0, behind.0), kept_same test bytes (m.0 ++ m.1) m.2 (kept_both test m.0 m.1 here.1 behind.1)),
    λ h.
        let m = h.0 in
        let all : AreKept test (m.0 ++ m.1) = subst (AreKept test) m.2 h.1 in (
          m.0,
          m.1,
          m.2,
          (without_narrows x plain.0 m.0).1 (m.3, kept_front test m.0 m.1 all),
          (without_narrows y plain.1 m.1).1 (m.4, kept_rest test m.0 m.1 all),
        ),
  )
  without_narrows (either x y) plain bytes = (
    λ m. elim m [
      | inl l ↦ let h = (without_narrows x plain.0 bytes).0 l in (inl h.0, h.1)
      | inr r ↦ let h = (without_narrows y plain.1 bytes).0 r in (inr h.0, h.1)
    ],
    λ h. elim h.0 [
      | inl l ↦ inl ((without_narrows x plain.0 bytes).1 (l, h.1))
      | inr r ↦ inr ((without_narrows y plain.1 bytes).1 (r, h.1))
    ],
  )
  without_narrows (star x) plain bytes = (
    repeats_to (MatchesBytes (without test x)) (MatchesBytes x) (λ part. without_narrows x plain part) bytes,
    λ h.
        repeats_from (MatchesBytes (without test x)) (MatchesBytes x) (λ part. without_narrows x plain part) bytes h.0 h.1,
  )
  without_narrows (plus x) plain bytes = (
    λ m.
        let here = (without_narrows x plain m.0).0 m.3 in
        let behind = repeats_to (MatchesBytes (without test x)) (MatchesBytes x) (λ part. without_narrows x plain part) m.1 m.4 in
        ((m.0, m.1, m.2, here.0, behind.0), kept_same test bytes (m.0 ++ m.1) m.2 (kept_both test m.0 m.1 here.1 behind.1)),
    λ h.
        let m = h.0 in
        let all : AreKept test (m.0 ++ m.1) = subst (AreKept test) m.2 h.1 in (
          m.0,
          m.1,
          m.2,
          (without_narrows x plain m.0).1 (m.3, kept_front test m.0 m.1 all),
          repeats_from (MatchesBytes (without test x)) (MatchesBytes x) (λ part. without_narrows x plain part) m.1 m.4
              (kept_rest test m.0 m.1 all),
        ),
  )
  without_narrows (until closing) plain bytes = absurd plain

-- what a class matches is one scalar
pub class_is_scalar : (x : Expression) → IsClass x → IsSound x → (bytes : List ℕ) → Matches x bytes → IsOneScalar bytes
class_is_scalar Expression.empty class_x sound bytes m = absurd class_x
class_is_scalar (class k) class_x sound bytes m = (m.0, m.1, m.2)
class_is_scalar (scalar c) class_x sound bytes m = (c, sound, m)
class_is_scalar (any_of name) class_x sound bytes m = (m.0, m.1, m.2)
class_is_scalar (word name) class_x sound bytes m = absurd class_x
class_is_scalar (Expression.in_turn x y) class_x sound bytes m = absurd class_x
class_is_scalar Expression.nothing class_x sound bytes m = absurd m
class_is_scalar (Expression.either x y) class_x sound bytes (inl m) = class_is_scalar x class_x.0 sound.0 bytes m
class_is_scalar (Expression.either x y) class_x sound bytes (inr m) = class_is_scalar y class_x.1 sound.1 bytes m
class_is_scalar (minus x y) class_x sound bytes m = m.0
class_is_scalar (Expression.star x) class_x sound bytes m = absurd class_x
class_is_scalar (Expression.plus x) class_x sound bytes m = absurd class_x
class_is_scalar (optional x) class_x sound bytes m = absurd class_x

-- digits and letters are ASCII
pub digit_is_ascii : (c : ℕ) → is_of_class Digit c ≡ true → c < 128
digit_is_ascii c t = grind (arith, nat_tests)

pub letter_is_ascii : (c : ℕ) → is_of_class Letter c ≡ true → c < 128
letter_is_ascii c t = grind (arith, nat_tests)

pub upper_is_ascii : (c : ℕ) → is_of_class Upper c ≡ true → c < 128
upper_is_ascii c t = grind (arith, nat_tests)

pub lower_is_ascii : (c : ℕ) → is_of_class Lower c ≡ true → c < 128
lower_is_ascii c t = grind (arith, nat_tests)

-- the bytes are one ASCII character, and it is such a one
abbrev IsCharacterThat : (ℕ → Bool) → List ℕ → Type 0
IsCharacterThat test bytes = (c : ℕ) × (c < 128) × (bytes ≡ c ∷ []) × (test c ≡ true)

-- a class of ASCII characters, as what passes
ascii_class : (k : Class) → ((c : ℕ) → is_of_class k c ≡ true → c < 128) → (bytes : List ℕ) →
    Matches (class k) bytes ↔ IsCharacterThat (is_of_class k) bytes
ascii_class k small bytes = (
  λ m. let lt = small m.0 m.3 in (m.0, lt, m.2 ∙ encode_ascii m.0 lt, m.3),
  λ h. (h.0, ascii_is_scalar h.0 h.1, h.2 ∙ sym (encode_ascii h.0 h.1), h.3),
)

same_byte : (b c : ℕ) → b ∷ [] ≡ c ∷ [] → b ≡ c
same_byte b c e = cc

-- a difference of two classes of ASCII characters
ascii_minus : (x y : Expression) (bytes : List ℕ) →
    (Matches x bytes ↔ IsCharacterThat (has_character x) bytes) →
    (Matches y bytes ↔ IsCharacterThat (has_character y) bytes) →
    Matches (minus x y) bytes ↔ IsCharacterThat (has_character (minus x y)) bytes
ascii_minus x y bytes is_x is_y = (
  λ m.
      let h = is_x.0 m.1 in (
        h.0,
        h.1,
        h.2,
        and_from (has_character x h.0) (not (has_character y h.0)) h.3
            (not_from_false (has_character y h.0) (is_none h.0 h.1 h.2 m.2)),
      ),
  λ h.
      let both = and_parts (has_character x h.0) (not (has_character y h.0)) h.3 in (
        (h.0, ascii_is_scalar h.0 h.1, h.2 ∙ sym (encode_ascii h.0 h.1)),
        is_x.1 (h.0, h.1, h.2, both.0),
        λ m.
            let k = is_y.0 m in
            let same : k.0 ≡ h.0 = same_byte k.0 h.0 (sym k.2 ∙ h.2) in
            both_ways (has_character y h.0) (not-true (has_character y h.0) both.1)
            (subst (λ (z : ℕ). has_character y z ≡ true) same k.3),
      ),
)
  where
    is_none : (c : ℕ) → c < 128 → bytes ≡ c ∷ [] → (Matches y bytes → ⊥) → has_character y c ≡ false
    is_none c lt e never = elim (cases_Bool (has_character y c)) [
      | inl t ↦ absurd (never (is_y.1 (c, lt, e, t)))
      | inr f ↦ f
    ]

-- a sound ASCII class matches the characters that pass: what it takes away is ASCII as well
pub ascii_matches : (x : Expression) → IsSound x → IsAsciiClass x → (bytes : List ℕ) →
    Matches x bytes ↔ IsCharacterThat (has_character x) bytes
ascii_matches Expression.empty sound ascii bytes = absurd ascii
ascii_matches (class AnyChar) sound ascii bytes = absurd ascii
ascii_matches (class Digit) sound ascii bytes = ascii_class Digit digit_is_ascii bytes
ascii_matches (class Letter) sound ascii bytes = ascii_class Letter letter_is_ascii bytes
ascii_matches (class Upper) sound ascii bytes = ascii_class Upper upper_is_ascii bytes
ascii_matches (class Lower) sound ascii bytes = ascii_class Lower lower_is_ascii bytes
ascii_matches (scalar d) sound ascii bytes = (
  λ m. (d, ascii, m ∙ encode_ascii d ascii, eq-eqb d d refl),
  λ h. h.2 ∙ ap (λ (z : ℕ). z ∷ []) (sym (eqb-true d h.0 h.3)) ∙ sym (encode_ascii d ascii),
)
ascii_matches (any_of name) sound ascii bytes = (
  λ m.
      let lt = All-contains (λ c. c < 128) (chars name) m.0 ascii m.3 in
      (m.0, lt, m.2 ∙ encode_ascii m.0 lt, (is_member-Decides Decides-eqb (chars name) m.0).1 m.3),
  λ h. (
    h.0,
    ascii_is_scalar h.0 h.1,
    h.2 ∙ sym (encode_ascii h.0 h.1),
    (is_member-Decides Decides-eqb (chars name) h.0).0 h.3,
  ),
)
ascii_matches (word name) sound ascii bytes = absurd ascii
ascii_matches (Expression.in_turn x y) sound ascii bytes = absurd ascii
ascii_matches Expression.nothing sound ascii bytes = (λ m. absurd m, λ h. absurd (both_ways false refl h.3))
ascii_matches (Expression.either x y) sound ascii bytes = (
  λ m. elim m [
    | inl l ↦ let h = (ascii_matches x sound.0 ascii.0 bytes).0 l in
        (h.0, h.1, h.2, or_left (has_character x h.0) (has_character y h.0) h.3)
    | inr r ↦ let h = (ascii_matches y sound.1 ascii.1 bytes).0 r in
        (h.0, h.1, h.2, or_right (has_character x h.0) (has_character y h.0) h.3)
  ],
  λ h. elim (or_cases (has_character x h.0) (has_character y h.0) h.3) [
    | inl t ↦ inl ((ascii_matches x sound.0 ascii.0 bytes).1 (h.0, h.1, h.2, t))
    | inr t ↦ inr ((ascii_matches y sound.1 ascii.1 bytes).1 (h.0, h.1, h.2, t))
  ],
)
ascii_matches (minus x y) sound ascii bytes =
    ascii_minus x y bytes (ascii_matches x sound.1 ascii bytes) (ascii_matches y sound.2 sound.0.1 bytes)
ascii_matches (Expression.star x) sound ascii bytes = absurd ascii
ascii_matches (Expression.plus x) sound ascii bytes = absurd ascii
ascii_matches (optional x) sound ascii bytes = absurd ascii
