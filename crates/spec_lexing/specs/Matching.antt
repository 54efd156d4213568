-- What a token expression matches, by cases on it.
use Rattle.std.specs.Prelude.{◌≡◌, ◌≢◌, ℕ, ◌⊎◌, List, [], ◌++◌, Bool, true, Contains}
use Rattle.std.specs.Char.{IsScalar, encode_utf8}
use Rattle.std.specs.Str.{chars}
use Rattle.spec_text.specs.Bytes.{is_upper, is_lower, is_letter, is_digit}
use Rattle.spec_lexing.specs.declared.expression.Class.{Class}
use Rattle.spec_lexing.specs.declared.expression.Class.TheVariants.{Digit, Letter, Upper, Lower}
use Rattle.spec_lexing.specs.declared.expression.Class.TheVariants.{AnyChar}
use Rattle.spec_lexing.specs.Expressions.{Expression, empty, class, scalar, any_of, word, in_turn}
use Rattle.spec_lexing.specs.Expressions.{nothing, either, minus, star, plus, optional}

-- the scalar is of the class
abbrev pub is_of_class : Class → ℕ → Bool
is_of_class Digit c = is_digit c
is_of_class Letter c = is_letter c
is_of_class Upper c = is_upper c
is_of_class Lower c = is_lower c
is_of_class AnyChar c = true

-- the bytes are one scalar, and it is such a one
abbrev pub IsScalarThat : (ℕ → Type 0) → List ℕ → Type 0
IsScalarThat Is bytes = (c : ℕ) × IsScalar c × (bytes ≡ encode_utf8 c) × Is c

-- the bytes are one scalar
abbrev pub IsOneScalar : List ℕ → Type 0
IsOneScalar bytes = (c : ℕ) × IsScalar c × (bytes ≡ encode_utf8 c)

-- the bytes are a front with the one property and a rest with the other
abbrev pub Then : (List ℕ → Type 0) → (List ℕ → Type 0) → List ℕ → Type 0
Then Front Rest bytes =
    (front : List ℕ) × (rest : List ℕ) × (bytes ≡ front ++ rest) × Front front × Rest rest

-- the bytes are empty, or such a part that is not empty and then none or more of the same
pub data Repeats (Part : List ℕ → Type 0) : List ℕ → Type 0 where
  none : (bytes : List ℕ) → bytes ≡ [] → Repeats Part bytes
  more : (bytes front rest : List ℕ) → bytes ≡ front ++ rest → front ≢ [] → Part front →
      Repeats Part rest → Repeats Part bytes

-- the expression matches the bytes
abbrev pub Matches : Expression → List ℕ → Type 0
Matches empty bytes = bytes ≡ []
Matches (class k) bytes = IsScalarThat (λ c. is_of_class k c ≡ true) bytes
Matches (scalar c) bytes = bytes ≡ encode_utf8 c
Matches (any_of name) bytes = IsScalarThat (Contains (chars name)) bytes
Matches (word name) bytes = bytes ≡ name
Matches (in_turn first second) bytes = Then (Matches first) (Matches second) bytes
Matches nothing bytes = ⊥
Matches (either left right) bytes = Matches left bytes ⊎ Matches right bytes
Matches (minus left right) bytes =
    IsOneScalar bytes × Matches left bytes × (Matches right bytes → ⊥)
Matches (star part) bytes = Repeats (Matches part) bytes
Matches (plus part) bytes = Then (Matches part) (Repeats (Matches part)) bytes
Matches (optional part) bytes = (bytes ≡ []) ⊎ Matches part bytes
