-- What small expressions and the predefined kinds match, by hand.
use Rattle.std.specs.Prelude.{ℕ, List, [], ◌∷◌, map, codes}
use Prim.Native.String.{String}
use Rattle.spec_lexing.specs.declared.expression.Class.TheVariants.{Upper, Lower}
use Rattle.spec_lexing.specs.Expressions.{Expression, empty, class, scalar, any_of, word, in_turn}
use Rattle.spec_lexing.specs.Expressions.{nothing, either, minus, star, plus, optional}
use Rattle.spec_lexing.specs.Matching.{Matches}
use Rattle.spec_lexing.specs.Predefined.{digit, letter, char, character, any_char_of}
use Rattle.spec_lexing.specs.Predefined.{integer, double, ident, string, char_literal}

-- the bytes of these texts
abbrev pub texts : List String → List (List ℕ)
texts strings = map codes strings

-- a scalar of two bytes
abbrev pub two_bytes : List ℕ
two_bytes = 195 ∷ 169 ∷ []

-- a scalar of four bytes
abbrev pub four_bytes : List ℕ
four_bytes = 240 ∷ 159 ∷ 152 ∷ 128 ∷ []

-- the expression matches each of the texts
abbrev pub MatchesAll : Expression → List (List ℕ) → Type 0
MatchesAll expression [] = Unit {0}
MatchesAll expression (text ∷ others) = Matches expression text × MatchesAll expression others

-- the expression matches none of the texts
abbrev pub MatchesNone : Expression → List (List ℕ) → Type 0
MatchesNone expression [] = Unit {0}
MatchesNone expression (text ∷ others) =
    (Matches expression text → ⊥) × MatchesNone expression others

-- the expression matches each of the first texts and none of the second
pub record Chooses (expression : Expression) (those others : List (List ℕ)) : Type 0 where
  pub matches : MatchesAll expression those
  pub fails : MatchesNone expression others

-- what each form of expression matches
pub record MatchesByForms : Type 0 where
  pub empty_text : Chooses empty (texts ("" ∷ [])) (texts ("a" ∷ " " ∷ []))
  pub digits : Chooses digit (texts ("0" ∷ "9" ∷ [])) (texts ("" ∷ "a" ∷ "12" ∷ []))
  pub letters : Chooses letter (texts ("a" ∷ "Z" ∷ [])) (two_bytes ∷ texts ("1" ∷ "_" ∷ []))
  pub upper : Chooses (class Upper) (texts ("A" ∷ [])) (texts ("a" ∷ []))
  pub lower : Chooses (class Lower) (texts ("z" ∷ [])) (texts ("Z" ∷ []))
  -- any scalar is one in UTF-8, of as many bytes as it needs
  pub any_scalar : Chooses char (two_bytes ∷ four_bytes ∷ texts ("a" ∷ "\n" ∷ []))
      ((195 ∷ []) ∷ (192 ∷ 128 ∷ []) ∷ (237 ∷ 160 ∷ 128 ∷ []) ∷ texts ("" ∷ "ab" ∷ []))
  pub one_character : Chooses (character "a") (texts ("a" ∷ [])) (texts ("b" ∷ "aa" ∷ []))
  pub one_scalar : Chooses (scalar 233) (two_bytes ∷ []) ((195 ∷ []) ∷ (233 ∷ []) ∷ [])
  pub some_of : Chooses (any_char_of "abc") (texts ("a" ∷ "c" ∷ [])) (texts ("d" ∷ "ab" ∷ []))
  pub scalars_of : Chooses (any_of (195 ∷ 169 ∷ 97 ∷ [])) (two_bytes ∷ texts ("a" ∷ []))
      ((195 ∷ []) ∷ (169 ∷ []) ∷ (195 ∷ 169 ∷ 97 ∷ []) ∷ [])
  pub one_word : Chooses (word (codes "ab")) (texts ("ab" ∷ [])) (texts ("a" ∷ "abc" ∷ []))
  pub two_in_turn : Chooses (in_turn letter digit) (texts ("a1" ∷ [])) (texts ("1a" ∷ "a" ∷ []))
  pub one_of_none : Chooses nothing [] (texts ("" ∷ "a" ∷ []))
  pub one_of_two : Chooses (either letter digit) (texts ("a" ∷ "1" ∷ [])) (texts ("a1" ∷ []))
  -- a difference matches one scalar, whatever its left side matches
  pub all_but : Chooses (minus char (any_char_of "xy")) (two_bytes ∷ texts ("a" ∷ []))
      (texts ("x" ∷ "y" ∷ "ab" ∷ "" ∷ []))
  pub all_but_word : Chooses (minus (either letter (word (codes "ab"))) (character "x"))
      (texts ("a" ∷ [])) (texts ("ab" ∷ "x" ∷ []))
  pub none_or_more : Chooses (star letter) (texts ("" ∷ "a" ∷ "abc" ∷ [])) (texts ("1" ∷ "a1" ∷ []))
  -- parts of a repetition are not empty, so that one of the empty text ends
  pub none_again : Chooses (star (optional letter)) (texts ("" ∷ "ab" ∷ [])) (texts ("1" ∷ []))
  pub one_or_more : Chooses (plus letter) (texts ("a" ∷ "abc" ∷ [])) (texts ("" ∷ "a1" ∷ []))
  pub none_or_one : Chooses (optional letter) (texts ("" ∷ "a" ∷ [])) (texts ("ab" ∷ "1" ∷ []))

-- what the predefined kinds match
pub record MatchesPredefined : Type 0 where
  pub integers : Chooses integer (texts ("0" ∷ "42" ∷ "007" ∷ [])) (texts ("" ∷ "-1" ∷ "1a" ∷ []))
  pub doubles : Chooses double (texts ("0.5" ∷ "12.25" ∷ "1.0e-3" ∷ []))
      (texts (".5" ∷ "1." ∷ "1e3" ∷ []))
  pub idents : Chooses ident (texts ("x" ∷ "x1" ∷ "a_b'" ∷ [])) (texts ("" ∷ "1a" ∷ "_x" ∷ []))
  pub strings : Chooses string (texts ("\"\"" ∷ "\"a'\"" ∷ "\"\\n\\\"\"" ∷ []))
      (texts ("\"" ∷ "\"a" ∷ "\"\\x\"" ∷ []))
  pub chars : Chooses char_literal
      ((39 ∷ 195 ∷ 169 ∷ 39 ∷ []) ∷ texts ("'a'" ∷ "'\\''" ∷ []))
      (texts ("''" ∷ "'ab'" ∷ "'''" ∷ []))
