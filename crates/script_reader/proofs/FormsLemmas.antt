-- What the forms of a script's lines rest on: decimal numbers, and a line that is cut in two.
use Rattle.std.proofs.Common.{◌≡◌, ℕ, ◌^◌, ◌<◌, ◌≤◌, List, ◌++◌, length}
use Rattle.std.proofs.Common.{true, Result, Ok, Err, OkIff, decimal, IsUtf8, sym}
use Rattle.std.proofs.Common.{◌∙◌, ap, subst, arith}
use Rattle.std.specs.Str.{all_ascii_digits}
use Rattle.std.specs.Str.Parse.{digits_value, ParsesUnsigned}
use Rattle.spec_script.proofs.ScriptLemmas.{same_rest}
use Rattle.std.proofs.lemmas.Str.{IsUtf8-from_ascii}
use Rattle.std.proofs.lemmas.Str.Parse.{IsNumeralModel, numerals_by_value, tells_all_ascii_digits, parse_digits}
use Rattle.std.proofs.lemmas.Fmt.{digits_decimal, digits_value-decimal}
use Rattle.std.proofs.lemmas.Fmt.{decimal_nonempty, decimal_injective}
use Rattle.std.proofs.lemmas.Fmt.{IsAscii-from_digits}

model : IsNumeralModel (λ word. all_ascii_digits word ≡ true) (digits_value 10)
model = numerals_by_value (λ word. all_ascii_digits word ≡ true) tells_all_ascii_digits

pub digits_of_decimal : (n : ℕ) → n < 10 ^ 9 → all_ascii_digits (decimal n) ≡ true
digits_of_decimal n h = digits_decimal model n (omega arith)

pub value_of_decimal : (n : ℕ) → n < 10 ^ 9 → digits_value 10 (decimal n) ≡ n
value_of_decimal n h = digits_value-decimal model n (omega arith)

-- a word that spells a number of nine digits
module _ (word : List ℕ) (n : ℕ) (small : n < 10 ^ 9) (spelled : word ≡ decimal n) where
  digits : all_ascii_digits word ≡ true
  digits = rw spelled (digits_of_decimal n small)

  -- is UTF-8
  pub spelled_utf8 : IsUtf8 word
  spelled_utf8 = IsUtf8-from_ascii word (IsAscii-from_digits word (model.to word digits))

  module _ (text : List ℕ) (same : text ≡ word) where
    parsed : (r : Result ℕ ℕ) → ParsesUnsigned {E = ℕ} 32 10 text r
        → OkIff r ((0 < length word) × (digits_value 10 word < 2 ^ 32)) (digits_value 10 word)
    parsed r p =
        let P : List ℕ → Type 0 = λ bytes. ParsesUnsigned {E = ℕ} 32 10 bytes r in
        parse_digits model 32 word r (subst P same p) digits

    value_is : digits_value 10 word ≡ n
    value_is = ap (digits_value 10) spelled ∙ value_of_decimal n small

    -- is parsed as this number
    pub parsed_is : (v : ℕ) → ParsesUnsigned {E = ℕ} 32 10 text (Ok v) → v ≡ n
    parsed_is v p = (parsed (Ok v) p).1 ∙ value_is

    -- and not as none
    pub not_unparsed : ParsesUnsigned {E = ℕ} 32 10 text (Err 0) → ⊥
    not_unparsed p =
        let some : 0 < length word = rw spelled (decimal_nonempty n (omega arith)) in
        let small_value : digits_value 10 word < 2 ^ 32 = omega (arith, value_is) in
        parsed (Err 0) p (some, small_value)

-- a number behind the beginning that is too large, or none, leaves no count
pub count_above : (line beginning rest : List ℕ) (most count : ℕ) → line ≡ beginning ++ rest
    → count < 10 ^ 9 → rest ≡ decimal count → most < count → (n : ℕ) → n < 10 ^ 9 → n ≤ most
    → line ≡ beginning ++ decimal n → ⊥
count_above line beginning rest most count e small spelled above n less within other =
    let same : count ≡ n = decimal_injective count n (omega arith) (omega arith)
    (sym spelled ∙ same_rest beginning rest (decimal n) (sym e ∙ other)) in
    omega arith

pub count_none : (line beginning rest : List ℕ) (most : ℕ) → line ≡ beginning ++ rest
    → ((n : ℕ) → n < 10 ^ 9 → rest ≡ decimal n → ⊥) → (n : ℕ) → n < 10 ^ 9 → n ≤ most
    → line ≡ beginning ++ decimal n → ⊥
count_none line beginning rest most e other n less within spelled =
    other n less (same_rest beginning rest (decimal n) (sym e ∙ spelled))
