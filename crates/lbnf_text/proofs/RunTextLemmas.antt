-- Runs of ASCII bytes at the front of a text: where they end the text may be cut, and digits are
-- parsed.
use Rattle.std.proofs.Common.{◌≡◌, ℕ, zero, suc, ◌<◌, ◌≤◌, List, [], ◌∷◌, length, get_or, take, Bool, true, leb, Result, Ok, refl, arith, add-one, one-add, IsUtf8}
use Rattle.std.specs.List.{prefix_len, AllByRecursion}
use Rattle.std.specs.Str.{IsCharBoundary}
use Rattle.std.specs.Str.Parse.{digits_value, ParsesUnsigned}
use Rattle.std.proofs.lemmas.Bool.{and_parts, and_from, leb-true, le-leb}
use Rattle.std.proofs.lemmas.Bool.Decides.{nat_tests}
use Rattle.std.proofs.lemmas.List.Sums.{prefix_len-le-length, prefix_len_passes}
use Rattle.std.proofs.lemmas.Str.{IsCharBoundary-start, IsCharBoundary-after_ascii}
use Rattle.std.proofs.lemmas.Str.Parse.{IsDigitsTest, IsNumeralModel, numerals_by_value, digits_value_short, parse_gives}
use Rattle.spec_text.specs.Bytes.{is_name_byte}
use Rattle.spec_lbnf.specs.FileTokens.{FirstIs}
use Rattle.spec_text.specs.Bytes.{is_digit}
use Rattle.lbnf_readers.proofs.RunLemmas.{run_passes}

-- a text may be cut behind a run of ASCII bytes
run_boundary : (passes : ℕ → Bool) (text : List ℕ) → ((byte : ℕ) → passes byte ≡ true → byte < 128) → IsUtf8 text
    → IsCharBoundary text (prefix_len passes text)
run_boundary passes text low utf8 = by (prefix_len passes text) refl
  where
    by : (n : ℕ) → prefix_len passes text ≡ n → IsCharBoundary text n
    by zero e = IsCharBoundary-start text utf8
    by (suc n) e =
        let within : n < length text = omega (arith, prefix_len-le-length passes text) in
        let here = prefix_len_passes passes text n 0 (omega arith) in
        rw add-one at (IsCharBoundary-after_ascii text n utf8 within (low (get_or text n 0) here))

-- a byte of an identifier is ASCII, and so is a digit
name_byte_low : (byte : ℕ) → is_name_byte byte ≡ true → byte < 128
name_byte_low byte h = grind (arith, nat_tests)

digit_low : (byte : ℕ) → is_digit byte ≡ true → byte < 128
digit_low byte h = grind (arith, nat_tests)

-- a text may be cut behind an identifier
pub name_boundary : (text : List ℕ) → IsUtf8 text → IsCharBoundary text (prefix_len is_name_byte text)
name_boundary text utf8 = run_boundary is_name_byte text name_byte_low utf8

-- a text may be cut behind a number
pub digit_boundary : (text : List ℕ) → IsUtf8 text → IsCharBoundary text (prefix_len is_digit text)
digit_boundary text utf8 = run_boundary is_digit text digit_low utf8

-- the bytes are digits
abbrev AreDigits : List ℕ → Type 0
AreDigits bytes = AllByRecursion (λ b. is_digit b ≡ true) bytes

-- digits are those of std
digits_are : IsDigitsTest AreDigits
digits_are = record {
  empty = tt;
  parts = λ c cs all. let both = and_parts (leb 48 c) (leb c 57) all.0 in ((leb-true 48 c both.0, leb-true c 57 both.1), all.1);
  more = λ c cs range all. (and_from (leb 48 c) (leb c 57) (le-leb 48 c range.0) (le-leb c 57 range.1), all);
}

numerals : IsNumeralModel AreDigits (digits_value 10)
numerals = numerals_by_value AreDigits digits_are

-- digits, one to four, are parsed
pub digits_parse : {E : Type 0} (text : List ℕ) (result : Result ℕ E) → FirstIs is_digit text
    → length (take (prefix_len is_digit text) text) ≤ 4
    → ParsesUnsigned 16 10 (take (prefix_len is_digit text) text) result
    → result ≡ Ok (digits_value 10 (take (prefix_len is_digit text) text))
digits_parse [] result begins few parsed = elim begins [ ]
digits_parse (byte ∷ text) result begins few parsed =
    let digits : List ℕ = take (prefix_len is_digit (byte ∷ text)) (byte ∷ text) in
    let all : AreDigits digits = run_passes is_digit (byte ∷ text) in
    let small = digits_value_short numerals digits 4 all few in
    parse_gives numerals 16 digits result parsed all (some_digit byte text begins) (omega (arith, small))
  where
    some_digit : (byte : ℕ) (text : List ℕ) → is_digit byte ≡ true → 0 < length (take (prefix_len is_digit (byte ∷ text)) (byte ∷ text))
    some_digit byte text h = rw (h, one-add) (omega arith)
