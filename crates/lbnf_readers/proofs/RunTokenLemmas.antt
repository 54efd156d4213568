-- Identifiers and numbers: a run of bytes that stands before a rest is read, and what is read stands
-- there.
use Rattle.std.proofs.Common.{◌≡◌, ℕ, ◌<◌, List, ◌∷◌, length, take, drop, true, leb, Some, refl, sym, subst, arith, length-take, one-add}
use Rattle.std.specs.List.{prefix_len}
use Rattle.std.specs.Str.Parse.{digits_value}
use Rattle.std.proofs.lemmas.Bool.{leb-true, le-leb}
use Rattle.std.proofs.lemmas.Bool.Decides.{nat_tests}
use Rattle.std.proofs.lemmas.Option.{cond_some}
use Rattle.std.proofs.lemmas.List.Elements.{All-from_recursion, recursion_from_All}
use Rattle.spec_lbnf.specs.declared.token.FileToken.{FileToken}
use Rattle.spec_lbnf.specs.declared.token.FileToken.TheVariants.{Identifier, Number}
use Rattle.spec_text.specs.Bytes.{is_name_byte}
use Rattle.spec_lbnf.specs.FileTokens.{FirstIs, IsIdentifier, IsNumber}
use Rattle.spec_text.specs.Bytes.{is_letter, is_digit}
use Rattle.lbnf_readers.specs.Scanning.{identifier_at, number_token_at, IsTokenAt}
use Rattle.lbnf_readers.proofs.RunLemmas.{run_len, run_take, run_drop, run_passes, run_stops, run_whole}

-- an identifier is read
pub identifier_again : (name bytes rest : List ℕ) → IsTokenAt (Identifier name) bytes rest
    → identifier_at bytes ≡ Some (Identifier name, rest)
unfolding identifier_at
identifier_again name bytes rest (written, e, (is, stops, same)) =
    let each = recursion_from_All (λ b. is_name_byte b ≡ true) written is.each in
    rw (
      e,
      run_take is_name_byte written rest each stops,
      run_drop is_name_byte written rest each stops,
      run_len is_name_byte written rest each stops,
      le-leb (length written) 64 is.short,
      same,
    ) refl

-- a letter may stand in an identifier
letter_is_name_byte : (byte : ℕ) → is_letter byte ≡ true → is_name_byte byte ≡ true
letter_is_name_byte byte h = grind (arith, nat_tests)

-- the identifier at the front of bytes that begin with a letter begins with it
begins_run : (byte : ℕ) (bytes : List ℕ) → is_letter byte ≡ true
    → FirstIs is_letter (take (prefix_len is_name_byte (byte ∷ bytes)) (byte ∷ bytes))
begins_run byte bytes h = rw (letter_is_name_byte byte h, one-add) h

-- what is read of an identifier is one
pub identifier_read : (byte : ℕ) (bytes : List ℕ) (token : FileToken) (rest : List ℕ) → is_letter byte ≡ true
    → identifier_at (byte ∷ bytes) ≡ Some (token, rest) → IsTokenAt token (byte ∷ bytes) rest
unfolding identifier_at
identifier_read byte bytes token rest letter e =
    let here : List ℕ = byte ∷ bytes in
    let n : ℕ = prefix_len is_name_byte here in
    let split = cond_some (leb n 64) (Identifier (take n here), drop n here) (token, rest) e in
    let is : IsIdentifier (take n here) = record {
      letter = begins_run byte bytes letter;
      each = All-from_recursion (λ b. is_name_byte b ≡ true) _ (run_passes is_name_byte here);
      short = omega (arith, length-take n here, leb-true n 64 split.0);
    } in
    subst (λ r. IsTokenAt r.0 here r.1) split.1 (take n here, sym (run_whole is_name_byte here), (is, run_stops is_name_byte here, refl))

-- a number is read
pub number_again : (value : ℕ) (bytes rest : List ℕ) → IsTokenAt (Number value) bytes rest
    → number_token_at bytes ≡ Some (Number value, rest)
unfolding number_token_at
number_again value bytes rest (digits, e, (is, stops, means)) =
    let each = recursion_from_All (λ b. is_digit b ≡ true) digits is.each in
    rw (
      e,
      run_take is_digit digits rest each stops,
      run_drop is_digit digits rest each stops,
      run_len is_digit digits rest each stops,
      le-leb (length digits) 4 is.short,
      means,
    ) refl

-- the number at the front of bytes that begin with a digit has a digit
some_run : (byte : ℕ) (bytes : List ℕ) → is_digit byte ≡ true
    → 0 < length (take (prefix_len is_digit (byte ∷ bytes)) (byte ∷ bytes))
some_run byte bytes h = rw (h, one-add) (omega arith)

-- what is read of a number is one
pub number_read : (byte : ℕ) (bytes : List ℕ) (token : FileToken) (rest : List ℕ) → is_digit byte ≡ true
    → number_token_at (byte ∷ bytes) ≡ Some (token, rest) → IsTokenAt token (byte ∷ bytes) rest
unfolding number_token_at
number_read byte bytes token rest digit e =
    let here : List ℕ = byte ∷ bytes in
    let n : ℕ = prefix_len is_digit here in
    let split = cond_some (leb n 4) (Number (digits_value 10 (take n here)), drop n here) (token, rest) e in
    let is : IsNumber (take n here) = record {
      some = some_run byte bytes digit;
      each = All-from_recursion (λ b. is_digit b ≡ true) _ (run_passes is_digit here);
      short = omega (arith, length-take n here, leb-true n 4 split.0);
    } in
    subst (λ r. IsTokenAt r.0 here r.1) split.1 (take n here, sym (run_whole is_digit here), (is, run_stops is_digit here, refl))
