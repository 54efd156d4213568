-- Strings and characters: what is read part by part is what the text gives.
use Rattle.std.proofs.Common.{◌≡◌, ℕ, ◌<◌, List, [], ◌++◌, length, get_or, false, Option, Some, None, option_map, option_and_then, refl, ap, ◌∙◌, arith, length-append, encode_utf8, chars, Bor}
use Rattle.std.specs.Char.{IsScalar}
use Rattle.std.proofs.lemmas.Bool.{false_from_ne_true}
use Rattle.std.proofs.lemmas.List.{append-nil}
use Rattle.std.proofs.lemmas.Str.{encode_same, length-encode, len_utf8_bounds}
use Rattle.spec_lbnf.specs.declared.token.FileToken.TheVariants.{Text, Character}
use Rattle.lbnf_readers.specs.Scanning.{literal_from, string_at, is_encoded, character_of, character_at}
use Rattle.lbnf_readers.proofs.LiteralLemmas.{is_encoded_again, is_encoded_read, first_scalar}
use Rattle.lbnf_text.specs.declared.scanner.Part.{Part}
use Rattle.lbnf_text.specs.declared.scanner.Part.TheVariants.{Scalar, Close, Broken}
use Rattle.lbnf_text.specs.LiteralParts.{scalar_before, IsPartOf}
use Rattle.lbnf_text.proofs.PartLemmas.{bytes_before}

-- a scalar has a byte or more
some_byte : (scalar : ℕ) → 0 < length (encode_utf8 scalar)
some_byte scalar = omega (arith, length-encode scalar, (len_utf8_bounds scalar).0)

-- no scalar has no bytes
no_bytes : (scalar : ℕ) → is_encoded scalar [] ≡ false
no_bytes scalar = false_from_ne_true _ (λ h.
    omega (arith, some_byte scalar, ap length (is_encoded_read scalar [] h).1))

-- no scalar has the bytes of two and more
two_scalars : (scalar first second : ℕ) (more : List ℕ)
    → is_encoded scalar (encode_utf8 first ++ (encode_utf8 second ++ more)) ≡ false
two_scalars scalar first second more = false_from_ne_true _ (λ h.
    let is = is_encoded_read scalar (encode_utf8 first ++ (encode_utf8 second ++ more)) h in
    let same = encode_same scalar first [] (encode_utf8 second ++ more) (append-nil (encode_utf8 scalar) ∙ is.1) in
    omega (arith, some_byte second, simp length-append at (ap length same.1)))

-- two scalars and more are no character
two_values : (first second : ℕ) (read : Option (List ℕ × List ℕ))
    → None ≡ option_and_then character_of (option_map (scalar_before first) (option_map (scalar_before second) read))
two_values first second None = refl
two_values first second (Some read) =
    let value : List ℕ = encode_utf8 first ++ (encode_utf8 second ++ read.0) in
    rw (two_scalars (get_or (chars value) 0 0) first second read.0) refl

-- two parts that are no character and its closing quote are none
module _ (bytes : List ℕ) where
  -- what does not begin with a scalar is no character
  pub no_scalar : (part : Part) → ((scalar : ℕ) (rest : Bor (List ℕ)) → part ≡ Scalar scalar rest → ⊥)
      → IsPartOf 39 false bytes part → None ≡ character_at bytes
  unfolding character_at
  no_scalar (Scalar scalar rest) other is = absurd (other scalar rest refl)
  no_scalar (Close rest) other is = rw (is, no_bytes (get_or (chars []) 0 0)) refl
  no_scalar Broken other is = rw is refl

  -- a scalar that the closing quote does not follow is no character
  pub no_close : (scalar : ℕ) (rest : List ℕ) (part : Part) → ((behind : Bor (List ℕ)) → part ≡ Close behind → ⊥)
      → literal_from 39 false bytes ≡ option_map (scalar_before scalar) (literal_from 39 false rest)
      → IsPartOf 39 false rest part → None ≡ character_at bytes
  unfolding character_at
  no_close scalar rest (Scalar second behind) other is part =
      rw (is, part) (two_values scalar second (literal_from 39 false behind.now))
  no_close scalar rest (Close behind) other is part = absurd (other behind refl)
  no_close scalar rest Broken other is part = rw (is, part) refl

  -- a scalar and its closing quote are a character
  pub one_scalar : (scalar : ℕ) (rest behind : List ℕ) → IsScalar scalar
      → literal_from 39 false bytes ≡ option_map (scalar_before scalar) (literal_from 39 false rest)
      → literal_from 39 false rest ≡ Some ([], behind) → Some (Character scalar, behind) ≡ character_at bytes
  unfolding character_at
  one_scalar scalar rest behind scalar_is is part =
      rw (is, part, append-nil (encode_utf8 scalar), first_scalar scalar scalar_is, is_encoded_again scalar scalar_is) refl

-- a literal whose parts are read up to its closing quote is a string
pub string_closed : (text value rest behind name : List ℕ)
    → literal_from 34 false text ≡ option_map (bytes_before value) (literal_from 34 false rest)
    → literal_from 34 false rest ≡ Some ([], behind) → name ≡ value
    → Some (Text name, behind) ≡ string_at text
unfolding string_at
string_closed text value rest behind name so_far closes e = rw (so_far, closes, append-nil value, e) refl

-- a literal with a part that may not stand in one is no string
pub string_broken : (text value rest : List ℕ)
    → literal_from 34 false text ≡ option_map (bytes_before value) (literal_from 34 false rest)
    → literal_from 34 false rest ≡ None → None ≡ string_at text
unfolding string_at
string_broken text value rest so_far breaks = rw (so_far, breaks) refl
