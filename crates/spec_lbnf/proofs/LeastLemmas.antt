-- How many bytes the tokens of a file take at least.
use Rattle.std.proofs.Common.{◌≡◌, ℕ, ◌+◌, ◌≤◌, ◌<◌, List, [], ◌∷◌, ◌++◌, length, Bool, true, false, inl, inr, refl, sym, ap, subst, ◌∙◌, arith, length-append}
use Rattle.std.specs.List.{flat_map}
use Rattle.std.proofs.lemmas.Bool.{false≢true}
use Rattle.std.proofs.lemmas.Bool.Decides.{nat_tests}
use Rattle.std.proofs.lemmas.List.{length-map}
use Rattle.spec_lbnf.specs.declared.token.FileToken.{FileToken}
use Rattle.spec_lbnf.specs.declared.token.FileToken.TheVariants.{Identifier, Number, Text, Character}
use Rattle.spec_lbnf.specs.declared.token.FileToken.TheVariants.{Sign as SignToken}
use Rattle.spec_lbnf.specs.declared.token.PlacedToken.{PlacedToken}
use Rattle.spec_lbnf.specs.FileTokens.{RunEnds}
use Rattle.spec_text.specs.Bytes.{is_name_byte}
use Rattle.spec_lbnf.specs.FileTokens.{FirstIs, Separates, Skips, nothing, goes_on, LiteralPart, plain, escape, part_bytes, part_value, IsLiteral, sign_bytes, IsTokenBefore, AreFileTokensFrom}
use Rattle.spec_text.specs.Bytes.{is_letter}
use Rattle.spec_lbnf.specs.Faults.{bare}
use Rattle.spec_lbnf.proofs.BoundaryLemmas.{is_name}

-- how many bytes a token takes at least
abbrev pub token_least : FileToken → ℕ
token_least (Identifier name) = length name
token_least (Number value) = 1
token_least (Text value) = 2 + length value
token_least (Character scalar) = 2
token_least (SignToken sign) = length (sign_bytes sign)

-- and how many stand before it, behind a name: an identifier is apart from it
abbrev pub gap : Bool → FileToken → ℕ
gap true (Identifier name) = 1
gap behind_name token = 0

-- how many bytes tokens take at least, behind a name or not
abbrev pub least : Bool → List FileToken → ℕ
least behind_name [] = 0
least behind_name (token ∷ tokens) = gap behind_name token + token_least token + least (is_name token) tokens

-- a letter may stand in a name
letter_in_name : (byte : ℕ) → is_letter byte ≡ true → is_name_byte byte ≡ true
letter_in_name byte h = grind (arith, nat_tests)

-- what separates tokens has a byte
separates_len : (bytes rest : List ℕ) → Separates bytes rest → 0 < length bytes
separates_len bytes rest (inl white) = omega (arith, ap length white.2)
separates_len bytes rest (inr (inl line)) = omega (arith, ap length line.whole)
separates_len bytes rest (inr (inr block)) = omega (arith, ap length block.whole)

-- between what stops a name and a letter there is a byte
skips_some : (skipped rest : List ℕ) → Skips skipped rest → RunEnds is_name_byte (skipped ++ rest)
    → FirstIs is_letter rest → 0 < length skipped
skips_some skipped rest (nothing s r e) stops begins =
    absurd (by rest (subst (λ l. RunEnds is_name_byte (l ++ rest)) e stops) begins)
  where
    by : (rest : List ℕ) → RunEnds is_name_byte rest → FirstIs is_letter rest → ⊥
    by [] stops begins = begins
    by (c ∷ rest) stops begins = false≢true (sym stops ∙ letter_in_name c begins)
skips_some skipped rest (goes_on s first others r e separates skips) stops begins =
    omega (arith, ap length e, length-append first others, separates_len first (others ++ rest) separates)

-- parts of a literal take a byte each, or more
parts_least : (parts : List LiteralPart) → length parts ≤ length (flat_map part_bytes parts)
parts_least [] = omega arith
parts_least (plain byte ∷ parts) = omega (arith, parts_least parts)
parts_least (escape byte ∷ parts) = omega (arith, parts_least parts)

-- a literal takes two bytes more than its value
literal_least : (quote : ℕ) (value bytes : List ℕ) → IsLiteral quote value bytes → 2 + length value ≤ length bytes
literal_least quote value bytes is =
    let parts : List ℕ = flat_map part_bytes is.parts in
    omega (
      arith,
      ap length is.whole,
      length-append parts (quote ∷ []),
      parts_least is.parts,
      ap length is.means,
      length-map is.parts part_value,
    )

-- a token takes its bytes
token_takes : (token : FileToken) (bytes rest : List ℕ) → IsTokenBefore token bytes rest → token_least token ≤ length bytes
token_takes (Identifier name) bytes rest is = omega (arith, ap length is.2)
token_takes (Number value) bytes rest is = omega (arith, is.0.some)
token_takes (Text value) bytes rest is = literal_least 34 value bytes is
token_takes (Character scalar) bytes rest is = omega (arith, literal_least 39 _ bytes is.1)
token_takes (SignToken sign) bytes rest is = omega (arith, ap length is.1)

-- behind a name stands no byte of a name
token_stops : (token : FileToken) (bytes rest : List ℕ) → IsTokenBefore token bytes rest → is_name token ≡ true → RunEnds is_name_byte rest
token_stops (Identifier name) bytes rest is h = is.1
token_stops (Number value) bytes rest is h = absurd (false≢true h)
token_stops (Text value) bytes rest is h = absurd (false≢true h)
token_stops (Character scalar) bytes rest is h = absurd (false≢true h)
token_stops (SignToken sign) bytes rest is h = absurd (false≢true h)

-- an identifier begins with a letter
begins_front : (name rest : List ℕ) → FirstIs is_letter name → FirstIs is_letter (name ++ rest)
begins_front [] rest begins = absurd begins
begins_front (b ∷ name) rest begins = begins

-- what stands before a token is as long as its gap
gap_takes : (behind_name : Bool) (token : FileToken) (skipped written rest : List ℕ)
    → (behind_name ≡ true → RunEnds is_name_byte (skipped ++ (written ++ rest)))
    → Skips skipped (written ++ rest) → IsTokenBefore token written rest → gap behind_name token ≤ length skipped
gap_takes true (Identifier name) skipped written rest stops skips is =
    skips_some skipped (written ++ rest) skips (stops refl) (begins_front written rest is.0.letter)
gap_takes true (Number value) skipped written rest stops skips is = omega arith
gap_takes true (Text value) skipped written rest stops skips is = omega arith
gap_takes true (Character scalar) skipped written rest stops skips is = omega arith
gap_takes true (SignToken sign) skipped written rest stops skips is = omega arith
gap_takes false token skipped written rest stops skips is = omega arith

-- tokens take their bytes
pub tokens_take : (start : ℕ) (bytes : List ℕ) (tokens : List PlacedToken) (stop : ℕ) (behind_name : Bool)
    → AreFileTokensFrom start bytes tokens stop → (behind_name ≡ true → RunEnds is_name_byte bytes) → least behind_name (bare tokens) ≤ length bytes
tokens_take start bytes [] stop behind_name scan stops = omega arith
tokens_take start bytes (token ∷ tokens) stop behind_name (skipped, written, rest, whole, skips, offset, begins, more) stops =
    let stops_here = λ (e : behind_name ≡ true). subst (RunEnds is_name_byte) whole (stops e) in
    omega (
      arith,
      ap length whole,
      length-append skipped (written ++ rest),
      length-append written rest,
      gap_takes behind_name token.token skipped written rest stops_here skips begins,
      token_takes token.token written rest begins,
      tokens_take (token.offset + length written) rest tokens stop (is_name token.token) more (token_stops token.token written rest begins),
    )
