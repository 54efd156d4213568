-- The texts and characters among the tokens of a UTF-8 file are UTF-8 and scalars.
use Rattle.std.proofs.Common.{◌≡◌, ℕ, ◌+◌, ◌<◌, List, [], ◌∷◌, ◌++◌, length, get_or, map, codes, Bool, true, false, cond, nat_eq, Contains, refl, sym, ap, subst, ◌∙◌, append_assoc, arith, length-append, IsUtf8}
use Rattle.std.specs.Char.{IsScalar}
use Rattle.std.specs.List.{flat_map, AllByRecursion}
use Rattle.std.proofs.Math.Seq.{take-append_seam, drop-append-add, get_or-append_seam}
use Rattle.std.proofs.lemmas.List.Elements.{All-contains, All-from_recursion, recursion_from_All}
use Rattle.std.proofs.lemmas.Str.{IsUtf8-append, IsUtf8-from_ascii, IsUtf8-take, IsUtf8-drop, IsCharBoundary-before_ascii, IsCharBoundary-after_ascii}
use Rattle.std.proofs.lemmas.Str.Ascii.{IsAscii-cons, IsAscii-nil}
use Rattle.spec_lbnf.specs.declared.token.FileToken.{FileToken}
use Rattle.spec_lbnf.specs.declared.token.FileToken.TheVariants.{Identifier, Number, Text, Character}
use Rattle.spec_lbnf.specs.declared.token.FileToken.TheVariants.{Sign as SignToken}
use Rattle.spec_lbnf.specs.declared.token.PlacedToken.{PlacedToken}
use Rattle.spec_lbnf.specs.FileTokens.{LiteralPart, plain, escape, IsLiteralPart, part_bytes, escaped, part_value, IsLiteral, IsTokenBefore, AreFileTokensFrom}
use Rattle.spec_lbnf.specs.Faults.{bare}

-- the token's text is UTF-8, or its character is a scalar
abbrev pub IsUtf8Token : FileToken → Type 0
IsUtf8Token (Text value) = IsUtf8 value
IsUtf8Token (Character scalar) = IsScalar scalar
IsUtf8Token other = Unit {0}

-- UTF-8 is cut at an ASCII byte
cut_utf8 : (front : List ℕ) (byte : ℕ) (rest : List ℕ) → byte < 128 → IsUtf8 (front ++ byte ∷ rest) → IsUtf8 front × IsUtf8 rest
cut_utf8 front byte rest low utf8 =
    let all : List ℕ = front ++ byte ∷ rest in
    let here : get_or all (length front) 0 ≡ byte = get_or-append_seam front byte rest 0 in
    let within : length front < length all = omega (arith, length-append front (byte ∷ rest)) in
    let is_low : get_or all (length front) 0 < 128 = omega (arith, here, low) in (
      subst IsUtf8 (take-append_seam front (byte ∷ rest))
          (IsUtf8-take all (length front) utf8 (IsCharBoundary-before_ascii all (length front) within is_low)),
      subst IsUtf8 (drop-append-add front (byte ∷ rest) 1)
          (IsUtf8-drop all (length front + 1) utf8 (IsCharBoundary-after_ascii all (length front) utf8 within is_low)),
    )

-- the byte of an escape is ASCII
escape_low : (byte : ℕ) → Contains (codes "\"'\\nt") byte → byte < 128
escape_low byte there =
    All-contains (λ b. b < 128) (codes "\"'\\nt") byte
    (All-from_recursion (λ b. b < 128) (codes "\"'\\nt")
    (omega arith, (omega arith, (omega arith, (omega arith, (omega arith, tt)))))) there

-- and so is the byte that it stands for
escaped_low : (byte : ℕ) → byte < 128 → escaped byte < 128
escaped_low byte low = by (nat_eq byte 110) (nat_eq byte 116)
  where
    by : (a b : Bool) → cond a 10 (cond b 9 byte) < 128
    by true b = omega arith
    by false true = omega arith
    by false false = low

-- what parts stand for, behind other bytes, is UTF-8 where their bytes are
value_utf8 : (quote : ℕ) (front : List ℕ) (parts : List LiteralPart) → AllByRecursion (IsLiteralPart quote) parts
    → IsUtf8 (front ++ flat_map part_bytes parts) → IsUtf8 (front ++ map part_value parts)
value_utf8 quote front [] each utf8 = utf8
value_utf8 quote front (plain byte ∷ parts) each utf8 =
    subst IsUtf8 (append_assoc front (byte ∷ []) (map part_value parts))
    (value_utf8 quote (front ++ byte ∷ []) parts each.1
    (subst IsUtf8 (sym (append_assoc front (byte ∷ []) (flat_map part_bytes parts))) utf8))
value_utf8 quote front (escape byte ∷ parts) each utf8 =
    let low : byte < 128 = escape_low byte each.0 in
    let cut = cut_utf8 front 92 (byte ∷ flat_map part_bytes parts) (omega arith) utf8 in
    let behind = cut_utf8 [] byte (flat_map part_bytes parts) low cut.1 in
    let one : IsUtf8 (escaped byte ∷ [])
    = IsUtf8-from_ascii (escaped byte ∷ []) (IsAscii-cons (escaped byte) [] (escaped_low byte low) IsAscii-nil) in
    let others : IsUtf8 (map part_value parts) = value_utf8 quote [] parts each.1 behind.1 in
    IsUtf8-append front (escaped byte ∷ map part_value parts) cut.0
    (IsUtf8-append (escaped byte ∷ []) (map part_value parts) one others)

-- the value of a literal in UTF-8 is UTF-8
literal_utf8 : (quote : ℕ) (value front bytes rest : List ℕ) → quote < 128 → IsLiteral quote value bytes
    → IsUtf8 (front ++ (bytes ++ rest)) → IsUtf8 value
literal_utf8 quote value front bytes rest low is utf8 =
    let parts : List ℕ = flat_map part_bytes is.parts in
    let opened : IsUtf8 (front ++ (quote ∷ ((parts ++ quote ∷ []) ++ rest)))
    = subst (λ bs. IsUtf8 (front ++ (bs ++ rest))) is.whole utf8 in
    let behind = (cut_utf8 front quote ((parts ++ quote ∷ []) ++ rest) low opened).1 in
    let inner = (cut_utf8 parts quote rest low (subst IsUtf8 (append_assoc parts (quote ∷ []) rest) behind)).0 in
    subst IsUtf8 (sym is.means)
    (value_utf8 quote [] is.parts (recursion_from_All (IsLiteralPart quote) is.parts is.each) inner)

-- a token in UTF-8 is such a token
token_utf8 : (token : FileToken) (front bytes rest : List ℕ) → IsTokenBefore token bytes rest → IsUtf8 (front ++ (bytes ++ rest))
    → IsUtf8Token token
token_utf8 (Identifier name) front bytes rest is utf8 = tt
token_utf8 (Number value) front bytes rest is utf8 = tt
token_utf8 (Text value) front bytes rest is utf8 = literal_utf8 34 value front bytes rest (omega arith) is utf8
token_utf8 (Character scalar) front bytes rest is utf8 = is.0
token_utf8 (SignToken sign) front bytes rest is utf8 = tt

-- the tokens of UTF-8 are such tokens
pub tokens_utf8 : (front : List ℕ) (start : ℕ) (bytes : List ℕ) (tokens : List PlacedToken) (stop : ℕ)
    → AreFileTokensFrom start bytes tokens stop → IsUtf8 (front ++ bytes) → AllByRecursion IsUtf8Token (bare tokens)
tokens_utf8 front start bytes [] stop scan utf8 = tt
tokens_utf8 front start bytes (token ∷ tokens) stop (skipped, written, rest, whole, skips, offset, begins, more) utf8 =
    let here : IsUtf8 ((front ++ skipped) ++ (written ++ rest))
    = subst IsUtf8 (ap (λ bs. front ++ bs) whole ∙ sym (append_assoc front skipped (written ++ rest))) utf8 in (
      token_utf8 token.token (front ++ skipped) written rest begins here,
      tokens_utf8 ((front ++ skipped) ++ written) (token.offset + length written) rest tokens stop more
          (subst IsUtf8 (sym (append_assoc (front ++ skipped) written rest)) here),
    )
