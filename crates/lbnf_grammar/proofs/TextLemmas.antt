-- A name in brackets is UTF-8.
use Rattle.std.proofs.Common.{ℕ, ◌<◌, List, ◌++◌, replicate, lit<}
use Rattle.std.specs.Str.{IsUtf8}
use Rattle.std.proofs.lemmas.List.Elements.{All-replicate}
use Rattle.std.proofs.lemmas.Str.{IsUtf8-from_ascii, IsUtf8-append}
use Rattle.std.proofs.lemmas.Str.Ascii.{IsAscii-from_all}

-- a byte below 128, over and over
same_bytes : (n byte : ℕ) → byte < 128 → IsUtf8 (replicate n byte)
same_bytes n byte low = IsUtf8-from_ascii (replicate n byte) (IsAscii-from_all (replicate n byte) (All-replicate (λ b. b < 128) n byte low))

-- a name in brackets is UTF-8, since the name is
pub bracketed_utf8 : (depth : ℕ) (name : List ℕ) → IsUtf8 name → IsUtf8 (replicate depth 91 ++ (name ++ replicate depth 93))
bracketed_utf8 depth name utf8 = IsUtf8-append _ _ (same_bytes depth 91 (lit< tt)) (IsUtf8-append _ _ utf8 (same_bytes depth 93 (lit< tt)))
