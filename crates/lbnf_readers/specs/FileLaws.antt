-- What is true of the tokens of a grammar file: what stands at the front of bytes is one token or
-- one space, so that a file has one scan, and the offsets of its tokens rise.
use Rattle.std.specs.Prelude.{◌≡◌, ℕ, ◌+◌, ◌≤◌, List, [], ◌∷◌, ◌++◌, length}
use Rattle.spec_lbnf.specs.declared.token.FileToken.{FileToken}
use Rattle.spec_lbnf.specs.declared.token.PlacedToken.{PlacedToken}
use Rattle.spec_lbnf.specs.FileTokens.{IsTokenBefore, Separates, IsScan}

-- bytes begin with at most one longest token, which is written in one way
abbrev pub HasOneToken : Type 0
HasOneToken =
    (v w r s : List ℕ) (a b : FileToken) → v ++ r ≡ w ++ s → IsTokenBefore a v r
    → IsTokenBefore b w s
    → (a ≡ b) × (v ≡ w) × (r ≡ s)

-- bytes begin with at most one white byte or comment
abbrev pub HasOneSpace : Type 0
HasOneSpace =
    (v w r s : List ℕ) → v ++ r ≡ w ++ s → Separates v r → Separates w s → (v ≡ w) × (r ≡ s)

-- no token begins where a white byte or a comment does
abbrev pub HasTokenOrSpace : Type 0
HasTokenOrSpace =
    (token : FileToken) (v w r s : List ℕ) → v ++ r ≡ w ++ s → IsTokenBefore token v r
    → Separates w s → ⊥

-- a file has tokens, up to some offset
abbrev pub HasSomeScan : Type 0
HasSomeScan =
    (bytes : List ℕ) → (tokens : List PlacedToken) × (stop : ℕ) × IsScan bytes tokens stop

-- a file has at most one list of tokens, up to one offset
abbrev pub HasOneScan : Type 0
HasOneScan =
    (bytes : List ℕ) (a b : List PlacedToken) (s t : ℕ) → IsScan bytes a s → IsScan bytes b t
    → (a ≡ b) × (s ≡ t)

-- the offsets of the tokens rise, from this one on or a later one, and lie before the stop
abbrev pub RiseTo : ℕ → List PlacedToken → ℕ → Type 0
RiseTo from [] stop = from ≤ stop
RiseTo from (token ∷ tokens) stop =
    (from ≤ token.offset) × RiseTo (token.offset + 1) tokens stop

-- the offsets of a file's tokens rise and lie before the stop, which lies within the file
abbrev pub HasRisingOffsets : Type 0
HasRisingOffsets =
    (bytes : List ℕ) (tokens : List PlacedToken) (stop : ℕ) → IsScan bytes tokens stop
    → RiseTo 0 tokens stop × (stop ≤ length bytes)
