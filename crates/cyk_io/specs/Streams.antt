-- What a caller sees of a source and of a sink: the bytes that are left in the one and those that
-- are written to the other, where they are told, and what is read ahead of a source.
use Rattle.std.specs.Prelude.{◌≡◌, ℕ, ◌<◌, ◌≤◌, List, [], ◌++◌, length, take, Option, Some, Result}
use Rattle.std.specs.Prelude.{MatchResult}
use Rattle.std.specs.Option.{option_map}

-- told bytes begin with these and lose them
abbrev pub Takes : Option (List ℕ) → Option (List ℕ) → List ℕ → Type 0
Takes old new bytes =
    (told : List ℕ) → old ≡ Some told → (rest : List ℕ) × (new ≡ Some rest) × (told ≡ bytes ++ rest)

-- told bytes stay
abbrev pub Stays : Option (List ℕ) → Option (List ℕ) → Type 0
Stays old new = (told : List ℕ) → old ≡ Some told → new ≡ Some told

-- told bytes grow by these
abbrev pub Grows : Option (List ℕ) → Option (List ℕ) → List ℕ → Type 0
Grows old new bytes = (told : List ℕ) → old ≡ Some told → new ≡ Some (told ++ bytes)

-- told bytes grow by a prefix of these
abbrev pub GrowsByPrefix : Option (List ℕ) → Option (List ℕ) → List ℕ → Type 0
GrowsByPrefix old new bytes = (n : ℕ) × (n ≤ length bytes) × Grows old new (take n bytes)

-- no told byte is left
abbrev pub IsAtEnd : Option (List ℕ) → Type 0
IsAtEnd left = (told : List ℕ) → left ≡ Some told → told ≡ []

-- a read took the front of what was left, and took nothing only at the end, or it failed and took
-- nothing
abbrev pub Reads : {E : Type 0} → Option (List ℕ) → Option (List ℕ) → Result ℕ E → List ℕ → Type 0
Reads old new result into = MatchResult result
    (λ n. (n ≤ length into) × Takes old new (take n into) × (n ≡ 0 → 0 < length into → IsAtEnd new))
    (λ _. Stays old new)

-- a write appended a prefix of these bytes, and not the empty one, or it failed and appended
-- nothing
abbrev pub Writes : {E : Type 0} → Option (List ℕ) → Option (List ℕ) → Result ℕ E → List ℕ → Type 0
Writes old new result from = MatchResult result
    (λ n. (n ≤ length from) × (0 < length from → 0 < n) × Grows old new (take n from))
    (λ _. Stays old new)

-- the bytes read ahead, and the offset of the byte that comes next
pub record ReadAhead : Type 0 where
  pub held : List ℕ
  pub offset : ℕ

-- the bytes that come: those read ahead, and then those that the source has left
abbrev pub coming : ReadAhead → Option (List ℕ) → Option (List ℕ)
coming ahead left = option_map (λ bytes. ahead.held ++ bytes) left
