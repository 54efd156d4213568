-- What a list is where a part of it is replaced.
use Rattle.std.specs.Prelude.{ℕ, ◌+◌, List, ◌++◌, take, drop}

-- the list with so many items from the place on replaced by others: the items before the place,
-- then the others, then the items behind those that are deleted
abbrev pub splice : {X : Type 0} → List X → ℕ → ℕ → List X → List X
splice xs at deleted inserted = take at xs ++ (inserted ++ drop (at + deleted) xs)
