-- Implications among numbers, and what follows from them.
use Rattle.std.specs.Prelude.{◌≡◌, ℕ, ◌<◌, ◌↔◌, ◌⊎◌, List, [], ◌∷◌, ◌++◌}
use Rattle.std.specs.Prelude.{length, slice_index_or, Contains}
use Rattle.number_graph.specs.Graphs.{HasLink}

-- implications, each with premises and a conclusion, which stand at the same place of two lists
pub record ImplicationList : Type 0 where
  pub premises : List (List ℕ)
  pub conclusions : List ℕ

-- there is no implication
abbrev pub AreNoImplications : ImplicationList → Type 0
AreNoImplications implications = (implications.premises ≡ []) × (implications.conclusions ≡ [])

-- the new implications are the old ones, and behind them one from these premises to this conclusion
pub record AddsImplication (old new : ImplicationList) (given : List ℕ) (conclusion : ℕ)
    : Type 0 where
  pub conclusions : new.conclusions ≡ old.conclusions ++ conclusion ∷ []
  pub premises : (i p : ℕ) → HasLink new.premises i p
      ↔ (HasLink old.premises i p ⊎ ((i ≡ length old.conclusions) × Contains given p))

-- all premises and conclusions are below so many
pub record AreImplicationsWithin (total : ℕ) (implications : ImplicationList) : Type 0 where
  pub premises : (i p : ℕ) → HasLink implications.premises i p → p < total
  pub conclusions : (n : ℕ) → Contains implications.conclusions n → n < total

-- a number follows from the implications, where it is the conclusion of one whose premises follow
pub data Follows (implications : ImplicationList) : ℕ → Type 0 where
  follows : {n : ℕ} (i : ℕ) → i < length implications.conclusions
      → slice_index_or implications.conclusions i 0 ≡ n
      → ((p : ℕ) → HasLink implications.premises i p → Follows implications p)
      → Follows implications n
