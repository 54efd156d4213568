-- Serves the proofs alone. The links that the rows of suffixes give.
use Rattle.std.specs.Prelude.{◌≡◌, ℕ, ◌+◌, ◌<◌, ◌↔◌, ◌⊎◌, List, Bool, Some, IsTrue, IsFalse}
use Rattle.std.specs.Prelude.{length, slice_get}
use Rattle.spec_grammar.specs.Grammars.{Grammar, symbol_count}
use Rattle.binary_form.specs.declared.rows.SuffixRow.{SuffixRow}
use Rattle.binary_form.specs.NumberSteps.{StepNumber}
use Rattle.number_graph.specs.Graphs.{HasLink, IsSet}
use Rattle.binary_form.specs.NullableNumbers.{IsRestNullable}

-- the suffix of this number gives a unit step: from the whole right side to the category, from its
-- item to it, or from the suffix behind its item to it
abbrev pub IsRowStep : List Bool → SuffixRow → ℕ → ℕ → ℕ → Type 0
IsRowStep nullable row suffix from to =
    (IsTrue row.is_first × (from ≡ suffix) × (to ≡ row.category))
    ⊎ ((IsRestNullable nullable row suffix × (from ≡ row.item) × (to ≡ suffix))
    ⊎ ((IsFalse row.is_last × IsSet nullable row.item) × (from ≡ suffix + 1) × (to ≡ suffix)))

-- the suffix of this number goes on behind its item
abbrev pub IsRowLongerSuffix : SuffixRow → ℕ → ℕ → ℕ → Type 0
IsRowLongerSuffix row suffix from to = IsFalse row.is_last × (from ≡ row.item) × (to ≡ suffix)

-- the item of the suffix of this number is left of the suffix behind it
abbrev pub IsRowPartner : SuffixRow → ℕ → ℕ → ℕ → Type 0
IsRowPartner row suffix from to = IsFalse row.is_last × (from ≡ suffix + 1) × (to ≡ row.item)

-- one of so many rows gives the link
pub record IsLinkOfRows (Link : SuffixRow → ℕ → ℕ → ℕ → Type 0) (rows : List SuffixRow)
    (first many from to : ℕ) : Type 0 where
  pub k : ℕ
  pub row : SuffixRow
  pub is_row : slice_get rows k ≡ Some row
  pub within : k < many
  pub is_link : Link row (first + k) from to

-- the links are those that so many rows give
pub record AreLinksOfRows (Link : SuffixRow → ℕ → ℕ → ℕ → Type 0) (rows : List SuffixRow)
    (first many count : ℕ) (links : List (List ℕ)) : Type 0 where
  pub size : length links ≡ count
  pub exact : (m n : ℕ) → HasLink links m n ↔ IsLinkOfRows Link rows first many m n

-- the links are the unit steps of the grammar
pub record AreUnitSteps (g : Grammar) (links : List (List ℕ)) : Type 0 where
  pub count : length links ≡ symbol_count g
  pub exact : (m n : ℕ) → HasLink links m n ↔ StepNumber g m n
