-- Serves the proofs alone. Flags of the symbols that derive the empty span, by number.
use Rattle.std.specs.Prelude.{◌≡◌, ℕ, ◌+◌, ◌<◌, ◌≤◌, ◌↔◌, ◌⊎◌, List, Bool, IsTrue, length}
use Rattle.spec_grammar.specs.Grammars.{Grammar, symbol_count}
use Rattle.binary_form.specs.Symbols.{plain_count, suffix_number}
use Rattle.binary_form.specs.BinaryForm.{IsNullableNumber}
use Rattle.number_graph.specs.Graphs.{IsSet}
use Rattle.binary_form.specs.declared.rows.SuffixRow.{SuffixRow}

-- each symbol has a flag, which says whether it derives the empty span
pub record AreNullableNumbers (g : Grammar) (flags : List Bool) : Type 0 where
  pub count : length flags ≡ symbol_count g
  pub exact : (n : ℕ) → n < symbol_count g → IsSet flags n ↔ IsNullableNumber g n

-- each symbol has a flag, and those of the categories, of the kinds, and of the suffixes from this
-- one on, the items of all rules counted in order, say whether they derive the empty span
pub record AreNullableFrom (g : Grammar) (from : ℕ) (flags : List Bool) : Type 0 where
  pub count : length flags ≡ symbol_count g
  pub exact : (n : ℕ) → n < symbol_count g → (n < plain_count g) ⊎ (suffix_number g from ≤ n)
      → IsSet flags n ↔ IsNullableNumber g n

-- what is behind the item of the suffix of this number derives the empty span, or there is nothing
abbrev pub IsRestNullable : List Bool → SuffixRow → ℕ → Type 0
IsRestNullable flags row suffix = IsTrue row.is_last ⊎ IsSet flags (suffix + 1)
