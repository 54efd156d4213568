-- Serves the proofs alone. Where the suffixes of each rule are numbered from.
use Rattle.std.specs.Prelude.{◌≡◌, ℕ, ◌<◌, List, length, slice_index_or}
use Rattle.spec_grammar.specs.Grammars.{Grammar}
use Rattle.binary_form.specs.Symbols.{first_suffix}

-- for each rule, these tell where its suffixes are numbered from
pub record AreFirstSuffixes (g : Grammar) (firsts : List ℕ) : Type 0 where
  pub count : length firsts ≡ length g.rules
  pub each : (r : ℕ) → r < length g.rules → slice_index_or firsts r 0 ≡ first_suffix g r
