-- The first category that reaches itself, and the ranks of all categories where none does. Serves
-- the proofs alone.
use Rattle.std.specs.Prelude.{◌≡◌, ℕ, ◌<◌, List, length, slice_index_or}
use Rattle.spec_grammar.specs.Cycles.{IsAcyclic, IsRank}
use Rattle.spec_grammar.specs.Grammars.{Grammar}
use Rattle.numbered_grammar.specs.Making.{IsLeastCyclic}
use Rattle.numbered_grammar.specs.declared.cycle_check.CycleCheck.{CycleCheck}
use Rattle.numbered_grammar.specs.declared.cycle_check.CycleCheck.TheVariants.{Cyclic, Ranked}

-- each category has its rank in the list
pub record AreRanks (g : Grammar) (ranks : List ℕ) : Type 0 where
  pub count : length ranks ≡ length g.categories
  pub each : (c : ℕ) → c < length g.categories → IsRank g.rules c (slice_index_or ranks c 0)

-- the least category that reaches itself is told, or none does and the ranks are told
abbrev pub TellsCycles : Grammar → CycleCheck → Type 0
TellsCycles g (Cyclic c) = IsLeastCyclic g c
TellsCycles g (Ranked ranks) = IsAcyclic g.rules × AreRanks g ranks.items
