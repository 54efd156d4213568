use Rattle.std.proofs.Common.{ℕ, replicate, arith}
use Rattle.std.proofs.lemmas.List.{get_or-replicate, length-replicate}
use Rattle.cell_sets.proofs.WordsLemmas.{none_set, symbols_rise}
use Rattle.cell_sets.proofs.bits.BitsCell.empty.Goals as goal

pub returns-clause-items : goal.returns-clause-items
returns-clause-items g c = none_set (replicate g.row.W 0)
    (λ k within. get_or-replicate g.row.W k 0 0 (omega (arith, within, length-replicate {A = ℕ} g.row.W 0)))

pub returns-clause-rising : goal.returns-clause-rising
returns-clause-rising g c = symbols_rise _
