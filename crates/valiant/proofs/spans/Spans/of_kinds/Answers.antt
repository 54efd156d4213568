-- By the rows, which are those of all tokens.
use Rattle.valiant.proofs.ChartLemmas.{chart_exact}
use Rattle.valiant.proofs.spans.Spans.of_kinds.Goals as goal

pub returns-clause-exact : goal.returns-clause-exact
returns-clause-exact g c =
    let rows = c.in_ok-rows.ensures in
    rw c.in_ok-kinds.ensures
    (chart_exact g.C.Cell.symbols c.args.kinds.now c.in_ok-rows.rows c.args.bin.now rows.0 rows.1)
