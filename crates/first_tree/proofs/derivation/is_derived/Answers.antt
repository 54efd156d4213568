-- The entry decides over a span that is not empty, and whether the symbol is nullable over one that is.
use Rattle.cell_sets.specs.Grids.{entry}
use Rattle.first_tree.proofs.DerivationLemmas.{derived_by_entry, derived_by_nullable}
use Rattle.first_tree.proofs.derivation.is_derived.Goals as goal

pub returns-then-first-end : goal.returns-then-first-end
returns-then-first-end g c = λ a is.
    derived_by_entry c.args.bin.now (c.args.chart.now).kinds c.has.result a c.args.number c.args.first c.args.end is
    (entry (c.args.chart.now).entries c.args.first c.args.end)
    (c.requires.chart.exact c.args.first c.args.end c.if-first-end.true (c.requires.within c.if-first-end.true))
    c.has.ensures

pub returns-else-first-end : goal.returns-else-first-end
returns-else-first-end g c = λ a is.
    derived_by_nullable c.args.bin.now (c.args.chart.now).kinds c.nullable.result a c.args.number c.args.first c.args.end is
    c.requires.order c.if-first-end.false c.nullable.ensures
