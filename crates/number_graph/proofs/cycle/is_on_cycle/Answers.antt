use Rattle.std.proofs.lemmas.Bool.{false≢true}
use Rattle.number_graph.proofs.HeightLemmas.{told_is_on_none}
use Rattle.number_graph.proofs.cycle.is_on_cycle.Goals as goal

pub returns-in-Some : goal.returns-in-Some
returns-in-Some c =
    let none = told_is_on_none c.args.links.now c.args.heights.now c.args.number c.in-Some.field-0
    c.requires.heights c.requires.number c.in-Some.is in
    ((λ is. absurd (false≢true is)), (λ on. absurd (none on)))
