use Rattle.std.proofs.Common.{◌≡◌, ◌↔◌, List, Option, Some, None, true, false, is_some, IsTrue, refl, sym, subst}
use Rattle.std.proofs.lemmas.Bool.{false≢true}
use Rattle.numbered_grammar.specs.Places.{GivesPlaces}
use Rattle.numbered_grammar.proofs.PlaceLemmas.{told_distinct}
use Rattle.numbered_grammar.proofs.making.have_distinct_names.Goals as goal

pub returns : goal.returns
returns c = told_distinct c.args.categories.now c.args.kinds.now c.in_ok-found.found c.in_ok-found.ensures c.is_some.result c.is_some.ensures
