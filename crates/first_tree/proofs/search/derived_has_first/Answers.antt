-- By the law of existence.
use Rattle.spec_trees.proofs.FirstTreeLemmas.{lesser_is_strict}
use Rattle.std.specs.Prelude.{nat_lt}
use Rattle.spec_trees.proofs.TellingLemmas.{derived_or_not}
use Rattle.spec_trees.proofs.ExistenceLemmas.{derived_has_first}
use Rattle.first_tree.proofs.search.derived_has_first.Goals as goal

pub returns : goal.returns
returns c = λ kinds s i j d.
    let rules = (c.args.grammar.now).rules in
    derived_has_first nat_lt lesser_is_strict rules kinds (derived_or_not rules kinds) c.rules.ensures.acyclic s i j d
