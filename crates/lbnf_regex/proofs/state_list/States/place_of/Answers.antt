-- The place of its key.
use Rattle.lbnf_regex.proofs.StateListLemmas.{place_some, place_none}
use Rattle.lbnf_regex.proofs.state_list.States.place_of.Goals as goal

pub returns-clause-found : goal.returns-clause-found
returns-clause-found c =
    place_some (λ key. key.items) c.args.set.now c.self.inside.sets.keys c.args.self.now c.self.view_is
    c.get_index_of.result c.get_index_of.ensures.index

pub returns-clause-none : goal.returns-clause-none
returns-clause-none c =
    place_none (λ key. key.items) c.args.set.now c.self.inside.sets.keys c.args.self.now c.self.view_is
    c.get_index_of.result c.get_index_of.ensures.index
