-- Its key goes last.
use Rattle.lbnf_regex.proofs.StateListLemmas.{key_pushed}
use Rattle.lbnf_regex.proofs.state_list.States.push.Goals as goal

pub returns : goal.returns
returns c =
    key_pushed (λ key. key.items) c.self.inside.sets.keys c.args.self.now c.self.view_is c.args.set
    c.insert.new.self.keys c.requires c.in_ok-insert.ensures.keys
