use Rattle.lbnf_regex.proofs.position_set.PositionSet.insert.Goals as goal

pub returns : goal.returns
returns c = rw c.self.view_is at c.insert_into.ensures.ok
