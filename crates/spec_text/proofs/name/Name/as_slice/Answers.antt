-- The bytes that the name keeps are those that it shows.
use Rattle.spec_text.proofs.name.Name.as_slice.Goals as goal

pub returns-clause-utf8 : goal.returns-clause-utf8
returns-clause-utf8 c = rw (← c.self.view_is) c.self.invariant
