-- The byte goes on the front that is there.
use Rattle.lbnf_regex.proofs.ClosingLemmas.{goes_on, goes_not_on}
use Rattle.lbnf_regex.proofs.comment.ends_with_front.Goals as goal

pub returns-then-closing-longer : goal.returns-then-closing-longer
returns-then-closing-longer c =
    goes_on c.args.closing.now c.args.size c.args.byte c.args.longer c.eq.result c.requires.within c.requires.some
    c.requires.order c.if-closing-longer.true c.eq.ensures

pub returns-else-closing-longer : goal.returns-else-closing-longer
returns-else-closing-longer c =
    goes_not_on c.args.closing.now c.args.size c.args.byte c.args.longer c.requires.within c.requires.some
    c.requires.order c.if-closing-longer.false
