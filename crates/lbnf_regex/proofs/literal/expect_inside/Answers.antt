-- One mark stands behind those so far.
use Rattle.std.proofs.Common.{take, get_or}
use Rattle.std.proofs.lemmas.List.{take_more, take_all}
use Rattle.lbnf_regex.proofs.LiteralLemmas.{behind_more}
use Rattle.lbnf_regex.proofs.literal.expect_inside.Goals as goal

pub loop-mark-preserved : goal.loop-mark-preserved
loop-mark-preserved c =
    let marks = c.args.marks.now in
    let i = c.loop-mark.mark-index in
    rw (take_more marks i 0 c.loop-mark-test.true)
    (behind_more c.args.first c.args.bytes.now (take i marks) (get_or marks i 0) c.args.into.now c.loop-mark.into
    c.expect_behind.new.into c.loop-mark.invariant c.in_ok-expect_behind.ensures)

pub returns : goal.returns
returns c = rw (take_all c.loop-mark.mark-index c.args.marks.now c.loop-mark-test.false) at c.loop-mark.invariant
