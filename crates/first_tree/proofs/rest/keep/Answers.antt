-- Where nothing is left there are no nodes, and else the rest is kept last.
use Rattle.std.proofs.Common.{arith}
use Rattle.first_tree.proofs.RestLemmas.{keeps_none, keeps_some}
use Rattle.first_tree.proofs.rest.keep.Goals as goal

pub returns-then-rest-len : goal.returns-then-rest-len
returns-then-rest-len c = λ kinds.
    keeps_none (c.args.grammar.now).rules kinds c.args.rest c.rule-rule.result.now c.args.kept.now.items c.rule-rule.ensures
    (omega (arith, c.if-rest-len.true))

pub returns : goal.returns
returns c = λ kinds.
    rw c.in_ok-push.ensures.items
    (keeps_some (c.args.grammar.now).rules kinds c.args.rest c.rule-rule.result.now c.args.kept.now.items c.rule-rule.ensures
    (omega (arith, c.if-rest-len.false)))
