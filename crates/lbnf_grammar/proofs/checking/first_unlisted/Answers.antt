use Rattle.std.proofs.Common.{sym, ◌∙◌}
use Rattle.lbnf_grammar.specs.Checking.{IsListed, IsUnlisted}
use Rattle.lbnf_grammar.proofs.CheckingLemmas.{first_bad, more_good, good_all, told_there, told_absent}
use Rattle.lbnf_grammar.proofs.checking.first_unlisted.Goals as goal

pub returns-then-not-branch : goal.returns-then-not-branch
returns-then-not-branch c =
    first_bad (IsUnlisted c.args.known.now) (IsListed c.args.known.now) c.args.names.now
    c.loop-name.name-index c.name-item.result c.loop-name-test.true c.name-item.is c.loop-name.invariant (λ other listed unlisted. unlisted listed)
    (told_absent c.args.known.now c.name-item.result (sym c.in_ok-has_text.ensures ∙ c.if-not-branch.true))

pub loop-name-preserved : goal.loop-name-preserved
loop-name-preserved c =
    more_good (IsUnlisted c.args.known.now) (IsListed c.args.known.now) c.args.names.now
    c.loop-name.name-index c.name-item.result c.loop-name-test.true c.name-item.is c.loop-name.invariant
    (told_there c.args.known.now c.name-item.result (sym c.in_ok-has_text.ensures ∙ c.if-not-branch.false))

pub returns : goal.returns
returns c = good_all (IsListed c.args.known.now) c.args.names.now c.loop-name.name-index c.loop-name-test.false c.loop-name.invariant
