use Rattle.std.proofs.Common.{arith}
use Rattle.std.proofs.lemmas.Result.{err_from_is_err_and}
use Rattle.lbnf_text.proofs.ParsingLemmas.{none_closed, more_closed, not_closed, all_closed}
use Rattle.lbnf_text.proofs.parser.Parser.closes.Goals as goal

pub loop-turn-init : goal.loop-turn-init
loop-turn-init c = record { closed = none_closed c.args.count c.args.self.now; within = omega arith }

pub returns-in_err-sign-clause-read : goal.returns-in_err-sign-clause-read
returns-in_err-sign-clause-read c =
    let p = err_from_is_err_and c.from_residual.result c.from_residual.ensures.1 in
    rw (p.1, p.2) (λ free. not_closed c.args.count c.loop-turn._turn c.args.self.now c.loop-turn.self c.loop-turn.invariant.closed c.loop-turn-test.true c.in_err-sign.field-0.0 c.sign.new.self (c.in_err-sign.ensures.read free))

pub loop-turn-preserved : goal.loop-turn-preserved
loop-turn-preserved c =
    record {
      closed = more_closed c.args.count c.loop-turn._turn c.args.self.now c.loop-turn.self c.loop-turn.invariant.closed c.loop-turn-test.true c.sign.new.self c.in_ok-sign.ensures.read;
      within = omega (arith, c.loop-turn.invariant.within, c.in_ok-sign.ensures.shorter);
    }

pub returns-clause-read : goal.returns-clause-read
returns-clause-read c = all_closed c.args.count c.loop-turn._turn c.args.self.now c.loop-turn.self c.loop-turn.invariant.closed (omega arith)
