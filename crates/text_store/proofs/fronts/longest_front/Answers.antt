-- One byte more leads nowhere, or to the next state.
use Rattle.std.proofs.Common.{◌∙◌, sym, ap, arith}
use Rattle.text_store.specs.Lexing.{kind_in}
use Rattle.text_store.proofs.FrontLemmas.{one_more, stops, best_more}
use Rattle.text_store.proofs.fronts.longest_front.Goals as goal

pub returns-in_default : goal.returns-in_default
returns-in_default c =
    stops c.args.automaton.now c.args.bytes.now c.loop-read.read c.loop-read.best c.step.result c.in_default.is
    (one_more c.args.automaton.now c.args.bytes.now c.loop-read.read c.loop-read.state c.step.result (omega arith)
    c.loop-read.invariant.leads c.step.ensures.next)
    (omega arith) c.loop-read.invariant.best

pub loop-read-preserved : goal.loop-read-preserved
loop-read-preserved c =
    let leads =
    one_more c.args.automaton.now c.args.bytes.now c.loop-read.read c.loop-read.state c.step.result (omega arith)
    c.loop-read.invariant.leads c.step.ensures.next ∙ c.in-Some.is in
    record {
      leads = leads;
      within = c.in-Some.ensures.within;
      best = rw c.front_or-best.ensures (best_more c.args.automaton.now c.args.bytes.now c.loop-read.read c.loop-read.best
          c.accepts.result c.loop-read.invariant.best (ap (kind_in c.args.automaton.now) leads ∙ sym c.accepts.ensures));
    }
