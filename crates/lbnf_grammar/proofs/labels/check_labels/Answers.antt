use Rattle.std.proofs.Common.{arith}
use Rattle.spec_lbnf.specs.Checks.{IsWellLabelled}
use Rattle.lbnf_grammar.proofs.CountLemmas.{few_defs}
use Rattle.lbnf_grammar.proofs.LabelLemmas.{coercion_first, list_first, more_labelled, all_hold}
use Rattle.lbnf_grammar.proofs.labels.check_labels.Goals as goal

pub overflow_cast-def : goal.overflow_cast-def
overflow_cast-def c = omega (arith, few_defs c.args.defs.now)

pub returns-in-Some-Coercion : goal.returns-in-Some-Coercion
returns-in-Some-Coercion c =
    let bad = rw (c.in-Some-Coercion.is, c.in-Some-Coercion.field-0-is) at c.label_fault.ensures in
    coercion_first c.args.defs.now c.loop-number.number c.index-defs-number.result
    c.loop-number-test.true c.index-defs-number.is c.loop-number.invariant bad

pub returns-in-Some-List : goal.returns-in-Some-List
returns-in-Some-List c =
    let bad = rw (c.in-Some-List.is, c.in-Some-List.field-0-is) at c.label_fault.ensures in
    list_first c.args.defs.now c.loop-number.number c.index-defs-number.result
    c.loop-number-test.true c.index-defs-number.is c.loop-number.invariant bad

pub loop-number-preserved : goal.loop-number-preserved
loop-number-preserved c =
    let well = rw c.in-None.is at c.label_fault.ensures in
    more_labelled c.args.defs.now c.loop-number.number c.index-defs-number.result
    c.loop-number-test.true c.index-defs-number.is c.loop-number.invariant well

pub returns : goal.returns
returns c = all_hold IsWellLabelled c.args.defs.now (λ k def lt at. c.loop-number.invariant k def (omega arith) at)
