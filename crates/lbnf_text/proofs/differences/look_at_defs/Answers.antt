use Rattle.std.proofs.Common.{◌≡◌, ◌<◌, ◌≤◌, length, get_or, arith}
use Rattle.std.proofs.lemmas.Result.{err_from_is_err_and}
use Rattle.spec_lbnf.specs.declared.definition.Def.{Def}
use Rattle.lbnf_text.proofs.DifferenceLemmas.{next_def, no_more_defs, looked_at_bad, more_looked_at, all_looked_at}
use Rattle.lbnf_text.proofs.differences.look_at_defs.Goals as goal

pub returns-in_err-number : goal.returns-in_err-number
returns-in_err-number c =
    let p = err_from_is_err_and c.from_residual.result c.from_residual.ensures.1 in
    let x : Def = c.def-item.result in
    let is : get_or c.args.defs.now c.loop-def.def-index x ≡ x = cc in
    let split = next_def c.args.defs.now c.loop-def.def-index x (omega arith) is in
    rw (p.1, p.2) (looked_at_bad _ _ _ _ 0 c.loop-def.number c.loop-def.invariant split c.in_err-number.field-0.0 c.in_err-number.ensures)

pub loop-def-preserved : goal.loop-def-preserved
loop-def-preserved c =
    let x : Def = c.def-item.result in
    let is : get_or c.args.defs.now c.loop-def.def-index x ≡ x = cc in
    let split = next_def c.args.defs.now c.loop-def.def-index x (omega arith) is in
    more_looked_at _ _ _ _ 0 c.loop-def.number c.loop-def.invariant split c.in_ok-number.number c.in_ok-number.ensures

pub returns : goal.returns
returns c = all_looked_at _ _ 0 c.loop-def.number c.loop-def.invariant (no_more_defs c.args.defs.now c.loop-def.def-index (omega arith))
