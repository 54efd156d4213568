use Rattle.std.proofs.Common.{◌≡◌, ◌<◌, ◌≤◌, length, get_or, refl, arith, rules}
use Rattle.std.proofs.lemmas.Bool.{false≢true}
use Rattle.std.proofs.lemmas.Result.{err_from_is_err_and}
use Rattle.spec_lexing.specs.declared.expression.Expr.{Expr}
use Rattle.lbnf_text.proofs.DifferenceLemmas.{minus_left, minus_bad, minus_right, next_number, seq_is, alt_is, next_expr, no_more_exprs, none_looked_at, looked_at_bad, more_looked_at, all_looked_at}
use Rattle.lbnf_text.proofs.differences.+look_at.Goals as goal

pub returns-in_err-number-in-Minus : goal.returns-in_err-number-in-Minus
returns-in_err-number-in-Minus t c =
    let p = err_from_is_err_and c.from_residual.result c.from_residual.ensures.1 in
    rw (p.1, p.2, c.in-Minus.is) (minus_left c.in-Minus.left c.in-Minus.right c.args.before c.in_err-number-in-Minus.field-0.0 c.in_err-number-in-Minus.field-0.0 (rw c.get.ensures at c.in_err-number-in-Minus.ensures))

pub returns-then-not-is_good : goal.returns-then-not-is_good
returns-then-not-is_good t c =
    let bad = rw (c.get-in-Minus.ensures, c.get-in-Minus-2.ensures) at c.if-not-is_good.ensures in
    rw c.in-Minus.is (minus_bad c.in-Minus.left c.in-Minus.right c.args.before c.in_ok-number-in-Minus.number (rw c.get.ensures at c.in_ok-number-in-Minus.ensures) (λ good. false≢true (bad.1 good)))

pub overflow_add-number : goal.overflow_add-number
overflow_add-number t c =
    let looks = rw c.get.ensures at c.in_ok-number-in-Minus.ensures in
    let fits = next_number c.in-Minus.left c.in-Minus.right c.args.before c.in_ok-number-in-Minus.number (rw c.in-Minus.is at c.requires) looks.1 in
    record { fits = fits }

pub returns-else-not-is_good : goal.returns-else-not-is_good
returns-else-not-is_good t c =
    let good = rw (c.get-in-Minus.ensures, c.get-in-Minus-2.ensures) at c.if-not-is_good.ensures in
    rw c.in-Minus.is (minus_right c.in-Minus.left c.in-Minus.right c.args.before c.in_ok-number-in-Minus.number c.look_at-in-Minus.result (rw c.get.ensures at c.in_ok-number-in-Minus.ensures) (good.0 refl) (rw c.get-in-Minus-3.ensures at c.look_at-in-Minus.ensures))

pub loop-part-init : goal.loop-part-init
loop-part-init t c =
    rw (c.in-Seq.is, seq_is c.in-Seq.parts, c.as_slice-part-items.ensures) (none_looked_at _ c.args.before)

pub returns-in_err-number-in-Seq : goal.returns-in_err-number-in-Seq
returns-in_err-number-in-Seq t c =
    let p = err_from_is_err_and c.from_residual-in_err-number-in-Seq.result c.from_residual-in_err-number-in-Seq.ensures.1 in
    let x : Expr = c.part-item.result in
    let is : get_or c.as_slice-part-items.result.now c.loop-part.part-index x ≡ x = cc in
    let split = next_expr c.as_slice-part-items.result.now c.loop-part.part-index x (omega arith) is in
    rw (p.1, p.2) (looked_at_bad _ _ _ _ c.args.before c.loop-part.number c.loop-part.invariant split c.in_err-number-in-Seq.field-0.0 c.in_err-number-in-Seq.ensures)

pub loop-part-preserved : goal.loop-part-preserved
loop-part-preserved t c =
    let x : Expr = c.part-item.result in
    let is : get_or c.as_slice-part-items.result.now c.loop-part.part-index x ≡ x = cc in
    let split = next_expr c.as_slice-part-items.result.now c.loop-part.part-index x (omega arith) is in
    more_looked_at _ _ _ _ c.args.before c.loop-part.number c.loop-part.invariant split c.in_ok-number-in-Seq.number c.in_ok-number-in-Seq.ensures

pub returns-after-loop-part : goal.returns-after-loop-part
returns-after-loop-part t c =
    all_looked_at _ _ c.args.before c.loop-part.number c.loop-part.invariant (no_more_exprs c.as_slice-part-items.result.now c.loop-part.part-index (omega arith))

pub loop-part-2-init : goal.loop-part-2-init
loop-part-2-init t c =
    rw (c.in-Alt.is, alt_is c.in-Alt.parts, c.as_slice-part-items-in-Alt.ensures) (none_looked_at _ c.args.before)

pub returns-in_err-number-in-Alt : goal.returns-in_err-number-in-Alt
returns-in_err-number-in-Alt t c =
    let p = err_from_is_err_and c.from_residual-in_err-number-in-Alt.result c.from_residual-in_err-number-in-Alt.ensures.1 in
    let x : Expr = c.part-item-in-loop-part-2.result in
    let is : get_or c.as_slice-part-items-in-Alt.result.now c.loop-part-2.part-index x ≡ x = cc in
    let split = next_expr c.as_slice-part-items-in-Alt.result.now c.loop-part-2.part-index x (omega arith) is in
    rw (p.1, p.2) (looked_at_bad _ _ _ _ c.args.before c.loop-part-2.number c.loop-part-2.invariant split c.in_err-number-in-Alt.field-0.0 c.in_err-number-in-Alt.ensures)

pub loop-part-2-preserved : goal.loop-part-2-preserved
loop-part-2-preserved t c =
    let x : Expr = c.part-item-in-loop-part-2.result in
    let is : get_or c.as_slice-part-items-in-Alt.result.now c.loop-part-2.part-index x ≡ x = cc in
    let split = next_expr c.as_slice-part-items-in-Alt.result.now c.loop-part-2.part-index x (omega arith) is in
    more_looked_at _ _ _ _ c.args.before c.loop-part-2.number c.loop-part-2.invariant split c.in_ok-number-in-Alt.number c.in_ok-number-in-Alt.ensures

pub returns-after-loop-part-2 : goal.returns-after-loop-part-2
returns-after-loop-part-2 t c =
    all_looked_at _ _ c.args.before c.loop-part-2.number c.loop-part-2.invariant (no_more_exprs c.as_slice-part-items-in-Alt.result.now c.loop-part-2.part-index (omega arith))
