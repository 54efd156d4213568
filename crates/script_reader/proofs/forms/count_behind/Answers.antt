-- The count is the number behind the beginning, where it is within the bound.
use Rattle.script_reader.proofs.FormsLemmas.{count_above, count_none}
use Rattle.script_reader.proofs.forms.count_behind.Goals as goal

pub returns-in_err-behind : goal.returns-in_err-behind
returns-in_err-behind c = rw c.from_residual.ensures (λ n small within spelled. c.in_err-behind.ensures _ spelled)

pub returns-in_default : goal.returns-in_default
returns-in_default c =
    count_above c.args.line.now c.args.beginning.now c.in_ok-behind.field-0.now c.args.most
    c.in-Some.count c.in_ok-behind.ensures c.in-Some.ensures.0 c.in-Some.ensures.1 c.if-count-most.false

pub returns-in_default-2 : goal.returns-in_default-2
returns-in_default-2 c =
    count_none c.args.line.now c.args.beginning.now c.in_ok-behind.field-0.now c.args.most
    c.in_ok-behind.ensures c.in_default.ensures
