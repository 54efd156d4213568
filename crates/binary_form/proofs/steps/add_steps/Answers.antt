use Rattle.binary_form.proofs.StepLemmas.{adds_steps}
use Rattle.binary_form.proofs.steps.add_steps.Goals as goal

pub returns : goal.returns
returns c =
    adds_steps c.args.nullable.now c.args.row.now c.args.suffix c.args.links.now c.add_if.new.self
    c.add_if-2.new.self c.add_if-3.new.self c.is_rest_nullable-empty.result c.is_item_passed-passed.result
    c.is_rest_nullable-empty.ensures c.is_item_passed-passed.ensures c.in_ok-add_if.ensures.ok
    c.in_ok-add_if-2.ensures.ok c.in_ok-add_if-3.ensures.ok
