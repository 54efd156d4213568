-- A line that begins with `tree` asks for the tree of what the rest names.
use Rattle.script_reader.proofs.QuestionLemmas.{no_tree, tree_read, no_lf_behind}
use Rattle.script_reader.proofs.forms.tree_question.Goals as goal

pub returns-in_err-behind : goal.returns-in_err-behind
returns-in_err-behind c =
    rw c.from_residual.ensures
    (no_tree c.args.line.now c.as_slice.result.now c.as_slice.ensures c.in_err-behind.ensures)

pub constituent_of-requires : goal.constituent_of-requires
constituent_of-requires c =
    no_lf_behind c.args.line.now c.as_slice.result.now c.in_ok-behind.field-0.now c.in_ok-behind.ensures c.requires

pub returns : goal.returns
returns c =
    tree_read c.args.line.now c.as_slice.result.now c.as_slice.ensures c.in_ok-behind.field-0.now
    c.in_ok-behind.ensures c.constituent_of.result c.constituent_of.ensures
