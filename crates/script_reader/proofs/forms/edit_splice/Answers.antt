-- A line that begins with `edit` tells the splice that the rest spells.
use Rattle.script_reader.proofs.QuestionLemmas.{no_edit}
use Rattle.script_reader.proofs.forms.edit_splice.Goals as goal

pub returns-in_err-behind : goal.returns-in_err-behind
returns-in_err-behind c =
    rw c.from_residual.ensures
    (no_edit c.args.line.now c.as_slice.result.now c.as_slice.ensures c.in_err-behind.ensures)
