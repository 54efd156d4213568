-- A number, a space and two numbers, or the bytes tell no splice.
use Rattle.script_reader.proofs.QuestionLemmas.{no_place, no_place_number, no_counts}
use Rattle.script_reader.proofs.forms.splice_of.Goals as goal

pub returns-in_err-place : goal.returns-in_err-place
returns-in_err-place c = rw c.from_residual.ensures (no_place c.args.bytes.now c.in_err-place.ensures)

pub returns-in_err-at : goal.returns-in_err-at
returns-in_err-at c =
    rw c.from_residual-in_err-at.ensures
    (no_place_number c.args.bytes.now c.in_ok-place.place.now c.in_ok-place.rest.now
    c.in_ok-place.ensures.0 c.in_ok-place.ensures.1 c.in_err-at.ensures)

pub returns-in_err-deleted : goal.returns-in_err-deleted
returns-in_err-deleted c =
    rw c.from_residual-in_err-deleted.ensures
    (no_counts c.args.bytes.now c.in_ok-place.place.now c.in_ok-place.rest.now
    c.in_ok-place.ensures.0 c.in_ok-place.ensures.1 c.in_err-deleted.ensures)
