-- Two numbers with a space between, or the bytes are no ends.
use Rattle.script_reader.proofs.QuestionLemmas.{no_first, no_first_number, no_end_number}
use Rattle.script_reader.proofs.forms.ends_of.Goals as goal

pub returns-in_err-first : goal.returns-in_err-first
returns-in_err-first c = rw c.from_residual.ensures (no_first c.args.bytes.now c.in_err-first.ensures)

pub returns-in_err-number : goal.returns-in_err-number
returns-in_err-number c =
    rw c.from_residual-in_err-number.ensures
    (no_first_number c.args.bytes.now c.in_ok-first.first.now c.in_ok-first.end.now
    c.in_ok-first.ensures.0 c.in_ok-first.ensures.1 c.in_err-number.ensures)

pub returns-in_err-number-2 : goal.returns-in_err-number-2
returns-in_err-number-2 c =
    rw c.from_residual-in_err-number-2.ensures
    (no_end_number c.args.bytes.now c.in_ok-first.first.now c.in_ok-first.end.now
    c.in_ok-first.ensures.0 c.in_ok-first.ensures.1 c.in_err-number-2.ensures)
