-- A character is one scalar and its closing quote.
use Rattle.lbnf_text.proofs.LiteralLemmas.{no_scalar, no_close, one_scalar}
use Rattle.lbnf_text.proofs.scanner.character.Goals as goal

pub returns-in_default : goal.returns-in_default
returns-in_default c = no_scalar c.args.text.now c.next_part.result c.in_default.not-Scalar c.next_part.ensures.part

pub returns-in_default-next_part : goal.returns-in_default-next_part
returns-in_default-next_part c =
    no_close c.args.text.now c.in-Scalar.scalar c.in-Scalar.rest.now c.next_part-2.result
    c.in_default-next_part.not-Close c.in-Scalar.ensures.part c.next_part-2.ensures.part

pub returns : goal.returns
returns c =
    one_scalar c.args.text.now c.in-Scalar.scalar c.in-Scalar.rest.now c.in-Close.behind.now
    c.in-Scalar.ensures.scalar c.in-Scalar.ensures.part c.in-Close.ensures.part
