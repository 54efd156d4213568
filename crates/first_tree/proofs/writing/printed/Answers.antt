-- One byte more is printed.
use Rattle.std.proofs.Common.{◌++◌, get_or, sym, ◌∙◌, ap, arith}
use Rattle.std.proofs.lemmas.List.{take_all}
use Rattle.spec_text.specs.Escapes.{printed, printed_byte}
use Rattle.first_tree.proofs.PrintedLemmas.{printed_more}
use Rattle.first_tree.proofs.writing.printed.Goals as goal

pub loop-byte-preserved : goal.loop-byte-preserved
loop-byte-preserved c =
    c.in_ok-push_printed.ensures
    ∙ ap (λ text. text ++ printed_byte (get_or c.args.bytes.now c.loop-byte.byte-index 0)) c.loop-byte.invariant
    ∙ sym (printed_more c.args.bytes.now c.loop-byte.byte-index c.loop-byte-test.true)

pub returns : goal.returns
returns c =
    c.loop-byte.invariant ∙ ap printed (take_all c.loop-byte.byte-index c.args.bytes.now (omega arith))
