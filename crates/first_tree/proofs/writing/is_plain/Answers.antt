-- One byte more is printed as it is.
use Rattle.std.proofs.Common.{◌≡◌, ℕ, List, subst, arith}
use Rattle.std.proofs.lemmas.List.{take_all}
use Rattle.spec_text.specs.Escapes.{printed}
use Rattle.first_tree.proofs.PrintedLemmas.{plain_more}
use Rattle.first_tree.proofs.writing.is_plain.Goals as goal

pub loop-byte-preserved : goal.loop-byte-preserved
loop-byte-preserved c =
    plain_more c.args.bytes.now c.loop-byte.byte-index c.loop-byte-test.true
    (c.is_plain_byte.ensures c.if-not-is_plain_byte.false) c.loop-byte.invariant

pub returns : goal.returns
returns c = λ whole.
    let P : List ℕ → Type 0 = λ bytes. printed bytes ≡ bytes in
    subst P (take_all c.loop-byte.byte-index c.args.bytes.now (omega arith)) c.loop-byte.invariant
