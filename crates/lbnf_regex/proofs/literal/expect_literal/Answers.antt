-- The bytes are entered at their beginning, or go on behind a mark.
use Rattle.std.proofs.Common.{IsTrue}
use Rattle.std.specs.List.{Contains}
use Rattle.std.proofs.lemmas.Result.{on_ok_weaker}
use Rattle.lbnf_regex.proofs.LiteralLemmas.{adds_literal}
use Rattle.lbnf_regex.proofs.literal.expect_literal.Goals as goal

pub returns : goal.returns
returns c =
    on_ok_weaker c.expect_inside.result
    (adds_literal c.args.bytes.now c.args.first (IsTrue c.args.entered) (Contains c.args.marks.now) c.args.into.now
    c.expect_start.new.into c.expect_inside.new.into c.in_ok-expect_start.ensures)
    c.expect_inside.ensures
