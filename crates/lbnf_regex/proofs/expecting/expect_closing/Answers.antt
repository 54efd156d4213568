-- A closing text is entered at its beginning.
use Rattle.std.proofs.Common.{IsTrue}
use Rattle.std.specs.List.{Contains}
use Rattle.std.proofs.lemmas.Result.{on_ok_weaker}
use Rattle.lbnf_regex.proofs.ExpectingLemmas.{adds_closing}
use Rattle.lbnf_regex.proofs.expecting.expect_closing.Goals as goal

pub returns : goal.returns
returns c =
    on_ok_weaker c.expect_inside.result
    (adds_closing c.args.closing.now c.args.first (IsTrue c.args.entered) (Contains c.args.marks.now) c.args.into.now
    c.expect_first.new.into c.expect_inside.new.into c.in_ok-expect_first.ensures)
    c.expect_inside.ensures
