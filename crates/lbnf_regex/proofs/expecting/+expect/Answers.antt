-- A part stands before those that are left.
use Rattle.std.proofs.Common.{◌+◌, IsTrue, drop, map, length, ap, arith, sym, ◌∙◌}
use Rattle.std.specs.List.{Contains}
use Rattle.std.proofs.lemmas.Bool.{false≢true}
use Rattle.std.proofs.lemmas.Result.{on_ok_weaker}
use Rattle.spec_automata.specs.ByteExpressions.{empty, nothing}
use Rattle.spec_automata.specs.Encoding.{one_of_these, these_in_turn}
use Rattle.spec_automata.specs.Positions.{position_count}
use Rattle.lbnf_regex.specs.Patterns.{bytes_of_pattern}
use Rattle.lbnf_regex.specs.Steps.{AddsExpected}
use Rattle.lbnf_regex.proofs.PatternLemmas.{pattern-Bytes, pattern-Literal, pattern-Seq, pattern-Alt, pattern-Star, pattern-Plus, pattern-Until}
use Rattle.lbnf_regex.proofs.ExpectingLemmas.{parts_more, parts_end, adds_none, adds_dead, adds_in_turn, adds_either, adds_star, adds_plus}
use Rattle.lbnf_regex.proofs.LiteralLemmas.{literal_count}
use Rattle.lbnf_regex.proofs.expecting.+expect.Goals as goal

pub expect_in_turn-loop-part-preserved : goal.expect_in_turn-loop-part-preserved
expect_in_turn-loop-part-preserved t c =
    let parts = c.args.parts.now in
    let i = c.loop-part.part-index in
    let part = c.part-item.result in
    let more = parts_more parts i part c.loop-part-test.true c.part-item.is in
    let room = rw more at c.loop-part.invariant.room in
    let rest = rw more at c.loop-part.invariant.rest in
    record {
      room = omega (arith, room, c.size-start.ensures);
      rest = λ new adds.
          rest new
          (adds_in_turn (bytes_of_pattern part) (these_in_turn (map bytes_of_pattern (drop (i + 1) parts))) c.loop-part.start
          (c.loop-part.start + c.size-start.result) (IsTrue c.loop-part.enters) (Contains c.args.marks.now)
          (omega (arith, c.size-start.ensures)) c.loop-part.into c.expect.new.into new
          (IsTrue c.enters_behind-enters.result) c.enters_behind-enters.ensures c.in_ok-expect.ensures adds);
    }

pub expect_in_turn-returns : goal.expect_in_turn-returns
expect_in_turn-returns t c =
    let left = parts_end c.args.parts.now c.loop-part.part-index c.loop-part-test.false in
    c.loop-part.invariant.rest c.loop-part.into
    (rw left
    (adds_none empty c.loop-part.start (IsTrue c.loop-part.enters) (Contains c.args.marks.now) c.loop-part.into (λ next h. h)))

pub expect_one_of-loop-part-preserved : goal.expect_one_of-loop-part-preserved
expect_one_of-loop-part-preserved t c =
    let parts = c.args.parts.now in
    let i = c.loop-part.part-index in
    let part = c.part-item.result in
    let x = bytes_of_pattern part in
    let start = c.loop-part.start in
    let M = Contains c.args.marks.now in
    let more = parts_more parts i part c.loop-part-test.true c.part-item.is in
    let room = rw more at c.loop-part.invariant.room in
    let rest = rw more at c.loop-part.invariant.rest in
    let own : AddsExpected x start (IsTrue c.args.entered) M c.loop-part.into c.if-is_alive.into =
    elim c.if-is_alive.branch [
      | goal.expect_one_of-then-is_alive+in_ok-expect w ↦ rw w.into-is w.in_ok-expect.ensures
      | goal.expect_one_of-else-is_alive w ↦
          rw w.into-is
          (adds_dead x start c.size-count.result (IsTrue c.args.entered) M c.loop-part.into c.size-count.ensures
          (λ alive. false≢true (sym w.if-is_alive.false ∙ c.is_alive.ensures.1 alive)))
    ] in
    record {
      room = omega (arith, room, c.size-count.ensures);
      rest = λ new adds.
          rest new
          (adds_either x (one_of_these (map bytes_of_pattern (drop (i + 1) parts))) start
          (start + c.size-count.result) (IsTrue c.args.entered) M
          (omega (arith, c.size-count.ensures)) c.loop-part.into c.if-is_alive.into new own adds);
    }

pub expect_one_of-returns : goal.expect_one_of-returns
expect_one_of-returns t c =
    let left = parts_end c.args.parts.now c.loop-part.part-index c.loop-part-test.false in
    c.loop-part.invariant.rest c.loop-part.into
    (rw left
    (adds_none nothing c.loop-part.start (IsTrue c.args.entered) (Contains c.args.marks.now) c.loop-part.into (λ next h. h)))

pub expect-returns-in-Seq : goal.expect-returns-in-Seq
expect-returns-in-Seq t c =
    rw (ap bytes_of_pattern c.in-Seq.is ∙ pattern-Seq c.in-Seq.parts) (rw c.as_slice-in-Seq.ensures at c.expect_in_turn.ensures)

pub expect-returns-in-Alt : goal.expect-returns-in-Alt
expect-returns-in-Alt t c =
    rw (ap bytes_of_pattern c.in-Alt.is ∙ pattern-Alt c.in-Alt.parts) (rw c.as_slice-in-Alt.ensures at c.expect_one_of.ensures)

pub expect-returns-in-Bytes : goal.expect-returns-in-Bytes
expect-returns-in-Bytes t c =
    rw (ap bytes_of_pattern c.in-Bytes.is ∙ pattern-Bytes c.in-Bytes.set) (rw c.as_slice.ensures at c.expect_set.ensures)

pub expect-returns-in-Literal : goal.expect-returns-in-Literal
expect-returns-in-Literal t c =
    rw (ap bytes_of_pattern c.in-Literal.is ∙ pattern-Literal c.in-Literal.bytes)
    (rw c.as_slice-in-Literal.ensures at c.expect_literal.ensures)

pub expect-returns-in-Star : goal.expect-returns-in-Star
expect-returns-in-Star t c =
    let enters = rw c.get-inner.ensures at c.enters_again-enters.ensures in
    let adds = rw c.get-inner.ensures at c.expect.ensures in
    rw (ap bytes_of_pattern c.in-Star.is ∙ pattern-Star c.in-Star.part)
    (on_ok_weaker c.expect.result
    (adds_star (bytes_of_pattern c.in-Star.part) c.args.first (IsTrue c.args.entered) (IsTrue c.enters_again-enters.result)
    (Contains c.args.marks.now) enters c.args.into.now c.expect.new.into)
    adds)

pub expect-returns-in-Plus : goal.expect-returns-in-Plus
expect-returns-in-Plus t c =
    let enters = rw c.get-inner-in-Plus.ensures at c.enters_again-enters-in-Plus.ensures in
    let adds = rw c.get-inner-in-Plus.ensures at c.expect-in-Plus.ensures in
    rw (ap bytes_of_pattern c.in-Plus.is ∙ pattern-Plus c.in-Plus.part)
    (on_ok_weaker c.expect-in-Plus.result
    (adds_plus (bytes_of_pattern c.in-Plus.part) c.args.first (IsTrue c.args.entered)
    (IsTrue c.enters_again-enters-in-Plus.result) (Contains c.args.marks.now) enters c.args.into.now
    c.expect-in-Plus.new.into)
    adds)

pub expect-returns-in-Until : goal.expect-returns-in-Until
expect-returns-in-Until t c =
    rw (ap bytes_of_pattern c.in-Until.is ∙ pattern-Until c.in-Until.closing) (rw c.as_slice-in-Until.ensures at c.expect_closing.ensures)

pub expect-expect_literal-requires : goal.expect-expect_literal-requires
expect-expect_literal-requires t c =
    let bytes = c.in-Literal.bytes in
    let count = ap position_count (ap bytes_of_pattern c.in-Literal.is ∙ pattern-Literal bytes) ∙ literal_count bytes in
    omega (arith, c.requires, count, ap length c.as_slice-in-Literal.ensures)
