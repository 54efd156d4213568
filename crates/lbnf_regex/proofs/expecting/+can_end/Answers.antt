-- A part stands before those that are left.
use Rattle.std.proofs.Common.{◌+◌, IsTrue, drop, map, length, arith, ap, sym, ◌∙◌}
use Rattle.std.specs.List.{Contains}
use Rattle.std.proofs.lemmas.Bool.{false≢true}
use Rattle.spec_automata.specs.Encoding.{one_of_these}
use Rattle.spec_automata.specs.Encoding.{these_in_turn}
use Rattle.spec_automata.specs.Positions.{position_count}
use Rattle.lbnf_regex.specs.Patterns.{bytes_of_pattern}
use Rattle.lbnf_regex.specs.Steps.{HasLast}
use Rattle.lbnf_regex.proofs.ExpectingLemmas.{parts_more, can_end_more, either_more}
use Rattle.lbnf_regex.proofs.LiteralLemmas.{literal_count}
use Rattle.lbnf_regex.proofs.PatternLemmas.{pattern-Literal}
use Rattle.lbnf_regex.proofs.expecting.+can_end.Goals as goal

pub loop-part-preserved : goal.loop-part-preserved
loop-part-preserved t c =
    let parts = c.as_slice-part-items.result.now in
    let i = c.loop-part.part-index in
    let part = c.part-item.result in
    let more = parts_more parts i part c.loop-part-test.true c.part-item.is in
    let room = rw more at c.loop-part.invariant.room in
    let rest = rw more at c.loop-part.invariant.rest in
    record {
      room = omega (arith, room, c.size-start.ensures);
      rest =
          can_end_more (bytes_of_pattern part) (these_in_turn (map bytes_of_pattern (drop (i + 1) parts))) c.loop-part.start
          (c.loop-part.start + c.size-start.result) (Contains c.args.marks.now)
          (HasLast (bytes_of_pattern c.args.pattern.now) c.args.first (Contains c.args.marks.now))
          (IsTrue c.can_end-own.result) (IsTrue c.loop-part.ends) (IsTrue c.ends_behind-ends.result)
          (omega (arith, c.size-start.ensures)) c.can_end-own.ensures (rw c.is_nullable.ensures at c.ends_behind-ends.ensures) rest;
    }

pub loop-part-2-preserved : goal.loop-part-2-preserved
loop-part-2-preserved t c =
    let parts = c.as_slice-part-items-in-Alt.result.now in
    let i = c.loop-part-2.part-index in
    let part = c.part-item-in-loop-part-2.result in
    let more = parts_more parts i part c.loop-part-2-test.true c.part-item-in-loop-part-2.is in
    let room = rw more at c.loop-part-2.invariant.room in
    let rest = rw more at c.loop-part-2.invariant.rest in
    record {
      room = omega (arith, room, c.size-start-in-loop-part-2.ensures);
      rest =
          either_more (bytes_of_pattern part) (one_of_these (map bytes_of_pattern (drop (i + 1) parts))) c.loop-part-2.start
          (c.loop-part-2.start + c.size-start-in-loop-part-2.result) (Contains c.args.marks.now)
          (HasLast (bytes_of_pattern c.args.pattern.now) c.args.first (Contains c.args.marks.now))
          (omega (arith, c.size-start-in-loop-part-2.ensures))
          (λ h. false≢true (sym c.if-can_end.false ∙ c.can_end.ensures.1 h)) rest;
    }

pub ends_literal-requires : goal.ends_literal-requires
ends_literal-requires t c =
    let bytes = c.in-Literal.bytes in
    let count = ap position_count (ap bytes_of_pattern c.in-Literal.is ∙ pattern-Literal bytes) ∙ literal_count bytes in
    omega (arith, c.requires, count, ap length c.as_slice.ensures)
