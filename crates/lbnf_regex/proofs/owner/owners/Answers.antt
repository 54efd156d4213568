-- The owners of one kind stand before those of the kinds that are left.
use Rattle.std.proofs.Common.{◌+◌, ℕ, List, replicate, map, drop, arith, sym, ◌∙◌, append_assoc}
use Rattle.std.proofs.lemmas.List.{append-nil}
use Rattle.spec_automata.specs.ByteExpressions.{ByteExpression}
use Rattle.spec_automata.specs.Positions.{position_count}
use Rattle.lbnf_regex.specs.Owners.{owner_of, owners_from}
use Rattle.lbnf_regex.specs.Patterns.{bytes_of_pattern}
use Rattle.lbnf_regex.proofs.ExpectingLemmas.{parts_more, parts_end}
use Rattle.lbnf_regex.proofs.owner.owners.Goals as goal

pub loop-place-preserved : goal.loop-place-preserved
loop-place-preserved c =
    let kinds = c.args.kinds.now in
    let i : ℕ = c.loop-place.place in
    let kind = c.index-kinds-place.result in
    let more = parts_more kinds i kind c.loop-place-test.true c.index-kinds-place.is in
    let room = rw more at c.loop-place.invariant.room in
    let count : ℕ = position_count (bytes_of_pattern kind) in
    let first : ℕ = c.loop-place.first in
    let left : List ByteExpression = map bytes_of_pattern (drop (i + 1) kinds) in
    record {
      room = omega (arith, room, c.size-count.ensures);
      rest =
          rw (c.in_ok-push_owner.ensures, c.size-count.ensures)
          (append_assoc c.loop-place.owners (replicate count (owner_of i first)) (owners_from left (i + 1) (first + count))
          ∙ (rw more at c.loop-place.invariant.rest));
    }

pub returns : goal.returns
returns c =
    let left = parts_end c.args.kinds.now c.loop-place.place c.loop-place-test.false in
    sym (append-nil c.loop-place.owners) ∙ (rw left at c.loop-place.invariant.rest)
