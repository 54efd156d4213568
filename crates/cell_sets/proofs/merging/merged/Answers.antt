use Rattle.std.proofs.Common.{inl, inr, arith}
use Rattle.cell_sets.proofs.MergingLemmas.{nothing_merged, left_taken, right_taken, both_taken, union_merged, rising_merged}
use Rattle.cell_sets.proofs.merging.merged.Goals.{then-loop-i-test+else-j-right, else-loop-i-test}
use Rattle.cell_sets.proofs.merging.merged.Goals as goal

pub loop-i-init : goal.loop-i-init
loop-i-init c = record {
  left = omega arith;
  right = omega arith;
  merging = rw c.in_ok-both.ensures.items
      (nothing_merged c.args.left.now c.args.right.now c.requires.left c.requires.right);
}

pub loop-i-preserved-in-Less : goal.loop-i-preserved-in-Less
loop-i-preserved-in-Less c = record {
  left = omega (arith, c.loop-i-test.true);
  right = c.loop-i.invariant.right;
  merging = rw c.in_ok-push-in-Less.ensures.items
      (left_taken c.args.left.now c.args.right.now c.loop-i.both.items c.loop-i.i c.loop-i.j
      c.loop-i-test.true c.if-j-right.true c.loop-i.invariant.merging c.in-Less.ensures);
}

pub loop-i-preserved-in-Equal : goal.loop-i-preserved-in-Equal
loop-i-preserved-in-Equal c = record {
  left = omega (arith, c.loop-i-test.true);
  right = omega (arith, c.if-j-right.true);
  merging = rw c.in_ok-push-in-Equal.ensures.items
      (both_taken c.args.left.now c.args.right.now c.loop-i.both.items c.loop-i.i c.loop-i.j
      c.loop-i-test.true c.if-j-right.true c.loop-i.invariant.merging c.in-Equal.ensures);
}

pub loop-i-preserved : goal.loop-i-preserved
loop-i-preserved c = record {
  left = c.loop-i.invariant.left;
  right = omega (arith, c.if-j-right.true);
  merging = rw c.in_ok-push-in-Greater.ensures.items
      (right_taken c.args.left.now c.args.right.now c.loop-i.both.items c.loop-i.i c.loop-i.j
      c.loop-i-test.true c.if-j-right.true c.loop-i.invariant.merging c.in-Greater.ensures);
}

pub returns-clause-ok : goal.returns-clause-ok
returns-clause-ok c =
    union_merged c.args.left.now c.args.right.now c.loop-i.both.items
    c.extend_from_slice.new.self.items c.extend_from_slice-2.new.self.items c.loop-i.i c.loop-i.j
    c.in_ok-extend_from_slice.ensures.items c.in_ok-extend_from_slice-2.ensures.items
    c.loop-i.invariant.merging

pub returns-clause-rising : goal.returns-clause-rising
returns-clause-rising c =
    rising_merged c.args.left.now c.args.right.now c.loop-i.both.items
    c.extend_from_slice.new.self.items c.extend_from_slice-2.new.self.items c.loop-i.i c.loop-i.j
    c.in_ok-extend_from_slice.ensures.items c.in_ok-extend_from_slice-2.ensures.items
    c.loop-i.invariant.merging
    (elim c.loop-i-test.branch [
      | then-loop-i-test+else-j-right w ↦ inr w.if-j-right.false
      | else-loop-i-test w ↦ inl w.loop-i-test.false
    ])
