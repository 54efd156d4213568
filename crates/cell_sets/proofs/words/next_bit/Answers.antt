use Rattle.std.proofs.Common.{arith}
use Rattle.cell_sets.proofs.WordsLemmas.{next_found, next_behind, none_next}
use Rattle.cell_sets.proofs.words.next_bit.Goals as goal

pub returns-in-Some : goal.returns-in-Some
returns-in-Some c =
    next_found c.args.words.now c.loop-k.k c.loop-k.from c.in-Some.bit c.args.symbol
    c.in-Some.ensures.0 c.in-Some.ensures.1 c.in-Some.ensures.2 c.in-Some.ensures.3
    c.loop-k.invariant.1 c.loop-k.invariant.2

pub loop-k-preserved : goal.loop-k-preserved
loop-k-preserved c = (
  omega arith,
  omega (arith, c.loop-k.invariant.0, c.loop-k.invariant.1),
  next_behind c.args.words.now c.loop-k.k c.loop-k.from c.args.symbol c.in_default.ensures
      c.loop-k.invariant.2,
)

pub returns : goal.returns
returns c =
    none_next c.args.words.now c.loop-k.k c.loop-k.from c.args.symbol c.loop-k-test.false
    c.loop-k.invariant.2
