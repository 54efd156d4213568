use Rattle.std.proofs.Common.{arith, take, ◌++◌}
use Rattle.cyk_io.specs.Streams.{coming}
use Rattle.cyk_io.proofs.AheadLemmas.{takes_held}
use Rattle.cyk_io.proofs.BlocksLemmas.{kept_more-append, rest_of_block}
use Rattle.cyk_io.proofs.StreamsLemmas.{Takes-append, Takes-stays}
use Rattle.cyk_io.proofs.block.read_exact_n.Goals as goal

pub loop-rest-preserved : goal.loop-rest-preserved
loop-rest-preserved g c =
    let so_far = c.loop-rest.invariant.taken in
    let n = c.take_held.result in
    let held = c.refill.new.ahead.held in
    let left = g.S.Source.left c.refill.new.source in
    let began = coming c.args.ahead.now (g.S.Source.left c.args.source.now) in
    let refilled = coming c.refill.new.ahead left in
    let counts = c.take_held.ensures.count in
    let first = Takes-stays began _ refilled so_far.0 so_far.1 c.refill.ensures.bytes in
    let second = takes_held c.refill.new.ahead c.take_held.new.ahead left n c.take_held.ensures.held in
    record {
      taken = (
        so_far.0 ++ take n held,
        Takes-append began refilled (coming c.take_held.new.ahead left) so_far.0 (take n held) first second,
        rest_of_block so_far.0 held n c.loop-rest.rest c.args.count counts.2 counts.1 so_far.2,
        kept_more-append _ so_far.0 (take n held) _ _ so_far.3 c.take_held.ensures.items,
      );
      offset = omega (arith, c.refill.ensures.offset, c.take_held.ensures.offset);
      room = λ kept. c.take_held.ensures.fits kept;
      later = omega (arith, c.refill.ensures.cause.later);
    }
