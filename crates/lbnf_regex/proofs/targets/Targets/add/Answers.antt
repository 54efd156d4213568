-- The byte is one of 256.
use Rattle.std.proofs.Common.{◌<◌, length, arith}
use Rattle.lbnf_regex.proofs.SetLemmas.{adds_at}
use Rattle.lbnf_regex.proofs.targets.Targets.add.Goals as goal

pub returns : goal.returns
returns c =
    let within : c.args.byte < length c.args.self.now =
    omega (arith, c.ranges.byte.fits, rw c.self.view_is at c.self.invariant) in
    rw c.self.view_is (adds_at c.args.self.now c.args.byte c.args.position c.index_mut.result.now c.insert.new.self within
    (rw c.self.view_is at c.index_mut.ensures.value) c.in_ok-insert.ensures)
