-- One byte stands behind those so far, and in the end all have come.
use Rattle.std.proofs.Common.{◌<◌, arith}
use Rattle.lbnf_regex.specs.declared.next_byte.NextByte.TheVariants.{InComment}
use Rattle.lbnf_regex.specs.Steps.{LeadsTo}
use Rattle.lbnf_regex.proofs.SetLemmas.{adds_like, comment_more}
use Rattle.lbnf_regex.proofs.targets.Targets.add_comment.Goals as goal

pub loop-byte-preserved : goal.loop-byte-preserved
loop-byte-preserved c =
    comment_more c.args.first c.args.closing.now c.args.size c.loop-byte.byte c.border-longer.result c.args.self.now
    c.loop-byte.self c.add.new.self c.border-longer.ensures c.loop-byte.invariant c.in_ok-add.ensures

pub returns : goal.returns
returns c =
    let next = InComment c.args.first c.args.closing.now c.args.size in
    adds_like (λ b p. (b < c.loop-byte.byte) × LeadsTo next b p) (LeadsTo next) c.args.self.now c.loop-byte.self
    (λ b p lt. (λ h. h.1, λ h. (omega (arith, lt, c.loop-byte-test.false), h))) c.loop-byte.invariant
