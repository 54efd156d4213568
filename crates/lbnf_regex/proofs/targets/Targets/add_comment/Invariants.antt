use Rattle.std.proofs.Common.{◌<◌}
use Rattle.lbnf_regex.specs.declared.next_byte.NextByte.TheVariants.{InComment}
use Rattle.lbnf_regex.specs.Sets.{AddsTargets}
use Rattle.lbnf_regex.specs.Steps.{LeadsTo}
use Rattle.lbnf_regex.proofs.targets.Targets.add_comment.Given as goal

-- the bytes so far lead to where they do inside the comment
abbrev pub invariant-loop-byte : goal.invariant-loop-byte
invariant-loop-byte l =
    AddsTargets (λ b p. (b < l.byte) × LeadsTo (InComment l.first l.closing l.size) b p) l.fn.self l.self
