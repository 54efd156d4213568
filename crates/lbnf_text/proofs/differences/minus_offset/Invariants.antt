use Rattle.std.proofs.Common.{◌≡◌, drop, slice_get}
use Rattle.spec_lbnf.specs.Differences.{minus_signs}
use Rattle.lbnf_text.proofs.differences.minus_offset.Given as goal

-- the sign that is looked for comes among those that are left
abbrev pub invariant-loop-token : goal.invariant-loop-token
invariant-loop-token l =
    slice_get (minus_signs (drop l.token-index l.tokens)) l.left ≡ slice_get (minus_signs l.tokens) l.number
