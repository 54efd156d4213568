use Rattle.std.proofs.Common.{◌≤◌, length}
use Rattle.binary_form.specs.NullableNumbers.{AreNullableFrom}
use Rattle.binary_form.proofs.nullable.flag_suffixes.Given as goal

-- the flags of the suffixes from this one on are right
abbrev pub invariant-loop-number : goal.invariant-loop-number
invariant-loop-number l = record {
  flags : AreNullableFrom l.grammar l.number (l.flags).items;
  within : l.number ≤ length l.rows;
}

abbrev pub decreases-loop-number : goal.decreases-loop-number
decreases-loop-number l = l.number
