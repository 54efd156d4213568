use Rattle.std.proofs.Common.{◌≡◌, ◌<◌, ℕ, length, slice_index_or}
use Rattle.binary_form.specs.Symbols.{first_suffix}
use Rattle.binary_form.proofs.numbering.first_suffixes.Given as goal

-- the rules so far are told, and the next one is numbered from the next number
abbrev pub invariant-loop-rule : goal.invariant-loop-rule
invariant-loop-rule l = record {
  count : length l.firsts ≡ l.rule-index;
  each : (r : ℕ) → r < l.rule-index → slice_index_or l.firsts r 0 ≡ first_suffix l.grammar r;
  next : l.next ≡ first_suffix l.grammar l.rule-index;
}
