-- The numbers so far are 0.
use Rattle.std.proofs.Common.{◌≡◌, ◌<◌, ℕ, length, get_or}
use Rattle.quad_mat.proofs.loading.empty_rows.Given as goal

abbrev pub invariant-loop : goal.invariant-loop
invariant-loop l = record {
  count : length l.numbers ≡ l.counter;
  zero : (i : ℕ) → i < length l.numbers → get_or l.numbers i 0 ≡ 0;
}
