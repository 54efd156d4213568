-- None of the numbers so far is known.
use Rattle.std.proofs.Common.{◌≡◌, ℕ, length, slice_get, Some}
use Rattle.quad_mat.proofs.loading.unknown.Given as goal

abbrev pub invariant-loop : goal.invariant-loop
invariant-loop l = record {
  count : length l.known ≡ l.counter;
  none : (n m : ℕ) → slice_get l.known n ≡ Some (Some m) → ⊥;
}
