use Rattle.std.proofs.Common.{◌≡◌, ℕ, ◌<◌, ◌≤◌, length, get_or}
use Rattle.std.specs.Prelude.{bit_or}
use Rattle.cell_sets.proofs.words.set_bits.Given as goal

abbrev pub invariant-loop-k : goal.invariant-loop-k
invariant-loop-k l =
    (length l.words ≡ length l.others)
    × ((n : ℕ) → n < l.k → get_or l.words n 0 ≡ bit_or (get_or l.fn.words n 0) (get_or l.others n 0))
    × ((n : ℕ) → l.k ≤ n → get_or l.words n 0 ≡ get_or l.fn.words n 0)
