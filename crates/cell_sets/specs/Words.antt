-- Sets of symbols as the bits of words, 64 symbols to a word. The ghost symbols of Bits names
-- symbols_of, so the page serves the clauses of Bits, and the proofs.
use Rattle.std.specs.Prelude.{◌≡◌, ◌≤◌, ◌<◌, ℕ, ◌*◌, ◌/◌, ◌%◌, List, length, slice_index}
use Rattle.std.specs.Prelude.{Bool, nat_eq, Option, MatchOption}
use Rattle.std.specs.List.{filter, range_with_len}
use Rattle.std.specs.Int.{bit_at}

-- whether the words have the bit of the symbol
abbrev pub has_bit : List ℕ → ℕ → Bool
has_bit words symbol = nat_eq (bit_at (slice_index words (symbol / 64)) (symbol % 64)) 1

-- the symbols whose bits the words have, in rising order
unfoldable pub symbols_of : List ℕ → List ℕ
symbols_of words = filter (has_bit words) (range_with_len 0 (64 * length words))

-- the first bit of the word that is set, from the place on, and None where there is none
abbrev pub IsFirstBit : ℕ → ℕ → Option ℕ → Type 0
IsFirstBit word from first = MatchOption first
    ((k : ℕ) → from ≤ k → bit_at word k ≡ 0)
    (λ n. (from ≤ n) × (n < 64) × (bit_at word n ≡ 1)
    × ((k : ℕ) → from ≤ k → k < n → bit_at word k ≡ 0))
