-- The numbers that a seed draws: the generator SplitMix64 of Steele, Lea and Flood. Its state is a
-- number of 64 bits, at first the seed.
use Rattle.std.specs.Prelude.{ℕ, ◌+◌, ◌*◌, ◌/◌, ◌%◌, ◌^◌, bit_xor, zero, suc}

-- what each draw adds to the state
abbrev pub growth : ℕ
growth = 0x9e3779b97f4a7c15

-- the state that a draw leaves
abbrev pub next_state : ℕ → ℕ
next_state state = (state + growth) % 2 ^ 64

-- the state behind so many draws from the seed
abbrev pub state_behind : ℕ → ℕ → ℕ
state_behind seed zero = seed
state_behind seed (suc count) = next_state (state_behind seed count)

-- z xor z shifted right by so many bits
abbrev pub folded : ℕ → ℕ → ℕ
folded bits z = bit_xor z (z / 2 ^ bits)

-- z folded by so many bits and multiplied by the factor, modulo 2 ^ 64
abbrev pub mixed : ℕ → ℕ → ℕ → ℕ
mixed bits factor z = folded bits z * factor % 2 ^ 64

-- the number that a draw answers, of the state that it leaves
abbrev pub answer_of : ℕ → ℕ
answer_of state = folded 31 (mixed 27 0x94d049bb133111eb (mixed 30 0xbf58476d1ce4e5b9 state))

-- the answer of the draw of this number, from 0: of the state behind it and all draws before it
unfoldable pub drawn : ℕ → ℕ → ℕ
drawn seed number = answer_of (state_behind seed (number + 1))
