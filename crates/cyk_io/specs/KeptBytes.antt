-- Serves the proofs alone: what a block has kept so far.
use Rattle.std.specs.Prelude.{ℕ, List, ◌++◌, Bool, true, false}

-- the bytes so far and these, where the block is kept
abbrev pub kept_more : Bool → List ℕ → List ℕ → List ℕ
kept_more true so_far bytes = so_far ++ bytes
kept_more false so_far bytes = so_far
