-- How much of a closing text has been read, by hand.
use Rattle.std.specs.Prelude.{ℕ, codes}
use Rattle.spec_automata.specs.Positions.{IsInside}

-- behind the opening text stand these bytes
pub record ReadsClosings : Type 0 where
  -- nothing of */ has been read behind /
  pub none : IsInside (codes "*/") (codes "/") 0
  -- its first byte has been read, also behind another of them
  pub first : IsInside (codes "*/") (codes "*") 1
  pub again : IsInside (codes "*/") (codes "**") 1
  -- all of it has been read
  pub closed : IsInside (codes "*/") (codes "*/") 2
  -- behind its end the comment is no comment
  pub behind : (size : ℕ) → IsInside (codes "*/") (codes "*/a") size → ⊥
