-- Serves the proofs alone: prefixes and suffixes that two lists of kinds share, by their lengths.
use Rattle.std.specs.Prelude.{◌≡◌, ℕ, ◌-◌, ◌<◌, ◌≤◌, List, length, take, drop, get_or, Option, None}

-- both lists begin with the same so many kinds
pub record SharePrefix (xs ys : List (Option ℕ)) (len : ℕ) : Type 0 where
  pub within_left : len ≤ length xs
  pub within_right : len ≤ length ys
  pub same : take len xs ≡ take len ys

-- both lists end with the same so many kinds
pub record ShareSuffix (xs ys : List (Option ℕ)) (len : ℕ) : Type 0 where
  pub within_left : len ≤ length xs
  pub within_right : len ≤ length ys
  pub same : drop (length xs - len) xs ≡ drop (length ys - len) ys

-- and with no more
pub record ShareLongestPrefix (xs ys : List (Option ℕ)) (len : ℕ) : Type 0 where
  pub shared : SharePrefix xs ys len
  pub longest : len < length xs → len < length ys → get_or xs len None ≡ get_or ys len None → ⊥

-- the same of suffixes
pub record ShareLongestSuffix (xs ys : List (Option ℕ)) (len : ℕ) : Type 0 where
  pub shared : ShareSuffix xs ys len
  pub longest : len < length xs → len < length ys →
      get_or xs (length xs - len - 1) None ≡ get_or ys (length ys - len - 1) None → ⊥
