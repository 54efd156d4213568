-- Chains of links, and how long they are.
use Rattle.std.specs.Prelude.{◌≡◌, ℕ, zero, suc, ◌<◌, List, Option, None, MatchOption}
use Rattle.std.specs.Prelude.{length, slice_index_or}
use Rattle.number_graph.specs.Graphs.{HasLink, ReachesBy, IsOnCycle}

-- from number m a chain of so many links leads to number n
abbrev pub LinksLead : List (List ℕ) → ℕ → ℕ → ℕ → Type 0
LinksLead links zero m n = m ≡ n
LinksLead links (suc k) m n = (l : ℕ) × HasLink links m l × LinksLead links k l n

-- a chain of so many links begins at the number
abbrev pub HasLinkChain : List (List ℕ) → ℕ → ℕ → Type 0
HasLinkChain links n k = (m : ℕ) × LinksLead links k n m

-- the longest chain of links from the number has this length
abbrev pub IsHeight : List (List ℕ) → ℕ → ℕ → Type 0
IsHeight links n height = HasLinkChain links n height × (HasLinkChain links n (suc height) → ⊥)

-- links lead from the number to one that reaches itself, so that chains from it have any length
abbrev pub LeadsToCycle : List (List ℕ) → ℕ → Type 0
LeadsToCycle links n = (m : ℕ) × ReachesBy (HasLink links) n m × IsOnCycle links m

-- each number has its height, or None exactly where links lead from it to one that reaches itself
pub record AreHeights (links : List (List ℕ)) (heights : List (Option ℕ)) : Type 0 where
  pub count : length heights ≡ length links
  pub each : (n : ℕ) → n < length links
      → MatchOption (slice_index_or heights n None) (LeadsToCycle links n) (IsHeight links n)

-- the number reaches itself, and no lesser one does
pub record IsLeastOnCycle (links : List (List ℕ)) (n : ℕ) : Type 0 where
  pub on_cycle : IsOnCycle links n
  pub earlier : (lesser : ℕ) → lesser < n → IsOnCycle links lesser → ⊥

-- the least number that reaches itself, and None exactly where none does
abbrev pub FindsLeastOnCycle : List (List ℕ) → Option ℕ → Type 0
FindsLeastOnCycle links found =
    MatchOption found ((n : ℕ) → IsOnCycle links n → ⊥) (IsLeastOnCycle links)
