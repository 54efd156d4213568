-- What is reached by any steps.
use Rattle.std.proofs.Common.{ℕ}
use Rattle.number_graph.specs.Graphs.{ReachesBy, stay, step}

-- what is reached from what is reached is reached
pub reaches_on :
    {A : Type 0} (Step : A → A → Type 0) (a b c : A)
    → ReachesBy Step a b → ReachesBy Step b c → ReachesBy Step a c
reaches_on Step a b c before stay = before
reaches_on Step a b d before (step {b = c} behind last) =
    step (reaches_on Step a b c before behind) last

-- where each step is one of another relation, what is reached by the one is reached by the other
pub reaches_more :
    (Step Other : ℕ → ℕ → Type 0) (m n : ℕ)
    → ((k l : ℕ) → Step k l → Other k l) → ReachesBy Step m n → ReachesBy Other m n
reaches_more Step Other m n more stay = stay
reaches_more Step Other m n more (step {b = k} before last) =
    step (reaches_more Step Other m k more before) (more k n last)

-- where each step from what is within goes to what is within, so does what is reached from there
pub reaches_within :
    (Step : ℕ → ℕ → Type 0) (Within : ℕ → Type 0) (m n : ℕ)
    → ((k l : ℕ) → Step k l → Within k → Within l) → Within m → ReachesBy Step m n → Within n
reaches_within Step Within m n closed within stay = within
reaches_within Step Within m n closed within (step {b = k} before last) =
    closed k n last (reaches_within Step Within m k closed within before)
