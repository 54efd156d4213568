-- What the functions of src/laws.rt say of steps between categories, of chains and of ranks.
use Rattle.std.specs.Prelude.{◌≡◌, ℕ, ◌<◌, List}
use Rattle.spec_grammar.specs.declared.rule.Rule.{Rule}
use Rattle.spec_grammar.specs.Cycles.{StepsTo, IsAcyclic, HasChain, IsRank}

-- a category that another steps to is of lower rank
abbrev pub StepsLowerRanks : Type 0
StepsLowerRanks =
    (rules : List Rule) (a b m n : ℕ)
    → StepsTo rules a b → IsRank rules a m → IsRank rules b n → n < m

-- a category has one rank at most
abbrev pub RanksAreUnique : Type 0
RanksAreUnique =
    (rules : List Rule) (c m n : ℕ) → IsRank rules c m → IsRank rules c n → m ≡ n

-- each step leads to a category below the count
abbrev pub StepsLeadBelow : List Rule → ℕ → Type 0
StepsLeadBelow rules count = (a b : ℕ) → StepsTo rules a b → b < count

-- where no category reaches itself, and the categories are below a count, no chain of them has so
-- many steps
abbrev pub ChainsAreShort : Type 0
ChainsAreShort =
    (rules : List Rule) (count c : ℕ)
    → StepsLeadBelow rules count → IsAcyclic rules → c < count → HasChain rules c count → ⊥
