-- What the functions of src/laws.rt say of first trees.
use Rattle.std.specs.Prelude.{◌≡◌, ℕ, ◌⊎◌, List, Option, Bool}
use Rattle.spec_grammar.specs.declared.rule.Symbol.{Symbol}
use Rattle.spec_grammar.specs.declared.rule.Rule.{Rule}
use Rattle.spec_grammar.specs.Trees.{Tree}
use Rattle.spec_grammar.specs.Derivation.{IsParseTree, Derives}
use Rattle.spec_grammar.specs.Cycles.{IsAcyclic}
use Rattle.spec_trees.specs.FirstTrees.{EndsOrder, from_left, IsFirstTree}
use Rattle.spec_trees.specs.TreeOrders.{ComesBefore}
use Rattle.spec_trees.specs.OrderLaws.{TellsApart, IsStrictOrder}

-- in any order that tells lists apart, a symbol has one first tree over a span at most
abbrev pub OneFirstTree : Type 0
OneFirstTree =
    (is_before : EndsOrder) → TellsApart is_before
    → (rules : List Rule) (kinds : List (Option ℕ)) (s : Symbol) (i j : ℕ) (t other : Tree)
    → IsFirstTree is_before rules kinds t s i j → IsFirstTree is_before rules kinds other s i j
    → t ≡ other

-- a first tree is a parse tree, whatever the order
abbrev pub FirstTreesAreParseTrees : Type 0
FirstTreesAreParseTrees =
    (is_before : EndsOrder)
    (rules : List Rule) (kinds : List (Option ℕ)) (t : Tree) (s : Symbol) (i j : ℕ)
    → IsFirstTree is_before rules kinds t s i j → IsParseTree rules kinds t s i j

-- in any grammar a symbol derives a span or does not, and which of the two can be found out
abbrev pub DerivedOrNot : Type 0
DerivedOrNot =
    (rules : List Rule) (kinds : List (Option ℕ)) (s : Symbol) (i j : ℕ)
    → Derives rules kinds s i j ⊎ (Derives rules kinds s i j → ⊥)

-- where no category reaches itself, a symbol has a first tree over each span that it derives, in
-- each order from the left
abbrev pub DerivedSpansHaveFirstTrees : Type 0
DerivedSpansHaveFirstTrees =
    (is_lesser : ℕ → ℕ → Bool) → IsStrictOrder is_lesser
    → (rules : List Rule) (kinds : List (Option ℕ)) → IsAcyclic rules
    → (s : Symbol) (i j : ℕ) → Derives rules kinds s i j
    → (t : Tree) × IsFirstTree (from_left is_lesser) rules kinds t s i j

-- no parse tree of the symbol over the span comes before a first tree, whatever the order
abbrev pub FirstTreesAreLeast : Type 0
FirstTreesAreLeast =
    (is_before : EndsOrder)
    (rules : List Rule) (kinds : List (Option ℕ)) (t other : Tree) (s : Symbol) (i j : ℕ)
    → IsFirstTree is_before rules kinds t s i j → IsParseTree rules kinds other s i j
    → ComesBefore is_before other t → ⊥

-- where no category reaches itself, a parse tree before which none comes is the first tree, in
-- each order from the left
abbrev pub LeastTreesAreFirst : Type 0
LeastTreesAreFirst =
    (is_lesser : ℕ → ℕ → Bool) → IsStrictOrder is_lesser
    → (rules : List Rule) (kinds : List (Option ℕ)) → IsAcyclic rules
    → (t : Tree) (s : Symbol) (i j : ℕ) → IsParseTree rules kinds t s i j
    → ((other : Tree)
    → IsParseTree rules kinds other s i j → ComesBefore (from_left is_lesser) other t → ⊥)
    → IsFirstTree (from_left is_lesser) rules kinds t s i j
