-- The first of the parse trees of a symbol over a span, and how many nodes a tree has.
use Rattle.std.specs.Prelude.{◌≡◌, ℕ, suc, ◌+◌, ◌<◌, List, [], ◌∷◌, Option, Some, slice_get}
use Rattle.std.specs.Prelude.{Bool, false, ◌||◌, ◌&&◌, nat_eq, nat_lt, IsTrue}
use Rattle.spec_grammar.specs.declared.rule.Symbol.{Symbol}
use Rattle.spec_grammar.specs.declared.rule.Symbol.TheVariants.{Category}
use Rattle.spec_grammar.specs.declared.rule.Rule.{Rule}
use Rattle.spec_grammar.specs.Trees.{Tree, leaf, node, Forest, no_trees, trees}
use Rattle.spec_grammar.specs.Derivation.{IsParseTree, AreParseTrees, DerivesAll}

-- the place behind the last token of the tree
abbrev pub tree_end : Tree → ℕ
tree_end (leaf kind first end) = end
tree_end (node r first end subtrees) = end

-- the ends of the trees, from left to right
abbrev pub ends_of : Forest → List ℕ
ends_of no_trees = []
ends_of (trees t ts) = tree_end t ∷ ends_of ts

-- an order of lists of ends: whether the first list comes before the second
abbrev pub EndsOrder : Type 0
EndsOrder = List ℕ → List ℕ → Bool

-- the order from the left: at the first place where the lists differ, the first list has the
-- lesser end, by this order of ends
abbrev pub from_left : (ℕ → ℕ → Bool) → EndsOrder
from_left is_lesser [] others = false
from_left is_lesser (end ∷ ends) [] = false
from_left is_lesser (end ∷ ends) (other ∷ others) =
    is_lesser end other || (nat_eq end other && from_left is_lesser ends others)

-- the order from the left, by which the first item is as short as can be
abbrev pub lesser_from_left : EndsOrder
lesser_from_left = from_left nat_lt

-- of the category's rules, none with a number below this one derives the span i..j
abbrev pub NoLesserRule : List Rule → List (Option ℕ) → ℕ → ℕ → ℕ → ℕ → Type 0
NoLesserRule rules kinds r category i j =
    (lesser : ℕ) (rule : Rule)
    → lesser < r → slice_get rules lesser ≡ Some rule → rule.category ≡ category
    → DerivesAll rules kinds rule.items i j → ⊥

module _ (is_before : EndsOrder) (rules : List Rule) (kinds : List (Option ℕ)) where
  -- no trees of the items over the span i..j have ends that come before these
  abbrev pub NoEndsBefore : List ℕ → List Symbol → ℕ → ℕ → Type 0
  NoEndsBefore ends items i j =
      (others : Forest)
      → AreParseTrees rules kinds others items i j → IsTrue (is_before (ends_of others) ends)
      → ⊥

  abbrev mutual
    -- the tree is the first one of the symbol over the span i..j: a leaf is the only one; a node
    -- has the least rule, by this rule the ends before which none come, and first trees below it
    pub IsFirstTree : Tree → Symbol → ℕ → ℕ → Type 0
    IsFirstTree (leaf kind first end) s i j = IsParseTree rules kinds (leaf kind first end) s i j
    IsFirstTree (node r first end subtrees) s i j =
        (rule : Rule) × (slice_get rules r ≡ Some rule) × (s ≡ Category rule.category)
        × AreFirstTrees subtrees rule.items i j × (first ≡ i) × (end ≡ j)
        × NoLesserRule rules kinds r rule.category i j
        × NoEndsBefore (ends_of subtrees) rule.items i j

    -- each tree is the first one of its item, over adjacent spans that together are i..j
    pub AreFirstTrees : Forest → List Symbol → ℕ → ℕ → Type 0
    AreFirstTrees no_trees items i j = (items ≡ []) × (j ≡ i)
    AreFirstTrees (trees t ts) items i j =
        (s : Symbol) × (rest : List Symbol) × (k : ℕ) × (items ≡ s ∷ rest)
        × IsFirstTree t s i k × AreFirstTrees ts rest k j

abbrev mutual
  -- how many nodes the tree has, leaves of words among them
  pub node_count : Tree → ℕ
  node_count (leaf kind first end) = 1
  node_count (node r first end subtrees) = suc (forest_count subtrees)

  -- how many nodes the trees have together
  pub forest_count : Forest → ℕ
  forest_count no_trees = 0
  forest_count (trees t ts) = node_count t + forest_count ts
