-- Which of two parse trees of a symbol over a span comes before the other.
use Rattle.std.specs.Prelude.{◌≡◌, ◌<◌, ◌⊎◌, IsTrue}
use Rattle.spec_grammar.specs.Trees.{Tree, leaf, node, Forest, no_trees, trees}
use Rattle.spec_trees.specs.FirstTrees.{EndsOrder, ends_of}

module _ (is_before : EndsOrder) where
  abbrev mutual
    -- the tree comes before the other: its rule is the lesser one; or the rules are the same and
    -- its ends come before; or the ends are the same too, and the first subtree that differs comes
    -- before
    pub ComesBefore : Tree → Tree → Type 0
    ComesBefore (leaf kind first end) other = ⊥
    ComesBefore (node r first end subtrees) (leaf kind first' end') = ⊥
    ComesBefore (node r first end subtrees) (node r' first' end' subtrees') =
        (r < r')
        ⊎ ((r ≡ r') × (IsTrue (is_before (ends_of subtrees) (ends_of subtrees'))
        ⊎ ((ends_of subtrees ≡ ends_of subtrees') × HasFirstBefore subtrees subtrees')))

    -- of trees side by side, the first that differs comes before
    pub HasFirstBefore : Forest → Forest → Type 0
    HasFirstBefore no_trees others = ⊥
    HasFirstBefore (trees t ts) no_trees = ⊥
    HasFirstBefore (trees t ts) (trees t' ts') =
        ComesBefore t t' ⊎ ((t ≡ t') × HasFirstBefore ts ts')
