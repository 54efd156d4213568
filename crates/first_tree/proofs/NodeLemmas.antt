-- The node at the root of a first tree, and what is below it.
use Rattle.std.proofs.Common.{◌≡◌, ℕ, List, [], ◌∷◌, Option, Some, length, slice_get, suc, refl, sym, ◌∙◌, ap, subst, arith}
use Rattle.std.proofs.lemmas.List.{length-append}
use Rattle.spec_grammar.specs.declared.rule.Symbol.{Symbol}
use Rattle.spec_grammar.specs.declared.rule.Symbol.TheVariants.{Category, Kind}
use Rattle.spec_grammar.specs.declared.rule.Rule.{Rule}
use Rattle.spec_grammar.specs.Trees.{Tree, leaf, node, Forest, no_trees, trees}
use Rattle.spec_trees.specs.FirstTrees.{lesser_from_left, NoLesserRule, IsFirstTree, AreFirstTrees, node_count, forest_count}
use Rattle.spec_trees.proofs.FirstTreeLemmas.{firsts_are_parse_trees}
use Rattle.tree_nodes.specs.declared.node.TreeNode.{TreeNode}
use Rattle.tree_nodes.specs.TreeNodes.{tree_count, leaf_node, rule_node, preorder, forest_preorder}
use Rattle.first_tree.specs.Searching.{AreFirst, IsLeastRule}
use Rattle.first_tree.proofs.ChoosingLemmas.{one_least_rule}

mutual
  -- a tree has as many nodes as are counted in it
  pub length-preorder : (t : Tree) → length (preorder t) ≡ node_count t
  length-preorder (leaf kind first end) = refl
  length-preorder (node r first end subtrees) = ap suc (length-forest_preorder subtrees)

  -- and so have trees side by side
  pub length-forest_preorder : (ts : Forest) → length (forest_preorder ts) ≡ forest_count ts
  length-forest_preorder no_trees = refl
  length-forest_preorder (trees t ts) =
      let first = length-preorder t in
      let others = length-forest_preorder ts in
      omega (arith, length-append (preorder t) (forest_preorder ts), first, others)

module _ (rules : List Rule) (kinds : List (Option ℕ)) where
  -- there are as many trees as items
  count_first :
      (ts : Forest) (items : List Symbol) (i j : ℕ)
      → AreFirstTrees lesser_from_left rules kinds ts items i j → tree_count ts ≡ length items
  count_first no_trees items i j are = ap length (sym are.0)
  count_first (trees t ts) items i j are =
      ap suc (count_first ts are.1 are.2 j are.5) ∙ ap length (sym are.3)

  -- the first tree of a kind is its leaf
  pub leaf_nodes :
      (k i j : ℕ) (t : Tree)
      → IsFirstTree lesser_from_left rules kinds t (Kind k) i j
      → preorder t ≡ leaf_node k i j ∷ []
  leaf_nodes k i j (leaf kind first end) is =
      let same : kind ≡ k = cc in
      let begins : first ≡ i = is.3 in
      let ends : end ≡ j = is.4 in
      cc
  leaf_nodes k i j (node r first end subtrees) is = absurd (cc)

  -- the nodes of a category's first tree: that of its least rule, and those of first trees below it
  abbrev pub HasRuleNode : ℕ → ℕ → ℕ → ℕ → Rule → Tree → Type 0
  HasRuleNode r count i j rule t =
      (ts : Forest) × (preorder t ≡ rule_node r i j count ∷ forest_preorder ts)
      × AreFirst rules kinds ts rule.items i j

  -- the rule of a first tree's root is the least one
  root_is_least :
      (c i j r : ℕ) (ts : Forest) (rule : Rule)
      → slice_get rules r ≡ Some rule → rule.category ≡ c
      → AreFirstTrees lesser_from_left rules kinds ts rule.items i j
      → NoLesserRule rules kinds r rule.category i j → IsLeastRule rules kinds c i j r
  root_is_least c i j r ts rule is of are lesser = (
    (rule, is, of, (ts, firsts_are_parse_trees rules kinds lesser_from_left ts rule.items i j are)),
    (λ n below x. lesser n x.0 below x.1 (x.2 ∙ sym of) x.3),
  )

  pub rule_nodes :
      (c i j r count : ℕ) (rule : Rule) (t : Tree) → IsLeastRule rules kinds c i j r
      → slice_get rules r ≡ Some rule → count ≡ length rule.items
      → IsFirstTree lesser_from_left rules kinds t (Category c) i j
      → HasRuleNode r count i j rule t
  rule_nodes c i j r count rule (leaf kind first end) least is_rule counted is = absurd (cc)
  rule_nodes c i j r count rule (node r' first end subtrees) least is_rule counted is =
      let of : (is.0).category ≡ c = cc in
      let number : r' ≡ r =
      one_least_rule rules kinds c i j r' r (root_is_least c i j r' subtrees is.0 is.1 of is.3 is.6) least in
      let same : is.0 ≡ rule = cc in
      let P : Rule → Type 0 = λ x. AreFirst rules kinds subtrees x.items i j in
      let first_trees : P rule = subst P same (is.3, is.7) in
      let children : tree_count subtrees ≡ count =
      count_first subtrees rule.items i j first_trees.0 ∙ sym counted in
      (subtrees, same_node number is.4 is.5 children (forest_preorder subtrees), first_trees)
    where
      same_node :
          {a a' b b' c c' d d' : ℕ} → a ≡ a' → b ≡ b' → c ≡ c' → d ≡ d' → (nodes : List TreeNode)
          → rule_node a b c d ∷ nodes ≡ rule_node a' b' c' d' ∷ nodes
      same_node e f g h nodes = cc
