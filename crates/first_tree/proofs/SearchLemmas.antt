-- How a search for a first tree begins, goes on by one node, and ends.
use Rattle.std.proofs.Common.{◌≡◌, ℕ, ◌+◌, ◌<◌, ◌≤◌, List, [], ◌∷◌, ◌++◌, Option, Some, None, length, slice_get, drop, refl, sym, ◌∙◌, ap, subst, arith, append_assoc, append-nil}
use Rattle.std.proofs.lemmas.List.{length-append}
use Rattle.spec_text.specs.declared.limits.TheConstants.{MAX_NODES}
use Rattle.spec_grammar.specs.declared.rule.Symbol.{Symbol}
use Rattle.spec_grammar.specs.declared.rule.Symbol.TheVariants.{Category, Kind}
use Rattle.spec_grammar.specs.declared.rule.Rule.{Rule}
use Rattle.spec_grammar.specs.Trees.{Tree}
use Rattle.spec_trees.specs.FirstTrees.{lesser_from_left, IsFirstTree, node_count}
use Rattle.tree_nodes.specs.declared.node.TreeNode.{TreeNode}
use Rattle.tree_nodes.specs.TreeNodes.{leaf_node, rule_node, preorder, forest_preorder}
use Rattle.tree_nodes.proofs.NodeLemmas.{one_tree}
use Rattle.first_tree.specs.declared.answer.First.TheVariants.{Tree as Found, Large}
use Rattle.first_tree.specs.declared.rest.Rest.{Rest}
use Rattle.first_tree.specs.declared.rest.Part.{Part}
use Rattle.first_tree.specs.Answers.{TellsFirst}
use Rattle.first_tree.specs.Searching.{rest_behind, IsLeastRule, IsLeastCut, HasFirst, AreNodesOf, AreNodesOfAll, Enters, GivesNode, KeepsRest, IsUnderWay}
use Rattle.first_tree.proofs.NodeLemmas.{length-preorder, leaf_nodes, rule_nodes}
use Rattle.first_tree.proofs.RestLemmas.{nodes_pop, next_nodes}

-- a symbol over a span
abbrev pub part_of : Symbol → ℕ → ℕ → Part
part_of symbol i j = record { symbol = symbol; first = i; end = j }

-- the whole right side of a rule over a span
abbrev pub whole_of : ℕ → ℕ → ℕ → Rest
whole_of r i j = record { rule = r; place = 0; first = i; end = j }

module _ (rules : List Rule) (kinds : List (Option ℕ)) where
  -- a kind is entered by its leaf
  pub enters_kind :
      (k i j : ℕ) (kept : List Rest)
      → Enters rules kinds (part_of (Kind k) i j) kept kept (leaf_node k i j)
  enters_kind k i j kept = λ t nodes is all.
      (nodes, ap (λ xs. xs ++ nodes) (leaf_nodes rules kinds k i j t is), all)

  -- a category by the node of its least rule, whose right side is kept
  pub enters_category :
      (c i j r count : ℕ) (rule : Rule) (old new : List Rest)
      → IsLeastRule rules kinds c i j r → slice_get rules r ≡ Some rule
      → count ≡ length rule.items → KeepsRest rules kinds (whole_of r i j) old new
      → Enters rules kinds (part_of (Category c) i j) old new (rule_node r i j count)
  enters_category c i j r count rule old new least is_rule counted keeps = λ t nodes is all.
      let x = rule_nodes rules kinds c i j r count rule t least is_rule counted is in
      let are : AreNodesOf rules kinds (whole_of r i j) (forest_preorder x.0) = record {
        rule = rule;
        is_rule = is_rule;
        forest = x.0;
        are_first = x.2;
        same = refl;
      } in (
        forest_preorder x.0 ++ nodes,
        ap (λ xs. xs ++ nodes) x.1,
        keeps (forest_preorder x.0) nodes are all,
      )

  -- nothing is given of nothing
  pub gives_none :
      (old new : List Rest) → old ≡ [] → GivesNode rules kinds old new None
  gives_none old new none = λ nodes all.
      let P : List Rest → Type 0 = λ kept. AreNodesOfAll rules kinds kept nodes in
      subst P none all

  -- what is kept last gives the node by which its next item is entered
  pub gives_next :
      (old before between new : List Rest) (rest : Rest) (rule : Rule) (item : Symbol) (place : ℕ)
      (node : TreeNode)
      → old ≡ before ++ rest ∷ [] → slice_get rules rest.rule ≡ Some rule
      → drop rest.place rule.items ≡ item ∷ drop (rest.place + 1) rule.items
      → IsLeastCut rules kinds (drop rest.place rule.items) rest.first rest.end place
      → KeepsRest rules kinds (rest_behind rest place) before between
      → Enters rules kinds (part_of item rest.first place) between new node
      → GivesNode rules kinds old new (Some node)
  gives_next old before between new rest rule item place node popped is next cut keeps enters = λ nodes all.
      let P : List Rest → Type 0 = λ kept. AreNodesOfAll rules kinds kept nodes in
      let x = nodes_pop rules kinds before rest nodes (subst P popped all) in
      let y = next_nodes rules kinds rest rule item place x.0 is next cut x.3 in
      let kept = keeps y.1 x.1 y.4 x.5 in
      let w = enters y.0 (y.1 ++ x.1) y.2 kept in
      let same : nodes ≡ node ∷ w.0 =
      x.2 ∙ (ap (λ xs. xs ++ x.1) y.3 ∙ (append_assoc (preorder y.0) y.1 x.1 ∙ w.1)) in
      (w.0, same, w.2)

  module _ (s : Symbol) (i j : ℕ) where
    -- the first node is that of the whole
    pub starts :
        (kept : List Rest) (node : TreeNode) → HasFirst rules kinds s i j
        → Enters rules kinds (part_of s i j) [] kept node
        → IsUnderWay rules kinds s i j (node ∷ []) kept
    starts kept node has enters =
        let w = enters has.0 [] has.1 refl in
        record {
          tree = has.0;
          is_first = has.1;
          behind = w.0;
          same = sym (append-nil (preorder has.0)) ∙ w.1;
          are_kept = w.2;
          few = omega arith;
        }

    module _ (nodes : List TreeNode) (old new : List Rest) (under_way : IsUnderWay rules kinds s i j nodes old) where
      -- one more node
      pub goes_on :
          (node : TreeNode) → GivesNode rules kinds old new (Some node)
          → length nodes < MAX_NODES
          → IsUnderWay rules kinds s i j (nodes ++ node ∷ []) new
      goes_on node gives few =
          let w = gives under_way.behind under_way.are_kept in
          let same : preorder under_way.tree ≡ (nodes ++ node ∷ []) ++ w.0 =
          under_way.same ∙ (ap (λ xs. nodes ++ xs) w.1 ∙ sym (append_assoc nodes (node ∷ []) w.0)) in
          record {
            tree = under_way.tree;
            is_first = under_way.is_first;
            behind = w.0;
            same = same;
            are_kept = w.2;
            few = omega (arith, few, length-append nodes (node ∷ []));
          }

      -- one node more than a tree may have
      pub ends_large :
          (node : TreeNode) → GivesNode rules kinds old new (Some node)
          → MAX_NODES ≤ length nodes → TellsFirst rules kinds s i j Large
      ends_large node gives many =
          let w = gives under_way.behind under_way.are_kept in
          let same : preorder under_way.tree ≡ nodes ++ (node ∷ w.0) =
          under_way.same ∙ ap (λ xs. nodes ++ xs) w.1 in
          let count : length (preorder under_way.tree) ≡ length nodes + length (node ∷ w.0) =
          ap length same ∙ length-append nodes (node ∷ w.0) in
          (under_way.tree, under_way.is_first, omega (arith, many, count, length-preorder under_way.tree))

      -- no node is left
      pub all_nodes :
          GivesNode rules kinds old new None → preorder under_way.tree ≡ nodes
      all_nodes gives =
          let none = gives under_way.behind under_way.are_kept in
          under_way.same ∙ (ap (λ xs. nodes ++ xs) none ∙ append-nil nodes)

      -- so the nodes are those of the first tree
      pub ends_found :
          (t : Tree) → GivesNode rules kinds old new None → preorder t ≡ nodes
          → TellsFirst rules kinds s i j (Found t)
      ends_found t gives is =
          let same : under_way.tree ≡ t = one_tree under_way.tree t (all_nodes gives ∙ sym is) in
          let P : Tree → Type 0 = λ x. IsFirstTree lesser_from_left rules kinds x s i j in
          let count : length nodes ≡ node_count t = ap length (sym is) ∙ length-preorder t in
          (subst P same under_way.is_first, omega (arith, count, under_way.few))
