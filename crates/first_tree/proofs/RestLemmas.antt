-- What is kept of rules: one more behind, the last one taken, and one item of it found.
use Rattle.std.proofs.Common.{◌≡◌, ℕ, ◌+◌, ◌<◌, ◌≤◌, List, [], ◌∷◌, ◌++◌, Option, Some, length, slice_get, drop, refl, sym, ◌∙◌, ap, subst, append_assoc, append-nil}
use Rattle.std.specs.Prelude.{nat_lt}
use Rattle.std.proofs.lemmas.Bool.{lt-ltb}
use Rattle.std.proofs.lemmas.Option.{slice_get_within}
use Rattle.spec_grammar.specs.declared.rule.Symbol.{Symbol}
use Rattle.spec_grammar.specs.declared.rule.Rule.{Rule}
use Rattle.spec_grammar.specs.Trees.{Tree, Forest, no_trees, trees}
use Rattle.spec_grammar.specs.Derivation.{Derives, DerivesAll}
use Rattle.spec_trees.specs.FirstTrees.{tree_end, ends_of, lesser_from_left, NoEndsBefore, IsFirstTree, AreFirstTrees}
use Rattle.spec_trees.specs.OrderLaws.{NoLesserCut}
use Rattle.spec_trees.proofs.FirstTreeLemmas.{ends_with_span, first_is_parse_tree, firsts_are_parse_trees}
use Rattle.spec_trees.proofs.EndsLemmas.{cut_is_least, ends_behind_are_least}
use Rattle.tree_nodes.specs.declared.node.TreeNode.{TreeNode}
use Rattle.tree_nodes.specs.TreeNodes.{preorder, forest_preorder}
use Rattle.first_tree.specs.declared.rest.Rest.{Rest}
use Rattle.first_tree.specs.Searching.{rest_behind, HasItemLeft, IsLeastCut, AreFirst, AreNodesOf, AreNodesOfAll, KeepsRest}
use Rattle.first_tree.proofs.DerivationLemmas.{drop_all}
use Rattle.first_tree.proofs.ChoosingLemmas.{one_least_cut}

module _ (rules : List Rule) (kinds : List (Option ℕ)) where
  -- what is kept last has its nodes first
  pub nodes_push :
      (kept : List Rest) (rest : Rest) (front back : List TreeNode)
      → AreNodesOf rules kinds rest front → HasItemLeft rules rest
      → AreNodesOfAll rules kinds kept back
      → AreNodesOfAll rules kinds (kept ++ rest ∷ []) (front ++ back)
  nodes_push [] rest front back are left all =
      ([], front, rw (all, append-nil front) refl, refl, are, left)
  nodes_push (other ∷ later) rest front back are left all = (
    front ++ all.0,
    all.1,
    ap (λ nodes. front ++ nodes) all.2 ∙ sym (append_assoc front all.0 all.1),
    nodes_push later rest front all.0 are left all.3,
    all.4,
    all.5,
  )

  -- the nodes of what is kept last, and those of the others
  abbrev pub HasNodesLast : List Rest → Rest → List TreeNode → Type 0
  HasNodesLast kept rest nodes =
      (front : List TreeNode) × (back : List TreeNode) × (nodes ≡ front ++ back)
      × AreNodesOf rules kinds rest front × HasItemLeft rules rest
      × AreNodesOfAll rules kinds kept back

  pub nodes_pop :
      (kept : List Rest) (rest : Rest) (nodes : List TreeNode)
      → AreNodesOfAll rules kinds (kept ++ rest ∷ []) nodes → HasNodesLast kept rest nodes
  nodes_pop [] rest nodes all =
      let same : nodes ≡ all.1 ++ [] = all.2 ∙ (ap (λ xs. xs ++ all.1) all.3 ∙ sym (append-nil all.1)) in
      (all.1, [], same, all.4, all.5, refl)
  nodes_pop (other ∷ later) rest nodes all =
      let inner = nodes_pop later rest all.0 all.3 in
      let same : nodes ≡ inner.0 ++ (inner.1 ++ all.1) =
      all.2 ∙ (ap (λ xs. xs ++ all.1) inner.2 ∙ append_assoc inner.0 inner.1 all.1) in
      (inner.0, inner.1 ++ all.1, same, inner.3, inner.4, (inner.1, all.1, refl, inner.5, all.4, all.5))

  -- where no item is left there are no nodes
  pub no_nodes :
      (rest : Rest) (rule : Rule) (nodes : List TreeNode) → slice_get rules rest.rule ≡ Some rule
      → length rule.items ≤ rest.place → AreNodesOf rules kinds rest nodes → nodes ≡ []
  no_nodes rest rule nodes is past are =
      let same : are.rule ≡ rule = cc in
      let P : Rule → Type 0 = λ x. drop rest.place x.items ≡ [] in
      let none : P are.rule = subst P (sym same) (drop_all rule.items rest.place past) in
      are.same ∙ none_of are.forest (drop rest.place (are.rule).items) none are.are_first.0
    where
      none_of :
          (ts : Forest) (items : List Symbol) → items ≡ []
          → AreFirstTrees lesser_from_left rules kinds ts items rest.first rest.end
          → forest_preorder ts ≡ []
      none_of no_trees items none firsts = refl
      none_of (trees t ts) items none firsts = absurd (cc)

  -- so nothing is to be kept there
  pub keeps_none :
      (rest : Rest) (rule : Rule) (kept : List Rest) → slice_get rules rest.rule ≡ Some rule
      → length rule.items ≤ rest.place → KeepsRest rules kinds rest kept kept
  keeps_none rest rule kept is past = λ front back are all.
      let none : front ≡ [] = no_nodes rest rule front is past are in
      let P : List TreeNode → Type 0 = λ nodes. AreNodesOfAll rules kinds kept (nodes ++ back) in
      subst P (sym none) all

  -- and else it is kept last
  pub keeps_some :
      (rest : Rest) (rule : Rule) (kept : List Rest) → slice_get rules rest.rule ≡ Some rule
      → rest.place < length rule.items → KeepsRest rules kinds rest kept (kept ++ rest ∷ [])
  keeps_some rest rule kept is within = λ front back are all.
      nodes_push kept rest front back are (rule, is, within) all

  -- what is left of a rule derives its span
  pub rest_derives :
      (rest : Rest) (rule : Rule) (nodes : List TreeNode) → slice_get rules rest.rule ≡ Some rule
      → AreNodesOf rules kinds rest nodes
      → DerivesAll rules kinds (drop rest.place rule.items) rest.first rest.end
  rest_derives rest rule nodes is are =
      let same : are.rule ≡ rule = cc in
      let P : Rule → Type 0 = λ x. DerivesAll rules kinds (drop rest.place x.items) rest.first rest.end in
      let firsts = (are.are_first).0 in
      subst P same (are.forest, firsts_are_parse_trees rules kinds lesser_from_left are.forest (drop rest.place (are.rule).items) rest.first rest.end firsts)

  -- of first trees side by side, the first tree and the others: the first ends at the least cut
  abbrev pub HasFirstOf : Symbol → List Symbol → ℕ → ℕ → ℕ → List TreeNode → Type 0
  HasFirstOf item behind i k j nodes =
      (t : Tree) × (ts : Forest) × IsFirstTree lesser_from_left rules kinds t item i k
      × AreFirst rules kinds ts behind k j × (nodes ≡ preorder t ++ forest_preorder ts)

  pub first_of :
      (ts : Forest) (items : List Symbol) (item : Symbol) (behind : List Symbol) (i k j : ℕ)
      → items ≡ item ∷ behind → AreFirst rules kinds ts items i j
      → IsLeastCut rules kinds items i j k
      → HasFirstOf item behind i k j (forest_preorder ts)
  first_of no_trees items item behind i k j is are cut = absurd (cc)
  first_of (trees t ts) items item behind i k j is are cut =
      let s : Symbol = are.0.0 in
      let rest : List Symbol = are.0.1 in
      let m : ℕ = are.0.2 in
      let own : items ≡ s ∷ rest = are.0.3 in
      let first = are.0.4 in
      let others = are.0.5 in
      let parse = first_is_parse_tree rules kinds lesser_from_left t s i m first in
      let end : tree_end t ≡ m = ends_with_span rules kinds t s i m parse in
      let ends : ends_of (trees t ts) ≡ m ∷ ends_of ts = ap (λ n. n ∷ ends_of ts) end in
      let P : List ℕ → Type 0 = λ xs. NoEndsBefore lesser_from_left rules kinds xs (s ∷ rest) i j in
      let Q : List Symbol → Type 0 = λ xs. NoEndsBefore lesser_from_left rules kinds (ends_of (trees t ts)) xs i j in
      let none : P (m ∷ ends_of ts) = subst P ends (subst Q own are.1) in
      let lesser : NoLesserCut nat_lt rules kinds s rest i m j =
      cut_is_least nat_lt rules kinds s rest i m j (ends_of ts) none in
      let least_behind = ends_behind_are_least nat_lt rules kinds s rest i m j (ends_of ts) (t, parse) none in
      let here = least_here s rest m own (t, parse) (ts, firsts_are_parse_trees rules kinds lesser_from_left ts rest m j others) lesser in
      let same : m ≡ k = one_least_cut rules kinds items i j m k here cut in
      let symbol : s ≡ item = cc in
      let later : rest ≡ behind = cc in
      let F : Symbol → ℕ → Type 0 = λ x n. IsFirstTree lesser_from_left rules kinds t x i n in
      let G : List Symbol → ℕ → Type 0 = λ xs n. AreFirst rules kinds ts xs n j in (
        t,
        ts,
        subst (λ n. F item n) same (subst (λ x. F x m) symbol first),
        subst (λ n. G behind n) same (subst (λ xs. G xs m) later (others, least_behind)),
        refl,
      )
    where
      least_here :
          (s : Symbol) (rest : List Symbol) (m : ℕ) → items ≡ s ∷ rest
          → Derives rules kinds s i m → DerivesAll rules kinds rest m j
          → NoLesserCut nat_lt rules kinds s rest i m j → IsLeastCut rules kinds items i j m
      least_here s rest m own front back lesser = (
        record {
          item = s;
          behind = rest;
          is = own;
          front = front;
          back = back;
        },
        (λ n below x.
            let symbol : x.item ≡ s = cc in
            let later : x.behind ≡ rest = cc in
            let A : Symbol → Type 0 = λ y. Derives rules kinds y i n in
            let B : List Symbol → Type 0 = λ ys. DerivesAll rules kinds ys n j in
            lesser n (lt-ltb n m below) (subst A symbol x.front) (subst B later x.back)),
      )

  -- the nodes of what is left of a rule are those of the next item's first tree, and then those of
  -- what is left behind it
  abbrev pub HasNextNodes : Rest → Symbol → ℕ → List TreeNode → Type 0
  HasNextNodes rest item place nodes =
      (t : Tree) × (others : List TreeNode)
      × IsFirstTree lesser_from_left rules kinds t item rest.first place
      × (nodes ≡ preorder t ++ others) × AreNodesOf rules kinds (rest_behind rest place) others

  pub next_nodes :
      (rest : Rest) (rule : Rule) (item : Symbol) (place : ℕ) (nodes : List TreeNode)
      → slice_get rules rest.rule ≡ Some rule
      → drop rest.place rule.items ≡ item ∷ drop (rest.place + 1) rule.items
      → IsLeastCut rules kinds (drop rest.place rule.items) rest.first rest.end place
      → AreNodesOf rules kinds rest nodes → HasNextNodes rest item place nodes
  next_nodes rest rule item place nodes is next cut are =
      let same : are.rule ≡ rule = cc in
      let P : Rule → Type 0 = λ x. AreFirst rules kinds are.forest (drop rest.place x.items) rest.first rest.end in
      let x =
      first_of are.forest (drop rest.place rule.items) item (drop (rest.place + 1) rule.items) rest.first place rest.end
      next (subst P same are.are_first) cut in (
        x.0,
        forest_preorder x.1,
        x.2,
        are.same ∙ x.4,
        record {
          rule = rule;
          is_rule = is;
          forest = x.1;
          are_first = x.3;
          same = refl;
        },
      )

  module _ (old before : List Rest) (rest : Rest) (nodes : List TreeNode) (popped : old ≡ before ++ rest ∷ []) (all : AreNodesOfAll rules kinds old nodes) where
    -- what is kept last, and the nodes of it
    popped_nodes : HasNodesLast before rest nodes
    popped_nodes =
        let P : List Rest → Type 0 = λ kept. AreNodesOfAll rules kinds kept nodes in
        nodes_pop before rest nodes (subst P popped all)

    -- its rule is one of the rules
    pub last_rule : rest.rule < length rules
    last_rule =
        let left = popped_nodes.4 in slice_get_within rules rest.rule left.0 left.1

    module _ (rule : Rule) (is : slice_get rules rest.rule ≡ Some rule) where
      -- it has an item left
      pub last_item : rest.place < length rule.items
      last_item =
          let left = popped_nodes.4 in
          let same : left.0 ≡ rule = cc in
          let P : Rule → Type 0 = λ x. rest.place < length x.items in
          subst P same left.2

      -- and what is left of it derives its span
      pub last_derives : DerivesAll rules kinds (drop rest.place rule.items) rest.first rest.end
      last_derives = rest_derives rest rule popped_nodes.0 is popped_nodes.3
