-- What is left of open nodes behind a leaf, behind the opening of a node, and behind a closing.
use Rattle.std.proofs.Common.{◌≡◌, ℕ, suc, List, [], ◌∷◌, ◌++◌, Bool, true, false, ◌||◌, Some, None, slice_get, refl, sym, ◌∙◌, ap, subst, arith, append_assoc, append-nil}
use Rattle.std.specs.List.{cons_option}
use Rattle.std.proofs.lemmas.List.{get_or-map}
use Rattle.std.proofs.lemmas.Option.{get_or_from_slice_get, slice_get_within}
use Rattle.spec_lexing.specs.declared.token.Token.{Token}
use Rattle.spec_grammar.specs.declared.rule.Rule.{Rule}
use Rattle.spec_grammar.specs.Grammars.{Grammar}
use Rattle.spec_grammar.specs.Trees.{Tree, leaf, node, Forest, no_trees, trees}
use Rattle.spec_trees.specs.TreeText.{Print, no_print, node_print, print_of, prints_of}
use Rattle.tree_nodes.specs.declared.node.TreeNode.{TreeNode}
use Rattle.tree_nodes.specs.TreeNodes.{tree_count, leaf_node, rule_node, forest_preorder}
use Rattle.first_tree.specs.declared.open_node.OpenNode.{OpenNode}
use Rattle.first_tree.specs.declared.wanted.Wanted.{Wanted}
use Rattle.first_tree.specs.Wanted.{is_print, has_child, wanted_text, first_wanted, plan_past, planned_text, plan_of, opening, closing_of, makes_child}
use Rattle.first_tree.specs.OpenNodes.{node_past, opened, HasRoot, nodes_left, AreLeft, left_of, left_from, IsLeft}
use Rattle.first_tree.proofs.WantedLemmas.{planned_child, has_child-with, node_is_print, node_parts}

or_assoc : (a b c : Bool) → a || (b || c) ≡ (a || b) || c
or_assoc true b c = refl
or_assoc false b c = refl

or_false : (a : Bool) → a || false ≡ a
or_false true = refl
or_false false = refl

-- the nodes of trees, those of the later ones first
pub nodes_left-append :
    (fs gs : List Forest) → nodes_left (fs ++ gs) ≡ nodes_left gs ++ nodes_left fs
nodes_left-append [] gs = sym (append-nil (nodes_left gs))
nodes_left-append (ts ∷ fs) gs =
    ap (λ nodes. nodes ++ forest_preorder ts) (nodes_left-append fs gs)
    ∙ append_assoc (nodes_left gs) (nodes_left fs) (forest_preorder ts)

-- the root stays
root_stays :
    (before xs ys : List OpenNode) → (HasRoot xs → HasRoot ys) → HasRoot (before ++ xs) → HasRoot (before ++ ys)
root_stays [] xs ys stays root = stays root
root_stays (n ∷ before) xs ys stays root = root

module _ (g : Grammar) (text : List ℕ) (tokens : List Token) where
  -- what is left of nodes in two parts
  abbrev pub Halves : List OpenNode → List OpenNode → List Forest → Type 0
  Halves before xs fs =
      (fb : List Forest) × (fx : List Forest) × (fs ≡ fb ++ fx) × AreLeft g text tokens before fb
      × AreLeft g text tokens xs fx

  pub halves : (before xs : List OpenNode) (fs : List Forest)
      → AreLeft g text tokens (before ++ xs) fs → Halves before xs fs
  halves [] xs fs are = ([], fs, refl, tt, are)
  halves (n ∷ before) xs [] are = absurd are
  halves (n ∷ before) xs (ts ∷ fs) (count, own, are) =
      let (fb, fx, same, front, back) = halves before xs fs are in
      (ts ∷ fb, fx, ap (λ rest. ts ∷ rest) same, (count, own, front), back)

  both_left : (before xs : List OpenNode) (fb fx : List Forest)
      → AreLeft g text tokens before fb → AreLeft g text tokens xs fx
      → AreLeft g text tokens (before ++ xs) (fb ++ fx)
  both_left [] xs [] fx front back = back
  both_left [] xs (ts ∷ fb) fx front back = absurd front
  both_left (n ∷ before) xs [] fx front back = absurd front
  both_left (n ∷ before) xs (ts ∷ fb) fx (count, own, front) back =
      (count, own, both_left before xs fb fx front back)

  left_from-append : (above : List ℕ × Bool) (before xs : List OpenNode) (fb fx : List Forest)
      → AreLeft g text tokens before fb
      → left_from g text tokens above (before ++ xs) (fb ++ fx)
      ≡ left_from g text tokens (left_from g text tokens above xs fx) before fb
  left_from-append above [] xs [] fx front = refl
  left_from-append above [] xs (ts ∷ fb) fx front = absurd front
  left_from-append above (n ∷ before) xs [] fx front = absurd front
  left_from-append above (n ∷ before) xs (ts ∷ fb) fx (count, own, front) =
      ap (left_of g text tokens n ts) (left_from-append above before xs fb fx front)

  -- what comes first in what is printed above comes first in the whole
  abbrev pub Begins : List ℕ → List ℕ × Bool → List ℕ × Bool → Type 0
  Begins front whole rest = (whole.0 ≡ front ++ rest.0) × (whole.1 ≡ rest.1)

  begins : (front : List ℕ) (whole rest : List ℕ × Bool) (before : List OpenNode) (fb : List Forest)
      → Begins front whole rest
      → Begins front (left_from g text tokens whole before fb) (left_from g text tokens rest before fb)
  begins front whole rest [] fb is = is
  begins front whole rest (n ∷ before) [] is = is
  begins front whole rest (n ∷ before) (ts ∷ fb) is =
      let above = left_from g text tokens whole before fb in
      let other = left_from g text tokens rest before fb in
      let same = begins front whole rest before fb is in
      let ps : List Print = prints_of g text tokens ts in
      let behind : Bool → List ℕ = λ b. planned_text (plan_past b n.plan) ps ++ cons_option n.closing [] in (
        ap (λ bytes. bytes ++ behind above.1) same.0 ∙ append_assoc front other.0 (behind above.1)
            ∙ ap (λ b. front ++ (other.0 ++ behind b)) same.1,
        ap (λ b. n.is_child || (b || has_child ps)) same.1,
      )

  -- the last of the open nodes are others, where these are left of them and these bytes written
  abbrev pub Turns : List OpenNode → List OpenNode → List TreeNode → List TreeNode → List ℕ → Type 0
  Turns xs ys nodes others front =
      (fx : List Forest) (behind : List TreeNode)
      → AreLeft g text tokens xs fx → nodes ≡ nodes_left fx ++ behind
      → (fy : List Forest) × AreLeft g text tokens ys fy × (others ≡ nodes_left fy ++ behind)
      × Begins front (left_from g text tokens ([], false) xs fx) (left_from g text tokens ([], false) ys fy)

  abbrev pub HasBack : List ℕ → List ℕ → List OpenNode → List TreeNode → Type 0
  HasBack bytes front stack nodes =
      (back : List ℕ) × (bytes ≡ front ++ back) × IsLeft g text tokens stack nodes back

  pub turned :
      (before xs ys : List OpenNode) (nodes others : List TreeNode) (front bytes : List ℕ)
      → (HasRoot xs → HasRoot ys) → Turns xs ys nodes others front
      → IsLeft g text tokens (before ++ xs) nodes bytes → HasBack bytes front (before ++ ys) others
  turned before xs ys nodes others front bytes stays turns is =
      let (fb, fx, parts, are_before, are_last) = halves before xs is.forests is.are in
      let nodes_parts : nodes ≡ nodes_left fx ++ nodes_left fb =
      is.same_nodes ∙ ap nodes_left parts ∙ nodes_left-append fb fx in
      let (fy, are_other, others_parts, begin) = turns fx (nodes_left fb) are_last nodes_parts in
      let whole = begins front (left_from g text tokens ([], false) xs fx) (left_from g text tokens ([], false) ys fy) before fb begin in
      let back : List ℕ = (left_from g text tokens (left_from g text tokens ([], false) ys fy) before fb).0 in
      let start : bytes ≡ (left_from g text tokens (left_from g text tokens ([], false) xs fx) before fb).0 =
      is.same ∙ ap (λ fs. (left_from g text tokens ([], false) (before ++ xs) fs).0) parts
      ∙ ap (λ r. r.0) (left_from-append ([], false) before xs fb fx are_before) in (
        back,
        start ∙ whole.0,
        record {
          forests = fb ++ fy;
          are = both_left before ys fb fy are_before are_other;
          same_nodes = others_parts ∙ sym (nodes_left-append fb fy);
          same = ap (λ r. r.0) (sym (left_from-append ([], false) before ys fb fy are_before));
          root = root_stays before xs ys stays is.root;
        },
      )

  -- what is printed of the leaf of this node
  abbrev pub leaf_print : TreeNode → Print
  leaf_print n = print_of g text tokens (leaf n.kind n.first n.end)

  -- behind a leaf
  leaf_begins :
      (top : OpenNode) (t : Tree) (ts : Forest) (left : ℕ)
      → Begins (wanted_text (first_wanted top.plan) (print_of g text tokens t))
      (left_from g text tokens ([], false) (top ∷ []) (trees t ts ∷ []))
      (left_from g text tokens ([], false) (node_past (is_print (print_of g text tokens t)) left top ∷ []) (ts ∷ []))
  leaf_begins top t ts left =
      let p : Print = print_of g text tokens t in
      let ps : List Print = prints_of g text tokens ts in
      let closing : List ℕ = cons_option top.closing [] in
      let first : List ℕ = wanted_text (first_wanted top.plan) p in (
        ap (λ bytes. bytes ++ closing) (planned_child top.plan p ps)
            ∙ append_assoc first (planned_text (plan_past (is_print p) top.plan) ps) closing,
        ap (λ b. top.is_child || b) (has_child-with p ps) ∙ or_assoc top.is_child (is_print p) (has_child ps),
      )

  pub leaf_turns :
      (top : OpenNode) (n : TreeNode) (left : ℕ) (nodes : List TreeNode)
      → n.rule ≡ None → suc left ≡ top.left
      → Turns (top ∷ []) (node_past (is_print (leaf_print n)) left top ∷ []) (n ∷ nodes) nodes
      (wanted_text (first_wanted top.plan) (leaf_print n))
  leaf_turns top n left nodes no_rule count [] behind are same = absurd are
  leaf_turns top n left nodes no_rule count (ts ∷ other ∷ fx) behind (own, has, are) same = absurd are
  leaf_turns top n left nodes no_rule count (no_trees ∷ []) behind (own, has, are) same = absurd (omega arith)
  leaf_turns top n left nodes no_rule count (trees (node r a b subtrees) ts ∷ []) behind (own, has, are) same =
      absurd (cc)
  leaf_turns top n left nodes no_rule count (trees (leaf k a b) ts ∷ []) behind (own, (items, i, j, (s, rest, m, parts, first, others)), are) same =
      let root : n ≡ leaf_node k a b = cc in
      let rests : nodes ≡ forest_preorder ts ++ behind = cc in
      let printed : leaf_print n ≡ print_of g text tokens (leaf k a b) = ap leaf_print root in
      let P : Print → Type 0 = λ p. Begins (wanted_text (first_wanted top.plan) p)
      (left_from g text tokens ([], false) (top ∷ []) (trees (leaf k a b) ts ∷ []))
      (left_from g text tokens ([], false) (node_past (is_print p) left top ∷ []) (ts ∷ [])) in (
        ts ∷ [],
        (omega arith, (rest, m, j, others), tt),
        rests,
        subst P (sym printed) (leaf_begins top (leaf k a b) ts left),
      )

  -- what is printed of a node of the rule
  rule_print :
      (r a b : ℕ) (subtrees : Forest) (rule : Rule) → slice_get g.rules r ≡ Some rule
      → print_of g text tokens (node r a b subtrees) ≡ node_print rule.label (prints_of g text tokens subtrees)
  rule_print r a b subtrees rule is =
      let print : Rule → Print = λ (x : Rule). node_print x.label (prints_of g text tokens subtrees) in
      get_or-map print g.rules r rule no_print (slice_get_within g.rules r rule is)
      ∙ ap print (get_or_from_slice_get g.rules r rule rule is)

  -- behind the opening of a node
  rule_begins :
      (top : OpenNode) (t : Tree) (rule : Rule) (subtrees ts : Forest) (left count : ℕ)
      → print_of g text tokens t ≡ node_print rule.label (prints_of g text tokens subtrees)
      → Begins (opening rule.label (first_wanted top.plan))
      (left_from g text tokens ([], false) (top ∷ []) (trees t ts ∷ []))
      (left_from g text tokens ([], false) (node_past false left top ∷ opened rule.label (first_wanted top.plan) count ∷ []) (ts ∷ subtrees ∷ []))
  rule_begins top t rule subtrees ts left count printed =
      let p : Print = print_of g text tokens t in
      let ps : List Print = prints_of g text tokens ts in
      let below : List Print = prints_of g text tokens subtrees in
      let closing : List ℕ = cons_option top.closing [] in
      let wanted : Wanted = first_wanted top.plan in
      let first : List ℕ = opening rule.label wanted in
      let inner : List ℕ =
      planned_text (plan_of rule.label wanted) below ++ cons_option (closing_of rule.label wanted) [] in
      let is_child : Bool = makes_child rule.label || has_child below in
      let behind : Bool → List ℕ = λ b. planned_text (plan_past b top.plan) ps in
      let own : is_print p ≡ is_child =
      ap is_print printed ∙ node_is_print g text tokens rule.label subtrees in
      let parts : wanted_text wanted p ≡ first ++ inner =
      ap (wanted_text wanted) printed ∙ node_parts g text tokens rule.label wanted subtrees in (
        ap (λ bytes. bytes ++ closing) (planned_child top.plan p ps)
            ∙ append_assoc (wanted_text wanted p) (behind (is_print p)) closing
            ∙ ap (λ bytes. bytes ++ (behind (is_print p) ++ closing)) parts
            ∙ append_assoc first inner (behind (is_print p) ++ closing)
            ∙ ap (λ b. first ++ (inner ++ (behind b ++ closing))) own,
        ap (λ b. top.is_child || b) (has_child-with p ps ∙ ap (λ b. b || has_child ps) own)
            ∙ ap (λ b. b || (is_child || has_child ps)) (sym (or_false top.is_child)),
      )

  pub rule_turns :
      (top : OpenNode) (n : TreeNode) (r : ℕ) (rule : Rule) (left : ℕ) (nodes : List TreeNode)
      → n.rule ≡ Some r → slice_get g.rules r ≡ Some rule → suc left ≡ top.left
      → Turns (top ∷ []) (node_past false left top ∷ opened rule.label (first_wanted top.plan) n.children ∷ [])
      (n ∷ nodes) nodes (opening rule.label (first_wanted top.plan))
  rule_turns top n r rule left nodes of_rule is_rule count [] behind are same = absurd are
  rule_turns top n r rule left nodes of_rule is_rule count (ts ∷ other ∷ fx) behind (own, has, are) same = absurd are
  rule_turns top n r rule left nodes of_rule is_rule count (no_trees ∷ []) behind (own, has, are) same =
      absurd (omega arith)
  rule_turns top n r rule left nodes of_rule is_rule count (trees (leaf k a b) ts ∷ []) behind (own, has, are) same =
      absurd (cc)
  rule_turns top n r rule left nodes of_rule is_rule count (trees (node r' a b subtrees) ts ∷ []) behind
      (own, (items, i, j, (s, rest, m, parts, (rule', is', of', below, begins_at, ends_at), others)), are) same =
      let root : n ≡ rule_node r' a b (tree_count subtrees) = cc in
      let number : Some r' ≡ Some r = ap (λ (x : TreeNode). x.rule) (sym root) ∙ of_rule in
      let number_same : r' ≡ r = cc in
      let is_same : slice_get g.rules r' ≡ Some rule = ap (slice_get g.rules) number_same ∙ is_rule in
      let rests : nodes ≡ (forest_preorder subtrees ++ forest_preorder ts) ++ behind = cc in
      let children : tree_count subtrees ≡ n.children = ap (λ (x : TreeNode). x.children) (sym root) in (
        ts ∷ subtrees ∷ [],
        ((omega arith, (rest, m, j, others), (children, (rule'.items, i, m, below), tt))),
        rests,
        rule_begins top (node r' a b subtrees) rule subtrees ts left n.children
            (rule_print r' a b subtrees rule is_same),
      )

  -- behind a node of which nothing is left
  pub closing_turns :
      (below top : OpenNode) (nodes : List TreeNode) → top.left ≡ 0
      → Turns (below ∷ top ∷ []) (node_past top.is_child below.left below ∷ []) nodes nodes (cons_option top.closing [])
  closing_turns below top nodes none [] behind are same = absurd are
  closing_turns below top nodes none (ts ∷ []) behind (own, has, are) same = absurd are
  closing_turns below top nodes none (ts ∷ last ∷ other ∷ fx) behind (own, has, (own', has', are)) same = absurd are
  closing_turns below top nodes none (ts ∷ trees t others ∷ []) behind (own, has, (own', has', are)) same =
      absurd (omega arith)
  closing_turns below top nodes none (ts ∷ no_trees ∷ []) behind (own, has, (own', has', are)) same =
      let ps : List Print = prints_of g text tokens ts in
      let closing : List ℕ = cons_option top.closing [] in
      let last : List ℕ = cons_option below.closing [] in
      let child : top.is_child || false ≡ top.is_child = or_false top.is_child in (
        ts ∷ [],
        (own, has, tt),
        same,
        (
          ap (λ b. closing ++ (planned_text (plan_past b below.plan) ps ++ last)) child,
          ap (λ b. below.is_child || (b || has_child ps)) child
              ∙ or_assoc below.is_child top.is_child (has_child ps),
        ),
      )
