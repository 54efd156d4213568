-- How a print begins, goes on by one node or one closing, and ends.
use Rattle.std.proofs.Common.{inl, inr, ◌≡◌, ℕ, ◌+◌, ◌-◌, ◌<◌, ◌≤◌, List, [], ◌∷◌, ◌++◌, false, Option, Some, None, Result, Ok, Err, OnOk, OnErr, IfOk, drop, get_or, length, map, slice_get, refl, sym, ◌∙◌, ap, subst, arith, append_assoc, append-nil}
use Rattle.std.specs.List.{cons_option}
use Rattle.std.proofs.lemmas.Bool.{cases_eq}
use Rattle.std.proofs.lemmas.Option.{slice_get_within}
use Rattle.std.proofs.lemmas.List.{drop_all, drop_more, get_or_past, length-map}
use Rattle.spec_lexing.specs.declared.token.Token.{Token}
use Rattle.spec_lexing.specs.declared.kind_def.KindDef.{KindDef}
use Rattle.spec_lexing.specs.Tokens.{kinds_of}
use Rattle.spec_grammar.specs.declared.rule.Symbol.{Symbol}
use Rattle.spec_grammar.specs.declared.rule.Rule.{Rule}
use Rattle.spec_grammar.specs.Grammars.{Grammar}
use Rattle.spec_grammar.specs.Trees.{Tree, leaf, node, Forest, no_trees, trees}
use Rattle.spec_grammar.specs.Derivation.{IsParseTree}
use Rattle.spec_trees.specs.TreeText.{Print, no_print, token_print, token_bytes, print_text, print_of, prints_of, tree_text}
use Rattle.tree_nodes.specs.declared.node.TreeNode.{TreeNode}
use Rattle.tree_nodes.specs.TreeNodes.{tree_count, leaf_node, rule_node, preorder}
use Rattle.cyk_io.specs.Gathering.{Passes}
use Rattle.first_tree.specs.declared.open_node.OpenNode.{OpenNode}
use Rattle.first_tree.specs.declared.wanted.Wanted.{Wanted}
use Rattle.first_tree.specs.declared.wanted.Wanted.TheVariants.{Nothing, Text, SpacedText, Elements}
use Rattle.first_tree.specs.declared.wanted.Plan.TheVariants.{First}
use Rattle.first_tree.specs.Wanted.{is_print, wanted_text, first_wanted, planned_text, opening}
use Rattle.first_tree.specs.OpenNodes.{node_past, opened, nodes_left, AreLeft, left_from, IsLeft, Adds, StopsIn, Advances}
use Rattle.first_tree.proofs.WantedLemmas.{planned_child}
use Rattle.first_tree.proofs.WritingLemmas.{adds_none, both_add, stops_in_both, stops_later, on_error}
use Rattle.first_tree.proofs.OpenNodeLemmas.{nodes_left-append, halves, leaf_print, leaf_turns, rule_turns, closing_turns, turned, HasBack}

-- the root before its tree
abbrev pub root_node : OpenNode
root_node = record { plan = First Text; closing = None; is_child = false; left = 1 }

module _ (g : Grammar) (text : List ℕ) (tokens : List Token) where
  -- at first all is left
  pub all_left :
      (t : Tree) → (s : Symbol) (i j : ℕ) → IsParseTree g.rules (kinds_of tokens) t s i j
      → IsLeft g text tokens ([] ++ root_node ∷ []) (preorder t) (tree_text g text tokens t)
  all_left t s i j is =
      let p : Print = print_of g text tokens t in record {
        forests = trees t no_trees ∷ [];
        are = (refl, (s ∷ [], i, j, (s, [], j, refl, is, (refl, refl))), tt);
        same_nodes = sym (append-nil (preorder t));
        same =
            sym (append-nil (print_text p)) ∙ sym (planned_child (First Text) p [])
            ∙ sym (append-nil (planned_text (First Text) (prints_of g text tokens (trees t no_trees))));
        root = refl;
      }

  -- the first node that is left is that of a leaf of the text, or of a rule of the grammar
  leaf_of_forest :
      (top : OpenNode) (n : TreeNode) (nodes behind : List TreeNode) (fx : List Forest)
      → n.rule ≡ None → 0 < top.left → AreLeft g text tokens (top ∷ []) fx
      → n ∷ nodes ≡ nodes_left fx ++ behind → n.first < length tokens
  leaf_of_forest top n nodes behind [] no_rule some are same = absurd are
  leaf_of_forest top n nodes behind (ts ∷ other ∷ fx) no_rule some (own, has, are) same = absurd are
  leaf_of_forest top n nodes behind (no_trees ∷ []) no_rule some (own, has, are) same = absurd (omega arith)
  leaf_of_forest top n nodes behind (trees (node r a b subtrees) ts ∷ []) no_rule some (own, has, are) same =
      absurd (cc)
  leaf_of_forest top n nodes behind (trees (leaf k a b) ts ∷ []) no_rule some
      (own, (items, i, j, (s, rest, m, parts, (kind, there, ends, from, to), others)), are) same =
      let root : n ≡ leaf_node k a b = cc in
      let place : n.first ≡ i = ap (λ (x : TreeNode). x.first) root ∙ from in
      let within : i < length (kinds_of tokens) = slice_get_within (kinds_of tokens) i (Some k) there in
      omega (arith, place, within, length-map tokens (λ (token : Token). token.kind))

  rule_of_forest :
      (top : OpenNode) (n : TreeNode) (r : ℕ) (nodes behind : List TreeNode) (fx : List Forest)
      → n.rule ≡ Some r → 0 < top.left → AreLeft g text tokens (top ∷ []) fx
      → n ∷ nodes ≡ nodes_left fx ++ behind → r < length g.rules
  rule_of_forest top n r nodes behind [] of_rule some are same = absurd are
  rule_of_forest top n r nodes behind (ts ∷ other ∷ fx) of_rule some (own, has, are) same = absurd are
  rule_of_forest top n r nodes behind (no_trees ∷ []) of_rule some (own, has, are) same = absurd (omega arith)
  rule_of_forest top n r nodes behind (trees (leaf k a b) ts ∷ []) of_rule some (own, has, are) same = absurd (cc)
  rule_of_forest top n r nodes behind (trees (node r' a b subtrees) ts ∷ []) of_rule some
      (own, (items, i, j, (s, rest, m, parts, (rule, there, of, below, from, to), others)), are) same =
      let root : n ≡ rule_node r' a b (tree_count subtrees) = cc in
      let number : Some r' ≡ Some r = ap (λ (x : TreeNode). x.rule) (sym root) ∙ of_rule in
      let number_same : r' ≡ r = cc in
      let within : r' < length g.rules = slice_get_within g.rules r' rule there in
      omega (arith, number_same, within)

  module _ (stack : List OpenNode) (top : OpenNode) (n : TreeNode) (nodes : List TreeNode) (bytes : List ℕ)
      (some : 0 < top.left) (is : IsLeft g text tokens (stack ++ top ∷ []) (n ∷ nodes) bytes) where
    pub leaf_within : n.rule ≡ None → n.first < length tokens
    leaf_within no_rule =
        let (fb, fx, parts, before, last) = halves g text tokens stack (top ∷ []) is.forests is.are in
        leaf_of_forest top n nodes (nodes_left fb) fx no_rule some last
        (is.same_nodes ∙ ap nodes_left parts ∙ nodes_left-append fb fx)

    pub rule_within : (r : ℕ) → n.rule ≡ Some r → r < length g.rules
    rule_within r of_rule =
        let (fb, fx, parts, before, last) = halves g text tokens stack (top ∷ []) is.forests is.are in
        rule_of_forest top n r nodes (nodes_left fb) fx of_rule some last
        (is.same_nodes ∙ ap nodes_left parts ∙ nodes_left-append fb fx)

    leaf_back :
        n.rule ≡ None
        → HasBack g text tokens bytes (wanted_text (first_wanted top.plan) (leaf_print g text tokens n))
        (stack ++ node_past (is_print (leaf_print g text tokens n)) (top.left - 1) top ∷ []) nodes
    leaf_back no_rule =
        turned g text tokens stack (top ∷ [])
        (node_past (is_print (leaf_print g text tokens n)) (top.left - 1) top ∷ []) (n ∷ nodes) nodes
        (wanted_text (first_wanted top.plan) (leaf_print g text tokens n)) bytes (λ root. root)
        (leaf_turns g text tokens top n (top.left - 1) nodes no_rule (omega (arith, some))) is

    rule_back :
        (r : ℕ) (rule : Rule) → n.rule ≡ Some r → slice_get g.rules r ≡ Some rule
        → HasBack g text tokens bytes (opening rule.label (first_wanted top.plan))
        (stack ++ (node_past false (top.left - 1) top ∷ opened rule.label (first_wanted top.plan) n.children ∷ [])) nodes
    rule_back r rule of_rule is_rule =
        turned g text tokens stack (top ∷ [])
        (node_past false (top.left - 1) top ∷ opened rule.label (first_wanted top.plan) n.children ∷ [])
        (n ∷ nodes) nodes (opening rule.label (first_wanted top.plan)) bytes (λ root. root)
        (rule_turns g text tokens top n r rule (top.left - 1) nodes of_rule is_rule (omega (arith, some))) is

    module _ (old new : Option (List ℕ) × List ℕ) where
      pub leaf_advances :
          (behind : OpenNode) → n.rule ≡ None
          → Adds old new (wanted_text (first_wanted top.plan) (leaf_print g text tokens n))
          → behind ≡ node_past (is_print (leaf_print g text tokens n)) (top.left - 1) top
          → Advances g text tokens old new bytes (stack ++ behind ∷ []) nodes
      leaf_advances behind no_rule grows same =
          let (back, whole, left) = leaf_back no_rule in
          let P : OpenNode → Type 0 = λ x. IsLeft g text tokens (stack ++ x ∷ []) nodes back in
          (wanted_text (first_wanted top.plan) (leaf_print g text tokens n), back, whole, grows, subst P (sym same) left)

      pub leaf_stops :
          n.rule ≡ None
          → StopsIn old new (wanted_text (first_wanted top.plan) (leaf_print g text tokens n))
          → StopsIn old new bytes
      leaf_stops no_rule cut =
          let (back, whole, left) = leaf_back no_rule in
          let P : List ℕ → Type 0 = StopsIn old new in
          subst P (sym whole) (stops_in_both old new (wanted_text (first_wanted top.plan) (leaf_print g text tokens n)) back cut)

      pub rule_advances :
          (r : ℕ) (rule : Rule) (inner : OpenNode) (stack' : List OpenNode)
          → n.rule ≡ Some r → slice_get g.rules r ≡ Some rule
          → Adds old new (opening rule.label (first_wanted top.plan))
          → stack' ≡ stack ++ node_past false (top.left - 1) top ∷ []
          → inner ≡ opened rule.label (first_wanted top.plan) n.children
          → Advances g text tokens old new bytes (stack' ++ inner ∷ []) nodes
      rule_advances r rule inner stack' of_rule is_rule grows kept same =
          let (back, whole, left) = rule_back r rule of_rule is_rule in
          let outer : OpenNode = node_past false (top.left - 1) top in
          let own : OpenNode = opened rule.label (first_wanted top.plan) n.children in
          let all : stack' ++ inner ∷ [] ≡ stack ++ (outer ∷ own ∷ []) =
          ap (λ x. stack' ++ x ∷ []) same ∙ ap (λ xs. xs ++ own ∷ []) kept ∙ append_assoc stack (outer ∷ []) (own ∷ []) in
          let P : List OpenNode → Type 0 = λ xs. IsLeft g text tokens xs nodes back in
          (opening rule.label (first_wanted top.plan), back, whole, grows, subst P (sym all) left)

      pub rule_stops :
          (r : ℕ) (rule : Rule) → n.rule ≡ Some r → slice_get g.rules r ≡ Some rule
          → StopsIn old new (opening rule.label (first_wanted top.plan)) → StopsIn old new bytes
      rule_stops r rule of_rule is_rule cut =
          let (back, whole, left) = rule_back r rule of_rule is_rule in
          let P : List ℕ → Type 0 = StopsIn old new in
          subst P (sym whole) (stops_in_both old new (opening rule.label (first_wanted top.plan)) back cut)

  -- what a step at a leaf answers, by what it wrote
  module _ (stack : List OpenNode) (top : OpenNode) (n : TreeNode) (some : 0 < top.left) (no_rule : n.rule ≡ None)
      (old new : Option (List ℕ) × List ℕ) where
    pub leaf_goes :
        {E : Type 0} → (r : Result OpenNode E)
        → OnOk r (Adds old new (wanted_text (first_wanted top.plan) (leaf_print g text tokens n)))
        → IfOk r (λ behind. behind ≡ node_past (is_print (leaf_print g text tokens n)) (top.left - 1) top)
        → IfOk r (λ inner. (nodes : List TreeNode) (bytes : List ℕ)
        → IsLeft g text tokens (stack ++ top ∷ []) (n ∷ nodes) bytes
        → Advances g text tokens old new bytes (stack ++ inner ∷ []) nodes)
    leaf_goes (Ok inner) grows same = λ nodes bytes is.
        leaf_advances stack top n nodes bytes some is old new inner no_rule grows same
    leaf_goes (Err fault) grows same = grows

    pub leaf_fails :
        {T E : Type 0} → (r : Result T E)
        → OnErr r (StopsIn old new (wanted_text (first_wanted top.plan) (leaf_print g text tokens n)))
        → OnErr r ((nodes : List TreeNode) (bytes : List ℕ)
        → IsLeft g text tokens (stack ++ top ∷ []) (n ∷ nodes) bytes → StopsIn old new bytes)
    leaf_fails (Ok inner) cut = cut
    leaf_fails (Err fault) cut = λ nodes bytes is. leaf_stops stack top n nodes bytes some is old new no_rule cut

  -- and at a node of a rule
  module _ (stack : List OpenNode) (top : OpenNode) (n : TreeNode) (some : 0 < top.left) (r : ℕ) (rule : Rule)
      (of_rule : n.rule ≡ Some r) (is_rule : slice_get g.rules r ≡ Some rule) (old new : Option (List ℕ) × List ℕ) where
    pub rule_goes :
        {E : Type 0} → (stack' : List OpenNode) (result : Result OpenNode E)
        → OnOk result (Adds old new (opening rule.label (first_wanted top.plan)))
        → OnOk result (stack' ≡ stack ++ node_past false (top.left - 1) top ∷ [])
        → IfOk result (λ inner. inner ≡ opened rule.label (first_wanted top.plan) n.children)
        → IfOk result (λ inner. (nodes : List TreeNode) (bytes : List ℕ)
        → IsLeft g text tokens (stack ++ top ∷ []) (n ∷ nodes) bytes
        → Advances g text tokens old new bytes (stack' ++ inner ∷ []) nodes)
    rule_goes stack' (Ok inner) grows kept same = λ nodes bytes is.
        rule_advances stack top n nodes bytes some is old new r rule inner stack' of_rule is_rule grows kept same
    rule_goes stack' (Err fault) grows kept same = grows

    pub rule_fails :
        {T E : Type 0} → (result : Result T E)
        → OnErr result (StopsIn old new (opening rule.label (first_wanted top.plan)))
        → OnErr result ((nodes : List TreeNode) (bytes : List ℕ)
        → IsLeft g text tokens (stack ++ top ∷ []) (n ∷ nodes) bytes → StopsIn old new bytes)
    rule_fails (Ok inner) cut = cut
    rule_fails (Err fault) cut = λ nodes bytes is.
        rule_stops stack top n nodes bytes some is old new r rule of_rule is_rule cut

  -- bytes advance, and then more
  pub advances_more :
      (old mid new : Option (List ℕ) × List ℕ) (bytes : List ℕ) (stack stack' : List OpenNode) (nodes nodes' : List TreeNode)
      → Advances g text tokens old mid bytes stack nodes
      → ((rest : List ℕ) → IsLeft g text tokens stack nodes rest → Advances g text tokens mid new rest stack' nodes')
      → Advances g text tokens old new bytes stack' nodes'
  advances_more old mid new bytes stack stack' nodes nodes' (front, back, whole, grows, left) more =
      let (next, last, rest, grows_more, left_more) = more back left in (
        front ++ next,
        last,
        whole ∙ ap (λ xs. front ++ xs) rest ∙ sym (append_assoc front next last),
        both_add old mid new front next grows grows_more,
        left_more,
      )

  -- bytes advance, and then a prefix of the others comes
  pub stops_behind :
      (old mid new : Option (List ℕ) × List ℕ) (bytes : List ℕ) (stack : List OpenNode) (nodes : List TreeNode)
      → Advances g text tokens old mid bytes stack nodes
      → ((rest : List ℕ) → IsLeft g text tokens stack nodes rest → StopsIn mid new rest)
      → StopsIn old new bytes
  stops_behind old mid new bytes stack nodes (front, back, whole, grows, left) cut =
      let P : List ℕ → Type 0 = StopsIn old new in
      subst P (sym whole) (stops_later old mid new front back grows (cut back left))

  -- nothing is written
  pub stays :
      (old : Option (List ℕ) × List ℕ) (bytes : List ℕ) (stack : List OpenNode) (nodes : List TreeNode)
      → IsLeft g text tokens stack nodes bytes → Advances g text tokens old old bytes stack nodes
  stays old bytes stack nodes left =
      ([], bytes, refl, adds_none old, left)

  module _ (stack before : List OpenNode) (below top : OpenNode) (nodes : List TreeNode) (bytes : List ℕ)
      (none : top.left ≡ 0) (popped : stack ≡ before ++ below ∷ [])
      (is : IsLeft g text tokens (stack ++ top ∷ []) nodes bytes) where
    closing_back :
        HasBack g text tokens bytes (cons_option top.closing [])
        (before ++ node_past top.is_child below.left below ∷ []) nodes
    closing_back =
        let all : stack ++ top ∷ [] ≡ before ++ (below ∷ top ∷ []) =
        ap (λ xs. xs ++ top ∷ []) popped ∙ append_assoc before (below ∷ []) (top ∷ []) in
        let P : List OpenNode → Type 0 = λ xs. IsLeft g text tokens xs nodes bytes in
        turned g text tokens before (below ∷ top ∷ []) (node_past top.is_child below.left below ∷ []) nodes nodes
        (cons_option top.closing []) bytes (λ root. root)
        (closing_turns g text tokens below top nodes none) (subst P all is)

    pub closing_advances :
        (old new : Option (List ℕ) × List ℕ) (behind : OpenNode) → Adds old new (cons_option top.closing [])
        → behind ≡ node_past top.is_child below.left below
        → Advances g text tokens old new bytes (before ++ behind ∷ []) nodes
    closing_advances old new behind grows same =
        let (back, whole, left) = closing_back in
        let P : OpenNode → Type 0 = λ x. IsLeft g text tokens (before ++ x ∷ []) nodes back in
        (cons_option top.closing [], back, whole, grows, subst P (sym same) left)

    pub closing_stops :
        (old new : Option (List ℕ) × List ℕ) → StopsIn old new (cons_option top.closing [])
        → StopsIn old new bytes
    closing_stops old new cut =
        let (back, whole, left) = closing_back in
        let P : List ℕ → Type 0 = StopsIn old new in
        subst P (sym whole) (stops_in_both old new (cons_option top.closing []) back cut)

  -- where a node is left, some subtree of the top one is, unless other nodes are below it
  pub some_left :
      (stack : List OpenNode) (top : OpenNode) (n : TreeNode) (nodes : List TreeNode) (bytes : List ℕ)
      → (top.left ≡ 0 → stack ≡ []) → IsLeft g text tokens (stack ++ top ∷ []) (n ∷ nodes) bytes
      → 0 < top.left
  some_left stack top n nodes bytes ready is = elim (cases_eq top.left 0) [
    | inl none ↦
        let P : List OpenNode → Type 0 = λ xs. AreLeft g text tokens (xs ++ top ∷ []) is.forests in
        absurd (not_none top n nodes is.forests none (subst P (ready none) is.are) is.same_nodes)
    | inr some ↦ omega (arith, some)
  ]
    where
      not_none :
          (top : OpenNode) (n : TreeNode) (nodes : List TreeNode) (fs : List Forest) → top.left ≡ 0
          → AreLeft g text tokens (top ∷ []) fs → n ∷ nodes ≡ nodes_left fs → ⊥
      not_none top n nodes [] none are same = are
      not_none top n nodes (ts ∷ other ∷ fs) none (own, has, are) same = are
      not_none top n nodes (trees t ts ∷ []) none (own, has, are) same = omega arith
      not_none top n nodes (no_trees ∷ []) none (own, has, are) same = cc

  -- where no node is left, nothing is left to print
  pub none_left :
      (stack : List OpenNode) (top : OpenNode) (bytes : List ℕ)
      → (top.left ≡ 0 → stack ≡ []) → IsLeft g text tokens (stack ++ top ∷ []) [] bytes → bytes ≡ []
  none_left stack top bytes ready is =
      let (fb, fx, parts, before, last) = halves g text tokens stack (top ∷ []) is.forests is.are in
      let no_nodes : [] ≡ nodes_left fx ++ nodes_left fb =
      is.same_nodes ∙ ap nodes_left parts ∙ nodes_left-append fb fx in
      let none : top.left ≡ 0 = top_is_done top fx (nodes_left fb) last no_nodes in
      let P : List OpenNode → Type 0 = λ xs. IsLeft g text tokens (xs ++ top ∷ []) [] bytes in
      let alone : IsLeft g text tokens (top ∷ []) [] bytes = subst P (ready none) is in
      alone.same ∙ nothing_left top alone.forests none alone.are alone.root
    where
      top_is_done :
          (top : OpenNode) (fx : List Forest) (behind : List TreeNode) → AreLeft g text tokens (top ∷ []) fx
          → [] ≡ nodes_left fx ++ behind → top.left ≡ 0
      top_is_done top [] behind are same = absurd are
      top_is_done top (ts ∷ other ∷ fs) behind (own, has, are) same = absurd are
      top_is_done top (no_trees ∷ []) behind (own, has, are) same = sym own
      top_is_done top (trees (leaf k a b) ts ∷ []) behind (own, has, are) same = absurd (cc)
      top_is_done top (trees (node r a b subtrees) ts ∷ []) behind (own, has, are) same = absurd (cc)

      nothing_left :
          (top : OpenNode) (fs : List Forest) → top.left ≡ 0 → AreLeft g text tokens (top ∷ []) fs
          → top.closing ≡ None → (left_from g text tokens ([], false) (top ∷ []) fs).0 ≡ []
      nothing_left top [] none are root = absurd are
      nothing_left top (ts ∷ other ∷ fs) none (own, has, are) root = absurd are
      nothing_left top (trees t ts ∷ []) none (own, has, are) root = absurd (omega arith)
      nothing_left top (no_trees ∷ []) none (own, has, are) root = ap (λ byte. cons_option byte []) root

  -- of what is left the first node, and where none is left all is written
  module _ (old now : Option (List ℕ) × List ℕ) (whole : List ℕ) (stack : List OpenNode) (top : OpenNode) (nodes : List TreeNode)
      (ready : top.left ≡ 0 → stack ≡ []) (advances : Advances g text tokens old now whole (stack ++ top ∷ []) nodes) where
    pub next_left :
        (n : TreeNode) (others : List TreeNode) → nodes ≡ n ∷ others
        → (ns : List TreeNode) × (bytes : List ℕ) × IsLeft g text tokens (stack ++ top ∷ []) (n ∷ ns) bytes
    next_left n others same =
        let (front, back, parts, grows, left) = advances in
        let P : List TreeNode → Type 0 = λ ns. IsLeft g text tokens (stack ++ top ∷ []) ns back in
        (others, back, subst P same left)

    pub next_some : (n : TreeNode) (others : List TreeNode) → nodes ≡ n ∷ others → 0 < top.left
    next_some n others same =
        let (ns, bytes, left) = next_left n others same in
        some_left stack top n ns bytes ready left

    pub all_written : nodes ≡ [] → Adds old now whole
    all_written none =
        let (front, back, parts, grows, left) = advances in
        let P : List TreeNode → Type 0 = λ ns. IsLeft g text tokens (stack ++ top ∷ []) ns back in
        let nothing : back ≡ [] = none_left stack top back ready (subst P none left) in
        let Q : List ℕ → Type 0 = Adds old now in
        subst Q (sym (parts ∙ ap (λ bytes. front ++ bytes) nothing ∙ append-nil front)) grows

-- of a leaf whose kind is none of the grammar's nothing is printed, so nothing passes
module _ (g : Grammar) (text : List ℕ) (tokens : List Token) (kind first end : ℕ)
    (past : length g.lexicon.kinds ≤ kind) where
  unprinted : print_of g text tokens (leaf kind first end) ≡ no_print
  unprinted =
      let print : KindDef → Print = λ def. token_print def (token_bytes g text tokens first) in
      get_or_past (map print g.lexicon.kinds) kind no_print (omega (arith, past, length-map g.lexicon.kinds print))

  pub unprinted_passes :
      (old : Option (List ℕ)) (gathered : List ℕ) (wanted : Wanted)
      → Passes old old gathered (wanted_text wanted (print_of g text tokens (leaf kind first end))) gathered
  unprinted_passes old gathered wanted =
      let P : List ℕ → Type 0 = λ bytes. Passes old old gathered bytes gathered in
      subst P (sym (ap (wanted_text wanted) unprinted ∙ nothing wanted)) (adds_none (old, gathered))
    where
      nothing : (w : Wanted) → wanted_text w no_print ≡ []
      nothing Nothing = refl
      nothing Text = refl
      nothing SpacedText = refl
      nothing Elements = refl

-- what stands at a place that there is not
abbrev pub no_node : TreeNode
no_node = record { rule = None; kind = 0; first = 0; end = 0; children = 0 }

-- the print of a tree, before the node of this place
module _ (g : Grammar) (text : List ℕ) (tokens : List Token) (t : Tree) (nodes : List TreeNode) (i : ℕ)
    (stack : List OpenNode) (top : OpenNode) (old now : Option (List ℕ) × List ℕ) (same : nodes ≡ preorder t)
    (ready : top.left ≡ 0 → stack ≡ [])
    (advances : Advances g text tokens old now (tree_text g text tokens t) (stack ++ top ∷ []) (drop i (preorder t))) where
  -- behind the last node all is written
  pub all_at_end : length nodes ≤ i → Adds old now (tree_text g text tokens t)
  all_at_end past =
      let P : List TreeNode → Type 0 = λ xs. drop i xs ≡ [] in
      all_written g text tokens old now (tree_text g text tokens t) stack top (drop i (preorder t)) ready advances
      (subst P same (drop_all i nodes past))

  module _ (within : i < length nodes) where
    at_node : drop i (preorder t) ≡ get_or nodes i no_node ∷ drop (i + 1) (preorder t)
    at_node =
        let P : List TreeNode → Type 0 = λ xs. drop i xs ≡ get_or nodes i no_node ∷ drop (i + 1) xs in
        subst P same (drop_more nodes i no_node within)

    pub some_at_node : 0 < top.left
    some_at_node =
        next_some g text tokens old now (tree_text g text tokens t) stack top (drop i (preorder t)) ready advances
        (get_or nodes i no_node) (drop (i + 1) (preorder t)) at_node

    pub left_at_node :
        (others : List TreeNode) × (bytes : List ℕ)
        × IsLeft g text tokens (stack ++ top ∷ []) (get_or nodes i no_node ∷ others) bytes
    left_at_node =
        next_left g text tokens old now (tree_text g text tokens t) stack top (drop i (preorder t)) ready advances
        (get_or nodes i no_node) (drop (i + 1) (preorder t)) at_node

    begun :
        Advances g text tokens old now (tree_text g text tokens t) (stack ++ top ∷ [])
        (get_or nodes i no_node ∷ drop (i + 1) (preorder t))
    begun =
        let P : List TreeNode → Type 0 =
        Advances g text tokens old now (tree_text g text tokens t) (stack ++ top ∷ []) in
        subst P at_node advances

    -- the node cannot be entered
    pub entering_fails :
        {X E : Type 0} → (new : Option (List ℕ) × List ℕ) (r : Result X E)
        → ((others : List TreeNode) (bytes : List ℕ)
        → IsLeft g text tokens (stack ++ top ∷ []) (get_or nodes i no_node ∷ others) bytes
        → StopsIn now new bytes)
        → OnErr r (StopsIn old new (tree_text g text tokens t))
    entering_fails new r cut =
        on_error (StopsIn old new (tree_text g text tokens t)) r
        (stops_behind g text tokens old now new (tree_text g text tokens t) (stack ++ top ∷ [])
        (get_or nodes i no_node ∷ drop (i + 1) (preorder t)) begun (cut (drop (i + 1) (preorder t))))

    -- it is entered
    module _ (mid : Option (List ℕ) × List ℕ) (entered : List OpenNode) (inner : OpenNode)
        (enters : (others : List TreeNode) (bytes : List ℕ)
        → IsLeft g text tokens (stack ++ top ∷ []) (get_or nodes i no_node ∷ others) bytes
        → Advances g text tokens now mid bytes (entered ++ inner ∷ []) others) where
      past_node :
          Advances g text tokens old mid (tree_text g text tokens t) (entered ++ inner ∷ [])
          (drop (i + 1) (preorder t))
      past_node =
          advances_more g text tokens old now mid (tree_text g text tokens t) (stack ++ top ∷ [])
          (entered ++ inner ∷ []) (get_or nodes i no_node ∷ drop (i + 1) (preorder t)) (drop (i + 1) (preorder t))
          begun (enters (drop (i + 1) (preorder t)))

      -- and those of which nothing is left are closed
      pub goes_on :
          (new : Option (List ℕ) × List ℕ) (closed : List OpenNode) (below : OpenNode)
          → ((g' : Grammar) (text' : List ℕ) (tokens' : List Token) (others : List TreeNode) (bytes : List ℕ)
          → IsLeft g' text' tokens' (entered ++ inner ∷ []) others bytes
          → Advances g' text' tokens' mid new bytes (closed ++ below ∷ []) others)
          → Advances g text tokens old new (tree_text g text tokens t) (closed ++ below ∷ []) (drop (i + 1) (preorder t))
      goes_on new closed below closes =
          advances_more g text tokens old mid new (tree_text g text tokens t) (entered ++ inner ∷ [])
          (closed ++ below ∷ []) (drop (i + 1) (preorder t)) (drop (i + 1) (preorder t)) past_node
          (closes g text tokens (drop (i + 1) (preorder t)))

      pub closing_fails :
          {X E : Type 0} → (new : Option (List ℕ) × List ℕ) (r : Result X E)
          → ((g' : Grammar) (text' : List ℕ) (tokens' : List Token) (others : List TreeNode) (bytes : List ℕ)
          → IsLeft g' text' tokens' (entered ++ inner ∷ []) others bytes → StopsIn mid new bytes)
          → OnErr r (StopsIn old new (tree_text g text tokens t))
      closing_fails new r cut =
          on_error (StopsIn old new (tree_text g text tokens t)) r
          (stops_behind g text tokens old mid new (tree_text g text tokens t) (entered ++ inner ∷ [])
          (drop (i + 1) (preorder t)) past_node (cut g text tokens (drop (i + 1) (preorder t))))
