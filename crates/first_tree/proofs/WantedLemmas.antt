-- What is wanted of a node comes as its opening, what is planned for its children, and its closing.
use Rattle.std.proofs.Common.{◌≡◌, ℕ, List, [], ◌∷◌, ◌++◌, codes, flat_map, ◌||◌, refl, sym, ◌∙◌, ap, append-nil}
use Rattle.std.specs.List.{cons_option}
use Rattle.spec_lexing.specs.declared.token.Token.{Token}
use Rattle.spec_grammar.specs.declared.rule.Label.{Label}
use Rattle.spec_grammar.specs.declared.rule.Label.TheVariants.{Named, Wild, Nil, Cons, One}
use Rattle.spec_grammar.specs.Grammars.{Grammar}
use Rattle.spec_grammar.specs.Trees.{Forest, no_trees, trees}
use Rattle.spec_trees.specs.TreeText.{Print, no_print, text_print, list_print, comma_separated, print_text, print_elements, child_print, node_print, with_child, print_of, prints_of}
use Rattle.first_tree.specs.declared.wanted.Wanted.{Wanted}
use Rattle.first_tree.specs.declared.wanted.Wanted.TheVariants.{Nothing, Text, SpacedText, Elements}
use Rattle.first_tree.specs.declared.wanted.Plan.{Plan}
use Rattle.first_tree.specs.declared.wanted.Plan.TheVariants.{EachText, TextAndElements, First}
use Rattle.first_tree.specs.Wanted.{is_print, has_child, commas_before, wanted_text, first_wanted, plan_past, planned_text, plan_of, opening, closing_of, makes_child}

-- nothing is printed of what is no child
wanted_of_none : (wanted : Wanted) → wanted_text wanted no_print ≡ []
wanted_of_none Nothing = refl
wanted_of_none Text = refl
wanted_of_none SpacedText = refl
wanted_of_none Elements = refl

-- nothing is printed where nothing is planned
planned_nothing : (ps : List Print) → planned_text (First Nothing) ps ≡ []
planned_nothing [] = refl
planned_nothing (p ∷ ps) = planned_nothing ps

-- of the first child alone
planned_first :
    (wanted : Wanted) (ps : List Print)
    → planned_text (First wanted) ps ≡ wanted_text wanted (child_print ps 0)
planned_first wanted [] = sym (wanted_of_none wanted)
planned_first wanted (p ∷ ps) =
    ap (λ text. wanted_text wanted p ++ text) (planned_nothing ps) ∙ append-nil (wanted_text wanted p)

-- of the first child, and of the elements of the second
planned_elements :
    (ps : List Print)
    → planned_text TextAndElements ps
    ≡ print_text (child_print ps 0) ++ commas_before (print_elements (child_print ps 1))
planned_elements [] = refl
planned_elements (p ∷ []) = refl
planned_elements (p ∷ q ∷ qs) =
    let elements : List ℕ = commas_before (print_elements q) in
    ap (λ text. print_text p ++ (elements ++ text)) (planned_nothing qs)
    ∙ ap (λ text. print_text p ++ text) (append-nil elements)

-- elements with commas between them are the first, and the others behind commas
commas_between :
    (element : List ℕ) (others : List (List ℕ))
    → comma_separated (element ∷ others) ≡ element ++ commas_before others
commas_between element [] = sym (append-nil element)
commas_between element (other ∷ others) =
    ap (λ text. element ++ (codes ", " ++ text)) (commas_between other others)

-- one child more, if it is one
pub planned_child :
    (plan : Plan) (p : Print) (ps : List Print)
    → planned_text plan (with_child p ps)
    ≡ wanted_text (first_wanted plan) p ++ planned_text (plan_past (is_print p) plan) ps
planned_child plan no_print ps =
    ap (λ text. text ++ planned_text plan ps) (sym (wanted_of_none (first_wanted plan)))
planned_child plan (text_print text) ps = refl
planned_child plan (list_print elements) ps = refl

pub has_child-with :
    (p : Print) (ps : List Print) → has_child (with_child p ps) ≡ is_print p || has_child ps
has_child-with no_print ps = refl
has_child-with (text_print text) ps = refl
has_child-with (list_print elements) ps = refl

module _ (g : Grammar) (text : List ℕ) (tokens : List Token) where
  -- the text of a child behind a space
  abbrev pub behind_space : Print → List ℕ
  behind_space child = 32 ∷ print_text child

  -- each child is printed behind a space
  each_with :
      (p : Print) (ps : List Print) → planned_text EachText ps ≡ flat_map behind_space ps
      → planned_text EachText (with_child p ps) ≡ flat_map behind_space (with_child p ps)
  each_with no_print ps same = same
  each_with (text_print own) ps same = ap (λ more. (32 ∷ own) ++ more) same
  each_with (list_print elements) ps same =
      ap (λ more. (32 ∷ print_text (list_print elements)) ++ more) same

  planned_each :
      (ts : Forest)
      → planned_text EachText (prints_of g text tokens ts) ≡ flat_map behind_space (prints_of g text tokens ts)
  planned_each no_trees = refl
  planned_each (trees t ts) =
      each_with (print_of g text tokens t) (prints_of g text tokens ts) (planned_each ts)

  -- something is printed of a first child
  first_with :
      (p : Print) (ps : List Print) → is_print (child_print ps 0) ≡ has_child ps
      → is_print (child_print (with_child p ps) 0) ≡ has_child (with_child p ps)
  first_with no_print ps same = same
  first_with (text_print own) ps same = refl
  first_with (list_print elements) ps same = refl

  first_is_print :
      (ts : Forest)
      → is_print (child_print (prints_of g text tokens ts) 0) ≡ has_child (prints_of g text tokens ts)
  first_is_print no_trees = refl
  first_is_print (trees t ts) =
      first_with (print_of g text tokens t) (prints_of g text tokens ts) (first_is_print ts)

  -- whether a node is a child
  pub node_is_print :
      (label : Label) (ts : Forest)
      → is_print (node_print label (prints_of g text tokens ts))
      ≡ makes_child label || has_child (prints_of g text tokens ts)
  node_is_print (Named name) ts = refl
  node_is_print Wild ts = first_is_print ts
  node_is_print Nil ts = refl
  node_is_print Cons ts = refl
  node_is_print One ts = refl

  -- what is printed of a node's children by its plan, behind its opening and before its closing
  abbrev pub parts_text : Label → Wanted → List Print → List ℕ
  parts_text label wanted ps =
      opening label wanted
      ++ (planned_text (plan_of label wanted) ps ++ cons_option (closing_of label wanted) [])

  -- where nothing is planned and nothing comes behind it
  none_of : (ps : List Print) → [] ≡ planned_text (First Nothing) ps ++ []
  none_of ps = sym (append-nil (planned_text (First Nothing) ps) ∙ planned_nothing ps)

  named_parts :
      (name : List ℕ) (wanted : Wanted) (ts : Forest)
      → wanted_text wanted (node_print (Named name) (prints_of g text tokens ts))
      ≡ parts_text (Named name) wanted (prints_of g text tokens ts)
  named_parts name Nothing ts = none_of (prints_of g text tokens ts)
  named_parts name Text ts = ap (λ more. 40 ∷ (name ++ (more ++ 41 ∷ []))) (sym (planned_each ts))
  named_parts name SpacedText ts =
      ap (λ more. 32 ∷ 40 ∷ (name ++ (more ++ 41 ∷ []))) (sym (planned_each ts))
  named_parts name Elements ts = none_of (prints_of g text tokens ts)

  nil_parts :
      (wanted : Wanted) (ps : List Print) → wanted_text wanted (node_print Nil ps) ≡ parts_text Nil wanted ps
  nil_parts Nothing ps = none_of ps
  nil_parts Text ps = ap (λ more. 91 ∷ (more ++ 93 ∷ [])) (sym (planned_nothing ps))
  nil_parts SpacedText ps = ap (λ more. 32 ∷ 91 ∷ (more ++ 93 ∷ [])) (sym (planned_nothing ps))
  nil_parts Elements ps = none_of ps

  one_parts :
      (wanted : Wanted) (ps : List Print) → wanted_text wanted (node_print One ps) ≡ parts_text One wanted ps
  one_parts Nothing ps = none_of ps
  one_parts Text ps = ap (λ more. 91 ∷ (more ++ 93 ∷ [])) (sym (planned_first Text ps))
  one_parts SpacedText ps = ap (λ more. 32 ∷ 91 ∷ (more ++ 93 ∷ [])) (sym (planned_first Text ps))
  one_parts Elements ps =
      ap (λ more. codes ", " ++ (more ++ [])) (sym (planned_first Text ps))

  cons_parts :
      (wanted : Wanted) (ps : List Print) → wanted_text wanted (node_print Cons ps) ≡ parts_text Cons wanted ps
  cons_parts Nothing ps = none_of ps
  cons_parts Text ps =
      ap (λ more. 91 ∷ (more ++ 93 ∷ [])) (commas_between (print_text (child_print ps 0)) (print_elements (child_print ps 1)) ∙ sym (planned_elements ps))
  cons_parts SpacedText ps =
      ap (λ more. 32 ∷ 91 ∷ (more ++ 93 ∷ [])) (commas_between (print_text (child_print ps 0)) (print_elements (child_print ps 1)) ∙ sym (planned_elements ps))
  cons_parts Elements ps =
      ap (λ more. codes ", " ++ more) (sym (planned_elements ps) ∙ sym (append-nil (planned_text TextAndElements ps)))

  pub node_parts :
      (label : Label) (wanted : Wanted) (ts : Forest)
      → wanted_text wanted (node_print label (prints_of g text tokens ts))
      ≡ parts_text label wanted (prints_of g text tokens ts)
  node_parts (Named name) wanted ts = named_parts name wanted ts
  node_parts Wild wanted ts =
      let ps : List Print = prints_of g text tokens ts in
      sym (append-nil (planned_text (First wanted) ps) ∙ planned_first wanted ps)
  node_parts Nil wanted ts = nil_parts wanted (prints_of g text tokens ts)
  node_parts Cons wanted ts = cons_parts wanted (prints_of g text tokens ts)
  node_parts One wanted ts = one_parts wanted (prints_of g text tokens ts)
