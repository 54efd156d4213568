-- The first trees: no lesser rule derives the span, and no lesser cut has both its parts.
use Rattle.std.proofs.Common.{◌∙◌, ◌≡◌, ℕ, zero, suc, ◌+◌, ◌<◌, List, [], ◌∷◌, Option, Some, slice_get, refl, sym, subst, arith}
use Rattle.std.specs.Prelude.{nat_lt}
use Rattle.std.proofs.lemmas.Bool.{ltb-true}
use Rattle.spec_grammar.specs.declared.rule.Symbol.{Symbol}
use Rattle.spec_grammar.specs.declared.rule.Symbol.TheVariants.{Category, Kind}
use Rattle.spec_grammar.specs.declared.rule.Rule.{Rule}
use Rattle.spec_grammar.specs.Trees.{leaf, node, Tree, no_trees, trees}
use Rattle.spec_grammar.specs.Derivation.{IsParseTree, AreParseTrees, Derives, DerivesAll}
use Rattle.spec_grammar.proofs.DerivationLemmas.{AreFull, kind_derives, category_derives, none_derive, some_derive, derives_grows}
use Rattle.spec_trees.specs.FirstTrees.{tree_end, lesser_from_left, NoLesserRule, NoEndsBefore}
use Rattle.spec_trees.proofs.EndsLemmas.{none_before_none, none_before_cut}
use Rattle.spec_trees.proofs.FirstTreeLemmas.{first_is_parse_tree, firsts_are_parse_trees}
use Rattle.spec_trees_cases.specs.FirstTreeCases.{IsFirstFromLeft, IsOtherTree, SmallFirstTrees}
use Rattle.spec_trees_cases.specs.Examples.{sums, three_kinds, letter_tree, sum_tree, right_sum}
use Rattle.spec_trees_cases.specs.Examples.{left_sum, pairs, one_kind, empty_sibling, full_sibling}
use Rattle.spec_trees_cases.specs.Examples.{second_full, first_full, ties, gap_tree, less_tie}
use Rattle.spec_trees_cases.specs.Examples.{more_tie, loops, one_tree, two_trees, token_tree}
use Rattle.spec_trees_cases.specs.ListExamples.{lists, two_kinds, number_tree, last_number}
use Rattle.spec_trees_cases.specs.ListExamples.{number_before_nil, number_before}

module _ (rules : List Rule) (kinds : List (Option ℕ)) where
  -- one item is the whole
  one_part : (s : Symbol) (i j : ℕ) → DerivesAll rules kinds (s ∷ []) i j → Derives rules kinds s i j
  one_part s i j d =
      let y = (some_derive rules kinds s [] i j).0 d in
      subst (λ n. Derives rules kinds s i n) (sym ((none_derive rules kinds y.0 j).0 y.2)) y.1

  -- none come before the one end of the span
  before_one : (s : Symbol) (i j : ℕ) → NoEndsBefore lesser_from_left rules kinds (j ∷ []) (s ∷ []) i j
  before_one s i j =
      none_before_cut nat_lt rules kinds s [] i j j []
      (λ m less first others. omega (arith, ltb-true m j less, (none_derive rules kinds m j).0 others))
      (none_before_none nat_lt rules kinds [] j j)

  -- nor before a cut where no lesser one has both its parts
  before_two :
      (s other : Symbol) (i k j : ℕ)
      → ((m : ℕ) → m < k → Derives rules kinds s i m → Derives rules kinds other m j → ⊥)
      → NoEndsBefore lesser_from_left rules kinds (k ∷ j ∷ []) (s ∷ other ∷ []) i j
  before_two s other i k j none =
      none_before_cut nat_lt rules kinds s (other ∷ []) i k j (j ∷ [])
      (λ m less first others. none m (ltb-true m k less) first (one_part other m j others))
      (before_one other k j)

  -- the parts of two items
  two_parts :
      (s other : Symbol) (i j : ℕ) → DerivesAll rules kinds (s ∷ other ∷ []) i j
      → (k : ℕ) × Derives rules kinds s i k × Derives rules kinds other k j
  two_parts s other i j d =
      let x = (some_derive rules kinds s (other ∷ []) i j).0 d in
      let y = (some_derive rules kinds other [] x.0 j).0 x.2 in
      (x.0, x.1, subst (λ n. Derives rules kinds other x.0 n) (sym ((none_derive rules kinds y.0 j).0 y.2)) y.1)

-- no right side of the sums is empty
sums_are_full : AreFull sums
sums_are_full zero rule is empty = cc
sums_are_full (suc zero) rule is empty = cc
sums_are_full (suc (suc r)) rule is empty = cc

-- so each sum has a token
sum_grows : (i j : ℕ) → Derives sums three_kinds (Category 0) i j → i < j
sum_grows i j d = derives_grows sums three_kinds sums_are_full (Category 0) i j d

-- no sum is of one token
no_sum_of_one : (i : ℕ) → NoLesserRule sums three_kinds 1 0 i (i + 1)
no_sum_of_one i zero rule less is same d =
    let items : rule.items ≡ Category 0 ∷ Category 0 ∷ [] = cc in
    let x = two_parts sums three_kinds (Category 0) (Category 0) i (i + 1)
    (subst (λ (y : List Symbol). DerivesAll sums three_kinds y i (i + 1)) items d) in
    omega (arith, sum_grows i x.0 x.1, sum_grows x.0 (i + 1) x.2)
no_sum_of_one i (suc r) rule less is same d = omega (arith, less)

-- the letter at a place is first
letter_is_first : (i : ℕ) → slice_get three_kinds i ≡ Some (Some 0) → IsFirstFromLeft sums three_kinds (letter_tree i) (Category 0) i (i + 1)
letter_is_first i is = (
  _,
  refl,
  refl,
  (_, _, _, refl, (refl, is, refl, refl, refl), (refl, refl)),
  refl,
  refl,
  no_sum_of_one i,
  before_one sums three_kinds (Kind 0) i (i + 1),
)

-- a sum whose first item is one token is first where its items are
sum_is_first :
    (t : Tree) (i j : ℕ) → slice_get three_kinds i ≡ Some (Some 0)
    → IsFirstFromLeft sums three_kinds t (Category 0) (i + 1) j
    → tree_end t ≡ j
    → IsFirstFromLeft sums three_kinds (sum_tree (letter_tree i) t i j) (Category 0) i j
sum_is_first t i j is first end = (
  _,
  refl,
  refl,
  (_, _, _, refl, letter_is_first i is, (_, _, _, refl, first, (refl, refl))),
  refl,
  refl,
  (λ lesser rule less. absurd (omega (arith, less))),
  rw end (before_two sums three_kinds (Category 0) (Category 0) i (i + 1) j
      (λ m less d behind. omega (arith, less, sum_grows i m d))),
)

right_is_first : IsFirstFromLeft sums three_kinds right_sum (Category 0) 0 3
right_is_first =
    sum_is_first (sum_tree (letter_tree 1) (letter_tree 2) 1 3) 0 3 refl
    (sum_is_first (letter_tree 2) 1 3 refl (letter_is_first 2 refl) refl) refl

-- the letter at a place is a parse tree
letter_is : (i : ℕ) → slice_get three_kinds i ≡ Some (Some 0) → IsParseTree sums three_kinds (letter_tree i) (Category 0) i (i + 1)
letter_is i is = first_is_parse_tree sums three_kinds lesser_from_left (letter_tree i) (Category 0) i (i + 1) (letter_is_first i is)

left_is_other : IsOtherTree sums three_kinds left_sum (Category 0) 0 3
left_is_other = (
  (_, refl, refl, (_, _, _, refl, front, (_, _, _, refl, letter_is 2 refl, (refl, refl))), refl, refl),
  (λ first. later first),
)
  where
    front : IsParseTree sums three_kinds (sum_tree (letter_tree 0) (letter_tree 1) 0 2) (Category 0) 0 2
    front = (_, refl, refl, (_, _, _, refl, letter_is 0 refl, (_, _, _, refl, letter_is 1 refl, (refl, refl))), refl, refl)

    behind : IsParseTree sums three_kinds (sum_tree (letter_tree 1) (letter_tree 2) 1 3) (Category 0) 1 3
    behind = (_, refl, refl, (_, _, _, refl, letter_is 1 refl, (_, _, _, refl, letter_is 2 refl, (refl, refl))), refl, refl)

    right : AreParseTrees sums three_kinds (two_trees (letter_tree 0) (sum_tree (letter_tree 1) (letter_tree 2) 1 3)) (Category 0 ∷ Category 0 ∷ []) 0 3
    right = (_, _, _, refl, letter_is 0 refl, (_, _, _, refl, behind, (refl, refl)))

    later : IsFirstFromLeft sums three_kinds left_sum (Category 0) 0 3 → ⊥
    later first =
        let items : (first.0).items ≡ Category 0 ∷ Category 0 ∷ [] = cc in
        let P : List Symbol → Type 0 = λ x. NoEndsBefore lesser_from_left sums three_kinds (2 ∷ 3 ∷ []) x 0 3 in
        (subst P items first.7) (two_trees (letter_tree 0) (sum_tree (letter_tree 1) (letter_tree 2) 1 3)) right refl

-- no rule before the empty one is of the siblings' category
empty_is_least : (i : ℕ) → NoLesserRule pairs one_kind 1 1 i i
empty_is_least i zero rule less is same d = cc
empty_is_least i (suc r) rule less is same d = omega (arith, less)

-- and the empty one derives no token
full_is_least : NoLesserRule pairs one_kind 2 1 0 1
full_is_least zero rule less is same d = cc
full_is_least (suc zero) rule less is same d =
    let items : rule.items ≡ [] = cc in
    omega (arith, (none_derive pairs one_kind 0 1).0 (subst (λ (y : List Symbol). DerivesAll pairs one_kind y 0 1) items d))
full_is_least (suc (suc r)) rule less is same d = omega (arith, less)

empty_is_first : (i : ℕ) → IsFirstFromLeft pairs one_kind (empty_sibling i) (Category 1) i i
empty_is_first i =
    (_, refl, refl, (refl, refl), refl, refl, empty_is_least i, none_before_none nat_lt pairs one_kind [] i i)

full_is_first : IsFirstFromLeft pairs one_kind full_sibling (Category 1) 0 1
full_is_first = (
  _,
  refl,
  refl,
  (_, _, _, refl, (refl, refl, refl, refl, refl), (refl, refl)),
  refl,
  refl,
  full_is_least,
  before_one pairs one_kind (Kind 0) 0 1,
)

second_is_first : IsFirstFromLeft pairs one_kind second_full (Category 0) 0 1
second_is_first = (
  _,
  refl,
  refl,
  (_, _, _, refl, empty_is_first 0, (_, _, _, refl, full_is_first, (refl, refl))),
  refl,
  refl,
  (λ lesser rule less. absurd (omega (arith, less))),
  before_two pairs one_kind (Category 1) (Category 1) 0 0 1 (λ m less. absurd (omega (arith, less))),
)

first_is_other : IsOtherTree pairs one_kind first_full (Category 0) 0 1
first_is_other = (
  (_, refl, refl, (_, _, _, refl, full, (_, _, _, refl, no_token 1, (refl, refl))), refl, refl),
  later,
)
  where
    full : IsParseTree pairs one_kind full_sibling (Category 1) 0 1
    full = first_is_parse_tree pairs one_kind lesser_from_left full_sibling (Category 1) 0 1 full_is_first

    no_token : (i : ℕ) → IsParseTree pairs one_kind (empty_sibling i) (Category 1) i i
    no_token i = first_is_parse_tree pairs one_kind lesser_from_left (empty_sibling i) (Category 1) i i (empty_is_first i)

    second : AreParseTrees pairs one_kind (two_trees (empty_sibling 0) full_sibling) (Category 1 ∷ Category 1 ∷ []) 0 1
    second = (_, _, _, refl, no_token 0, (_, _, _, refl, full, (refl, refl)))

    later : IsFirstFromLeft pairs one_kind first_full (Category 0) 0 1 → ⊥
    later first =
        let items : (first.0).items ≡ Category 1 ∷ Category 1 ∷ [] = cc in
        let P : List Symbol → Type 0 = λ x. NoEndsBefore lesser_from_left pairs one_kind (1 ∷ 1 ∷ []) x 0 1 in
        (subst P items first.7) (two_trees (empty_sibling 0) full_sibling) second refl

-- the gap at a place is first, since no lesser rule is of its category
gap_is_first : (i : ℕ) → IsFirstFromLeft ties one_kind (gap_tree i) (Category 1) i i
gap_is_first i = (_, refl, refl, (refl, refl), refl, refl, least, none_before_none nat_lt ties one_kind [] i i)
  where
    least : NoLesserRule ties one_kind 2 1 i i
    least zero rule less is same d = cc
    least (suc zero) rule less is same d = cc
    least (suc (suc r)) rule less is same d = omega (arith, less)

less_is_first : IsFirstFromLeft ties one_kind less_tie (Category 0) 0 1
less_is_first = (
  _,
  refl,
  refl,
  (_, _, _, refl, (refl, refl, refl, refl, refl), (_, _, _, refl, gap_is_first 1, (refl, refl))),
  refl,
  refl,
  (λ lesser rule less. absurd (omega (arith, less))),
  before_two ties one_kind (Kind 0) (Category 1) 0 1 1
      (λ m less d. absurd (omega (arith, less, ((kind_derives ties one_kind 0 0 m).0 d).1))),
)

more_is_other : IsOtherTree ties one_kind more_tie (Category 0) 0 1
more_is_other = (
  (
    _,
    refl,
    refl,
    (_, _, _, refl, no_token 0, (_, _, _, refl, (refl, refl, refl, refl, refl), (refl, refl))),
    refl,
    refl,
  ),
  later,
)
  where
    no_token : (i : ℕ) → IsParseTree ties one_kind (gap_tree i) (Category 1) i i
    no_token i = first_is_parse_tree ties one_kind lesser_from_left (gap_tree i) (Category 1) i i (gap_is_first i)

    mark : DerivesAll ties one_kind (Kind 0 ∷ Category 1 ∷ []) 0 1
    mark = (
      two_trees (token_tree 0 0) (gap_tree 1),
      (_, _, _, refl, (refl, refl, refl, refl, refl), (_, _, _, refl, no_token 1, (refl, refl))),
    )

    later : IsFirstFromLeft ties one_kind more_tie (Category 0) 0 1 → ⊥
    later first =
        let category : 0 ≡ (first.0).category = cc in
        first.6 0 _ (omega arith) refl category mark

-- the span of the loop is derived, by the greater rule
loop_derives : Derives loops one_kind (Category 0) 0 1
loop_derives = (
  node 1 0 1 (one_tree (token_tree 0 0)),
  (_, refl, refl, (_, _, _, refl, (refl, refl, refl, refl, refl), (refl, refl)), refl, refl),
)

-- the least rule leads back to the same span, and no tree goes on for ever
no_first_loop : (t : Tree) (k : ℕ) → k ≡ 1 → IsFirstFromLeft loops one_kind t (Category 0) 0 k → ⊥
no_first_loop (leaf kind first end) k one is = cc
no_first_loop (node zero first end no_trees) k one is =
    let none : (is.0).items ≡ [] = is.3.0 in
    let items : (is.0).items ≡ Category 0 ∷ [] = cc in
    cc
no_first_loop (node zero first end (trees t ts)) k one is =
    let items : (is.0).items ≡ Category 0 ∷ [] = cc in
    let symbol : is.3.0 ≡ Category 0 = cc in
    let rest : is.3.1 ≡ [] = cc in
    let behind = firsts_are_parse_trees loops one_kind lesser_from_left ts is.3.1 is.3.2 k is.3.5 in
    let last : k ≡ is.3.2 =
    (none_derive loops one_kind is.3.2 k).0
    (ts, subst (λ (x : List Symbol). AreParseTrees loops one_kind ts x is.3.2 k) rest behind) in
    no_first_loop t is.3.2 (sym last ∙ one)
    (subst (λ (x : Symbol). IsFirstFromLeft loops one_kind t x 0 is.3.2) symbol is.3.4)
no_first_loop (node (suc zero) first end subtrees) k one is =
    let category : 0 ≡ (is.0).category = cc in
    is.6 0 _ (omega arith) refl category
    (one_tree (loop_derives.0), (_, _, _, refl, subst (λ n. IsParseTree loops one_kind loop_derives.0 (Category 0) 0 n) (sym one) loop_derives.1, (refl, refl)))
no_first_loop (node (suc (suc r)) first end subtrees) k one is = cc

-- each rule of category 1 is the last of the lists
number_rule :
    (r : ℕ) (rule : Rule) → slice_get lists r ≡ Some rule → rule.category ≡ 1
    → rule.items ≡ Kind 0 ∷ []
number_rule zero rule is same = cc
number_rule (suc zero) rule is same = cc
number_rule (suc (suc zero)) rule is same = cc
number_rule (suc (suc (suc zero))) rule is same = cc
number_rule (suc (suc (suc (suc zero)))) rule is same = cc
number_rule (suc (suc (suc (suc (suc r))))) rule is same = cc

-- so a number is one token
number_is_one : (i j : ℕ) → Derives lists two_kinds (Category 1) i j → j ≡ i + 1
number_is_one i j d =
    let x = (category_derives lists two_kinds 1 i j).0 d in
    let items = number_rule x.0 x.1 x.2 x.3 in
    let all = subst (λ (y : List Symbol). DerivesAll lists two_kinds y i j) items x.4 in
    ((kind_derives lists two_kinds 0 i j).0 (one_part lists two_kinds (Kind 0) i j all)).1

number_is_least : (i j : ℕ) → NoLesserRule lists two_kinds 4 1 i j
number_is_least i j zero rule less is same d = cc
number_is_least i j (suc zero) rule less is same d = cc
number_is_least i j (suc (suc zero)) rule less is same d = cc
number_is_least i j (suc (suc (suc zero))) rule less is same d = cc
number_is_least i j (suc (suc (suc (suc r)))) rule less is same d = omega (arith, less)

number_is_first : (i : ℕ) → slice_get two_kinds i ≡ Some (Some 0) → IsFirstFromLeft lists two_kinds (number_tree i) (Category 1) i (i + 1)
number_is_first i is = (
  _,
  refl,
  refl,
  (_, _, _, refl, (refl, is, refl, refl, refl), (refl, refl)),
  refl,
  refl,
  number_is_least i (i + 1),
  before_one lists two_kinds (Kind 0) i (i + 1),
)

-- the empty list has no token
nil_is_empty : (i j : ℕ) → i < j → (rule : Rule) → slice_get lists 0 ≡ Some rule → DerivesAll lists two_kinds rule.items i j → ⊥
nil_is_empty i j order rule is d =
    let items : rule.items ≡ [] = cc in
    omega (arith, order, (none_derive lists two_kinds i j).0 (subst (λ (y : List Symbol). DerivesAll lists two_kinds y i j) items d))

last_is_least : (i : ℕ) → NoLesserRule lists two_kinds 1 0 i (i + 1)
last_is_least i zero rule less is same d = nil_is_empty i (i + 1) (omega arith) rule is d
last_is_least i (suc r) rule less is same d = omega (arith, less)

last_is_first : (i : ℕ) → slice_get two_kinds i ≡ Some (Some 0) → IsFirstFromLeft lists two_kinds (last_number i) (Category 0) i (i + 1)
last_is_first i is = (
  _,
  refl,
  refl,
  (_, _, _, refl, number_is_first i is, (refl, refl)),
  refl,
  refl,
  last_is_least i,
  before_one lists two_kinds (Category 1) i (i + 1),
)

-- two tokens are no list of one or none
list_is_least : NoLesserRule lists two_kinds 2 0 0 2
list_is_least zero rule less is same d = nil_is_empty 0 2 (omega arith) rule is d
list_is_least (suc zero) rule less is same d =
    let items : rule.items ≡ Category 1 ∷ [] = cc in
    omega (
      arith,
      number_is_one 0 2 (one_part lists two_kinds (Category 1) 0 2
          (subst (λ (y : List Symbol). DerivesAll lists two_kinds y 0 2) items d)),
    )
list_is_least (suc (suc r)) rule less is same d = omega (arith, less)

list_is_first : IsFirstFromLeft lists two_kinds (number_before (last_number 1) 2) (Category 0) 0 2
list_is_first = (
  _,
  refl,
  refl,
  (_, _, _, refl, number_is_first 0 refl, (_, _, _, refl, last_is_first 1 refl, (refl, refl))),
  refl,
  refl,
  list_is_least,
  before_two lists two_kinds (Category 1) (Category 0) 0 1 2 (λ m less d. absurd (omega (arith, less, number_is_one 0 m d))),
)

list_is_other : IsOtherTree lists two_kinds (number_before (number_before_nil 1) 2) (Category 0) 0 2
list_is_other = (
  (_, refl, refl, (_, _, _, refl, number_is 0 refl, (_, _, _, refl, inner, (refl, refl))), refl, refl),
  later,
)
  where
    number_is : (i : ℕ) → slice_get two_kinds i ≡ Some (Some 0) → IsParseTree lists two_kinds (number_tree i) (Category 1) i (i + 1)
    number_is i is = first_is_parse_tree lists two_kinds lesser_from_left (number_tree i) (Category 1) i (i + 1) (number_is_first i is)

    inner : IsParseTree lists two_kinds (number_before_nil 1) (Category 0) 1 2
    inner = (
      _,
      refl,
      refl,
      (_, _, _, refl, number_is 1 refl, (_, _, _, refl, (_, refl, refl, (refl, refl), refl, refl), (refl, refl))),
      refl,
      refl,
    )

    one : DerivesAll lists two_kinds (Category 1 ∷ []) 1 2
    one = (one_tree (number_tree 1), (_, _, _, refl, number_is 1 refl, (refl, refl)))

    within : (s : Symbol) (k j : ℕ) → k ≡ 1 → j ≡ 2 → IsFirstFromLeft lists two_kinds (number_before_nil 1) s k j → ⊥
    within s k j is_first is_end first =
        let category : 0 ≡ (first.0).category = cc in
        first.6 1 _ (omega arith) refl category
        (subst (λ n. DerivesAll lists two_kinds (Category 1 ∷ []) n j) (sym is_first)
        (subst (λ n. DerivesAll lists two_kinds (Category 1 ∷ []) 1 n) (sym is_end) one))

    later : IsFirstFromLeft lists two_kinds (number_before (number_before_nil 1) 2) (Category 0) 0 2 → ⊥
    later first =
        let behind = first.3.5 in
        within behind.0 first.3.2 behind.2 (sym behind.4.4) (sym behind.4.5) behind.4

pub small_first_trees : SmallFirstTrees
small_first_trees = record {
  a_letter_is_first = letter_is_first 2 refl;
  the_first_item_is_short = right_is_first;
  a_longer_item_comes_later = left_is_other;
  the_first_sibling_is_empty = second_is_first;
  a_full_sibling_comes_later = first_is_other;
  the_lesser_rule_decides = less_is_first;
  the_greater_rule_comes_later = more_is_other;
  the_last_of_a_list = list_is_first;
  a_child_decides = list_is_other;
  a_loop_derives = loop_derives;
  a_loop_has_no_first = λ t. no_first_loop t 1 refl;
  nodes_of_a_sum = refl;
  nodes_of_siblings = refl;
}
