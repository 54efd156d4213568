-- First trees of small texts, and trees of them that are not first.
use Rattle.std.specs.Prelude.{◌≡◌, ℕ, List, Option}
use Rattle.spec_grammar.specs.declared.rule.Symbol.{Symbol}
use Rattle.spec_grammar.specs.declared.rule.Symbol.TheVariants.{Category}
use Rattle.spec_grammar.specs.declared.rule.Rule.{Rule}
use Rattle.spec_grammar.specs.Trees.{Tree}
use Rattle.spec_grammar.specs.Derivation.{IsParseTree, Derives}
use Rattle.spec_trees.specs.FirstTrees.{lesser_from_left, IsFirstTree, node_count}
use Rattle.spec_trees_cases.specs.Examples.{sums, three_kinds, letter_tree, right_sum, left_sum}
use Rattle.spec_trees_cases.specs.Examples.{pairs, one_kind, second_full, first_full, ties}
use Rattle.spec_trees_cases.specs.Examples.{less_tie, more_tie, loops}
use Rattle.spec_trees_cases.specs.ListExamples.{lists, two_kinds, last_number, number_before_nil}
use Rattle.spec_trees_cases.specs.ListExamples.{number_before}

module _ (rules : List Rule) (kinds : List (Option ℕ)) (t : Tree) (s : Symbol) (i j : ℕ) where
  -- the tree is the first one by ends from the left
  abbrev pub IsFirstFromLeft : Type 0
  IsFirstFromLeft = IsFirstTree lesser_from_left rules kinds t s i j

  -- the tree is a parse tree and not the first one
  abbrev pub IsOtherTree : Type 0
  IsOtherTree = IsParseTree rules kinds t s i j × (IsFirstFromLeft → ⊥)

-- the definition of first trees, worked on small cases
pub record SmallFirstTrees : Type 0 where
  -- one token is no sum
  pub a_letter_is_first : IsFirstFromLeft sums three_kinds (letter_tree 2) (Category 0) 2 3
  -- the first item of the sum is the shortest possible
  pub the_first_item_is_short : IsFirstFromLeft sums three_kinds right_sum (Category 0) 0 3
  -- a longer first item comes later
  pub a_longer_item_comes_later : IsOtherTree sums three_kinds left_sum (Category 0) 0 3
  -- the shortest item is empty, though its rule comes before the other's
  pub the_first_sibling_is_empty : IsFirstFromLeft pairs one_kind second_full (Category 0) 0 1
  -- so the token stands in the second sibling
  pub a_full_sibling_comes_later : IsOtherTree pairs one_kind first_full (Category 0) 0 1
  -- of two rules that derive the span the lesser one is taken, though its first item is longer
  pub the_lesser_rule_decides : IsFirstFromLeft ties one_kind less_tie (Category 0) 0 1
  -- and not the greater one
  pub the_greater_rule_comes_later : IsOtherTree ties one_kind more_tie (Category 0) 0 1
  -- a list of two ends in a list of one
  pub the_last_of_a_list :
      IsFirstFromLeft lists two_kinds (number_before (last_number 1) 2) (Category 0) 0 2
  -- a child that is not first makes no first tree
  pub a_child_decides :
      IsOtherTree lists two_kinds (number_before (number_before_nil 1) 2) (Category 0) 0 2
  -- a category that reaches itself derives the token
  pub a_loop_derives : Derives loops one_kind (Category 0) 0 1
  -- but its least rule leads back to the same span, so it has no first tree
  pub a_loop_has_no_first : (t : Tree) → IsFirstFromLeft loops one_kind t (Category 0) 0 1 → ⊥
  -- three letters, a node for each, and two sums
  pub nodes_of_a_sum : node_count right_sum ≡ 8
  -- an empty sibling is one node
  pub nodes_of_siblings : node_count second_full ≡ 4
