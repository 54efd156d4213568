-- The printed texts of small trees.
use Rattle.std.specs.Prelude.{◌≡◌, [], ◌∷◌, codes}
use Rattle.spec_lexing.specs.declared.kind_def.KindDef.TheVariants.{Word}
use Rattle.spec_trees.specs.TreeText.{tree_text}
use Rattle.spec_grammar.specs.Trees.{node, no_trees}
use Rattle.spec_trees_cases.specs.Examples.{grammar_of, named_kind, token_of, token_tree, sums}
use Rattle.spec_trees_cases.specs.Examples.{three_tokens, right_sum, left_sum, pairs, one_token}
use Rattle.spec_trees_cases.specs.Examples.{second_full, first_full, ties, less_tie, more_tie}
use Rattle.spec_trees_cases.specs.ListExamples.{lists, list_kinds, two_tokens, last_number}
use Rattle.spec_trees_cases.specs.ListExamples.{number_before_nil, number_before, bracket_tokens}
use Rattle.spec_trees_cases.specs.ListExamples.{bracket_list}

-- the printed texts, worked on small cases
pub record SmallTreeTexts : Type 0 where
  -- words print nothing
  pub of_the_first_sum :
      tree_text (grammar_of sums (Word (codes "a") ∷ [])) (codes "aaa") three_tokens right_sum
      ≡ codes "(Sum (A) (Sum (A) (A)))"
  -- the other sum has its brackets elsewhere
  pub of_the_other_sum :
      tree_text (grammar_of sums (Word (codes "a") ∷ [])) (codes "aaa") three_tokens left_sum
      ≡ codes "(Sum (Sum (A) (A)) (A))"
  -- a token is printed behind the name of its kind
  pub of_a_full_second_sibling :
      tree_text (grammar_of pairs (named_kind (codes "Letter") ∷ [])) (codes "x") one_token
      second_full
      ≡ codes "(Pair (Empty) (Full Letter:x))"
  -- the same in the first sibling
  pub of_a_full_first_sibling :
      tree_text (grammar_of pairs (named_kind (codes "Letter") ∷ [])) (codes "x") one_token
      first_full
      ≡ codes "(Pair (Full Letter:x) (Empty))"
  -- a backslash is doubled, and a control byte is written by its number
  pub of_the_lesser_rule :
      tree_text (grammar_of ties (named_kind (codes "Mark") ∷ [])) (92 ∷ 7 ∷ [])
      (token_of 0 0 2 ∷ []) less_tie
      ≡ codes "(Less Mark:\\\\\\x07 (Gap))"
  -- the greater rule prints its own label
  pub of_the_greater_rule :
      tree_text (grammar_of ties (named_kind (codes "Mark") ∷ [])) (92 ∷ 7 ∷ [])
      (token_of 0 0 2 ∷ []) more_tie
      ≡ codes "(More (Gap) Mark:\\\\\\x07)"
  -- a list has its elements between brackets
  pub of_a_list :
      tree_text (grammar_of lists list_kinds) (codes "1 22") two_tokens
      (number_before (last_number 1) 2)
      ≡ codes "[(Num Digits:1), (Num Digits:22)]"
  -- the empty list at its end adds none
  pub of_a_list_before_nil :
      tree_text (grammar_of lists list_kinds) (codes "1 22") two_tokens
      (number_before (number_before_nil 1) 2)
      ≡ codes "[(Num Digits:1), (Num Digits:22)]"
  -- nor does `_` around a list add brackets
  pub of_a_list_in_brackets :
      tree_text (grammar_of lists list_kinds) (codes "1(22)") bracket_tokens bracket_list
      ≡ codes "[(Num Digits:1), (Num Digits:22)]"
  -- a list of none
  pub of_no_elements :
      tree_text (grammar_of lists list_kinds) (codes "") [] (node 0 0 0 no_trees) ≡ codes "[]"
  -- a tree that is one token
  pub of_a_token :
      tree_text (grammar_of lists list_kinds) (codes "1 22") two_tokens (token_tree 0 1)
      ≡ codes "Digits:22"
  -- and one that is a word
  pub of_a_word :
      tree_text (grammar_of lists list_kinds) (codes "1(22)") bracket_tokens (token_tree 1 1)
      ≡ codes ""
