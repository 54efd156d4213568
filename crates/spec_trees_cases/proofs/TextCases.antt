-- The printed texts, by computation.
use Rattle.std.proofs.Common.{refl}
use Rattle.spec_trees_cases.specs.TextCases.{SmallTreeTexts}

pub small_tree_texts : SmallTreeTexts
small_tree_texts = record {
  of_the_first_sum = refl;
  of_the_other_sum = refl;
  of_a_full_second_sibling = refl;
  of_a_full_first_sibling = refl;
  of_the_lesser_rule = refl;
  of_the_greater_rule = refl;
  of_a_list = refl;
  of_a_list_before_nil = refl;
  of_a_list_in_brackets = refl;
  of_no_elements = refl;
  of_a_token = refl;
  of_a_word = refl;
}
