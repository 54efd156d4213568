-- The test of matching passes.
use Rattle.std.proofs.Common.{refl}
use Rattle.std.specs.Char.{encode_utf8}
use Rattle.std.specs.Str.{chars as chars_of}
use Rattle.spec_lexing_cases.proofs.CasesLemmas.{chooses}
use Rattle.spec_lexing_cases.proofs.forms_of_expressions.Goals as goal

pub returns : goal.returns
unfolding encode_utf8 chars_of
returns c = record {
  empty_text = chooses _ _ _ refl refl;
  digits = chooses _ _ _ refl refl;
  letters = chooses _ _ _ refl refl;
  upper = chooses _ _ _ refl refl;
  lower = chooses _ _ _ refl refl;
  any_scalar = chooses _ _ _ refl refl;
  one_character = chooses _ _ _ refl refl;
  one_scalar = chooses _ _ _ refl refl;
  some_of = chooses _ _ _ refl refl;
  scalars_of = chooses _ _ _ refl refl;
  one_word = chooses _ _ _ refl refl;
  two_in_turn = chooses _ _ _ refl refl;
  one_of_none = chooses _ _ _ refl refl;
  one_of_two = chooses _ _ _ refl refl;
  all_but = chooses _ _ _ refl refl;
  all_but_word = chooses _ _ _ refl refl;
  none_or_more = chooses _ _ _ refl refl;
  none_again = chooses _ _ _ refl refl;
  one_or_more = chooses _ _ _ refl refl;
  none_or_one = chooses _ _ _ refl refl;
}
