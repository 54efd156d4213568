-- Each case by computation; a level's number is one digit.
use Rattle.std.proofs.Common.{refl, arith}
use Rattle.std.proofs.lemmas.Fmt.{decimal_digit}
use Rattle.spec_lbnf_cases.proofs.laws.small_expansions.Goals as goal

pub returns : goal.returns
returns c = record {
  terminator = refl;
  nonempty_terminator = refl;
  separator = refl;
  nonempty_separator = refl;
  empty_separator = refl;
  two_words = refl;
  coercions = rw (decimal_digit 1 (omega arith), decimal_digit 2 (omega arith));
  internal = refl;
  entrypoints = refl;
  expansion = refl;
  first_rule = refl;
  without_rules = refl;
  tokens = λ expr. refl;
  own_integer = λ expr. refl;
  entry_kind = refl;
  token_lists = refl;
}
