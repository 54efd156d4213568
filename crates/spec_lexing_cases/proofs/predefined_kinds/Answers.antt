-- The test of matching passes.
use Rattle.std.proofs.Common.{refl}
use Rattle.std.specs.Char.{encode_utf8}
use Rattle.std.specs.Str.{chars as chars_of}
use Rattle.spec_lexing_cases.proofs.CasesLemmas.{chooses}
use Rattle.spec_lexing_cases.proofs.predefined_kinds.Goals as goal

pub returns : goal.returns
unfolding encode_utf8 chars_of
returns c = record {
  integers = chooses _ _ _ refl refl;
  doubles = chooses _ _ _ refl refl;
  idents = chooses _ _ _ refl refl;
  strings = chooses _ _ _ refl refl;
  chars = chooses _ _ _ refl refl;
}
