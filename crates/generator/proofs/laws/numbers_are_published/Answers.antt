use Rattle.std.proofs.Common.{refl}
use Rattle.generator.specs.Draws.{drawn}
use Rattle.generator.proofs.laws.numbers_are_published.Goals as goal

pub returns : goal.returns
unfolding drawn
returns c = record {
  zero_first = refl;
  zero_second = refl;
  zero_third = refl;
  first = refl;
  second = refl;
  third = refl;
  fourth = refl;
  fifth = refl;
}
