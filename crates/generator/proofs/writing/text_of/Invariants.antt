use Rattle.std.proofs.Common.{◌≡◌}
use Rattle.generator.specs.Generated.{text_of}
use Rattle.generator.proofs.writing.text_of.Given as goal

abbrev pub invariant-loop-number : goal.invariant-loop-number
invariant-loop-number l = l.text.items ≡ text_of l.seed l.number
