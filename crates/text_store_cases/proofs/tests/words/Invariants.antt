-- The words so far are UTF-8.
use Rattle.std.proofs.Common.{All}
use Rattle.spec_lexing.specs.Classes.{IsSoundDef}
use Rattle.text_store_cases.proofs.tests.words.Given as goal

abbrev pub invariant-loop-text : goal.invariant-loop-text
invariant-loop-text l = All IsSoundDef l.kinds.items
