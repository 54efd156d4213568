-- The words so far are UTF-8.
use Rattle.std.proofs.Common.{All}
use Rattle.spec_lexing.specs.Classes.{IsSoundDef}
use Rattle.first_tree_cases.proofs.tests.prints.kinds.Given as goal

abbrev pub invariant-loop-word : goal.invariant-loop-word
invariant-loop-word l = All IsSoundDef l.kinds.items
