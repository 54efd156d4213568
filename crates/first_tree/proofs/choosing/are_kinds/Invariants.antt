-- Those so far are kinds.
use Rattle.std.proofs.Common.{◌≡◌, ℕ, ◌<◌, Some, slice_get}
use Rattle.spec_grammar.specs.declared.rule.Symbol.{Symbol}
use Rattle.first_tree.specs.Searching.{IsKind}
use Rattle.first_tree.proofs.choosing.are_kinds.Given as goal

abbrev pub invariant-loop-item : goal.invariant-loop-item
invariant-loop-item l =
    (n : ℕ) (s : Symbol) → n < l.item-index → slice_get l.items n ≡ Some s → IsKind s
