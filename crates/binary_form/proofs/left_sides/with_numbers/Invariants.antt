use Rattle.std.proofs.Common.{◌≡◌, take}
use Rattle.cell_sets.specs.Cells.{Adds}
use Rattle.binary_form.specs.Products.{OneGives}
use Rattle.binary_form.proofs.left_sides.with_numbers.Given as goal

-- the numbers so far are added
abbrev pub invariant-loop-number : goal.invariant-loop-number
invariant-loop-number g l =
    let symbols = g.C.Cell.symbols in
    Adds (OneGives (λ giver n. n ≡ giver) (take l.number-index l.numbers)) (symbols (l.fn).start) (symbols l.cell)
