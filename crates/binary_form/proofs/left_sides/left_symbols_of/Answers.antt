use Rattle.std.proofs.Common.{arith}
use Rattle.binary_form.proofs.LeftSideLemmas.{linked_more, left_symbols_are}
use Rattle.binary_form.proofs.left_sides.left_symbols_of.Goals as goal

pub loop-number-preserved : goal.loop-number-preserved
loop-number-preserved g c =
    let symbols = g.C.Cell.symbols in
    linked_more c.args.longer_suffixes.now c.loop-number.number c.is_linked.result (symbols c.loop-number.cell)
    (symbols c.insert_if.new.cell) c.is_linked.ensures c.loop-number.invariant c.in_ok-insert_if.ensures

pub returns : goal.returns
returns g c =
    left_symbols_are c.args.grammar.now c.args.longer_suffixes.now c.loop-number.number
    (g.C.Cell.symbols c.loop-number.cell) c.requires.longer_suffixes
    (omega (arith, c.loop-number-test.false, c.count-number-end.ensures, (c.requires.longer_suffixes).count))
    c.loop-number.invariant
