-- A cell that was there, or one more.
use Rattle.std.proofs.Common.{◌≡◌, sym, map, length, arith}
use Rattle.std.proofs.lemmas.List.{length-map}
use Rattle.std.proofs.lemmas.Result.{IfOk-weaker}
use Rattle.quad_mat.specs.Rooms.{NumbersCell}
use Rattle.quad_mat.specs.Rows.{StayDifferent}
use Rattle.quad_mat.proofs.CellLemmas.{numbers_found, numbers_pushed, different_pushed, stay_same}
use Rattle.quad_mat.proofs.cells.number_from.Goals as goal

pub returns-in-Some-clause-number : goal.returns-in-Some-clause-number
returns-in-Some-clause-number g c =
    let symbols = g.C.Cell.symbols in
    let cells = c.args.cells.now.items in
    let table = map symbols cells in
    IfOk-weaker c.number_of.result (λ n. n ≡ c.in-Some.place) (NumbersCell table table (symbols c.args.cell))
    (λ n is. numbers_found table (symbols c.args.cell) n c.in-Some.place (length cells) c.requires.full is
    (sym (length-map cells symbols)) (rw c.as_slice.ensures.value at c.in-Some.ensures))
    c.number_of.ensures

pub returns-in-Some-clause-different : goal.returns-in-Some-clause-different
returns-in-Some-clause-different g c =
    let table = map g.C.Cell.symbols c.args.cells.now.items in
    IfOk-weaker c.number_of.result (λ n. n ≡ c.in-Some.place) (λ n. c.args.from ≡ 0 → StayDifferent table table)
    (λ n is zero. stay_same table) c.number_of.ensures

pub returns-clause-number : goal.returns-clause-number
returns-clause-number g c =
    numbers_pushed g.C.Cell.symbols c.args.cells.now.items c.push.new.self.items c.args.cell c.in_ok-number.number
    c.requires.full c.requires.some (omega (arith, c.in_ok-number.ensures, c.len.ensures, c.args.cells.now.ok.0)) c.in_ok-push.ensures.items

pub returns-clause-different : goal.returns-clause-different
returns-clause-different g c = λ zero.
    different_pushed g.C.Cell.symbols c.args.cells.now.items c.push.new.self.items c.args.cell c.args.from zero
    (rw c.as_slice.ensures.value at c.in_default.ensures) c.in_ok-push.ensures.items
