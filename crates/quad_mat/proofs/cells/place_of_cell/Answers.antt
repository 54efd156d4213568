-- A cell that differs; by the comparison; and no cell.
use Rattle.std.proofs.Common.{◌-◌, ◌<◌, length, map, arith, refl}
use Rattle.std.proofs.lemmas.Bool.{false≢true}
use Rattle.std.proofs.lemmas.List.{length-map}
use Rattle.cell_sets.specs.Cells.{HaveSame}
use Rattle.quad_mat.specs.Rows.{cell_of}
use Rattle.quad_mat.proofs.CellLemmas.{place_same, place_differs, none_from_before}
use Rattle.quad_mat.proofs.cells.place_of_cell.Goals as goal

pub loop-place-preserved : goal.loop-place-preserved
loop-place-preserved g c =
    let symbols = g.C.Cell.symbols in
    let cells = c.args.cells.now in
    let wanted = symbols c.args.cell.now in
    let before = c.loop-place.invariant in
    let within : c.loop-place.place - 1 < length cells = omega (arith, before.within, c.loop-place-test.true) in
    record {
      within = omega (arith, before.within);
      none =
          none_from_before (λ n. HaveSame wanted (cell_of (map symbols cells) n)) c.loop-place.place (length cells) before.none
          (place_differs symbols cells _ c.index-cells-place.result wanted within c.index-cells-place.is
          (λ same. false≢true (c.if-same.ensures.1 same)));
    }

pub returns-then-same : goal.returns-then-same
returns-then-same g c =
    let within : c.loop-place.place - 1 < length c.args.cells.now =
    omega (arith, c.loop-place.invariant.within, c.loop-place-test.true) in
    place_same g.C.Cell.symbols c.args.cells.now _ c.index-cells-place.result (g.C.Cell.symbols c.args.cell.now) within c.index-cells-place.is (c.if-same.ensures.0 refl)

pub returns : goal.returns
returns g c = λ n from within.
    let count = length-map c.args.cells.now g.C.Cell.symbols in
    c.loop-place.invariant.none n (omega (arith, c.loop-place-test.false, from)) (omega (arith, count, within))
