-- The rows that are kept, or none.
use Rattle.std.proofs.Common.{map, ◌+◌, subst, arith}
use Rattle.cell_sets.specs.Grids.{Grid}
use Rattle.quad_mat.specs.Loading.{AreNumbersOf, PartHas}
use Rattle.quad_mat.proofs.CellLemmas.{stay_same}
use Rattle.quad_mat.proofs.MatLemmas.{kept_source, loaded_some, loaded_none, view_rows, view_columns}
use Rattle.quad_mat.proofs.mat.Mat.loaded.Goals as goal

pub loaded_rows-requires-clause-body : goal.loaded_rows-requires-clause-body
loaded_rows-requires-clause-body g c κs within =
    let s = c.self.inside in
    rw c.deref.ensures
    (kept_source g.C.Cell.symbols s.rows s.columns c.in-Some.body (rw c.in-Some.is at c.self.invariant))

pub loaded_rows-requires-clause-within : goal.loaded_rows-requires-clause-within
loaded_rows-requires-clause-within g c κs within =
    let kept = rw c.in-Some.is at c.self.invariant in
    rw c.deref.ensures (omega (arith, kept.0, c.requires.rows, view_rows _ _ _ _ c.self.view_is))

pub returns-in_ok-numbers-in-Some-clause-rows : goal.returns-in_ok-numbers-in-Some-clause-rows
returns-in_ok-numbers-in-Some-clause-rows g c =
    let symbols = g.C.Cell.symbols in
    let s = c.self.inside in
    let new = c.loaded_rows.new.room in
    let made = c.in_ok-numbers-in-Some.ensures in
    let numbers = c.in_ok-numbers-in-Some.numbers in
    let Has : Grid → Type 0 =
    λ x. AreNumbersOf (λ i column n. PartHas c.args.window x (c.args.first + i) column n) (map symbols new.cells.items)
    new.rows numbers in
    subst Has (rw c.in-Some.is at c.self.view_is)
    (loaded_some symbols s.rows s.columns c.in-Some.body c.args.window c.args.first c.args.count
    (map symbols new.cells.items) new.rows numbers (rw c.in-Some.is at c.self.invariant)
    (omega (arith, c.requires.rows, view_rows _ _ _ _ c.self.view_is))
    (omega (arith, c.requires.columns, view_columns _ _ _ _ c.self.view_is)) made.count
    (rw c.deref.ensures at made.rows))

pub returns-in_ok-numbers-in-None-clause-rows : goal.returns-in_ok-numbers-in-None-clause-rows
returns-in_ok-numbers-in-None-clause-rows g c =
    let symbols = g.C.Cell.symbols in
    let s = c.self.inside in
    let room = c.args.room.now in
    let made = c.in_ok-numbers-in-None.ensures in
    let numbers = c.in_ok-numbers-in-None.numbers in
    let Has : Grid → Type 0 =
    λ x. AreNumbersOf (λ i column n. PartHas c.args.window x (c.args.first + i) column n) (map symbols room.cells.items)
    room.rows numbers in
    subst Has (rw c.in-None.is at c.self.view_is)
    (loaded_none symbols s.rows s.columns c.args.window c.args.first c.args.count room.columns
    (map symbols room.cells.items) room.rows room.unions numbers
    (omega (arith, c.requires.rows, view_rows _ _ _ _ c.self.view_is))
    (omega (arith, c.requires.columns, view_columns _ _ _ _ c.self.view_is)) made.count c.requires.room made.zero)

pub returns-in_ok-numbers-in-None-clause-different : goal.returns-in_ok-numbers-in-None-clause-different
returns-in_ok-numbers-in-None-clause-different g c = stay_same _
