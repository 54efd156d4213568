-- By what both matrices keep, or one alone.
use Rattle.std.proofs.Common.{map, length, arith, sym, ◌≡◌, ◌+◌, ◌∙◌}
use Rattle.quad_mat.specs.Loading.{AreNumbersOf, BothHave, PartHas}
use Rattle.quad_mat.specs.Pairs.{beside}
use Rattle.quad_mat.proofs.MatLemmas.{body_source, on_both, left_alone, right_alone}
use Rattle.quad_mat.proofs.PairLemmas.{paired_both}
use Rattle.quad_mat.proofs.mat.both_loaded.Goals as goal

pub paired_rows-requires-clause-pair : goal.paired_rows-requires-clause-pair
paired_rows-requires-clause-pair g c κs within =
    let symbols = g.C.Cell.symbols in
    let one = c.in-Some.one.now in
    let other = c.in-Some-body.other.now in record {
      is_left =
          body_source c.args.left.now.columns (map symbols one.cells.items) one.rows one.numbers c.in-Some.ensures.body;
      is_right =
          body_source c.args.right.now.columns (map symbols other.cells.items) other.rows other.numbers
          c.in-Some-body.ensures.body;
      left_fits = rw c.side_by_side-windows.ensures (omega (arith, c.cols.ensures, c.requires.left));
      right_fits = rw c.side_by_side-windows.ensures (omega (arith, c.cols-2.ensures, c.requires.right));
    }

pub paired_rows-requires-clause-count : goal.paired_rows-requires-clause-count
paired_rows-requires-clause-count g c κs within =
    sym c.in-Some.ensures.rows.size.0 ∙ c.requires.rows ∙ c.in-Some-body.ensures.rows.size.0

pub paired_rows-requires-clause-left : goal.paired_rows-requires-clause-left
paired_rows-requires-clause-left g c κs within = c.in-Some.ensures.body.within

pub paired_rows-requires-clause-right : goal.paired_rows-requires-clause-right
paired_rows-requires-clause-right g c κs within = c.in-Some-body.ensures.body.within

pub returns-clause-rows : goal.returns-clause-rows
returns-clause-rows g c =
    let symbols = g.C.Cell.symbols in
    let new = c.paired_rows.new.room in
    let made = c.in_ok-numbers.ensures in
    paired_both symbols c.in-Some.one.now c.in-Some-body.other.now c.args.left.now c.args.right.now c.args.to _
    (map symbols new.cells.items) new.rows c.in_ok-numbers.numbers
    (rw (c.cols.ensures, c.cols-2.ensures) at c.side_by_side-windows.ensures) c.in-Some.ensures c.in-Some-body.ensures c.requires.rows
    (made.count ∙ sym c.in-Some.ensures.rows.size.0) made.rows

pub returns-in-None-clause-rows : goal.returns-in-None-clause-rows
returns-in-None-clause-rows g c =
    let new = c.loaded.new.room in
    let cells = map g.C.Cell.symbols new.cells.items in
    let a = c.args.left.now in
    let b = c.args.right.now in
    let windows : c.side_by_side-windows.result ≡ beside a.columns b.columns c.args.to =
    rw (c.cols.ensures, c.cols-2.ensures) at c.side_by_side-windows.ensures in
    on_both c.loaded.result
    (λ numbers. AreNumbersOf (λ i column s. PartHas (beside a.columns b.columns c.args.to).right b (0 + i) column s) cells
    new.rows numbers)
    (λ numbers. length numbers ≡ c.rows.result) (λ numbers. AreNumbersOf (BothHave a b c.args.to) cells new.rows numbers)
    (λ numbers are count. right_alone a b c.args.to cells new.rows numbers c.requires.rows
    (count ∙ c.rows.ensures ∙ sym c.requires.rows) c.in-None.ensures are)
    (rw windows at c.loaded.ensures.rows) c.loaded.ensures.count

pub returns-in-None-body-clause-rows : goal.returns-in-None-body-clause-rows
returns-in-None-body-clause-rows g c =
    let loaded = c.loaded-in-None-body in
    let new = loaded.new.room in
    let cells = map g.C.Cell.symbols new.cells.items in
    let a = c.args.left.now in
    let b = c.args.right.now in
    let windows : c.side_by_side-windows.result ≡ beside a.columns b.columns c.args.to =
    rw (c.cols.ensures, c.cols-2.ensures) at c.side_by_side-windows.ensures in
    on_both loaded.result
    (λ numbers. AreNumbersOf (λ i column s. PartHas (beside a.columns b.columns c.args.to).left a (0 + i) column s) cells
    new.rows numbers)
    (λ numbers. length numbers ≡ c.rows-in-None-body.result)
    (λ numbers. AreNumbersOf (BothHave a b c.args.to) cells new.rows numbers)
    (λ numbers are count. left_alone a b c.args.to cells new.rows numbers c.requires.rows
    (count ∙ c.rows-in-None-body.ensures) c.in-None-body.ensures are)
    (rw windows at loaded.ensures.rows) loaded.ensures.count
