-- A cell that is known, or a copy.
use Rattle.std.proofs.Common.{map, arith, refl}
use Rattle.std.proofs.lemmas.List.{length-map}
use Rattle.quad_mat.proofs.LoadingLemmas.{cell_known, cell_copied, source_copy}
use Rattle.quad_mat.proofs.loading.copied_cell.Goals as goal

pub returns-in-Some : goal.returns-in-Some
returns-in-Some g c =
    let symbols = g.C.Cell.symbols in
    let source = c.args.source.now in
    cell_known (map symbols source) (map symbols c.args.cells.now.items) c.args.known.now c.args.n
    (omega (arith, length-map source symbols, c.requires.within)) c.requires.full c.requires.copied c.in-Some.number
    c.in-Some.ensures

pub number_from-requires-clause-some : goal.number_from-requires-clause-some
number_from-requires-clause-some g c κs within =
    (source_copy g.C.Cell.symbols c.args.source.now c.args.n c.empty.result c.index-source-n.result c.in_ok-copy.copy
    c.requires.source c.requires.within c.index-source-n.is c.empty.ensures.items c.in_ok-copy.ensures.ok).0

pub returns : goal.returns
returns g c =
    let symbols = g.C.Cell.symbols in
    let source = c.args.source.now in
    let copy =
    source_copy symbols source c.args.n c.empty.result c.index-source-n.result c.in_ok-copy.copy
    c.requires.source c.requires.within c.index-source-n.is c.empty.ensures.items c.in_ok-copy.ensures.ok in
    rw c.set.ensures
    (cell_copied (map symbols source) (map symbols c.args.cells.now.items) c.args.known.now c.args.n
    (omega (arith, length-map source symbols, c.requires.within)) c.requires.full c.requires.copied
    (map symbols c.number_from.new.cells.items) (symbols c.in_ok-copy.copy) c.in_ok-number.number copy.1
    c.in_ok-number.ensures.number (c.in_ok-number.ensures.different refl))
