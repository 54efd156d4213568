use Rattle.std.proofs.Common.{◌<◌, length, refl, arith}
use Rattle.std.proofs.lemmas.Option.{slice_get_read}
use Rattle.std.proofs.lemmas.Result.{IfOk-weaker}
use Rattle.cell_sets.specs.Cells.{Adds}
use Rattle.binary_form.specs.Products.{SuffixGives}
use Rattle.binary_form.proofs.GivingLemmas.{adds_closure, adds_known}
use Rattle.binary_form.proofs.product.with_suffix.Goals as goal

pub has_all-requires-clause-below : goal.has_all-requires-clause-below
has_all-requires-clause-below g c κs alive n has =
    let closures = c.args.closures.now in
    let within : c.args.suffix < length closures = omega (arith, c.requires.below) in
    c.requires.closed c.args.suffix n c.index-closures-suffix.result
    (slice_get_read closures (length closures) c.args.suffix c.index-closures-suffix.result refl within c.index-closures-suffix.is) has

pub returns-then-has_all : goal.returns-then-has_all
returns-then-has_all g c =
    let symbols = g.C.Cell.symbols in
    let closures = c.args.closures.now in
    let within : c.args.suffix < length closures = omega (arith, c.requires.below) in
    adds_known symbols closures (symbols c.args.right.now) c.args.suffix c.index-closures-suffix.result (symbols c.args.cell)
    within c.index-closures-suffix.is (c.has_all.ensures c.if-has_all.true)

pub returns : goal.returns
returns g c =
    let symbols = g.C.Cell.symbols in
    let closures = c.args.closures.now in
    let right = symbols c.args.right.now in
    let within : c.args.suffix < length closures = omega (arith, c.requires.below) in
    IfOk-weaker c.union.result _
    (λ new. Adds (SuffixGives symbols closures right c.args.suffix) (symbols c.args.cell) (symbols new))
    (λ new. adds_closure symbols closures right c.args.suffix c.index-closures-suffix.result (symbols c.args.cell)
    (symbols new) (c.has.ensures.0 c.if-not-has.false) within c.index-closures-suffix.is)
    c.union.ensures.ok
