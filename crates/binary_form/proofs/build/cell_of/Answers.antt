use Rattle.std.proofs.Common.{ℕ, List, take, slice_index_or, subst, arith}
use Rattle.std.proofs.lemmas.List.{take_all, take_more, get_or_default}
use Rattle.binary_form.proofs.BuildLemmas.{HasJust, just_more}
use Rattle.binary_form.proofs.build.cell_of.Goals as goal

pub insert-requires : goal.insert-requires
insert-requires g c =
    let numbers = c.args.numbers.now in
    let place = c.loop-number.number-index in
    let number : ℕ = slice_index_or numbers place 0 in
    c.requires.room number
    (place, c.loop-number-test.true, get_or_default numbers place number 0 c.loop-number-test.true)

pub loop-number-preserved : goal.loop-number-preserved
loop-number-preserved g c =
    let numbers = c.args.numbers.now in
    let place = c.loop-number.number-index in
    let symbols = g.C.Cell.symbols in
    rw (take_more numbers place 0 c.loop-number-test.true)
    (just_more (take place numbers) (slice_index_or numbers place 0) (symbols c.loop-number.cell)
    (symbols c.insert.new.self) c.loop-number.invariant c.in_ok-insert.ensures.ok)

pub returns : goal.returns
returns g c =
    let cell = g.C.Cell.symbols c.loop-number.cell in
    let P : List ℕ → Type 0 = λ numbers. HasJust numbers cell in
    subst P (take_all c.loop-number.number-index c.args.numbers.now (omega arith)) c.loop-number.invariant
