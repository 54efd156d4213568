use Rattle.std.proofs.Common.{◌≡◌, take, get_or}
use Rattle.std.proofs.lemmas.List.{take_more, take_all}
use Rattle.std.proofs.lemmas.List.Elements.{Contains-get_or}
use Rattle.binary_form.proofs.GivingLemmas.{adds_more}
use Rattle.binary_form.proofs.LeftSideLemmas.{each_given}
use Rattle.binary_form.proofs.left_sides.with_numbers.Goals as goal

pub insert-requires : goal.insert-requires
insert-requires g c =
    let numbers = c.args.numbers.now in
    let place = c.loop-number.number-index in
    c.requires.room (get_or numbers place 0) (Contains-get_or numbers place 0 c.loop-number-test.true)

pub loop-number-preserved : goal.loop-number-preserved
loop-number-preserved g c =
    let symbols = g.C.Cell.symbols in
    let numbers = c.args.numbers.now in
    let place = c.loop-number.number-index in
    rw (take_more numbers place 0 c.loop-number-test.true)
    (adds_more (λ giver n. n ≡ giver) (take place numbers) (get_or numbers place 0) (symbols c.args.start)
    (symbols c.loop-number.cell) (symbols c.insert.new.self) c.loop-number.invariant c.in_ok-insert.ensures.ok)

pub returns : goal.returns
returns g c =
    let symbols = g.C.Cell.symbols in
    let numbers = c.args.numbers.now in
    each_given numbers (symbols c.args.start) (symbols c.loop-number.cell)
    (rw (take_all c.loop-number.number-index numbers c.loop-number-test.false) at c.loop-number.invariant)
