use Rattle.std.proofs.Common.{◌≡◌, ◌<◌, [], length, refl}
use Rattle.std.proofs.lemmas.Result.{err_from_is_err_and}
use Rattle.lbnf_text.proofs.ParsingLemmas.{no_items, no_side, more_items, all_items, some_left}
use Rattle.lbnf_text.proofs.parser.Parser.side.Goals as goal

pub items-init : goal.items-init
items-init c = rw c.new-items.ensures (no_items c.args.self.now)

pub returns-in_err-item : goal.returns-in_err-item
returns-in_err-item c =
    let p = err_from_is_err_and c.from_residual.result c.from_residual.ensures.1 in
    let left : 0 < length c.items.self = some_left c.items.self c.items-test.ensures.1 in
    rw (p.1, p.2) (λ free. no_side c.args.self.now c.items.items c.items.self c.items.invariant left c.in_err-item.field-0.0 c.item.new.self (c.in_err-item.ensures.read free))

pub items-preserved : goal.items-preserved
items-preserved c =
    let left : 0 < length c.items.self = some_left c.items.self c.items-test.ensures.1 in
    let added = c.in_ok-item.ensures.read in
    rw added.2 (more_items c.args.self.now c.items.items c.items.self c.items.invariant left added.0 c.item.new.self added.1 c.in_ok-item.ensures.shorter)

pub returns : goal.returns
returns c =
    let none : c.items.self ≡ [] = c.items-test.ensures.0 refl in
    all_items c.args.self.now c.items.items c.items.self c.items.invariant none
