use Rattle.std.proofs.Common.{◌≡◌, ◌<◌, [], ◌∷◌, length, refl}
use Rattle.std.proofs.lemmas.Result.{err_from_is_err_and}
use Rattle.lbnf_text.proofs.ParsingLemmas.{first_entry, no_first, no_entry, more_entries, all_entries, some_left}
use Rattle.lbnf_text.proofs.parser.Parser.entries.Goals as goal

pub entries-init : goal.entries-init
entries-init c =
    let one : c.push.new.self ≡ c.in_ok-category.field-0 ∷ [] = rw c.new-cats.ensures at c.in_ok-push.ensures.ok in
    rw one (first_entry c.args.self.now c.in_ok-category.field-0 c.category.new.self c.in_ok-category.ensures.read c.in_ok-category.ensures.shorter)

pub returns-in_err-category : goal.returns-in_err-category
returns-in_err-category c =
    let p = err_from_is_err_and c.from_residual.result c.from_residual.ensures.1 in
    rw (p.1, p.2) (λ free. no_first c.args.self.now c.in_err-category.field-0.0 c.category.new.self (c.in_err-category.ensures.read free))

pub returns-in_err-next_entry : goal.returns-in_err-next_entry
returns-in_err-next_entry c =
    let p = err_from_is_err_and c.from_residual-in_err-next_entry.result c.from_residual-in_err-next_entry.ensures.1 in
    let left : 0 < length c.entries.self = some_left c.entries.self c.entries-test.ensures.1 in
    rw (p.1, p.2) (λ free. no_entry c.args.self.now c.entries.cats c.entries.self c.entries.invariant left c.in_err-next_entry.field-0.0 c.next_entry.new.self (c.in_err-next_entry.ensures.read free))

pub entries-preserved : goal.entries-preserved
entries-preserved c =
    let left : 0 < length c.entries.self = some_left c.entries.self c.entries-test.ensures.1 in
    rw c.in_ok-push-2.ensures.ok (more_entries c.args.self.now c.entries.cats c.entries.self c.entries.invariant left c.in_ok-next_entry.field-0 c.next_entry.new.self c.in_ok-next_entry.ensures.read c.in_ok-next_entry.ensures.shorter)

pub returns : goal.returns
returns c = all_entries c.args.self.now c.entries.cats c.entries.self c.entries.invariant (c.entries-test.ensures.0 refl)
