use Rattle.std.proofs.Common.{ℕ, slice_index_or, sym, subst, arith, refl}
use Rattle.std.specs.List.{Contains}
use Rattle.std.proofs.lemmas.List.{get_or_read}
use Rattle.std.proofs.lemmas.Result.{on_ok_weaker}
use Rattle.number_graph.specs.Graphs.{HasLink, IsSet}
use Rattle.number_graph.proofs.LinkLemmas.{stands_at}
use Rattle.number_graph.proofs.DerivationLemmas.{settled_waiting, settled_known}
use Rattle.number_graph.proofs.derivation.Search.settle.Goals as goal

pub first_clear-place-requires : goal.first_clear-place-requires
first_clear-place-requires c =
    rw (c.list-numbers.ensures, c.as_slice.ensures.value) (c.requires.within.premises_below c.args.implication)

pub index_mut-requires-in-Some : goal.index_mut-requires-in-Some
index_mut-requires-in-Some c =
    let numbers = c.list-numbers.result.now in
    let place = c.first_clear-place.result in
    let stands = c.in-Some.ensures.lookup.3 in
    let has : Contains numbers c.in-Some.premise.now =
    subst (Contains numbers) (sym (stands.1 0)) (stands_at numbers place stands.0) in
    let below = c.requires.within.premises_below c.args.implication c.in-Some.premise.now (rw c.list-numbers.ensures at has) in
    omega (arith, below, c.args.self.now.waiting.ok.0, c.requires.under_way.waiting_count)

pub flag-requires : goal.flag-requires
flag-requires c =
    c.requires.within.conclusions_below (slice_index_or c.args.conclusions.now c.args.implication 0)
    (stands_at c.args.conclusions.now c.args.implication c.requires.implication)

pub returns-in-Some : goal.returns-in-Some
returns-in-Some c =
    let old = c.args.self.now in
    let numbers = c.list-numbers.result.now in
    let place = c.first_clear-place.result in
    let p = c.in-Some.premise.now in
    let stands = c.in-Some.ensures.lookup.3 in
    let has : Contains numbers p =
    subst (Contains numbers) (sym (stands.1 0)) (stands_at numbers place stands.0) in
    let link : HasLink c.args.premises.now c.args.implication p = rw c.list-numbers.ensures at has in
    let read = get_or_read old.places.items c.args.implication c.index.result.now (omega (arith, c.requires.implication, c.requires.under_way.place_count)) c.index.ensures 0 in
    let Clear : ℕ → Type 0 = λ n. IsSet c.as_slice.result.now n → ⊥ in
    let clear = subst Clear (sym (stands.1 0)) (c.first_clear-place.ensures.clear stands.0) in
    on_ok_weaker c.push.result
    (λ is. rw is (settled_waiting c.args.premises.now c.args.conclusions.now old.flags.items old.order.items
    old.places.items old.waiting.items c.args.implication place c.requires.under_way c.requires.implication
    (rw (c.list-numbers.ensures, c.as_slice.ensures.value, read) at c.first_clear-place.ensures.set)
    p c.index_mut-in-Some.result.now link (c.requires.within.premises_below c.args.implication p link)
    (rw c.as_slice.ensures.value at clear) c.index_mut-in-Some.ensures.value))
    c.push.ensures.ok

pub returns-in-None : goal.returns-in-None
returns-in-None c =
    let old = c.args.self.now in
    let place = c.first_clear-place.result in
    let past = c.in-None.ensures.lookup.3 in
    let read = get_or_read old.places.items c.args.implication c.index.result.now (omega (arith, c.requires.implication, c.requires.under_way.place_count)) c.index.ensures 0 in
    let n : ℕ = slice_index_or c.args.conclusions.now c.args.implication 0 in
    on_ok_weaker c.flag.result
    (settled_known c.args.premises.now c.args.conclusions.now old.flags.items old.order.items
    old.places.items old.waiting.items c.args.implication place c.requires.under_way c.requires.implication
    (rw (c.list-numbers.ensures, c.as_slice.ensures.value, read) at c.first_clear-place.ensures.set)
    n c.flag.new.flags.items c.flag.new.waiting.items refl
    (c.requires.within.conclusions_below n (stands_at c.args.conclusions.now c.args.implication c.requires.implication))
    (rw c.list-numbers.ensures at past))
    c.flag.ensures.one
