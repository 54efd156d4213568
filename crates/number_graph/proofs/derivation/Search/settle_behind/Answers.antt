use Rattle.std.proofs.Common.{[], length, ◌∙◌, arith}
use Rattle.std.proofs.lemmas.List.{get_or_read, get_or_default}
use Rattle.std.proofs.lemmas.Result.{on_ok_weaker}
use Rattle.number_graph.proofs.DerivationLemmas.{taken_under_way, settled_behind, number_within}
use Rattle.number_graph.proofs.derivation.Search.settle_behind.Goals as goal

pub index_mut-requires : goal.index_mut-requires
index_mut-requires c =
    let old = c.args.self.now in
    let read = get_or_read old.order.items c.args.place c.index-number.result.now c.requires.place c.index-number.ensures 0 in
    omega (
      arith,
      old.waiting.ok.0,
      number_within c.args.premises.now c.args.conclusions.now old.flags.items old.order.items
          old.places.items old.waiting.items c.args.place c.index-number.result.now c.requires.settled.under_way c.requires.place read,
    )

pub settle_all-requires-clause-under_way : goal.settle_all-requires-clause-under_way
settle_all-requires-clause-under_way c =
    let old = c.args.self.now in
    let read = get_or_read old.order.items c.args.place c.index-number.result.now c.requires.place c.index-number.ensures 0 in
    let within = number_within c.args.premises.now c.args.conclusions.now old.flags.items old.order.items
    old.places.items old.waiting.items c.args.place c.index-number.result.now c.requires.settled.under_way c.requires.place read in
    rw (c.replace-waiting.ensures.after, c.new.ensures) (taken_under_way c.args.premises.now c.args.conclusions.now
    old.flags.items old.order.items old.places.items old.waiting.items c.args.place c.index-number.result.now
    c.requires.settled.under_way within)

pub settle_all-requires-clause-implications : goal.settle_all-requires-clause-implications
settle_all-requires-clause-implications c =
    let old = c.args.self.now in
    let read = get_or_read old.order.items c.args.place c.index-number.result.now c.requires.place c.index-number.ensures 0 in
    let within = number_within c.args.premises.now c.args.conclusions.now old.flags.items old.order.items
    old.places.items old.waiting.items c.args.place c.index-number.result.now c.requires.settled.under_way c.requires.place read in
    let is_list = c.as_slice.ensures ∙ c.replace-waiting.ensures.value ∙ c.index_mut.ensures.value
    ∙ get_or_default old.waiting.items c.index-number.result.now c.index_mut.result.now [] within in
    rw is_list (c.requires.settled.under_way.waits c.index-number.result.now)

pub returns : goal.returns
returns c =
    let old = c.args.self.now in
    let read = get_or_read old.order.items c.args.place c.index-number.result.now c.requires.place c.index-number.ensures 0 in
    let within = number_within c.args.premises.now c.args.conclusions.now old.flags.items old.order.items
    old.places.items old.waiting.items c.args.place c.index-number.result.now c.requires.settled.under_way c.requires.place read in
    let is_list = c.as_slice.ensures ∙ c.replace-waiting.ensures.value ∙ c.index_mut.ensures.value
    ∙ get_or_default old.waiting.items c.index-number.result.now c.index_mut.result.now [] within in
    on_ok_weaker c.settle_all.result
    (settled_behind c.args.premises.now c.args.conclusions.now (length old.flags.items) c.args.place
    c.index-number.result.now c.as_slice.result.now old c.settle_all.new.self c.requires.settled c.requires.place
    read within is_list)
    (rw (c.replace-waiting.ensures.after, c.new.ensures) at c.settle_all.ensures)
