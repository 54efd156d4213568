use Rattle.std.proofs.Common.{◌≡◌, [], length, replicate, false, sym, ◌∙◌, ap}
use Rattle.std.proofs.lemmas.List.{nil_from_length, length-replicate}
use Rattle.number_graph.proofs.FlagLemmas.{looked_starts, looked_more, looked_ends, next_within}
use Rattle.number_graph.proofs.closure.search.Goals as goal

pub loop-number-init : goal.loop-number-init
loop-number-init c =
    let clear : c.in_ok-flags.flags.items ≡ replicate (length c.args.links.now) false =
    c.in_ok-flags.ensures.items_if_clones_equal (λ y same. same) ∙ ap (λ n. replicate n false) c.count.ensures in
    rw c.new-numbers.ensures.items
    (looked_starts c.args.links.now c.args.starts.now c.flag_all.new.flags.items c.flag_all.new.waiting.items
    (rw (clear, c.new-waiting.ensures.items) at c.in_ok-flag_all.ensures))

pub flag_all-requires : goal.flag_all-requires
flag_all-requires c n start =
    let clear : c.in_ok-flags.flags.items ≡ replicate (length c.args.links.now) false =
    c.in_ok-flags.ensures.items_if_clones_equal (λ y same. same) ∙ ap (λ n. replicate n false) c.count.ensures in
    rw (clear, length-replicate (length c.args.links.now) false) (c.requires.starts n start)

pub from-requires : goal.from-requires
from-requires c =
    next_within c.args.links.now c.args.starts.now c.in-Some.number c.loop-number.flags.items c.pop.new.self.items
    (rw c.in-Some.ensures.items at c.loop-number.invariant.search)

pub flag_all-requires-in-Some : goal.flag_all-requires-in-Some
flag_all-requires-in-Some c =
    rw (c.from.ensures, c.loop-number.invariant.search.count) (c.requires.within c.in-Some.number)

pub loop-number-preserved : goal.loop-number-preserved
loop-number-preserved c =
    rw c.in_ok-push.ensures.items
    (looked_more c.args.links.now c.args.starts.now c.in-Some.number c.loop-number.flags.items
    c.flag_all-in-Some.new.flags.items c.pop.new.self.items c.flag_all-in-Some.new.waiting.items
    c.loop-number.numbers.items
    (rw c.in-Some.ensures.items at c.loop-number.invariant) (rw c.from.ensures at c.in_ok-flag_all-2.ensures))

pub returns : goal.returns
returns c =
    let waiting = c.loop-number.waiting in
    let none : waiting.items ≡ [] = nil_from_length waiting.items (sym waiting.ok.0 ∙ c.in_default.ensures.cases.0) in
    looked_ends c.args.links.now c.args.starts.now c.loop-number.flags.items
    c.loop-number.numbers.items (rw none at c.loop-number.invariant)
