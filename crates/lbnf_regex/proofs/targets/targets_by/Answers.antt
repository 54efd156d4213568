-- One way stands behind those so far.
use Rattle.std.proofs.Common.{◌≡◌, ◌+◌, ◌++◌, ◌∷◌, [], take, ap, sym, ◌∙◌}
use Rattle.std.proofs.lemmas.List.{take_more, take_all}
use Rattle.lbnf_regex.specs.declared.next_byte.NextByte.{NextByte}
use Rattle.lbnf_regex.proofs.SetLemmas.{no_targets, targets_more}
use Rattle.lbnf_regex.proofs.targets.targets_by.Goals as goal

pub loop-next-init : goal.loop-next-init
loop-next-init c = no_targets c.in_ok-targets.targets c.in_ok-targets.ensures

pub loop-next-preserved : goal.loop-next-preserved
loop-next-preserved c =
    let ways = c.args.expected.now in
    let i = c.loop-next.next-index in
    let next = c.next-item.result in
    let cut : take (i + 1) ways ≡ take i ways ++ next ∷ [] =
    take_more ways i next c.loop-next-test.true ∙ ap (λ (z : NextByte). take i ways ++ z ∷ []) (sym c.next-item.is) in
    rw cut
    (targets_more (take i ways) next c.loop-next.targets c.add_way.new.self c.loop-next.invariant c.in_ok-add_way.ensures)

pub returns : goal.returns
returns c = rw (take_all c.loop-next.next-index c.args.expected.now c.loop-next-test.false) at c.loop-next.invariant
