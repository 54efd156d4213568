-- One byte stands behind those so far.
use Rattle.std.proofs.Common.{◌≡◌, ℕ, List, subst}
use Rattle.std.specs.List.{Contains}
use Rattle.std.proofs.lemmas.List.{take_all}
use Rattle.lbnf_regex.specs.Sets.{AddsTargets}
use Rattle.lbnf_regex.proofs.SetLemmas.{set_more}
use Rattle.lbnf_regex.proofs.targets.Targets.add_set.Goals as goal

pub loop-byte-preserved : goal.loop-byte-preserved
loop-byte-preserved c =
    set_more c.args.set.now c.loop-byte.byte-index c.args.position c.args.self.now c.loop-byte.self c.add.new.self
    c.loop-byte-test.true c.loop-byte.invariant c.in_ok-add.ensures

pub returns : goal.returns
returns c =
    subst (λ (set : List ℕ). AddsTargets (λ b p. Contains set b × (p ≡ c.args.position)) c.args.self.now c.loop-byte.self)
    (take_all c.loop-byte.byte-index c.args.set.now c.loop-byte-test.false) c.loop-byte.invariant
