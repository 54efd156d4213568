-- What the state expects leads to what follows it.
use Rattle.std.proofs.Common.{map}
use Rattle.std.proofs.lemmas.Result.{IfOk-weaker}
use Rattle.spec_automata.specs.Encoding.{one_of_these}
use Rattle.lbnf_regex.specs.Patterns.{bytes_of_pattern}
use Rattle.lbnf_regex.specs.Sets.{AreTargets, LeadsFrom, StepsFrom}
use Rattle.lbnf_regex.proofs.SetLemmas.{targets_step}
use Rattle.lbnf_regex.proofs.targets.targets_from.Goals as goal

pub returns : goal.returns
returns c =
    let x = one_of_these (map bytes_of_pattern c.args.kinds.now) in
    IfOk-weaker c.targets_by.result (AreTargets (LeadsFrom c.in_ok-expected.expected))
    (AreTargets (StepsFrom x c.args.state.now))
    (λ targets just. targets_step x c.args.state.now c.in_ok-expected.expected targets c.in_ok-expected.ensures.ok just)
    (rw c.as_slice.ensures at c.targets_by.ensures)
