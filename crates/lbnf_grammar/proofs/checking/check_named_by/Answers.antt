use Rattle.std.proofs.Common.{arith, rules, Some, slice_get, ◌≡◌, refl, ap, ◌∙◌}
use Rattle.std.proofs.lemmas.List.{take_all}
use Rattle.std.proofs.lemmas.Option.{slice_get_read}
use Rattle.spec_lbnf.specs.Checks.{NamesKnown}
use Rattle.lbnf_grammar.specs.Checking.{used_names}
use Rattle.lbnf_grammar.proofs.CountLemmas.{few_defs}
use Rattle.lbnf_grammar.proofs.LabelLemmas.{all_hold}
use Rattle.lbnf_grammar.proofs.CheckingLemmas.{first_unknown, more_known, used_more}
use Rattle.lbnf_grammar.proofs.FaultLemmas.{unknown_tells}
use Rattle.lbnf_grammar.proofs.checking.check_named_by.Goals as goal

pub overflow_cast-number : goal.overflow_cast-number
overflow_cast-number c = omega (arith, few_defs c.args.defs.now)

pub returns-in-Some : goal.returns-in-Some
returns-in-Some c =
    let first = rw c.in-Some.is at c.in-Ok-first_unlisted.ensures in
    unknown_tells c.args.defs.now c.in-Some.name.now c.loop-number.number
    (first_unknown c.args.defs.now c.args.known.now c.requires.listed
    c.loop-number.number c.index-defs-number.result c.as_slice.result.now (search rules)
    c.loop-number-test.true c.index-defs-number.is c.loop-number.invariant.known c.in-Some.name.now first) c.unknown.result c.unknown.ensures

pub loop-number-preserved : goal.loop-number-preserved
loop-number-preserved c =
    let defs = c.args.defs.now in
    let number = c.loop-number.number in
    let def = c.index-defs-number.result in
    let listed = rw c.in_default-found.is at c.in-Ok-first_unlisted.ensures in
    let at : slice_get defs number ≡ Some def = slice_get_read defs _ number def refl c.loop-number-test.true c.index-defs-number.is in
    record {
      known =
          more_known defs c.args.known.now c.requires.listed number def c.as_slice.result.now (search rules)
          c.loop-number-test.true c.index-defs-number.is c.loop-number.invariant.known listed;
      used =
          used_more c.args.kinds.now defs number def c.as_slice-in-loop-number.result.now c.loop-number.used c.add_listed.new.self at (search rules)
          c.loop-number.invariant.used c.in-Ok-add_listed.ensures;
    }

pub returns : goal.returns
returns c = (
  all_hold (NamesKnown c.args.defs.now) c.args.defs.now (λ k def lt at. c.loop-number.invariant.known k def (omega arith) at),
  c.loop-number.invariant.used ∙ ap (used_names c.args.kinds.now) (take_all c.loop-number.number c.args.defs.now c.loop-number-test.false),
)
