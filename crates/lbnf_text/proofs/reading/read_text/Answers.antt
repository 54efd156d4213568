use Rattle.std.proofs.Common.{Vec, Global, ◌≡◌, ◌<◌, length, rules, arith, inr}
use Rattle.std.proofs.lemmas.Result.{err_from_is_err_and}
use Rattle.spec_lbnf.specs.declared.definition.Def.{Def}
use Rattle.spec_lbnf.specs.FileTokens.{IsScan}
use Rattle.lbnf_readers.specs.FileDefinitions.{defs_of}
use Rattle.lbnf_readers.proofs.FaultLemmas.{defs_are, bad_is, stop_is, fault_is}
use Rattle.lbnf_text.proofs.FileLemmas.{told_fault, stop_within, signs_for_each, few_differences}
use Rattle.lbnf_text.proofs.reading.read_text.Goals as goal

pub returns-in_err-defs : goal.returns-in_err-defs
returns-in_err-defs c =
    let p = err_from_is_err_and c.from_residual-in_err-defs.result c.from_residual-in_err-defs.ensures.1 in
    let scan : IsScan c.args.text.now c.in_ok-scan.scan.tokens.items c.in_ok-scan.scan.stop = search rules in
    rw (p.1, p.2) (told_fault (λ (list : Vec Def Global). list.items) c.args.text.now (defs_of c.in_ok-scan.scan.tokens.items c.in_ok-scan.scan.stop) c.in_err-defs.field-0.0 (record { few = c.requires; utf8 = c.utf8.text }) (rw (← c.as_slice.ensures.value) c.in_err-defs.ensures) (λ fault is. fault_is c.args.text.now c.in_ok-scan.scan.tokens.items c.in_ok-scan.scan.stop scan fault (record { few = c.requires; utf8 = c.utf8.text }) is))

pub returns-then-scan-text : goal.returns-then-scan-text
returns-then-scan-text c =
    let scan : IsScan c.args.text.now c.in_ok-scan.scan.tokens.items c.in_ok-scan.scan.stop = search rules in
    let early : c.in_ok-scan.scan.stop < length c.args.text.now = omega arith in
    inr (stop_is c.args.text.now c.in_ok-scan.scan.tokens.items c.in_ok-scan.scan.stop scan c.in_ok-defs.defs.items (record { few = c.requires; utf8 = c.utf8.text }) early (rw (← c.as_slice.ensures.value) c.in_ok-defs.ensures))

pub bad_difference-requires-clause-signs : goal.bad_difference-requires-clause-signs
bad_difference-requires-clause-signs c =
    let scan : IsScan c.args.text.now c.in_ok-scan.scan.tokens.items c.in_ok-scan.scan.stop = search rules in
    let end : c.in_ok-scan.scan.stop ≡ length c.args.text.now = omega (arith, stop_within c.args.text.now c.in_ok-scan.scan.tokens.items c.in_ok-scan.scan.stop scan) in
    let same = signs_for_each c.args.text.now c.in_ok-scan.scan.tokens.items c.in_ok-scan.scan.stop scan c.in_ok-defs.defs.items (record { few = c.requires; utf8 = c.utf8.text }) end (rw (← c.as_slice.ensures.value) c.in_ok-defs.ensures) in
    rw (c.as_slice-2.ensures.value, c.as_slice-3.ensures.value) same

pub bad_difference-requires-clause-few : goal.bad_difference-requires-clause-few
bad_difference-requires-clause-few c =
    let scan : IsScan c.args.text.now c.in_ok-scan.scan.tokens.items c.in_ok-scan.scan.stop = search rules in
    let end : c.in_ok-scan.scan.stop ≡ length c.args.text.now = omega (arith, stop_within c.args.text.now c.in_ok-scan.scan.tokens.items c.in_ok-scan.scan.stop scan) in
    let few = few_differences c.args.text.now c.in_ok-scan.scan.tokens.items c.in_ok-scan.scan.stop scan c.in_ok-defs.defs.items (record { few = c.requires; utf8 = c.utf8.text }) end (rw (← c.as_slice.ensures.value) c.in_ok-defs.ensures) in
    rw c.as_slice-2.ensures.value few

pub returns-in-None : goal.returns-in-None
returns-in-None c =
    let scan : IsScan c.args.text.now c.in_ok-scan.scan.tokens.items c.in_ok-scan.scan.stop = search rules in
    let end : c.in_ok-scan.scan.stop ≡ length c.args.text.now = omega (arith, stop_within c.args.text.now c.in_ok-scan.scan.tokens.items c.in_ok-scan.scan.stop scan) in
    defs_are c.args.text.now c.in_ok-scan.scan.tokens.items c.in_ok-scan.scan.stop scan c.in_ok-defs.defs.items (record { few = c.requires; utf8 = c.utf8.text }) end (rw (← c.as_slice.ensures.value) c.in_ok-defs.ensures) (rw c.as_slice-2.ensures.value at c.in-None.ensures)

pub returns : goal.returns
returns c =
    let scan : IsScan c.args.text.now c.in_ok-scan.scan.tokens.items c.in_ok-scan.scan.stop = search rules in
    let end : c.in_ok-scan.scan.stop ≡ length c.args.text.now = omega (arith, stop_within c.args.text.now c.in_ok-scan.scan.tokens.items c.in_ok-scan.scan.stop scan) in
    inr (bad_is c.args.text.now c.in_ok-scan.scan.tokens.items c.in_ok-scan.scan.stop scan c.in_ok-defs.defs.items c.in-Some.at (record { few = c.requires; utf8 = c.utf8.text }) end (rw (← c.as_slice.ensures.value) c.in_ok-defs.ensures) (rw (c.as_slice-2.ensures.value, c.as_slice-3.ensures.value) at c.in-Some.ensures))
