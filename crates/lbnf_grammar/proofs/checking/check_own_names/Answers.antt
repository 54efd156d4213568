use Rattle.std.proofs.Common.{◌≡◌, [], Some, slice_get, refl, ap, ◌∙◌, rules}
use Rattle.std.proofs.lemmas.Option.{slice_get_read}
use Rattle.spec_lbnf.specs.Expansion.{names_in, token_in}
use Rattle.lbnf_grammar.specs.Checking.{HasTaken}
use Rattle.lbnf_grammar.specs.Numbering.{with_new_names}
use Rattle.lbnf_grammar.proofs.CheckingLemmas.{first_repeated, more_free, all_free, earlier_more}
use Rattle.lbnf_grammar.proofs.FaultLemmas.{repeated_tells}
use Rattle.lbnf_grammar.proofs.checking.check_own_names.Goals as goal

pub returns-in-Some : goal.returns-in-Some
returns-in-Some c =
    let defs = c.args.defs.now in
    let i = c.loop-def.def-index in
    let def = c.def-item.result in
    let at : slice_get defs i ≡ Some def = slice_get_read defs _ i def refl c.loop-def-test.true c.def-item.is in
    let has : HasTaken c.loop-def.earlier c.args.kinds.now def c.taken-taken.result.now = search rules in
    let first = rw c.in-Some.is at c.in-Ok-first_listed.ensures in
    repeated_tells defs c.in-Some.name.now
    (first_repeated defs c.args.kinds.now c.loop-def.earlier c.requires.kinds i c.loop-def.invariant.earlier def at c.taken-taken.result.now has
    c.as_slice.result.now (search rules) c.loop-def.invariant.free c.in-Some.name.now first) c.repeated.result c.repeated.ensures

pub loop-def-preserved : goal.loop-def-preserved
loop-def-preserved c =
    let defs = c.args.defs.now in
    let i = c.loop-def.def-index in
    let def = c.def-item.result in
    let at : slice_get defs i ≡ Some def = slice_get_read defs _ i def refl c.loop-def-test.true c.def-item.is in
    let has : HasTaken c.loop-def.earlier c.args.kinds.now def c.taken-taken.result.now = search rules in
    let none = rw c.in_default-found.is at c.in-Ok-first_listed.ensures in
    record {
      earlier =
          earlier_more [] defs i def c.loop-def.earlier c.add_token_name.new.names at c.loop-def.invariant.earlier
          (c.in-Ok-add_token_name.ensures ∙ ap (λ d. with_new_names c.loop-def.earlier (names_in (token_in d))) c.def-in-loop-def.ensures);
      free =
          more_free defs c.args.kinds.now c.loop-def.earlier c.requires.kinds i c.loop-def.invariant.earlier def at c.taken-taken.result.now has
          c.as_slice.result.now (search rules) c.loop-def.invariant.free none;
    }

pub returns : goal.returns
returns c = all_free c.args.defs.now c.loop-def.def-index c.loop-def-test.false c.loop-def.invariant.free
