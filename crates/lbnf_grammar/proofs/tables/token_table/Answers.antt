use Rattle.std.proofs.Common.{◌≡◌, [], Some, slice_get, slice_index_or, map, ap, ◌∙◌}
use Rattle.std.proofs.lemmas.List.{take_all}
use Rattle.std.proofs.lemmas.Option.{slice_get-get_or}
use Rattle.spec_lbnf.specs.Expansion.{token_names}
use Rattle.lbnf_grammar.specs.Numbering.{with_new_name, with_new_names}
use Rattle.lbnf_grammar.specs.declared.predefined.Predefined.TheVariants.{Integer}
use Rattle.lbnf_grammar.specs.PredefinedKinds.{predefined_name}
use Rattle.lbnf_grammar.proofs.DistinctLemmas.{named_more}
use Rattle.lbnf_grammar.proofs.PredefinedLemmas.{tokens_are}
use Rattle.lbnf_grammar.proofs.tables.token_table.Goals as goal

pub loop-kind-preserved : goal.loop-kind-preserved
loop-kind-preserved c =
    let active = c.args.active.now in
    let kind = slice_index_or active c.loop-kind.kind-index Integer in
    let start = with_new_names [] (token_names c.args.defs.now) in
    let at : slice_get active c.loop-kind.kind-index ≡ Some kind = slice_get-get_or active c.loop-kind.kind-index Integer c.loop-kind-test.true in
    named_more predefined_name start active c.loop-kind.kind-index kind at c.loop-kind.names c.add.new.self c.loop-kind.invariant
    (c.in_ok-add.ensures ∙ ap (with_new_name c.loop-kind.names) c.name.ensures)

pub returns : goal.returns
returns c =
    let active = c.args.active.now in
    let start = with_new_names [] (token_names c.args.defs.now) in
    c.loop-kind.invariant
    ∙ ap (λ l. with_new_names start (map predefined_name l)) (take_all c.loop-kind.kind-index active c.loop-kind-test.false)
    ∙ tokens_are c.args.defs.now c.requires.own active c.requires.active
