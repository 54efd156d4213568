use Rattle.std.proofs.Common.{◌≡◌, ◌++◌, ◌∷◌, [], Some, slice_get, slice_index_or, sym, ap, ◌∙◌, cond}
use Rattle.std.proofs.lemmas.Option.{slice_get-get_or}
use Rattle.lbnf_grammar.specs.declared.predefined.Predefined.TheVariants.{Integer}
use Rattle.lbnf_grammar.specs.PredefinedKinds.{predefined_name, is_free_use}
use Rattle.lbnf_grammar.proofs.DistinctLemmas.{filter_more}
use Rattle.lbnf_grammar.proofs.predefined.active_among.Goals as goal

pub loop-kind-preserved : goal.loop-kind-preserved
loop-kind-preserved c =
    let kinds = c.args.kinds.now in
    let kind = slice_index_or kinds c.loop-kind.kind-index Integer in
    let at : slice_get kinds c.loop-kind.kind-index ≡ Some kind = slice_get-get_or kinds c.loop-kind.kind-index Integer c.loop-kind-test.true in
    c.in_ok-add_if_active.ensures
    ∙ ap (λ l. l ++ cond (is_free_use c.args.used.now c.args.taken.now (predefined_name kind)) (kind ∷ []) []) c.loop-kind.invariant
    ∙ sym (filter_more (λ k. is_free_use c.args.used.now c.args.taken.now (predefined_name k)) kinds c.loop-kind.kind-index kind at)
