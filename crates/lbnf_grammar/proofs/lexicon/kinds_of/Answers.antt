use Rattle.std.proofs.Common.{◌≡◌, List, ◌++◌, map, sym, ap, ◌∙◌}
use Rattle.std.specs.List.{flat_map}
use Rattle.std.proofs.lemmas.List.{map-append, append_assoc}
use Rattle.spec_lexing.specs.declared.kind_def.KindDef.TheVariants.{Word as WordKind}
use Rattle.spec_lbnf.specs.Expansion.{token_in, active_kinds}
use Rattle.lbnf_grammar.specs.PredefinedKinds.{predefined_token, token_kind}
use Rattle.lbnf_grammar.proofs.lexicon.kinds_of.Goals as goal

pub returns : goal.returns
returns c =
    let defs = c.args.defs.now in
    let words = map WordKind c.args.words.items in
    let tokens = map token_kind (flat_map token_in defs) in
    let predefined = map token_kind (map predefined_token c.args.active.now) in
    c.in_ok-add_predefined.ensures
    ∙ ap (λ l. l ++ predefined) (c.in_ok-add_tokens.ensures ∙ ap (λ l. l ++ tokens) c.in_ok-kinds.ensures)
    ∙ append_assoc words tokens predefined
    ∙ ap (λ l. words ++ l) (ap (λ l. tokens ++ map token_kind l) c.requires ∙ sym (map-append token_kind (flat_map token_in defs) (active_kinds defs)))
