-- The rules of the first definitions.
use Rattle.std.proofs.Common.{◌≡◌, ℕ, ◌+◌, List, [], ◌∷◌, ◌++◌, take, Some, slice_get, ap, ◌∙◌, append-nil}
use Rattle.std.proofs.lemmas.Grind.{flat_map-append}
use Rattle.spec_lbnf.specs.declared.definition.Def.{Def}
use Rattle.spec_lbnf.specs.Expansion.{rules_of, rules_of_def}
use Rattle.lbnf_grammar.proofs.LabelLemmas.{take_next}

-- the rules of the first definitions, and those of the next
pub rules_more : (defs : List Def) (i : ℕ) (def : Def) → slice_get defs i ≡ Some def
    → rules_of (take (i + 1) defs) ≡ rules_of (take i defs) ++ rules_of_def def
rules_more defs i def at =
    ap rules_of (take_next defs i def at)
    ∙ flat_map-append rules_of_def (take i defs) (def ∷ [])
    ∙ ap (λ rules. rules_of (take i defs) ++ rules) (append-nil (rules_of_def def))
