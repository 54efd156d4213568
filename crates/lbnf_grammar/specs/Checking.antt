-- The checks of definitions, one by one. Serves the proofs alone.
use Rattle.std.specs.Prelude.{◌≡◌, ℕ, List, [], ◌∷◌, Option, Some, None, Result}
use Rattle.std.specs.Prelude.{Ok, Err, Contains, filter, flat_map}
use Rattle.spec_grammar.specs.Cycles.{IsAcyclic}
use Rattle.spec_lbnf.specs.declared.definition.CatName.{CatName}
use Rattle.spec_lbnf.specs.declared.definition.RawRule.{RawRule}
use Rattle.spec_lbnf.specs.declared.definition.Def.{Def}
use Rattle.spec_lbnf.specs.declared.definition.Def.TheVariants.{Token}
use Rattle.spec_grammar.specs.Grammars.{Grammar}
use Rattle.spec_lbnf.specs.declared.fault.GrammarFault.{GrammarFault}
use Rattle.spec_lbnf.specs.declared.fault.GrammarFault.TheVariants.{Cyclic}
use Rattle.spec_lbnf.specs.Checks.{IsFirstCyclic}
use Rattle.spec_lbnf.specs.Checks.{IsWellLabelled, IsBadCoercion, IsBadList}
use Rattle.spec_lbnf.specs.Checks.{IsList, IsBadWild, IsBadListRule}
use Rattle.lbnf_grammar.specs.declared.labels.LabelFault.{LabelFault}
use Rattle.lbnf_grammar.specs.declared.labels.LabelFault.TheVariants.{Coercion, List as ListFault}
use Rattle.spec_lbnf.specs.Expansion.{is_among, named_categories}
use Rattle.lbnf_grammar.specs.Grammars.{IsSuchOrMemory}
use Rattle.lbnf_grammar.specs.Numbering.{with_new_names}

-- the check is passed with what it gives, or the fault is such a one, or memory ran out
abbrev pub Checks : {A : Type 0} → (A → Type 0) → (GrammarFault → Type 0)
    → Result A GrammarFault → Type 0
Checks Passes IsSuch (Ok given) = Passes given
Checks Passes IsSuch (Err fault) = IsSuchOrMemory IsSuch fault

-- the check is passed with what it gives, or the fault is such a one, without memory
abbrev pub ChecksWithoutMemory : {A : Type 0} → (A → Type 0) → (GrammarFault → Type 0)
    → Result A GrammarFault → Type 0
ChecksWithoutMemory Passes IsSuch (Ok given) = Passes given
ChecksWithoutMemory Passes IsSuch (Err fault) = IsSuch fault

-- the last of the categories is a list
abbrev pub EndsInList : List CatName → Type 0
EndsInList [] = ⊥
EndsInList (cat ∷ []) = IsList cat
EndsInList (cat ∷ next ∷ cats) = EndsInList (next ∷ cats)

-- what is wrong with the definition's label or levels, and None exactly where nothing is
abbrev pub FindsLabelFault : Def → Option LabelFault → Type 0
FindsLabelFault def None = IsWellLabelled def
FindsLabelFault def (Some Coercion) = IsBadCoercion def
FindsLabelFault def (Some ListFault) = IsBadList def

-- what is wrong with the rule's label, and None exactly where nothing is
abbrev pub FindsRuleFault : RawRule → Option LabelFault → Type 0
FindsRuleFault rule None = (IsBadWild rule → ⊥) × (IsBadListRule rule → ⊥)
FindsRuleFault rule (Some Coercion) = IsBadWild rule
FindsRuleFault rule (Some ListFault) = IsBadListRule rule

-- the name is listed
abbrev pub IsListed : List (List ℕ) → List ℕ → Type 0
IsListed known name = Contains known name

-- the name is not listed
abbrev pub IsUnlisted : List (List ℕ) → List ℕ → Type 0
IsUnlisted known name = IsListed known name → ⊥

-- the names that a definition may not take: a token definition the earlier ones, and any other
-- those of kinds
abbrev pub HasTaken : List (List ℕ) → List (List ℕ) → Def → List (List ℕ) → Type 0
HasTaken earlier kinds (Token name expr) taken = taken ≡ earlier
HasTaken earlier kinds other taken = taken ≡ kinds

-- the kinds' names among the names that definitions name, each once
abbrev pub used_names : List (List ℕ) → List Def → List (List ℕ)
used_names kinds defs =
    with_new_names [] (filter (is_among kinds) (flat_map named_categories defs))

-- the first cyclic category of the grammar is at fault
abbrev pub AtCycleOf : Grammar → GrammarFault → Type 0
AtCycleOf g fault = (name : List ℕ) × IsFirstCyclic g name × (fault ≡ Cyclic name)

-- the grammar has no cycle and is kept, or its first cyclic category is told
abbrev pub PassesCycles : Grammar → Result Grammar GrammarFault → Type 0
PassesCycles g result =
    Checks (λ (kept : Grammar). IsAcyclic g.rules × (kept ≡ g)) (AtCycleOf g) result
