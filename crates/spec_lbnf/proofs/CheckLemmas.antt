-- Definitions are fit, or unfit for one reason.
use Rattle.std.proofs.Common.{◌≡◌, ℕ, ◌⊎◌, List, [], ◌∷◌, length, All, slice_get, refl, sym, ap, subst, ◌∙◌, inl, inr, arith}
use Rattle.std.proofs.lemmas.Option.{same_Some}
use Rattle.spec_grammar.specs.declared.rule.Label.TheVariants.{Wild}
use Rattle.spec_lbnf.specs.declared.definition.CatName.{CatName}
use Rattle.spec_lbnf.specs.declared.definition.RawRule.{RawRule}
use Rattle.spec_lbnf.specs.declared.definition.Def.{Def}
use Rattle.spec_lbnf.specs.declared.definition.Def.TheVariants.{Rule as RuleDef, Internal, Terminator, Separator, Coercions, Entry, Token, LineComment, BlockComment}
use Rattle.spec_lbnf.specs.Expansion.{expansion_of}
use Rattle.spec_lbnf.specs.declared.fault.GrammarFault.{GrammarFault}
use Rattle.spec_lbnf.specs.declared.fault.GrammarFault.TheVariants.{BadCoercion, BadList, Cyclic, RepeatedToken, UnknownCategory}
use Rattle.spec_lbnf.specs.Checks.{HasAt, IsFirstName, IsTaken, IsFree, TakesFree, RepeatsName, IsFirstRepeated, own_names, IsUnknown, IsKnown, NamesKnown, NamesUnknown, AreAllKnown}
use Rattle.spec_lbnf.specs.Expansion.{categories_in, named_categories}
use Rattle.spec_lbnf.specs.Checks.{IsBadWild, IsBadCoercion, IsOneElement, IsBadLabel, IsBadListRule, IsBadList, IsWellLabelled, IsIllLabelled}
use Rattle.spec_lbnf.specs.Checks.{HasFewRules, HasOwnNames, AtLabels, AtCount, AtOwnName, AtUnknown, AtCycle}
use Rattle.spec_lbnf.specs.Laws.{FitOrUnfit, OneUnfitness}
use Rattle.spec_lbnf.proofs.FirstLemmas.{one_first, one_first_name, none_at}
use Rattle.spec_lbnf.proofs.CycleLemmas.{acyclic_or_cyclic, one_cyclic}

module _ (defs : List Def) where
  -- no category is unknown and known
  not_known : (name : List ℕ) → IsUnknown defs name → IsKnown defs name → ⊥
  not_known name unknown known = unknown known

  -- no definition names an unknown category and known ones alone
  not_all_known : (def : Def) → NamesUnknown defs def → NamesKnown defs def → ⊥
  not_all_known def (place, unknown) known =
      none_at (IsKnown defs) (named_categories def) (IsUnknown defs) not_known known place unknown

-- no definition is ill labelled and well labelled
pub ill_or_well : (def : Def) → IsIllLabelled def → IsWellLabelled def → ⊥
ill_or_well def (inl coercion) well = well.0 coercion
ill_or_well def (inr list) well = well.1 list

-- one item that is no word is one
one_element : (items : List CatName) → IsOneElement items → length items ≡ 1
one_element [] is = absurd is
one_element (cat ∷ []) is = refl
one_element (cat ∷ next ∷ items) is = absurd is

-- no rule is a bad coercion and a bad list
rule_bad_once : (rule : RawRule) → IsBadWild rule → IsBadListRule rule → ⊥
rule_bad_once rule wild bad =
    let as_wild : IsBadLabel Wild rule.cat (categories_in rule.items)
    = subst (λ label. IsBadLabel label rule.cat (categories_in rule.items)) wild.0 bad in
    wild.1 (one_element (categories_in rule.items) as_wild.1)

-- no definition is
bad_once : (def : Def) → IsBadCoercion def → IsBadList def → ⊥
bad_once (RuleDef rule) coercion bad = rule_bad_once rule coercion bad
bad_once (Internal rule) coercion bad = rule_bad_once rule coercion bad
bad_once (Terminator nonempty cat word) coercion bad = bad
bad_once (Separator nonempty cat word) coercion bad = bad
bad_once (Coercions name levels) coercion bad = bad
bad_once (Entry cats) coercion bad = bad
bad_once (Token name expr) coercion bad = bad
bad_once (LineComment opening) coercion bad = bad
bad_once (BlockComment opening closing) coercion bad = bad

-- definitions that are all well labelled have no first that is not
labels_pass : (defs : List Def) (fault : GrammarFault) → All IsWellLabelled defs → AtLabels defs fault → ⊥
labels_pass defs fault all (number, first, is) = none_at IsWellLabelled defs IsIllLabelled ill_or_well all number first.is_so

-- a bad coercion and a bad list are not at one place
not_both : (defs : List Def) (number : ℕ) → HasAt IsBadCoercion defs number → HasAt IsBadList defs number → ⊥
not_both defs number (def, is, coercion) (other, is', list) =
    let same : other ≡ def = same_Some other def (sym is' ∙ is) in
    bad_once def coercion (subst IsBadList same list)

-- the definition at the number is bad in the way that the fault tells
abbrev IsBadSo : List Def → ℕ → GrammarFault → Type 0
IsBadSo defs number fault =
    (HasAt IsBadCoercion defs number × (fault ≡ BadCoercion number)) ⊎ (HasAt IsBadList defs number × (fault ≡ BadList number))

-- definitions have one fault of labels
one_at_labels : (defs : List Def) (a b : GrammarFault) → AtLabels defs a → AtLabels defs b → a ≡ b
one_at_labels defs a b (i, first, how) (j, other, how') =
    by how (subst (λ k. IsBadSo defs k b) (sym (one_first (HasAt IsIllLabelled defs) i j first other)) how')
  where
    by : IsBadSo defs i a → IsBadSo defs i b → a ≡ b
    by (inl (bad, is)) (inl (bad', is')) = is ∙ sym is'
    by (inl (bad, is)) (inr (bad', is')) = absurd (not_both defs i bad bad')
    by (inr (bad, is)) (inl (bad', is')) = absurd (not_both defs i bad' bad)
    by (inr (bad, is)) (inr (bad', is')) = is ∙ sym is'

-- definitions that are all known have no first category that is not
known_pass : (defs : List Def) (fault : GrammarFault) → AreAllKnown defs → AtUnknown defs fault → ⊥
known_pass defs fault all (name, number, unknown, is) =
    none_at (NamesKnown defs) defs (NamesUnknown defs) (not_all_known defs) all number unknown.first.is_so

-- no definition repeats a name and takes free names alone
pub repeats_at : (defs : List Def) (number : ℕ) → TakesFree defs number → RepeatsName defs number → ⊥
repeats_at defs number free (def, is, (place, taken)) =
    none_at (IsFree defs number def) (own_names def) (IsTaken defs number def) (λ name is_taken is_free. is_free is_taken) (free def is) place taken

-- where no definition repeats a name, none is the first that does
names_pass : (defs : List Def) (fault : GrammarFault) → HasOwnNames defs → AtOwnName defs fault → ⊥
names_pass defs fault own (name, repeated, is) = repeats_at defs repeated.number (own repeated.number) repeated.first.is_so

-- definitions have one fault of repeated names
one_at_own_name : (defs : List Def) (a b : GrammarFault) → AtOwnName defs a → AtOwnName defs b → a ≡ b
one_at_own_name defs a b (name, one, is) (name', other, is') =
    let place : one.number ≡ other.number = one_first (RepeatsName defs) one.number other.number one.first other.first in
    let same : other.def ≡ one.def = same_Some _ _ (sym other.is_def ∙ sym (ap (slice_get defs) place) ∙ one.is_def) in
    let at_one : IsFirstName (IsTaken defs one.number other.def) (own_names other.def) name'
    = subst (λ n. IsFirstName (IsTaken defs n other.def) (own_names other.def) name') (sym place) other.first_name in
    let names : name ≡ name' =
    one_first_name (IsTaken defs one.number one.def) (own_names one.def) name name' one.first_name
    (subst (λ (d : Def). IsFirstName (IsTaken defs one.number d) (own_names d) name') same at_one) in
    is ∙ ap RepeatedToken names ∙ sym is'

-- definitions have one fault of unknown categories
one_at_unknown : (defs : List Def) (a b : GrammarFault) → AtUnknown defs a → AtUnknown defs b → a ≡ b
one_at_unknown defs a b (name, i, one, is) (name', j, other, is') =
    let place : i ≡ j = one_first (HasAt (NamesUnknown defs) defs) i j one.first other.first in
    let same : other.def ≡ one.def = same_Some _ _ (sym other.is_def ∙ sym (ap (slice_get defs) place) ∙ one.is_def) in
    let names : name ≡ name' =
    one_first_name (IsUnknown defs) (named_categories one.def) name name' one.first_name
    (subst (λ (d : Def). IsFirstName (IsUnknown defs) (named_categories d) name') same other.first_name) in
    is ∙ (λ k. UnknownCategory (names k) (place k)) ∙ sym is'

-- definitions that pass all checks fail none
pub fit_or_unfit : FitOrUnfit
fit_or_unfit defs fault fit (inl labels) = labels_pass defs fault fit.labelled labels
fit_or_unfit defs fault fit (inr (all, inl count)) = omega (arith, count.0, fit.few)
fit_or_unfit defs fault fit (inr (all, inr (few, inl names))) = names_pass defs fault fit.own_names names
fit_or_unfit defs fault fit (inr (all, inr (few, inr (own, inl unknown)))) = known_pass defs fault fit.known unknown
fit_or_unfit defs fault fit (inr (all, inr (few, inr (own, inr (known, (name, cyclic, is)))))) =
    acyclic_or_cyclic (expansion_of defs) name fit.acyclic cyclic

-- a fault behind the labels
abbrev BehindLabels : List Def → GrammarFault → Type 0
BehindLabels defs fault =
    AtCount defs fault
    ⊎ (HasFewRules defs × (AtOwnName defs fault
    ⊎ (HasOwnNames defs × (AtUnknown defs fault
    ⊎ (AreAllKnown defs × AtCycle defs fault)))))

-- a fault behind the count of rules
abbrev BehindCount : List Def → GrammarFault → Type 0
BehindCount defs fault =
    AtOwnName defs fault
    ⊎ (HasOwnNames defs × (AtUnknown defs fault ⊎ (AreAllKnown defs × AtCycle defs fault)))

-- a fault behind the names that rules are given for
abbrev BehindNames : List Def → GrammarFault → Type 0
BehindNames defs fault = AtUnknown defs fault ⊎ (AreAllKnown defs × AtCycle defs fault)

-- definitions have one fault behind the names
one_behind_names : (defs : List Def) (a b : GrammarFault) → BehindNames defs a → BehindNames defs b → a ≡ b
one_behind_names defs a b (inl unknown) (inl unknown') = one_at_unknown defs a b unknown unknown'
one_behind_names defs a b (inl unknown) (inr (known, cycle)) = absurd (known_pass defs a known unknown)
one_behind_names defs a b (inr (known, cycle)) (inl unknown) = absurd (known_pass defs b known unknown)
one_behind_names defs a b (inr (known, (name, cyclic, is))) (inr (known', (other, cyclic', is'))) =
    is ∙ ap Cyclic (one_cyclic (expansion_of defs) name other cyclic cyclic') ∙ sym is'

-- and one behind the count of rules
one_behind_count : (defs : List Def) (a b : GrammarFault) → BehindCount defs a → BehindCount defs b → a ≡ b
one_behind_count defs a b (inl names) (inl names') = one_at_own_name defs a b names names'
one_behind_count defs a b (inl names) (inr (own, more)) = absurd (names_pass defs a own names)
one_behind_count defs a b (inr (own, more)) (inl names) = absurd (names_pass defs b own names)
one_behind_count defs a b (inr (own, more)) (inr (own', more')) = one_behind_names defs a b more more'

-- and one behind the labels
one_behind_labels : (defs : List Def) (a b : GrammarFault) → BehindLabels defs a → BehindLabels defs b → a ≡ b
one_behind_labels defs a b (inl (many, is)) (inl (many', is')) = is ∙ sym is'
one_behind_labels defs a b (inl (many, is)) (inr (few, more)) = absurd (omega (arith, many, few))
one_behind_labels defs a b (inr (few, more)) (inl (many, is)) = absurd (omega (arith, many, few))
one_behind_labels defs a b (inr (few, more)) (inr (few', more')) = one_behind_count defs a b more more'

-- definitions are unfit for one reason
pub one_unfitness : OneUnfitness
one_unfitness defs a b (inl labels) (inl labels') = one_at_labels defs a b labels labels'
one_unfitness defs a b (inl labels) (inr (all, more)) = absurd (labels_pass defs a all labels)
one_unfitness defs a b (inr (all, more)) (inl labels) = absurd (labels_pass defs b all labels)
one_unfitness defs a b (inr (all, more)) (inr (all', more')) = one_behind_labels defs a b more more'
