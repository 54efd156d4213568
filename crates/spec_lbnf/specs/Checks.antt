-- What makes definitions unfit for a grammar, check by check, in the order of the checks.
use Rattle.std.specs.Prelude.{◌≡◌, ℕ, ◌<◌, ◌≤◌, ◌⊎◌, List, [], ◌∷◌, ◌++◌, length, map, flat_map}
use Rattle.std.specs.Prelude.{slice_get, Some, All, Contains, ◌≢◌, take}
use Rattle.spec_text.specs.declared.limits.TheConstants.{MAX_RULES}
use Rattle.spec_grammar.specs.Cycles.{IsCyclic, IsAcyclic}
use Rattle.spec_grammar.specs.declared.rule.Label.{Label}
use Rattle.spec_grammar.specs.declared.rule.Label.TheVariants.{Named, Wild, Nil, Cons, One}
use Rattle.spec_lbnf.specs.declared.definition.CatName.{CatName}
use Rattle.spec_lbnf.specs.declared.definition.RawRule.{RawRule}
use Rattle.spec_lbnf.specs.declared.definition.Def.{Def}
use Rattle.spec_lbnf.specs.declared.definition.Def.TheVariants.{Rule as RuleDef, Internal}
use Rattle.spec_lbnf.specs.declared.definition.Def.TheVariants.{Coercions, Token}
use Rattle.spec_lbnf.specs.declared.fault.GrammarFault.{GrammarFault}
use Rattle.spec_lbnf.specs.declared.fault.GrammarFault.TheVariants.{BadCoercion, BadList}
use Rattle.spec_lbnf.specs.declared.fault.GrammarFault.TheVariants.{TooManyRules, RepeatedToken}
use Rattle.spec_lbnf.specs.declared.fault.GrammarFault.TheVariants.{UnknownCategory, Cyclic}
use Rattle.spec_grammar.specs.Grammars.{Grammar}
use Rattle.spec_lbnf.specs.Expansion.{category_text, rules_of_def, rules_of}
use Rattle.spec_lbnf.specs.Expansion.{categories_in, internal_category, named_categories}
use Rattle.spec_lbnf.specs.Expansion.{token_names, kind_names, expansion_of}

-- this is so of the number, and of no lesser one
pub record IsFirst (IsSo : ℕ → Type 0) (number : ℕ) : Type 0 where
  pub is_so : IsSo number
  pub none_before : (k : ℕ) → k < number → IsSo k → ⊥

-- such an item is at the place of the list
abbrev pub HasAt : {X : Type 0} → (X → Type 0) → List X → ℕ → Type 0
HasAt {X} IsSuch xs place = (x : X) × (slice_get xs place ≡ Some x) × IsSuch x

-- the first such name of the list is this one
abbrev pub IsFirstName : (List ℕ → Type 0) → List (List ℕ) → List ℕ → Type 0
IsFirstName IsSuch names name =
    (place : ℕ) × IsFirst (HasAt IsSuch names) place × (slice_get names place ≡ Some name)

-- the category is a list
abbrev pub IsList : CatName → Type 0
IsList cat = 0 < cat.depth

-- the rule has no label of its own, and not exactly one item that is no word
abbrev pub IsBadWild : RawRule → Type 0
IsBadWild rule = (rule.label ≡ Wild) × (length (categories_in rule.items) ≢ 1)

-- the definition is a bad coercion: such a rule, or coercions of no level
abbrev pub IsBadCoercion : Def → Type 0
IsBadCoercion (RuleDef rule) = IsBadWild rule
IsBadCoercion (Internal rule) = IsBadWild rule
IsBadCoercion (Coercions name levels) = levels ≡ 0
IsBadCoercion other = ⊥

-- two items that are no words, of which the second is a list
abbrev pub AreElementAndList : List CatName → Type 0
AreElementAndList (first ∷ second ∷ []) = IsList second
AreElementAndList other = ⊥

-- one item that is no word, and it is no list
abbrev pub IsOneElement : List CatName → Type 0
IsOneElement (cat ∷ []) = IsList cat → ⊥
IsOneElement other = ⊥

-- the label is at odds with the category and the items that are no words: `[]`, `(:[])` and `(:)`
-- are labels of rules for lists alone, with no, with one and with two such items, the second of two
-- a list; a name is no label of a rule for lists; and such a rule without a label of its own passes
-- on a list
abbrev pub IsBadLabel : Label → CatName → List CatName → Type 0
IsBadLabel Nil cat items = (IsList cat → ⊥) ⊎ (items ≢ [])
IsBadLabel One cat items = (IsList cat → ⊥) ⊎ (length items ≢ 1)
IsBadLabel Cons cat items = (IsList cat → ⊥) ⊎ (AreElementAndList items → ⊥)
IsBadLabel (Named name) cat items = IsList cat
IsBadLabel Wild cat items = IsList cat × IsOneElement items

-- the rule's label is at odds with its category or its items
abbrev pub IsBadListRule : RawRule → Type 0
IsBadListRule rule = IsBadLabel rule.label rule.cat (categories_in rule.items)

-- the definition is a rule, internal or not, whose label is at odds with the rest
abbrev pub IsBadList : Def → Type 0
IsBadList (RuleDef rule) = IsBadListRule rule
IsBadList (Internal rule) = IsBadListRule rule
IsBadList other = ⊥

-- the definition is no bad coercion and no bad list
abbrev pub IsWellLabelled : Def → Type 0
IsWellLabelled def = (IsBadCoercion def → ⊥) × (IsBadList def → ⊥)

-- the definition is not well labelled
abbrev pub IsIllLabelled : Def → Type 0
IsIllLabelled def = IsBadCoercion def ⊎ IsBadList def

-- the definitions give at most 1,024 rules
abbrev pub HasFewRules : List Def → Type 0
HasFewRules defs = length (rules_of defs) ≤ MAX_RULES

-- the categories that the definition gives rules for, in order, internal ones among them
abbrev pub own_categories : Def → List (List ℕ)
own_categories def =
    internal_category def ++ map (λ (rule : RawRule). category_text rule.cat) (rules_of_def def)

-- the names that the definition takes: that of a token, or the categories that it gives rules for
abbrev pub own_names : Def → List (List ℕ)
own_names (Token name expr) = name ∷ []
own_names def = own_categories def

-- the names that the definition of this number may not take: a token definition those of the token
-- definitions before it, and any other those of all token definitions and the predefined ones
abbrev pub taken_names : List Def → ℕ → Def → List (List ℕ)
taken_names defs number (Token name expr) = token_names (take number defs)
taken_names defs number def = kind_names defs

-- the name is one that the definition of this number may not take
abbrev pub IsTaken : List Def → ℕ → Def → List ℕ → Type 0
IsTaken defs number def name = Contains (taken_names defs number def) name

-- the definition of this number may take the name
abbrev pub IsFree : List Def → ℕ → Def → List ℕ → Type 0
IsFree defs number def name = IsTaken defs number def name → ⊥

-- the definition of this number takes no name that it may not take
abbrev pub TakesFree : List Def → ℕ → Type 0
TakesFree defs number =
    (def : Def) → slice_get defs number ≡ Some def → All (IsFree defs number def) (own_names def)

-- no definition repeats a name
abbrev pub HasOwnNames : List Def → Type 0
HasOwnNames defs = (number : ℕ) → TakesFree defs number

-- the definition of this number takes a name that it may not take
abbrev pub RepeatsName : List Def → ℕ → Type 0
RepeatsName defs number =
    (def : Def) × (slice_get defs number ≡ Some def)
    × ((place : ℕ) × HasAt (IsTaken defs number def) (own_names def) place)

-- the first definition that repeats a name repeats this one first
pub record IsFirstRepeated (defs : List Def) (name : List ℕ) : Type 0 where
  pub number : ℕ
  pub first : IsFirst (RepeatsName defs) number
  pub def : Def
  pub is_def : slice_get defs number ≡ Some def
  pub first_name : IsFirstName (IsTaken defs number def) (own_names def) name

-- the names that may be named: categories of rules, internal or not, and names of kinds
abbrev pub known_names : List Def → List (List ℕ)
known_names defs = flat_map own_categories defs ++ kind_names defs

-- the name may be named
abbrev pub IsKnown : List Def → List ℕ → Type 0
IsKnown defs name = Contains (known_names defs) name

-- no rule has the category of this text, and no kind of token the name
abbrev pub IsUnknown : List Def → List ℕ → Type 0
IsUnknown defs name = IsKnown defs name → ⊥

-- each category that the definition names is known
abbrev pub NamesKnown : List Def → Def → Type 0
NamesKnown defs def = All (IsKnown defs) (named_categories def)

-- each definition names known categories alone
abbrev pub AreAllKnown : List Def → Type 0
AreAllKnown defs = All (NamesKnown defs) defs

-- the definition names a category that is not known
abbrev pub NamesUnknown : List Def → Def → Type 0
NamesUnknown defs def = (place : ℕ) × HasAt (IsUnknown defs) (named_categories def) place

-- the first definition that names an unknown category has this number, and names this one first
pub record IsFirstUnknown (defs : List Def) (name : List ℕ) (number : ℕ) : Type 0 where
  pub first : IsFirst (HasAt (NamesUnknown defs) defs) number
  pub def : Def
  pub is_def : slice_get defs number ≡ Some def
  pub first_name : IsFirstName (IsUnknown defs) (named_categories def) name

-- the first cyclic category is the one of this text
abbrev pub IsFirstCyclic : Grammar → List ℕ → Type 0
IsFirstCyclic g name =
    (category : ℕ) × IsFirst (IsCyclic g.rules) category
    × (slice_get g.categories category ≡ Some name)

-- the first definition that is not well labelled is at fault
abbrev pub AtLabels : List Def → GrammarFault → Type 0
AtLabels defs fault =
    (number : ℕ) × IsFirst (HasAt IsIllLabelled defs) number
    × ((HasAt IsBadCoercion defs number × (fault ≡ BadCoercion number))
    ⊎ (HasAt IsBadList defs number × (fault ≡ BadList number)))

-- the number of rules is at fault
abbrev pub AtCount : List Def → GrammarFault → Type 0
AtCount defs fault =
    (MAX_RULES < length (rules_of defs)) × (fault ≡ TooManyRules (length (rules_of defs)))

-- the first name that a definition repeats is at fault
abbrev pub AtOwnName : List Def → GrammarFault → Type 0
AtOwnName defs fault =
    (name : List ℕ) × IsFirstRepeated defs name × (fault ≡ RepeatedToken name)

-- a category that is not known is at fault
abbrev pub AtUnknown : List Def → GrammarFault → Type 0
AtUnknown defs fault =
    (name : List ℕ) × (number : ℕ) × IsFirstUnknown defs name number
    × (fault ≡ UnknownCategory name number)

-- the first cyclic category is at fault
abbrev pub AtCycle : List Def → GrammarFault → Type 0
AtCycle defs fault =
    (name : List ℕ) × IsFirstCyclic (expansion_of defs) name × (fault ≡ Cyclic name)

-- the definitions pass all checks
pub record AreFit (defs : List Def) : Type 0 where
  pub labelled : All IsWellLabelled defs
  pub few : HasFewRules defs
  pub own_names : HasOwnNames defs
  pub known : AreAllKnown defs
  pub acyclic : IsAcyclic (expansion_of defs).rules

-- the first check that the definitions do not pass gives this fault
abbrev pub IsUnfit : List Def → GrammarFault → Type 0
IsUnfit defs fault =
    AtLabels defs fault
    ⊎ (All IsWellLabelled defs × (AtCount defs fault
    ⊎ (HasFewRules defs × (AtOwnName defs fault
    ⊎ (HasOwnNames defs × (AtUnknown defs fault
    ⊎ (AreAllKnown defs × AtCycle defs fault)))))))
