-- Where all categories are known, the entry is a symbol of the grammar.
use Rattle.std.proofs.Common.{◌≡◌, ℕ, ◌⊎◌, List, [], ◌∷◌, ◌++◌, map, true, false, Some, None, Option, Contains, refl, sym, ap, ◌∙◌, inl, inr}
use Rattle.std.specs.List.{flat_map, AllByRecursion}
use Rattle.std.specs.Option.{option_map, option_or, IfSome}
use Rattle.std.proofs.lemmas.Bool.{both_ways, false≢true}
use Rattle.std.proofs.lemmas.Grind.{flat_map-append}
use Rattle.std.proofs.lemmas.List.Elements.{recursion_from_All}
use Rattle.spec_lbnf.specs.declared.definition.RawRule.{RawRule}
use Rattle.spec_lbnf.specs.declared.definition.Def.{Def}
use Rattle.spec_lbnf.specs.declared.definition.Def.TheVariants.{Rule as RuleDef, Internal, Terminator, Separator, Coercions, Entry, Token, LineComment, BlockComment}
use Rattle.spec_grammar.specs.Grammars.{IsSymbolOf}
use Rattle.spec_lbnf.specs.Expansion.{category_text, rules_of, rules_of_def, internal_category, named_categories, met_categories, item_categories, kind_names, is_among, names_in, tokens_of, tables_of, named_symbol, expansion_of, first_entry, first_category}
use Rattle.spec_lbnf.specs.Checks.{IsKnown, NamesKnown, own_categories}
use Rattle.spec_lbnf.specs.Laws.{OwnEntry}
use Rattle.spec_lbnf.proofs.NameLemmas.{there_found}
use Rattle.spec_lbnf.proofs.TokenNameLemmas.{head_among, among_left, among_right, among_cases, kind_named}
use Rattle.spec_lbnf.proofs.SymbolLemmas.{category_names, named_own}

-- the text of a rule's category
abbrev pub own_text : RawRule → List ℕ
own_text rule = category_text rule.cat

-- the category of a rule is one that the rules meet
rules_meet : (kinds : List (List ℕ)) (rules : List RawRule) (name : List ℕ) → is_among (map own_text rules) name ≡ true
    → is_among (flat_map (met_categories kinds) rules) name ≡ true
rules_meet kinds [] name there = there
rules_meet kinds (rule ∷ rules) name there = elim (among_cases (own_text rule ∷ []) (map own_text rules) name there) [
  | inl own ↦ among_left (own_text rule ∷ []) _ name own
  | inr more ↦ among_right (met_categories kinds rule) (flat_map (met_categories kinds) rules) name (rules_meet kinds rules name more)
]

-- a category that rules are given for is met by a rule, or is an internal rule's
known_met : (kinds : List (List ℕ)) (defs : List Def) (name : List ℕ) → is_among (flat_map own_categories defs) name ≡ true
    → (is_among (flat_map (met_categories kinds) (rules_of defs)) name ≡ true) ⊎ (is_among (flat_map internal_category defs) name ≡ true)
known_met kinds [] name there = absurd (false≢true there)
known_met kinds (def ∷ defs) name there =
    let rules : List RawRule = rules_of_def def in
    let met : RawRule → List (List ℕ) = met_categories kinds in
    let whole = ap (λ names. is_among names name) (flat_map-append met rules (rules_of defs)) in
    elim (among_cases (own_categories def) (flat_map own_categories defs) name there) [
      | inl own ↦ elim (among_cases (internal_category def) (map own_text rules) name own) [
        | inl internal ↦ inr (among_left (internal_category def) (flat_map internal_category defs) name internal)
        | inr given ↦ inl (whole ∙ among_left (flat_map met rules) (flat_map met (rules_of defs)) name (rules_meet kinds rules name given))
      ]
      | inr more ↦ elim (known_met kinds defs name more) [
        | inl more_met ↦ inl (whole ∙ among_right (flat_map met rules) (flat_map met (rules_of defs)) name more_met)
        | inr internal ↦ inr (among_right (internal_category def) (flat_map internal_category defs) name internal)
      ]
    ]

-- so it is listed
own_listed : (defs : List Def) (name : List ℕ) → is_among (flat_map own_categories defs) name ≡ true → is_among (category_names defs) name ≡ true
own_listed defs name there = elim (known_met (kind_names defs) defs name there) [
  | inl met ↦ among_left (flat_map (met_categories (kind_names defs)) (rules_of defs)) (flat_map internal_category defs) name met
  | inr internal ↦ among_right (flat_map (met_categories (kind_names defs)) (rules_of defs)) (flat_map internal_category defs) name internal
]

-- a known name that is named, and is no token's, is listed
known_listed : (defs : List Def) (name : List ℕ) → IsKnown defs name → is_among (flat_map named_categories defs) name ≡ true
    → is_among (names_in (tokens_of defs)) name ≡ false → is_among (category_names defs) name ≡ true
known_listed defs name known named absent = elim (among_cases (flat_map own_categories defs) (kind_names defs) name (there_found _ name known)) [
  | inl own ↦ own_listed defs name own
  | inr kind ↦ absurd (both_ways (is_among (names_in (tokens_of defs)) name) absent (kind_named defs name named kind))
]

-- the first entry point is known, where all definitions name known names alone
entry_known : (all : List Def) (defs : List Def) → AllByRecursion (NamesKnown all) defs → IfSome (first_entry defs) (IsKnown all)
entry_known all [] known = tt
entry_known all (RuleDef rule ∷ defs) known = entry_known all defs known.1
entry_known all (Internal rule ∷ defs) known = entry_known all defs known.1
entry_known all (Terminator nonempty cat word ∷ defs) known = entry_known all defs known.1
entry_known all (Separator nonempty cat word ∷ defs) known = entry_known all defs known.1
entry_known all (Coercions name levels ∷ defs) known = entry_known all defs known.1
entry_known all (Token name expr ∷ defs) known = entry_known all defs known.1
entry_known all (LineComment opening ∷ defs) known = entry_known all defs known.1
entry_known all (BlockComment opening closing ∷ defs) known = entry_known all defs known.1
entry_known all (Entry [] ∷ defs) known = entry_known all defs known.1
entry_known all (Entry (cat ∷ cats) ∷ defs) known = (recursion_from_All (IsKnown all) (map category_text (cat ∷ cats)) known.0).0

-- and it is named
abbrev IsNamed : List Def → List ℕ → Type 0
IsNamed defs name = is_among (flat_map named_categories defs) name ≡ true

named_behind : (def : Def) (defs : List Def) (entry : Option (List ℕ)) → IfSome entry (IsNamed defs) → IfSome entry (IsNamed (def ∷ defs))
named_behind def defs None named = tt
named_behind def defs (Some name) named = among_right (named_categories def) (flat_map named_categories defs) name named

entry_named : (defs : List Def) → IfSome (first_entry defs) (IsNamed defs)
entry_named [] = tt
entry_named (RuleDef rule ∷ defs) = named_behind (RuleDef rule) defs (first_entry defs) (entry_named defs)
entry_named (Internal rule ∷ defs) = named_behind (Internal rule) defs (first_entry defs) (entry_named defs)
entry_named (Terminator nonempty cat word ∷ defs) = named_behind (Terminator nonempty cat word) defs (first_entry defs) (entry_named defs)
entry_named (Separator nonempty cat word ∷ defs) = named_behind (Separator nonempty cat word) defs (first_entry defs) (entry_named defs)
entry_named (Coercions name levels ∷ defs) = named_behind (Coercions name levels) defs (first_entry defs) (entry_named defs)
entry_named (Token name expr ∷ defs) = named_behind (Token name expr) defs (first_entry defs) (entry_named defs)
entry_named (LineComment opening ∷ defs) = named_behind (LineComment opening) defs (first_entry defs) (entry_named defs)
entry_named (BlockComment opening closing ∷ defs) = named_behind (BlockComment opening closing) defs (first_entry defs) (entry_named defs)
entry_named (Entry [] ∷ defs) = named_behind (Entry []) defs (first_entry defs) (entry_named defs)
entry_named (Entry (cat ∷ cats) ∷ defs) =
    among_left (map category_text (cat ∷ cats)) (flat_map named_categories defs) (category_text cat) (head_among (category_text cat) (map category_text cats))

-- the category of the first rule is listed
first_listed : (defs : List Def) (rules : List RawRule) → rules_of defs ≡ rules
    → IfSome (first_category rules) (λ name. is_among (category_names defs) name ≡ true)
first_listed defs [] is = tt
first_listed defs (rule ∷ rules) is =
    let met : RawRule → List (List ℕ) = met_categories (kind_names defs) in
    among_left (flat_map met (rules_of defs)) (flat_map internal_category defs) (own_text rule)
    (ap (λ given. is_among (flat_map met given) (own_text rule)) is ∙ head_among (own_text rule) _)

-- the entry is a symbol of the grammar
pub own_entry : OwnEntry
own_entry defs known = by (first_entry defs) (entry_known defs defs (recursion_from_All (NamesKnown defs) defs known)) (entry_named defs)
    (first_category (rules_of defs)) (first_listed defs (rules_of defs) refl)
  where
    by : (entry : Option (List ℕ)) → IfSome entry (IsKnown defs) → IfSome entry (IsNamed defs) → (first : Option (List ℕ))
        → IfSome first (λ name. is_among (category_names defs) name ≡ true)
        → IfSome (option_map (named_symbol (tables_of defs)) (option_or entry first)) (IsSymbolOf (expansion_of defs))
    by (Some name) is named first listed = named_own defs name (known_listed defs name is named)
    by None is named (Some name) listed = named_own defs name (λ absent. listed)
    by None is named None listed = tt
