-- What the functions of src/laws.rt say of derivation.
use Rattle.std.specs.Prelude.{◌≡◌, ℕ, ◌+◌, ◌<◌, ◌≤◌, ◌↔◌, List, [], ◌∷◌, Option, Some, length}
use Rattle.std.specs.Prelude.{slice_get}
use Rattle.spec_grammar.specs.declared.rule.Symbol.{Symbol}
use Rattle.spec_grammar.specs.declared.rule.Symbol.TheVariants.{Category, Kind}
use Rattle.spec_grammar.specs.declared.rule.Rule.{Rule}
use Rattle.spec_grammar.specs.Derivation.{Derives, DerivesAll, IsNullable}

-- a symbol is nullable exactly where it derives the empty span at a place of a text, whichever they
-- are
abbrev pub NullableDerivesEverywhere : Type 0
NullableDerivesEverywhere =
    (rules : List Rule) (kinds : List (Option ℕ)) (s : Symbol) (i : ℕ)
    → IsNullable rules s ↔ Derives rules kinds s i i

-- a kind derives a span exactly where the span is one token of that kind
abbrev pub KindDerivesItsToken : Type 0
KindDerivesItsToken =
    (rules : List Rule) (kinds : List (Option ℕ)) (k i j : ℕ)
    → Derives rules kinds (Kind k) i j ↔ (slice_get kinds i ≡ Some (Some k)) × (j ≡ i + 1)

-- the items of some rule of the category derive the span
abbrev pub DerivesByRule : List Rule → List (Option ℕ) → ℕ → ℕ → ℕ → Type 0
DerivesByRule rules kinds c i j =
    (r : ℕ) × (rule : Rule) × (slice_get rules r ≡ Some rule) × (rule.category ≡ c)
    × DerivesAll rules kinds rule.items i j

-- a category derives a span exactly where the items of one of its rules do
abbrev pub CategoryDerivesByItsRules : Type 0
CategoryDerivesByItsRules =
    (rules : List Rule) (kinds : List (Option ℕ)) (c i j : ℕ)
    → Derives rules kinds (Category c) i j ↔ DerivesByRule rules kinds c i j

-- an empty list of items derives the empty spans, and no others
abbrev pub EmptyItemsDeriveEmptySpan : Type 0
EmptyItemsDeriveEmptySpan =
    (rules : List Rule) (kinds : List (Option ℕ)) (i j : ℕ) → DerivesAll rules kinds [] i j ↔ j ≡ i

-- the symbol derives a front part of the span, and the items the rest
abbrev pub DeriveInTurn :
    List Rule → List (Option ℕ) → Symbol → List Symbol → ℕ → ℕ → Type 0
DeriveInTurn rules kinds s rest i j =
    (k : ℕ) × Derives rules kinds s i k × DerivesAll rules kinds rest k j

-- items derive a span exactly where the first derives a front part of it, and the others the rest
abbrev pub ItemsDeriveInTurn : Type 0
ItemsDeriveInTurn =
    (rules : List Rule) (kinds : List (Option ℕ)) (s : Symbol) (rest : List Symbol) (i j : ℕ)
    → DerivesAll rules kinds (s ∷ rest) i j ↔ DeriveInTurn rules kinds s rest i j

-- the span i..j does not run backwards, and ends within the text if it is not empty
abbrev pub IsSpanWithin : List (Option ℕ) → ℕ → ℕ → Type 0
IsSpanWithin kinds i j = (i ≤ j) × (i < j → j ≤ length kinds)

-- what a symbol derives is a span within the text
abbrev pub SpansLieWithin : Type 0
SpansLieWithin =
    (rules : List Rule) (kinds : List (Option ℕ)) (s : Symbol) (i j : ℕ)
    → Derives rules kinds s i j → IsSpanWithin kinds i j

-- what items derive is a span within the text
abbrev pub ItemsLieWithin : Type 0
ItemsLieWithin =
    (rules : List Rule) (kinds : List (Option ℕ)) (items : List Symbol) (i j : ℕ)
    → DerivesAll rules kinds items i j → IsSpanWithin kinds i j

-- the text has a token at the place, and it is no stray token
abbrev pub HasKindAt : List (Option ℕ) → ℕ → Type 0
HasKindAt kinds place = (k : ℕ) × (slice_get kinds place ≡ Some (Some k))

-- each token of a derived span has a kind
abbrev pub NoStrayIsDerived : Type 0
NoStrayIsDerived =
    (rules : List Rule) (kinds : List (Option ℕ)) (s : Symbol) (i j place : ℕ)
    → Derives rules kinds s i j → i ≤ place → place < j → HasKindAt kinds place
