-- What the functions of src/laws.rt say of the binary form.
use Rattle.std.specs.Prelude.{◌≡◌, ℕ, ◌+◌, ◌<◌, ◌⊎◌, ◌↔◌, List, Option, Some, slice_get, Contains}
use Rattle.spec_grammar.specs.declared.rule.Symbol.TheVariants.{Kind}
use Rattle.spec_grammar.specs.declared.rule.Rule.{Rule}
use Rattle.spec_grammar.specs.Grammars.{Grammar, symbol_count}
use Rattle.binary_form.specs.Symbols.{BinarySymbol, plain, BinaryDerives, IsBinarySymbolOf}
use Rattle.binary_form.specs.Symbols.{symbol_number}
use Rattle.binary_form.specs.UnitSteps.{Reaches, IsInProduct}
use Rattle.cell_sets.specs.Cells.{Meet, IsCommon}
use Rattle.binary_form.specs.BinaryForm.{IsProductNumber, HasProduct}
use Rattle.binary_form.specs.BinaryForm.{AreLeftPartners, AreLeftSymbols}

-- the span is one token, and its kind reaches the symbol
abbrev pub IsOfToken : List Rule → List (Option ℕ) → BinarySymbol → ℕ → ℕ → Type 0
IsOfToken rules kinds s i j =
    (k : ℕ) × (slice_get kinds i ≡ Some (Some k)) × (j ≡ i + 1) × Reaches rules (plain (Kind k)) s

-- the span is cut in two, and the product of what derives its parts has the symbol
abbrev pub IsOfCut : List Rule → List (Option ℕ) → BinarySymbol → ℕ → ℕ → Type 0
IsOfCut rules kinds s i j =
    (k : ℕ) × (i < k) × (k < j)
    × IsInProduct rules (λ a. BinaryDerives rules kinds a i k)
    (λ a. BinaryDerives rules kinds a k j) s

-- a symbol derives a span that is not empty exactly where the span is a token that gives it, or has
-- a cut that does
abbrev pub ClosureIsDerivation : Type 0
ClosureIsDerivation =
    (rules : List Rule) (kinds : List (Option ℕ)) (s : BinarySymbol) (i j : ℕ) → i < j
    → BinaryDerives rules kinds s i j ↔ (IsOfToken rules kinds s i j ⊎ IsOfCut rules kinds s i j)

-- symbols of one number are the same
abbrev pub NumbersDiffer : Type 0
NumbersDiffer =
    (g : Grammar) (a b : BinarySymbol) → IsBinarySymbolOf g a → IsBinarySymbolOf g b
    → symbol_number g a ≡ symbol_number g b → a ≡ b

-- the numbers of the symbols are below their count
abbrev pub NumbersAreBelow : Type 0
NumbersAreBelow =
    (g : Grammar) (a : BinarySymbol) → IsBinarySymbolOf g a → symbol_number g a < symbol_count g

-- each number below the count is that of a symbol
abbrev pub NumbersAreUsed : Type 0
NumbersAreUsed =
    (g : Grammar) (n : ℕ) → n < symbol_count g
    → (a : BinarySymbol) × IsBinarySymbolOf g a × (symbol_number g a ≡ n)

-- the symbol is the grammar's, and the set has its number
abbrev pub HasSymbol : Grammar → List ℕ → BinarySymbol → Type 0
HasSymbol g numbers a = IsBinarySymbolOf g a × Contains numbers (symbol_number g a)

-- the product of numbers is the product of the symbols that they number
abbrev pub ProductsAgree : Type 0
ProductsAgree =
    (g : Grammar) (left right : List ℕ) (a : BinarySymbol) → IsBinarySymbolOf g a
    → IsProductNumber g left right (symbol_number g a)
    ↔ IsInProduct g.rules (HasSymbol g left) (HasSymbol g right) a

-- a product has a symbol exactly where its left cell has a left partner of its right one
abbrev pub PartnersMeet : Type 0
PartnersMeet =
    (g : Grammar) (left right partners : List ℕ) → AreLeftPartners g right partners
    → HasProduct g left right ↔ Meet left partners

-- a product is that of the left partners alone which its left cell has
abbrev pub PartnersAreEnough : Type 0
PartnersAreEnough =
    (g : Grammar) (left right partners common : List ℕ) → AreLeftPartners g right partners
    → IsCommon left partners common
    → (n : ℕ) → IsProductNumber g left right n ↔ IsProductNumber g common right n

-- where a product has a symbol, its left cell has one that is on the left in some rule
abbrev pub ProductsHaveLeftSymbols : Type 0
ProductsHaveLeftSymbols =
    (g : Grammar) (left right lefts : List ℕ) → AreLeftSymbols g lefts
    → HasProduct g left right → Meet left lefts
