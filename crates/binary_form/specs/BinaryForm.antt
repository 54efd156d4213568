-- What a caller sees of the binary form of a grammar.
use Rattle.std.specs.Prelude.{◌≡◌, ℕ, suc, ◌<◌, ◌≤◌, ◌↔◌, List, [], Option, Some, length}
use Rattle.std.specs.Prelude.{Contains}
use Rattle.std.specs.Prelude.{Result, Ok, Err}
use Rattle.spec_grammar.specs.declared.rule.Symbol.{Symbol}
use Rattle.spec_grammar.specs.declared.rule.Symbol.TheVariants.{Kind}
use Rattle.spec_grammar.specs.Grammars.{Grammar, symbol_count}
use Rattle.cell_sets.specs.Cells.{Adds}
use Rattle.spec_text.specs.declared.limits.TheConstants.{MAX_SYMBOLS}
use Rattle.binary_form.specs.declared.fault.BinaryFault.{BinaryFault}
use Rattle.binary_form.specs.declared.fault.BinaryFault.TheVariants.{Memory, TooManySymbols}
use Rattle.binary_form.specs.Symbols.{BinarySymbol, plain, suffix, BinaryDerives, IsBinarySymbolOf}
use Rattle.binary_form.specs.Symbols.{symbol_number}
use Rattle.binary_form.specs.UnitSteps.{HasItem, Reaches}

-- the number is that of this symbol, which is one of the grammar's
abbrev pub IsNumberOf : Grammar → BinarySymbol → ℕ → Type 0
IsNumberOf g a n = IsBinarySymbolOf g a × (symbol_number g a ≡ n)

-- the number is that of a symbol which this one reaches by unit steps
abbrev pub IsReachedNumber : Grammar → BinarySymbol → ℕ → Type 0
IsReachedNumber g a n = (b : BinarySymbol) × IsNumberOf g b n × Reaches g.rules a b

-- the symbol of this number derives the empty span
abbrev pub IsNullableNumber : Grammar → ℕ → Type 0
IsNullableNumber g n = (a : BinarySymbol) × IsNumberOf g a n × BinaryDerives g.rules [] a 0 0

-- the cell has just the numbers of what the symbol of this number reaches
abbrev pub IsClosureOf : Grammar → ℕ → List ℕ → Type 0
IsClosureOf g n cell =
    (m : ℕ) → Contains cell m ↔ ((a : BinarySymbol) × IsNumberOf g a n × IsReachedNumber g a m)

-- the cell has just the numbers of what a token of this kind reaches; a stray token reaches nothing
abbrev pub IsTokenCell : Grammar → Option ℕ → List ℕ → Type 0
IsTokenCell g kind cell =
    (m : ℕ) → Contains cell m
    ↔ ((k : ℕ) × (kind ≡ Some k) × (k < length g.lexicon.kinds)
    × IsReachedNumber g (plain (Kind k)) m)

-- two numbers make a third: one is that of item p of a rule, the other that of the suffix behind
-- it, and the suffix from p on reaches the third
pub record MakesNumber (g : Grammar) (left right n : ℕ) : Type 0 where
  pub r : ℕ
  pub p : ℕ
  pub item : Symbol
  pub behind : List Symbol
  pub has : HasItem g.rules r p item behind
  pub is_left : IsNumberOf g (plain item) left
  pub is_right : IsNumberOf g (suffix r (suc p)) right
  pub reaches : IsReachedNumber g (suffix r p) n

-- the number is in the product of two cells: a number of one and a number of the other make it
abbrev pub IsProductNumber : Grammar → List ℕ → List ℕ → ℕ → Type 0
IsProductNumber g left right n =
    (l : ℕ) × (m : ℕ) × Contains left l × Contains right m × MakesNumber g l m n

-- the cell has just the numbers of the product of the two
abbrev pub IsProductOf : Grammar → List ℕ → List ℕ → List ℕ → Type 0
IsProductOf g left right cell = (n : ℕ) → Contains cell n ↔ IsProductNumber g left right n

-- the new cell has the numbers of the old one, and those of the product of the two
abbrev pub AddsProductOf : Grammar → List ℕ → List ℕ → List ℕ → List ℕ → Type 0
AddsProductOf g left right old new = Adds (IsProductNumber g left right) old new

-- some number is in the product of the two cells
abbrev pub HasProduct : Grammar → List ℕ → List ℕ → Type 0
HasProduct g left right = (n : ℕ) × IsProductNumber g left right n

-- a rule of the binary form has the one number on its left and the other on its right: one is that of
-- an item of a rule of the grammar, the other that of the suffix behind it
pub record IsLeftPartner (g : Grammar) (left right : ℕ) : Type 0 where
  pub r : ℕ
  pub p : ℕ
  pub item : Symbol
  pub behind : List Symbol
  pub has : HasItem g.rules r p item behind
  pub is_left : IsNumberOf g (plain item) left
  pub is_right : IsNumberOf g (suffix r (suc p)) right

-- the number is left of a number of the cell in a rule of the binary form
abbrev pub IsPartnerOfCell : Grammar → List ℕ → ℕ → Type 0
IsPartnerOfCell g right n = (m : ℕ) × Contains right m × IsLeftPartner g n m

-- the partners are just the numbers that are left of a number of the cell in a rule
abbrev pub AreLeftPartners : Grammar → List ℕ → List ℕ → Type 0
AreLeftPartners g right partners = (n : ℕ) → Contains partners n ↔ IsPartnerOfCell g right n

-- the cell has just the numbers that are on the left in some rule of the binary form
abbrev pub AreLeftSymbols : Grammar → List ℕ → Type 0
AreLeftSymbols g cell = (n : ℕ) → Contains cell n ↔ ((m : ℕ) × IsLeftPartner g n m)

-- the answer on the grammar is its binary form, which is seen as the grammar, or that it has too
-- many symbols; want of memory comes at no grammar of too many
abbrev pub MakesBinary : Grammar → Result Grammar BinaryFault → Type 0
MakesBinary g (Ok binary) = (symbol_count g ≤ MAX_SYMBOLS) × (binary ≡ g)
MakesBinary g (Err Memory) = symbol_count g ≤ MAX_SYMBOLS
MakesBinary g (Err (TooManySymbols count)) = (count ≡ symbol_count g) × (MAX_SYMBOLS < count)
