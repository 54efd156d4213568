-- What a binary form keeps of its grammar. Serves the proofs alone.
use Rattle.std.specs.Prelude.{◌≡◌, ℕ, ◌≤◌, List, Some, Bool, length, slice_get}
use Rattle.spec_grammar.specs.Grammars.{Grammar, HasOwnSymbols, symbol_count}
use Rattle.spec_text.specs.declared.limits.TheConstants.{MAX_SYMBOLS}
use Rattle.binary_form.specs.BinaryForm.{IsClosureOf}
use Rattle.binary_form.specs.FirstSuffixes.{AreFirstSuffixes}
use Rattle.binary_form.specs.NullableNumbers.{AreNullableNumbers}
use Rattle.binary_form.specs.LongerSuffixes.{AreLongerSuffixes}

-- so many numbers, from 0 on, have cells, which are their closures
pub record AreClosuresUpTo {C : Type 0} (symbols : C → List ℕ) (g : Grammar) (many : ℕ)
    (cells : List C) : Type 0 where
  pub count : length cells ≡ many
  pub each : (n : ℕ) (cell : C) → slice_get cells n ≡ Some cell → IsClosureOf g n (symbols cell)

-- each number has a cell, which is its closure
abbrev pub AreClosures : {C : Type 0} → (C → List ℕ) → Grammar → List C → Type 0
AreClosures symbols g cells = AreClosuresUpTo symbols g (symbol_count g) cells

-- the grammar's rules have its own symbols, and the parts are those of its binary form: where
-- suffixes are numbered from, flags of what is nullable, closures, links to longer suffixes
pub record AreBinaryParts {C : Type 0} (symbols : C → List ℕ) (most : ℕ) (g : Grammar)
    (firsts : List ℕ) (flags : List Bool) (cells : List C) (links : List (List ℕ)) : Type 0 where
  pub own_symbols : HasOwnSymbols g
  pub few : symbol_count g ≤ MAX_SYMBOLS
  pub room : symbol_count g ≤ most
  pub firsts_are : AreFirstSuffixes g firsts
  pub nullable : AreNullableNumbers g flags
  pub closures : AreClosures symbols g cells
  pub longer_suffixes : AreLongerSuffixes g links

-- the counts are those of the grammar's categories and kinds
abbrev pub AreCounts : Grammar → ℕ → ℕ → Type 0
AreCounts g categories kinds = (categories ≡ length g.categories) × (kinds ≡ length g.lexicon.kinds)
