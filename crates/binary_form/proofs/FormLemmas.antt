-- What the parts of a binary form tell of its grammar.
use Rattle.std.proofs.Common.{◌≡◌, ℕ, ◌+◌, ◌<◌, List, Some, length, slice_index, get_or, refl, sym, ap, arith}
use Rattle.std.proofs.lemmas.Option.{slice_get_read, slice_get_within}
use Rattle.spec_grammar.specs.declared.rule.Symbol.TheVariants.{Kind}
use Rattle.spec_grammar.specs.Grammars.{Grammar, symbol_count}
use Rattle.binary_form.specs.Symbols.{BinarySymbol, plain, suffix, IsBinarySymbolOf, symbol_number}
use Rattle.binary_form.specs.BinaryForm.{IsNumberOf, IsClosureOf, IsTokenCell}
use Rattle.binary_form.specs.FirstSuffixes.{AreFirstSuffixes}
use Rattle.binary_form.specs.Forms.{AreClosures}
use Rattle.binary_form.proofs.NumberLemmas.{number_is_one}
use Rattle.binary_form.proofs.CellLemmas.{HasReached, token_cell}

-- the place of an item, counted from the first suffix of its rule, is the suffix's number
pub suffix_numbered :
    (g : Grammar) (firsts : List ℕ) (r p : ℕ)
    → AreFirstSuffixes g firsts → IsBinarySymbolOf g (suffix r p)
    → slice_index firsts r + p ≡ symbol_number g (suffix r p)
suffix_numbered g firsts r p are is =
    ap (λ n. n + p) (are.each r (slice_get_within g.rules r is.0 is.1))

module _ {C : Type 0} (symbols : C → List ℕ) (g : Grammar) (cells : List C)
    (closures : AreClosures symbols g cells) where
  -- the cell at the place of a number is its closure
  pub cell_closure :
      (n : ℕ) (cell : C)
      → n < symbol_count g → cell ≡ get_or cells n cell → IsClosureOf g n (symbols cell)
  cell_closure n cell within is =
      closures.each n cell
      (slice_get_read cells (symbol_count g) n cell (sym closures.count) within is)

  -- the closure of a number has what its symbol reaches
  pub cell_reached :
      (a : BinarySymbol) (n : ℕ) (cell : C)
      → IsNumberOf g a n → IsClosureOf g n (symbols cell) → HasReached g a (symbols cell)
  cell_reached a n cell is closure m = (
    (λ has.
        let x = (closure m).0 has in
        let same : x.0 ≡ a = number_is_one g x.0 a n x.1 is in
        rw same at x.2),
    (λ reached. (closure m).1 (a, is, reached)),
  )

  -- the cell at the place of a kind's number is that of a token of the kind
  pub kind_closure :
      (k : ℕ) (cell : C)
      → k < length g.lexicon.kinds → cell ≡ get_or cells (length g.categories + k) cell
      → IsTokenCell g (Some k) (symbols cell)
  kind_closure k cell known is =
      let n = length g.categories + k in
      let closure = cell_closure n cell (omega arith) is in
      token_cell g k (symbols cell) known
      (cell_reached (plain (Kind k)) n cell (known, refl) closure)
