-- The laws of charts.
use Rattle.std.proofs.Common.{ℕ, ◌<◌, subst}
use Rattle.spec_grammar.specs.Grammars.{symbol_count}
use Rattle.binary_form.proofs.NumberLemmas.{numbers_below}
use Rattle.valiant.specs.Laws.{EntriesTellDerivation, EntriesAreOfSymbols, ChartsAgree}
use Rattle.valiant.proofs.CutLemmas.{has_derived, derived_has}

-- a symbol's number is in the entry of a span exactly where the symbol derives the span
pub entries_tell_derivation : EntriesTellDerivation
entries_tell_derivation g kinds i j numbers a is symbol = (
  (λ has. has_derived g kinds i j numbers is a (symbol, has)),
  (λ derives. (derived_has g kinds i j numbers is a symbol derives).1),
)

-- an entry has numbers of symbols alone
pub entries_are_of_symbols : EntriesAreOfSymbols
entries_are_of_symbols g kinds i j n numbers is has =
    let x = (is n).0 has in
    let Below : ℕ → Type 0 = λ m. m < symbol_count g in
    subst Below x.1.1 (numbers_below g x.0 x.1.0)

-- charts that stand for the same kinds have the same numbers in each entry
pub charts_agree : ChartsAgree
charts_agree g kinds one other is_one is_other i j n order within =
    let here = is_one.exact i j order within n in
    let there = is_other.exact i j order within n in
    ((λ has. there.1 (here.0 has)), (λ has. here.1 (there.0 has)))
