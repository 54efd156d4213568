-- What a number tells of its symbol, over a span that is not empty and over one that is.
use Rattle.std.proofs.Common.{◌≡◌, ◌↔◌, ℕ, ◌≤◌, List, [], ◌∷◌, Option, Some, Bool, Contains, length, slice_get, drop, zero, suc, refl, sym, ◌∙◌, subst, arith}
use Rattle.std.specs.Prelude.{IsTrue, nat_eq}
use Rattle.std.proofs.lemmas.Bool.{eqb-true}
use Rattle.std.proofs.lemmas.Bool.Decides.{nat_tests}
use Rattle.spec_grammar.specs.declared.rule.Symbol.{Symbol}
use Rattle.spec_grammar.specs.declared.rule.Rule.{Rule}
use Rattle.spec_grammar.specs.Derivation.{DerivesAll}
use Rattle.spec_grammar.specs.Grammars.{Grammar, symbol_count}
use Rattle.spec_grammar.proofs.DerivationLemmas.{nullable_derives, none_derive}
use Rattle.binary_form.specs.Symbols.{BinarySymbol, plain, suffix, BinaryDerives}
use Rattle.binary_form.specs.BinaryForm.{IsNumberOf, IsNullableNumber}
use Rattle.binary_form.proofs.NumberLemmas.{numbers_differ, count_within}
use Rattle.binary_form.proofs.EmptySpanLemmas.{items_nullable, nullable_items}
use Rattle.valiant.specs.Charts.{IsEntryOf}

-- behind the last item there is none
pub drop_all : (items : List Symbol) (p : ℕ) → length items ≤ p → drop p items ≡ []
drop_all [] zero past = refl
drop_all [] (suc p) past = refl
drop_all (item ∷ items) zero past = absurd (omega (arith, past))
drop_all (item ∷ items) (suc p) past = drop_all items p (omega (arith, past))

module _ (g : Grammar) (kinds : List (Option ℕ)) where
  -- it is so of the symbol of a number exactly where it is so of this one, whose number it is
  pub of_number :
      (D : BinarySymbol → Type 0) (a : BinarySymbol) (n : ℕ) → IsNumberOf g a n
      → ((b : BinarySymbol) × IsNumberOf g b n × D b) ↔ D a
  of_number D a n is = (
    (λ x. subst D (numbers_differ g x.0 a x.1.0 is.0 (x.1.1 ∙ sym is.1)) x.2),
    (λ d. (a, is, d)),
  )

  -- a symbol derives each empty span of the text, or none
  pub empty_anywhere :
      (a : BinarySymbol) (i : ℕ)
      → BinaryDerives g.rules [] a 0 0 ↔ BinaryDerives g.rules kinds a i i
  empty_anywhere (plain s) i = nullable_derives g.rules kinds s i
  empty_anywhere (suffix r p) i = (
    (λ d. (d.0, d.1, nullable_items g.rules kinds (drop p (d.0).items) i d.2)),
    (λ d. (d.0, d.1, items_nullable g.rules kinds (drop p (d.0).items) i d.2)),
  )

  module _ (told : Bool) (a : BinarySymbol) (n i j : ℕ) (is : IsNumberOf g a n) where
    -- the entry of a span tells by its number what derives the span
    pub derived_by_entry :
        (numbers : List ℕ) → IsEntryOf g kinds i j numbers → IsTrue told ↔ Contains numbers n
        → IsTrue told ↔ BinaryDerives g.rules kinds a i j
    derived_by_entry numbers entry has =
        let D : BinarySymbol → Type 0 = λ b. BinaryDerives g.rules kinds b i j in
        let of = of_number D a n is in
        let inside = entry n in
        ((λ yes. of.0 (inside.0 (has.0 yes))), (λ d. has.1 (inside.1 (of.1 d))))

    -- and that it is nullable tells it of an empty span
    pub derived_by_nullable :
        i ≤ j → j ≤ i → IsTrue told ↔ IsNullableNumber g n
        → IsTrue told ↔ BinaryDerives g.rules kinds a i j
    derived_by_nullable order back nullable =
        let same : i ≡ j = omega (arith, order, back) in
        let D : BinarySymbol → Type 0 = λ b. BinaryDerives g.rules [] b 0 0 in
        let of = of_number D a n is in
        let there = empty_anywhere a i in
        let here : IsTrue told ↔ BinaryDerives g.rules kinds a i i =
        ((λ yes. there.0 (of.0 (nullable.0 yes))), (λ d. nullable.1 (of.1 (there.1 d)))) in
        let P : ℕ → Type 0 = λ k. IsTrue told ↔ BinaryDerives g.rules kinds a i k in
        subst P same here

  module _ (told : Bool) (r p i j : ℕ) (rule : Rule) (is : slice_get g.rules r ≡ Some rule) where
    -- a suffix derives what its items do
    pub derived_by_suffix :
        IsTrue told ↔ BinaryDerives g.rules kinds (suffix r p) i j
        → IsTrue told ↔ DerivesAll g.rules kinds (drop p rule.items) i j
    derived_by_suffix tells = (
      (λ yes.
          let d = tells.0 yes in
          let same : d.0 ≡ rule = cc in
          let P : Rule → Type 0 = λ x. DerivesAll g.rules kinds (drop p x.items) i j in
          subst P same d.2),
      (λ d. tells.1 (rule, is, d)),
    )

    -- no items derive the empty spans alone
    pub derived_by_none :
        length rule.items ≤ p → IsTrue told ↔ (i ≡ j)
        → IsTrue told ↔ DerivesAll g.rules kinds (drop p rule.items) i j
    derived_by_none past tells =
        let none : drop p rule.items ≡ [] = drop_all rule.items p past in
        let empty = none_derive g.rules kinds i j in
        let P : List Symbol → Type 0 = λ items. IsTrue told ↔ DerivesAll g.rules kinds items i j in
        let here : P [] = ((λ yes. empty.1 (sym (tells.0 yes))), (λ d. tells.1 (sym (empty.0 d)))) in
        subst P (sym none) here

-- a rule has no more items than its grammar has symbols
pub items_within :
    (g : Grammar) (r : ℕ) (rule : Rule)
    → slice_get g.rules r ≡ Some rule → length rule.items ≤ symbol_count g
items_within g r rule is = omega (arith, count_within g.rules r rule is)

-- the test of two numbers tells whether they are the same
pub same_tells : (i j : ℕ) → IsTrue (nat_eq i j) ↔ (i ≡ j)
same_tells i j = ((λ yes. eqb-true i j yes), (λ same. rw same grind (arith, nat_tests)))
