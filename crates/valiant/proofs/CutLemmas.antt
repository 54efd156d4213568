-- What the cuts of a span give, and that this is what derives it.
use Rattle.std.proofs.Common.{◌≡◌, ℕ, suc, ◌+◌, ◌<◌, ◌⊎◌, List, [], Option, Some, None, length, slice_get, get_or, drop, length-drop, refl, sym, ◌∙◌, ap, subst, inl, inr, arith, Contains}
use Rattle.std.proofs.lemmas.Option.{slice_get-get_or}
use Rattle.spec_grammar.specs.declared.rule.Symbol.{Symbol}
use Rattle.spec_grammar.specs.declared.rule.Symbol.TheVariants.{Kind}
use Rattle.spec_grammar.specs.declared.rule.Rule.{Rule}
use Rattle.spec_grammar.specs.Trees.{Forest, no_trees, trees}
use Rattle.spec_grammar.specs.Derivation.{AreParseTrees}
use Rattle.spec_grammar.specs.Grammars.{Grammar, IsSymbolOf, HasOwnSymbols}
use Rattle.cell_sets.specs.Cells.{IsUnion}
use Rattle.binary_form.specs.Symbols.{BinarySymbol, plain, suffix, BinaryDerives, IsBinarySymbolOf, symbol_number}
use Rattle.number_graph.specs.Graphs.{stay, step}
use Rattle.binary_form.specs.UnitSteps.{UnitStep, whole_side, last_item, passed_item, Reaches, IsInProduct}
use Rattle.binary_form.specs.BinaryForm.{IsNumberOf, IsTokenCell, IsProductNumber}
use Rattle.binary_form.specs.Laws.{HasSymbol}
use Rattle.binary_form.proofs.ItemLemmas.{item_symbol}
use Rattle.binary_form.proofs.NumberLemmas.{number_is_one}
use Rattle.binary_form.proofs.ReachLemmas.{step_symbol}
use Rattle.binary_form.proofs.ProductLemmas.{products_agree}
use Rattle.binary_form.proofs.ClosureLemmas.{closure_is_derivation}
use Rattle.valiant.specs.Charts.{IsEntryOf}
use Rattle.valiant.specs.Filling.{HasSame}

-- a union with nothing has the same numbers
pub same_union :
    (none one other : List ℕ) → none ≡ [] → IsUnion none one other → HasSame one other
same_union none one other empty union n = (
  (λ has. elim ((union n).0 has) [
    | inl kept ↦ let nothing : Contains [] n = rw empty at kept in absurd (omega (arith, nothing.1))
    | inr it ↦ it
  ]),
  (λ has. (union n).1 (inr has)),
)

module _ (g : Grammar) (kinds : List (Option ℕ)) (i j : ℕ) (numbers : List ℕ) (is : IsEntryOf g kinds i j numbers) where
  -- an entry has the symbols that derive its span
  pub has_derived : (a : BinarySymbol) → HasSymbol g numbers a → BinaryDerives g.rules kinds a i j
  has_derived a has =
      let x = (is (symbol_number g a)).0 has.1 in
      let same : x.0 ≡ a = number_is_one g x.0 a (symbol_number g a) x.1 (has.0, refl) in
      rw same at x.2

  -- what derives the span is in its entry
  pub derived_has : (a : BinarySymbol) → IsBinarySymbolOf g a → BinaryDerives g.rules kinds a i j → HasSymbol g numbers a
  derived_has a symbol derives = (symbol, (is (symbol_number g a)).1 (a, (symbol, refl), derives))

-- trees that cover a span that is not empty are those of at least one item
some_items :
    (rules : List Rule) (kinds : List (Option ℕ)) (ts : Forest) (items : List Symbol) (k j : ℕ)
    → AreParseTrees rules kinds ts items k j → k < j → 0 < length items
some_items rules kinds no_trees items k j are order = absurd (omega (arith, are.1))
some_items rules kinds (trees t ts) items k j are order = omega (arith, ap length are.3)

module _ (g : Grammar) (own : HasOwnSymbols g) where
  -- a unit step from a symbol that is no suffix is one from an item
  step_source : (s : Symbol) (a b : BinarySymbol) → a ≡ plain s → UnitStep g.rules a b → IsSymbolOf g s
  step_source s a b is (whole_side rule) = absurd (cc)
  step_source s a b is (last_item {r = r} {p = p} {s = t} {behind = behind} has empty) =
      let same : t ≡ s = cc in
      subst (IsSymbolOf g) same (item_symbol g r p t behind own has)
  step_source s a b is (passed_item has empty) = absurd (cc)

  -- a symbol that reaches another is it, or the other is one of the grammar
  reached_symbol : (a b : BinarySymbol) → Reaches g.rules a b → (a ≡ b) ⊎ IsBinarySymbolOf g b
  reached_symbol a b stay = inl refl
  reached_symbol a c (step {b = b} before last) = inr (step_symbol g b c own last)

  -- what reaches a symbol of the grammar is one, if it is no suffix
  source_symbol :
      (s : Symbol) (b : BinarySymbol)
      → Reaches g.rules (plain s) b → IsBinarySymbolOf g b → IsSymbolOf g s
  source_symbol s b stay is = is
  source_symbol s c (step {b = b} before last) is = elim (reached_symbol (plain s) b before) [
    | inl same ↦ step_source s b c (sym same) last
    | inr within ↦ source_symbol s b before within
  ]

  module _ (kinds : List (Option ℕ)) where
    -- the cell of a token has just the symbols that derive it
    token_entry :
        (i : ℕ) (kind : Option ℕ) (cell : List ℕ)
        → slice_get kinds i ≡ Some kind → IsTokenCell g kind cell → IsEntryOf g kinds i (i + 1) cell
    token_entry i kind cell is_kind is n = (to, from)
      where
        to : Contains cell n → (a : BinarySymbol) × IsNumberOf g a n × BinaryDerives g.rules kinds a i (i + 1)
        to has =
            let x = (is n).0 has in
            let closure = closure_is_derivation g.rules kinds x.3.0 i (i + 1) (omega arith) in
            (x.3.0, x.3.1, closure.1 (inl (x.0, is_kind ∙ ap Some x.1, refl, x.3.2)))

        from : (a : BinarySymbol) × IsNumberOf g a n × BinaryDerives g.rules kinds a i (i + 1) → Contains cell n
        from (a, number, derives) = elim ((closure_is_derivation g.rules kinds a i (i + 1) (omega arith)).0 derives) [
          | inl (k, is_k, end, reaches) ↦
              let same : kind ≡ Some k = cc in
              (is n).1 (k, same, source_symbol (Kind k) a reaches number.0, (a, number, reaches))
          | inr (k, after, before, made) ↦ absurd (omega (arith, after, before))
        ]

    -- and so has a cell with the same numbers, for the span of that token
    pub one_token_entry :
        (i end : ℕ) (cell copy : List ℕ)
        → i < length kinds → end ≡ i + 1 → IsTokenCell g (get_or kinds i None) cell → HasSame cell copy
        → IsEntryOf g kinds i end copy
    one_token_entry i end cell copy within one is same n =
        let token = token_entry i (get_or kinds i None) cell (slice_get-get_or kinds i None within) is n in
        rw one ((λ has. token.0 ((same n).0 has)), (λ derived. (same n).1 (token.1 derived)))

    -- a suffix that derives a span that is not empty begins at an item
    suffix_within :
        (r p k j : ℕ)
        → k < j → BinaryDerives g.rules kinds (suffix r p) k j → IsBinarySymbolOf g (suffix r p)
    suffix_within r p k j order derives =
        let items : List Symbol = drop p (derives.0).items in
        let some : 0 < length items = some_items g.rules kinds derives.2.0 items k j derives.2.1 order in
        (derives.0, derives.1, omega (arith, length-drop p (derives.0).items))

    module _ (i k j : ℕ) (left right : List ℕ) (before : IsEntryOf g kinds i k left)
        (behind : IsEntryOf g kinds k j right) (order : k < j) where
      -- what the product of the entries of two parts gives, what derives the parts gives
      pub product_derived :
          (a : BinarySymbol)
          → IsBinarySymbolOf g a → IsProductNumber g left right (symbol_number g a)
          → IsInProduct g.rules (λ b. BinaryDerives g.rules kinds b i k) (λ b. BinaryDerives g.rules kinds b k j) a
      product_derived a is made =
          let x = (products_agree g left right a is).0 made in
          record {
            r = x.r;
            p = x.p;
            item = x.item;
            behind = x.behind;
            has = x.has;
            on_left = has_derived g kinds i k left before (plain x.item) x.on_left;
            on_right = has_derived g kinds k j right behind (suffix x.r (suc x.p)) x.on_right;
            reaches = x.reaches;
          }

      -- and what derives the parts gives, the product of their entries gives
      pub derived_product :
          (a : BinarySymbol)
          → IsBinarySymbolOf g a
          → IsInProduct g.rules (λ b. BinaryDerives g.rules kinds b i k) (λ b. BinaryDerives g.rules kinds b k j) a
          → IsProductNumber g left right (symbol_number g a)
      derived_product a is x =
          let item = item_symbol g x.r x.p x.item x.behind own x.has in
          let rest = suffix_within x.r (suc x.p) k j order x.on_right in
          (products_agree g left right a is).1 (record {
            r = x.r;
            p = x.p;
            item = x.item;
            behind = x.behind;
            has = x.has;
            on_left = derived_has g kinds i k left before (plain x.item) item x.on_left;
            on_right = derived_has g kinds k j right behind (suffix x.r (suc x.p)) rest x.on_right;
            reaches = x.reaches;
          })
