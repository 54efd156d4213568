-- Flags of the symbols that derive the empty span: first those of categories and kinds, then those
-- of suffixes.
use Rattle.std.proofs.Common.{◌≡◌, ◌≢◌, ℕ, suc, ◌+◌, ◌-◌, ◌<◌, ◌≤◌, ◌↔◌, ◌⊎◌, inl, inr, List, [], ◌∷◌, ◌++◌, Bool, false, IsTrue}
use Rattle.std.proofs.Common.{Some, length, slice_get, slice_set, slice_index_or, take, drop, replicate, refl, sym, ap, ◌∙◌, subst, arith}
use Rattle.std.proofs.Common.{length-set, length-append, get_or-set_other}
use Rattle.std.proofs.lemmas.Bool.{cases_eq, cases_lt}
use Rattle.std.proofs.lemmas.List.{take_all, length-replicate, get_or_append_left, get_or-append-add}
use Rattle.std.proofs.lemmas.Grind.{get_or-set_at}
use Rattle.spec_grammar.specs.declared.rule.Symbol.{Symbol}
use Rattle.spec_grammar.specs.declared.rule.Symbol.TheVariants.{Category, Kind}
use Rattle.spec_grammar.specs.declared.rule.Rule.{Rule}
use Rattle.spec_grammar.specs.Derivation.{IsNullable}
use Rattle.spec_grammar.specs.Grammars.{Grammar, item_count, symbol_count}
use Rattle.numbered_grammar.specs.Nullable.{AreNullableFlags}
use Rattle.numbered_grammar.proofs.NullableLemmas.{kind_not_nullable}
use Rattle.binary_form.specs.declared.rows.SuffixRow.{SuffixRow}
use Rattle.binary_form.specs.Symbols.{BinarySymbol, plain, suffix, BinaryDerives, plain_count, suffix_number}
use Rattle.binary_form.specs.UnitSteps.{AreNullable}
use Rattle.binary_form.specs.BinaryForm.{IsNumberOf, IsNullableNumber}
use Rattle.binary_form.specs.Rows.{IsRowAt}
use Rattle.binary_form.specs.NullableNumbers.{AreNullableNumbers, AreNullableFrom, IsRestNullable}
use Rattle.number_graph.specs.Graphs.{IsSet}
use Rattle.binary_form.proofs.EmptySpanLemmas.{none_nullable, some_nullable}
use Rattle.binary_form.proofs.NumberLemmas.{number_is_one}
use Rattle.binary_form.proofs.ItemLemmas.{items_behind, same_rule}
use Rattle.number_graph.proofs.FlagLemmas.{none_set}
use Rattle.binary_form.proofs.RowLemmas.{none_or_more, number_below, suffix_of_row, next_number}

-- what comes to the same as another, which comes to the same as a third
pub alike : {A B C : Type 0} → A ↔ B → B ↔ C → A ↔ C
alike first second = ((λ x. second.0 (first.0 x)), (λ x. first.1 (second.1 x)))

-- the same, from the second to the first
pub turned : {A B : Type 0} → A ↔ B → B ↔ A
turned both = (both.1, both.0)

module _ (g : Grammar) where
  -- a number is that of a symbol that derives the empty span exactly where its symbol does
  pub number_empty :
      (a : BinarySymbol) (n : ℕ)
      → IsNumberOf g a n → IsNullableNumber g n ↔ BinaryDerives g.rules [] a 0 0
  number_empty a n is = (
    (λ x.
        let same : x.0 ≡ a = number_is_one g x.0 a n x.1 is in
        rw same at x.2),
    (λ empty. (a, is, empty)),
  )

  module _ (n : ℕ) (row : SuffixRow) (at : IsRowAt g n row) where
    -- a suffix derives the empty span exactly where its item does, and what is behind it
    pub suffix_empty :
        IsNullableNumber g (suffix_number g n)
        ↔ (IsNullable g.rules (at.is_row).item × AreNullable g.rules (at.is_row).behind)
    suffix_empty =
        let is = at.is_row in
        let has = is.has in
        let number = number_empty (suffix at.r at.p) (suffix_number g n) (suffix_of_row g n row at) in
        let items : BinaryDerives g.rules [] (suffix at.r at.p) 0 0 ↔ AreNullable g.rules (is.item ∷ is.behind) = (
          (λ x.
              let same : x.0 ≡ has.rule = same_rule g.rules at.r x.0 has.rule x.1 has.is_rule in
              subst (AreNullable g.rules) (ap (λ (y : Rule). drop at.p y.items) same ∙ has.is_item) x.2),
          (λ empty. (has.rule, has.is_rule, subst (AreNullable g.rules) (sym has.is_item) empty)),
        ) in
        alike number (alike items (some_nullable g.rules is.item is.behind))

    -- what is behind the item derives the empty span exactly where the row says that it is the last,
    -- or the flag of the next suffix that it does
    pub rest_empty :
        (flags : List Bool)
        → (suffix_number g n + 1 < symbol_count g
        → IsSet flags (suffix_number g n + 1) ↔ IsNullableNumber g (suffix_number g n + 1))
        → IsRestNullable flags row (suffix_number g n) ↔ AreNullable g.rules (at.is_row).behind
    rest_empty flags exact = elim (none_or_more (at.is_row).behind) [
      | inl none ↦ (
        (λ rest. subst (AreNullable g.rules) (sym none) (none_nullable g.rules)),
        (λ empty. inl (((at.is_row).is_last).1 none)),
      )
      | inr (t, more, is_more) ↦
          let has = (at.is_row).has in
          let next = next_number g n row at t more is_more in
          let flag = exact (number_below g (suffix at.r (suc at.p)) (suffix_number g n + 1) next) in
          let number = number_empty (suffix at.r (suc at.p)) (suffix_number g n + 1) next in
          let behind : (rule : Rule) → slice_get g.rules at.r ≡ Some rule → drop (suc at.p) rule.items ≡ (at.is_row).behind =
          λ rule is_rule. items_behind g.rules at.r at.p (at.is_row).item (at.is_row).behind rule has is_rule in (
            (λ rest. elim rest [
              | inl last ↦
                  let none = ((at.is_row).is_last).0 last in
                  absurd (cc)
              | inr set ↦
                  let x = number.0 (flag.0 set) in
                  subst (AreNullable g.rules) (behind x.0 x.1) x.2
            ]),
            (λ empty.
                inr (flag.1 (number.1 (has.rule, has.is_rule, subst (AreNullable g.rules) (sym (behind has.rule has.is_rule)) empty)))),
          )
    ]

  -- the number of a category or a kind is below those of the suffixes
  plain_below :
      (s : Symbol) (n : ℕ)
      → IsNumberOf g (plain s) n → n < plain_count g
  plain_below (Category c) n is = omega (arith, is.0, is.1)
  plain_below (Kind k) n is = omega (arith, is.0, is.1)

  -- the number of a kind is not that of a symbol that derives the empty span
  no_empty_kind : (k n : ℕ) → IsNumberOf g (plain (Kind k)) n → IsNullableNumber g n → ⊥
  no_empty_kind k n is x = kind_not_nullable g.rules k ((number_empty (plain (Kind k)) n is).0 x)

  -- with one suffix more, the flags say of it too whether it derives the empty span
  pub flagged_from :
      (n : ℕ) (row : SuffixRow) (flags : List Bool) (flag : Bool)
      → IsRowAt g n row → AreNullableFrom g (n + 1) flags
      → IsTrue flag ↔ (IsSet flags row.item × IsRestNullable flags row (suffix_number g n))
      → AreNullableFrom g n (slice_set flags (suffix_number g n) flag)
  flagged_from n row flags flag at before is = record {
    count = length-set flags (suffix_number g n) flag ∙ before.count;
    exact = λ m below part. elim (cases_eq m (suffix_number g n)) [
      | inl same ↦
          let read : slice_index_or (slice_set flags (suffix_number g n) flag) m false ≡ flag =
          get_or-set_at flags (suffix_number g n) m flag false same within in
          let P : ℕ → Type 0 = λ k. IsTrue flag ↔ IsNullableNumber g k in
          read_as m flag read (subst P (sym same) of_flag)
      | inr differ ↦
          let read = get_or-set_other flags (suffix_number g n) m flag false differ in
          read_as m (slice_index_or flags m false) read (before.exact m below (other_part m differ part))
    ];
  }
    where
      item_is : IsSet flags row.item ↔ IsNullable g.rules (at.is_row).item
      item_is =
          let is_item = (at.is_row).is_item in
          alike (before.exact row.item (number_below g (plain (at.is_row).item) row.item is_item)
          (inl (plain_below (at.is_row).item row.item is_item)))
          (number_empty (plain (at.is_row).item) row.item is_item)

      rest_is :
          IsRestNullable flags row (suffix_number g n) ↔ AreNullable g.rules (at.is_row).behind
      rest_is = rest_empty n row at flags (λ below. before.exact (suffix_number g n + 1) below (inr (omega arith)))

      of_flag : IsTrue flag ↔ IsNullableNumber g (suffix_number g n)
      of_flag = alike is (alike ((λ x. (item_is.0 x.0, rest_is.0 x.1)), (λ x. (item_is.1 x.0, rest_is.1 x.1)))
          (turned (suffix_empty n row at)))

      within : suffix_number g n < length flags
      within = omega (arith, before.count, number_below g (suffix at.r at.p) (suffix_number g n) (suffix_of_row g n row at))

      other_part :
          (m : ℕ)
          → m ≢ suffix_number g n
          → (m < plain_count g) ⊎ (suffix_number g n ≤ m)
          → (m < plain_count g) ⊎ (suffix_number g (n + 1) ≤ m)
      other_part m differ (inl early) = inl early
      other_part m differ (inr late) = inr (omega arith)

      read_as :
          (m : ℕ) (other : Bool)
          → slice_index_or (slice_set flags (suffix_number g n) flag) m false ≡ other
          → IsTrue other ↔ IsNullableNumber g m
          → IsSet (slice_set flags (suffix_number g n) flag) m ↔ IsNullableNumber g m
      read_as m other read both = ((λ set. both.0 (sym read ∙ set)), (λ x. read ∙ both.1 x))

  -- the flags of the categories are right, and kinds have none
  flags_start :
      (categories : List Bool)
      → AreNullableFlags g categories
      → AreNullableFrom g (item_count g.rules) (categories ++ replicate (symbol_count g - length categories) false)
  flags_start categories are = record {
    count = omega (arith, are.count, length-append categories clear, length-replicate (symbol_count g - length categories) false);
    exact = λ n below part. elim (two_parts n below part) [
      | inl category ↦
          let read = get_or_append_left categories clear false n (omega (arith, are.count)) in
          let is = alike (are.exact n category) (turned (number_empty (plain (Category n)) n (category, refl))) in
          ((λ set. is.0 (sym read ∙ set)), (λ x. read ∙ is.1 x))
      | inr (behind, before) ↦
          let k : ℕ = n - length g.categories in
          let place : n ≡ length categories + k = omega (arith, are.count) in
          let read = ap (λ m. slice_index_or (categories ++ clear) m false) place ∙ get_or-append-add categories clear k false in (
            (λ set. absurd (none_set (symbol_count g - length categories) k (sym read ∙ set))),
            (λ x. absurd (no_empty_kind k n (omega arith, omega arith) x)),
          )
    ];
  }
    where
      clear : List Bool
      clear = replicate (symbol_count g - length categories) false

      two_parts :
          (n : ℕ)
          → n < symbol_count g → (n < plain_count g) ⊎ (symbol_count g ≤ n)
          → (n < length g.categories) ⊎ ((length g.categories ≤ n) × (n < plain_count g))
      two_parts n below (inr late) = absurd (omega arith)
      two_parts n below (inl early) = elim (cases_lt n (length g.categories)) [
        | inl category ↦ inl category
        | inr kind ↦ inr (kind, early)
      ]

  -- the flags of the categories, with clear ones behind them, are right but for the suffixes
  pub flags_widened :
      (categories flags : List Bool) (count size rows : ℕ)
      → AreNullableFlags g categories → count ≡ symbol_count g → size ≡ length categories
      → rows ≡ item_count g.rules
      → flags ≡ take count categories ++ replicate (count - size) false
      → AreNullableFrom g rows flags
  flags_widened categories flags count size rows are is_count is_size is_rows is =
      let all : take count categories ≡ categories = take_all count categories (omega (arith, are.count)) in
      rw (is, all, is_count, is_size, is_rows) (flags_start categories are)

  -- with all suffixes the flags are right
  pub flags_end : (flags : List Bool) → AreNullableFrom g 0 flags → AreNullableNumbers g flags
  flags_end flags from = record {
    count = from.count;
    exact = λ n below. from.exact n below (two_parts (plain_count g));
  }
    where
      two_parts : {n : ℕ} (m : ℕ) → (n < m) ⊎ (m + 0 ≤ n)
      two_parts m = grind arith
