-- The rows of suffixes say what the rules say.
use Rattle.std.proofs.Common.{◌≡◌, ℕ, suc, ◌+◌, ◌<◌, ◌↔◌, ◌⊎◌, inl, inr, List, [], ◌∷◌, false, IsFalse, nat_eq, Some, length}
use Rattle.std.proofs.Common.{slice_get, take, drop, refl, sym, ap, ◌∙◌, subst, arith, length-drop}
use Rattle.std.proofs.lemmas.List.{nil_from_length}
use Rattle.std.proofs.lemmas.Bool.Decides.{Decides-at, Decides-eqb}
use Rattle.std.proofs.lemmas.Option.{slice_get_within, slice_get_cases}
use Rattle.std.proofs.lemmas.Bool.{false≢true}
use Rattle.spec_grammar.specs.declared.rule.Symbol.{Symbol}
use Rattle.spec_grammar.specs.declared.rule.Rule.{Rule}
use Rattle.spec_grammar.specs.Grammars.{Grammar, HasOwnSymbols, item_count, symbol_count}
use Rattle.binary_form.specs.declared.rows.SuffixRow.{SuffixRow}
use Rattle.binary_form.specs.Symbols.{BinarySymbol, plain, suffix, suffix_number}
use Rattle.binary_form.specs.UnitSteps.{HasItem}
use Rattle.binary_form.specs.BinaryForm.{IsNumberOf}
use Rattle.binary_form.specs.Rows.{IsRow, IsRowAt, AreSuffixRows, IsRowWithin}
use Rattle.binary_form.proofs.ItemLemmas.{drop_from_get, drop_within, same_rule, next_item, suffix_symbol}
use Rattle.binary_form.proofs.NumberLemmas.{IsCounted, counted_once, count_within, numbers_below}

-- what is read past the last row
abbrev pub no_row : SuffixRow
no_row = record { item = 0; category = 0; is_first = false; is_last = false }

-- a list has nothing, or something
pub none_or_more :
    (items : List Symbol)
    → (items ≡ []) ⊎ ((t : Symbol) × (more : List Symbol) × (items ≡ t ∷ more))
none_or_more [] = inl refl
none_or_more (t ∷ more) = inr (t, more, refl)

-- a place is the last exactly where nothing is behind it
last_or_more :
    (items : List Symbol) (p : ℕ)
    → p < length items → (p + 1 ≡ length items) ↔ (drop (suc p) items ≡ [])
last_or_more items p within = (
  (λ last. nil_from_length (drop (suc p) items) (omega (arith, length-drop (suc p) items))),
  (λ none. omega (arith, length-drop (suc p) items, ap length none)),
)

module _ (g : Grammar) (r p : ℕ) (rule : Rule) (s : Symbol) where
  -- what is told of an item, by the numbers of its rule
  pub row_is :
      (row : SuffixRow)
      → HasOwnSymbols g → slice_get g.rules r ≡ Some rule → slice_get rule.items p ≡ Some s
      → IsNumberOf g (plain s) row.item → row.category ≡ rule.category → row.is_first ≡ nat_eq p 0
      → row.is_last ≡ nat_eq (p + 1) (length rule.items) → IsRow g r p row
  row_is row own is_rule is_item number category first last =
      let is_last = Decides-at row.is_last _ last (Decides-eqb (p + 1) (length rule.items)) in
      let ends = last_or_more rule.items p (slice_get_within rule.items p s is_item) in
      record {
        item = s;
        behind = drop (suc p) rule.items;
        has = record { rule = rule; is_rule = is_rule; is_item = drop_from_get rule.items p s is_item };
        is_item = number;
        is_category = ((own r rule is_rule).0, sym category);
        is_first = Decides-at row.is_first _ first (Decides-eqb p 0);
        is_last = ((λ true. ends.0 (is_last.0 true)), (λ none. is_last.1 (ends.1 none)));
      }

-- an item of a rule is one, with one rest behind it
pub same_item : (rules : List Rule) (r p : ℕ) (s t : Symbol) (behind others : List Symbol)
    → HasItem rules r p s behind → HasItem rules r p t others → (s ∷ behind) ≡ (t ∷ others)
same_item rules r p s t behind others has also =
    let same : has.rule ≡ also.rule = same_rule rules r has.rule also.rule has.is_rule also.is_rule in
    sym has.is_item ∙ ap (λ (x : Rule). drop p x.items) same ∙ also.is_item

-- the number of a symbol is below their count
pub number_below :
    (g : Grammar) (a : BinarySymbol) (n : ℕ)
    → IsNumberOf g a n → n < symbol_count g
number_below g a n is = subst Below is.1 (numbers_below g a is.0)
  where
    Below : ℕ → Type 0
    Below k = k < symbol_count g

-- the suffix that an item begins, by its count of items before
counted_item : (rules : List Rule) (r p n : ℕ) (s : Symbol) (behind : List Symbol)
    → HasItem rules r p s behind → item_count (take r rules) + p ≡ n → IsCounted rules r p n
counted_item rules r p n s behind has count = record {
  rule = has.rule;
  is_rule = has.is_rule;
  within = drop_within (has.rule).items p s behind has.is_item;
  count = count;
}

module _ (g : Grammar) where
  -- what a row's rule and place are of is what they are of at the same count
  same_place :
      (r p t q n : ℕ) (row : SuffixRow)
      → IsRow g t q row → item_count (take t g.rules) + q ≡ n → IsCounted g.rules r p n
      → IsRow g r p row
  same_place r p t q n row is count counted =
      let same : suffix t q ≡ suffix r p =
      counted_once g.rules t q r p n (counted_item g.rules t q n is.item is.behind is.has count) counted in
      let same_rules : t ≡ r = cc in
      let same_places : q ≡ p = cc in
      let P : ℕ → Type 0 = λ x. IsRow g x q row in
      let Q : ℕ → Type 0 = λ x. IsRow g r x row in
      subst Q same_places (subst P same_rules is)

  -- the number of a row's suffix
  pub suffix_of_row : (n : ℕ) (row : SuffixRow) (at : IsRowAt g n row)
      → IsNumberOf g (suffix at.r at.p) (suffix_number g n)
  suffix_of_row n row at =
      let is = at.is_row in (
        suffix_symbol g at.r at.p is.item is.behind is.has,
        omega (arith, at.count),
      )

  -- the suffix behind a row's item has the next number
  pub next_number :
      (n : ℕ) (row : SuffixRow) (at : IsRowAt g n row) (t : Symbol) (more : List Symbol)
      → (at.is_row).behind ≡ t ∷ more
      → IsNumberOf g (suffix at.r (suc at.p)) (suffix_number g n + 1)
  next_number n row at t more is_more =
      let is = at.is_row in
      let P : List Symbol → Type 0 = λ others. HasItem g.rules at.r at.p is.item others in
      let next = next_item g.rules at.r at.p is.item t more (subst P is_more is.has) in (
        suffix_symbol g at.r (suc at.p) t more next,
        omega (arith, at.count),
      )

  -- behind an item that is not the last there are others
  pub goes_on : (r p : ℕ) (row : SuffixRow) (is : IsRow g r p row)
      → IsFalse row.is_last → (t : Symbol) × (more : List Symbol) × (is.behind ≡ t ∷ more)
  goes_on r p row is not_last = elim (none_or_more is.behind) [
    | inl none ↦ absurd (false≢true (sym not_last ∙ (is.is_last).1 none))
    | inr more ↦ more
  ]

  module _ (rows : List SuffixRow) (are : AreSuffixRows g rows) where
    -- each item has its row
    pub row_at :
        (r p : ℕ) (s : Symbol) (behind : List Symbol)
        → HasItem g.rules r p s behind
        → (row : SuffixRow) × (slice_get rows (item_count (take r g.rules) + p) ≡ Some row) × IsRow g r p row
    row_at r p s behind has = elim (slice_get_cases rows n).1 [
      | inl (row, within, is, read) ↦
          let at : IsRowAt g n row = are.each n row is in
          (row, is, same_place r p at.r at.p n row at.is_row at.count counted)
      | inr (past, none) ↦
          let within : p < length (has.rule).items = drop_within (has.rule).items p s behind has.is_item in
          absurd (omega (arith, past, are.count, within, count_within g.rules r has.rule has.is_rule))
    ]
      where
        n : ℕ
        n = item_count (take r g.rules) + p

        counted : IsCounted g.rules r p n
        counted = counted_item g.rules r p n s behind has refl

    -- the numbers of a row are numbers of symbols
    pub row_within : (n : ℕ) (row : SuffixRow) → slice_get rows n ≡ Some row
        → IsRowWithin row (suffix_number g n) (symbol_count g)
    row_within n row is =
        let at = are.each n row is in
        record {
          suffix_below = number_below g (suffix at.r at.p) (suffix_number g n) (suffix_of_row n row at);
          item_below = number_below g (plain (at.is_row).item) row.item (at.is_row).is_item;
          next_below = λ not_last.
              let more = goes_on at.r at.p row at.is_row not_last in
              number_below g (suffix at.r (suc at.p)) (suffix_number g n + 1) (next_number n row at more.0 more.1 more.2);
        }
