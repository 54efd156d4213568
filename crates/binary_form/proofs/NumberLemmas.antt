-- The numbers of the binary symbols: the items of each rule are counted behind those before it.
use Rattle.std.proofs.Common.{◌≡◌, ℕ, ◌+◌, ◌-◌, ◌<◌, ◌≤◌, ◌⊎◌, List, [], ◌∷◌, Some, length, slice_get, take, zero, suc, refl, sym, ◌∙◌, ap, inl, inr, arith}
use Rattle.std.proofs.lemmas.Bool.{cases_lt, cases_order}
use Rattle.std.proofs.lemmas.List.Sums.{sum_by-cons}
use Rattle.spec_grammar.specs.declared.rule.Symbol.TheVariants.{Category, Kind}
use Rattle.spec_grammar.specs.declared.rule.Rule.{Rule}
use Rattle.spec_grammar.specs.Grammars.{Grammar, item_count}
use Rattle.binary_form.specs.Symbols.{BinarySymbol, plain, suffix, IsBinarySymbolOf, symbol_number, plain_count}
use Rattle.binary_form.specs.BinaryForm.{IsNumberOf}
use Rattle.binary_form.specs.Laws.{NumbersDiffer, NumbersAreBelow, NumbersAreUsed}

-- the first of the rules has its items, and the others have the rest
pub count-cons :
    (rule : Rule) (rules : List Rule)
    → item_count (rule ∷ rules) ≡ length rule.items + item_count rules
count-cons rule rules = sum_by-cons (λ (x : Rule). length x.items) rule rules

-- a rule that is the other has as many items
same_length : (x rule : Rule) → Some x ≡ Some rule → length x.items ≡ length rule.items
same_length x rule is =
    let same : x ≡ rule = cc in
    ap (λ (y : Rule). length y.items) same

-- up to the next rule there are the items before a rule, and its own
pub count-take-suc :
    (rules : List Rule) (r : ℕ) (rule : Rule) → slice_get rules r ≡ Some rule
    → item_count (take (suc r) rules) ≡ item_count (take r rules) + length rule.items
count-take-suc [] r rule is = absurd (cc)
count-take-suc (x ∷ rules) zero rule is =
    omega (arith, count-cons x [], same_length x rule is)
count-take-suc (x ∷ rules) (suc r) rule is =
    let others = count-take-suc rules r rule is in
    omega (arith, count-cons x (take (suc r) rules), count-cons x (take r rules), others)

-- the same of the next rule's number as a sum
pub count-take-more :
    (rules : List Rule) (r : ℕ) (rule : Rule) → slice_get rules r ≡ Some rule
    → item_count (take (r + 1) rules) ≡ item_count (take r rules) + length rule.items
count-take-more rules r rule is =
    let next : r + 1 ≡ suc r = omega arith in
    ap (λ n. item_count (take n rules)) next ∙ count-take-suc rules r rule is

-- the items of a rule are counted before those of a later rule
pub count_before :
    (rules : List Rule) (r later : ℕ) (rule : Rule) → slice_get rules r ≡ Some rule → r < later
    → item_count (take r rules) + length rule.items ≤ item_count (take later rules)
count_before [] r later rule is order = absurd (cc)
count_before (x ∷ rules) r zero rule is order = absurd (omega arith)
count_before (x ∷ rules) zero (suc later) rule is order =
    omega (arith, count-cons x (take later rules), same_length x rule is)
count_before (x ∷ rules) (suc r) (suc later) rule is order =
    let others = count_before rules r later rule is (omega arith) in
    omega (arith, count-cons x (take r rules), count-cons x (take later rules), others)

-- the items of a rule are counted within those of all rules
pub count_within :
    (rules : List Rule) (r : ℕ) (rule : Rule) → slice_get rules r ≡ Some rule
    → item_count (take r rules) + length rule.items ≤ item_count rules
count_within [] r rule is = absurd (cc)
count_within (x ∷ rules) zero rule is =
    omega (arith, count-cons x rules, same_length x rule is)
count_within (x ∷ rules) (suc r) rule is =
    let others = count_within rules r rule is in
    omega (arith, count-cons x (take r rules), count-cons x rules, others)

-- item p of rule r is the one with this count of items before it
pub record IsCounted (rules : List Rule) (r p n : ℕ) : Type 0 where
  pub rule : Rule
  pub is_rule : slice_get rules r ≡ Some rule
  pub within : p < length rule.items
  pub count : item_count (take r rules) + p ≡ n

-- each number below the count of items is that of an item of a rule
pub counted :
    (rules : List Rule) (n : ℕ)
    → n < item_count rules → (r : ℕ) × (p : ℕ) × IsCounted rules r p n
counted [] n below = absurd (omega arith)
counted (x ∷ rules) n below =
    elim (cases_lt n (length x.items)) [
      | inl here ↦
          (0, n, record { rule = x; is_rule = refl; within = here; count = omega arith })
      | inr later ↦
          let inner = counted rules (n - length x.items) (omega (arith, count-cons x rules)) in
          let is = inner.2 in (
            suc inner.0,
            inner.1,
            record {
              rule = is.rule;
              is_rule = is.is_rule;
              within = is.within;
              count = omega (arith, is.count, count-cons x (take inner.0 rules));
            },
          )
    ]

-- two items with the same count before them are the same
pub counted_once :
    (rules : List Rule) (r p t q n : ℕ)
    → IsCounted rules r p n → IsCounted rules t q n → suffix r p ≡ suffix t q
counted_once rules r p t q n one other =
    elim (cases_order r t) [
      | inl same ↦
          let counts = ap (λ m. item_count (take m rules)) same in
          let places : p ≡ q = omega (arith, counts) in
          ap (λ m. suffix m p) same ∙ ap (suffix t) places
      | inr (inl before) ↦
          absurd (omega (arith, count_before rules r t one.rule one.is_rule before))
      | inr (inr behind) ↦
          absurd (omega (arith, count_before rules t r other.rule other.is_rule behind))
    ]

module _ (g : Grammar) where
  -- the suffix behind an item has the next number
  pub number-suffix-suc :
      (r p : ℕ) → symbol_number g (suffix r (suc p)) ≡ symbol_number g (suffix r p) + 1
  number-suffix-suc r p = omega arith

  -- the suffixes of a rule are numbered before those of a later one
  pub number_before :
      (r p later q : ℕ)
      → IsBinarySymbolOf g (suffix r p) → r < later
      → symbol_number g (suffix r p) < symbol_number g (suffix later q)
  number_before r p later q is order =
      omega (arith, is.2, count_before g.rules r later is.0 is.1 order)

-- symbols of one number are the same
pub numbers_differ : NumbersDiffer
numbers_differ g (plain (Category c)) (plain (Category d)) is_a is_b same =
    ap (λ n. plain (Category n)) same
numbers_differ g (plain (Category c)) (plain (Kind k)) is_a is_b same = absurd (omega arith)
numbers_differ g (plain (Category c)) (suffix r p) is_a is_b same = absurd (omega arith)
numbers_differ g (plain (Kind k)) (plain (Category c)) is_a is_b same = absurd (omega arith)
numbers_differ g (plain (Kind k)) (plain (Kind l)) is_a is_b same =
    let numbers : k ≡ l = omega arith in
    ap (λ n. plain (Kind n)) numbers
numbers_differ g (plain (Kind k)) (suffix r p) is_a is_b same = absurd (omega arith)
numbers_differ g (suffix r p) (plain (Category c)) is_a is_b same = absurd (omega arith)
numbers_differ g (suffix r p) (plain (Kind k)) is_a is_b same = absurd (omega arith)
numbers_differ g (suffix r p) (suffix t q) is_a is_b same =
    counted_once g.rules r p t q (item_count (take r g.rules) + p)
    (record { rule = is_a.0; is_rule = is_a.1; within = is_a.2; count = refl })
    (record { rule = is_b.0; is_rule = is_b.1; within = is_b.2; count = omega arith })

-- the numbers of the symbols are below their count
pub numbers_below : NumbersAreBelow
numbers_below g (plain (Category c)) is = omega arith
numbers_below g (plain (Kind k)) is = omega arith
numbers_below g (suffix r p) is = omega (arith, is.2, count_within g.rules r is.0 is.1)

-- each number below the count is that of a symbol
pub numbers_used : NumbersAreUsed
numbers_used g n below =
    elim (three_parts (length g.categories) (length g.lexicon.kinds)) [
      | inl category ↦ (plain (Category n), category, refl)
      | inr (inl kind) ↦ (plain (Kind (n - length g.categories)), omega arith, omega arith)
      | inr (inr item) ↦
          let x = counted g.rules (n - (plain_count g)) (omega arith) in
          let is = x.2 in
          (suffix x.0 x.1, (is.rule, is.is_rule, is.within), omega (arith, is.count))
    ]
  where
    three_parts : (c k : ℕ) → (n < c) ⊎ (((c ≤ n) × (n < c + k)) ⊎ (c + k ≤ n))
    three_parts c k = grind arith

-- two symbols with one number are the same
pub number_is_one :
    (g : Grammar) (a b : BinarySymbol) (n : ℕ) → IsNumberOf g a n → IsNumberOf g b n → a ≡ b
number_is_one g a b n is_a is_b = numbers_differ g a b is_a.0 is_b.0 (is_a.1 ∙ sym is_b.1)
