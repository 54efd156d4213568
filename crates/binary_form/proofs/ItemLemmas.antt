-- The items of rules by their places, and the suffixes that they begin.
use Rattle.std.proofs.Common.{◌≡◌, ℕ, ◌<◌, List, [], ◌∷◌, Some, length, slice_get, drop, zero, suc, refl, ◌∙◌, ap, arith}
use Rattle.std.proofs.lemmas.List.Elements.{All-drop}
use Rattle.spec_grammar.specs.declared.rule.Symbol.{Symbol}
use Rattle.spec_grammar.specs.declared.rule.Rule.{Rule}
use Rattle.spec_grammar.specs.Grammars.{Grammar, IsSymbolOf, HasOwnSymbols}
use Rattle.binary_form.specs.Symbols.{plain, suffix, IsBinarySymbolOf}
use Rattle.binary_form.specs.UnitSteps.{HasItem}

-- the items behind the first of a suffix are the suffix that begins one place further
pub drop_behind :
    (items : List Symbol) (p : ℕ) (s : Symbol) (behind : List Symbol)
    → drop p items ≡ s ∷ behind → drop (suc p) items ≡ behind
drop_behind [] zero s behind is = cc
drop_behind [] (suc p) s behind is = cc
drop_behind (item ∷ items) zero s behind is = cc
drop_behind (item ∷ items) (suc p) s behind is = drop_behind items p s behind is

-- a place with an item is one of the list
pub drop_within :
    (items : List Symbol) (p : ℕ) (s : Symbol) (behind : List Symbol)
    → drop p items ≡ s ∷ behind → p < length items
drop_within [] zero s behind is = absurd (cc)
drop_within [] (suc p) s behind is = absurd (cc)
drop_within (item ∷ items) zero s behind is = omega arith
drop_within (item ∷ items) (suc p) s behind is =
    let inner = drop_within items p s behind is in
    omega arith

-- the item at a place begins the suffix there
pub drop_from_get :
    (items : List Symbol) (p : ℕ) (s : Symbol)
    → slice_get items p ≡ Some s → drop p items ≡ s ∷ drop (suc p) items
drop_from_get [] p s is = absurd (cc)
drop_from_get (item ∷ items) zero s is = cc
drop_from_get (item ∷ items) (suc p) s is = drop_from_get items p s is

-- what begins a suffix is the item at its place
pub get_from_drop :
    (items : List Symbol) (p : ℕ) (s : Symbol) (behind : List Symbol)
    → drop p items ≡ s ∷ behind → slice_get items p ≡ Some s
get_from_drop [] zero s behind is = absurd (cc)
get_from_drop [] (suc p) s behind is = absurd (cc)
get_from_drop (item ∷ items) zero s behind is = cc
get_from_drop (item ∷ items) (suc p) s behind is = get_from_drop items p s behind is

-- a place of the list has an item
pub drop_at :
    (items : List Symbol) (p : ℕ)
    → p < length items → (s : Symbol) × (drop p items ≡ s ∷ drop (suc p) items)
drop_at [] p within = absurd (omega arith)
drop_at (item ∷ items) zero within = (item, refl)
drop_at (item ∷ items) (suc p) within = drop_at items p (omega arith)

module _ (rules : List Rule) where
  -- a rule's number has one rule
  pub same_rule :
      (r : ℕ) (a b : Rule) → slice_get rules r ≡ Some a → slice_get rules r ≡ Some b → a ≡ b
  same_rule r a b is_a is_b = cc

  -- the item at a place of a rule is an item of it, before the others
  pub has_item :
      (r p : ℕ) (rule : Rule) (s : Symbol)
      → slice_get rules r ≡ Some rule → slice_get rule.items p ≡ Some s
      → HasItem rules r p s (drop (suc p) rule.items)
  has_item r p rule s is_rule is_item = record {
    rule = rule;
    is_rule = is_rule;
    is_item = drop_from_get rule.items p s is_item;
  }

  -- the suffix that an item begins has it, and the items behind it
  pub items_from :
      (r p : ℕ) (s : Symbol) (behind : List Symbol) (rule : Rule)
      → HasItem rules r p s behind → slice_get rules r ≡ Some rule
      → drop p rule.items ≡ s ∷ behind
  items_from r p s behind rule has is =
      let same : rule ≡ has.rule = same_rule r rule has.rule is has.is_rule in
      ap (λ (x : Rule). drop p x.items) same ∙ has.is_item

  -- the suffix behind an item has the items behind it
  pub items_behind :
      (r p : ℕ) (s : Symbol) (behind : List Symbol) (rule : Rule)
      → HasItem rules r p s behind → slice_get rules r ≡ Some rule
      → drop (suc p) rule.items ≡ behind
  items_behind r p s behind rule has is =
      drop_behind rule.items p s behind (items_from r p s behind rule has is)

  -- the first of the items behind an item is the next item
  pub next_item :
      (r p : ℕ) (s next : Symbol) (behind : List Symbol)
      → HasItem rules r p s (next ∷ behind) → HasItem rules r (suc p) next behind
  next_item r p s next behind has = record {
    rule = has.rule;
    is_rule = has.is_rule;
    is_item = drop_behind (has.rule).items p s (next ∷ behind) has.is_item;
  }

module _ (g : Grammar) where
  -- the suffix that an item begins is a symbol of the grammar
  pub suffix_symbol :
      (r p : ℕ) (s : Symbol) (behind : List Symbol)
      → HasItem g.rules r p s behind → IsBinarySymbolOf g (suffix r p)
  suffix_symbol r p s behind has =
      (has.rule, has.is_rule, drop_within (has.rule).items p s behind has.is_item)

  -- each suffix of the grammar begins with an item
  pub symbol_item :
      (r p : ℕ)
      → IsBinarySymbolOf g (suffix r p)
      → (s : Symbol) × (behind : List Symbol) × HasItem g.rules r p s behind
  symbol_item r p is =
      let item = drop_at (is.0).items p is.2 in (
        item.0,
        drop (suc p) (is.0).items,
        record { rule = is.0; is_rule = is.1; is_item = item.1 },
      )

  -- an item of a rule is a symbol of the grammar
  pub item_symbol :
      (r p : ℕ) (s : Symbol) (behind : List Symbol)
      → HasOwnSymbols g → HasItem g.rules r p s behind → IsBinarySymbolOf g (plain s)
  item_symbol r p s behind own has =
      let all = (own r has.rule has.is_rule).1 in
      let rest = All-drop (IsSymbolOf g) p (has.rule).items all in
      (rw has.is_item at rest) 0 s (omega arith)
