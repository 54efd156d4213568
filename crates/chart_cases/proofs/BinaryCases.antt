-- The small cases: numbers by computation, cells by what their symbols reach.
use Rattle.std.proofs.Common.{◌≡◌, ℕ, List, [], ◌∷◌, Some, None, suc, refl, ap, drop, arith}
use Rattle.spec_grammar.specs.declared.rule.Symbol.{Symbol}
use Rattle.spec_grammar.specs.declared.rule.Symbol.TheVariants.{Category, Kind}
use Rattle.spec_grammar.specs.declared.rule.Rule.{Rule}
use Rattle.spec_grammar.specs.Grammars.{rule_of}
use Rattle.binary_form.specs.Symbols.{plain, suffix, BinaryDerives}
use Rattle.binary_form.specs.UnitSteps.{HasItem, whole_side, last_item, Reaches}
use Rattle.number_graph.specs.Graphs.{stay, step}
use Rattle.binary_form.specs.BinaryForm.{IsNumberOf, IsNullableNumber, IsTokenCell, IsProductOf}
use Rattle.chart_cases.specs.BinaryCases.{triples, brackets, SmallForms}
use Rattle.binary_form.proofs.EmptySpanLemmas.{none_nullable}
use Rattle.binary_form.proofs.NumberLemmas.{number_is_one}
use Rattle.binary_form.proofs.CellLemmas.{IsOneOf, has_one, HasReached, token_cell, closure_of, product_of, no_product}
use Rattle.chart_cases.proofs.TripleSteps.{word_reached, three_reached, two_reached}
use Rattle.chart_cases.proofs.BracketSteps.{enclosed, category_is_nullable, kind_second, open_reached, close_reached, whole_reached}

-- the number of the last two of three
two_is : IsNumberOf triples (suffix 0 1) 3
two_is = ((_, refl, omega arith), refl)

-- the number of the last of three
last_is : IsNumberOf triples (suffix 0 2) 4
last_is = ((_, refl, omega arith), refl)

-- `a` is a whole right side of `S`
word_reaches : Reaches triples.rules (plain (Kind 0)) (plain (Category 0))
word_reaches =
    let has : HasItem triples.rules 1 0 (Kind 0) [] =
    record { rule = _; is_rule = refl; is_item = refl } in
    step (step stay (last_item has (none_nullable triples.rules))) (whole_side refl)

-- `a` does not reach the last two of three
word_is_not_two : Reaches triples.rules (plain (Kind 0)) (suffix 0 1) → ⊥
word_is_not_two reaches =
    none (has_one (1 ∷ 5 ∷ 0 ∷ 4 ∷ []) 3 ((word_reached 3).1 (suffix 0 1, two_is, reaches)))
  where
    none : IsOneOf (1 ∷ 5 ∷ 0 ∷ 4 ∷ []) 3 → ⊥
    none one = grind arith

-- `(` does not reach `S`
open_is_not_category : Reaches brackets.rules (plain (Kind 0)) (plain (Category 0)) → ⊥
open_is_not_category reaches =
    let has = (open_reached 0).1 (plain (Category 0), (omega arith, refl), reaches) in
    none (has_one (1 ∷ []) 0 has)
  where
    none : IsOneOf (1 ∷ []) 0 → ⊥
    none one = grind arith

-- a stray token has no kind
stray_is_nothing : IsTokenCell triples None []
stray_is_nothing m = ((λ has. absurd (omega (arith, has.1))), (λ x. absurd (none x.0 x.1)))
  where
    none : (k : ℕ) → None ≡ Some k → ⊥
    none k is = cc

-- the product of `S` and a suffix behind one of three
before_suffix :
    (p : ℕ) (behind : List Symbol) (cell : List ℕ) (m : ℕ)
    → HasItem triples.rules 0 p (Category 0) behind → IsNumberOf triples (suffix 0 (suc p)) m
    → HasReached triples (suffix 0 p) cell → IsProductOf triples (0 ∷ []) (m ∷ []) cell
before_suffix p behind cell m has is reached =
    product_of triples 0 p (Category 0) behind 0 m cell has (omega arith, refl) is reached

-- `S )` is not nullable
close_is_full : IsNullableNumber brackets 4 → ⊥
close_is_full x =
    let is : IsNumberOf brackets (suffix 0 1) 4 = ((_, refl, omega arith), refl) in
    let same : x.0 ≡ suffix 0 1 = number_is_one brackets x.0 (suffix 0 1) 4 x.1 is in
    of_rule (rw same at x.2)
  where
    of_rule : BinaryDerives brackets.rules [] (suffix 0 1) 0 0 → ⊥
    of_rule d =
        let rule : d.0 ≡ rule_of 0 enclosed = cc in
        let items : drop 1 (d.0).items ≡ Category 0 ∷ Kind 1 ∷ [] =
        ap (λ (y : Rule). drop 1 y.items) rule in
        kind_second (Category 0) 1 [] (rw items at d.2)

pub small_forms : SmallForms
small_forms = record {
  triples_have_six_symbols = refl;
  category_number = refl;
  kind_number = refl;
  whole_side_number = refl;
  middle_number = refl;
  last_number = refl;
  next_rule_number = refl;
  word_reaches_category = word_reaches;
  one_is_not_two = word_is_not_two;
  token_of_triples = token_cell triples 0 (1 ∷ 5 ∷ 0 ∷ 4 ∷ []) (omega arith) word_reached;
  stray_token = stray_is_nothing;
  one_before_two =
      before_suffix 0 (Category 0 ∷ Category 0 ∷ []) (0 ∷ 2 ∷ 4 ∷ []) 3 first two_is three_reached;
  one_before_last =
      before_suffix 1 (Category 0 ∷ []) (3 ∷ []) 4 second last_is two_reached;
  two_categories = no_product triples (0 ∷ []) 0 (omega arith);
  empty_side = (plain (Category 0), (omega arith, refl), category_is_nullable);
  close_is_not_nullable = close_is_full;
  open_is_no_category = open_is_not_category;
  open_is_itself = closure_of brackets (plain (Kind 0)) 1 (1 ∷ []) (omega arith, refl) open_reached;
  close_ends_the_rule =
      closure_of brackets (plain (Kind 1)) 2 (2 ∷ 5 ∷ 4 ∷ []) (omega arith, refl) close_reached;
  open_before_rest =
      product_of brackets 0 0 (Kind 0) (Category 0 ∷ Kind 1 ∷ []) 1 4 (3 ∷ 0 ∷ []) open_first
      (omega arith, refl) ((_, refl, omega arith), refl) whole_reached;
}
  where
    first : HasItem triples.rules 0 0 (Category 0) (Category 0 ∷ Category 0 ∷ [])
    first = record { rule = _; is_rule = refl; is_item = refl }

    second : HasItem triples.rules 0 1 (Category 0) (Category 0 ∷ [])
    second = record { rule = _; is_rule = refl; is_item = refl }

    open_first : HasItem brackets.rules 0 0 (Kind 0) (Category 0 ∷ Kind 1 ∷ [])
    open_first = record { rule = _; is_rule = refl; is_item = refl }
