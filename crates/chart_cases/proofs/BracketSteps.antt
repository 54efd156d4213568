-- The unit steps of `S ::= ( S )`, `S ::=`, by number, and what they reach.
use Rattle.std.proofs.Common.{◌≡◌, ℕ, ◌<◌, ◌⊎◌, List, [], ◌∷◌, Some, zero, suc, refl, ap, slice_get, drop, inl, inr, arith}
use Rattle.spec_grammar.specs.declared.rule.Symbol.{Symbol}
use Rattle.spec_grammar.specs.declared.rule.Symbol.TheVariants.{Category, Kind}
use Rattle.spec_grammar.specs.declared.rule.Rule.{Rule}
use Rattle.spec_grammar.specs.Derivation.{IsNullable}
use Rattle.spec_grammar.specs.Grammars.{rule_of}
use Rattle.spec_grammar.proofs.DerivationLemmas.{category_derives}
use Rattle.spec_grammar.specs.Grammars.{HasOwnSymbols}
use Rattle.binary_form.specs.Symbols.{BinarySymbol, plain, suffix, symbol_number}
use Rattle.binary_form.specs.UnitSteps.{HasItem, AreNullable, UnitStep, whole_side, last_item, passed_item}
use Rattle.binary_form.specs.NumberSteps.{StepNumber}
use Rattle.number_graph.specs.Graphs.{ReachesBy, stay, step}
use Rattle.chart_cases.specs.BinaryCases.{brackets}
use Rattle.binary_form.proofs.ItemLemmas.{drop_within, items_from}
use Rattle.numbered_grammar.proofs.NullableLemmas.{kind_not_nullable}
use Rattle.binary_form.proofs.EmptySpanLemmas.{none_nullable, some_nullable}
use Rattle.binary_form.proofs.ReachLemmas.{number_step, step_below}
use Rattle.binary_form.proofs.CellLemmas.{IsOneOf, HasReached, has_reached, own_rule}

-- the right side of `S ::= ( S )`
abbrev pub enclosed : List Symbol
enclosed = Kind 0 ∷ Category 0 ∷ Kind 1 ∷ []

-- the items of brackets are its symbols
pub own_brackets : HasOwnSymbols brackets
own_brackets zero rule is =
    own_rule brackets (rule_of 0 enclosed) rule is (omega arith)
    (omega arith, (omega arith, (omega arith, tt)))
own_brackets (suc zero) rule is = own_rule brackets (rule_of 0 []) rule is (omega arith) tt
own_brackets (suc (suc r)) rule is = absurd (cc)

-- `S` has an empty right side
pub category_is_nullable : IsNullable brackets.rules (Category 0)
category_is_nullable =
    (category_derives brackets.rules [] 0 0 0).1
    (1, rule_of 0 [], refl, refl, none_nullable brackets.rules)

-- items with a kind before all others are not nullable
kind_first : (k : ℕ) (items : List Symbol) → AreNullable brackets.rules (Kind k ∷ items) → ⊥
kind_first k items empty =
    kind_not_nullable brackets.rules k ((some_nullable brackets.rules (Kind k) items).0 empty).0

-- nor are they with a kind behind the first
pub kind_second :
    (s : Symbol) (k : ℕ) (items : List Symbol)
    → AreNullable brackets.rules (s ∷ Kind k ∷ items) → ⊥
kind_second s k items empty =
    kind_first k items ((some_nullable brackets.rules s (Kind k ∷ items)).0 empty).1

-- the unit steps of brackets
abbrev pub IsBracketStep : ℕ → ℕ → Type 0
IsBracketStep m n =
    ((m ≡ 3) × (n ≡ 0)) ⊎ (((m ≡ 2) × (n ≡ 5)) ⊎ ((m ≡ 5) × (n ≡ 4)))

-- each unit step of brackets is one of these
pub bracket_steps : (m n : ℕ) → StepNumber brackets m n → IsBracketStep m n
bracket_steps m n x = by_step x.0 x.1 x.2.1 x.3.1 x.4
  where
    few : m < 6
    few = (step_below brackets m n x).0

    whole :
        (r : ℕ) (rule : Rule)
        → slice_get brackets.rules r ≡ Some rule → symbol_number brackets (suffix r 0) ≡ m
        → rule.category ≡ n → IsBracketStep m n
    whole zero rule is from to =
        let category : rule.category ≡ 0 = cc in
        inl (omega arith, omega arith)
    whole (suc zero) rule is from to = absurd (omega (arith, few))
    whole (suc (suc r)) rule is from to = absurd (cc)

    last :
        (p : ℕ) (s : Symbol) (behind : List Symbol)
        → drop p enclosed ≡ s ∷ behind → AreNullable brackets.rules behind
        → symbol_number brackets (plain s) ≡ m → symbol_number brackets (suffix 0 p) ≡ n
        → IsBracketStep m n
    last zero s behind is empty from to =
        let others : behind ≡ Category 0 ∷ Kind 1 ∷ [] = cc in
        absurd (kind_second (Category 0) 1 [] (rw others at empty))
    last (suc zero) s behind is empty from to =
        let others : behind ≡ Kind 1 ∷ [] = cc in
        absurd (kind_first 1 [] (rw others at empty))
    last (suc (suc zero)) s behind is empty from to =
        let close : s ≡ Kind 1 = cc in
        let number : symbol_number brackets (plain s) ≡ 2 =
        ap (λ y. symbol_number brackets (plain y)) close in
        inr (inl (omega arith, omega arith))
    last (suc (suc (suc p))) s behind is empty from to =
        absurd (omega (arith, drop_within enclosed (suc (suc (suc p))) s behind is))

    passed :
        (p : ℕ) (s : Symbol) (behind : List Symbol)
        → drop p enclosed ≡ s ∷ behind → IsNullable brackets.rules s
        → symbol_number brackets (suffix 0 (suc p)) ≡ m → symbol_number brackets (suffix 0 p) ≡ n
        → IsBracketStep m n
    passed zero s behind is empty from to =
        let open_kind : s ≡ Kind 0 = cc in
        absurd (kind_not_nullable brackets.rules 0 (rw open_kind at empty))
    passed (suc zero) s behind is empty from to = inr (inr (omega arith, omega arith))
    passed (suc (suc zero)) s behind is empty from to =
        let close : s ≡ Kind 1 = cc in
        absurd (kind_not_nullable brackets.rules 1 (rw close at empty))
    passed (suc (suc (suc p))) s behind is empty from to =
        absurd (omega (arith, drop_within enclosed (suc (suc (suc p))) s behind is))

    no_item : (r p : ℕ) (s : Symbol) (behind : List Symbol)
        → HasItem brackets.rules (suc r) p s behind → ⊥
    no_item zero p s behind has =
        let is = items_from brackets.rules 1 p s behind (rule_of 0 []) has refl in
        omega (arith, drop_within [] p s behind is)
    no_item (suc r) p s behind has = let is = has.is_rule in cc

    by_last :
        (r p : ℕ) (s : Symbol) (behind : List Symbol)
        → HasItem brackets.rules r p s behind → AreNullable brackets.rules behind
        → symbol_number brackets (plain s) ≡ m → symbol_number brackets (suffix r p) ≡ n
        → IsBracketStep m n
    by_last zero p s behind has empty from to =
        last p s behind
        (items_from brackets.rules 0 p s behind (rule_of 0 enclosed) has refl) empty from to
    by_last (suc r) p s behind has empty from to = absurd (no_item r p s behind has)

    by_passed :
        (r p : ℕ) (s : Symbol) (behind : List Symbol)
        → HasItem brackets.rules r p s behind → IsNullable brackets.rules s
        → symbol_number brackets (suffix r (suc p)) ≡ m → symbol_number brackets (suffix r p) ≡ n
        → IsBracketStep m n
    by_passed zero p s behind has empty from to =
        passed p s behind
        (items_from brackets.rules 0 p s behind (rule_of 0 enclosed) has refl) empty from to
    by_passed (suc r) p s behind has empty from to = absurd (no_item r p s behind has)

    by_step :
        (a b : BinarySymbol)
        → symbol_number brackets a ≡ m → symbol_number brackets b ≡ n → UnitStep brackets.rules a b
        → IsBracketStep m n
    by_step a b from to (whole_side {r = r} {rule = rule} is) = whole r rule is from to
    by_step a b from to (last_item {r = r} {p = p} {s = s} {behind = behind} has empty) =
        by_last r p s behind has empty from to
    by_step a b from to (passed_item {r = r} {p = p} {s = s} {behind = behind} has empty) =
        by_passed r p s behind has empty from to

-- what reaches within brackets, by number
abbrev BracketReaches : ℕ → ℕ → Type 0
BracketReaches = ReachesBy (StepNumber brackets)

-- the whole right side is `S`
whole_is_category : StepNumber brackets 3 0
whole_is_category =
    number_step brackets (suffix 0 0) (plain (Category 0)) own_brackets (_, refl, omega arith)
    (whole_side refl)

-- `)` is the last item
close_is_last : StepNumber brackets 2 5
close_is_last =
    number_step brackets (plain (Kind 1)) (suffix 0 2) own_brackets (omega arith)
    (last_item has (none_nullable brackets.rules))
  where
    has : HasItem brackets.rules 0 2 (Kind 1) []
    has = record { rule = _; is_rule = refl; is_item = refl }

-- the nullable `S` before it is passed
category_is_passed : StepNumber brackets 5 4
category_is_passed =
    number_step brackets (suffix 0 2) (suffix 0 1) own_brackets (_, refl, omega arith)
    (passed_item has category_is_nullable)
  where
    has : HasItem brackets.rules 0 1 (Category 0) (Kind 1 ∷ [])
    has = record { rule = _; is_rule = refl; is_item = refl }

-- `(` reaches itself alone
pub open_reached : HasReached brackets (plain (Kind 0)) (1 ∷ [])
open_reached =
    has_reached brackets (plain (Kind 0)) 1 (1 ∷ []) own_brackets (omega arith, refl) (inl refl)
    (λ k l next. closed k l (bracket_steps k l next)) (stay, tt)
  where
    closed : (k l : ℕ) → IsBracketStep k l → IsOneOf (1 ∷ []) k → IsOneOf (1 ∷ []) l
    closed k l next within = grind arith

-- `)` reaches itself, the last item, and the last two
pub close_reached : HasReached brackets (plain (Kind 1)) (2 ∷ 5 ∷ 4 ∷ [])
close_reached =
    has_reached brackets (plain (Kind 1)) 2 (2 ∷ 5 ∷ 4 ∷ []) own_brackets (omega arith, refl)
    (inl refl) (λ k l next. closed k l (bracket_steps k l next))
    (stay, (last, (step last category_is_passed, tt)))
  where
    closed :
        (k l : ℕ) → IsBracketStep k l → IsOneOf (2 ∷ 5 ∷ 4 ∷ []) k → IsOneOf (2 ∷ 5 ∷ 4 ∷ []) l
    closed k l next within = grind arith

    last : BracketReaches 2 5
    last = step stay close_is_last

-- the whole right side reaches itself and `S`
pub whole_reached : HasReached brackets (suffix 0 0) (3 ∷ 0 ∷ [])
whole_reached =
    has_reached brackets (suffix 0 0) 3 (3 ∷ 0 ∷ []) own_brackets ((_, refl, omega arith), refl)
    (inl refl) (λ k l next. closed k l (bracket_steps k l next))
    (stay, (step stay whole_is_category, tt))
  where
    closed : (k l : ℕ) → IsBracketStep k l → IsOneOf (3 ∷ 0 ∷ []) k → IsOneOf (3 ∷ 0 ∷ []) l
    closed k l next within = grind arith
