-- The unit steps of `S ::= S S S`, `S ::= a`, by number, and what they reach.
use Rattle.std.proofs.Common.{◌≡◌, ℕ, ◌⊎◌, List, [], ◌∷◌, Some, zero, suc, refl, ap, slice_get, drop, inl, inr, arith}
use Rattle.spec_grammar.specs.declared.rule.Symbol.{Symbol}
use Rattle.spec_grammar.specs.declared.rule.Symbol.TheVariants.{Category, Kind}
use Rattle.spec_grammar.specs.declared.rule.Rule.{Rule}
use Rattle.spec_grammar.specs.Derivation.{IsNullable}
use Rattle.spec_grammar.specs.Grammars.{rule_of}
use Rattle.spec_grammar.proofs.DerivationLemmas.{AreFull, derives_grows}
use Rattle.spec_grammar.specs.Grammars.{HasOwnSymbols}
use Rattle.binary_form.specs.Symbols.{BinarySymbol, plain, suffix, symbol_number}
use Rattle.binary_form.specs.UnitSteps.{HasItem, AreNullable, UnitStep, whole_side, last_item, passed_item}
use Rattle.binary_form.specs.NumberSteps.{StepNumber}
use Rattle.number_graph.specs.Graphs.{ReachesBy, stay, step}
use Rattle.chart_cases.specs.BinaryCases.{triples}
use Rattle.binary_form.proofs.ItemLemmas.{drop_within, items_from}
use Rattle.binary_form.proofs.EmptySpanLemmas.{none_nullable, some_nullable}
use Rattle.binary_form.proofs.ReachLemmas.{number_step}
use Rattle.binary_form.proofs.CellLemmas.{IsOneOf, HasReached, has_reached, own_rule}

-- the right side of `S ::= S S S`
abbrev pub three : List Symbol
three = Category 0 ∷ Category 0 ∷ Category 0 ∷ []

-- the right side of `S ::= a`
abbrev pub word : List Symbol
word = Kind 0 ∷ []

-- the items of triples are its symbols
pub own_triples : HasOwnSymbols triples
own_triples zero rule is =
    own_rule triples (rule_of 0 three) rule is (omega arith)
    (omega arith, (omega arith, (omega arith, tt)))
own_triples (suc zero) rule is =
    own_rule triples (rule_of 0 word) rule is (omega arith) (omega arith, tt)
own_triples (suc (suc r)) rule is = absurd (cc)

-- no right side is empty
full_triples : AreFull triples.rules
full_triples zero rule is empty = cc
full_triples (suc zero) rule is empty = cc
full_triples (suc (suc r)) rule is empty = cc

-- so no symbol is nullable
none_is_nullable : (s : Symbol) → IsNullable triples.rules s → ⊥
none_is_nullable s d = omega (arith, derives_grows triples.rules [] full_triples s 0 0 d)

-- the unit steps of triples
abbrev IsTripleStep : ℕ → ℕ → Type 0
IsTripleStep m n =
    (((m ≡ 2) ⊎ (m ≡ 5)) × (n ≡ 0)) ⊎ (((m ≡ 0) × (n ≡ 4)) ⊎ ((m ≡ 1) × (n ≡ 5)))

-- each unit step of triples is one of these
triple_steps : (m n : ℕ) → StepNumber triples m n → IsTripleStep m n
triple_steps m n x = by_step x.0 x.1 x.2.1 x.3.1 x.4
  where
    whole :
        (r : ℕ) (rule : Rule)
        → slice_get triples.rules r ≡ Some rule → symbol_number triples (suffix r 0) ≡ m
        → rule.category ≡ n → IsTripleStep m n
    whole zero rule is from to =
        let category : rule.category ≡ 0 = cc in
        inl (inl (omega arith), omega arith)
    whole (suc zero) rule is from to =
        let category : rule.category ≡ 0 = cc in
        inl (inr (omega arith), omega arith)
    whole (suc (suc r)) rule is from to = absurd (cc)

    last_of_three :
        (p : ℕ) (s : Symbol)
        → drop p three ≡ s ∷ [] → symbol_number triples (plain s) ≡ m
        → symbol_number triples (suffix 0 p) ≡ n → IsTripleStep m n
    last_of_three zero s is from to = absurd (cc)
    last_of_three (suc zero) s is from to = absurd (cc)
    last_of_three (suc (suc zero)) s is from to =
        let category : s ≡ Category 0 = cc in
        let number : symbol_number triples (plain s) ≡ 0 =
        ap (λ x. symbol_number triples (plain x)) category in
        inr (inl (omega arith, omega arith))
    last_of_three (suc (suc (suc p))) s is from to =
        absurd (omega (arith, drop_within three (suc (suc (suc p))) s [] is))

    last_of_one :
        (p : ℕ) (s : Symbol)
        → drop p word ≡ s ∷ [] → symbol_number triples (plain s) ≡ m
        → symbol_number triples (suffix 1 p) ≡ n → IsTripleStep m n
    last_of_one zero s is from to =
        let kind : s ≡ Kind 0 = cc in
        let number : symbol_number triples (plain s) ≡ 1 =
        ap (λ x. symbol_number triples (plain x)) kind in
        inr (inr (omega arith, omega arith))
    last_of_one (suc p) s is from to =
        absurd (omega (arith, drop_within word (suc p) s [] is))

    last :
        (r p : ℕ) (s : Symbol) (behind : List Symbol)
        → HasItem triples.rules r p s behind → AreNullable triples.rules behind
        → symbol_number triples (plain s) ≡ m → symbol_number triples (suffix r p) ≡ n
        → IsTripleStep m n
    last zero p s [] has empty from to =
        last_of_three p s (items_from triples.rules 0 p s [] (rule_of 0 three) has refl) from to
    last (suc zero) p s [] has empty from to =
        last_of_one p s (items_from triples.rules 1 p s [] (rule_of 0 word) has refl) from to
    last (suc (suc r)) p s [] has empty from to = let e = has.is_rule in absurd (cc)
    last r p s (t ∷ behind) has empty from to =
        absurd (none_is_nullable t ((some_nullable triples.rules t behind).0 empty).0)

    by_step :
        (a b : BinarySymbol)
        → symbol_number triples a ≡ m → symbol_number triples b ≡ n → UnitStep triples.rules a b
        → IsTripleStep m n
    by_step a b from to (whole_side {r = r} {rule = rule} is) = whole r rule is from to
    by_step a b from to (last_item {r = r} {p = p} {s = s} {behind = behind} has empty) =
        last r p s behind has empty from to
    by_step a b from to (passed_item {s = s} has empty) = absurd (none_is_nullable s empty)

-- what reaches within triples, by number
abbrev TripleReaches : ℕ → ℕ → Type 0
TripleReaches = ReachesBy (StepNumber triples)

-- the whole of three is `S`
three_is_category : StepNumber triples 2 0
three_is_category =
    number_step triples (suffix 0 0) (plain (Category 0)) own_triples (_, refl, omega arith)
    (whole_side refl)

-- the whole of `a` is `S`
word_is_category : StepNumber triples 5 0
word_is_category =
    number_step triples (suffix 1 0) (plain (Category 0)) own_triples (_, refl, omega arith)
    (whole_side refl)

-- `S` is the last of three
category_is_last : StepNumber triples 0 4
category_is_last =
    number_step triples (plain (Category 0)) (suffix 0 2) own_triples (omega arith)
    (last_item has (none_nullable triples.rules))
  where
    has : HasItem triples.rules 0 2 (Category 0) []
    has = record { rule = _; is_rule = refl; is_item = refl }

-- `a` is the whole of its rule
kind_is_word : StepNumber triples 1 5
kind_is_word =
    number_step triples (plain (Kind 0)) (suffix 1 0) own_triples (omega arith)
    (last_item has (none_nullable triples.rules))
  where
    has : HasItem triples.rules 1 0 (Kind 0) []
    has = record { rule = _; is_rule = refl; is_item = refl }

-- `a` reaches itself, the whole of its rule, `S`, and the last of three
pub word_reached : HasReached triples (plain (Kind 0)) (1 ∷ 5 ∷ 0 ∷ 4 ∷ [])
word_reached =
    has_reached triples (plain (Kind 0)) 1 (1 ∷ 5 ∷ 0 ∷ 4 ∷ []) own_triples (omega arith, refl)
    (inl refl) (λ k l next. closed k l (triple_steps k l next))
    (itself, (whole, (category, (step category category_is_last, tt))))
  where
    closed :
        (k l : ℕ)
        → IsTripleStep k l → IsOneOf (1 ∷ 5 ∷ 0 ∷ 4 ∷ []) k → IsOneOf (1 ∷ 5 ∷ 0 ∷ 4 ∷ []) l
    closed k l next within = grind arith

    itself : TripleReaches 1 1
    itself = stay

    whole : TripleReaches 1 5
    whole = step itself kind_is_word

    category : TripleReaches 1 0
    category = step whole word_is_category

-- the whole of three reaches itself, `S`, and the last of three
pub three_reached : HasReached triples (suffix 0 0) (0 ∷ 2 ∷ 4 ∷ [])
three_reached =
    has_reached triples (suffix 0 0) 2 (0 ∷ 2 ∷ 4 ∷ []) own_triples
    ((_, refl, omega arith), refl) (inr (inl refl))
    (λ k l next. closed k l (triple_steps k l next))
    (category, (stay, (step category category_is_last, tt)))
  where
    closed :
        (k l : ℕ) → IsTripleStep k l → IsOneOf (0 ∷ 2 ∷ 4 ∷ []) k → IsOneOf (0 ∷ 2 ∷ 4 ∷ []) l
    closed k l next within = grind arith

    category : TripleReaches 2 0
    category = step stay three_is_category

-- the last two of three reach themselves alone
pub two_reached : HasReached triples (suffix 0 1) (3 ∷ [])
two_reached =
    has_reached triples (suffix 0 1) 3 (3 ∷ []) own_triples ((_, refl, omega arith), refl)
    (inl refl) (λ k l next. closed k l (triple_steps k l next)) (stay, tt)
  where
    closed : (k l : ℕ) → IsTripleStep k l → IsOneOf (3 ∷ []) k → IsOneOf (3 ∷ []) l
    closed k l next within = grind arith
