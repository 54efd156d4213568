-- The small definitions pass the checks before the one that they fail, and are at fault there.
use Rattle.std.proofs.Common.{◌≡◌, ℕ, zero, suc, ◌+◌, ◌<◌, List, [], ◌∷◌, ◌++◌, length, map, codes, false, All, Contains, Some, slice_get, refl, sym, ap, ◌∙◌, subst, inl, inr, arith, length-append}
use Rattle.std.specs.List.{list_any, range_with_len}
use Rattle.std.specs.Str.{bytes_eq}
use Rattle.std.proofs.lemmas.Bool.{false≢true}
use Rattle.std.proofs.lemmas.List.{append-nil}
use Rattle.std.proofs.lemmas.List.Elements.{All-nil, All-from_recursion}
use Rattle.std.proofs.lemmas.List.FromFn.{length-map-range_with_len}
use Rattle.std.proofs.lemmas.Option.{none-some, same_Some}
use Rattle.spec_lexing.specs.declared.expression.Expr.{Expr}
use Rattle.spec_grammar.specs.declared.rule.Label.{Label}
use Rattle.spec_grammar.specs.declared.rule.Label.TheVariants.{Named, Wild, Nil, Cons, One}
use Rattle.spec_grammar.specs.declared.rule.Symbol.{Symbol}
use Rattle.spec_grammar.specs.declared.rule.Symbol.TheVariants.{Category, Kind}
use Rattle.spec_grammar.specs.declared.rule.Rule.{Rule as NumberedRule}
use Rattle.spec_grammar.specs.Derivation.{IsNullable}
use Rattle.spec_grammar.specs.Cycles.{StepsTo, Leads}
use Rattle.spec_lbnf.specs.declared.definition.RawItem.{RawItem}
use Rattle.spec_lbnf.specs.declared.definition.RawItem.TheVariants.{Word}
use Rattle.spec_lbnf.specs.declared.definition.RawRule.{RawRule}
use Rattle.spec_lbnf.specs.declared.definition.Def.{Def}
use Rattle.spec_lbnf.specs.declared.definition.Def.TheVariants.{Rule, Coercions, Token}
use Rattle.spec_lbnf.specs.Expansion.{level_rule, bracket_rule, rules_of, named_categories, kind_names, expansion_of}
use Rattle.spec_lbnf.specs.declared.fault.GrammarFault.{GrammarFault}
use Rattle.spec_lbnf.specs.declared.fault.GrammarFault.TheVariants.{BadCoercion, BadList, Cyclic, RepeatedToken, TooManyRules, UnknownCategory}
use Rattle.spec_lbnf.specs.Checks.{IsBadCoercion, IsBadList, IsWellLabelled, own_names, IsTaken, IsFree, RepeatsName, IsFirstRepeated, known_names, IsKnown, NamesKnown}
use Rattle.spec_lbnf.specs.Checks.{IsFirst, HasAt, IsFirstName, IsIllLabelled, IsUnknown, NamesUnknown, IsFirstUnknown, HasOwnNames, IsFirstCyclic}
use Rattle.spec_lbnf.specs.Checks.{IsUnfit, AreFit}
use Rattle.spec_lbnf_cases.specs.ExpansionExamples.{rule, category}
use Rattle.spec_lbnf_cases.specs.CheckExamples.{word_rule, passing_rule, element, double_rule, named_list, internal_rule, SmallChecks}
use Rattle.spec_lbnf.proofs.NameLemmas.{found_there, there_found}
use Rattle.spec_lbnf.proofs.FirstLemmas.{none_at}
use Rattle.spec_lbnf.proofs.CheckLemmas.{ill_or_well}

-- a name that the test does not find is not in the list
not_there : (names : List (List ℕ)) (name : List ℕ) → list_any (bytes_eq name) names ≡ false → Contains names name → ⊥
not_there names name none there = false≢true (sym none ∙ there_found names name there)

module _ {X : Type 0} (P : X → Type 0) where
  -- each element of a list of one
  all_one : (x : X) → P x → All P (x ∷ [])
  all_one x p = All-from_recursion P (x ∷ []) (p, tt)

  -- each element of a list of two
  all_two : (x y : X) → P x → P y → All P (x ∷ y ∷ [])
  all_two x y p q = All-from_recursion P (x ∷ y ∷ []) (p, (q, tt))

-- what is at the head of a list is the first
at_head : {X : Type 0} (IsSuch : X → Type 0) (x : X) (xs : List X) → IsSuch x → IsFirst (HasAt IsSuch (x ∷ xs)) 0
at_head IsSuch x xs such = record { is_so = (x, refl, such); none_before = λ k less at. absurd (omega arith) }

-- where the first definition is no such one, none before the second is
none_but_second : (IsSuch : Def → Type 0) (first : Def) (defs : List Def) → (IsSuch first → ⊥)
    → (k : ℕ) → k < 1 → HasAt IsSuch (first ∷ defs) k → ⊥
none_but_second IsSuch first defs not zero less (other, is, such) = not (subst IsSuch (sym (same_Some first other is)) such)
none_but_second IsSuch first defs not (suc k) less at = absurd (omega arith)

-- a rule with a name is well labelled where its category is no list
named_label : (label name : List ℕ) (items : List RawItem) → IsWellLabelled (Rule (rule (Named label) 0 name items))
named_label label name items = ((λ bad. cc (bad.0)), (λ bad. omega (arith, bad)))

-- as that of one word is
word_label : IsWellLabelled word_rule
word_label = named_label (codes "A") (codes "S") (Word (codes "a") ∷ [])

-- and so is a rule without a label of its own that has one category
passing_label : (name other : List ℕ) → IsWellLabelled (passing_rule name other)
passing_label name other = ((λ bad. bad.1 refl), (λ bad. omega (arith, bad.0)))

-- and coercions of one level or more
levels_label : (name : List ℕ) (levels : ℕ) → 0 < levels → IsWellLabelled (Coercions name levels)
levels_label name levels some = ((λ bad. omega (arith, some, bad)), (λ bad. bad))

-- the second definition is the first bad coercion
second_coercion : (first second : Def) → IsWellLabelled first → IsBadCoercion second
    → IsUnfit (first ∷ second ∷ []) (BadCoercion 1)
second_coercion first second good bad =
    let is_first : IsFirst (HasAt IsIllLabelled (first ∷ second ∷ [])) 1 = record {
      is_so = (second, refl, inl bad);
      none_before = none_but_second IsIllLabelled first (second ∷ []) (λ ill. ill_or_well first ill good);
    } in
    inl (1, is_first, inl ((second, refl, bad), refl))

-- the first definition is a bad list
first_list : (first : Def) (defs : List Def) → IsBadList first → IsUnfit (first ∷ defs) (BadList 0)
first_list first defs bad =
    let is_first : IsFirst (HasAt IsIllLabelled (first ∷ defs)) 0 = at_head IsIllLabelled first defs (inr bad) in
    inl (0, is_first, inr ((first, refl, bad), refl))

-- coercions give a rule for each level, and one for the brackets
coercions_count : (name : List ℕ) (levels : ℕ) → length (rules_of (Coercions name levels ∷ [])) ≡ levels + 1
coercions_count name levels =
    let steps : List RawRule = map (level_rule name) (range_with_len 0 levels) in
    rw (append-nil (steps ++ bracket_rule name levels ∷ []), length-append, length-map-range_with_len) refl

-- 1,024 levels are too many
many_levels : (name : List ℕ) (levels : ℕ) → levels ≡ 1024
    → IsUnfit (Coercions name levels ∷ []) (TooManyRules (levels + 1))
many_levels name levels are =
    let labelled = all_one IsWellLabelled (Coercions name levels) (levels_label name levels (omega arith)) in
    let count = coercions_count name levels in
    inr (labelled, inl (omega (arith, are, count), ap TooManyRules (sym count)))

-- the only definition takes free names
own_one : (def : Def) → All (IsFree (def ∷ []) 0 def) (own_names def) → HasOwnNames (def ∷ [])
own_one def free zero other is = subst (λ (d : Def). All (IsFree (def ∷ []) 0 d) (own_names d)) (same_Some def other is) free
own_one def free (suc n) other is = absurd (none-some other is)

-- and so do two definitions
own_two : (a b : Def) → All (IsFree (a ∷ b ∷ []) 0 a) (own_names a) → All (IsFree (a ∷ b ∷ []) 1 b) (own_names b)
    → HasOwnNames (a ∷ b ∷ [])
own_two a b first second zero other is =
    subst (λ (d : Def). All (IsFree (a ∷ b ∷ []) 0 d) (own_names d)) (same_Some a other is) first
own_two a b first second (suc zero) other is =
    subst (λ (d : Def). All (IsFree (a ∷ b ∷ []) 1 d) (own_names d)) (same_Some b other is) second
own_two a b first second (suc (suc n)) other is = absurd (none-some other is)

-- the first definition repeats its only name
first_repeats : (def : Def) (defs : List Def) (name : List ℕ) → own_names def ≡ name ∷ [] → IsTaken (def ∷ defs) 0 def name
    → IsFirstRepeated (def ∷ defs) name
first_repeats def defs name own taken =
    let named : IsFirstName (IsTaken (def ∷ defs) 0 def) (own_names def) name
    = subst (λ (names : List (List ℕ)). IsFirstName (IsTaken (def ∷ defs) 0 def) names name) (sym own)
    (0, at_head (IsTaken (def ∷ defs) 0 def) name [] taken, refl) in
    record {
      number = 0;
      first = record { is_so = (def, refl, (0, named.1.is_so)); none_before = λ k less repeats. absurd (omega (arith, less)) };
      def = def;
      is_def = refl;
      first_name = named;
    }

-- a predefined name with a rule
own_name : IsUnfit (passing_rule (codes "Integer") (codes "T") ∷ []) (RepeatedToken (codes "Integer"))
own_name =
    let name : List ℕ = codes "Integer" in
    let def : Def = passing_rule name (codes "T") in
    let there : IsTaken (def ∷ []) 0 def name = found_there (kind_names (def ∷ [])) name refl in
    let labelled = all_one IsWellLabelled def (passing_label name (codes "T")) in
    inr (labelled, inr (omega arith, inl (name, first_repeats def [] name refl there, refl)))

-- a definition of a token is well labelled
token_label : (name : List ℕ) (expr : Expr) → IsWellLabelled (Token name expr)
token_label name expr = ((λ bad. bad), (λ bad. bad))

-- a rule's category that is the name of a later token
later_token : (expr : Expr) → IsUnfit (word_rule ∷ Token (codes "S") expr ∷ []) (RepeatedToken (codes "S"))
later_token expr =
    let name : List ℕ = codes "S" in
    let defs : List Def = word_rule ∷ Token name expr ∷ [] in
    let there : IsTaken defs 0 word_rule name = found_there (kind_names defs) name refl in
    let labelled = all_two IsWellLabelled word_rule (Token name expr) word_label (token_label name expr) in
    inr (labelled, inr (omega arith, inl (name, first_repeats word_rule (Token name expr ∷ []) name refl there, refl)))

-- two tokens of one name
two_tokens : (expr : Expr) → IsUnfit (Token (codes "T") expr ∷ Token (codes "T") expr ∷ []) (RepeatedToken (codes "T"))
two_tokens expr =
    let name : List ℕ = codes "T" in
    let def : Def = Token name expr in
    let defs : List Def = def ∷ def ∷ [] in
    let taken : IsTaken defs 1 def name = found_there (name ∷ []) name refl in
    let named : IsFirstName (IsTaken defs 1 def) (own_names def) name = (0, at_head (IsTaken defs 1 def) name [] taken, refl) in
    let labelled = all_two IsWellLabelled def def (token_label name expr) (token_label name expr) in
    let repeated : IsFirstRepeated defs name = record {
      number = 1;
      first = record { is_so = (def, refl, (0, named.1.is_so)); none_before = first_takes_free };
      def = def;
      is_def = refl;
      first_name = named;
    } in
    inr (labelled, inr (omega arith, inl (name, repeated, refl)))
  where
    first_takes_free : (k : ℕ) → k < 1 → RepeatsName (Token (codes "T") expr ∷ Token (codes "T") expr ∷ []) k → ⊥
    first_takes_free zero less (def, is, (place, (name, at, taken))) =
        let own : IsTaken (Token (codes "T") expr ∷ Token (codes "T") expr ∷ []) 0 (Token (codes "T") expr) name
        = subst (λ (d : Def). IsTaken (Token (codes "T") expr ∷ Token (codes "T") expr ∷ []) 0 d name) (sym (same_Some (Token (codes "T") expr) def is)) taken in
        not_there [] name refl own
    first_takes_free (suc k) less repeats = absurd (omega (arith, less))

-- a rule of S, and behind it one for S whose one item is T
module _ (label : Label) (items : List RawItem) where
  abbrev first_rule : Def
  first_rule = Rule (rule label 0 (codes "S") items)

  abbrev second_rule : Def
  second_rule = passing_rule (codes "S") (codes "T")

  abbrev two_rules : List Def
  two_rules = first_rule ∷ second_rule ∷ []

  two_free : HasOwnNames two_rules
  two_free =
      let none : Contains (kind_names two_rules) (codes "S") → ⊥ = not_there (kind_names two_rules) (codes "S") refl in
      own_two first_rule second_rule (all_one (IsFree two_rules 0 first_rule) (codes "S") none)
      (all_one (IsFree two_rules 1 second_rule) (codes "S") none)

  second_unknown : NamesKnown two_rules first_rule → IsFirstUnknown two_rules (codes "T") 1
  second_unknown known = record {
    first = record {
      is_so = (second_rule, refl, (0, is_named.1.is_so));
      none_before =
          none_but_second (NamesUnknown two_rules) first_rule (second_rule ∷ [])
          (λ unknown. none_at (IsKnown two_rules) (named_categories first_rule) (IsUnknown two_rules)
          (λ text un kn. un kn) known unknown.0 unknown.1);
    };
    def = second_rule;
    is_def = refl;
    first_name = is_named;
  }
    where
      is_named : IsFirstName (IsUnknown two_rules) (named_categories second_rule) (codes "T")
      is_named = (0, at_head (IsUnknown two_rules) (codes "T") [] (not_there (known_names two_rules) (codes "T") refl), refl)

  -- where the first rule is good, the category is the first unknown one
  no_rule : IsWellLabelled first_rule → NamesKnown two_rules first_rule → IsUnfit two_rules (UnknownCategory (codes "T") 1)
  no_rule good known =
      let labelled = all_two IsWellLabelled first_rule second_rule good (passing_label (codes "S") (codes "T")) in
      inr (labelled, inr (omega arith, inr (two_free, inl (codes "T", 1, second_unknown known, refl))))

-- the one item of a right side is its item
only_item : (before behind : List Symbol) (s item : Symbol) → item ∷ [] ≡ before ++ (s ∷ behind) → item ≡ s
only_item [] behind s item is = cc
only_item (first ∷ []) behind s item is = absurd (cc)
only_item (first ∷ second ∷ before) behind s item is = absurd (cc)

-- a rule of one word makes no step
word_stands : (r a b : ℕ) (numbered : NumberedRule) (before behind : List Symbol)
    → slice_get (expansion_of (word_rule ∷ [])).rules r ≡ Some numbered → numbered.items ≡ before ++ (Category b ∷ behind) → ⊥
word_stands zero a b numbered before behind is items =
    let own : numbered.items ≡ Kind 0 ∷ [] = cc in
    let same = only_item before behind (Category b) (Kind 0) (sym own ∙ items) in
    cc
word_stands (suc r) a b numbered before behind is items = absurd (cc)

-- so it is fit
word : AreFit (word_rule ∷ [])
word = record {
  labelled = all_one IsWellLabelled word_rule word_label;
  few = omega arith;
  own_names =
      own_one word_rule
      (all_one (IsFree (word_rule ∷ []) 0 word_rule) (codes "S") (not_there (kind_names (word_rule ∷ [])) (codes "S") refl));
  known = all_one (NamesKnown (word_rule ∷ [])) word_rule (All-nil (IsKnown (word_rule ∷ [])));
  acyclic = λ c cyclic.
      let step = (cyclic.1).1 in
      word_stands step.r c (cyclic.1).0 step.rule step.before step.behind step.is_rule step.is_item;
}

-- an internal rule, and a rule that passes on its category
abbrev with_internal : List Def
with_internal = internal_rule ∷ passing_rule (codes "S") (codes "U") ∷ []

-- a rule that passes on S, and another one for S
abbrev with_cycle : List Def
with_cycle = passing_rule (codes "R") (codes "S") ∷ passing_rule (codes "S") (codes "S") ∷ []

-- where each step leads to category 1, each chain does
chain_ends : (rules : List NumberedRule) → ((a b : ℕ) → StepsTo rules a b → b ≡ 1) → (n a c : ℕ) → Leads rules (suc n) a c → c ≡ 1
chain_ends rules ends zero a c leads = omega (arith, ends a leads.0 leads.1, leads.2)
chain_ends rules ends (suc n) a c leads = chain_ends rules ends n leads.0 c leads.2

-- the one step beside an internal rule is from S to U
internal_steps : (r b : ℕ) (numbered : NumberedRule) (before behind : List Symbol)
    → slice_get (expansion_of with_internal).rules r ≡ Some numbered → numbered.items ≡ before ++ (Category b ∷ behind)
    → (numbered.category ≡ 0) × (b ≡ 1)
internal_steps zero b numbered before behind is items =
    let own : numbered.items ≡ Category 1 ∷ [] = cc in
    let same = only_item before behind (Category b) (Category 1) (sym own ∙ items) in
    (cc, cc)
internal_steps (suc r) b numbered before behind is items = absurd (cc)

-- so the definitions are fit
internal : AreFit with_internal
internal = record {
  labelled =
      let hidden = named_label (codes "B") (codes "U") (category (codes "T") ∷ []) in
      all_two IsWellLabelled internal_rule (passing_rule (codes "S") (codes "U")) hidden (passing_label (codes "S") (codes "U"));
  few = omega arith;
  own_names =
      let second : Def = passing_rule (codes "S") (codes "U") in
      own_two internal_rule second
      (all_one (IsFree with_internal 0 internal_rule) (codes "U") (not_there (kind_names with_internal) (codes "U") refl))
      (all_one (IsFree with_internal 1 second) (codes "S") (not_there (kind_names with_internal) (codes "S") refl));
  known =
      let there : IsKnown with_internal (codes "U") = found_there (known_names with_internal) (codes "U") refl in
      all_two (NamesKnown with_internal) internal_rule (passing_rule (codes "S") (codes "U"))
      (All-nil (IsKnown with_internal)) (all_one (IsKnown with_internal) (codes "U") there);
  acyclic = λ c cyclic.
      let first = (cyclic.1).1 in
      let start = internal_steps first.r (cyclic.1).0 first.rule first.before first.behind first.is_rule first.is_item in
      let finish = chain_ends (expansion_of with_internal).rules internal_ends cyclic.0 c c cyclic.1 in
      omega (arith, start.0, first.is_of, finish);
}
  where
    internal_ends : (a b : ℕ) → StepsTo (expansion_of with_internal).rules a b → b ≡ 1
    internal_ends a b step = (internal_steps step.r b step.rule step.before step.behind step.is_rule step.is_item).1

-- both rules lead to S
cycle_steps : (r b : ℕ) (numbered : NumberedRule) (before behind : List Symbol)
    → slice_get (expansion_of with_cycle).rules r ≡ Some numbered → numbered.items ≡ before ++ (Category b ∷ behind) → b ≡ 1
cycle_steps zero b numbered before behind is items =
    let own : numbered.items ≡ Category 1 ∷ [] = cc in
    let same = only_item before behind (Category b) (Category 1) (sym own ∙ items) in
    cc
cycle_steps (suc zero) b numbered before behind is items =
    let own : numbered.items ≡ Category 1 ∷ [] = cc in
    let same = only_item before behind (Category b) (Category 1) (sym own ∙ items) in
    cc
cycle_steps (suc (suc r)) b numbered before behind is items = absurd (cc)

-- S reaches itself by its rule
last_steps : StepsTo (expansion_of with_cycle).rules 1 1
last_steps = record {
  r = 1;
  rule = record { label = Wild; category = 1; items = Category 1 ∷ [] };
  is_rule = refl;
  is_of = refl;
  before = [];
  behind = [];
  is_item = refl;
  nullable_before = All-nil (IsNullable (expansion_of with_cycle).rules);
  nullable_behind = All-nil (IsNullable (expansion_of with_cycle).rules);
}

-- and R, which is category 0, does not
first_cycle : IsFirstCyclic (expansion_of with_cycle) (codes "S")
first_cycle = (
  1,
  record {
    is_so = (0, (1, last_steps, refl));
    none_before = λ c less cyclic. omega (arith, less, chain_ends (expansion_of with_cycle).rules ends cyclic.0 c c cyclic.1);
  },
  refl,
)
  where
    ends : (a b : ℕ) → StepsTo (expansion_of with_cycle).rules a b → b ≡ 1
    ends a b step = cycle_steps step.r b step.rule step.before step.behind step.is_rule step.is_item

-- the other checks are passed
cycle : IsUnfit with_cycle (Cyclic (codes "S"))
cycle =
    let first : Def = passing_rule (codes "R") (codes "S") in
    let second : Def = passing_rule (codes "S") (codes "S") in
    let is_there : IsKnown with_cycle (codes "S") = found_there (known_names with_cycle) (codes "S") refl in
    let there = all_one (IsKnown with_cycle) (codes "S") is_there in
    let labelled = all_two IsWellLabelled first second (passing_label (codes "R") (codes "S")) (passing_label (codes "S") (codes "S")) in
    let own =
    own_two first second
    (all_one (IsFree with_cycle 0 first) (codes "R") (not_there (kind_names with_cycle) (codes "R") refl))
    (all_one (IsFree with_cycle 1 second) (codes "S") (not_there (kind_names with_cycle) (codes "S") refl)) in
    let known = all_two (NamesKnown with_cycle) first second there there in
    inr (labelled, inr (omega arith, inr (own, inr (known, (codes "S", first_cycle, refl)))))

-- a word, and a category that no rule has, behind it
behind_word : IsUnfit (word_rule ∷ passing_rule (codes "S") (codes "T") ∷ []) (UnknownCategory (codes "T") 1)
behind_word =
    let none = All-nil (IsKnown (word_rule ∷ passing_rule (codes "S") (codes "T") ∷ [])) in
    no_rule (Named (codes "A")) (Word (codes "a") ∷ []) word_label none

-- a cycle, and such a category behind it
behind_cycle :
    IsUnfit (passing_rule (codes "S") (codes "S") ∷ passing_rule (codes "S") (codes "T") ∷ []) (UnknownCategory (codes "T") 1)
behind_cycle =
    let defs : List Def = passing_rule (codes "S") (codes "S") ∷ passing_rule (codes "S") (codes "T") ∷ [] in
    let is_there : IsKnown defs (codes "S") = found_there (known_names defs) (codes "S") refl in
    no_rule Wild (element ∷ []) (passing_label (codes "S") (codes "S")) (all_one (IsKnown defs) (codes "S") is_there)

pub small_checks : SmallChecks
small_checks = record {
  word = word;
  internal = internal;
  two_items = second_coercion word_rule double_rule word_label (refl, λ one. omega (arith, one));
  named_list = first_list named_list (Coercions (codes "E") 0 ∷ []) (omega arith);
  nil_of_no_list = first_list (Rule (rule Nil 0 (codes "S") [])) [] (inl (λ is_list. omega (arith, is_list)));
  one_of_no_item = first_list (Rule (rule One 1 (codes "S") [])) [] (inr (λ one. omega (arith, one)));
  cons_of_no_list =
      first_list (Rule (rule Cons 1 (codes "S") (element ∷ element ∷ []))) [] (inr (λ is_list. omega (arith, is_list)));
  list_of_no_list =
      first_list (Rule (rule Wild 1 (codes "S") (element ∷ []))) [] (omega arith, λ is_list. omega (arith, is_list));
  many_rules = many_levels (codes "E") 1024 refl;
  no_level =
      let good = levels_label (codes "E") 1024 (omega arith) in
      second_coercion (Coercions (codes "E") 1024) (Coercions (codes "E") 0) good refl;
  own_name = own_name;
  two_tokens = two_tokens;
  later_token = later_token;
  no_rule = behind_word;
  no_rule_behind_cycle = behind_cycle;
  cycle = cycle;
}
