-- Which names are among which, and that the names of tokens stand once.
use Rattle.std.proofs.Common.{◌≡◌, ℕ, zero, suc, ◌+◌, ◌<◌, ◌≤◌, ◌⊎◌, List, [], ◌∷◌, ◌++◌, length, map, filter, take, Bool, true, false, not, ◌||◌, ◌&&◌, Some, slice_get, refl, sym, ap, ◌∙◌, inl, inr, arith}
use Rattle.std.specs.List.{flat_map, list_any}
use Rattle.std.specs.Str.{bytes_eq}
use Rattle.std.specs.Cmp.Lexicographic.{nat_list_eq_equiv}
use Rattle.std.proofs.lemmas.Bool.{cases_Bool, both_ways, false≢true}
use Rattle.std.proofs.lemmas.Grind.{flat_map-append}
use Rattle.std.proofs.lemmas.List.{map-append}
use Rattle.std.proofs.lemmas.List.Folds.{list_any-append}
use Rattle.std.proofs.lemmas.Option.{none-some, same_Some}
use Rattle.std.proofs.lemmas.Slice.Eq.{bytes_eq-Decides}
use Rattle.spec_lexing.specs.declared.expression.Expr.{Expr}
use Rattle.spec_lexing.specs.Predefined.{predefined_kinds, predefined_names}
use Rattle.spec_lbnf.specs.declared.definition.RawRule.{RawRule}
use Rattle.spec_lbnf.specs.declared.definition.Def.{Def}
use Rattle.spec_lbnf.specs.declared.definition.Def.TheVariants.{Rule as RuleDef, Internal, Terminator, Separator, Coercions, Entry, Token, LineComment, BlockComment}
use Rattle.spec_lbnf.specs.Expansion.{rules_of, rules_of_def, item_categories, named_categories, names_in, token_in, token_names, kind_names, is_among, is_active, tokens_of}
use Rattle.spec_lbnf.proofs.NameLemmas.{same_name, any_distinct, any_filter, NoneTwice, none_twice_filter}

pub or_right : (a : Bool) → (a || true) ≡ true
or_right true = refl
or_right false = refl

or_cases : (a b : Bool) → (a || b) ≡ true → (a ≡ true) ⊎ (b ≡ true)
or_cases true b e = inl refl
or_cases false b e = inr e

and_none : (a : Bool) → (a && false) ≡ false
and_none true = refl
and_none false = refl

-- a name that is not among names, and not another one, is not among both
or_none : (a b : Bool) → a ≡ false → b ≡ false → (a || b) ≡ false
or_none true b a_false b_false = a_false
or_none false b a_false b_false = b_false

-- the first of names is among them
pub head_among : (x : List ℕ) (xs : List (List ℕ)) → is_among (x ∷ xs) x ≡ true
head_among x xs = ap (λ b. b || is_among xs x) ((bytes_eq-Decides x x).1 refl)

module _ (xs ys : List (List ℕ)) (name : List ℕ) where
  -- a name is among names side by side where it is among the one or the other
  pub among_both : is_among (xs ++ ys) name ≡ (is_among xs name || is_among ys name)
  among_both = list_any-append (bytes_eq name) xs ys

  pub among_left : is_among xs name ≡ true → is_among (xs ++ ys) name ≡ true
  among_left e = among_both ∙ ap (λ b. b || is_among ys name) e

  pub among_right : is_among ys name ≡ true → is_among (xs ++ ys) name ≡ true
  among_right e = among_both ∙ ap (λ b. is_among xs name || b) e ∙ or_right (is_among xs name)

  pub among_cases : is_among (xs ++ ys) name ≡ true → (is_among xs name ≡ true) ⊎ (is_among ys name ≡ true)
  among_cases e = or_cases (is_among xs name) (is_among ys name) (sym among_both ∙ e)

-- what a list gives of the item at a place is among what it gives of all
pub given_among : {X : Type 0} (gives : X → List (List ℕ)) (xs : List X) (k : ℕ) (x : X) (name : List ℕ)
    → slice_get xs k ≡ Some x → is_among (gives x) name ≡ true → is_among (flat_map gives xs) name ≡ true
given_among gives [] k x name is there = absurd (none-some x is)
given_among gives (y ∷ xs) zero x name is there =
    among_left (gives y) (flat_map gives xs) name (ap (λ z. is_among (gives z) name) (same_Some y x is) ∙ there)
given_among gives (y ∷ xs) (suc k) x name is there =
    among_right (gives y) (flat_map gives xs) name (given_among gives xs k x name is there)

-- and what is among what it gives of all is of the item at some place
pub given_by : {X : Type 0} (gives : X → List (List ℕ)) (xs : List X) (name : List ℕ) → is_among (flat_map gives xs) name ≡ true
    → (k : ℕ) × (x : X) × (slice_get xs k ≡ Some x) × (is_among (gives x) name ≡ true)
given_by gives [] name there = absurd (false≢true there)
given_by gives (x ∷ xs) name there = elim (among_cases (gives x) (flat_map gives xs) name there) [
  | inl own ↦ (0, x, refl, own)
  | inr more ↦ let rest = given_by gives xs name more in (suc rest.0, rest.1, rest.2, rest.3)
]

module _ (passes : List ℕ → Bool) (name : List ℕ) where
  -- a name that passes is among those that do
  pub kept_among : (names : List (List ℕ)) → passes name ≡ true → is_among names name ≡ true → is_among (filter passes names) name ≡ true
  kept_among [] pass there = there
  kept_among (x ∷ names) pass there = elim (cases_Bool (bytes_eq name x)) [
    | inl e ↦
        let too : passes x ≡ true = ap passes (sym (same_name name x e)) ∙ pass in
        rw (too, e) refl
    | inr e ↦ elim (cases_Bool (passes x)) [
      | inl p ↦ rw (p, e) (kept_among names pass (rw e at there))
      | inr p ↦ rw p (kept_among names pass (rw e at there))
    ]
  ]

  -- and one that does not is not
  pub lost_among : (names : List (List ℕ)) → passes name ≡ false → is_among (filter passes names) name ≡ false
  lost_among [] fail = refl
  lost_among (x ∷ names) fail = elim (cases_Bool (passes x)) [
    | inl p ↦ elim (cases_Bool (bytes_eq name x)) [
      | inl e ↦ absurd (both_ways (passes x) (ap passes (sym (same_name name x e)) ∙ fail) p)
      | inr e ↦ rw (p, e) (lost_among names fail)
    ]
    | inr p ↦ rw p (lost_among names fail)
  ]

-- the names of the tokens whose names pass
names_filter : (passes : List ℕ → Bool) (tokens : List (List ℕ × Expr))
    → names_in (filter (λ (token : List ℕ × Expr). passes token.0) tokens) ≡ filter passes (names_in tokens)
names_filter passes [] = refl
names_filter passes (token ∷ tokens) = elim (cases_Bool (passes token.0)) [
  | inl e ↦ rw (e, names_filter passes tokens) refl
  | inr e ↦ rw (e, names_filter passes tokens) refl
]

-- the names of the active predefined kinds
abbrev pub active_names : List Def → List (List ℕ)
active_names defs = filter (is_active defs) predefined_names

-- the names of all tokens
pub names_of_tokens : (defs : List Def) → names_in (tokens_of defs) ≡ token_names defs ++ active_names defs
names_of_tokens defs =
    map-append (λ (token : List ℕ × Expr). token.0) (flat_map token_in defs) _
    ∙ ap (λ names. token_names defs ++ names) (names_filter (is_active defs) predefined_kinds)

-- a name of a kind is that of a token definition, or predefined
pub kind_cases : (defs : List Def) (name : List ℕ) → is_among (kind_names defs) name ≡ true
    → (is_among (token_names defs) name ≡ true) ⊎ (is_among predefined_names name ≡ true)
kind_cases defs name kind =
    among_cases (token_names defs) predefined_names name
    (sym (any_distinct name (token_names defs ++ predefined_names)) ∙ kind)

-- a name of a kind that is named is that of a token
pub kind_named : (defs : List Def) (name : List ℕ) → is_among (flat_map named_categories defs) name ≡ true
    → is_among (kind_names defs) name ≡ true → is_among (names_in (tokens_of defs)) name ≡ true
kind_named defs name named kind = ap (λ names. is_among names name) (names_of_tokens defs) ∙ by (cases_Bool (is_among (token_names defs) name))
  where
    by : (is_among (token_names defs) name ≡ true) ⊎ (is_among (token_names defs) name ≡ false)
        → is_among (token_names defs ++ active_names defs) name ≡ true
    by (inl e) = among_left (token_names defs) (active_names defs) name e
    by (inr e) = elim (kind_cases defs name kind) [
      | inl own ↦ absurd (both_ways (is_among (token_names defs) name) e own)
      | inr predefined ↦
          let active : is_active defs name ≡ true = (λ i. named i && not (e i)) in
          among_right (token_names defs) (active_names defs) name (kept_among (is_active defs) name predefined_names active predefined)
    ]

-- the name of a token is that of a kind
pub token_is_kind : (defs : List Def) (name : List ℕ) → is_among (names_in (tokens_of defs)) name ≡ true
    → is_among (kind_names defs) name ≡ true
token_is_kind defs name token =
    any_distinct name (token_names defs ++ predefined_names)
    ∙ elim (among_cases (token_names defs) (active_names defs) name (sym (ap (λ names. is_among names name) (names_of_tokens defs)) ∙ token)) [
      | inl own ↦ among_left (token_names defs) predefined_names name own
      | inr active ↦ among_right (token_names defs) predefined_names name (among_of_kept active)
    ]
  where
    among_of_kept : is_among (active_names defs) name ≡ true → is_among predefined_names name ≡ true
    among_of_kept active = elim (cases_Bool (is_among predefined_names name)) [
      | inl e ↦ e
      | inr e ↦ absurd (both_ways (is_among (active_names defs) name) (any_filter name (is_active defs) predefined_names e) active)
    ]

-- the categories among the items of a rule
abbrev pub item_texts : RawRule → List (List ℕ)
item_texts rule = item_categories rule.items

-- what the items of a definition's rules are, the definition names
items_named : (def : Def) (name : List ℕ) → is_among (flat_map item_texts (rules_of_def def)) name ≡ true
    → is_among (named_categories def) name ≡ true
items_named (RuleDef rule) name there = there
items_named (Internal rule) name there = there
items_named (Terminator nonempty cat word) name there = there
items_named (Separator nonempty cat word) name there = there
items_named (Coercions first levels) name there = there
items_named (Entry cats) name there = absurd (false≢true there)
items_named (Token own expr) name there = there
items_named (LineComment opening) name there = there
items_named (BlockComment opening closing) name there = there

-- what the items of all rules are, definitions name
pub all_items_named : (defs : List Def) (name : List ℕ) → is_among (flat_map item_texts (rules_of defs)) name ≡ true
    → is_among (flat_map named_categories defs) name ≡ true
all_items_named [] name there = there
all_items_named (def ∷ defs) name there =
    let parts = flat_map-append item_texts (rules_of_def def) (rules_of defs) in
    elim (among_cases (flat_map item_texts (rules_of_def def)) (flat_map item_texts (rules_of defs)) name (sym (ap (λ names. is_among names name) parts) ∙ there)) [
      | inl own ↦ among_left (named_categories def) (flat_map named_categories defs) name (items_named def name own)
      | inr more ↦ among_right (named_categories def) (flat_map named_categories defs) name (all_items_named defs name more)
    ]

-- names that stand once, of which none is among others that do, stand once beside them
pub none_twice_append : (xs ys : List (List ℕ)) → NoneTwice xs → NoneTwice ys
    → ((name : List ℕ) → is_among ys name ≡ true → is_among xs name ≡ false) → NoneTwice (xs ++ ys)
none_twice_append [] ys once once' apart = once'
none_twice_append (x ∷ xs) ys once once' apart = (
  among_both xs ys x ∙ or_none (is_among xs x) (is_among ys x) once.0 (first_apart (cases_Bool (is_among ys x))),
  none_twice_append xs ys once.1 once' (λ name there. rest_apart name (apart name there)),
)
  where
    first_apart : (is_among ys x ≡ true) ⊎ (is_among ys x ≡ false) → is_among ys x ≡ false
    first_apart (inl e) = absurd (both_ways (is_among (x ∷ xs) x) (apart x e) (head_among x xs))
    first_apart (inr e) = e

    rest_apart : (name : List ℕ) → is_among (x ∷ xs) name ≡ false → is_among xs name ≡ false
    rest_apart name none = elim (cases_Bool (is_among xs name)) [
      | inl e ↦ absurd (both_ways (is_among (x ∷ xs) name) none (among_right (x ∷ []) xs name e))
      | inr e ↦ e
    ]

-- no predefined name stands twice
pub predefined_once : NoneTwice predefined_names
predefined_once = (refl, (refl, (refl, (refl, (refl, tt)))))

-- where no name of a token definition stands twice, no name of a token does
pub tokens_once : (defs : List Def) → NoneTwice (token_names defs) → NoneTwice (token_names defs ++ active_names defs)
tokens_once defs once =
    none_twice_append (token_names defs) (active_names defs) once
    (none_twice_filter (is_active defs) predefined_names predefined_once) apart
  where
    apart : (name : List ℕ) → is_among (active_names defs) name ≡ true → is_among (token_names defs) name ≡ false
    apart name active = elim (cases_Bool (is_among (token_names defs) name)) [
      | inl e ↦
          let not_active : is_active defs name ≡ false = ap (λ b. is_among (flat_map named_categories defs) name && not b) e ∙ and_none (is_among (flat_map named_categories defs) name) in
          absurd (both_ways (is_among (active_names defs) name) (lost_among (is_active defs) name predefined_names not_active) active)
      | inr e ↦ e
    ]
