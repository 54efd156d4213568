-- Symbols by their names, added one by one.
use Rattle.std.proofs.Common.{◌↔◌, IsTrue, ◌≡◌, ℕ, zero, suc, ◌+◌, ◌<◌, ◌≤◌, ◌⊎◌, List, [], ◌∷◌, ◌++◌, length, take, map, get_or, Bool, true, false, cond, Vec, Global, Option, Some, None, is_some, slice_get, Contains, MatchOption, refl, sym, ap, subst, ◌∙◌, inl, inr, arith, append-nil, append_assoc}
use Rattle.std.specs.Map.{lookup}
use Rattle.std.specs.Str.{bytes_eq}
use Rattle.std.proofs.lemmas.Bool.{cases_Bool, both_ways, false≢true}
use Rattle.std.proofs.lemmas.List.{length-take-le, take_more, map-append}
use Rattle.std.proofs.lemmas.List.Elements.{Contains-append_cases, Contains-append_left, Contains-append_right, Contains-push_cases, Contains-get_or}
use Rattle.std.proofs.lemmas.Option.{none-some, same_Some, slice_get_read, slice_get_within}
use Rattle.std.proofs.lemmas.Slice.Eq.{bytes_eq-Decides}
use Rattle.indexmap.specs.IndexMap.{IndexMap, insert_entry}
use Rattle.indexmap.proofs.CallerLemmas.{insert_entry-new}
use Rattle.spec_lexing.specs.declared.kind_def.KindDef.{KindDef}
use Rattle.spec_lexing.specs.declared.kind_def.KindDef.TheVariants.{Word, Token}
use Rattle.spec_grammar.specs.declared.rule.Symbol.{Symbol}
use Rattle.spec_grammar.specs.declared.rule.Symbol.TheVariants.{Category, Kind}
use Rattle.spec_grammar.specs.Grammars.{Grammar, IsTokenNamed, HasName, HasDistinctNames, IsSymbolOf}
use Rattle.numbered_grammar.specs.Making.{grammar_of_symbols, FindsSymbol}
use Rattle.numbered_grammar.specs.Places.{categories_from, kinds_from, named_symbols, entries_in, symbol_in, HasEntry, HasOneEach, AddsSymbol, AddsKind, AddsAll, GivesPlaces}

-- an entry of a name
abbrev Entry : Type 0
Entry = List ℕ × Symbol

module _ {X : Type 0} where
  -- nothing is in an empty list
  none_there : (x : X) → Contains [] x → ⊥
  none_there x there = omega (arith, there.1)

  -- the first item is in the list
  head_there : (x : X) (xs : List X) → Contains (x ∷ xs) x
  head_there x xs = Contains-get_or (x ∷ xs) 0 x (omega arith)

  -- an item behind the first is in the list
  behind_there : (x y : X) (xs : List X) → Contains xs y → Contains (x ∷ xs) y
  behind_there x y xs there = Contains-append_right (x ∷ []) xs y there

  -- an item is the first, or behind it
  cons_cases : (x y : X) (xs : List X) → Contains (x ∷ xs) y → (x ≡ y) ⊎ Contains xs y
  cons_cases x y xs there = elim (Contains-append_cases (x ∷ []) xs y there) [
    | inl own ↦ elim (Contains-push_cases [] x y own) [
      | inl none ↦ absurd (none_there y none)
      | inr same ↦ inl same
    ]
    | inr more ↦ inr more
  ]

  -- what stands at a place of a front stands there, before its end
  taken : (n : ℕ) (xs : List X) (c : ℕ) (x : X) → slice_get (take n xs) c ≡ Some x → (c < n) × (slice_get xs c ≡ Some x)
  taken zero xs c x is = absurd (none-some x is)
  taken (suc n) [] c x is = absurd (none-some x is)
  taken (suc n) (y ∷ xs) zero x is = (omega arith, is)
  taken (suc n) (y ∷ xs) (suc c) x is = let rest = taken n xs c x is in (omega (arith, rest.0), rest.1)

-- the symbol that is found is among the entries
found_entry : (entries : List Entry) (name : List ℕ) (s : Symbol) → symbol_in entries name ≡ Some s → HasEntry entries name s
found_entry [] name s is = absurd (none-some s is)
found_entry (entry ∷ entries) name s is = elim (cases_Bool (bytes_eq name entry.0)) [
  | inl e ↦
      let value : entry.1 ≡ s = same_Some entry.1 s (rw e at is) in
      let own : name ≡ entry.0 = (bytes_eq-Decides name entry.0).0 e in
      subst (λ (x : Entry). Contains (entry ∷ entries) x) (λ i. (sym own i, value i)) (head_there entry entries)
  | inr e ↦ behind_there entry (name, s) entries (found_entry entries name s (rw e at is))
]

-- where none is found, none is
no_entry : (entries : List Entry) (name : List ℕ) (s : Symbol) → symbol_in entries name ≡ None → HasEntry entries name s → ⊥
no_entry [] name s none there = none_there (name, s) there
no_entry (entry ∷ entries) name s none there = elim (cases_Bool (bytes_eq name entry.0)) [
  | inl e ↦ none-some entry.1 (sym (rw e at none))
  | inr e ↦ elim (cons_cases entry (name, s) entries there) [
    | inl same ↦
        both_ways (bytes_eq name entry.0) e ((bytes_eq-Decides name entry.0).1 (sym (ap (λ (x : Entry). x.0) same)))
    | inr more ↦ no_entry entries name s (rw e at none) more
  ]
]

-- where some is found, one is
some_entry : (entries : List Entry) (name : List ℕ) → is_some (symbol_in entries name) ≡ true → (s : Symbol) × HasEntry entries name s
some_entry entries name some = by (symbol_in entries name) refl some
  where
    by : (found : Option Symbol) → symbol_in entries name ≡ found → is_some found ≡ true → (s : Symbol) × HasEntry entries name s
    by None is e = absurd (false≢true e)
    by (Some s) is e = (s, found_entry entries name s is)

-- what is not found is nothing
not_found : (found : Option Symbol) → is_some found ≡ false → found ≡ None
not_found None e = refl
not_found (Some s) e = absurd (false≢true (sym e))

-- a category that is among the entries has the name
category_entry : (n : ℕ) (names : List (List ℕ)) (name : List ℕ) (s : Symbol) → HasEntry (categories_from n names) name s
    → (c : ℕ) × (s ≡ Category (n + c)) × (slice_get names c ≡ Some name)
category_entry n [] name s there = absurd (none_there (name, s) there)
category_entry n (own ∷ names) name s there = elim (cons_cases (own, Category n) (name, s) (categories_from (n + 1) names) there) [
  | inl same ↦ (
    0,
    sym (ap (λ (x : Entry). x.1) same) ∙ ap Category (omega arith),
    ap (λ (x : Entry). Some x.0) same,
  )
  | inr more ↦
      let rest = category_entry (n + 1) names name s more in
      (suc rest.0, rest.1 ∙ ap Category (omega arith), rest.2)
]

-- and one that has the name is among them
category_there : (n : ℕ) (names : List (List ℕ)) (c m : ℕ) (name : List ℕ) → slice_get names c ≡ Some name → m ≡ n + c
    → HasEntry (categories_from n names) name (Category m)
category_there n [] c m name is number = absurd (none-some name is)
category_there n (own ∷ names) zero m name is number =
    let same_number : n ≡ m = omega (arith, number) in
    subst (λ (x : Entry). Contains (categories_from n (own ∷ names)) x) (λ i. (same_Some own name is i, Category (same_number i)))
    (head_there (own, Category n) (categories_from (n + 1) names))
category_there n (own ∷ names) (suc c) m name is number =
    behind_there (own, Category n) (name, Category m) (categories_from (n + 1) names)
    (category_there (n + 1) names c m name is (omega (arith, number)))

-- a kind that is among the entries has the name
kind_entry : (n : ℕ) (kinds : List KindDef) (name : List ℕ) (s : Symbol) → HasEntry (kinds_from n kinds) name s
    → (k : ℕ) × (kind : KindDef) × (s ≡ Kind (n + k)) × (slice_get kinds k ≡ Some kind) × IsTokenNamed kind name
kind_entry n [] name s there = absurd (none_there (name, s) there)
kind_entry n (Word word ∷ kinds) name s there =
    let rest = kind_entry (n + 1) kinds name s there in
    (suc rest.0, rest.1, rest.2 ∙ ap Kind (omega arith), rest.3, rest.4)
kind_entry n (Token own expr ∷ kinds) name s there = elim (cons_cases (own, Kind n) (name, s) (kinds_from (n + 1) kinds) there) [
  | inl same ↦ (
    0,
    Token own expr,
    sym (ap (λ (x : Entry). x.1) same) ∙ ap Kind (omega arith),
    refl,
    ap (λ (x : Entry). x.0) same,
  )
  | inr more ↦
      let rest = kind_entry (n + 1) kinds name s more in
      (suc rest.0, rest.1, rest.2 ∙ ap Kind (omega arith), rest.3, rest.4)
]

-- and one that has the name is among them
kind_there : (n : ℕ) (kinds : List KindDef) (k m : ℕ) (kind : KindDef) (name : List ℕ) → slice_get kinds k ≡ Some kind
    → IsTokenNamed kind name → m ≡ n + k → HasEntry (kinds_from n kinds) name (Kind m)
kind_there n [] k m kind name is named number = absurd (none-some kind is)
kind_there n (Word word ∷ kinds) zero m kind name is named number =
    absurd (subst (λ (x : KindDef). IsTokenNamed x name) (sym (same_Some (Word word) kind is)) named)
kind_there n (Word word ∷ kinds) (suc k) m kind name is named number =
    kind_there (n + 1) kinds k m kind name is named (omega (arith, number))
kind_there n (Token own expr ∷ kinds) zero m kind name is named number =
    let same : own ≡ name = subst (λ (x : KindDef). IsTokenNamed x name) (sym (same_Some (Token own expr) kind is)) named in
    let same_number : n ≡ m = omega (arith, number) in
    subst (λ (x : Entry). Contains (kinds_from n (Token own expr ∷ kinds)) x) (λ i. (same i, Kind (same_number i)))
    (head_there (own, Kind n) (kinds_from (n + 1) kinds))
kind_there n (Token own expr ∷ kinds) (suc k) m kind name is named number =
    behind_there (own, Kind n) (name, Kind m) (kinds_from (n + 1) kinds)
    (kind_there (n + 1) kinds k m kind name is named (omega (arith, number)))

module _ (g : Grammar) where
  -- the grammar's symbols by their names
  abbrev all : List Entry
  all = named_symbols g.categories g.lexicon.kinds

  -- a symbol that is among them has the name
  entry_name : (name : List ℕ) (s : Symbol) → HasEntry all name s → HasName g s name
  entry_name name s there = elim (Contains-append_cases (categories_from 0 g.categories) (kinds_from 0 g.lexicon.kinds) (name, s) there) [
    | inl category ↦
        let at = category_entry 0 g.categories name s category in
        let own : HasName g (Category at.0) name = at.2 in
        subst (λ (x : Symbol). HasName g x name) (sym (at.1 ∙ ap Category (omega arith))) own
    | inr kind ↦
        let at = kind_entry 0 g.lexicon.kinds name s kind in
        let own : HasName g (Kind at.0) name = (at.1, at.3, at.4) in
        subst (λ (x : Symbol). HasName g x name) (sym (at.2 ∙ ap Kind (omega arith))) own
  ]

  -- and one that has the name is among them
  name_entry : (name : List ℕ) (s : Symbol) → HasName g s name → HasEntry all name s
  name_entry name (Category c) is =
      Contains-append_left (categories_from 0 g.categories) (kinds_from 0 g.lexicon.kinds) (name, Category c)
      (category_there 0 g.categories c c name is (omega arith))
  name_entry name (Kind k) (kind, is, named) =
      Contains-append_right (categories_from 0 g.categories) (kinds_from 0 g.lexicon.kinds) (name, Kind k)
      (kind_there 0 g.lexicon.kinds k k kind name is named (omega arith))

  -- so names have one symbol each where entries do
  pub one_each_distinct : HasOneEach all → HasDistinctNames g
  one_each_distinct one s t name is_s is_t = one name s t (name_entry name s is_s) (name_entry name t is_t)

  pub distinct_one_each : HasDistinctNames g → HasOneEach all
  distinct_one_each one name s t is_s is_t = one s t name (entry_name name s is_s) (entry_name name t is_t)

  -- what is found among them is the symbol of the name
  pub found_symbol : (name : List ℕ) (found : Option Symbol) → found ≡ symbol_in all name → FindsSymbol g name found
  found_symbol name None is = λ s named. no_entry all name s (sym is) (name_entry name s named)
  found_symbol name (Some s) is = entry_name name s (found_entry all name s (sym is))

  -- a symbol that has a name is one of the grammar
  pub named_within : (name : List ℕ) (s : Symbol) → HasName g s name → IsSymbolOf g s
  named_within name (Category c) is = slice_get_within g.categories c name is
  named_within name (Kind k) (kind, is, named) = slice_get_within g.lexicon.kinds k kind is

-- names do not depend on rules
name_moves : (g h : Grammar) → g.categories ≡ h.categories → g.lexicon.kinds ≡ h.lexicon.kinds
    → (s : Symbol) (name : List ℕ) → HasName g s name → HasName h s name
name_moves g h categories kinds (Category c) name is = ap (λ l. slice_get l c) (sym categories) ∙ is
name_moves g h categories kinds (Kind k) name (kind, is, named) = (kind, ap (λ l. slice_get l k) (sym kinds) ∙ is, named)

-- so whether they are distinct does not
pub distinct_moves : (g h : Grammar) → g.categories ≡ h.categories → g.lexicon.kinds ≡ h.lexicon.kinds → HasDistinctNames g → HasDistinctNames h
distinct_moves g h categories kinds one s t name is_s is_t =
    one s t name (name_moves h g (sym categories) (sym kinds) s name is_s) (name_moves h g (sym categories) (sym kinds) t name is_t)

-- a look-up by bytes in a map is one among its entries
pub look_up : (name : List ℕ) (entries : List (Vec ℕ Global × Symbol))
    → lookup (λ (key : Vec ℕ Global). bytes_eq name key.items) entries
    ≡ symbol_in (map (λ (entry : Vec ℕ Global × Symbol). (entry.0.items, entry.1)) entries) name
look_up name [] = refl
look_up name (entry ∷ entries) = elim (cases_Bool (bytes_eq name entry.0.items)) [
  | inl e ↦ rw e refl
  | inr e ↦ rw e (look_up name entries)
]

module _ {S : Type 0} (old : IndexMap (Vec ℕ Global) Symbol S) (name : List ℕ) (s : Symbol) where
  -- a name that has a symbol keeps it
  pub symbol_there : is_some (lookup (λ (key : Vec ℕ Global). bytes_eq name key.items) old.entries) ≡ true
      → AddsSymbol (entries_in old) (entries_in old) name s false
  symbol_there there = ap is_some (sym (look_up name old.entries)) ∙ there

  -- a name that has none gets one, by a key of its bytes
  pub symbol_new : (new : IndexMap (Vec ℕ Global) Symbol S) (key : Vec ℕ Global) → key.items ≡ name
      → is_some (lookup (λ (k : Vec ℕ Global). bytes_eq name k.items) old.entries) ≡ false
      → new.entries ≡ insert_entry (λ (a b : Vec ℕ Global). bytes_eq a.items b.items) old.entries key s
      → AddsSymbol (entries_in old) (entries_in new) name s true
  symbol_new new key is absent inserted =
      let none : lookup (λ (k : Vec ℕ Global). bytes_eq name k.items) old.entries ≡ None = not_found _ absent in
      let no_key : lookup (λ (k : Vec ℕ Global). bytes_eq key.items k.items) old.entries ≡ None
      = ap (λ bytes. lookup (λ (k : Vec ℕ Global). bytes_eq bytes k.items) old.entries) is ∙ none in
      let shown : Vec ℕ Global × Symbol → Entry = λ entry. (entry.0.items, entry.1) in (
        sym (look_up name old.entries) ∙ none,
        ap (map shown) (inserted ∙ insert_entry-new (λ (a b : Vec ℕ Global). bytes_eq a.items b.items) old key s no_key)
            ∙ map-append shown old.entries ((key, s) ∷ [])
            ∙ ap (λ bytes. entries_in old ++ (bytes, s) ∷ []) is,
      )

-- one more entry of a name that has none
one_push : (entries : List Entry) (name : List ℕ) (s : Symbol) → HasOneEach entries → symbol_in entries name ≡ None
    → HasOneEach (entries ++ (name, s) ∷ [])
one_push entries name s one none other a b at_a at_b =
    by (Contains-push_cases entries (name, s) (other, a) at_a) (Contains-push_cases entries (name, s) (other, b) at_b)
  where
    apart : (c : Symbol) → HasEntry entries other c → (d : Symbol) → ◌≡◌ {A = Entry} (name, s) (other, d) → ⊥
    apart c there d same =
        no_entry entries name c none (subst (λ n. HasEntry entries n c) (sym (ap (λ (x : Entry). x.0) same)) there)

    by : HasEntry entries other a ⊎ (◌≡◌ {A = Entry} (name, s) (other, a)) → HasEntry entries other b ⊎ (◌≡◌ {A = Entry} (name, s) (other, b)) → a ≡ b
    by (inl there) (inl too) = one other a b there too
    by (inl there) (inr same) = absurd (apart a there b same)
    by (inr same) (inl too) = absurd (apart b too a same)
    by (inr same) (inr too) = ap (λ (x : Entry). x.1) (sym same ∙ too)

-- the categories with one more
categories_push : (n : ℕ) (names : List (List ℕ)) (name : List ℕ)
    → categories_from n (names ++ name ∷ []) ≡ categories_from n names ++ (name, Category (n + length names)) ∷ []
categories_push n [] name = ap (λ k. (name, Category k) ∷ []) (omega arith)
categories_push n (own ∷ names) name =
    let number : n + 1 + length names ≡ n + length (own ∷ names) = omega arith in
    ap (λ l. (own, Category n) ∷ l) (categories_push (n + 1) names name ∙ ap (λ k. categories_from (n + 1) names ++ (name, Category k) ∷ []) number)

-- the kinds with one more
kinds_push : (n : ℕ) (kinds : List KindDef) (kind : KindDef)
    → kinds_from n (kinds ++ kind ∷ []) ≡ kinds_from n kinds ++ kinds_from (n + length kinds) (kind ∷ [])
kinds_push n [] kind = ap (λ k. kinds_from k (kind ∷ [])) (omega arith)
kinds_push n (Word word ∷ kinds) kind =
    let number : n + 1 + length kinds ≡ n + length (Word word ∷ kinds) = omega arith in
    kinds_push (n + 1) kinds kind ∙ ap (λ k. kinds_from (n + 1) kinds ++ kinds_from k (kind ∷ [])) number
kinds_push n (Token name expr ∷ kinds) kind =
    let number : n + 1 + length kinds ≡ n + length (Token name expr ∷ kinds) = omega arith in
    ap (λ l. (name, Kind n) ∷ l) (kinds_push (n + 1) kinds kind ∙ ap (λ k. kinds_from (n + 1) kinds ++ kinds_from k (kind ∷ [])) number)

-- the number of a symbol
abbrev symbol_number : Symbol → ℕ
symbol_number (Category c) = c
symbol_number (Kind k) = k

-- the symbol is a category
abbrev is_category : Symbol → Bool
is_category (Category c) = true
is_category (Kind k) = false

-- the first items and the next
front_more : {X : Type 0} (xs : List X) (i : ℕ) (x : X) → i < length xs → x ≡ get_or xs i x → take (i + 1) xs ≡ take i xs ++ x ∷ []
front_more xs i x within is = take_more xs i x within ∙ ap (λ y. take i xs ++ y ∷ []) (sym is)

-- the categories are added one by one
module _ (names : List (List ℕ)) (i : ℕ) (name : List ℕ) (within : i < length names) (is : name ≡ get_or names i name)
    (old new : List Entry) (so_far : old ≡ categories_from 0 (take i names)) (one : HasOneEach old) where
  here : slice_get names i ≡ Some name
  here = slice_get_read names (length names) i name refl within is

  -- one that is added is the next
  pub category_more : AddsSymbol old new name (Category i) true
      → (new ≡ categories_from 0 (take (i + 1) names)) × HasOneEach new
  category_more adds =
      let count : 0 + length (take i names) ≡ i = omega (arith, length-take-le i names (omega (arith, within))) in (
        adds.1 ∙ ap (λ l. l ++ (name, Category i) ∷ []) so_far
            ∙ ap (λ k. categories_from 0 (take i names) ++ (name, Category k) ∷ []) (sym count)
            ∙ sym (categories_push 0 (take i names) name)
            ∙ ap (categories_from 0) (sym (front_more names i name within is)),
        subst HasOneEach (sym adds.1) (one_push old name (Category i) one adds.0),
      )

  -- one that is not has the name of an earlier one
  pub category_repeated : AddsSymbol old new name (Category i) false → HasOneEach (categories_from 0 names) → ⊥
  category_repeated repeated each =
      let found = some_entry old name repeated in
      let at = category_entry 0 (take i names) name found.0 (subst (λ (l : List Entry). HasEntry l name found.0) so_far found.1) in
      let earlier = taken i names at.0 name at.2 in
      let same = each name (Category at.0) (Category i)
      (category_there 0 names at.0 at.0 name earlier.1 (omega arith)) (category_there 0 names i i name here (omega arith)) in
      omega (arith, earlier.0, ap symbol_number same)

-- and so are the kinds that are no words
module _ (names : List (List ℕ)) (kinds : List KindDef) (i : ℕ) (kind : KindDef) (within : i < length kinds) (is : kind ≡ get_or kinds i kind)
    (old new : List Entry) (so_far : old ≡ named_symbols names (take i kinds)) (one : HasOneEach old) where
  kind_here : slice_get kinds i ≡ Some kind
  kind_here = slice_get_read kinds (length kinds) i kind refl within is

  -- the symbols with the next kind
  with_next : named_symbols names (take (i + 1) kinds) ≡ old ++ kinds_from i (kind ∷ [])
  with_next =
      let count : 0 + length (take i kinds) ≡ i = omega (arith, length-take-le i kinds (omega (arith, within))) in
      ap (λ l. categories_from 0 names ++ kinds_from 0 l) (front_more kinds i kind within is)
      ∙ ap (λ l. categories_from 0 names ++ l) (kinds_push 0 (take i kinds) kind ∙ ap (λ k. kinds_from 0 (take i kinds) ++ kinds_from k (kind ∷ [])) count)
      ∙ sym (append_assoc (categories_from 0 names) (kinds_from 0 (take i kinds)) (kinds_from i (kind ∷ [])))
      ∙ ap (λ l. l ++ kinds_from i (kind ∷ [])) (sym so_far)

  -- one that is added, or passed over, is the next
  pub kind_more : AddsKind old new kind i true → (new ≡ named_symbols names (take (i + 1) kinds)) × HasOneEach new
  kind_more adds = by kind refl adds
    where
      by : (own : KindDef) → kind ≡ own → AddsKind old new own i true → (new ≡ named_symbols names (take (i + 1) kinds)) × HasOneEach new
      by (Word word) same adds = (
        adds.1 ∙ sym (append-nil old) ∙ ap (λ k. old ++ kinds_from i (k ∷ [])) (sym same) ∙ sym with_next,
        subst HasOneEach (sym adds.1) one,
      )
      by (Token name expr) same adds = (
        adds.1 ∙ ap (λ k. old ++ kinds_from i (k ∷ [])) (sym same) ∙ sym with_next,
        subst HasOneEach (sym adds.1) (one_push old name (Kind i) one adds.0),
      )

  -- one that is not has the name of an earlier symbol
  pub kind_repeated : AddsKind old new kind i false → HasOneEach (named_symbols names kinds) → ⊥
  kind_repeated adds each = by kind refl adds
    where
      by : (own : KindDef) → kind ≡ own → AddsKind old new own i false → ⊥
      by (Word word) same adds = false≢true adds.0
      by (Token name expr) same repeated =
          let found = some_entry old name repeated in
          let named : IsTokenNamed kind name = subst (λ (k : KindDef). IsTokenNamed k name) (sym same) refl in
          let own = Contains-append_right (categories_from 0 names) (kinds_from 0 kinds) (name, Kind i)
          (kind_there 0 kinds i i kind name kind_here named (omega arith)) in
          elim (Contains-append_cases (categories_from 0 names) (kinds_from 0 (take i kinds)) (name, found.0)
          (subst (λ (l : List Entry). HasEntry l name found.0) so_far found.1)) [
            | inl category ↦
                let at = category_entry 0 names name found.0 category in
                let too = Contains-append_left (categories_from 0 names) (kinds_from 0 kinds) (name, found.0) category in
                let equal = each name found.0 (Kind i) too own in
                false≢true (sym (ap is_category equal) ∙ ap is_category at.1)
            | inr earlier_kind ↦
                let at = kind_entry 0 (take i kinds) name found.0 earlier_kind in
                let earlier = taken i kinds at.0 at.1 at.3 in
                let too = Contains-append_right (categories_from 0 names) (kinds_from 0 kinds) (name, Kind at.0)
                (kind_there 0 kinds at.0 at.0 at.1 name earlier.1 at.4 (omega arith)) in
                omega (arith, earlier.0, ap symbol_number (each name (Kind at.0) (Kind i) too own))
          ]

-- the first entries have one symbol each where all do
pub front_one : (entries others : List Entry) → HasOneEach (entries ++ others) → HasOneEach entries
front_one entries others one name s t is_s is_t =
    one name s t (Contains-append_left entries others (name, s) is_s) (Contains-append_left entries others (name, t) is_t)

-- no entries have one symbol each
pub one_each_none : HasOneEach []
one_each_none name s t there = absurd (none_there (name, s) there)

-- whether there is a map of the names tells whether they are distinct
pub told_distinct : {S : Type 0} (categories : List (List ℕ)) (kinds : List KindDef) (found : Option (IndexMap (Vec ℕ Global) Symbol S))
    → GivesPlaces categories kinds found → (told : Bool) → told ≡ is_some found
    → IsTrue told ↔ HasDistinctNames (grammar_of_symbols categories kinds)
told_distinct categories kinds (Some places) gives told is = ((λ e. gives.1), (λ distinct. is))
told_distinct categories kinds None gives told is = ((λ e. absurd (false≢true (sym is ∙ e))), (λ distinct. absurd (gives distinct)))
