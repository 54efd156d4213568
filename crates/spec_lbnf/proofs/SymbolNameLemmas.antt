-- Where no definition repeats a name, no two symbols have one name.
use Rattle.std.proofs.Common.{◌≡◌, ℕ, zero, suc, ◌+◌, ◌<◌, ◌≤◌, ◌⊎◌, List, [], ◌∷◌, ◌++◌, length, map, filter, take, Bool, true, false, not, ◌||◌, Some, slice_get, Contains, All, refl, sym, ap, subst, ◌∙◌, inl, inr, arith, append-nil}
use Rattle.std.specs.List.{flat_map}
use Rattle.std.specs.Str.{bytes_eq}
use Rattle.std.proofs.lemmas.Bool.{cases_Bool, both_ways, false≢true}
use Rattle.std.proofs.Math.Numerals.{suc-eq-add-one}
use Rattle.std.proofs.lemmas.Grind.{flat_map-append}
use Rattle.std.proofs.lemmas.List.{map-append, take_more, take_all}
use Rattle.std.proofs.lemmas.List.Elements.{All-contains}
use Rattle.std.proofs.lemmas.Option.{none-some, same_Some, slice_get_within, get_or_from_slice_get}
use Rattle.spec_lexing.specs.declared.expression.Expr.{Expr}
use Rattle.spec_lexing.specs.declared.kind_def.KindDef.{KindDef}
use Rattle.spec_lexing.specs.declared.kind_def.KindDef.TheVariants.{Word as WordKind, Token as TokenKind}
use Rattle.spec_grammar.specs.declared.rule.Symbol.TheVariants.{Category, Kind}
use Rattle.spec_grammar.specs.Grammars.{IsTokenNamed}
use Rattle.spec_lbnf.specs.declared.definition.RawRule.{RawRule}
use Rattle.spec_lbnf.specs.declared.definition.Def.{Def}
use Rattle.spec_lbnf.specs.declared.definition.Def.TheVariants.{Rule as RuleDef, Internal, Terminator, Separator, Coercions, Entry, Token, LineComment, BlockComment}
use Rattle.spec_lbnf.specs.Expansion.{rules_of, rules_of_def, internal_category, met_categories, item_categories, token_in, token_names, names_in, kind_names, is_among, tokens_of, words_of, kinds_by, distinct}
use Rattle.spec_lbnf.specs.Checks.{own_categories, own_names, taken_names, IsFree, HasOwnNames}
use Rattle.spec_lbnf.specs.Laws.{OneSymbolEach}
use Rattle.spec_lbnf.proofs.NameLemmas.{same_name, found_there, any_distinct, found_at, one_place, distinct_names, NoneTwice}
use Rattle.spec_lbnf.proofs.TokenNameLemmas.{head_among, among_left, among_right, among_cases, given_by, lost_among, active_names, names_of_tokens, token_is_kind, none_twice_append, tokens_once}
use Rattle.spec_lbnf.proofs.EntryLemmas.{own_text}
use Rattle.spec_lbnf.proofs.SymbolLemmas.{category_names}
use Rattle.spec_lbnf.proofs.ListLemmas.{item_at}

-- the kind that a token is, at its place among tokens
token_name_at : (tokens : List (List ℕ × Expr)) (i : ℕ) (kind : KindDef) (name : List ℕ)
    → slice_get (kinds_by [] tokens) i ≡ Some kind → IsTokenNamed kind name → slice_get (names_in tokens) i ≡ Some name
token_name_at [] i kind name is named = absurd (none-some kind is)
token_name_at (token ∷ tokens) zero kind name is named =
    let own : token.0 ≡ name
    = subst (λ (k : KindDef). IsTokenNamed k name) (sym (same_Some (TokenKind token.0 token.1) kind is)) named in
    ap (λ n. Some n) own
token_name_at (token ∷ tokens) (suc i) kind name is named = token_name_at tokens i kind name is named

-- a kind that has a name is that of a token, behind all words
named_kind : (words : List (List ℕ)) (tokens : List (List ℕ × Expr)) (k : ℕ) (kind : KindDef) (name : List ℕ)
    → slice_get (kinds_by words tokens) k ≡ Some kind → IsTokenNamed kind name
    → (i : ℕ) × (k ≡ length words + i) × (slice_get (names_in tokens) i ≡ Some name)
named_kind [] tokens k kind name is named = (k, omega arith, token_name_at tokens k kind name is named)
named_kind (word ∷ words) tokens zero kind name is named =
    absurd (subst (λ (k : KindDef). IsTokenNamed k name) (sym (same_Some (WordKind word) kind is)) named)
named_kind (word ∷ words) tokens (suc k) kind name is named =
    let rest = named_kind words tokens k kind name is named in
    (rest.0, omega (arith, rest.1), rest.2)

-- the names of the token definitions among definitions side by side
token_names-append : (defs others : List Def) → token_names (defs ++ others) ≡ token_names defs ++ token_names others
token_names-append defs others =
    ap names_in (flat_map-append token_in defs others)
    ∙ map-append (λ (token : List ℕ × Expr). token.0) (flat_map token_in defs) (flat_map token_in others)

module _ (defs : List Def) (own : HasOwnNames defs) where
  -- the name of the next token definition is none of those before it
  one_more : (n : ℕ) (def : Def) → slice_get defs n ≡ Some def → NoneTwice (token_names (take n defs))
      → NoneTwice (token_names (take n defs) ++ token_names (def ∷ []))
  one_more n (Token name expr) is once =
      none_twice_append (token_names (take n defs)) (name ∷ []) once (refl, tt) (λ other there. by other (same_of_one other there))
    where
      free : Contains (token_names (take n defs)) name → ⊥
      free = All-contains (IsFree defs n (Token name expr)) (name ∷ []) name (own n (Token name expr) is) (found_there (name ∷ []) name (head_among name []))

      same_of_one : (other : List ℕ) → is_among (name ∷ []) other ≡ true → other ≡ name
      same_of_one other there = elim (cases_Bool (bytes_eq other name)) [
        | inl e ↦ same_name other name e
        | inr e ↦ absurd (false≢true (sym (ap (λ b. b || false) e) ∙ there))
      ]

      by : (other : List ℕ) → other ≡ name → is_among (token_names (take n defs)) other ≡ false
      by other same = elim (cases_Bool (is_among (token_names (take n defs)) other)) [
        | inl e ↦ absurd (free (subst (λ x. Contains (token_names (take n defs)) x) same (found_there (token_names (take n defs)) other e)))
        | inr e ↦ e
      ]
  one_more n (RuleDef rule) is once = subst NoneTwice (sym (append-nil (token_names (take n defs)))) once
  one_more n (Internal rule) is once = subst NoneTwice (sym (append-nil (token_names (take n defs)))) once
  one_more n (Terminator nonempty cat word) is once = subst NoneTwice (sym (append-nil (token_names (take n defs)))) once
  one_more n (Separator nonempty cat word) is once = subst NoneTwice (sym (append-nil (token_names (take n defs)))) once
  one_more n (Coercions name levels) is once = subst NoneTwice (sym (append-nil (token_names (take n defs)))) once
  one_more n (Entry cats) is once = subst NoneTwice (sym (append-nil (token_names (take n defs)))) once
  one_more n (LineComment opening) is once = subst NoneTwice (sym (append-nil (token_names (take n defs)))) once
  one_more n (BlockComment opening closing) is once = subst NoneTwice (sym (append-nil (token_names (take n defs)))) once

  -- so no name of the first token definitions stands twice
  first_once : (n : ℕ) → n ≤ length defs → NoneTwice (token_names (take n defs))
  first_once zero few = tt
  first_once (suc n) few =
      let next = item_at defs n (omega (arith, few)) in
      let more : take (n + 1) defs ≡ take n defs ++ next.0 ∷ []
      = take_more defs n next.0 (omega (arith, few)) ∙ ap (λ def. take n defs ++ def ∷ []) (get_or_from_slice_get defs n next.0 next.0 next.1) in
      subst NoneTwice (sym (ap token_names (ap (λ k. take k defs) (suc-eq-add-one n) ∙ more) ∙ token_names-append (take n defs) (next.0 ∷ [])))
      (one_more n next.0 next.1 (first_once n (omega (arith, few))))

  -- and of no token at all
  pub names_once : NoneTwice (names_in (tokens_of defs))
  names_once =
      let all : NoneTwice (token_names defs)
      = subst (λ given. NoneTwice (token_names given)) (take_all (length defs) defs (omega arith)) (first_once (length defs) (omega arith)) in
      subst NoneTwice (sym (names_of_tokens defs)) (tokens_once defs all)

  -- no category that a definition gives rules for has the name of a kind
  not_own : (number : ℕ) (def : Def) (name : List ℕ) → All (IsFree defs number def) (own_names def)
      → is_among (own_categories def) name ≡ true → is_among (kind_names defs) name ≡ true → ⊥
  not_own number (Token own_name expr) name free there kind = false≢true there
  not_own number (RuleDef rule) name free there kind =
      All-contains (IsFree defs number (RuleDef rule)) (own_names (RuleDef rule)) name free (found_there (own_categories (RuleDef rule)) name there) (found_there (kind_names defs) name kind)
  not_own number (Internal rule) name free there kind =
      All-contains (IsFree defs number (Internal rule)) (own_names (Internal rule)) name free (found_there (own_categories (Internal rule)) name there) (found_there (kind_names defs) name kind)
  not_own number (Terminator nonempty cat word) name free there kind =
      All-contains (IsFree defs number (Terminator nonempty cat word)) (own_names (Terminator nonempty cat word)) name free (found_there (own_categories (Terminator nonempty cat word)) name there) (found_there (kind_names defs) name kind)
  not_own number (Separator nonempty cat word) name free there kind =
      All-contains (IsFree defs number (Separator nonempty cat word)) (own_names (Separator nonempty cat word)) name free (found_there (own_categories (Separator nonempty cat word)) name there) (found_there (kind_names defs) name kind)
  not_own number (Coercions first levels) name free there kind =
      All-contains (IsFree defs number (Coercions first levels)) (own_names (Coercions first levels)) name free (found_there (own_categories (Coercions first levels)) name there) (found_there (kind_names defs) name kind)
  not_own number (Entry cats) name free there kind = false≢true there
  not_own number (LineComment opening) name free there kind = false≢true there
  not_own number (BlockComment opening closing) name free there kind = false≢true there

  -- and none at all
  no_own_kind : (name : List ℕ) → is_among (flat_map own_categories defs) name ≡ true → is_among (kind_names defs) name ≡ true → ⊥
  no_own_kind name there kind =
      let at = given_by own_categories defs name there in
      not_own at.0 at.1 name (own at.0 at.1 at.2) at.3 kind

  -- what rules meet that is the name of a kind is the category of one of them
  rules_own : (kinds : List (List ℕ)) (rules : List RawRule) (name : List ℕ) → is_among kinds name ≡ true
      → is_among (flat_map (met_categories kinds) rules) name ≡ true → is_among (map own_text rules) name ≡ true
  rules_own kinds [] name kind there = there
  rules_own kinds (rule ∷ rules) name kind there =
      let passes : List ℕ → Bool = λ text. not (is_among kinds text) in
      elim (among_cases (met_categories kinds rule) (flat_map (met_categories kinds) rules) name there) [
        | inl met ↦ elim (among_cases (own_text rule ∷ []) (filter passes (item_categories rule.items)) name met) [
          | inl first ↦ among_left (own_text rule ∷ []) (map own_text rules) name first
          | inr item ↦ absurd (both_ways _ (lost_among passes name (item_categories rule.items) (ap not kind)) item)
        ]
        | inr more ↦ among_right (own_text rule ∷ []) (map own_text rules) name (rules_own kinds rules name kind more)
      ]

  -- and so one that a definition gives rules for
  met_own : (kinds : List (List ℕ)) (some : List Def) (name : List ℕ) → is_among kinds name ≡ true
      → is_among (flat_map (met_categories kinds) (rules_of some)) name ≡ true → is_among (flat_map own_categories some) name ≡ true
  met_own kinds [] name kind there = there
  met_own kinds (def ∷ some) name kind there =
      let met : RawRule → List (List ℕ) = met_categories kinds in
      let whole = ap (λ names. is_among names name) (flat_map-append met (rules_of_def def) (rules_of some)) in
      elim (among_cases (flat_map met (rules_of_def def)) (flat_map met (rules_of some)) name (sym whole ∙ there)) [
        | inl first ↦
            among_left (own_categories def) (flat_map own_categories some) name
            (among_right (internal_category def) (map own_text (rules_of_def def)) name (rules_own kinds (rules_of_def def) name kind first))
        | inr more ↦ among_right (own_categories def) (flat_map own_categories some) name (met_own kinds some name kind more)
      ]

  internal_own : (some : List Def) (name : List ℕ) → is_among (flat_map internal_category some) name ≡ true
      → is_among (flat_map own_categories some) name ≡ true
  internal_own [] name there = there
  internal_own (def ∷ some) name there = elim (among_cases (internal_category def) (flat_map internal_category some) name there) [
    | inl first ↦
        among_left (own_categories def) (flat_map own_categories some) name
        (among_left (internal_category def) (map own_text (rules_of_def def)) name first)
    | inr more ↦ among_right (own_categories def) (flat_map own_categories some) name (internal_own some name more)
  ]

  -- so no category has the name of a token
  apart : (c i : ℕ) (name : List ℕ) → slice_get (distinct (category_names defs)) c ≡ Some name
      → slice_get (names_in (tokens_of defs)) i ≡ Some name → ⊥
  apart c i name at_c at_i =
      let kind = token_is_kind defs name (found_at (names_in (tokens_of defs)) i name at_i) in
      let listed : is_among (category_names defs) name ≡ true
      = sym (any_distinct name (category_names defs)) ∙ found_at (distinct (category_names defs)) c name at_c in
      let met = flat_map (met_categories (kind_names defs)) (rules_of defs) in
      elim (among_cases met (flat_map internal_category defs) name listed) [
        | inl rule ↦ no_own_kind name (met_own (kind_names defs) defs name kind rule) kind
        | inr internal ↦ no_own_kind name (internal_own defs name internal) kind
      ]

-- where no definition repeats a name, no two symbols of the grammar have one name
pub one_symbol_each : OneSymbolEach
one_symbol_each defs own (Category c) (Category d) name at_c at_d =
    ap Category ((distinct_names (category_names defs)).once c d name at_c at_d)
one_symbol_each defs own (Category c) (Kind k) name at_c (kind, is, named) =
    let at = named_kind (words_of (rules_of defs)) (tokens_of defs) k kind name is named in
    absurd (apart defs own c at.0 name at_c at.2)
one_symbol_each defs own (Kind k) (Category d) name (kind, is, named) at_d =
    let at = named_kind (words_of (rules_of defs)) (tokens_of defs) k kind name is named in
    absurd (apart defs own d at.0 name at_d at.2)
one_symbol_each defs own (Kind k) (Kind l) name (kind, is, named) (other, is', named') =
    let words = words_of (rules_of defs) in
    let at = named_kind words (tokens_of defs) k kind name is named in
    let too = named_kind words (tokens_of defs) l other name is' named' in
    let same = one_place (names_in (tokens_of defs)) (names_once defs own) at.0 too.0 name at.2 too.2 in
    ap Kind (omega (arith, at.1, too.1, same))
