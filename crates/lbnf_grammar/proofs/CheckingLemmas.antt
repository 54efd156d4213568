-- The checks of names: what is listed is known, and the first that is bad.
use Rattle.std.proofs.Common.{below_more, append-nil, filter, ◌≡◌, ℕ, Bool, ◌+◌, ◌<◌, ◌≤◌, List, [], ◌∷◌, ◌++◌, length, take, true, false, ◌||◌, Some, All, Contains, slice_get, get_or, refl, sym, ap, subst, ◌∙◌, inl, inr, arith}
use Rattle.std.specs.List.{list_any, flat_map}
use Rattle.std.specs.Str.{bytes_eq}
use Rattle.std.specs.Cmp.Lexicographic.{nat_list_eq_equiv}
use Rattle.std.proofs.lemmas.Bool.{cases_Bool, both_ways}
use Rattle.std.proofs.lemmas.Grind.{flat_map-append}
use Rattle.std.proofs.lemmas.List.Sums.{fold-append}
use Rattle.spec_lexing.specs.declared.expression.Expr.{Expr}
use Rattle.std.proofs.lemmas.List.{get_or-take, length-take-le, take_all, map-append}
use Rattle.std.proofs.lemmas.List.Elements.{All-more, All-weaker, filter-append}
use Rattle.std.proofs.lemmas.List.Folds.{list_any-append}
use Rattle.std.proofs.lemmas.Map.Views.{Contains-from_any, list_any-from_Contains}
use Rattle.std.proofs.lemmas.Option.{get_or_from_slice_get, slice_get_read, slice_get_within, same_Some}
use Rattle.std.proofs.lemmas.Slice.Eq.{bytes_eq-Decides}
use Rattle.spec_lbnf.specs.declared.definition.RawItem.{RawItem}
use Rattle.spec_lbnf.specs.declared.definition.RawItem.TheVariants.{Cat, Word}
use Rattle.spec_lbnf.specs.declared.definition.Def.{Def}
use Rattle.spec_lbnf.specs.declared.definition.Def.TheVariants.{Rule, Internal, Terminator, Separator, Coercions, Entry, Token, LineComment, BlockComment}
use Rattle.spec_lbnf.specs.Expansion.{category_text, item_categories, named_categories, names_in, token_in, token_names, kind_names, is_among}
use Rattle.spec_lbnf.specs.Checks.{own_names, taken_names, known_names, IsTaken, IsFree, TakesFree, HasOwnNames, IsFirstRepeated, IsFirstName, IsKnown, IsUnknown, NamesKnown, IsFirstUnknown}
use Rattle.spec_lbnf.proofs.CheckLemmas.{repeats_at}
use Rattle.spec_lbnf.proofs.FirstLemmas.{none_at}
use Rattle.lbnf_grammar.specs.Numbering.{with_new_name, with_new_names}
use Rattle.lbnf_grammar.specs.Checking.{IsListed, IsUnlisted, HasTaken, used_names}
use Rattle.lbnf_grammar.proofs.NameLemmas.{with_name_there, with_name_new}
use Rattle.lbnf_grammar.proofs.DistinctLemmas.{any_with_new_names}
use Rattle.lbnf_grammar.proofs.LabelLemmas.{take_next, more_hold}

-- the categories of items side by side
item_categories-append : (items others : List RawItem)
    → item_categories (items ++ others) ≡ item_categories items ++ item_categories others
item_categories-append [] others = refl
item_categories-append (Cat cat ∷ items) others = ap (λ l. category_text cat ∷ l) (item_categories-append items others)
item_categories-append (Word word ∷ items) others = item_categories-append items others

-- the categories among the first items, and that of the next
pub item_categories_more : (items : List RawItem) (i : ℕ) (item : RawItem) → slice_get items i ≡ Some item
    → item_categories (take (i + 1) items) ≡ item_categories (take i items) ++ item_categories (item ∷ [])
item_categories_more items i item at = ap item_categories (take_next items i item at) ∙ item_categories-append (take i items) (item ∷ [])

-- names are looked at in turn, up to this one; those before it are good
module _ (IsBad IsGood : List ℕ → Type 0) (names : List (List ℕ)) (i : ℕ) (name : List ℕ)
    (within : i < length names) (is : name ≡ get_or names i name) (good : All IsGood (take i names)) where
  -- if it is bad, and no name is both, it is the first bad name
  pub first_bad : ((other : List ℕ) → IsGood other → IsBad other → ⊥) → IsBad name → IsFirstName IsBad names name
  first_bad apart bad =
      let at : slice_get names i ≡ Some name = slice_get_read names (length names) i name refl within is in (
        i,
        record {
          is_so = (name, at, bad);
          none_before = λ k lt (other, at_k, wrong). apart other (good_before k lt other at_k) wrong;
        },
        at,
      )
    where
      good_before : (k : ℕ) → k < i → (other : List ℕ) → slice_get names k ≡ Some other → IsGood other
      good_before k lt other at_k =
          let front : length (take i names) ≡ i = length-take-le i names (omega arith) in
          let there : get_or (take i names) k other ≡ other = get_or-take i names k other lt ∙ get_or_from_slice_get names k other other at_k in
          subst IsGood there (good k other (omega (arith, front, lt)))

  -- if it is good, the names up to it are
  pub more_good : IsGood name → All IsGood (take (i + 1) names)
  more_good next = All-more IsGood names i name within good (subst IsGood is next)

-- where the first names are good and there are no more, all are
pub good_all : (IsGood : List ℕ → Type 0) (names : List (List ℕ)) (i : ℕ) → length names ≤ i
    → All IsGood (take i names) → All IsGood names
good_all IsGood names i past good = subst (All IsGood) (take_all i names past) good

-- a name that is told to be in a table is
pub told_there : (table : List (List ℕ)) (name : List ℕ) → list_any (bytes_eq name) table ≡ true → Contains table name
told_there table name h = Contains-from_any {eq = bytes_eq} (λ a b e. (bytes_eq-Decides a b).0 e) name table h

-- a name that is in a table is told to be
told_of_there : (table : List (List ℕ)) (name : List ℕ) → Contains table name → list_any (bytes_eq name) table ≡ true
told_of_there table name there = list_any-from_Contains nat_list_eq_equiv name table there

-- a name that is told not to be in a table is not
pub told_absent : (table : List (List ℕ)) (name : List ℕ) → list_any (bytes_eq name) table ≡ false → Contains table name → ⊥
told_absent table name h there = both_ways (list_any (bytes_eq name) table) h (told_of_there table name there)

module _ (defs : List Def) (known : List (List ℕ)) (are : known ≡ with_new_names [] (known_names defs)) where
  -- a name is listed where definitions give rules for it
  listed_is : (x : List ℕ) → list_any (bytes_eq x) known ≡ list_any (bytes_eq x) (known_names defs)
  listed_is x = ap (list_any (bytes_eq x)) are ∙ any_with_new_names x [] (known_names defs)

  -- what is listed is known
  listed_known : (x : List ℕ) → IsListed known x → IsKnown defs x
  listed_known x h = told_there (known_names defs) x (sym (listed_is x) ∙ told_of_there known x h)

  -- what is not listed is not known
  unlisted_unknown : (x : List ℕ) → IsUnlisted known x → IsUnknown defs x
  unlisted_unknown x h there = h (told_there known x (listed_is x ∙ told_of_there (known_names defs) x there))

  -- where all categories of a definition are listed, it names known ones alone
  names_known : (def : Def) → All (IsListed known) (named_categories def) → NamesKnown defs def
  names_known def listed = All-weaker (IsListed known) (IsKnown defs) listed_known (named_categories def) listed

  -- the first name that is not listed is the first unknown one
  unknown_too : (names : List (List ℕ)) (name : List ℕ) → IsFirstName (IsUnlisted known) names name → IsFirstName (IsUnknown defs) names name
  unknown_too names name (place, first, at) =
      let here = first.is_so in (
        place,
        record {
          is_so = (here.0, here.1, unlisted_unknown here.0 here.2);
          none_before = λ k lt (other, at_k, unknown). first.none_before k lt (other, at_k, λ listed. unknown (listed_known other listed));
        },
        at,
      )

  module _ (number : ℕ) (def : Def) (names : List (List ℕ)) (given : names ≡ named_categories def)
      (within : number < length defs) (is : def ≡ get_or defs number def)
      (earlier : (k : ℕ) (other : Def) → k < number → slice_get defs k ≡ Some other → NamesKnown defs other) where
    -- the first category of a definition that is not listed is the first unknown one, if the
    -- definitions before name known ones alone
    pub first_unknown : (name : List ℕ) → IsFirstName (IsUnlisted known) names name → IsFirstUnknown defs name number
    first_unknown name first =
        let own : IsFirstName (IsUnlisted known) (named_categories def) name
        = subst (λ (all : List (List ℕ)). IsFirstName (IsUnlisted known) all name) given first in
        let is_first = unknown_too (named_categories def) name own in
        let at = slice_get_read defs (length defs) number def refl within is in
        record {
          first = record {
            is_so = (def, at, (is_first.0, is_first.1.is_so));
            none_before = λ k lt (other, at_k, (place, unknown)).
                none_at (IsKnown defs) (named_categories other) (IsUnknown defs) (λ x un kn. un kn) (earlier k other lt at_k) place unknown;
          };
          def = def;
          is_def = at;
          first_name = is_first;
        }

    -- where all its categories are listed, the definitions up to it name known ones alone
    pub more_known : All (IsListed known) names
        → (k : ℕ) (other : Def) → k < number + 1 → slice_get defs k ≡ Some other → NamesKnown defs other
    more_known listed =
        more_hold (NamesKnown defs) defs number def within is (names_known def (subst (All (IsListed known)) given listed)) earlier

-- a name is among those that are added to none where it is one of them
pub new_names_same : (names : List (List ℕ)) (x : List ℕ) → list_any (bytes_eq x) (with_new_names [] names) ≡ list_any (bytes_eq x) names
new_names_same names x = any_with_new_names x [] names

-- the names of the first token definitions, and of the next
pub token_names_more : (defs : List Def) (i : ℕ) (def : Def) → slice_get defs i ≡ Some def
    → token_names (take (i + 1) defs) ≡ token_names (take i defs) ++ names_in (token_in def)
token_names_more defs i def at =
    ap token_names (take_next defs i def at)
    ∙ ap names_in (flat_map-append token_in (take i defs) (def ∷ []))
    ∙ map-append (λ (token : List ℕ × Expr). token.0) (flat_map token_in (take i defs)) (token_in def ++ [])
    ∙ ap (λ more. token_names (take i defs) ++ names_in more) (append-nil (token_in def))

-- the earlier names with that of the next token definition
pub earlier_more : (start : List (List ℕ)) (defs : List Def) (i : ℕ) (def : Def) (old new : List (List ℕ)) → slice_get defs i ≡ Some def
    → old ≡ with_new_names start (token_names (take i defs)) → new ≡ with_new_names old (names_in (token_in def))
    → new ≡ with_new_names start (token_names (take (i + 1) defs))
earlier_more start defs i def old new at so_far added =
    added ∙ ap (λ names. with_new_names names (names_in (token_in def))) so_far
    ∙ sym (fold-append with_new_name start (token_names (take i defs)) (names_in (token_in def)))
    ∙ ap (with_new_names start) (sym (token_names_more defs i def at))

module _ (defs : List Def) (kinds earlier : List (List ℕ)) (are : kinds ≡ kind_names defs) (number : ℕ)
    (so_far : earlier ≡ with_new_names [] (token_names (take number defs))) where
  -- what is listed among the names that a definition may not take is taken
  taken_is : (def : Def) (taken : List (List ℕ)) → HasTaken earlier kinds def taken → (x : List ℕ)
      → list_any (bytes_eq x) taken ≡ list_any (bytes_eq x) (taken_names defs number def)
  taken_is (Token name expr) taken is x =
      ap (list_any (bytes_eq x)) (is ∙ so_far) ∙ new_names_same (token_names (take number defs)) x
  taken_is (Rule rule) taken is x = ap (list_any (bytes_eq x)) (is ∙ are)
  taken_is (Internal rule) taken is x = ap (list_any (bytes_eq x)) (is ∙ are)
  taken_is (Terminator nonempty cat word) taken is x = ap (list_any (bytes_eq x)) (is ∙ are)
  taken_is (Separator nonempty cat word) taken is x = ap (list_any (bytes_eq x)) (is ∙ are)
  taken_is (Coercions name levels) taken is x = ap (list_any (bytes_eq x)) (is ∙ are)
  taken_is (Entry cats) taken is x = ap (list_any (bytes_eq x)) (is ∙ are)
  taken_is (LineComment opening) taken is x = ap (list_any (bytes_eq x)) (is ∙ are)
  taken_is (BlockComment opening closing) taken is x = ap (list_any (bytes_eq x)) (is ∙ are)

  module _ (def : Def) (at : slice_get defs number ≡ Some def) (taken : List (List ℕ)) (has : HasTaken earlier kinds def taken)
      (names : List (List ℕ)) (given : names ≡ own_names def) (before : (k : ℕ) → k < number → TakesFree defs k) where
    listed_taken : (x : List ℕ) → IsListed taken x → IsTaken defs number def x
    listed_taken x listed = told_there (taken_names defs number def) x (sym (taken_is def taken has x) ∙ told_of_there taken x listed)

    taken_listed : (x : List ℕ) → IsTaken defs number def x → IsListed taken x
    taken_listed x is = told_there taken x (taken_is def taken has x ∙ told_of_there (taken_names defs number def) x is)

    -- the first of its names that is listed is the first that is repeated, if those before it
    -- repeat none
    pub first_repeated : (name : List ℕ) → IsFirstName (IsListed taken) names name → IsFirstRepeated defs name
    first_repeated name first =
        let own : IsFirstName (IsListed taken) (own_names def) name
        = subst (λ (all : List (List ℕ)). IsFirstName (IsListed taken) all name) given first in
        let here = own.1.is_so in
        let is_first : IsFirstName (IsTaken defs number def) (own_names def) name = (
          own.0,
          record {
            is_so = (here.0, here.1, listed_taken here.0 here.2);
            none_before = λ k lt (other, at_k, is). own.1.none_before k lt (other, at_k, taken_listed other is);
          },
          own.2,
        ) in
        record {
          number = number;
          first = record {
            is_so = (def, at, (own.0, is_first.1.is_so));
            none_before = λ k lt repeats. repeats_at defs k (before k lt) repeats;
          };
          def = def;
          is_def = at;
          first_name = is_first;
        }

    -- where none of its names is listed, the definitions up to it repeat none
    pub more_free : All (IsUnlisted taken) names → (k : ℕ) → k < number + 1 → TakesFree defs k
    more_free unlisted =
        let own : All (IsFree defs number def) (own_names def)
        = All-weaker (IsUnlisted taken) (IsFree defs number def) (λ x none is. none (taken_listed x is)) (own_names def)
        (subst (All (IsUnlisted taken)) given unlisted) in
        below_more (TakesFree defs) number before
        (λ other is. subst (λ (d : Def). All (IsFree defs number d) (own_names d)) (same_Some def other (sym at ∙ is)) own)

-- definitions of which each repeats no name repeat none
pub all_free : (defs : List Def) (i : ℕ) → length defs ≤ i → ((k : ℕ) → k < i → TakesFree defs k) → HasOwnNames defs
all_free defs i past free number def is = free number (omega (arith, past, slice_get_within defs number def is)) def is

-- the kinds among the names that the first definitions name, and those of the next
pub used_more : (kinds : List (List ℕ)) (defs : List Def) (i : ℕ) (def : Def) (names old new : List (List ℕ)) → slice_get defs i ≡ Some def
    → names ≡ named_categories def → old ≡ used_names kinds (take i defs) → new ≡ with_new_names old (filter (is_among kinds) names)
    → new ≡ used_names kinds (take (i + 1) defs)
used_more kinds defs i def names old new at given so_far added =
    let passes : List ℕ → Bool = is_among kinds in
    let front : List (List ℕ) = flat_map named_categories (take i defs) in
    added
    ∙ (λ j. with_new_names (so_far j) (filter passes (given j)))
    ∙ sym (fold-append with_new_name [] (filter passes front) (filter passes (named_categories def)))
    ∙ ap (with_new_names []) (sym (filter-append passes front (named_categories def)))
    ∙ ap (λ more. with_new_names [] (filter passes (front ++ more))) (sym (append-nil (named_categories def)))
    ∙ ap (λ all. with_new_names [] (filter passes all)) (sym (flat_map-append named_categories (take i defs) (def ∷ [])))
    ∙ ap (used_names kinds) (sym (take_next defs i def at))
