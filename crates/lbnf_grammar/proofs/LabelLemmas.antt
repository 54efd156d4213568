-- The first definition that is not well labelled, and what holds of all definitions up to one.
use Rattle.std.proofs.Common.{below_more, ◌≡◌, ◌≢◌, ◌↔◌, ℕ, ◌+◌, ◌<◌, List, [], ◌∷◌, ◌++◌, Bool, IsTrue, cond, is_some, length, take, get_or, Some, All, slice_get, refl, sym, ap, subst, ◌∙◌, inl, inr, arith}
use Rattle.std.specs.List.{count_by}
use Rattle.std.proofs.lemmas.List.{take_more}
use Rattle.std.proofs.lemmas.List.Recursion.{is_count_by}
use Rattle.std.proofs.lemmas.List.Elements.{filter_map-append}
use Rattle.std.proofs.lemmas.Option.{slice_get-get_or, slice_get_read, slice_get_within, get_or_from_slice_get, same_Some}
use Rattle.spec_lbnf.specs.declared.definition.CatName.{CatName}
use Rattle.spec_lbnf.specs.declared.definition.RawItem.{RawItem}
use Rattle.spec_lbnf.specs.declared.definition.RawItem.TheVariants.{Cat, Word}
use Rattle.spec_lbnf.specs.declared.definition.Def.{Def}
use Rattle.spec_lbnf.specs.declared.fault.GrammarFault.TheVariants.{BadCoercion, BadList}
use Rattle.spec_lbnf.specs.Expansion.{category_in, categories_in}
use Rattle.spec_lbnf.specs.Checks.{IsList, AreElementAndList, IsOneElement, IsWellLabelled, IsBadCoercion, IsBadList, IsIllLabelled, IsFirst, HasAt, AtLabels}
use Rattle.spec_lbnf.proofs.CheckLemmas.{ill_or_well}
use Rattle.lbnf_grammar.specs.Checking.{EndsInList}

-- the categories of items side by side
pub categories_in-append : (items others : List RawItem)
    → categories_in (items ++ others) ≡ categories_in items ++ categories_in others
categories_in-append items others = filter_map-append category_in items others

-- the first items, and the next
pub take_next : {A : Type 0} (xs : List A) (i : ℕ) (x : A) → slice_get xs i ≡ Some x → take (i + 1) xs ≡ take i xs ++ x ∷ []
take_next xs i x at =
    let within : i < length xs = slice_get_within xs i x at in
    take_more xs i x within ∙ ap (λ y. take i xs ++ y ∷ []) (get_or_from_slice_get xs i x x at)

-- the categories among the first items, and that of the next
pub categories_more : (items : List RawItem) (i : ℕ) (item : RawItem) → slice_get items i ≡ Some item
    → categories_in (take (i + 1) items) ≡ categories_in (take i items) ++ categories_in (item ∷ [])
categories_more items i item at = ap categories_in (take_next items i item at) ∙ categories_in-append (take i items) (item ∷ [])

-- the items that are no words are counted
pub counted : (items : List RawItem) → length (categories_in items) ≡ count_by (λ item. is_some (category_in item)) items
counted items = is_count_by (λ rest. length (categories_in rest)) (λ item. is_some (category_in item)) refl step items
  where
    step : (item : RawItem) (rest : List RawItem) → length (categories_in (item ∷ rest))
        ≡ cond (is_some (category_in item)) (1 + length (categories_in rest)) (length (categories_in rest))
    step (Cat cat) rest = omega arith
    step (Word word) rest = refl

-- some categories are more than none
pub some_categories : (cats : List CatName) → 0 < length cats ↔ (cats ≢ [])
some_categories [] = ((λ some. absurd (omega (arith, some))), (λ differ. absurd (differ refl)))
some_categories (cat ∷ cats) = ((λ some same. omega (arith, ap length same)), (λ differ. omega arith))

-- the last of categories and one more is that one
ends_behind : (cats : List CatName) (cat : CatName) → EndsInList (cats ++ cat ∷ []) ↔ IsList cat
ends_behind [] cat = ((λ is. is), (λ is. is))
ends_behind (first ∷ []) cat = ((λ is. is), (λ is. is))
ends_behind (first ∷ next ∷ cats) cat = ends_behind (next ∷ cats) cat

-- so where the next item is a category, it tells whether the last is a list
pub list_behind : (item : RawItem) (cat : CatName) → item ≡ Cat cat → (answer : Bool) → (IsTrue answer ↔ IsList cat)
    → (cats : List CatName) → IsTrue answer ↔ EndsInList (cats ++ categories_in (item ∷ []))
list_behind item cat is answer tells cats =
    rw is ((λ e. (ends_behind cats cat).1 (tells.0 e)), (λ ends. tells.1 ((ends_behind cats cat).0 ends)))

-- two categories of which the last is a list are an element and a list
pub element_and_list : (cats : List CatName) → ((length cats ≡ 2) × EndsInList cats) ↔ AreElementAndList cats
element_and_list [] = ((λ are. absurd (omega (arith, are.0))), (λ are. absurd are))
element_and_list (one ∷ []) = ((λ are. absurd (omega (arith, are.0))), (λ are. absurd are))
element_and_list (first ∷ second ∷ []) = ((λ are. are.1), (λ is. (refl, is)))
element_and_list (first ∷ second ∷ third ∷ cats) = ((λ are. absurd (omega (arith, are.0))), (λ are. absurd are))

-- one category of which the last is no list is one element
pub one_element : (cats : List CatName) → ((length cats ≡ 1) × (EndsInList cats → ⊥)) ↔ IsOneElement cats
one_element [] = ((λ is. absurd (omega (arith, is.0))), (λ is. absurd is))
one_element (one ∷ []) = ((λ is. is.1), (λ is. (refl, is)))
one_element (first ∷ second ∷ cats) = ((λ is. absurd (omega (arith, is.0))), (λ is. absurd is))

module _ (P : Def → Type 0) (defs : List Def) where
  -- what holds of the first definitions holds with the next
  pub more_hold : (n : ℕ) (next : Def) → n < length defs → next ≡ get_or defs n next → P next
      → ((k : ℕ) (def : Def) → k < n → slice_get defs k ≡ Some def → P def)
      → (k : ℕ) (def : Def) → k < n + 1 → slice_get defs k ≡ Some def → P def
  more_hold n next within is holds each k def lt at_k =
      let at : slice_get defs n ≡ Some next = slice_get_read defs (length defs) n next refl within is in
      below_more (λ m. (other : Def) → slice_get defs m ≡ Some other → P other) n
      (λ m earlier other at_m. each m other earlier at_m)
      (λ other at_n. subst P (same_Some next other (sym at ∙ at_n)) holds) k lt def at_k

  -- what holds of each definition holds of all
  pub all_hold : ((k : ℕ) (def : Def) → k < length defs → slice_get defs k ≡ Some def → P def) → All P defs
  all_hold each k d lt = each k (get_or defs k d) lt (slice_get-get_or defs k d lt)

module _ (defs : List Def) (number : ℕ) (def : Def) (within : number < length defs) (is : def ≡ get_or defs number def)
    (earlier : (k : ℕ) (other : Def) → k < number → slice_get defs k ≡ Some other → IsWellLabelled other) where
  -- it stands at its number
  here : slice_get defs number ≡ Some def
  here = slice_get_read defs (length defs) number def refl within is

  -- where it is ill labelled behind definitions that are well labelled, it is the first
  first_ill : IsIllLabelled def → IsFirst (HasAt IsIllLabelled defs) number
  first_ill ill = record {
    is_so = (def, here, ill);
    none_before = λ k lt (other, at, bad). ill_or_well other bad (earlier k other lt at);
  }

  -- a bad coercion behind definitions that are well labelled is at fault
  pub coercion_first : IsBadCoercion def → AtLabels defs (BadCoercion number)
  coercion_first bad = (number, first_ill (inl bad), inl ((def, here, bad), refl))

  -- so is a bad list
  pub list_first : IsBadList def → AtLabels defs (BadList number)
  list_first bad = (number, first_ill (inr bad), inr ((def, here, bad), refl))

  -- and where it is well labelled, the definitions up to it are
  pub more_labelled : IsWellLabelled def
      → (k : ℕ) (other : Def) → k < number + 1 → slice_get defs k ≡ Some other → IsWellLabelled other
  more_labelled well = more_hold IsWellLabelled defs number def within is well earlier
