-- Names and the keys by which they are looked up.
use Rattle.std.proofs.Common.{◌≡◌, ℕ, ◌≤◌, List, [], ◌∷◌, ◌++◌, length, map, Bool, true, false, not, cond, ltb, refl, sym, ap, ◌∙◌, inl, inr, arith, Some, None}
use Rattle.std.proofs.lemmas.List.{length-map, map-append}
use Rattle.std.specs.List.{list_any, prefix_len, position_or_len, position}
use Rattle.std.specs.Option.{unwrap_or}
use Rattle.std.specs.Str.{bytes_eq}
use Rattle.std.proofs.lemmas.Bool.{cases_Bool, cond-true, cond-false, ltb-false}
use Rattle.std.proofs.lemmas.List.Sums.{prefix_len-le-length}
use Rattle.lbnf_grammar.specs.Numbering.{with_new_name}

module _ {A B : Type 0} (p : B → Bool) (f : A → B) where
  -- some image passes where some item's image does
  pub any_image : (xs : List A) → list_any (λ x. p (f x)) xs ≡ list_any p (map f xs)
  any_image [] = refl
  any_image (x ∷ xs) = rw (any_image xs) refl

  -- as many images pass at the front
  pub front_image : (xs : List A) → prefix_len (λ x. p (f x)) xs ≡ prefix_len p (map f xs)
  front_image [] = refl
  front_image (x ∷ xs) = rw (front_image xs) refl

-- the place of the first that passes, or the length
place_or_len : {A : Type 0} (p : A → Bool) (xs : List A)
    → unwrap_or (position p xs) (length xs) ≡ position_or_len p xs
place_or_len p xs = by (position_or_len p xs) (prefix_len-le-length (λ x. not (p x)) xs)
  where
    by : (n : ℕ) → n ≤ length xs → unwrap_or (cond (ltb n (length xs)) (Some n) None) (length xs) ≡ n
    by n le = elim (cases_Bool (ltb n (length xs))) [
      | inl e ↦ rw e refl
      | inr e ↦ rw e (omega (arith, ltb-false n (length xs) e))
    ]

-- a name that is there changes nothing
pub with_name_there : (names : List (List ℕ)) (name : List ℕ) → list_any (bytes_eq name) names ≡ true
    → with_new_name names name ≡ names
with_name_there names name e = cond-true (list_any (bytes_eq name) names) names (names ++ name ∷ []) e

-- a new name goes last
pub with_name_new : (names : List (List ℕ)) (name : List ℕ) → list_any (bytes_eq name) names ≡ false
    → with_new_name names name ≡ names ++ name ∷ []
with_name_new names name e = cond-false (list_any (bytes_eq name) names) names (names ++ name ∷ []) e

-- the keys of names, each with its bytes
module _ {K : Type 0} (bytes : K → List ℕ) (keys : List K) (names : List (List ℕ)) (are : map bytes keys ≡ names) (name : List ℕ) where
  -- a name is among the keys where it is among the names
  pub has_key : list_any (λ key. bytes_eq name (bytes key)) keys ≡ list_any (bytes_eq name) names
  has_key = any_image (bytes_eq name) bytes keys ∙ ap (list_any (bytes_eq name)) are

  -- there are as many names as keys
  pub key_count : length keys ≡ length names
  key_count = sym (length-map keys bytes) ∙ ap length are

  -- the place of its key is its number
  pub place_is_number : unwrap_or (position (λ key. bytes_eq name (bytes key)) keys) (length keys) ≡ position_or_len (bytes_eq name) names
  place_is_number =
      place_or_len (λ key. bytes_eq name (bytes key)) keys
      ∙ front_image (λ n. not (bytes_eq name n)) bytes keys
      ∙ ap (position_or_len (bytes_eq name)) are

  -- what a look-up tells of the keys is so of the names
  pub told : (answer value : Bool) → answer ≡ list_any (λ key. bytes_eq name (bytes key)) keys → answer ≡ value
      → list_any (bytes_eq name) names ≡ value
  told answer value looked is = sym has_key ∙ sym looked ∙ is

  -- after a new key is inserted, the keys are those of the names with the new name
  pub keys_added : (key : K) (more : List K) → bytes key ≡ name → list_any (bytes_eq name) names ≡ false
      → more ≡ cond (list_any (λ other. bytes_eq (bytes key) (bytes other)) keys) keys (keys ++ key ∷ [])
      → map bytes more ≡ with_new_name names name
  keys_added key more is new inserted =
      let absent : list_any (λ other. bytes_eq (bytes key) (bytes other)) keys ≡ false
      = ap (λ b. list_any (λ other. bytes_eq b (bytes other)) keys) is ∙ has_key ∙ new in
      ap (map bytes) (inserted ∙ cond-false _ keys (keys ++ key ∷ []) absent)
      ∙ map-append bytes keys (key ∷ [])
      ∙ ap (λ front. front ++ bytes key ∷ []) are ∙ ap (λ b. names ++ b ∷ []) is
      ∙ sym (with_name_new names name new)
