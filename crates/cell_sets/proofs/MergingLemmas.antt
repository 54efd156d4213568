-- Laws of two lists in rising order that are being merged.
use Rattle.std.proofs.Common.{◌≡◌, ℕ, ◌+◌, ◌-◌, ◌<◌, ◌≤◌, ◌⊎◌, ◌↔◌, List, [], ◌∷◌, ◌++◌, length, get_or, take, drop, Less, Equal, Greater, refl, sym, ◌∙◌, ap, append_assoc, inl, inr, arith}
use Rattle.std.specs.List.{Contains}
use Rattle.std.specs.Ordering.{nat_cmp}
use Rattle.std.proofs.lemmas.Cmp.{ranked}
use Rattle.std.proofs.Math.ListN.{drop_of_length-le}
use Rattle.std.proofs.lemmas.List.{drop_more, take_rest, append-nil}
use Rattle.std.proofs.lemmas.List.Elements.{Contains-append_left, Contains-append_right, Contains-append_cases}
use Rattle.cell_sets.specs.Cells.{IsRising, IsUnion}
use Rattle.cell_sets.proofs.CellsLemmas.{first_below, has_first, first_or_behind}
use Rattle.cell_sets.proofs.RisingLemmas.{rising_rest, rising_before, rising_between, has_between}

-- what is merged stands in rising order before what is left of each list, and with that it has what
-- the lists have
pub record IsMerging (left right both rest_left rest_right : List ℕ) : Type 0 where
  pub rising_left : IsRising (both ++ rest_left)
  pub rising_right : IsRising (both ++ rest_right)
  pub union : IsUnion left right ((both ++ rest_left) ++ rest_right)

-- before the first step nothing is merged
pub nothing_merged :
    (left right : List ℕ) → IsRising left → IsRising right → IsMerging left right [] left right
nothing_merged left right rising_left rising_right = record {
  rising_left = rising_left;
  rising_right = rising_right;
  union = λ s. (
    Contains-append_cases left right s,
    elim [ inl has ↦ Contains-append_left left right s has | inr has ↦ Contains-append_right left right s has ],
  );
}

-- a lower number than the first that is left comes before it
lower_before :
    (both : List ℕ) (x y : ℕ) (xs ys : List ℕ)
    → IsRising (both ++ x ∷ xs) → IsRising (both ++ y ∷ ys) → x < y
    → IsRising ((both ++ x ∷ []) ++ y ∷ ys)
lower_before both x y xs ys rising_x rising_y lower =
    let below : (s : ℕ) → Contains both s → s < x =
    λ s has. rising_before both (x ∷ xs) rising_x s x has (has_first x xs) in
    let above : (t : ℕ) → Contains (y ∷ ys) t → x < t = λ t has. elim (first_or_behind y ys t has) [
      | inl first ↦ omega (arith, lower, first)
      | inr behind ↦
          let far : y < t = first_below y ys t (rising_rest both (y ∷ ys) rising_y) behind in
          omega (arith, lower)
    ] in
    rw (append_assoc both (x ∷ []) (y ∷ ys)) (rising_between both (y ∷ ys) x rising_y below above)

-- a list has the same where a number moves to the front of what is left
has_moved :
    (both ls rs : List ℕ) (y s : ℕ)
    → Contains (((both ++ y ∷ []) ++ ls) ++ rs) s ↔ Contains ((both ++ ls) ++ y ∷ rs) s
has_moved both ls rs y s =
    let parts : ((both ++ y ∷ []) ++ ls) ++ rs ≡ both ++ y ∷ (ls ++ rs) =
    ap (λ l. l ++ rs) (append_assoc both (y ∷ []) ls) ∙ append_assoc both (y ∷ ls) rs in
    let rest : (both ++ ls) ++ rs ≡ both ++ (ls ++ rs) = append_assoc both ls rs in
    let new = has_between both (ls ++ rs) y s in
    let old = rw rest at (has_between (both ++ ls) rs y s) in
    rw parts ((λ has. old.1 (new.0 has)), (λ has. new.1 (old.0 has)))

-- a list has the same where a number that stands in it twice stands in it once
has_once :
    (both : List ℕ) (x y : ℕ) (xs ys : List ℕ) (s : ℕ) → x ≡ y
    → Contains (((both ++ x ∷ []) ++ xs) ++ ys) s ↔ Contains ((both ++ x ∷ xs) ++ y ∷ ys) s
has_once both x y xs ys s same =
    let parts : ((both ++ x ∷ []) ++ xs) ++ ys ≡ (both ++ x ∷ xs) ++ ys =
    ap (λ l. l ++ ys) (append_assoc both (x ∷ []) xs) in
    let old = has_between (both ++ x ∷ xs) ys y s in
    let first : s ≡ y → Contains ((both ++ x ∷ xs) ++ ys) s = λ e.
    Contains-append_left (both ++ x ∷ xs) ys s
    (Contains-append_right both (x ∷ xs) s (rw (e ∙ sym same) (has_first x xs))) in
    rw parts ((λ has. old.1 (inl has)), (λ has. elim (old.0 has) [ inl one ↦ one | inr e ↦ first e ]))

-- two lists are merged, and these are the numbers that are left of each
module _
    (left right both : List ℕ) (x y : ℕ) (xs ys : List ℕ)
    (merging : IsMerging left right both (x ∷ xs) (y ∷ ys)) where
  -- the lower number is taken from the left list
  pub left_merged : x < y → IsMerging left right (both ++ x ∷ []) xs (y ∷ ys)
  left_merged lower = record {
    rising_left = rw (append_assoc both (x ∷ []) xs) merging.rising_left;
    rising_right = lower_before both x y xs ys merging.rising_left merging.rising_right lower;
    union = rw (append_assoc both (x ∷ []) xs) merging.union;
  }

  -- the lower number is taken from the right list
  pub right_merged : y < x → IsMerging left right (both ++ y ∷ []) (x ∷ xs) ys
  right_merged lower = record {
    rising_left = lower_before both y x ys xs merging.rising_right merging.rising_left lower;
    rising_right = rw (append_assoc both (y ∷ []) ys) merging.rising_right;
    union = λ s.
        let moved = has_moved both (x ∷ xs) ys y s in
        let old = merging.union s in
        ((λ has. old.0 (moved.0 has)), (λ has. moved.1 (old.1 has)));
  }

  -- the same number is taken once from both lists
  pub both_merged : x ≡ y → IsMerging left right (both ++ x ∷ []) xs ys
  both_merged same = record {
    rising_left = rw (append_assoc both (x ∷ []) xs) merging.rising_left;
    rising_right = rw (append_assoc both (x ∷ []) ys, same) merging.rising_right;
    union = λ s.
        let once = has_once both x y xs ys s same in
        let old = merging.union s in
        ((λ has. old.0 (once.0 has)), (λ has. once.1 (old.1 has)));
  }

-- two lists are merged up to a place of each
module _
    (left right both : List ℕ) (i j : ℕ) (in_left : i < length left) (in_right : j < length right)
    (merging : IsMerging left right both (drop i left) (drop j right)) where
  abbrev x : ℕ
  x = get_or left i 0

  abbrev y : ℕ
  y = get_or right j 0

  -- the numbers that come next
  next : IsMerging left right both (x ∷ drop (i + 1) left) (y ∷ drop (j + 1) right)
  next = rw (drop_more left i 0 in_left, drop_more right j 0 in_right) at merging

  -- the left list gives its next number, which is lower
  pub left_taken :
      Less ≡ nat_cmp x y
      → IsMerging left right (both ++ x ∷ []) (drop (i + 1) left) (drop j right)
  left_taken is = rw (drop_more right j 0 in_right)
      (left_merged left right both x y (drop (i + 1) left) (drop (j + 1) right) next (ranked x y Less is))

  -- the right list gives its next number, which is lower
  pub right_taken :
      Greater ≡ nat_cmp x y
      → IsMerging left right (both ++ y ∷ []) (drop i left) (drop (j + 1) right)
  right_taken is = rw (drop_more left i 0 in_left)
      (right_merged left right both x y (drop (i + 1) left) (drop (j + 1) right) next (ranked x y Greater is))

  -- both lists give the same number
  pub both_taken :
      Equal ≡ nat_cmp x y
      → IsMerging left right (both ++ x ∷ []) (drop (i + 1) left) (drop (j + 1) right)
  both_taken is =
      both_merged left right both x y (drop (i + 1) left) (drop (j + 1) right) next (ranked x y Equal is)

-- two lists are merged up to a place of each, and then what is left of each is put behind
module _
    (left right both more all : List ℕ) (i j : ℕ)
    (with_left : more ≡ both ++ take (length left - i) (drop i left))
    (with_right : all ≡ more ++ take (length right - j) (drop j right))
    (merging : IsMerging left right both (drop i left) (drop j right)) where
  -- the whole is what is merged and what is left of each
  whole : all ≡ (both ++ drop i left) ++ drop j right
  whole = rw (with_right, with_left, take_rest left i, take_rest right j) refl

  -- the whole has what either list has
  pub union_merged : IsUnion left right all
  union_merged = rw whole merging.union

  -- where one list is at its end, the whole is in rising order
  pub rising_merged : (length left ≤ i) ⊎ (length right ≤ j) → IsRising all
  rising_merged (inl end) =
      rw (whole, drop_of_length-le left end, append-nil both) merging.rising_right
  rising_merged (inr end) =
      rw (whole, drop_of_length-le right end, append-nil (both ++ drop i left)) merging.rising_left
