-- A node whose corner solves the join of its parts stands for its kinds.
use Rattle.std.proofs.Common.{◌≡◌, ℕ, zero, suc, ◌+◌, ◌-◌, ◌<◌, ◌≤◌, ◌⊎◌, ◌↔◌, List, ◌∷◌, ◌++◌, Option, Some, None, length, slice_get, get_or, refl, sym, subst, inl, inr, arith, Contains}
use Rattle.std.proofs.lemmas.Bool.{cases_lt}
use Rattle.std.proofs.lemmas.List.{length-append}
use Rattle.std.proofs.lemmas.Option.{get_or_from_slice_get, slice_get_within}
use Rattle.spec_grammar.specs.Grammars.{Grammar, HasOwnSymbols}
use Rattle.cell_sets.specs.Grids.{Grid, entry}
use Rattle.binary_form.specs.Symbols.{BinarySymbol, BinaryDerives}
use Rattle.binary_form.specs.BinaryForm.{IsNumberOf, IsTokenCell, IsProductNumber}
use Rattle.binary_form.specs.UnitSteps.{IsInProduct}
use Rattle.binary_form.proofs.ClosureLemmas.{closure_is_derivation}
use Rattle.valiant.specs.Charts.{IsEntryOf, IsChartOf}
use Rattle.valiant.proofs.CutLemmas.{product_derived, derived_product, one_token_entry}
use Rattle.joins.specs.Joins.{IsFromBelow, IsFromBefore}
use Rattle.joins.specs.ClosedCharts.{ClosedChart, node, kinds_of, boundaries, entry_of, seen, IsCornerOf}
use Rattle.joins.specs.Laws.{NodesStandForTheirKinds, PartsStandForTheirKinds}
use Rattle.joins.proofs.PartLemmas.{get_behind, entry_before, entry_behind}
use Rattle.joins.proofs.ClosedChartLemmas.{seen_entry, entry_left, entry_corner, entry_right}

module _ (g : Grammar) (own : HasOwnSymbols g) (kinds : List (Option ℕ)) where
  -- the product of the entries of two parts of a span has numbers of what derives the whole
  pub cut_gives :
      (i k j n : ℕ) (left right : List ℕ)
      → i < k → k < j → IsEntryOf g kinds i k left → IsEntryOf g kinds k j right
      → IsProductNumber g left right n
      → (a : BinarySymbol) × IsNumberOf g a n × BinaryDerives g.rules kinds a i j
  cut_gives i k j n left right first last is_left is_right made =
      let x = made.4.reaches in
      let Made : ℕ → Type 0 = λ m. IsProductNumber g left right m in
      let product = product_derived g own kinds i k j left right is_left is_right last x.0 x.1.0
      (subst Made (sym x.1.1) made) in (
        x.0,
        x.1,
        (closure_is_derivation g.rules kinds x.0 i j (omega (arith, first, last))).1
            (inr (k, first, last, product)),
      )

  -- and what derives the span by this cut has its number there
  pub cut_has :
      (i k j n : ℕ) (left right : List ℕ) (a : BinarySymbol)
      → k < j → IsEntryOf g kinds i k left → IsEntryOf g kinds k j right → IsNumberOf g a n
      → IsInProduct g.rules (λ b. BinaryDerives g.rules kinds b i k) (λ b. BinaryDerives g.rules kinds b k j) a
      → IsProductNumber g left right n
  cut_has i k j n left right a last is_left is_right number product =
      let Made : ℕ → Type 0 = λ m. IsProductNumber g left right m in
      subst Made number.1 (derived_product g own kinds i k j left right is_left is_right last a number.0 product)

module _ (g : Grammar) (own : HasOwnSymbols g) (left : ClosedChart) (kind : Option ℕ) (right : ClosedChart)
    (corner : Grid) (stands_left : IsChartOf g (kinds_of left) (seen left))
    (stands_right : IsChartOf g (kinds_of right) (seen right)) (is : IsCornerOf g left kind right corner) where
  -- the kinds of the node
  abbrev whole : List (Option ℕ)
  whole = kinds_of left ++ kind ∷ kinds_of right

  -- what the left part has for its spans, derives them in the whole
  left_entry :
      (i j : ℕ) → i < j → j ≤ length (kinds_of left) → IsEntryOf g whole i j (entry_of left i j)
  left_entry i j order within =
      let Entry : List ℕ → Type 0 = λ numbers. IsEntryOf g (kinds_of left) i j numbers in
      (entry_before g (kinds_of left) kind (kinds_of right) i j (entry_of left i j) within).0
      (subst Entry (seen_entry left i j order within) (stands_left.exact i j order within))

  -- and what the right part has, so many tokens later
  right_entry :
      (i j : ℕ) → i < j → j ≤ length (kinds_of right)
      → IsEntryOf g whole (boundaries left + i) (boundaries left + j) (entry_of right i j)
  right_entry i j order within =
      let Entry : List ℕ → Type 0 = λ numbers. IsEntryOf g (kinds_of right) i j numbers in
      (entry_behind g (kinds_of left) kind (kinds_of right) i j (entry_of right i j)).0
      (subst Entry (seen_entry right i j order within) (stands_right.exact i j order within))

  -- the cell of the token has what derives it
  token_entry : IsEntryOf g whole (length (kinds_of left)) (boundaries left) is.cell
  token_entry =
      let here : slice_get whole (length (kinds_of left)) ≡ Some kind =
      get_behind (kinds_of left) (kind ∷ kinds_of right) (length (kinds_of left)) 0 (omega arith) in
      let Token : Option ℕ → Type 0 = λ x. IsTokenCell g x is.cell in
      let read : get_or whole (length (kinds_of left)) None ≡ kind =
      get_or_from_slice_get whole (length (kinds_of left)) kind None here in
      one_token_entry g own whole (length (kinds_of left)) (boundaries left) is.cell is.cell
      (slice_get_within whole (length (kinds_of left)) kind here) refl (subst Token (sym read) is.token)
      (λ n. ((λ has. has), (λ has. has)))

  -- the corner solves its join, in which C has the token alone
  join_at :
      (i j n : ℕ) → i < boundaries left → j < boundaries right
      → Contains (entry corner i j) n
      ↔ (Contains (entry is.start i j) n
      ⊎ (IsFromBelow g (entry_of left) corner i j n ⊎ IsFromBefore g corner (entry_of right) i j n))
  join_at i j n in_rows in_columns =
      is.solves.each i j n (omega (arith, in_rows, is.single.size.0)) (omega (arith, in_columns, is.single.size.1))

  -- each entry of the corner has what derives its span, if those below and before it have
  module _ (i j : ℕ) (in_rows : i < boundaries left) (in_columns : j < boundaries right)
      (below : (k : ℕ) → i < k → k < boundaries left → IsEntryOf g whole k (boundaries left + j) (entry corner k j))
      (before : (k : ℕ) → k < j → IsEntryOf g whole i (boundaries left + k) (entry corner i k)) where
    -- what the token derives, where it is the span
    of_token :
        (n : ℕ) → i ≡ length (kinds_of left) → j ≡ 0
        → Contains is.cell n
        ↔ ((a : BinarySymbol) × IsNumberOf g a n × BinaryDerives g.rules whole a i (boundaries left + j))
    of_token n last first =
        let end : boundaries left ≡ boundaries left + j = omega (arith, first) in
        let Token : ℕ → ℕ → Type 0 = λ x y.
        Contains is.cell n ↔ ((a : BinarySymbol) × IsNumberOf g a n × BinaryDerives g.rules whole a x y) in
        let From : ℕ → Type 0 = λ x. Token x (boundaries left + j) in
        subst From (sym last) (subst (Token (length (kinds_of left))) end (token_entry n))

    -- what the entry has, derives the span
    entry_derives :
        (n : ℕ) → Contains (entry corner i j) n
        → (a : BinarySymbol) × IsNumberOf g a n × BinaryDerives g.rules whole a i (boundaries left + j)
    entry_derives n has = elim ((join_at i j n in_rows in_columns).0 has) [
      | inl first ↦
          let alone = (is.single.each i j n in_rows in_columns).0 first in
          (of_token n alone.0 alone.1).0 alone.2
      | inr (inl (k, after, within, made)) ↦
          let inside : k < boundaries left = omega (arith, within, is.solves.size.0, is.single.size.0) in
          cut_gives g own whole i k (boundaries left + j) n (entry_of left i k) (entry corner k j) after
          (omega (arith, inside)) (left_entry i k after (omega (arith, inside))) (below k after inside) made
      | inr (inr (k, earlier, made)) ↦
          cut_gives g own whole i (boundaries left + k) (boundaries left + j) n (entry corner i k) (entry_of right k j)
          (omega (arith, in_rows)) (omega (arith, earlier)) (before k earlier)
          (right_entry k j earlier (omega (arith, in_columns))) made
    ]

    -- what derives the span by a cut is in the entry
    cut_in_entry :
        (n k : ℕ) (a : BinarySymbol) → IsNumberOf g a n → i < k → k < boundaries left + j
        → IsInProduct g.rules (λ b. BinaryDerives g.rules whole b i k)
        (λ b. BinaryDerives g.rules whole b k (boundaries left + j)) a
        → Contains (entry corner i j) n
    cut_in_entry n k a number first last product = elim (cases_lt k (boundaries left)) [
      | inl inside ↦
          let within : k < corner.rows = omega (arith, inside, is.solves.size.0, is.single.size.0) in
          (join_at i j n in_rows in_columns).1 (inr (inl (
            k,
            first,
            within,
            cut_has g own whole i k (boundaries left + j) n (entry_of left i k) (entry corner k j) a last
                (left_entry i k first (omega (arith, inside))) (below k first inside) number product,
          )))
      | inr outside ↦
          let d = k - boundaries left in
          let place : k ≡ boundaries left + d = omega (arith, outside) in
          let earlier : d < j = omega (arith, outside, last) in
          let Cut : ℕ → Type 0 = λ x.
          IsInProduct g.rules (λ b. BinaryDerives g.rules whole b i x)
          (λ b. BinaryDerives g.rules whole b x (boundaries left + j)) a in
          (join_at i j n in_rows in_columns).1 (inr (inr (
            d,
            earlier,
            cut_has g own whole i (boundaries left + d) (boundaries left + j) n (entry corner i d) (entry_of right d j) a
                (omega (arith, earlier)) (before d earlier) (right_entry d j earlier (omega (arith, in_columns))) number
                (subst Cut place product),
          )))
    ]

    -- what derives the span is in the entry
    entry_has :
        (n : ℕ) (a : BinarySymbol) → IsNumberOf g a n
        → BinaryDerives g.rules whole a i (boundaries left + j) → Contains (entry corner i j) n
    entry_has n a number derives =
        elim ((closure_is_derivation g.rules whole a i (boundaries left + j) (omega (arith, in_rows))).0 derives) [
          | inl (k, is_k, end, reaches) ↦
              let last : i ≡ length (kinds_of left) = omega (arith, end, in_rows) in
              let first : j ≡ 0 = omega (arith, end, in_rows) in
              let has = (of_token n last first).1 (a, number, derives) in
              (join_at i j n in_rows in_columns).1
              (inl ((is.single.each i j n in_rows in_columns).1 (last, first, has)))
          | inr (k, first, last, product) ↦ cut_in_entry n k a number first last product
        ]

    corner_entry : IsEntryOf g whole i (boundaries left + j) (entry corner i j)
    corner_entry n = (entry_derives n, (λ x. entry_has n x.0 x.1 x.2))

  -- by the number of rows below and of columns before
  within_turns :
      (turns i j : ℕ) → i < boundaries left → j < boundaries right → (boundaries left - i) + j < turns
      → IsEntryOf g whole i (boundaries left + j) (entry corner i j)
  within_turns zero i j in_rows in_columns few = absurd (omega (arith, few))
  within_turns (suc turns) i j in_rows in_columns few =
      corner_entry i j in_rows in_columns
      (λ k after inside. within_turns turns k j inside in_columns (omega (arith, after, inside, few)))
      (λ k earlier.
      within_turns turns i k in_rows (omega (arith, earlier, in_columns)) (omega (arith, earlier, few)))

  -- a span that ends behind the token
  over_or_behind :
      (i j : ℕ) → i < boundaries left + j → j ≤ length (kinds_of right)
      → IsEntryOf g whole i (boundaries left + j) (entry_of (node left kind right corner) i (boundaries left + j))
  over_or_behind i j order within = elim (cases_lt i (boundaries left)) [
    | inl over ↦
        let Entry : List ℕ → Type 0 = λ numbers. IsEntryOf g whole i (boundaries left + j) numbers in
        subst Entry (sym (entry_corner left kind right corner i j over))
        (within_turns ((boundaries left - i) + j + 1) i j over (omega (arith, within)) (omega arith))
    | inr later ↦
        let d = i - boundaries left in
        let place : boundaries left + d ≡ i = omega (arith, later) in
        let Entry : List ℕ → Type 0 = λ numbers.
        IsEntryOf g whole (boundaries left + d) (boundaries left + j) numbers in
        let Span : ℕ → Type 0 = λ x.
        IsEntryOf g whole x (boundaries left + j) (entry_of (node left kind right corner) x (boundaries left + j)) in
        subst Span place (subst Entry (sym (entry_right left kind right corner d j))
        (right_entry d j (omega (arith, later, order)) within))
  ]

  -- each entry of the node has just what derives its span
  node_entry :
      (i j : ℕ) → i < j → j ≤ length whole → IsEntryOf g whole i j (entry_of (node left kind right corner) i j)
  node_entry i j order within = elim (cases_lt j (boundaries left)) [
    | inl early ↦
        let Entry : List ℕ → Type 0 = λ numbers. IsEntryOf g whole i j numbers in
        subst Entry (sym (entry_left left kind right corner i j order (omega (arith, early))))
        (left_entry i j order (omega (arith, early)))
    | inr late ↦
        let d = j - boundaries left in
        let place : boundaries left + d ≡ j = omega (arith, late) in
        let Span : ℕ → Type 0 = λ x. IsEntryOf g whole i x (entry_of (node left kind right corner) i x) in
        subst Span place (over_or_behind i d (omega (arith, order, late))
        (omega (arith, late, within, length-append (kinds_of left) (kind ∷ kinds_of right))))
  ]

  -- the node stands for its kinds
  pub node_stands : IsChartOf g whole (seen (node left kind right corner))
  node_stands = record {
    same_kinds = refl;
    exact = λ i j order within.
        let Entry : List ℕ → Type 0 = λ numbers. IsEntryOf g whole i j numbers in
        subst Entry (sym (seen_entry (node left kind right corner) i j order within)) (node_entry i j order within);
  }

-- where the parts stand for their kinds and the corner solves their join, the node stands for all
pub nodes_stand_for_their_kinds : NodesStandForTheirKinds
nodes_stand_for_their_kinds g left_kinds right_kinds left right kind corner own is_left is_right is =
    let same_left = is_left.same_kinds in
    let same_right = is_right.same_kinds in
    let Left : List (Option ℕ) → Type 0 = λ kinds. IsChartOf g kinds (seen left) in
    let Right : List (Option ℕ) → Type 0 = λ kinds. IsChartOf g kinds (seen right) in
    let Whole : List (Option ℕ) → List (Option ℕ) → Type 0 = λ before behind.
    IsChartOf g (before ++ kind ∷ behind) (seen (node left kind right corner)) in
    let From : List (Option ℕ) → Type 0 = λ before. Whole before right_kinds in
    let stands = node_stands g own left kind right corner (subst Left (sym same_left) is_left)
    (subst Right (sym same_right) is_right) is in
    subst From same_left (subst (Whole (kinds_of left)) same_right stands)

module _ (g : Grammar) (left : ClosedChart) (kind : Option ℕ) (right : ClosedChart) (corner : Grid)
    (stands : IsChartOf g (kinds_of (node left kind right corner)) (seen (node left kind right corner))) where
  -- each entry of the node has what derives its span
  has_derived :
      (i j : ℕ) → i < j → j ≤ length (kinds_of (node left kind right corner))
      → IsEntryOf g (kinds_of (node left kind right corner)) i j (entry_of (node left kind right corner) i j)
  has_derived i j order within =
      let Entry : List ℕ → Type 0 = λ numbers. IsEntryOf g (kinds_of (node left kind right corner)) i j numbers in
      subst Entry (seen_entry (node left kind right corner) i j order within) (stands.exact i j order within)

  -- so each entry of the left part has
  left_part : IsChartOf g (kinds_of left) (seen left)
  left_part = record {
    same_kinds = refl;
    exact = λ i j order within.
        let all = length-append (kinds_of left) (kind ∷ kinds_of right) in
        let Entry : List ℕ → Type 0 = λ numbers. IsEntryOf g (kinds_of (node left kind right corner)) i j numbers in
        let Own : List ℕ → Type 0 = λ numbers. IsEntryOf g (kinds_of left) i j numbers in
        subst Own (sym (seen_entry left i j order within))
        ((entry_before g (kinds_of left) kind (kinds_of right) i j (entry_of left i j) within).1
        (subst Entry (entry_left left kind right corner i j order within)
        (has_derived i j order (omega (arith, within, all)))));
  }

  -- and each of the right part
  right_part : IsChartOf g (kinds_of right) (seen right)
  right_part = record {
    same_kinds = refl;
    exact = λ i j order within.
        let all = length-append (kinds_of left) (kind ∷ kinds_of right) in
        let Entry : List ℕ → Type 0 = λ numbers.
        IsEntryOf g (kinds_of (node left kind right corner)) (boundaries left + i) (boundaries left + j) numbers in
        let Own : List ℕ → Type 0 = λ numbers. IsEntryOf g (kinds_of right) i j numbers in
        subst Own (sym (seen_entry right i j order within))
        ((entry_behind g (kinds_of left) kind (kinds_of right) i j (entry_of right i j)).1
        (subst Entry (entry_right left kind right corner i j)
        (has_derived (boundaries left + i) (boundaries left + j) (omega (arith, order)) (omega (arith, within, all)))));
  }

-- the parts of a node that stands for its kinds stand for theirs
pub parts_stand_for_their_kinds : PartsStandForTheirKinds
parts_stand_for_their_kinds g left kind right corner stands =
    (left_part g left kind right corner stands, right_part g left kind right corner stands)
