-- What stands left in the rules of the binary form.
use Rattle.std.proofs.Common.{◌≡◌, ℕ, suc, ◌+◌, ◌<◌, ◌≤◌, ◌↔◌, ◌⊎◌, inl, inr, List, [], ◌∷◌, Bool, not, nat_eq, IsTrue, length, take}
use Rattle.std.proofs.Common.{refl, sym, ap, ◌∙◌, subst, arith, Contains}
use Rattle.std.proofs.lemmas.Option.{slice_get_within}
use Rattle.std.proofs.lemmas.Bool.{cases_Bool, cases_lt, eqb-true, false≢true, not_from_false}
use Rattle.spec_grammar.specs.Grammars.{Grammar, item_count, symbol_count}
use Rattle.cell_sets.specs.Cells.{Adds, AddsSymbol, IsUnion}
use Rattle.number_graph.specs.Graphs.{HasLink, AreLinksWithin, stay}
use Rattle.binary_form.specs.declared.rows.SuffixRow.{SuffixRow}
use Rattle.binary_form.specs.Symbols.{plain, suffix, symbol_number, plain_count, suffix_number}
use Rattle.binary_form.specs.BinaryForm.{MakesNumber, IsLeftPartner, AreLeftSymbols}
use Rattle.binary_form.specs.Laws.{PartnersMeet, PartnersAreEnough, ProductsHaveLeftSymbols}
use Rattle.binary_form.specs.LeftSides.{ArePartnerLinks}
use Rattle.binary_form.specs.LongerSuffixes.{IsLongerSuffix, AreLongerSuffixes}
use Rattle.binary_form.specs.Products.{OneGives}
use Rattle.binary_form.specs.Rows.{IsRowAt, AreSuffixRows}
use Rattle.binary_form.specs.RowLinks.{IsRowPartner, IsLinkOfRows, AreLinksOfRows}
use Rattle.binary_form.proofs.ItemLemmas.{suffix_symbol}
use Rattle.binary_form.proofs.NumberLemmas.{number-suffix-suc}
use Rattle.binary_form.proofs.RowLemmas.{number_below, suffix_of_row, next_number, goes_on, row_at, same_item}
use Rattle.binary_form.proofs.StepLemmas.{not_last}

module _ (g : Grammar) where
  -- of two numbers that make a third, one is left of the other
  makers_are_partners : (left right n : ℕ) → MakesNumber g left right n → IsLeftPartner g left right
  makers_are_partners left right n makes = record {
    r = makes.r;
    p = makes.p;
    item = makes.item;
    behind = makes.behind;
    has = makes.has;
    is_left = makes.is_left;
    is_right = makes.is_right;
  }

  -- a number that is left of another makes with it the suffix that begins with it
  partners_make :
      (left right : ℕ) (x : IsLeftPartner g left right)
      → MakesNumber g left right (symbol_number g (suffix x.r x.p))
  partners_make left right x = record {
    r = x.r;
    p = x.p;
    item = x.item;
    behind = x.behind;
    has = x.has;
    is_left = x.is_left;
    is_right = x.is_right;
    reaches = (suffix x.r x.p, (suffix_symbol g x.r x.p x.item x.behind x.has, refl), stay);
  }

-- a product has a symbol exactly where its left cell has a left partner of its right one
pub partners_meet : PartnersMeet
partners_meet g left right partners are = (
  (λ x.
      let y = x.1 in
      let is = makers_are_partners g y.0 y.1 x.0 y.4 in
      (y.0, y.2, (are y.0).1 (y.1, y.3, is))),
  (λ x.
      let y = (are x.0).0 x.2 in
      let z = y.2 in
      (symbol_number g (suffix z.r z.p), (x.0, y.0, x.1, y.1, partners_make g x.0 y.0 z))),
)

-- a product is that of the left partners alone which its left cell has
pub partners_are_enough : PartnersAreEnough
partners_are_enough g left right partners common are is n = (
  (λ y.
      let partner = (are y.0).1 (y.1, y.3, makers_are_partners g y.0 y.1 n y.4) in
      (y.0, y.1, (is y.0).1 (y.2, partner), y.3, y.4)),
  (λ y. (y.0, y.1, ((is y.0).0 y.2).0, y.3, y.4)),
)

-- where a product has a symbol, its left cell has one that is on the left in some rule
pub products_have_left_symbols : ProductsHaveLeftSymbols
products_have_left_symbols g left right lefts are x =
    let y = x.1 in
    (y.0, y.2, (are y.0).1 (y.1, makers_are_partners g y.0 y.1 x.0 y.4))

module _ (g : Grammar) (rows : List SuffixRow) (are : AreSuffixRows g rows) where
  -- the item of a row that is not the last is left of the suffix behind it
  partner_of_row : (n right left : ℕ) (row : SuffixRow) → IsRowAt g n row
      → IsRowPartner row (suffix_number g n) right left → IsLeftPartner g left right
  partner_of_row n right left row at (more_behind, is_right, is_left) =
      let is = at.is_row in
      let more = goes_on g at.r at.p row is more_behind in
      let next = next_number g n row at more.0 more.1 more.2 in
      record {
        r = at.r;
        p = at.p;
        item = is.item;
        behind = is.behind;
        has = is.has;
        is_left = ((is.is_item).0, (is.is_item).1 ∙ sym is_left);
        is_right = (next.0, next.1 ∙ sym is_right);
      }

  -- an item that is left of a suffix has a row that is not the last
  row_of_partner :
      (right left : ℕ)
      → IsLeftPartner g left right
      → IsLinkOfRows IsRowPartner rows (plain_count g) (length rows) right left
  row_of_partner right left x =
      let found = row_at g rows are x.r x.p x.item x.behind x.has in
      let is = found.2 in
      let n : ℕ = item_count (take x.r g.rules) + x.p in
      let at : IsRowAt g n found.0 = record { r = x.r; p = x.p; count = refl; is_row = is } in
      let same = same_item g.rules x.r x.p x.item is.item x.behind is.behind x.has is.has in
      let same_first : x.item ≡ is.item = cc in
      let number : left ≡ (found.0).item =
      sym (x.is_left).1 ∙ ap (λ y. symbol_number g (plain y)) same_first ∙ (is.is_item).1 in
      let next : right ≡ suffix_number g n + 1 =
      sym (x.is_right).1 ∙ number-suffix-suc g x.r x.p ∙ ap (λ m. m + 1) (suffix_of_row g n found.0 at).1 in
      record {
        k = n;
        row = found.0;
        is_row = found.1;
        within = slice_get_within rows n found.0 found.1;
        is_link = (not_last g x.r x.p found.0 is (x.is_right).0, next, number);
      }

  -- the links that all rows give lead from suffixes to the items before them
  pub partner_links_are :
      (many : ℕ) (links : List (List ℕ))
      → length rows ≤ many
      → AreLinksOfRows IsRowPartner rows (plain_count g) many (suffix_number g (length rows)) links
      → ArePartnerLinks g links
  partner_links_are many links all given = record {
    count = omega (arith, given.size, are.count);
    links = λ m n. (
      (λ has.
          let link = (given.exact m n).0 has in
          partner_of_row link.k m n link.row (are.each link.k link.row link.is_row) link.is_link),
      (λ x.
          let link = row_of_partner m n x in
          (given.exact m n).1 (record {
            k = link.k;
            row = link.row;
            is_row = link.is_row;
            within = omega (arith, link.within);
            is_link = link.is_link;
          })),
    );
  }

-- each suffix is linked to numbers of symbols alone
pub partners_within :
    (g : Grammar) (links : List (List ℕ))
    → ArePartnerLinks g links → AreLinksWithin links
partners_within g links are m n has =
    let x = (are.links m n).0 has in
    omega (arith, are.count, number_below g (plain x.item) n x.is_left)

-- what numbers give that give themselves are the numbers
pub each_given :
    (numbers old new : List ℕ)
    → Adds (OneGives (λ giver n. n ≡ giver) numbers) old new → IsUnion old numbers new
each_given numbers old new adds n = (to, back)
  where
    to : Contains new n → Contains old n ⊎ Contains numbers n
    to has = elim ((adds n).0 has) [
      | inl kept ↦ inl kept
      | inr given ↦ let Has : ℕ → Type 0 = λ m. Contains numbers m in inr (subst Has (sym given.2) given.1)
    ]

    back : Contains old n ⊎ Contains numbers n → Contains new n
    back (inl kept) = (adds n).1 (inl kept)
    back (inr has) = (adds n).1 (inr (n, has, refl))

-- what is added to no numbers is all that there is
pub added_to_none :
    (Given : ℕ → Type 0) (none new : List ℕ)
    → none ≡ [] → Adds Given none new → (n : ℕ) → Contains new n ↔ Given n
added_to_none Given none new empty adds n = (to, (λ x. (adds n).1 (inr x)))
  where
    to : Contains new n → Given n
    to has = elim ((adds n).0 has) [
      | inl kept ↦ absurd (omega (arith, kept.1, ap length empty))
      | inr x ↦ x
    ]

-- where the test holds, the number is added that is added then
pub adds_where :
    (test : Bool) (number : ℕ) (old new : List ℕ)
    → IsTrue test → AddsSymbol old new number → Adds (λ n. IsTrue test × (n ≡ number)) old new
adds_where test number old new holds adds n = (to, back)
  where
    to : Contains new n → Contains old n ⊎ (IsTrue test × (n ≡ number))
    to has = elim ((adds n).0 has) [
      | inl kept ↦ inl kept
      | inr same ↦ inr (holds, same)
    ]

    back : Contains old n ⊎ (IsTrue test × (n ≡ number)) → Contains new n
    back (inl kept) = (adds n).1 (inl kept)
    back (inr (_, same)) = (adds n).1 (inr same)

-- a list that is not empty has a member
pub has_member :
    (xs : List ℕ) (empty : Bool)
    → empty ≡ nat_eq (length xs) 0 → IsTrue (not empty) ↔ ((n : ℕ) × Contains xs n)
has_member [] empty is = (
  (λ some. absurd (false≢true (sym (ap not is) ∙ some))),
  (λ (n, has). absurd (omega (arith, has.1))),
)
has_member (x ∷ xs) empty is = ((λ _. (x, (0, omega arith, refl))), (λ _. some))
  where
    some : IsTrue (not empty)
    some = elim (cases_Bool empty) [
      | inr some_first ↦ not_from_false empty some_first
      | inl is_empty ↦ absurd (omega (arith, eqb-true (length (x ∷ xs)) 0 (sym is ∙ is_empty)))
    ]

module _ (links : List (List ℕ)) where
  -- the cell has just the numbers below the limit that are linked to some number
  abbrev pub HasLinkedBelow : ℕ → List ℕ → Type 0
  HasLinkedBelow limit cell =
      (n : ℕ) → Contains cell n ↔ ((n < limit) × ((to : ℕ) × HasLink links n to))

  -- where the next number is added if it is linked, the limit goes past it
  pub linked_more :
      (number : ℕ) (test : Bool) (old new : List ℕ)
      → IsTrue test ↔ ((to : ℕ) × HasLink links number to) → HasLinkedBelow number old
      → Adds (λ n. IsTrue test × (n ≡ number)) old new → HasLinkedBelow (number + 1) new
  linked_more number test old new is before adds n = (forth, back)
    where
      IsLinked : ℕ → Type 0
      IsLinked k = (to : ℕ) × HasLink links k to

      forth : Contains new n → (n < number + 1) × IsLinked n
      forth has = elim ((adds n).0 has) [
        | inl kept ↦ let x = (before n).0 kept in (omega (arith, x.0), x.1)
        | inr (holds, same) ↦ (omega (arith, same), subst IsLinked (sym same) (is.0 holds))
      ]

      back : (n < number + 1) × IsLinked n → Contains new n
      back (under, linked) = elim (cases_lt n number) [
        | inl below ↦ (adds n).1 (inl ((before n).1 (below, linked)))
        | inr later ↦
            let same : n ≡ number = omega (arith, under) in
            (adds n).1 (inr (is.1 (subst IsLinked same linked), same))
      ]

-- the items that begin a longer suffix are those that are on the left in a rule
pub left_symbols_are :
    (g : Grammar) (links : List (List ℕ)) (limit : ℕ) (cell : List ℕ)
    → AreLongerSuffixes g links → symbol_count g ≤ limit → HasLinkedBelow links limit cell
    → AreLeftSymbols g cell
left_symbols_are g links limit cell longer_suffixes all below n = (forth, back)
  where
    forth : Contains cell n → (m : ℕ) × IsLeftPartner g n m
    forth has =
        let found = (below n).0 has in
        let longer = (longer_suffixes.links n found.1.0).0 found.1.1 in (
          symbol_number g (suffix longer.r (suc longer.p)),
          record {
            r = longer.r;
            p = longer.p;
            item = longer.item;
            behind = longer.behind;
            has = longer.has;
            is_left = longer.is_item;
            is_right = (longer.goes_on, refl);
          },
        )

    back : (m : ℕ) × IsLeftPartner g n m → Contains cell n
    back (m, x) =
        let at = symbol_number g (suffix x.r x.p) in
        let is : IsLongerSuffix g n at = record {
          r = x.r;
          p = x.p;
          item = x.item;
          behind = x.behind;
          has = x.has;
          is_item = x.is_left;
          is_suffix = (suffix_symbol g x.r x.p x.item x.behind x.has, refl);
          goes_on = (x.is_right).0;
        } in
        let under = number_below g (plain x.item) n x.is_left in
        (below n).1 (omega (arith, under, all), (at, (longer_suffixes.links n at).1 is))
