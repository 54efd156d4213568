-- The links that rows give are those of the grammar.
use Rattle.std.proofs.Common.{◌≡◌, ℕ, suc, ◌+◌, ◌≤◌, ◌↔◌, ◌⊎◌, inl, inr, List, [], Bool, not, IsTrue, IsFalse}
use Rattle.std.proofs.Common.{Some, length, slice_get, take, drop, refl, sym, ap, ◌∙◌, subst, arith, length-drop}
use Rattle.std.proofs.lemmas.List.{length-replicate}
use Rattle.std.proofs.lemmas.Option.{slice_get_within}
use Rattle.std.proofs.lemmas.Bool.{cases_Bool, cases_lt, not-true, not_from_false}
use Rattle.spec_grammar.specs.declared.rule.Symbol.TheVariants.{Category}
use Rattle.spec_grammar.specs.declared.rule.Rule.{Rule}
use Rattle.spec_grammar.specs.Derivation.{IsNullable}
use Rattle.spec_grammar.specs.Grammars.{Grammar, item_count}
use Rattle.binary_form.specs.declared.rows.SuffixRow.{SuffixRow}
use Rattle.binary_form.specs.Symbols.{BinarySymbol, plain, suffix, BinaryDerives, IsBinarySymbolOf, symbol_number, plain_count, suffix_number}
use Rattle.binary_form.specs.UnitSteps.{AreNullable, UnitStep, whole_side, last_item, passed_item}
use Rattle.binary_form.specs.BinaryForm.{IsNumberOf}
use Rattle.binary_form.specs.NumberSteps.{StepNumber}
use Rattle.binary_form.specs.Rows.{IsRow, IsRowAt, AreSuffixRows}
use Rattle.binary_form.specs.LongerSuffixes.{IsLongerSuffix, AreLongerSuffixes}
use Rattle.binary_form.specs.NullableNumbers.{AreNullableNumbers, IsRestNullable}
use Rattle.number_graph.specs.Graphs.{IsSet, HasLink, AddsLinks, AreNoLinks}
use Rattle.binary_form.specs.RowLinks.{IsRowStep, IsRowLongerSuffix, IsLinkOfRows, AreLinksOfRows, AreUnitSteps}
use Rattle.binary_form.proofs.NumberLemmas.{number-suffix-suc}
use Rattle.binary_form.proofs.ItemLemmas.{items_behind, same_rule, symbol_item}
use Rattle.binary_form.proofs.RowLemmas.{number_below, suffix_of_row, next_number, goes_on, row_at, same_item}
use Rattle.binary_form.proofs.NullableLemmas.{alike, number_empty, rest_empty}
use Rattle.number_graph.proofs.LinkLemmas.{no_link, adds_both, adds_tested}

-- one suffix's unit steps are added, those of each sort where they are there
pub adds_steps :
    (nullable : List Bool) (row : SuffixRow) (number : ℕ) (old first second new : List (List ℕ)) (empty passed : Bool)
    → IsTrue empty ↔ IsRestNullable nullable row number
    → IsTrue passed ↔ (IsFalse row.is_last × IsSet nullable row.item)
    → AddsLinks (λ m n. IsTrue row.is_first × (m ≡ number) × (n ≡ row.category)) old first
    → AddsLinks (λ m n. IsTrue empty × (m ≡ row.item) × (n ≡ number)) first second
    → AddsLinks (λ m n. IsTrue passed × (m ≡ number + 1) × (n ≡ number)) second new
    → AddsLinks (IsRowStep nullable row number) old new
adds_steps nullable row number old first second new empty passed is_empty is_passed adds_first adds_second adds_third =
    let Second : Type 0 = IsRestNullable nullable row number in
    let Third : Type 0 = IsFalse row.is_last × IsSet nullable row.item in
    adds_both (λ m n. IsTrue row.is_first × (m ≡ number) × (n ≡ row.category))
    (λ m n. (Second × (m ≡ row.item) × (n ≡ number)) ⊎ (Third × (m ≡ number + 1) × (n ≡ number))) old first new adds_first
    (adds_both (λ m n. Second × (m ≡ row.item) × (n ≡ number)) (λ m n. Third × (m ≡ number + 1) × (n ≡ number)) first second new
    (adds_tested first second row.item number Second empty is_empty adds_second)
    (adds_tested second new (number + 1) number Third passed is_passed adds_third))

module _ (Link : SuffixRow → ℕ → ℕ → ℕ → Type 0) (rows : List SuffixRow) (first count : ℕ) where
  -- of no rows there are no links
  pub links_of_none :
      (links : List (List ℕ))
      → AreNoLinks count links → AreLinksOfRows Link rows first 0 count links
  links_of_none links none = record {
    size = ap length none ∙ length-replicate count [];
    exact = λ m n. (
      (λ has. let P : List (List ℕ) → Type 0 = λ xs. HasLink xs m n in absurd (no_link count m n (subst P none has))),
      (λ link. absurd (omega (arith, link.within))),
    );
  }

  -- with one row more there are its links besides
  pub links_of_more :
      (many : ℕ) (row : SuffixRow) (old new : List (List ℕ))
      → slice_get rows many ≡ Some row → AreLinksOfRows Link rows first many count old
      → AddsLinks (Link row (first + many)) old new
      → AreLinksOfRows Link rows first (many + 1) count new
  links_of_more many row old new is before adds = record {
    size = adds.count ∙ before.size;
    exact = λ m n. (forth m n, back m n);
  }
    where
      forth : (m n : ℕ) → HasLink new m n → IsLinkOfRows Link rows first (many + 1) m n
      forth m n has = elim ((adds.links m n).0 has) [
        | inr added ↦ record { k = many; row = row; is_row = is; within = omega arith; is_link = added }
        | inl older ↦
            let link = (before.exact m n).0 older in
            record {
              k = link.k;
              row = link.row;
              is_row = link.is_row;
              within = omega (arith, link.within);
              is_link = link.is_link;
            }
      ]

      same_row :
          (k : ℕ) (other : SuffixRow)
          → k ≡ many → slice_get rows k ≡ Some other → other ≡ row
      same_row k other same is_other = cc

      back : (m n : ℕ) → IsLinkOfRows Link rows first (many + 1) m n → HasLink new m n
      back m n link = (adds.links m n).1 (elim (cases_lt link.k many) [
        | inl earlier ↦ inl ((before.exact m n).1 (record {
          k = link.k;
          row = link.row;
          is_row = link.is_row;
          within = earlier;
          is_link = link.is_link;
        }))
        | inr later ↦
            let last : link.k ≡ many = omega (arith, link.within) in
            let same : link.row ≡ row = same_row link.k link.row last link.is_row in
            let P : SuffixRow → Type 0 = λ x. Link x (first + many) m n in
            let Q : ℕ → Type 0 = λ k. Link link.row (first + k) m n in
            inr (subst P same (subst Q last link.is_link))
      ])

-- a test's opposite is true exactly where the test is false
pub not_tested : (test : Bool) → IsTrue (not test) ↔ IsFalse test
not_tested test = (not-true test, not_from_false test)

-- an item with a symbol of the grammar behind it is not the last
pub not_last :
    (g : Grammar) (r p : ℕ) (row : SuffixRow)
    → IsRow g r p row → IsBinarySymbolOf g (suffix r (suc p)) → IsFalse row.is_last
not_last g r p row is next = elim (cases_Bool row.is_last) [
  | inr no_more ↦ no_more
  | inl last ↦
      let are_behind = items_behind g.rules r p is.item is.behind next.0 is.has next.1 in
      let none : drop (suc p) (next.0).items ≡ [] = are_behind ∙ (is.is_last).0 last in
      absurd (omega (arith, next.2, length-drop (suc p) (next.0).items, ap length none))
]

module _ (g : Grammar) (rows : List SuffixRow) (nullable : List Bool) (are : AreSuffixRows g rows)
    (flags : AreNullableNumbers g nullable) where
  -- the flag of a symbol's number says whether the symbol derives the empty span
  empty_is :
      (a : BinarySymbol) (n : ℕ)
      → IsNumberOf g a n → IsSet nullable n ↔ BinaryDerives g.rules [] a 0 0
  empty_is a n is = alike (flags.exact n (number_below g a n is)) (number_empty g a n is)

  -- the row and the flags say whether what is behind the row's item derives the empty span
  rest_is :
      (n : ℕ) (row : SuffixRow) (at : IsRowAt g n row)
      → IsRestNullable nullable row (suffix_number g n) ↔ AreNullable g.rules (at.is_row).behind
  rest_is n row at = rest_empty g n row at nullable (flags.exact (suffix_number g n + 1))

  -- a step that a row gives is one of the grammar
  pub step_of_row : (n from to : ℕ) (row : SuffixRow) → IsRowAt g n row
      → IsRowStep nullable row (suffix_number g n) from to → StepNumber g from to
  step_of_row n from to row at (inl (whole_rule, is_from, is_to)) =
      let is = at.is_row in
      let number = suffix_of_row g n row at in
      let start : at.p ≡ 0 = (is.is_first).0 whole_rule in
      let own : BinarySymbol = plain (Category ((is.has).rule).category) in
      let P : ℕ → Type 0 = λ place. UnitStep g.rules (suffix at.r place) own in (
        suffix at.r at.p,
        own,
        (number.0, number.1 ∙ sym is_from),
        ((is.is_category).0, (is.is_category).1 ∙ sym is_to),
        subst P (sym start) (whole_side (is.has).is_rule),
      )
  step_of_row n from to row at (inr (inl (rest, is_from, is_to))) =
      let is = at.is_row in
      let number = suffix_of_row g n row at in (
        plain is.item,
        suffix at.r at.p,
        ((is.is_item).0, (is.is_item).1 ∙ sym is_from),
        (number.0, number.1 ∙ sym is_to),
        last_item is.has ((rest_is n row at).0 rest),
      )
  step_of_row n from to row at (inr (inr ((more_behind, set), is_from, is_to))) =
      let is = at.is_row in
      let number = suffix_of_row g n row at in
      let more = goes_on g at.r at.p row is more_behind in
      let next = next_number g n row at more.0 more.1 more.2 in (
        suffix at.r (suc at.p),
        suffix at.r at.p,
        (next.0, next.1 ∙ sym is_from),
        (number.0, number.1 ∙ sym is_to),
        passed_item is.has ((empty_is (plain is.item) row.item is.is_item).0 set),
      )

  -- a step of the grammar is one that a row gives
  pub row_of_step :
      (from to : ℕ)
      → StepNumber g from to
      → IsLinkOfRows (IsRowStep nullable) rows (plain_count g) (length rows) from to
  row_of_step from to step = row_of step.0 step.1 step.2 step.3 step.4
    where
      row_of :
          (a b : BinarySymbol)
          → IsNumberOf g a from → IsNumberOf g b to → UnitStep g.rules a b
          → IsLinkOfRows (IsRowStep nullable) rows (plain_count g) (length rows) from to
      row_of a b is_a is_b (whole_side {r = r} {rule = rule} is_rule) =
          let start = symbol_item g r 0 is_a.0 in
          let x = row_at g rows are r 0 start.0 start.1 start.2 in
          let is = x.2 in
          let n : ℕ = item_count (take r g.rules) + 0 in
          let at : IsRowAt g n x.0 = record { r = r; p = 0; count = refl; is_row = is } in
          let same : rule ≡ (is.has).rule = same_rule g.rules r rule (is.has).rule is_rule (is.has).is_rule in
          let category : to ≡ (x.0).category =
          sym is_b.1 ∙ ap (λ (y : Rule). y.category) same ∙ (is.is_category).1 in
          record {
            k = n;
            row = x.0;
            is_row = x.1;
            within = slice_get_within rows n x.0 x.1;
            is_link = inl ((is.is_first).1 refl, sym is_a.1 ∙ (suffix_of_row g n x.0 at).1, category);
          }
      row_of a b is_a is_b (last_item {r = r} {p = p} {s = s} {behind = behind} has empty) =
          let x = row_at g rows are r p s behind has in
          let is = x.2 in
          let n : ℕ = item_count (take r g.rules) + p in
          let at : IsRowAt g n x.0 = record { r = r; p = p; count = refl; is_row = is } in
          let same = same_item g.rules r p s is.item behind is.behind has is.has in
          let same_first : s ≡ is.item = cc in
          let same_behind : behind ≡ is.behind = cc in
          let item : from ≡ (x.0).item =
          sym is_a.1 ∙ ap (λ y. symbol_number g (plain y)) same_first ∙ (is.is_item).1 in
          let rest = (rest_is n x.0 at).1 (subst (AreNullable g.rules) same_behind empty) in
          record {
            k = n;
            row = x.0;
            is_row = x.1;
            within = slice_get_within rows n x.0 x.1;
            is_link = inr (inl (rest, item, sym is_b.1 ∙ (suffix_of_row g n x.0 at).1));
          }
      row_of a b is_a is_b (passed_item {r = r} {p = p} {s = s} {behind = behind} has empty) =
          let x = row_at g rows are r p s behind has in
          let is = x.2 in
          let n : ℕ = item_count (take r g.rules) + p in
          let at : IsRowAt g n x.0 = record { r = r; p = p; count = refl; is_row = is } in
          let same = same_item g.rules r p s is.item behind is.behind has is.has in
          let same_first : s ≡ is.item = cc in
          let set = (empty_is (plain is.item) (x.0).item is.is_item).1
          (subst (IsNullable g.rules) same_first empty) in
          let next : from ≡ suffix_number g n + 1 =
          sym is_a.1 ∙ number-suffix-suc g r p ∙ ap (λ m. m + 1) (suffix_of_row g n x.0 at).1 in
          record {
            k = n;
            row = x.0;
            is_row = x.1;
            within = slice_get_within rows n x.0 x.1;
            is_link = inr (inr ((not_last g r p x.0 is is_a.0, set), next, sym is_b.1 ∙ (suffix_of_row g n x.0 at).1));
          }

  -- the links that all rows give are the unit steps
  pub unit_steps_are :
      (many : ℕ) (links : List (List ℕ))
      → length rows ≤ many
      → AreLinksOfRows (IsRowStep nullable) rows (plain_count g) many (length nullable) links
      → AreUnitSteps g links
  unit_steps_are many links all given = record {
    count = given.size ∙ flags.count;
    exact = λ m n. (
      (λ has.
          let link = (given.exact m n).0 has in
          step_of_row link.k m n link.row (are.each link.k link.row link.is_row) link.is_link),
      (λ step.
          let link = row_of_step m n step in
          (given.exact m n).1 (record {
            k = link.k;
            row = link.row;
            is_row = link.is_row;
            within = omega (arith, link.within);
            is_link = link.is_link;
          })),
    );
  }

module _ (g : Grammar) (rows : List SuffixRow) (are : AreSuffixRows g rows) where
  -- a row whose suffix goes on behind its item tells an item and the suffix that it begins
  longer_of_row : (n item_number longer : ℕ) (row : SuffixRow) → IsRowAt g n row
      → IsRowLongerSuffix row (suffix_number g n) item_number longer → IsLongerSuffix g item_number longer
  longer_of_row n item_number longer row at (more_behind, is_item, is_suffix) =
      let is = at.is_row in
      let number = suffix_of_row g n row at in
      let more = goes_on g at.r at.p row is more_behind in
      record {
        r = at.r;
        p = at.p;
        item = is.item;
        behind = is.behind;
        has = is.has;
        is_item = ((is.is_item).0, (is.is_item).1 ∙ sym is_item);
        is_suffix = (number.0, number.1 ∙ sym is_suffix);
        goes_on = (next_number g n row at more.0 more.1 more.2).0;
      }

  -- an item with an item behind it has a row whose suffix goes on
  row_of_longer :
      (item_number longer : ℕ)
      → IsLongerSuffix g item_number longer
      → IsLinkOfRows IsRowLongerSuffix rows (plain_count g) (length rows) item_number longer
  row_of_longer item_number longer x =
      let found = row_at g rows are x.r x.p x.item x.behind x.has in
      let is = found.2 in
      let n : ℕ = item_count (take x.r g.rules) + x.p in
      let at : IsRowAt g n found.0 = record { r = x.r; p = x.p; count = refl; is_row = is } in
      let same = same_item g.rules x.r x.p x.item is.item x.behind is.behind x.has is.has in
      let same_first : x.item ≡ is.item = cc in
      let number : item_number ≡ (found.0).item =
      sym (x.is_item).1 ∙ ap (λ y. symbol_number g (plain y)) same_first ∙ (is.is_item).1 in
      record {
        k = n;
        row = found.0;
        is_row = found.1;
        within = slice_get_within rows n found.0 found.1;
        is_link = (not_last g x.r x.p found.0 is x.goes_on, number, sym (x.is_suffix).1 ∙ (suffix_of_row g n found.0 at).1);
      }

  -- the links that all rows give lead from items to the suffixes that they begin
  pub longer_suffixes_are :
      (many : ℕ) (links : List (List ℕ))
      → length rows ≤ many
      → AreLinksOfRows IsRowLongerSuffix rows (plain_count g) many (suffix_number g (length rows)) links
      → AreLongerSuffixes g links
  longer_suffixes_are many links all given = record {
    count = omega (arith, given.size, are.count);
    links = λ m n. (
      (λ has.
          let link = (given.exact m n).0 has in
          longer_of_row link.k m n link.row (are.each link.k link.row link.is_row) link.is_link),
      (λ x.
          let link = row_of_longer m n x in
          (given.exact m n).1 (record {
            k = link.k;
            row = link.row;
            is_row = link.is_row;
            within = omega (arith, link.within);
            is_link = link.is_link;
          })),
    );
  }
