-- The product of cells is what the suffixes of items give that have an item behind.
use Rattle.std.proofs.Common.{◌≡◌, ℕ, ◌+◌, ◌↔◌, ◌⊎◌, List, [], inl, inr, suc, length, refl, sym, ◌∙◌, ap, subst, arith, Contains}
use Rattle.std.proofs.lemmas.Option.{slice_get_cases}
use Rattle.spec_grammar.specs.Grammars.{Grammar, symbol_count}
use Rattle.cell_sets.specs.Cells.{Adds}
use Rattle.binary_form.specs.Symbols.{BinarySymbol, suffix, symbol_number}
use Rattle.number_graph.specs.Graphs.{stay}
use Rattle.binary_form.specs.BinaryForm.{IsNumberOf, IsReachedNumber, MakesNumber, IsProductNumber, IsProductOf, AddsProductOf, HasProduct}
use Rattle.number_graph.specs.Graphs.{HasLink}
use Rattle.binary_form.specs.LongerSuffixes.{IsLongerSuffix, AreLongerSuffixes}
use Rattle.binary_form.specs.Forms.{AreClosures}
use Rattle.binary_form.specs.Products.{AreBelow, OneGives, IsInCellAt, ItemGives, IsItemMet, LinksGoOnBelow}
use Rattle.binary_form.proofs.ItemLemmas.{suffix_symbol}
use Rattle.binary_form.proofs.NumberLemmas.{number_is_one, numbers_below, number-suffix-suc}

-- the suffix behind the item of a longer suffix has the next number
next_number :
    (g : Grammar) (item longer : ℕ) (is : IsLongerSuffix g item longer)
    → symbol_number g (suffix is.r (suc is.p)) ≡ longer + 1
next_number g item longer is =
    let at : symbol_number g (suffix is.r is.p) ≡ longer = is.is_suffix.1 in
    omega (arith, at, number-suffix-suc g is.r is.p)

-- longer suffixes go on with a number below the count of symbols
pub links_go_on :
    (g : Grammar) (links : List (List ℕ))
    → AreLongerSuffixes g links → LinksGoOnBelow (symbol_count g) links
links_go_on g links longer_suffixes item longer has =
    let is = (longer_suffixes.links item longer).0 has in
    let below = numbers_below g (suffix is.r (suc is.p)) is.goes_on in
    omega (arith, below, next_number g item longer is)

-- what is added to a list without numbers is the product
pub product_from_none :
    (g : Grammar) (left right none cell : List ℕ)
    → none ≡ [] → AddsProductOf g left right none cell → IsProductOf g left right cell
product_from_none g left right none cell empty added n = (to, (λ x. (added n).1 (inr x)))
  where
    to : Contains cell n → IsProductNumber g left right n
    to has = elim ((added n).0 has) [
      | inl kept ↦ absurd (omega (arith, kept.1, ap length empty))
      | inr x ↦ x
    ]

module _ {C : Type 0} (symbols : C → List ℕ) (g : Grammar) (cells : List C) (links : List (List ℕ))
    (closures : AreClosures symbols g cells) (longer_suffixes : AreLongerSuffixes g links) where
  -- the cell at the place of a number has what the symbol of the number reaches
  in_cell :
      (a : BinarySymbol) (at n : ℕ)
      → IsNumberOf g a at → IsReachedNumber g a n → IsInCellAt symbols cells at n
  in_cell a at n is reached =
      elim (slice_get_cases cells at).1 [
        | inl found ↦
            (found.0, found.2, (closures.each at found.0 found.2 n).1 (a, is, reached))
        | inr past ↦
            let below = numbers_below g a is.0 in
            absurd (omega (arith, below, is.1, past.0, closures.count))
      ]

  -- what is in the cell at the place of a symbol's number is reached from the symbol
  reached_from_cell :
      (a : BinarySymbol) (at n : ℕ)
      → IsNumberOf g a at → IsInCellAt symbols cells at n → IsReachedNumber g a n
  reached_from_cell a at n is found =
      let x = (closures.each at found.0 found.1 n).0 found.2 in
      let same : x.0 ≡ a = number_is_one g x.0 a at x.1 is in
      rw same at x.2

  -- two numbers make what a longer suffix gives
  makes_given :
      (right : List ℕ) (l m n : ℕ)
      → Contains right m → MakesNumber g l m n → ItemGives symbols cells links right l n
  makes_given right l m n on_right makes =
      let longer = symbol_number g (suffix makes.r makes.p) in
      let is : IsLongerSuffix g l longer = record {
        r = makes.r;
        p = makes.p;
        item = makes.item;
        behind = makes.behind;
        has = makes.has;
        is_item = makes.is_left;
        is_suffix = (suffix_symbol g makes.r makes.p makes.item makes.behind makes.has, refl);
        goes_on = makes.is_right.0;
      } in
      let next : m ≡ longer + 1 = sym makes.is_right.1 ∙ next_number g l longer is in
      let Has : ℕ → Type 0 = λ k. Contains right k in (
        longer,
        (longer_suffixes.links l longer).1 is,
        (
          subst Has next on_right,
          in_cell (suffix makes.r makes.p) longer n is.is_suffix makes.reaches,
        ),
      )

  -- what a longer suffix gives, its item and the suffix behind it make
  given_makes :
      (l longer n : ℕ)
      → HasLink links l longer → IsInCellAt symbols cells longer n → MakesNumber g l (longer + 1) n
  given_makes l longer n link found =
      let is = (longer_suffixes.links l longer).0 link in
      record {
        r = is.r;
        p = is.p;
        item = is.item;
        behind = is.behind;
        has = is.has;
        is_left = is.is_item;
        is_right = (is.goes_on, next_number g l longer is);
        reaches = reached_from_cell (suffix is.r is.p) longer n is.is_suffix found;
      }

  -- a number of the product is one that an item of the left cell gives
  product_number :
      (left right : List ℕ) (n : ℕ)
      → OneGives (ItemGives symbols cells links right) left n ↔ IsProductNumber g left right n
  product_number left right n = (
    (λ x.
        let given = x.2 in
        let longer = given.0 in
        (x.0, longer + 1, x.1, given.2.0, given_makes x.0 longer n given.1 given.2.1)),
    (λ x. (x.0, x.2, makes_given right x.0 x.1 n x.3 x.4)),
  )

  -- a cell with what the items of the left cell give has the product too
  pub product_added :
      (left right old new : List ℕ)
      → Adds (OneGives (ItemGives symbols cells links right) left) old new
      → AddsProductOf g left right old new
  product_added left right old new given n = (to, back)
    where
      to : Contains new n → Contains old n ⊎ IsProductNumber g left right n
      to has = elim ((given n).0 has) [
        | inl kept ↦ inl kept
        | inr added ↦ inr ((product_number left right n).0 added)
      ]

      back : Contains old n ⊎ IsProductNumber g left right n → Contains new n
      back (inl kept) = (given n).1 (inl kept)
      back (inr x) = (given n).1 (inr ((product_number left right n).1 x))

  -- each closure has numbers of symbols alone
  pub closures_below : AreBelow symbols (length cells) cells
  closures_below at n cell is has =
      let reached = ((closures.each at cell is) n).0 has in
      let number = reached.2.1 in
      omega (arith, closures.count, numbers_below g reached.2.0 number.0, number.1)

  -- the product has a symbol exactly where an item of the left cell is met
  pub met_is :
      (left right : List ℕ)
      → ((item : ℕ) × Contains left item × IsItemMet links right item) ↔ HasProduct g left right
  met_is left right = (
    (λ x.
        let met = x.2 in
        let longer = met.0 in
        let is = (longer_suffixes.links x.0 longer).0 met.1 in
        let a = suffix is.r is.p in
        let own = in_cell a longer longer is.is_suffix (a, is.is_suffix, stay) in
        (longer, (product_number left right longer).0 (x.0, x.1, (longer, met.1, (met.2, own))))),
    (λ y.
        let x = (product_number left right y.0).1 y.1 in
        let given = x.2 in
        (x.0, x.1, (given.0, given.1, given.2.0))),
  )
