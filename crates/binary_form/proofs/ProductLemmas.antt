-- Products of numbers are products of the symbols that they number.
use Rattle.std.proofs.Common.{ℕ, List, suc, Contains, refl, sym, subst}
use Rattle.spec_grammar.specs.Grammars.{Grammar}
use Rattle.binary_form.specs.Symbols.{BinarySymbol, plain, suffix, IsBinarySymbolOf, symbol_number}
use Rattle.binary_form.specs.UnitSteps.{IsInProduct}
use Rattle.binary_form.specs.BinaryForm.{IsNumberOf, IsProductNumber, MakesNumber}
use Rattle.binary_form.specs.Laws.{HasSymbol, ProductsAgree}
use Rattle.binary_form.proofs.ReachLemmas.{reaches_of_number}

module _ (g : Grammar) where
  -- a set with a number has the symbol of that number
  has_of_number :
      (numbers : List ℕ) (a : BinarySymbol) (n : ℕ)
      → IsNumberOf g a n → Contains numbers n → HasSymbol g numbers a
  has_of_number numbers a n is has =
      let Has : ℕ → Type 0 = λ m. Contains numbers m in
      (is.0, subst Has (sym is.1) has)

  -- what two numbers make, the symbols of these numbers give as a product
  makes_product :
      (left right : List ℕ) (l m : ℕ) (a : BinarySymbol)
      → IsBinarySymbolOf g a → Contains left l → Contains right m
      → MakesNumber g l m (symbol_number g a)
      → IsInProduct g.rules (HasSymbol g left) (HasSymbol g right) a
  makes_product left right l m a is on_left on_right makes = record {
    r = makes.r;
    p = makes.p;
    item = makes.item;
    behind = makes.behind;
    has = makes.has;
    on_left = has_of_number left (plain makes.item) l makes.is_left on_left;
    on_right = has_of_number right (suffix makes.r (suc makes.p)) m makes.is_right on_right;
    reaches =
        reaches_of_number g (suffix makes.r makes.p) a (symbol_number g a) (is, refl) makes.reaches;
  }

  -- the numbers of what gives a product make its number
  product_makes :
      (left right : List ℕ) (a : BinarySymbol)
      → IsBinarySymbolOf g a → IsInProduct g.rules (HasSymbol g left) (HasSymbol g right) a
      → IsProductNumber g left right (symbol_number g a)
  product_makes left right a is x = (
    symbol_number g (plain x.item),
    symbol_number g (suffix x.r (suc x.p)),
    x.on_left.1,
    x.on_right.1,
    record {
      r = x.r;
      p = x.p;
      item = x.item;
      behind = x.behind;
      has = x.has;
      is_left = (x.on_left.0, refl);
      is_right = (x.on_right.0, refl);
      reaches = (a, (is, refl), x.reaches);
    },
  )

-- the product of numbers is the product of the symbols that they number
pub products_agree : ProductsAgree
products_agree g left right a is = (
  (λ x. makes_product g left right x.0 x.1 a is x.2 x.3 x.4),
  product_makes g left right a is,
)
