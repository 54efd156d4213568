-- Serves the proofs alone. What stands left in the rules of the binary form.
use Rattle.std.specs.Prelude.{◌≡◌, ℕ, ◌↔◌, List, length}
use Rattle.spec_grammar.specs.Grammars.{Grammar, symbol_count}
use Rattle.number_graph.specs.Graphs.{HasLink}
use Rattle.binary_form.specs.BinaryForm.{IsLeftPartner, AreLeftSymbols}

-- the links lead from each suffix that has an item before it to that item
pub record ArePartnerLinks (g : Grammar) (partners : List (List ℕ)) : Type 0 where
  pub count : length partners ≡ symbol_count g
  pub links : (right left : ℕ) → HasLink partners right left ↔ IsLeftPartner g left right

-- the links lead from the right sides of rules to the left ones, and the cell has all left ones
pub record AreLeftSides {C : Type 0} (symbols : C → List ℕ) (g : Grammar) (links : List (List ℕ))
    (cell : C) : Type 0 where
  pub partners : ArePartnerLinks g links
  pub lefts : AreLeftSymbols g (symbols cell)
