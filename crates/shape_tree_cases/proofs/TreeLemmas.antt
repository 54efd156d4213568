-- A maker that takes every item.
use Rattle.std.proofs.Common.{List, [], ◌∷◌}
use Rattle.std.specs.List.{All}
use Rattle.std.proofs.lemmas.List.Elements.{All-nil, All-cons}

-- it takes each item of any list
pub takes_all : {I : Type 0} (items : List I) → All (λ i. Unit {0}) items
takes_all [] = All-nil (λ i. Unit {0})
takes_all (i ∷ items) = All-cons (λ i. Unit {0}) i items (tt {0}) (takes_all items)
