-- Shapes that are built of items, and how many fresh nodes an edit may leave.
use Rattle.std.specs.Prelude.{◌≡◌, ℕ, ◌+◌, ◌*◌, ◌/◌, List, [], take, drop, length, slice_get, Some}
use Rattle.shape_tree.specs.Digits.{digit_count}
use Rattle.shape_tree.specs.declared.shape.Shape.{Shape, Kept, Fresh'}

module _ {T I : Type 0} where
  -- the item in the middle is at the root, both sides are built so of the items beside it,
  -- and where no item is left stands the leaf
  abbrev pub IsBuilt : T → List I → Shape T I → Type 0
  IsBuilt leaf items (Kept t) = (items ≡ []) × (t ≡ leaf)
  IsBuilt leaf items (Fresh' p l i r) =
      (slice_get items (length items / 2) ≡ Some i)
      × IsBuilt leaf (take (length items / 2) items) l
      × IsBuilt leaf (drop (length items / 2 + 1) items) r

-- the most fresh nodes of an edit: one for each item that is put in, and forty for each digit of
-- the old and the new length together
abbrev pub most_fresh : ℕ → ℕ → ℕ → ℕ
most_fresh inserted old new = inserted + 40 * digit_count (old + new + 1)
