-- Which kept trees are parts of which, and which ones a shape has.
use Rattle.std.specs.Prelude.{List}
use Rattle.std.specs.List.{Contains}
use Rattle.shape_tree.specs.declared.shape.Shape.{Shape, Kept, Fresh'}
use Rattle.shape_tree.specs.declared.shape.FreshNode.{FreshNode}

module _ {T I : Type 0} where
  -- the kept tree is the whole, or the left or right side of a part of the whole
  pub data IsPart (has_parts : T → T → I → T → Type 0) (whole : T) : T → Type 0 where
    itself : IsPart has_parts whole whole
    left : {t l r : T} {i : I} → IsPart has_parts whole t → has_parts t l i r
        → IsPart has_parts whole l
    right : {t l r : T} {i : I} → IsPart has_parts whole t → has_parts t l i r
        → IsPart has_parts whole r

  -- the kept tree is a part of one of those given
  abbrev pub IsPartOfOne : (T → T → I → T → Type 0) → List T → T → Type 0
  IsPartOfOne has_parts given t = (whole : T) × Contains given whole × IsPart has_parts whole t

  -- the fact holds of each kept tree in the shape
  abbrev pub AllKept : (T → Type 0) → Shape T I → Type 0
  AllKept Holds (Kept t) = Holds t
  AllKept Holds (Fresh' p l i r) = AllKept Holds l × AllKept Holds r

  -- each kept tree in the shape is a part of one of those given
  abbrev pub AreParts : (T → T → I → T → Type 0) → List T → Shape T I → Type 0
  AreParts has_parts given s = AllKept (IsPartOfOne has_parts given) s

  -- the same of a fresh node by itself
  abbrev pub AreNodeParts : (T → T → I → T → Type 0) → List T → FreshNode T I → Type 0
  AreNodeParts has_parts given n =
      AreParts has_parts given n.left × AreParts has_parts given n.right
