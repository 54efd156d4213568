-- What is known of a shape that opens to a node.
use Rattle.std.proofs.Common.{◌≡◌, ℕ, List, subst}
use Rattle.shape_tree.specs.Shapes.{items_of, node_items}
use Rattle.shape_tree.specs.Parts.{AreParts, AreNodeParts}
use Rattle.shape_tree.specs.Openings.{OpensTo, AreOpenedParts}
use Rattle.shape_tree.specs.declared.shape.Shape.{Shape}
use Rattle.shape_tree.specs.declared.shape.FreshNode.{FreshNode}
use Rattle.shape_tree.specs.declared.opening.Opened.{Opened}
use Rattle.shape_tree.specs.declared.opening.Opened.TheVariants.{Node}

module _ {T I : Type 0} where
  -- the shape has the items of the node
  pub opened_items : (items : T → List I) (height_of : T → ℕ) (s : Shape T I) (o : Opened T I)
      (n : FreshNode T I)
      → OpensTo items height_of s o → o ≡ Node n → items_of items s ≡ node_items items n
  opened_items items height_of s o n opened is = (subst (OpensTo items height_of s) is opened).0

  -- the kept trees of the node are parts of what those of the shape are parts of
  pub opened_parts : (has_parts : T → T → I → T → Type 0) (given : List T) (s : Shape T I)
      (o : Opened T I) (n : FreshNode T I)
      → ((some : List T) → AreParts has_parts some s → AreOpenedParts has_parts some o)
      → o ≡ Node n → AreParts has_parts given s → AreNodeParts has_parts given n
  opened_parts has_parts given s o n says is parts =
      subst (λ x. AreOpenedParts has_parts given x) is (says given parts)
