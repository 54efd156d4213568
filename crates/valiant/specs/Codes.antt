-- Serves the proofs alone. Charts as data: a shape as its marks, and a chart as its parts.
use Rattle.std.specs.Prelude.{◌≡◌, ℕ, zero, suc, List, [], ◌∷◌, ◌++◌, Option}
use Rattle.std.specs.Coded.{Coded, code_by, coded×, coded_list, coded_option, coded_ℕ}
use Rattle.std.proofs.Common.{refl, ◌∙◌, ap}
use Rattle.cell_sets.specs.Grids.{Grid}
use Rattle.valiant.specs.Charts.{Shape, leaf, node, ChartValue}

-- the marks of a shape, the whole before its parts: 0 for a leaf and 1 for a node
abbrev pub marks_of : Shape → List ℕ
marks_of leaf = 0 ∷ []
marks_of (node left right) = 1 ∷ (marks_of left ++ marks_of right)

-- the first two shapes, if there are two, as one
abbrev pub joined : List Shape → List Shape
joined [] = []
joined (left ∷ []) = []
joined (left ∷ right ∷ rest) = node left right ∷ rest

-- the shapes that the marks give, read from the last to the first, before those that are there
abbrev pub shapes_of : List ℕ → List Shape → List Shape
shapes_of [] rest = rest
shapes_of (zero ∷ marks) rest = leaf ∷ shapes_of marks rest
shapes_of (suc n ∷ marks) rest = joined (shapes_of marks rest)

-- the first shape
abbrev pub first_shape : List Shape → Shape
first_shape [] = leaf
first_shape (shape ∷ rest) = shape

-- marks one after another give their shapes one after another
shapes-append :
    (xs ys : List ℕ) (rest : List Shape)
    → shapes_of (xs ++ ys) rest ≡ shapes_of xs (shapes_of ys rest)
shapes-append [] ys rest = refl
shapes-append (zero ∷ xs) ys rest =
    ap (λ (shapes : List Shape). leaf ∷ shapes) (shapes-append xs ys rest)
shapes-append (suc n ∷ xs) ys rest = ap joined (shapes-append xs ys rest)

-- the marks of a shape give it back
pub shapes-marks :
    (shape : Shape) (rest : List Shape) → shapes_of (marks_of shape) rest ≡ shape ∷ rest
shapes-marks leaf rest = refl
shapes-marks (node left right) rest =
    ap joined (shapes-append (marks_of left) (marks_of right) rest
    ∙ ap (shapes_of (marks_of left)) (shapes-marks right rest) ∙ shapes-marks left (right ∷ rest))

-- a shape is stored as its marks
abbrev pub coded_shape : Coded Shape
coded_shape =
    code_by (List ℕ) (coded_list coded_ℕ) marks_of (λ marks. first_shape (shapes_of marks []))
    (λ shape. ap first_shape (shapes-marks shape []))

-- a grid is stored as its rows, its columns and its table
abbrev pub coded_grid : Coded Grid
coded_grid =
    code_by (ℕ × (ℕ × List (List (List ℕ))))
    (coded× coded_ℕ (coded× coded_ℕ (coded_list (coded_list (coded_list coded_ℕ)))))
    (λ g. (g.rows, (g.columns, g.table)))
    (λ p. record { rows = p.0; columns = p.1.0; table = p.1.1 }) (λ _. refl)

-- a chart is stored as its kinds, its height, its shape and its entries
abbrev pub coded_chart : Coded ChartValue
coded_chart =
    code_by (List (Option ℕ) × (ℕ × (Shape × Grid)))
    (coded× (coded_list (coded_option coded_ℕ)) (coded× coded_ℕ (coded× coded_shape coded_grid)))
    (λ c. (c.kinds, (c.height, (c.shape, c.entries))))
    (λ p. record { kinds = p.0; height = p.1.0; shape = p.1.1.0; entries = p.1.1.1 }) (λ _. refl)
