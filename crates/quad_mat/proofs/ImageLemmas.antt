-- Products of cells, and images of rows under a cell.
use Rattle.std.proofs.Common.{◌≡◌, ℕ, ◌+◌, ◌<◌, ◌≤◌, ◌↔◌, ◌⊎◌, List, [], ◌∷◌, ◌++◌, Option, Some, None, length, get_or, map, refl, subst, inl, inr, arith, Contains}
use Rattle.std.specs.Prelude.{Result, Ok, Err, OnOk, OnErr}
use Rattle.std.proofs.lemmas.Bool.{cases_lt}
use Rattle.std.proofs.lemmas.List.{length_push, get_or_push, get_or_append_left}
use Rattle.std.proofs.lemmas.List.Elements.{Contains-push_cases}
use Rattle.spec_grammar.specs.Grammars.{Grammar}
use Rattle.binary_form.specs.BinaryForm.{IsProductNumber, IsProductOf}
use Rattle.quad_mat.specs.declared.entries.Entry.{Entry}
use Rattle.quad_mat.specs.declared.room.RowUnion.{RowUnion}
use Rattle.quad_mat.specs.declared.images.CellProduct.{CellProduct}
use Rattle.quad_mat.specs.declared.images.RowImage.{RowImage}
use Rattle.quad_mat.specs.Rows.{cell_of, blank, RowHas, column_at, IsRow, AreFull, Grows, row_of}
use Rattle.quad_mat.specs.Rooms.{IsRoom, RoomGrows}
use Rattle.quad_mat.specs.Products.{NumbersSome, IsCellProduct, AreProducts, MakesProduct, PushesProduct, FirstMake, EntryMakes, IsImageUpTo, IsImage, AreImages, IsMaking}
use Rattle.quad_mat.proofs.EntryLemmas.{has_none, push_has, push_row, row_none, row_grows, grows_length, grows_read, grows_self, grows_then, has_grows, cell_read}
use Rattle.quad_mat.proofs.CellLemmas.{has_some}
use Rattle.quad_mat.proofs.RoomLemmas.{number_grows}

-- one of the first, and one more
pub some_more :
    (P : ℕ → Type 0) (n : ℕ)
    → ((k : ℕ) × (k < n + 1) × P k) ↔ (((k : ℕ) × (k < n) × P k) ⊎ P n)
some_more P n = (
  (λ h. elim (cases_lt h.0 n) [
    | inl before ↦ inl (h.0, before, h.2)
    | inr past ↦
        let last : h.0 ≡ n = omega (arith, past, h.1) in
        inr (subst P last h.2)
  ]),
  (elim [
    | inl h ↦ (h.0, omega (arith, h.1), h.2)
    | inr h ↦ (n, omega arith, h)
  ]),
)

-- what is remembered stays true with a true one more, which may be left out for want of memory
pub tried :
    {X A E : Type 0} (P : X → Type 0) (xs now : List X) (x : X) (r : Result A E)
    → ((m : X) → Contains xs m → P m) → P x
    → OnOk r (now ≡ xs ++ x ∷ []) → OnErr r (now ≡ xs)
    → (m : X) → Contains now m → P m
tried {X = X} P xs now x (Ok a) all is ok err m has =
    let Has : List X → Type 0 = λ ys. Contains ys m in
    elim (Contains-push_cases xs x m (subst Has ok has)) [
      | inl u ↦ all m u
      | inr u ↦ subst P u is
    ]
tried {X = X} P xs now x (Err a) all is ok err m has =
    let Has : List X → Type 0 = λ ys. Contains ys m in
    all m (subst Has err has)

module _ (g : Grammar) where
  -- a product keeps its number among more cells
  pub cell_product_grows :
      (left right : List ℕ) (old new : List (List ℕ)) (number : Option ℕ)
      → Grows old new → IsCellProduct g left right old number → IsCellProduct g left right new number
  cell_product_grows left right old new None grows is = is
  cell_product_grows left right old new (Some n) grows (within, is) =
      let longer = grows_length old new grows in
      (omega (arith, longer, within), rw (grows_read old new [] n grows within) is)

  -- the product of two cells, among the cells
  pub product_made :
      (left right symbols : List ℕ) (old new : List (List ℕ)) (number : Option ℕ)
      → IsProductOf g left right symbols → NumbersSome old new symbols number
      → IsCellProduct g left right new number
  product_made left right symbols old new None product numbers =
      (λ s makes. has_some symbols s ((product s).1 makes) numbers.same)
  product_made left right symbols old new (Some n) product numbers = (
    numbers.same.0,
    (λ s. (
      (λ h. (product s).0 ((numbers.same.1 s).1 h)),
      (λ h. (numbers.same.1 s).0 ((product s).1 h)),
    )),
  )

  module _ (left right : List (List ℕ)) where
    pub products_grow :
        (old new : List (List ℕ)) (products : List CellProduct)
        → Grows old new → AreProducts g left right old products → AreProducts g left right new products
    products_grow old new products grows hold m has =
        cell_product_grows (cell_of left m.left) (cell_of right m.right) old new m.number grows (hold m has)

    -- a product that is remembered
    pub product_found :
        (cells : List (List ℕ)) (products : List CellProduct) (l r : ℕ) (number : Option ℕ)
        → AreFull cells → AreProducts g left right cells products
        → ((m : CellProduct) × Contains products m × (m.left ≡ l) × (m.right ≡ r) × (m.number ≡ number))
        → MakesProduct g left right cells cells products l r number
    product_found cells products l r number full hold (m, has, is_l, is_r, is_n) = record {
      grows = grows_self cells;
      full = full;
      remembered = hold;
      product = rw (← is_l, ← is_r, ← is_n) (hold m has);
    }

    -- a product that was made
    pub product_new :
        {A E : Type 0} (result : Result A E) (old new : List (List ℕ)) (products now : List CellProduct)
        (l r : ℕ) (number : Option ℕ) (symbols : List ℕ)
        → AreProducts g left right old products
        → IsProductOf g (cell_of left l) (cell_of right r) symbols
        → NumbersSome old new symbols number
        → OnOk result (now ≡ products ++ record { left = l; right = r; number = number } ∷ [])
        → OnErr result (now ≡ products)
        → MakesProduct g left right old new now l r number
    product_new result old new products now l r number symbols hold product numbers ok err =
        let made = product_made (cell_of left l) (cell_of right r) symbols old new number product numbers in
        let memo : CellProduct = record { left = l; right = r; number = number } in
        let Holds : CellProduct → Type 0 = λ m. IsCellProduct g (cell_of left m.left) (cell_of right m.right) new m.number in record {
          grows = numbers.grows;
          full = numbers.full;
          remembered =
              tried Holds products now memo result (products_grow old new products numbers.grows hold) made ok err;
          product = made;
        }

    -- a product that is pushed
    pub product_pushed :
        (old new : List (List ℕ)) (products : List CellProduct) (l : ℕ) (e : Entry) (n : ℕ) (image next : List Entry)
        → MakesProduct g left right old new products l e.cell (Some n)
        → next ≡ image ++ record { column = e.column; cell = n } ∷ []
        → PushesProduct g left right old new products l e image next
    product_pushed old new products l e n image next made is = record {
      grows = made.grows;
      full = made.full;
      remembered = made.remembered;
      pushed = inr (n, is, made.product.0, made.product.1);
    }

    -- an empty one
    pub product_skipped :
        (old new : List (List ℕ)) (products : List CellProduct) (l : ℕ) (e : Entry) (image : List Entry)
        → MakesProduct g left right old new products l e.cell None
        → PushesProduct g left right old new products l e image image
    product_skipped old new products l e image made = record {
      grows = made.grows;
      full = made.full;
      remembered = made.remembered;
      pushed = inl (refl, made.product);
    }

    module _ (columns : ℕ) (old : List (List ℕ)) (l : ℕ) (row : List Entry) where
      -- the image of no entries
      pub image_start :
          (products : List CellProduct) → AreFull old → AreProducts g left right old products
          → IsImageUpTo g columns left right old old products l row 0 []
      image_start products full hold = record {
        grows = grows_self old;
        full = full;
        remembered = hold;
        is_row = row_none (length old) columns;
        below = λ k m d within from to. absurd (omega arith);
        has = λ column s. (
          (λ h. absurd (has_none old column s h)),
          (λ h. absurd (omega (arith, h.1))),
        );
      }

      module _ (now new : List (List ℕ)) (products after : List CellProduct) (count : ℕ) (image next : List Entry)
          (is : IsRow (length right) columns row) (within : count < length row)
          (so_far : IsImageUpTo g columns left right old now products l row count image)
          (pushes : PushesProduct g left right now new after l (get_or row count blank) image next) where
        first_more :
            (column s : ℕ)
            → FirstMake g (cell_of left l) right row (count + 1) column s
            ↔ (FirstMake g (cell_of left l) right row count column s ⊎ EntryMakes g (cell_of left l) right (get_or row count blank) column s)
        first_more column s = some_more (λ k. EntryMakes g (cell_of left l) right (get_or row k blank) column s) count

        grown : IsRow (length new) columns image
        grown = row_grows (length now) (length new) columns image (grows_length now new pushes.grows) so_far.is_row

        same : (column s : ℕ) → RowHas new image column s ↔ FirstMake g (cell_of left l) right row count column s
        same column s =
            let moved = has_grows now new image (length image) column s pushes.grows so_far.is_row.cells_below (omega arith) in
            let before = so_far.has column s in
            ((λ h. before.0 (moved.1 h)), (λ h. moved.0 (before.1 h)))

        -- where the product is empty
        image_skip :
            ((s : ℕ) → IsProductNumber g (cell_of left l) (cell_of right (get_or row count blank).cell) s → ⊥)
            → IsImageUpTo g columns left right old new after l row (count + 1) image
        image_skip none = record {
          grows = grows_then old now new so_far.grows pushes.grows;
          full = pushes.full;
          remembered = pushes.remembered;
          is_row = grown;
          below = λ k m d inside from to. so_far.below k m d inside (omega (arith, from)) to;
          has = λ column s. (
            (λ h. (first_more column s).1 (inl ((same column s).0 h))),
            (λ h. elim ((first_more column s).0 h) [
              | inl u ↦ (same column s).1 u
              | inr u ↦ absurd (none s u.1)
            ]),
          );
        }

        -- where it is not
        image_more :
            (n : ℕ) → n < length new
            → IsProductOf g (cell_of left l) (cell_of right (get_or row count blank).cell) (cell_of new n)
            → IsImageUpTo g columns left right old new after l row (count + 1)
            (image ++ record { column = (get_or row count blank).column; cell = n } ∷ [])
        image_more n known product = record {
          grows = grows_then old now new so_far.grows pushes.grows;
          full = pushes.full;
          remembered = pushes.remembered;
          is_row =
              push_row image f (length new) columns grown
              (λ k d inside. so_far.below k count d inside (omega arith) within) (is.columns_below count blank within) known;
          below = below;
          has = λ column s.
              let push = push_has image f new column s in (
                (λ h. elim (push.0 h) [
                  | inl u ↦ (first_more column s).1 (inl ((same column s).0 u))
                  | inr u ↦ (first_more column s).1 (inr (u.0, (product s).0 u.1))
                ]),
                (λ h. elim ((first_more column s).0 h) [
                  | inl u ↦ push.1 (inl ((same column s).1 u))
                  | inr u ↦ push.1 (inr (u.0, (product s).1 u.1))
                ]),
              );
        }
          where
            f : Entry
            f = record { column = (get_or row count blank).column; cell = n }

            below :
                (k m : ℕ) (d : Entry) → k < length (image ++ f ∷ []) → count + 1 ≤ m → m < length row
                → (get_or (image ++ f ∷ []) k d).column < column_at row m
            below k m d inside from to =
                let longer : length (image ++ f ∷ []) ≡ length image + 1 = length_push image f in
                elim (cases_lt k (length image)) [
                  | inl before ↦
                      rw (get_or_append_left image (f ∷ []) d k before) (so_far.below k m d before (omega (arith, from)) to)
                  | inr past ↦
                      let last : length image ≡ k = omega (arith, longer, past, inside) in
                      rw (get_or_push image f d k last) (is.rising count m blank (omega (arith, from)) to)
                ]

        -- one entry more
        pub image_step : IsImageUpTo g columns left right old new after l row (count + 1) next
        image_step = elim pushes.pushed [
          | inl u ↦ rw u.0 (image_skip u.1)
          | inr u ↦ rw u.1 (image_more u.0 u.2 u.3)
        ]

      -- all of them
      pub image_all :
          (now : List (List ℕ)) (products : List CellProduct) (count : ℕ) (image : List Entry)
          → length row ≤ count → count ≤ length row
          → IsImageUpTo g columns left right old now products l row count image
          → IsImageUpTo g columns left right old now products l row (length row) image
      image_all now products count image all low so_far =
          let end : count ≡ length row = omega (arith, all, low) in
          let At : ℕ → Type 0 = λ n. IsImageUpTo g columns left right old now products l row n image in
          subst At end so_far

      -- the image in the room
      pub image_in_room :
          (mid new : List (List ℕ)) (products : List CellProduct) (image : List Entry) (rows : List (List Entry)) (n : ℕ)
          → IsImageUpTo g columns left right old mid products l row (length row) image → Grows mid new
          → (n < length rows) × (row_of rows n ≡ image)
          → IsImage g (cell_of left l) right row new rows n
      image_in_room mid new products image rows n made more (within, is) = (
        within,
        (λ column s.
            let moved = has_grows mid new image (length image) column s more made.is_row.cells_below (omega arith) in
            let has = made.has column s in
            rw is ((λ h. has.0 (moved.1 h)), (λ h. moved.0 (has.1 h)))),
      )

    module _ (columns : ℕ) (cells new_cells : List (List ℕ)) (rows new_rows : List (List Entry)) (unions : List RowUnion)
        (room : IsRoom columns cells rows unions) (more_cells : Grows cells new_cells) (more_rows : Grows rows new_rows) where
      -- an image keeps its number in a room that grows
      pub image_grows :
          (cell : List ℕ) (row : List Entry) (n : ℕ)
          → IsImage g cell right row cells rows n → IsImage g cell right row new_cells new_rows n
      image_grows cell row n (within, is) = (
        omega (arith, grows_length rows new_rows more_rows, within),
        (λ column s.
            let same = number_grows columns cells rows unions room new_cells new_rows n column s more_cells more_rows within in
            let has = is column s in
            ((λ h. has.0 (same.1 h)), (λ h. same.0 (has.1 h)))),
      )

      pub images_grow :
          (source : List (List Entry)) (images : List RowImage)
          → AreImages g left right source cells rows images → AreImages g left right source new_cells new_rows images
      images_grow source images hold m has =
          image_grows (cell_of left m.cell) (row_of source m.row) m.image (hold m has)

      -- and so does what a product is made in
      pub making_grows :
          (source : List (List Entry)) (after : List RowUnion) (products : List CellProduct) (images : List RowImage)
          → IsRoom columns new_cells new_rows after
          → IsMaking g left right source columns cells rows unions products images
          → IsMaking g left right source columns new_cells new_rows after products images
      making_grows source after products images grown making = record {
        room = grown;
        products_hold = products_grow cells new_cells products more_cells making.products_hold;
        images_hold = images_grow source images making.images_hold;
      }

    -- a room in which nothing was made
    pub making_start :
        (source : List (List Entry)) (columns : ℕ) (cells : List (List ℕ)) (rows : List (List Entry)) (unions : List RowUnion)
        (products : List CellProduct) (images : List RowImage)
        → IsRoom columns cells rows unions → products ≡ [] → images ≡ []
        → IsMaking g left right source columns cells rows unions products images
    making_start source columns cells rows unions products images room no_product no_image = record {
      room = room;
      products_hold = λ m has. let there : Contains [] m = rw no_product at has in absurd (omega (arith, there.1));
      images_hold = λ m has. let there : Contains [] m = rw no_image at has in absurd (omega (arith, there.1));
    }

    -- an image more
    pub making_image :
        {A E : Type 0} (result : Result A E) (source : List (List Entry)) (columns : ℕ) (old mid new : List (List ℕ))
        (rows new_rows : List (List Entry)) (unions after : List RowUnion) (products now : List CellProduct)
        (images later : List RowImage) (l n image : ℕ)
        → IsMaking g left right source columns old rows unions products images
        → Grows old mid → AreProducts g left right mid now
        → RoomGrows columns mid rows new new_rows after
        → IsImage g (cell_of left l) right (row_of source n) new new_rows image
        → OnOk result (later ≡ images ++ record { cell = l; row = n; image = image } ∷ [])
        → OnErr result (later ≡ images)
        → IsMaking g left right source columns new new_rows after now later
    making_image result source columns old mid new rows new_rows unions after products now images later l n image making more hold grows is ok err =
        let memo : RowImage = record { cell = l; row = n; image = image } in
        let Holds : RowImage → Type 0 =
        λ m. IsImage g (cell_of left m.cell) right (row_of source m.row) new new_rows m.image in record {
          room = grows.room;
          products_hold = products_grow mid new now grows.cells_grow hold;
          images_hold =
              tried Holds images later memo result
              (images_grow columns old new rows new_rows unions making.room (grows_then old mid new more grows.cells_grow)
              grows.rows_grow source images making.images_hold)
              is ok err;
        }

    -- an image that is remembered
    pub image_found :
        (source : List (List Entry)) (cells : List (List ℕ)) (rows : List (List Entry)) (images : List RowImage) (l n image : ℕ)
        → AreImages g left right source cells rows images
        → ((m : RowImage) × Contains images m × (m.cell ≡ l) × (m.row ≡ n) × (m.image ≡ image))
        → IsImage g (cell_of left l) right (row_of source n) cells rows image
    image_found source cells rows images l n image hold (m, has, is_l, is_n, is_image) =
        rw (← is_l, ← is_n, ← is_image) (hold m has)

-- the product of two cells that are read at their places
pub product_read :
    {C : Type 0} (symbols : C → List ℕ) (g : Grammar) (lefts rights : List C) (l r : ℕ) (c d : C) (made : List ℕ)
    → l < length lefts → r < length rights → c ≡ get_or lefts l c → d ≡ get_or rights r d
    → IsProductOf g (symbols c) (symbols d) made
    → IsProductOf g (cell_of (map symbols lefts) l) (cell_of (map symbols rights) r) made
product_read symbols g lefts rights l r c d made in_left in_right is_c is_d product =
    rw (cell_read symbols lefts l c in_left is_c, cell_read symbols rights r d in_right is_d) product
