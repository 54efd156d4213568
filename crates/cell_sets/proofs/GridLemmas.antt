-- Laws of grids.
use Rattle.std.proofs.Common.{◌≡◌, [], map, get_or, ◌∙◌, ap, arith}
use Rattle.std.specs.List.{range_with_len}
use Rattle.std.proofs.lemmas.List.FromFn.{get_or-map-range_with_len}
use Rattle.cell_sets.specs.Grids.{row_of, grid_of, EntriesAreValues}

-- an entry of a grid made from a function is the function's value
pub entry-grid_of : EntriesAreValues
unfolding grid_of
entry-grid_of rows columns f i j in_rows in_columns =
    let row : get_or (map (λ n. row_of columns (f n)) (range_with_len 0 rows)) i [] ≡ row_of columns (f i) =
    get_or-map-range_with_len (λ n. row_of columns (f n)) 0 rows i i [] in_rows (omega arith) in
    ap (λ xs. get_or xs j []) row ∙ get_or-map-range_with_len (f i) 0 columns j j [] in_columns (omega arith)
