-- What a read of bytes in memory does.
use Rattle.std.proofs.Common.{◌≡◌, ℕ, ◌+◌, ◌-◌, ◌<◌, List, [], ◌++◌, Some, take, drop, length, refl, sym, ◌∙◌, ap, min, length-append, length-drop, arith}
use Rattle.std.proofs.lemmas.List.{length-take, take-append-drop, take_rest}
use Rattle.cyk_io.specs.Streams.{Takes, IsAtEnd}
use Rattle.cyk_io.proofs.ListLemmas.{drop-drop, nil_of_length}

-- the first of the bytes left, copied to the front of a slice, are taken
pub takes_copied :
    (bytes left into : List ℕ) (at n : ℕ) → drop at bytes ≡ left
    → take n into ≡ take n (take (length bytes - at) (drop at bytes))
    → Takes (Some left) (Some (drop (at + n) bytes)) (take n into)
takes_copied bytes left into at n are_left copied told is =
    let same : left ≡ told = cc in
    let front : take n into ≡ take n (drop at bytes) = copied ∙ ap (take n) (take_rest bytes at) in
    let cut : take n (drop at bytes) ++ drop n (drop at bytes) ≡ drop at bytes =
    take-append-drop n (drop at bytes) in
    let behind : drop n (drop at bytes) ≡ drop (at + n) bytes = drop-drop at n bytes in
    (drop (at + n) bytes, refl, rw (front, ← behind) (sym same ∙ sym are_left ∙ sym cut))

-- nothing is left behind a copy of nothing
pub at_end_copied :
    (bytes : List ℕ) (at n : ℕ) → n ≡ 0 → length (take (length bytes - at) (drop at bytes)) ≡ 0
    → IsAtEnd (Some (drop (at + n) bytes))
at_end_copied bytes at n none len told is =
    let rest : List ℕ = take (length bytes - at) (drop at bytes) in
    let empty : drop at bytes ≡ [] = sym (take_rest bytes at) ∙ nil_of_length rest len in
    let same_offset : at + n ≡ at = omega arith in
    let same : drop (at + n) bytes ≡ told = cc in
    sym same ∙ ap (λ k. drop k bytes) same_offset ∙ empty

-- a piece of a slice has room if the slice has
pub room_of_piece :
    (into read : List ℕ) (piece most : ℕ) → 0 < piece → most ≡ min (length into) piece
    → length read ≡ length (take most into) → 0 < length (read ++ drop most into) → 0 < length read
room_of_piece into read piece most some least len room =
    omega (arith, length-append read (drop most into), length-drop most into, length-take most into)
