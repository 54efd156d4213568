-- Laws of what reads take and of what writes add.
use Rattle.std.proofs.Common.{◌≡◌, ℕ, ◌+◌, ◌-◌, ◌<◌, ◌≤◌, List, [], ◌++◌, Option, Some, Result, Ok, Err, length, take, drop, refl, sym, ◌∙◌, ap, append_assoc, length-append, length-drop, arith}
use Rattle.std.proofs.Math.Seq.{take-add}
use Rattle.std.proofs.lemmas.List.{take-append-le, take_rest}
use Rattle.cyk_io.specs.Streams.{Takes, Stays, Grows, IsAtEnd, Reads, Writes}
use Rattle.cyk_io.proofs.ListLemmas.{same_fronts}

-- bytes are taken, and then more bytes
pub Takes-append :
    (old mid new : Option (List ℕ)) (first second : List ℕ)
    → Takes old mid first → Takes mid new second → Takes old new (first ++ second)
Takes-append old mid new first second takes takes_more told is =
    let behind = takes told is in
    let behind_both = takes_more behind.0 behind.1 in
    let joined = sym (append_assoc first second behind_both.0) in
    (behind_both.0, behind_both.1, behind.2 ∙ ap (λ rest. first ++ rest) behind_both.2 ∙ joined)

-- bytes are taken, and then what is left stays
pub Takes-stays :
    (old mid new : Option (List ℕ)) (bytes : List ℕ) → Takes old mid bytes → Stays mid new → Takes old new bytes
Takes-stays old mid new bytes takes stays told is =
    let behind = takes told is in
    (behind.0, stays behind.0 behind.1, behind.2)

-- the front of told bytes is taken, and the rest is told
pub Takes-front : (told bytes rest : List ℕ) → told ≡ bytes ++ rest → Takes (Some told) (Some rest) bytes
Takes-front told bytes rest parts same is =
    let told_same : told ≡ same = cc in
    (rest, refl, sym told_same ∙ parts)

-- where no bytes are told to be left, none is left
pub IsAtEnd-nil : IsAtEnd (Some [])
IsAtEnd-nil told is = let none : [] ≡ told = cc in sym none

-- told bytes that are taken up to the end are all that was told
pub length-at_end :
    (told bytes : List ℕ) (new : Option (List ℕ)) → Takes (Some told) new bytes → IsAtEnd new
    → length told ≡ length bytes
length-at_end told bytes new takes at_end =
    let behind = takes told refl in
    let none : behind.0 ≡ [] = at_end behind.0 behind.1 in
    omega (arith, ap length behind.2, ap length none, length-append bytes behind.0)

-- as many bytes, taken of the same told bytes, are the same and leave the same
pub same_taken :
    (told bytes other : List ℕ) (new new_other : Option (List ℕ))
    → Takes (Some told) new bytes → Takes (Some told) new_other other → length bytes ≡ length other
    → (bytes ≡ other) × (new ≡ new_other)
same_taken told bytes other new new_other takes takes_other lengths =
    let behind = takes told refl in
    let behind_other = takes_other told refl in
    let same = same_fronts bytes other behind.0 behind_other.0 lengths (sym behind.2 ∙ behind_other.2) in
    (same.0, behind.1 ∙ ap Some same.1 ∙ sym behind_other.1)

-- a read into the front of a slice is a read into the slice, where the front has room if the slice has
pub Reads-append :
    {E : Type 0} → (old new : Option (List ℕ)) (result : Result ℕ E) (front rest : List ℕ)
    → (0 < length (front ++ rest) → 0 < length front) → Reads old new result front
    → Reads old new result (front ++ rest)
Reads-append old new (Err fault) front rest room stays = stays
Reads-append old new (Ok n) front rest room (within, takes, end) =
    let fits : n ≤ length (front ++ rest) = omega (arith, length-append front rest) in
    let same : take n (front ++ rest) ≡ take n front = take-append-le n front rest within in
    (fits, rw same takes, λ none some. end none (room some))

-- a write of a front is a write of all bytes, where the front has a byte if they have one
pub Writes-append :
    {E : Type 0} → (old new : Option (List ℕ)) (result : Result ℕ E) (front rest : List ℕ)
    → (0 < length (front ++ rest) → 0 < length front) → Writes old new result front
    → Writes old new result (front ++ rest)
Writes-append old new (Err fault) front rest room stays = stays
Writes-append old new (Ok n) front rest room (within, some, grows) =
    let fits : n ≤ length (front ++ rest) = omega (arith, length-append front rest) in
    let same : take n (front ++ rest) ≡ take n front = take-append-le n front rest within in
    (fits, (λ more. some (room more)), rw same grows)

-- an offset within the bytes goes on by what was written of the rest
pub within_written :
    (at n : ℕ) (bytes : List ℕ) → at ≤ length bytes → n ≤ length (take (length bytes - at) (drop at bytes))
    → at + n ≤ length bytes
within_written at n bytes within most =
    let rest : length (take (length bytes - at) (drop at bytes)) ≡ length bytes - at =
    ap length (take_rest bytes at) ∙ length-drop at bytes in
    omega arith

-- a front of the bytes is written, and then a front of the rest
pub Grows-rest :
    (old mid new : Option (List ℕ)) (at n : ℕ) (bytes : List ℕ)
    → Grows old mid (take at bytes) → Grows mid new (take n (take (length bytes - at) (drop at bytes)))
    → Grows old new (take (at + n) bytes)
Grows-rest old mid new at n bytes grown grows told is =
    let front : List ℕ = take at bytes in
    let behind : List ℕ = take n (drop at bytes) in
    let twice : new ≡ Some ((told ++ front) ++ behind) =
    rw (take_rest bytes at) at (grows (told ++ front) (grown told is)) in
    let joined : (told ++ front) ++ behind ≡ told ++ take (at + n) bytes =
    append_assoc told front behind ∙ ap (λ (more : List ℕ). told ++ more) (sym (take-add at n bytes)) in
    twice ∙ ap Some joined
