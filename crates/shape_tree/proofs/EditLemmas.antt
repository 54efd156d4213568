-- What an edit makes of the items, and how many nodes it leaves fresh.
use Rattle.std.proofs.Common.{◌≡◌, ℕ, suc, ◌+◌, ◌*◌, ◌<◌, ◌≤◌, max, List, [], ◌∷◌, ◌++◌, length, take, drop, refl, arith, append_assoc, length-append}
use Rattle.std.specs.List.{splice}
use Rattle.std.proofs.Math.Seq.{drop-append_seam, take-append_seam, drop-append-add, take-append-add}
use Rattle.std.proofs.lemmas.List.{take-append-le, drop-append-le}

module _ {I : Type 0} where
  -- the first part, the new items and what is behind the deleted ones
  pub spliced : (old front rest gone back items middle begun whole : List I) (at deleted : ℕ)
      → old ≡ front ++ rest → length front ≡ at → rest ≡ gone ++ back → length gone ≡ deleted
      → middle ≡ items → begun ≡ front ++ middle → whole ≡ begun ++ back
      → whole ≡ splice old at (at + deleted) items
  spliced old front rest gone back items middle begun whole at deleted o a r d m b w =
      let head : take at old ≡ front = rw (o, ← a) (take-append_seam front rest) in
      let tail : drop (at + deleted) old ≡ back =
      rw (o, ← a, drop-append-add front rest deleted, r, ← d) (drop-append_seam gone back) in
      rw (w, b, m, head, tail, append_assoc) refl

  -- the new items are among those of the answer
  pub no_longer : (front back items middle begun whole : List I)
      → middle ≡ items → begun ≡ front ++ middle → whole ≡ begun ++ back
      → length items ≤ length whole
  no_longer front back items middle begun whole m b w =
      rw (w, b, m, length-append, length-append) (omega arith)

  -- the item replaced on the left side
  pub replaced_left : (whole l r new out : List I) (i x : I) (at : ℕ)
      → whole ≡ l ++ i ∷ r → at < length l → new ≡ splice l at (at + 1) (x ∷ [])
      → out ≡ new ++ i ∷ r → out ≡ splice whole at (at + 1) (x ∷ [])
  replaced_left whole l r new out i x at is below made o =
      rw (
        o,
        made,
        is,
        take-append-le at l (i ∷ r) (omega (arith, below)),
        drop-append-le (at + 1) l (i ∷ r) (omega (arith, below)),
        append_assoc,
      ) refl

  -- the item replaced at the root
  pub replaced_root : (whole l r out : List I) (i x : I) (at : ℕ)
      → whole ≡ l ++ i ∷ r → at ≡ length l → out ≡ l ++ x ∷ r
      → out ≡ splice whole at (at + 1) (x ∷ [])
  replaced_root whole l r out i x at is here o =
      rw (o, is, here, take-append_seam l (i ∷ r), drop-append-add l (i ∷ r) 1) refl

  -- the item replaced on the right side
  pub replaced_right : (whole l r new out : List I) (i x : I) (at rest : ℕ)
      → whole ≡ l ++ i ∷ r → at ≡ length l + suc rest → new ≡ splice r rest (rest + 1) (x ∷ [])
      → out ≡ l ++ i ∷ new → out ≡ splice whole at (at + 1) (x ∷ [])
  replaced_right whole l r new out i x at rest is there made o =
      let next : length l + suc rest + 1 ≡ length l + suc (rest + 1) = omega arith in
      rw (
        o,
        made,
        is,
        there,
        next,
        take-append-add l (i ∷ r) (suc rest),
        drop-append-add l (i ∷ r) (suc (rest + 1)),
        append_assoc,
      ) refl

-- the fresh nodes of two cuts, of what is built and of two seams
pub few_fresh : (m h hb digits front rest gone back middle begun whole tf tr tg tb tm tbegun : ℕ)
    → h + 1 ≤ 2 * digits → hb + 1 ≤ 2 * digits
    → front + rest ≤ 0 + tf + tr + 3 * h → tf ≤ h → tr ≤ h
    → gone + back ≤ rest + tg + tb + 3 * tr → tg ≤ tr → tb ≤ tr
    → middle ≡ m → tm ≡ hb
    → begun ≤ front + middle + 5 * max tf tm + 2 → tbegun ≤ max tf tm + 1
    → whole ≤ begun + back + 5 * max tbegun tb + 2
    → whole ≤ m + 40 * digits
few_fresh m h hb digits front rest gone back middle begun whole tf tr tg tb tm tbegun
    dh db one ltf ltr two ltg ltb is ism three ltbegun four =
    let first : max tf tm + 1 ≤ 2 * digits = omega (arith, dh, db, ltf, ism) in
    let second : max tbegun tb ≤ 2 * digits = omega (arith, first, ltbegun, ltb, ltr, dh) in
    omega (arith, dh, one, ltf, ltr, two, ltg, ltb, is, three, four, first, second)
