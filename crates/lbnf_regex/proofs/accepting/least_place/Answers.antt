-- The kinds before this one have no match that ends here.
use Rattle.std.proofs.Common.{◌≡◌, ℕ, ◌<◌, ◌+◌, ◌-◌, ◌⊎◌, map, get_or, arith, subst, sym, inl, inr, ◌∙◌}
use Rattle.std.specs.List.{Contains}
use Rattle.std.proofs.lemmas.Bool.{false≢true}
use Rattle.spec_automata.specs.Positions.{position_count}
use Rattle.lbnf_regex.specs.Patterns.{bytes_of_pattern}
use Rattle.lbnf_regex.specs.States.{EndsInPlace}
use Rattle.lbnf_regex.proofs.ExpectingLemmas.{parts_more, size_at}
use Rattle.lbnf_regex.proofs.PlaceLemmas.{place_here, place_behind, no_place}
use Rattle.lbnf_regex.proofs.accepting.least_place.Goals as goal

below_or_last : (k i : ℕ) → k < i + 1 → (k < i) ⊎ (k ≡ i + 0)
below_or_last k i h = grind arith

pub returns-then-can_end_within : goal.returns-then-can_end_within
returns-then-can_end_within c =
    let M : ℕ → Type 0 = Contains c.args.marks.now in
    let P : ℕ → Type 0 = EndsInPlace (map bytes_of_pattern c.args.kinds.now) 0 M in
    let kind = c.index-kinds-i.result in
    let here =
    place_here c.args.kinds.now c.loop-i.i kind c.loop-i.start (c.loop-i.start + position_count (bytes_of_pattern kind)) M
    c.loop-i-test.true c.index-kinds-i.is (omega arith) in
    let same : c.loop-i.i + 0 ≡ c.loop-i.i = omega arith in
    (subst P same ((c.loop-i.invariant.rest 0).0 (here.1 (c.can_end_within.ensures.0 c.if-can_end_within.true))), c.loop-i.invariant.before)

pub loop-i-preserved : goal.loop-i-preserved
loop-i-preserved c =
    let kinds = c.args.kinds.now in
    let M : ℕ → Type 0 = Contains c.args.marks.now in
    let P : ℕ → Type 0 = EndsInPlace (map bytes_of_pattern kinds) 0 M in
    let kind = c.index-kinds-i.result in
    let count : ℕ = get_or c.args.sizes.now c.loop-i.i 0 in
    let size = size_at kinds c.args.sizes.now c.loop-i.i kind c.requires.sizes c.loop-i-test.true c.index-kinds-i.is in
    let room = rw (parts_more kinds c.loop-i.i kind c.loop-i-test.true c.index-kinds-i.is) at c.loop-i.invariant.room in
    let here =
    place_here kinds c.loop-i.i kind c.loop-i.start (c.loop-i.start + count) M c.loop-i-test.true
    c.index-kinds-i.is (omega (arith, size)) in
    let behind =
    place_behind kinds c.loop-i.i kind c.loop-i.start (c.loop-i.start + count) M c.loop-i-test.true
    c.index-kinds-i.is (omega (arith, size)) in
    record {
      room = omega (arith, room, size);
      before = λ k lt h. elim (below_or_last k c.loop-i.i lt) [
        | inl below ↦ c.loop-i.invariant.before k below h
        | inr e ↦
            absurd
            (false≢true
            (sym c.if-can_end_within.false ∙ c.can_end_within.ensures.1 (here.0 ((c.loop-i.invariant.rest 0).1 (subst P e h)))))
      ];
      rest = λ k.
          let up : c.loop-i.i + (k + 1) ≡ c.loop-i.i + 1 + k = omega arith in (
            λ h. subst P up ((c.loop-i.invariant.rest (k + 1)).0 ((behind k).0 h)),
            λ h. (behind k).1 ((c.loop-i.invariant.rest (k + 1)).1 (subst P (sym up) h)),
          );
    }

pub returns : goal.returns
returns c = λ k h. elim (before_or_behind k c.loop-i.i) [
  | inl below ↦ c.loop-i.invariant.before k below h
  | inr e ↦
      let P : ℕ → Type 0 = EndsInPlace (map bytes_of_pattern c.args.kinds.now) 0 (Contains c.args.marks.now) in
      no_place c.args.kinds.now c.loop-i.i c.loop-i.start (k - c.loop-i.i) (Contains c.args.marks.now) c.loop-i-test.false
      ((c.loop-i.invariant.rest (k - c.loop-i.i)).1 (subst P (sym e) h))
]
  where
    before_or_behind : (k i : ℕ) → (k < i) ⊎ (i + (k - i) ≡ k)
    before_or_behind k i = grind arith
