-- No longer front stands at the end, from the longest down.
use Rattle.std.proofs.Common.{◌≡◌, ℕ, ◌+◌, ◌-◌, ◌++◌, ◌∷◌, [], take, inl, inr, arith, subst, sym}
use Rattle.std.proofs.lemmas.Bool.{cases_lt, both_ways}
use Rattle.std.proofs.lemmas.List.{append-nil}
use Rattle.spec_automata.specs.Positions.{EndWith}
use Rattle.lbnf_regex.proofs.comment.border.Goals as goal

pub returns-then-ends_with_front : goal.returns-then-ends_with_front
returns-then-ends_with_front c = record {
  within = omega (arith, c.requires);
  ends = c.ends_with_front.ensures.0 c.if-ends_with_front.true;
  longest = λ other within ends. elim (cases_lt (c.args.size + 1 - c.loop-less.less) other) [
    | inl above ↦ absurd (c.loop-less.invariant other above within ends)
    | inr below ↦ below
  ];
}

pub loop-less-preserved : goal.loop-less-preserved
loop-less-preserved c = λ other above within ends. elim (cases_lt (c.args.size + 1 - c.loop-less.less) other) [
  | inl higher ↦ c.loop-less.invariant other higher within ends
  | inr lower ↦
      let same : other ≡ c.args.size + 1 - c.loop-less.less = omega (arith, above, lower, c.loop-less-test.true) in
      both_ways c.ends_with_front.result c.if-ends_with_front.false
      (c.ends_with_front.ensures.1
      (subst (λ (z : ℕ). EndWith (take c.args.size c.args.closing.now ++ c.args.byte ∷ []) (take z c.args.closing.now)) same ends))
]

pub returns : goal.returns
returns c = record {
  within = omega arith;
  ends = (take c.args.size c.args.closing.now ++ c.args.byte ∷ [], sym (append-nil (take c.args.size c.args.closing.now ++ c.args.byte ∷ [])));
  longest = λ other within ends. elim (cases_lt 0 other) [
    | inl above ↦ absurd (c.loop-less.invariant other (omega (arith, above, c.loop-less-test.false)) within ends)
    | inr below ↦ below
  ];
}
