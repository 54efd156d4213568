use Rattle.std.proofs.Common.{ℕ, ◌+◌, ◌-◌, ◌<◌, ◌≤◌, ◌++◌, ◌∷◌, [], take, length}
use Rattle.spec_automata.specs.Positions.{EndWith}
use Rattle.lbnf_regex.proofs.comment.border.Given as goal

-- no longer front stands at the end
abbrev pub invariant-loop-less : goal.invariant-loop-less
invariant-loop-less l =
    (other : ℕ) → l.size + 1 - l.less < other → other ≤ length l.closing →
    EndWith (take l.size l.closing ++ l.byte ∷ []) (take other l.closing) → ⊥
