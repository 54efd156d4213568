use Rattle.std.proofs.Common.{◌≡◌, ◌||◌, ◌<◌, ℕ, length}
use Rattle.spec_lexing.specs.Expressions.{expression_of}
use Rattle.spec_automata.specs.Encoding.{has_character}
use Rattle.lbnf_regex.specs.ByteSets.{flag_at}
use Rattle.lbnf_regex.proofs.encoding.flags_with.Given as goal

-- the flags so far
abbrev pub invariant-loop-byte : goal.invariant-loop-byte
invariant-loop-byte l = record {
  size : length l.flags ≡ l.byte;
  are : (b : ℕ) → b < l.byte → flag_at l.flags b ≡ (flag_at l.removed b || has_character (expression_of l.class) b);
}
