-- What is skipped behind what was skipped so far is skipped of the whole text.
use Rattle.std.proofs.Common.{ℕ, List, length}
use denote.Shadow.{shadow}
use denote.Text.{Utf8}
use Rattle.lbnf_readers.specs.Scanning.{SkipsTo}
use Rattle.lbnf_text.proofs.scanner.skip_spaces.Given as goal

abbrev pub invariant-loop-behind : goal.invariant-loop-behind
invariant-loop-behind l = record {
  utf8 : shadow (Utf8 l.rest);
  so_far : (rest : List ℕ) → SkipsTo l.rest rest → SkipsTo l.fn.text rest;
}

abbrev pub decreases-loop-behind : goal.decreases-loop-behind
decreases-loop-behind l = length l.rest
