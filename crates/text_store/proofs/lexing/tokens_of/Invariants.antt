-- The tokens so far, with those from the place on, are those of the text, which goes on there as UTF-8.
use Rattle.std.proofs.Common.{◌-◌, ◌≤◌, length, drop, All}
use Rattle.std.specs.Str.{IsUtf8}
use Rattle.spec_text.specs.declared.limits.TheConstants.{MAX_TOKENS}
use Rattle.text_store.specs.Lexing.{IsTokenIn}
use Rattle.text_store.proofs.TextLemmas.{AreSoFar}
use Rattle.text_store.proofs.lexing.tokens_of.Given as goal

abbrev pub invariant-loop-place : goal.invariant-loop-place
invariant-loop-place l = record {
  within : l.place ≤ length l.text;
  few : length l.tokens.items ≤ MAX_TOKENS;
  goes_on : IsUtf8 (drop l.place l.text);
  tokens_in : All (IsTokenIn l.text) l.tokens.items;
  so_far : AreSoFar l.automaton l.text l.place l.tokens.items;
}

abbrev pub decreases-loop-place : goal.decreases-loop-place
decreases-loop-place l = length l.text - l.place
