-- The tokens so far, with those of the rest, are those of the file.
use Rattle.std.proofs.Common.{◌≤◌, ◌-◌, ℕ, List, ◌++◌, length}
use denote.Shadow.{shadow}
use denote.Text.{Utf8}
use Rattle.spec_lbnf.specs.declared.token.PlacedToken.{PlacedToken}
use Rattle.spec_lbnf.specs.FileTokens.{AreFileTokensFrom, IsScan}
use Rattle.lbnf_text.proofs.scanner.scan_file.Given as goal

abbrev pub invariant-loop-tokens : goal.invariant-loop-tokens
invariant-loop-tokens l = record {
  utf8 : shadow (Utf8 l.rest);
  within : length l.rest ≤ length l.fn.text;
  so_far : (tokens : List PlacedToken) (stop : ℕ) → AreFileTokensFrom (length l.fn.text - length l.rest) l.rest tokens stop
      → IsScan l.fn.text (l.tokens.items ++ tokens) stop;
}

abbrev pub decreases-loop-tokens : goal.decreases-loop-tokens
decreases-loop-tokens l = length l.rest
