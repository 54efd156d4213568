-- The tokens from the first to this place are told.
use Rattle.std.proofs.Common.{◌≡◌, ◌≤◌, ◌++◌, slice_range, string_bytes}
use Rattle.spec_session.specs.TokenAnswers.{tokens_text}
use Rattle.chart_service.proofs.token_lines.push_tokens.Given as goal

abbrev pub invariant-loop-place : goal.invariant-loop-place
invariant-loop-place l = record {
  order : l.fn.first ≤ l.place;
  told : string_bytes l.line ≡ string_bytes l.fn.line
      ++ tokens_text l.fn.kinds l.fn.text.bytes (slice_range l.fn.text.tokens l.fn.first l.place);
}
