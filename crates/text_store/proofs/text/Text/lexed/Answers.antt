-- The lexer stops, or all tokens were read.
use Rattle.text_store.proofs.TextLemmas.{seen_stops, seen_tokens, read_kept, at_refusal}
use Rattle.text_store.proofs.text.Text.lexed.Goals as goal

pub returns-in_err-tokens-clause-tokens : goal.returns-in_err-tokens-clause-tokens
returns-in_err-tokens-clause-tokens c lexicon lexed =
    at_refusal lexicon c.args.bytes.items c.in_err-tokens.field-0.0 c.from_residual.result c.from_residual.ensures.1
    (seen_stops lexicon c.args.automaton.now c.args.bytes.items c.as_slice.result.now c.as_slice.ensures.value lexed
    c.in_err-tokens.field-0.0 (c.in_err-tokens.ensures.tokens lexicon))

pub invariant_of-result : goal.invariant_of-result
invariant_of-result c =
    read_kept c.args.bytes.items c.as_slice.result.now c.in_ok-tokens.tokens.items c.as_slice.ensures.value
    c.requires.fit c.in_ok-tokens.ensures.few c.in_ok-tokens.ensures.within

pub returns-clause-tokens : goal.returns-clause-tokens
returns-clause-tokens c lexicon lexed = (
  seen_tokens lexicon c.args.automaton.now c.args.bytes.items c.as_slice.result.now c.as_slice.ensures.value lexed
      c.in_ok-tokens.tokens.items (c.in_ok-tokens.ensures.tokens lexicon),
  c.in_ok-tokens.ensures.few,
)
