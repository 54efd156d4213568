-- A lexeme more, a token too many, or the end of the text.
use Rattle.std.proofs.Common.{arith}
use Rattle.text_store.specs.Lexing.{AreTokensBehind, HasTooMany}
use Rattle.text_store.proofs.TextLemmas.{so_far_more, too_many, goes_on, tokens_in, all_read, at_fault}
use Rattle.text_store.proofs.lexing.tokens_of.Goals as goal

pub returns-in_err-keep-clause-tokens : goal.returns-in_err-keep-clause-tokens
returns-in_err-keep-clause-tokens c lexicon is =
    at_fault (λ tokens. AreTokensBehind lexicon c.args.text.now 0 tokens.items) (HasTooMany lexicon c.args.text.now)
    c.in_err-keep.field-0.0 c.from_residual.result c.from_residual.ensures.1
    (too_many c.args.automaton.now c.args.text.now c.loop-place.place c.lexeme_at-lexeme.result
    c.lexeme_at-lexeme.ensures.is c.loop-place.invariant.goes_on c.loop-place.tokens.items
    c.loop-place.invariant.so_far c.in_err-keep.field-0.0 c.lexeme_at-lexeme.ensures.within
    c.in_err-keep.ensures.err lexicon is)

pub loop-place-preserved : goal.loop-place-preserved
loop-place-preserved c =
    let on =
    goes_on c.args.automaton.now c.args.text.now c.loop-place.place c.lexeme_at-lexeme.result
    c.lexeme_at-lexeme.ensures.is c.loop-place.invariant.goes_on c.loop-place.tokens.items
    c.loop-place.invariant.so_far c.requires.lexed in
    record {
      within = c.lexeme_at-lexeme.ensures.within;
      few = c.in_ok-keep.ensures.few;
      goes_on = on;
      tokens_in =
          tokens_in c.args.text.now c.loop-place.place c.lexeme_at-lexeme.result.end c.requires.utf8
          c.lexeme_at-lexeme.ensures.forward c.lexeme_at-lexeme.ensures.within c.loop-place.invariant.goes_on on
          c.loop-place.tokens.items c.lexeme_at-lexeme.result.token c.keep.new.tokens.items
          c.loop-place.invariant.tokens_in c.lexeme_at-lexeme.ensures.token c.in_ok-keep.ensures.ok;
      so_far =
          so_far_more c.args.automaton.now c.args.text.now c.loop-place.place c.lexeme_at-lexeme.result
          c.lexeme_at-lexeme.ensures.is c.loop-place.invariant.goes_on c.loop-place.tokens.items
          c.loop-place.invariant.so_far c.keep.new.tokens.items c.in_ok-keep.ensures.ok;
    }

pub returns-clause-tokens : goal.returns-clause-tokens
returns-clause-tokens c lexicon is =
    all_read c.args.automaton.now c.args.text.now c.loop-place.place c.loop-place.tokens.items
    c.loop-place.invariant.so_far (omega arith) lexicon is
