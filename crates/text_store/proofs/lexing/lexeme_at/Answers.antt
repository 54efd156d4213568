-- Nothing is accepted, or the longest front is white space, a comment, or a token.
use Rattle.std.proofs.lemmas.List.{take_rest}
use Rattle.text_store.proofs.LexingLemmas.{stray_lexeme, white_lexeme, comment_lexeme, token_lexeme}
use Rattle.text_store.proofs.lexing.lexeme_at.Goals as goal

pub returns-in_default-clause-is : goal.returns-in_default-clause-is
returns-in_default-clause-is c lexicon is utf8 =
    rw c.stray_at.ensures (stray_lexeme lexicon c.args.automaton.now is c.args.text.now c.args.start
    c.requires.start utf8 (rw take_rest at c.in_default.ensures))

pub returns-in-White-clause-is : goal.returns-in-White-clause-is
returns-in-White-clause-is c lexicon is utf8 =
    white_lexeme lexicon c.args.automaton.now is c.args.text.now c.args.start c.requires.start utf8
    c.in-Some.front (rw take_rest at c.in-Some.ensures) c.in-White.is

pub returns-in-Comment-clause-is : goal.returns-in-Comment-clause-is
returns-in-Comment-clause-is c lexicon is utf8 =
    comment_lexeme lexicon c.args.automaton.now is c.args.text.now c.args.start c.requires.start utf8
    c.in-Some.front (rw take_rest at c.in-Some.ensures) c.in-Comment.is

pub returns-in-Symbol-clause-is : goal.returns-in-Symbol-clause-is
returns-in-Symbol-clause-is c lexicon is utf8 =
    rw c.token_of.ensures (token_lexeme lexicon c.args.automaton.now is c.args.text.now c.args.start
    c.requires.start utf8 c.in-Some.front (rw take_rest at c.in-Some.ensures) c.in-Symbol.kind c.in-Symbol.is)
