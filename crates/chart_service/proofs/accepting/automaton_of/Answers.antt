-- The automaton of the grammar's comments and kinds is that of its lexicon, which is sound.
use Rattle.chart_service.proofs.LanguageLemmas.{lexer_made}
use Rattle.chart_service.proofs.accepting.automaton_of.Goals as goal

pub returns : goal.returns
returns c =
    lexer_made (c.args.grammar.now).lexicon _ _ _ c.line_comments-lines.ensures c.block_comments-blocks.ensures
    c.kinds-kinds.ensures.items c.know_names.ensures c.know_pairs.ensures c.know_words.ensures c.requires
    c.automaton.result c.automaton.ensures.automaton c.automaton.ensures.few c.automaton.ensures.full
