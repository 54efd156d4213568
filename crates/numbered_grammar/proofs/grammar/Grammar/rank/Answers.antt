use Rattle.numbered_grammar.proofs.RankLemmas.{rank_at}
use Rattle.numbered_grammar.proofs.grammar.Grammar.rank.Goals as goal

pub returns : goal.returns
returns c =
    let are = rw c.self.view_is at c.self.invariant.1 in
    rank_at c.args.self.now c.self.inside.ranks.items c.args.c c.index.result.now are c.requires c.index.ensures
