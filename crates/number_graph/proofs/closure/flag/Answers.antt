use Rattle.std.proofs.Common.{false, sym, ◌∙◌}
use Rattle.std.proofs.lemmas.List.{get_or_read}
use Rattle.number_graph.proofs.FlagLemmas.{flagged}
use Rattle.number_graph.proofs.closure.flag.Goals as goal

pub returns-clause-sets : goal.returns-clause-sets
returns-clause-sets c =
    let flags = c.args.flags.now.items in
    let read = get_or_read flags c.args.target c.index.result.now c.requires c.index.ensures false in
    rw c.in_ok-push.ensures.items
    (flagged c.args.target flags c.args.waiting.now.items c.requires (sym read ∙ c.if-index.false))
