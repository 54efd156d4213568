-- By the clause of the binary search.
use Rattle.std.proofs.Common.{rules}
use Rattle.std.proofs.lemmas.List.Sorted.{answers_always}
use Rattle.valiant.proofs.RowLemmas.{searched}
use Rattle.valiant.proofs.rows.place_of.Goals as goal

pub returns : goal.returns
returns g c =
    let facts = c.binary_search_by_key.ensures in
    let by_end = facts.position (λ e. e.end) (answers_always _ _ _ (λ f a r h called. search rules)) in
    searched c.args.row.now c.requires c.args.end c.binary_search_by_key.result facts.bound by_end
