-- By the clause of the binary search.
use Rattle.std.proofs.Common.{rules}
use Rattle.std.proofs.lemmas.List.Sorted.{answers_always}
use Rattle.quad_mat.proofs.EntryLemmas.{searched}
use Rattle.quad_mat.proofs.entries.place_of.Goals as goal

pub returns : goal.returns
returns c =
    let facts = c.binary_search_by_key.ensures in
    let by_column = facts.position (λ e. e.column) (answers_always _ _ _ (λ f a r h called. search rules)) in
    searched c.args.row.now c.requires c.args.column c.binary_search_by_key.result facts.bound by_column
