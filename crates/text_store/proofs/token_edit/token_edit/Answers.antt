-- What is left of both sides behind the common prefix, and before the common suffix of that.
use Rattle.std.proofs.Common.{◌-◌, ◌∙◌, length, take, drop}
use Rattle.std.proofs.lemmas.List.{take_rest}
use Rattle.text_store.proofs.TrimmingLemmas.{trimmed_kinds}
use Rattle.text_store.proofs.token_edit.token_edit.Goals as goal

pub returns : goal.returns
returns c =
    let old = c.args.old.now in
    let new = c.args.new.now in
    let first = c.common_prefix-first.result in
    trimmed_kinds old new (take (length old - first) (drop first old)) (take (length new - first) (drop first new))
    first c.common_suffix-kept.result c.from_vec.result (take_rest old first) (take_rest new first)
    c.common_prefix-first.ensures c.common_suffix-kept.ensures (c.from_vec.ensures ∙ c.in_ok-kinds_of.ensures)
