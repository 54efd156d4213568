-- The copies are equal to what is kept.
use Rattle.std.proofs.Common.{◌∙◌}
use Rattle.text_store.proofs.TextLemmas.{copies_kept}
use Rattle.text_store.proofs.text.Text.share.Goals as goal

pub invariant_of-result : goal.invariant_of-result
invariant_of-result c =
    copies_kept c.self.inside.bytes.items c.in_ok-bytes.bytes.items c.self.inside.tokens.items
    c.in_ok-tokens.tokens.items (c.in_ok-bytes.ensures.items ∙ c.as_slice.ensures.value)
    (c.in_ok-tokens.ensures.items ∙ c.as_slice-2.ensures.value) c.self.invariant
