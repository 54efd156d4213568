-- The copied bytes are those that were given.
use Rattle.std.proofs.Common.{List, ℕ, subst}
use Rattle.text_store.specs.TextStore.{OpensTokens}
use Rattle.text_store.proofs.text.Text.open.Goals as goal

pub returns-clause-tokens : goal.returns-clause-tokens
returns-clause-tokens c lexicon lexed =
    subst (λ (b : List ℕ). OpensTokens lexicon b c.lexed.result) c.in_ok-bytes.ensures.items
    (c.lexed.ensures.tokens lexicon lexed)
