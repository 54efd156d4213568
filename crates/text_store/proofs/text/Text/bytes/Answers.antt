-- A text keeps bytes that are UTF-8, and tokens that lie in them.
use Rattle.text_store.proofs.TextLemmas.{tokens_lie_in}
use Rattle.text_store.proofs.text.Text.bytes.Goals as goal

pub returns-clause-utf8 : goal.returns-clause-utf8
returns-clause-utf8 c = rw (← c.self.view_is) (c.self.invariant.3)

pub returns-clause-tokens : goal.returns-clause-tokens
returns-clause-tokens c =
    rw (← c.self.view_is) (tokens_lie_in c.self.inside.bytes.items c.self.inside.tokens.items c.self.invariant)
