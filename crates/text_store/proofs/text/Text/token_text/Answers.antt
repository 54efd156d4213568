-- The bytes of a token that is kept are UTF-8.
use Rattle.std.proofs.Common.{◌∙◌, sym, subst, ap}
use Rattle.std.specs.Str.{IsUtf8}
use Rattle.text_store.specs.TextStore.{token_bytes}
use Rattle.text_store.proofs.TextLemmas.{token_utf8, token_told}
use Rattle.text_store.proofs.text.Text.token_text.Goals as goal

pub of-requires : goal.of-requires
of-requires c =
    subst IsUtf8
    (sym (c.in_ok-from_slice.ensures.items ∙ ap (λ bytes. token_bytes bytes c.index-token.result.now) c.as_slice.ensures.value))
    (token_utf8 c.self.inside.bytes.items c.self.inside.tokens.items c.args.i c.index-token.result.now
    c.self.invariant (rw (← c.self.view_is) at c.requires) c.index-token.ensures)

pub returns : goal.returns
returns c =
    rw (← c.self.view_is) (token_told c.self.inside.bytes.items c.self.inside.tokens.items c.args.i
    c.index-token.result.now c.of.result (rw (← c.self.view_is) at c.requires) c.index-token.ensures
    (c.of.ensures ∙ c.in_ok-from_slice.ensures.items
    ∙ ap (λ bytes. token_bytes bytes c.index-token.result.now) c.as_slice.ensures.value))
