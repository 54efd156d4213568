-- The edited bytes are few enough and UTF-8.
use Rattle.text_store.proofs.EditLemmas.{edited_fit}
use Rattle.text_store.proofs.text.Text.edit.Goals as goal

pub lexed-requires-clause-fit : goal.lexed-requires-clause-fit
lexed-requires-clause-fit c =
    edited_fit c.args.self.now.bytes c.bytes.result.now c.bytes-2.result.now c.args.at c.args.del c.args.ins.now
    c.in_ok-bytes.bytes.items c.bytes.ensures.bytes c.bytes-2.ensures.bytes c.bytes.ensures.utf8
    c.in_default.ensures c.in_ok-check_cuts.ensures c.in_ok-bytes.ensures
