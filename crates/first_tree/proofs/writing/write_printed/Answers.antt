-- A colon is written, and then the bytes as they are, or as they were printed.
use Rattle.std.proofs.Common.{◌∷◌, ◌++◌, ℕ, List, OnOk, sym, ◌∙◌, subst}
use Rattle.cyk_io.specs.Gathering.{Passes}
use Rattle.first_tree.proofs.writing.write_printed.Goals as goal

pub returns-then-is_plain-clause-ok : goal.returns-then-is_plain-clause-ok
returns-then-is_plain-clause-ok g c =
    let old = g.K.Sink.written c.args.sink.now in
    let new = g.K.Sink.written c.write_both.new.sink in
    let before : List ℕ = c.args.gathered.now in
    let after : List ℕ = c.write_both.new.gathered in
    let P : List ℕ → Type 0 = λ text. OnOk c.write_both.result (Passes old new before (58 ∷ text) after) in
    let Q : List ℕ → Type 0 = λ lead. OnOk c.write_both.result (Passes old new before (lead ++ c.args.bytes.now) after) in
    subst P (sym (c.is_plain.ensures c.if-is_plain.true)) (subst Q c.as_bytes.ensures.value c.write_both.ensures.ok)

pub returns-in-Ok-clause-ok : goal.returns-in-Ok-clause-ok
returns-in-Ok-clause-ok g c =
    let old = g.K.Sink.written c.args.sink.now in
    let new = g.K.Sink.written c.write_both-in-Ok.new.sink in
    let before : List ℕ = c.args.gathered.now in
    let after : List ℕ = c.write_both-in-Ok.new.gathered in
    let P : List ℕ → Type 0 = λ text. OnOk c.write_both-in-Ok.result (Passes old new before (58 ∷ text) after) in
    let Q : List ℕ → Type 0 = λ lead.
    OnOk c.write_both-in-Ok.result (Passes old new before (lead ++ c.as_slice.result.now) after) in
    subst P (c.as_slice.ensures.value ∙ c.in-Ok.ensures) (subst Q c.as_bytes-in-Ok.ensures.value c.write_both-in-Ok.ensures.ok)
