-- The bracket is written, and then the name.
use Rattle.std.proofs.Common.{◌++◌, List, ℕ, OnOk, sym, subst}
use Rattle.cyk_io.specs.Gathering.{Passes}
use Rattle.first_tree.specs.declared.wanted.Wanted.{Wanted}
use Rattle.first_tree.specs.Wanted.{named_opening}
use Rattle.first_tree.proofs.writing.write_name.Goals as goal

pub returns-in-Text-clause-ok : goal.returns-in-Text-clause-ok
returns-in-Text-clause-ok g c =
    let old = g.K.Sink.written c.args.sink.now in
    let new = g.K.Sink.written c.write_both.new.sink in
    let before : List ℕ = c.args.gathered.now in
    let after : List ℕ = c.write_both.new.gathered in
    let P : Wanted → Type 0 = λ w. OnOk c.write_both.result (Passes old new before (named_opening c.args.name.now w) after) in
    let Q : List ℕ → Type 0 = λ bracket. OnOk c.write_both.result (Passes old new before (bracket ++ c.args.name.now) after) in
    subst P (sym c.in-Text.is) (subst Q c.as_bytes.ensures.value c.write_both.ensures.ok)

pub returns-in-SpacedText-clause-ok : goal.returns-in-SpacedText-clause-ok
returns-in-SpacedText-clause-ok g c =
    let old = g.K.Sink.written c.args.sink.now in
    let new = g.K.Sink.written c.write_both-in-SpacedText.new.sink in
    let before : List ℕ = c.args.gathered.now in
    let after : List ℕ = c.write_both-in-SpacedText.new.gathered in
    let P : Wanted → Type 0 = λ w.
    OnOk c.write_both-in-SpacedText.result (Passes old new before (named_opening c.args.name.now w) after) in
    let Q : List ℕ → Type 0 = λ bracket.
    OnOk c.write_both-in-SpacedText.result (Passes old new before (bracket ++ c.args.name.now) after) in
    subst P (sym c.in-SpacedText.is) (subst Q c.as_bytes-in-SpacedText.ensures.value c.write_both-in-SpacedText.ensures.ok)
