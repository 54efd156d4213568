-- A space is written, and then the name of the kind, a colon and the bytes.
use Rattle.std.proofs.Common.{◌∷◌, ◌++◌, ℕ, List, OnOk, sym, subst}
use Rattle.spec_text.specs.Escapes.{printed}
use Rattle.spec_lexing.specs.declared.kind_def.KindDef.{KindDef}
use Rattle.spec_trees.specs.TreeText.{token_print}
use Rattle.cyk_io.specs.Gathering.{Passes}
use Rattle.first_tree.specs.declared.wanted.Wanted.{Wanted}
use Rattle.first_tree.specs.declared.wanted.Wanted.TheVariants.{SpacedText}
use Rattle.first_tree.specs.Wanted.{wanted_text}
use Rattle.first_tree.proofs.writing.write_leaf.Goals as goal

pub returns-in-SpacedText-clause-ok : goal.returns-in-SpacedText-clause-ok
returns-in-SpacedText-clause-ok g c =
    let IsOk : List ℕ → Type 0 = λ text. OnOk c.write_token-in-SpacedText.result
    (Passes (g.K.Sink.written c.args.sink.now) (g.K.Sink.written c.write_token-in-SpacedText.new.sink)
    c.args.gathered.now text c.write_token-in-SpacedText.new.gathered) in
    let behind : List ℕ = 58 ∷ printed c.args.bytes.now in
    let name : List ℕ = c.as_slice-in-SpacedText.result.now in
    let P : Wanted → Type 0 = λ w. IsOk (wanted_text w (token_print c.args.kind.now c.args.bytes.now)) in
    let Q : KindDef → Type 0 = λ k. IsOk (wanted_text SpacedText (token_print k c.args.bytes.now)) in
    let R : List ℕ → Type 0 = λ own. IsOk ((32 ∷ own) ++ behind) in
    let S : List ℕ → Type 0 = λ lead. IsOk ((lead ++ name) ++ behind) in
    subst P (sym c.in-SpacedText.is)
    (subst Q (sym c.in-Token.is)
    (subst R c.as_slice-in-SpacedText.ensures.bytes
    (subst S c.as_bytes.ensures.value c.write_token-in-SpacedText.ensures.ok)))
