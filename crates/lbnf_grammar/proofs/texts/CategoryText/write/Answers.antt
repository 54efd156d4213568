use Rattle.std.proofs.Common.{◌≡◌, ◌++◌, replicate, subst, sym, arith}
use Rattle.std.specs.Str.{IsUtf8}
use Rattle.std.proofs.lemmas.Grind.{common_steps}
use Rattle.lbnf_grammar.proofs.TextLemmas.{bracketed_utf8}
use Rattle.lbnf_grammar.proofs.texts.CategoryText.write.Goals as goal

pub returns-clause-utf8 : goal.returns-clause-utf8
returns-clause-utf8 c =
    let depth = c.self.inside.depth in
    let name = c.self.inside.name.now in
    let text : c.resize-2.new.self.items ≡ replicate depth 91 ++ (name ++ replicate depth 93) = grind (arith, common_steps) in
    subst IsUtf8 (sym text) (bracketed_utf8 depth name (rw c.as_bytes.ensures.value at c.as_bytes.ensures.utf8))
