-- A sequence is no class, and a name has an ASCII character where it has its byte.
use Rattle.std.proofs.Common.{ℕ, List, map, ap, sym, ◌∙◌}
use Rattle.std.proofs.lemmas.Str.{IsUtf8-had}
use Rattle.spec_lexing.specs.Expressions.{Expression, expression_of}
use Rattle.spec_automata.specs.Encoding.{has_character as has_ascii}
use Rattle.lbnf_regex.proofs.EncodingStepLemmas.{expression-Seq, expression-AnyOf, no_class, ascii_in_name}
use Rattle.lbnf_regex.proofs.encoding.+has_character.Goals as goal

pub returns-in-AnyOf : goal.returns-in-AnyOf
returns-in-AnyOf t c =
    let name : List ℕ = c.in-AnyOf.name in
    let found = rw c.as_slice.ensures.bytes at c.contains.ensures.value in
    found ∙ ascii_in_name name (IsUtf8-had name c.as_slice.ensures.utf8) c.args.byte c.requires
    ∙ sym (ap (λ (z : Expression). has_ascii z c.args.byte) (ap expression_of c.in-AnyOf.is ∙ expression-AnyOf name))

pub returns-in-Seq : goal.returns-in-Seq
returns-in-Seq t c =
    sym
    (ap (λ (z : Expression). has_ascii z c.args.byte) (ap expression_of c.in-Seq.is ∙ expression-Seq c.in-Seq.field-0)
    ∙ no_class (map expression_of c.in-Seq.field-0) c.args.byte)
