-- Where no character is removed, the bytes stand for themselves.
use Rattle.std.proofs.Common.{◌≡◌, List, Bool, [], length, ap, sym, ◌∙◌}
use Rattle.std.proofs.lemmas.Bool.{eqb-true}
use Rattle.std.proofs.lemmas.List.{nil_from_length}
use Rattle.spec_automata.specs.Encoding.{literal, without}
use Rattle.lbnf_regex.specs.ByteSets.{flag_at}
use Rattle.lbnf_regex.proofs.PatternLemmas.{pattern-Literal}
use Rattle.lbnf_regex.proofs.EncodingStepLemmas.{without_flags}
use Rattle.lbnf_regex.proofs.encoding.literal.Goals as goal

pub returns : goal.returns
returns c =
    let bytes = c.args.bytes.now in
    let removed : List Bool = c.args.removed.now in
    let none : removed ≡ [] =
    nil_from_length removed (eqb-true (length removed) 0 (sym c.is_empty.ensures ∙ c.if-not-is_empty.false)) in
    pattern-Literal c.in_ok-bytes.bytes ∙ ap literal c.in_ok-bytes.ensures ∙ sym (without_flags (literal bytes))
    ∙ ap (λ (flags : List Bool). without (flag_at flags) (literal bytes)) (sym none)
