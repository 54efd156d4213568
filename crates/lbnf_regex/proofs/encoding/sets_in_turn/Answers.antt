-- The sets of all bytes in turn.
use Rattle.std.proofs.Common.{◌∷◌, [], ℕ, List, map, ap, sym, ◌∙◌}
use Rattle.std.proofs.lemmas.List.{take_all}
use Rattle.spec_automata.specs.ByteExpressions.{byte_in}
use Rattle.spec_automata.specs.Encoding.{these_in_turn}
use Rattle.lbnf_regex.specs.ByteSets.{flag_at, kept_of}
use Rattle.lbnf_regex.proofs.PatternLemmas.{pattern-Seq}
use Rattle.lbnf_regex.proofs.EncodingStepLemmas.{without_literal}
use Rattle.lbnf_regex.proofs.encoding.sets_in_turn.Goals as goal

pub returns : goal.returns
returns c =
    let bytes : List ℕ = c.args.bytes.now in
    pattern-Seq c.loop-byte.parts ∙ ap these_in_turn c.loop-byte.invariant
    ∙ ap (λ (z : List ℕ). these_in_turn (map (λ b. byte_in (kept_of c.args.removed.now (b ∷ []))) z))
    (take_all c.loop-byte.byte-index bytes c.loop-byte-test.false)
    ∙ sym (without_literal (flag_at c.args.removed.now) bytes)
