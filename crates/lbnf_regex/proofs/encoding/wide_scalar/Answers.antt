-- So many bytes behind the first.
use Rattle.std.proofs.Common.{◌≡◌, ◌∷◌, ℕ, replicate, ap, sym, arith, ◌∙◌}
use Rattle.spec_automata.specs.Encoding.{byte_between, next_byte, these_in_turn, without}
use Rattle.lbnf_regex.specs.ByteSets.{flag_at}
use Rattle.lbnf_regex.proofs.PatternLemmas.{pattern-Seq}
use Rattle.lbnf_regex.proofs.EncodingStepLemmas.{without_wide}
use Rattle.lbnf_regex.proofs.encoding.wide_scalar.Goals as goal

pub returns : goal.returns
returns c =
    let t = flag_at c.args.removed.now in
    let first = byte_between c.args.least c.args.greatest in
    let all : c.loop-i.i ≡ c.args.behind = omega (arith, c.loop-i-test.false, c.loop-i.auto.i-end) in
    pattern-Seq c.loop-i.parts ∙ ap these_in_turn c.loop-i.invariant
    ∙ ap (λ (n : ℕ). these_in_turn (without t first ∷ replicate n (without t next_byte))) all
    ∙ sym (without_wide t first next_byte c.args.behind)
