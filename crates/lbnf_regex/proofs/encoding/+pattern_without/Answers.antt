-- Part by part, and what two differences take away at once.
use Rattle.std.proofs.Common.{◌≡◌, ℕ, List, Bool, ap, sym, ◌∙◌}
use Rattle.std.proofs.lemmas.Result.{IfOk-weaker}
use Rattle.spec_lexing.specs.Expressions.{Expression, expression_of}
use Rattle.spec_automata.specs.Encoding.{bytes_of, has_character, one_of_these, these_in_turn, without}
use Rattle.lbnf_regex.specs.declared.pattern.Pattern.{Pattern}
use Rattle.lbnf_regex.specs.ByteSets.{flag_at}
use Rattle.lbnf_regex.specs.Patterns.{bytes_of_pattern}
use Rattle.lbnf_regex.proofs.PatternLemmas.{pattern-Alt, pattern-Seq}
use Rattle.lbnf_regex.proofs.EncodingStepLemmas.{expression-Seq, expression-Alt, expression-Minus, without_seq, without_alt, without_twice, flags_of_both}
use Rattle.lbnf_regex.proofs.encoding.+pattern_without.Goals as goal

pub pattern_without-returns-in_ok-patterns_without-in-Seq : goal.pattern_without-returns-in_ok-patterns_without-in-Seq
pattern_without-returns-in_ok-patterns_without-in-Seq t c =
    let gone : ℕ → Bool = flag_at c.args.removed.now in
    let made = rw c.as_slice-in-Seq.ensures at c.in_ok-patterns_without-in-Seq.ensures in
    pattern-Seq c.in_ok-patterns_without-in-Seq.field-0 ∙ ap these_in_turn made
    ∙ without_seq gone c.in-Seq.parts
    ∙ ap (λ (z : Expression). without gone (bytes_of z))
    (sym (ap expression_of c.in-Seq.is ∙ expression-Seq c.in-Seq.parts))

pub pattern_without-returns-in_ok-patterns_without-in-Alt : goal.pattern_without-returns-in_ok-patterns_without-in-Alt
pattern_without-returns-in_ok-patterns_without-in-Alt t c =
    let gone : ℕ → Bool = flag_at c.args.removed.now in
    let made = rw c.as_slice-in-Alt.ensures at c.in_ok-patterns_without-in-Alt.ensures in
    pattern-Alt c.in_ok-patterns_without-in-Alt.field-0 ∙ ap one_of_these made
    ∙ without_alt gone c.in-Alt.parts
    ∙ ap (λ (z : Expression). without gone (bytes_of z))
    (sym (ap expression_of c.in-Alt.is ∙ expression-Alt c.in-Alt.parts))

pub pattern_without-returns-in_ok-flags-in-Minus : goal.pattern_without-returns-in_ok-flags-in-Minus
pattern_without-returns-in_ok-flags-in-Minus t c =
    let gone : ℕ → Bool = flag_at c.args.removed.now in
    let x = bytes_of (expression_of c.in-Minus.left) in
    let has : ℕ → Bool = has_character (expression_of c.in-Minus.right) in
    let flags : List Bool = c.in_ok-flags-in-Minus.flags in
    let flagged = rw c.get.ensures at c.in_ok-flags-in-Minus.ensures in
    let made = rw (c.as_slice-in-Minus.ensures, c.get-in-Minus.ensures) at c.pattern_without.ensures in
    let both = without_twice gone has (flag_at flags) (flags_of_both c.args.removed.now flags has flagged) x in
    let whole = ap expression_of c.in-Minus.is ∙ expression-Minus c.in-Minus.left c.in-Minus.right in
    IfOk-weaker c.pattern_without.result (λ (p : Pattern). bytes_of_pattern p ≡ without (flag_at flags) x)
    (λ (p : Pattern). bytes_of_pattern p ≡ without gone (bytes_of (expression_of c.args.expr.now)))
    (λ p is. is ∙ sym both ∙ ap (λ (z : Expression). without gone (bytes_of z)) (sym whole)) made
