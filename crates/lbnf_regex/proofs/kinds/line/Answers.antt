-- The opening word, and any bytes on the line.
use Rattle.std.proofs.Common.{◌≡◌, ◌∷◌, [], List, not, nat_eq, map, ap, ◌∙◌}
use Rattle.spec_automata.specs.ByteExpressions.{ByteExpression, byte_in, empty, in_turn, star}
use Rattle.spec_automata.specs.Encoding.{bytes_that, literal, these_in_turn}
use Rattle.lbnf_regex.specs.declared.pattern.Pattern.{Pattern}
use Rattle.lbnf_regex.specs.declared.pattern.Pattern.TheVariants.{Star}
use Rattle.lbnf_regex.specs.Patterns.{bytes_of_pattern}
use Rattle.lbnf_regex.proofs.PatternLemmas.{pattern-Bytes, pattern-Seq, pattern-Star}
use Rattle.lbnf_regex.proofs.EncodingStepLemmas.{kept_all}
use Rattle.lbnf_regex.proofs.kinds.line.Goals as goal

pub returns : goal.returns
returns c =
    let word = c.in_ok-word.field-0 in
    let rest = c.in_ok-new.field-0 in
    let one : c.push.new.self ≡ word ∷ [] = rw c.new-parts.ensures at c.in_ok-push.ensures.ok in
    let two : c.push-2.new.self ≡ word ∷ Star rest ∷ [] = rw one at c.in_ok-push-2.ensures.ok in
    let word_is : bytes_of_pattern word ≡ literal c.args.opening.now =
    rw c.as_slice.ensures.bytes at c.in_ok-word.ensures in
    let rest_is : bytes_of_pattern (Star rest) ≡ star (byte_in (bytes_that (λ b. not (nat_eq b 10)))) =
    pattern-Star rest
    ∙ ap star
    (ap bytes_of_pattern c.in_ok-new.ensures ∙ pattern-Bytes c.in_ok-set.set
    ∙ ap byte_in (c.in_ok-set.ensures ∙ kept_all (bytes_that (λ b. not (nat_eq b 10))))) in
    pattern-Seq c.push-2.new.self ∙ ap (λ (z : List Pattern). these_in_turn (map bytes_of_pattern z)) two
    ∙ ap (λ (z : ByteExpression). in_turn z (in_turn (bytes_of_pattern (Star rest)) empty)) word_is
    ∙ ap (λ (z : ByteExpression). in_turn (literal c.args.opening.now) (in_turn z empty)) rest_is
