-- The equations of what a pattern stands for, one for each form.
use Rattle.std.proofs.Common.{◌≡◌, ℕ, List, map, sym, ap, ◌∙◌}
use Rattle.spec_automata.specs.ByteExpressions.{ByteExpression, byte_in, star, plus, until}
use Rattle.spec_automata.specs.Encoding.{literal, one_of_these, these_in_turn}
use Rattle.lbnf_regex.specs.Patterns.{pattern_form, bytes_of_pattern}
use Rattle.lbnf_regex.specs.declared.pattern.Pattern.{Pattern, Pattern-F, fold-roll-Pattern}
use Rattle.lbnf_regex.specs.declared.pattern.Pattern.TheVariants.{Bytes, Literal, Seq, Alt, Star, Plus, Until, rolls-Bytes, rolls-Literal, rolls-Seq, rolls-Alt, rolls-Star, rolls-Plus, rolls-Until}

pub pattern-Bytes : (set : List ℕ) → bytes_of_pattern (Bytes set) ≡ byte_in set
pattern-Bytes set =
    ap bytes_of_pattern (sym (rolls-Bytes set)) ∙ fold-roll-Pattern ByteExpression pattern_form (Pattern-F.Bytes set)

pub pattern-Literal : (bytes : List ℕ) → bytes_of_pattern (Literal bytes) ≡ literal bytes
pattern-Literal bytes =
    ap bytes_of_pattern (sym (rolls-Literal bytes)) ∙ fold-roll-Pattern ByteExpression pattern_form (Pattern-F.Literal bytes)

pub pattern-Seq : (parts : List Pattern) → bytes_of_pattern (Seq parts) ≡ these_in_turn (map bytes_of_pattern parts)
pattern-Seq parts =
    ap bytes_of_pattern (sym (rolls-Seq parts)) ∙ fold-roll-Pattern ByteExpression pattern_form (Pattern-F.Seq parts)

pub pattern-Alt : (parts : List Pattern) → bytes_of_pattern (Alt parts) ≡ one_of_these (map bytes_of_pattern parts)
pattern-Alt parts =
    ap bytes_of_pattern (sym (rolls-Alt parts)) ∙ fold-roll-Pattern ByteExpression pattern_form (Pattern-F.Alt parts)

pub pattern-Star : (part : Pattern) → bytes_of_pattern (Star part) ≡ star (bytes_of_pattern part)
pattern-Star part =
    ap bytes_of_pattern (sym (rolls-Star part)) ∙ fold-roll-Pattern ByteExpression pattern_form (Pattern-F.Star part)

pub pattern-Plus : (part : Pattern) → bytes_of_pattern (Plus part) ≡ plus (bytes_of_pattern part)
pattern-Plus part =
    ap bytes_of_pattern (sym (rolls-Plus part)) ∙ fold-roll-Pattern ByteExpression pattern_form (Pattern-F.Plus part)

pub pattern-Until : (closing : List ℕ) → bytes_of_pattern (Until closing) ≡ until closing
pattern-Until closing =
    ap bytes_of_pattern (sym (rolls-Until closing)) ∙ fold-roll-Pattern ByteExpression pattern_form (Pattern-F.Until closing)
