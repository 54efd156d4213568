-- What a pattern stands for: an expression over bytes.
use Rattle.std.specs.Prelude.{ℕ, List, map}
use Rattle.spec_automata.specs.Positions.{position_count}
use Rattle.spec_automata.specs.ByteExpressions.{ByteExpression, empty, byte_in, star, plus}
use Rattle.spec_automata.specs.ByteExpressions.{until}
use Rattle.spec_automata.specs.Encoding.{literal, one_of_these, these_in_turn}
use Rattle.lbnf_regex.specs.declared.pattern.Pattern.{Pattern}
use Rattle.lbnf_regex.specs.declared.pattern.Pattern.TheOpen.{Pattern-F}
use Rattle.lbnf_regex.specs.declared.pattern.Pattern.TheFolds.{fold-Pattern}

-- one form, with the expression of each part in its place
abbrev pub pattern_form : Pattern-F ByteExpression → ByteExpression
pattern_form Pattern-F.Empty = empty
pattern_form (Pattern-F.Bytes set) = byte_in set
pattern_form (Pattern-F.Literal bytes) = literal bytes
pattern_form (Pattern-F.Seq parts) = these_in_turn parts
pattern_form (Pattern-F.Alt parts) = one_of_these parts
pattern_form (Pattern-F.Star part) = star part
pattern_form (Pattern-F.Plus part) = plus part
pattern_form (Pattern-F.Until closing) = until closing

-- the expression over bytes that the pattern is
abbrev pub bytes_of_pattern : Pattern → ByteExpression
bytes_of_pattern = fold-Pattern ByteExpression pattern_form

-- how many positions each of the patterns has
abbrev pub sizes_of : List Pattern → List ℕ
sizes_of patterns = map (λ pattern. position_count (bytes_of_pattern pattern)) patterns
