use Rattle.std.proofs.Common.{◌≡◌, length}
use Rattle.lbnf_readers.specs.FileReading.{expression_at, expression_from}
use Rattle.lbnf_text.proofs.parser.Parser.expression.Given as goal

-- the expression is what the tokens that are left give behind what is read
abbrev pub invariant-tokens : goal.invariant-tokens
invariant-tokens l = expression_at l.fn.self ≡ expression_from l.self l.state

abbrev pub decreases-tokens : goal.decreases-tokens
decreases-tokens l = length l.self
