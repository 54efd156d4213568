use Rattle.std.proofs.Common.{◌≡◌, map, take}
use Rattle.spec_lexing.specs.Expressions.{expression_of}
use Rattle.spec_automata.specs.Encoding.{bytes_of, without}
use Rattle.lbnf_regex.specs.ByteSets.{flag_at}
use Rattle.lbnf_regex.specs.Patterns.{bytes_of_pattern}
use Rattle.lbnf_regex.proofs.encoding.+pattern_without.Given as goal

-- the patterns of the expressions so far
abbrev pub invariant-patterns_without-loop-expr : goal.invariant-patterns_without-loop-expr
invariant-patterns_without-loop-expr l =
    map bytes_of_pattern l.patterns
    ≡ map (λ e. without (flag_at l.removed) (bytes_of (expression_of e))) (take l.expr-index l.exprs)
