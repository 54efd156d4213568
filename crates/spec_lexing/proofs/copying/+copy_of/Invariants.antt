use Rattle.std.proofs.Common.{◌≡◌, take}
use Rattle.spec_lexing.proofs.copying.+copy_of.Given as goal

-- the copies are those of the expressions so far
abbrev pub invariant-copies_of-loop-expr : goal.invariant-copies_of-loop-expr
invariant-copies_of-loop-expr l = l.copies ≡ take l.expr-index l.exprs
