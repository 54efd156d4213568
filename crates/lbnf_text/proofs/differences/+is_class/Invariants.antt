use Rattle.std.proofs.Common.{◌↔◌, drop, map}
use Rattle.spec_lexing.specs.Classes.{IsClass}
use Rattle.spec_lexing.specs.Expressions.{expression_of, one_of}
use Rattle.lbnf_text.proofs.differences.+is_class.Given as goal

-- the parts that are left decide
abbrev pub invariant-loop-part : goal.invariant-loop-part
invariant-loop-part l =
    IsClass (one_of (map expression_of (drop l.part-index l.part-items))) ↔ IsClass (expression_of l.expr)
