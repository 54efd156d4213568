use Rattle.std.proofs.Common.{◌≡◌, ◌≤◌, ◌*◌, length, take}
use Rattle.spec_lbnf.specs.Expansion.{rules_of}
use Rattle.lbnf_grammar.proofs.counting.rule_count.Given as goal

-- the rules of the definitions so far are counted
abbrev pub invariant-loop-def : goal.invariant-loop-def
invariant-loop-def l = record {
  counted : l.count ≡ length (rules_of (take l.def-index l.defs));
  few : l.count ≤ 65536 * l.def-index;
}
