use Rattle.std.proofs.Common.{◌≡◌, take}
use Rattle.std.specs.List.{flat_map}
use Rattle.spec_lbnf.specs.Expansion.{line_comment_in}
use Rattle.lbnf_grammar.proofs.lexicon.line_comments.Given as goal

-- the comments are those of the definitions so far
abbrev pub invariant-loop-def : goal.invariant-loop-def
invariant-loop-def l = l.comments.items ≡ flat_map line_comment_in (take l.def-index l.defs)
