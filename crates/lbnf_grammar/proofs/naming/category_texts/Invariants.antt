use Rattle.std.proofs.Common.{◌≡◌, map, take}
use Rattle.spec_lbnf.specs.Expansion.{category_text}
use Rattle.lbnf_grammar.proofs.naming.category_texts.Given as goal

-- the names are the texts of the categories so far
abbrev pub invariant-loop-cat : goal.invariant-loop-cat
invariant-loop-cat l = l.names.items ≡ map category_text (take l.cat-index l.cats)
