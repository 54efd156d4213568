use Rattle.std.proofs.Common.{◌≡◌, ◌++◌, map}
use Rattle.spec_lbnf.specs.declared.definition.RawItem.TheVariants.{Word}
use Rattle.lbnf_text.proofs.texts.add_words.Given as goal

-- the parts so far are added
abbrev pub invariant-loop-part : goal.invariant-loop-part
invariant-loop-part l =
    (goal.iterator-loop-part).can_next l.part-iterator × (goal.iterator-loop-part).is_finite l.part-iterator
    × (l.items ≡ l.fn.items ++ map (λ p. Word p.now) l.yielded)
