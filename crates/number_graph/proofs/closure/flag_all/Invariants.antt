use Rattle.std.proofs.Common.{take}
use Rattle.number_graph.specs.Flags.{SetsFlags}
use Rattle.number_graph.proofs.closure.flag_all.Given as goal

-- the targets so far have their flags
abbrev pub invariant-loop-target : goal.invariant-loop-target
invariant-loop-target l =
    SetsFlags (take l.target-index l.targets) (l.fn.flags).items (l.flags).items (l.fn.waiting).items (l.waiting).items
