use Rattle.std.proofs.Common.{◌≡◌, ◌+◌, ◌≤◌, length}
use Rattle.cyk_io.specs.Lines.{HasNoLf}
use Rattle.cyk_io.specs.Streams.{Takes, coming}
use Rattle.cyk_io.proofs.line.read_line.Given as goal

-- the line is what was taken so far, with no LF
abbrev pub invariant-loop-count : goal.invariant-loop-count
invariant-loop-count g l = record {
  taken : Takes (coming l.fn.ahead (g.S.Source.left l.fn.source)) (coming l.ahead (g.S.Source.left l.source)) l.line;
  no_lf : HasNoLf l.line;
  len : length l.line ≡ l._count;
  offset : (l.ahead).offset ≡ (l.fn.ahead).offset + l._count;
  later : g.S.Source.faults l.fn.source ≤ g.S.Source.faults l.source;
}
