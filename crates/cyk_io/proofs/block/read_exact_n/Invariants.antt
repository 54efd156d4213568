use Rattle.std.proofs.Common.{◌≡◌, ℕ, ◌+◌, ◌≤◌, List, [], length, IsTrue, vec_len, vec_capacity}
use Rattle.cyk_io.specs.KeptBytes.{kept_more}
use Rattle.cyk_io.specs.Streams.{Takes, coming}
use Rattle.cyk_io.proofs.block.read_exact_n.Given as goal

-- what was taken so far and the rest make up the block
abbrev pub invariant-loop-rest : goal.invariant-loop-rest
invariant-loop-rest g l = record {
  taken : (bytes : List ℕ) × Takes (coming l.fn.ahead (g.S.Source.left l.fn.source)) (coming l.ahead (g.S.Source.left l.source)) bytes × (length bytes + l.rest ≡ l.count) × ((l.into).items ≡ kept_more l.kept [] bytes);
  offset : (l.ahead).offset + l.rest ≡ (l.fn.ahead).offset + l.count;
  room : IsTrue l.kept → vec_len l.into + l.rest ≤ vec_capacity l.into;
  later : g.S.Source.faults l.fn.source ≤ g.S.Source.faults l.source;
}

abbrev pub decreases-loop-rest : goal.decreases-loop-rest
decreases-loop-rest g l = l.rest
