use Rattle.std.proofs.Common.{◌≡◌, length}
use Rattle.number_graph.specs.Graphs.{AreLinksWithin}
use Rattle.number_graph.proofs.tests.links_of.Given as goal

-- all links so far are within the count
abbrev pub invariant-loop-pair : goal.invariant-loop-pair
invariant-loop-pair l = (length l.links ≡ l.count) × AreLinksWithin l.links
