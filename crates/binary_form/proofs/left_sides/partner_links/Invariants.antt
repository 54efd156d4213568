use Rattle.std.proofs.Common.{◌+◌, length}
use Rattle.binary_form.specs.RowLinks.{IsRowPartner, AreLinksOfRows}
use Rattle.binary_form.proofs.left_sides.partner_links.Given as goal

-- the links are those that the rows so far give
abbrev pub invariant-loop-number : goal.invariant-loop-number
invariant-loop-number l =
    AreLinksOfRows IsRowPartner l.rows l.first l.number (l.first + length l.rows) l.links
