use Rattle.binary_form.proofs.LeftSideLemmas.{partners_within}
use Rattle.binary_form.proofs.form.Binary.left_partners.Goals as goal

pub linked_from-requires-clause-within : goal.linked_from-requires-clause-within
linked_from-requires-clause-within g c κs within =
    let sides = rw c.self.view_is at c.self.invariant.3 in
    partners_within c.args.self.now c.self.inside.partner_links sides.partners

pub linked_from-requires-clause-few : goal.linked_from-requires-clause-few
linked_from-requires-clause-few g c κs within =
    let parts = rw c.self.view_is at c.self.invariant.0 in
    let sides = rw c.self.view_is at c.self.invariant.3 in
    rw sides.partners.count parts.few

pub linked_from-requires-clause-room : goal.linked_from-requires-clause-room
linked_from-requires-clause-room g c κs within =
    let parts = rw c.self.view_is at c.self.invariant.0 in
    let sides = rw c.self.view_is at c.self.invariant.3 in
    rw sides.partners.count parts.room

pub returns : goal.returns
returns g c n =
    let sides = rw c.self.view_is at c.self.invariant.3 in
    let given = c.in_ok-partners.ensures n in (
      (λ has. let x = given.0 has in (x.0, x.1, (sides.partners.links x.0 n).0 x.2)),
      (λ y. given.1 (y.0, y.1, (sides.partners.links y.0 n).1 y.2)),
    )
