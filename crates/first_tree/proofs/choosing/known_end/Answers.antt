-- A kind ends behind its token, and what stands before kinds as many tokens before the end.
use Rattle.std.proofs.Common.{◌∷◌, refl, ap, arith}
use Rattle.first_tree.proofs.ChoosingLemmas.{begins_with_kind, kind_ends, ends_before_kinds, behind_fits}
use Rattle.first_tree.proofs.choosing.known_end.Goals as goal

pub overflow_add-result : goal.overflow_add-result
overflow_add-result c =
    let behind = c.args.behind.now in
    let d = c.requires in
    let x = begins_with_kind d.0 d.1 (c.args.item ∷ behind) c.in-Kind.field-0 c.args.first c.args.end behind (ap (λ s. s ∷ behind) c.in-Kind.is) d.2 in
    record { fits = omega (arith, x.1, c.ranges.end.fits) }

pub returns-in-Kind : goal.returns-in-Kind
returns-in-Kind c = λ rules kinds k cut.
    kind_ends rules kinds (c.args.item ∷ c.args.behind.now) c.args.item c.args.behind.now c.args.first k c.args.end refl cut
    (c.in-Kind.field-0, c.in-Kind.is)

pub overflow_cast-result : goal.overflow_cast-result
overflow_cast-result c =
    let d = c.requires in
    let are = c.are_kinds.ensures c.if-not-are_kinds.false in
    omega (arith, behind_fits d.0 d.1 c.args.item c.args.behind.now c.args.first c.args.end are d.2, c.ranges.end.fits)

pub overflow_sub-result : goal.overflow_sub-result
overflow_sub-result c =
    let d = c.requires in
    let are = c.are_kinds.ensures c.if-not-are_kinds.false in
    omega (arith, behind_fits d.0 d.1 c.args.item c.args.behind.now c.args.first c.args.end are d.2)

pub returns : goal.returns
returns c = λ rules kinds k cut.
    let are = c.are_kinds.ensures c.if-not-are_kinds.false in
    let ends = ends_before_kinds rules kinds (c.args.item ∷ c.args.behind.now) c.args.item c.args.behind.now c.args.first k c.args.end refl cut are in
    omega (arith, ends)
