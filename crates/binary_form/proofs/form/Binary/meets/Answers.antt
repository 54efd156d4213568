use Rattle.binary_form.proofs.LongerSuffixesLemmas.{links_go_on, met_is}
use Rattle.binary_form.proofs.form.Binary.meets.Goals as goal

pub is_met-requires-clause-below : goal.is_met-requires-clause-below
is_met-requires-clause-below g c κs within =
    let parts = rw c.self.view_is at c.self.invariant.0 in
    rw (parts.longer_suffixes.count) (links_go_on c.args.self.now c.self.inside.longer_suffixes parts.longer_suffixes)

pub returns : goal.returns
returns g c =
    let parts = rw c.self.view_is at c.self.invariant.0 in
    let symbols = g.C.Cell.symbols in
    let met = met_is symbols c.args.self.now c.self.inside.closures.items c.self.inside.longer_suffixes parts.closures parts.longer_suffixes
    (symbols c.args.left.now) (symbols c.args.right.now) in
    ((λ is. met.0 (c.is_met.ensures.0 is)), (λ has. c.is_met.ensures.1 (met.1 has)))
