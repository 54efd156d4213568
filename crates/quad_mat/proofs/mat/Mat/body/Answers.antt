-- What is kept, or nothing.
use Rattle.quad_mat.proofs.MatLemmas.{none_entry}
use Rattle.quad_mat.proofs.ProductLemmas.{body_keeps}
use Rattle.quad_mat.proofs.mat.Mat.body.Goals as goal

pub returns-in-Some : goal.returns-in-Some
returns-in-Some g c =
    let s = c.self.inside in
    rw c.deref.ensures
    (body_keeps g.C.Cell.symbols s.rows s.columns c.in-Some.body c.args.self.now (rw c.in-Some.is at c.self.invariant)
    (rw c.in-Some.is at c.self.view_is))

pub returns-in-None : goal.returns-in-None
returns-in-None g c i j in_rows in_columns =
    let s = c.self.inside in
    none_entry g.C.Cell.symbols s.rows s.columns c.args.self.now i j (rw c.in-None.is at c.self.view_is) in_rows in_columns
