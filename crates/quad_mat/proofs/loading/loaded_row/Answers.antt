-- A row that is known.
use Rattle.quad_mat.proofs.CellLemmas.{stay_same}
use Rattle.quad_mat.proofs.loading.loaded_row.Goals as goal

pub returns-in-Some-clause-row : goal.returns-in-Some-clause-row
returns-in-Some-clause-row g c = c.requires.known.loaded.each c.args.n c.in-Some.number c.in-Some.ensures

pub returns-in-Some-clause-different : goal.returns-in-Some-clause-different
returns-in-Some-clause-different g c = stay_same _
