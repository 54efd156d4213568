use Rattle.std.proofs.Common.{◌∙◌, ◌≡◌, Bool, ◌&&◌, nat_eq, sym}
use Rattle.quad_mat.specs.declared.entries.Entry.{Entry}
use Rattle.std.specs.Cmp.Lexicographic.{pointwise}
use Rattle.quad_mat.proofs.SameRowLemmas.{entry_same, entry_self, rows_same, row_self}
use Rattle.quad_mat.proofs.room.are_equal.Goals as goal

pub returns : goal.returns
returns c =
    let E : Entry → Entry → Bool = λ x y. nat_eq x.column y.column && nat_eq x.cell y.cell in
    let a = c.args.a.now in
    let b = c.args.b.now in
    let is : c.eq.result ≡ pointwise E a b = c.eq.ensures in (
      (λ t. rows_same E entry_same entry_self a b (sym is ∙ t)),
      (λ e. rw (is, e) (row_self E entry_same entry_self b)),
    )
