-- The entries of a whole automaton are states.
use Rattle.std.proofs.Common.{◌≡◌, ◌<◌, List, ℕ, Option, length, IfSome, ap, sym, subst}
use Rattle.lbnf_regex.specs.Automata.{Machine}
use Rattle.lbnf_regex.proofs.PlaceLemmas.{entry_is_state}
use Rattle.lbnf_regex.proofs.machine.Automaton.step.Goals as goal

pub returns-clause-within : goal.returns-clause-within
returns-clause-within c =
    let fields = c.self.inside in
    let rows_are : fields.rows ≡ c.args.self.now.rows = ap (λ (a : Machine). a.rows) c.self.view_is in
    let lt : c.args.state < length fields.rows =
    subst (λ (rows : List (List (Option ℕ))). c.args.state < length rows) (sym rows_are) c.requires in
    subst (λ (rows : List (List (Option ℕ))). IfSome c.state.result (λ next. next < length rows)) rows_are
    (entry_is_state fields.rows fields.places fields.comments c.index-as_slice-state.result c.index-as_slice-byte.result
    c.state.result c.args.state c.args.byte c.self.invariant lt c.ranges.byte.fits
    (rw c.as_slice.ensures at c.index-as_slice-state.is) (rw c.as_slice-2.ensures at c.index-as_slice-byte.is) c.state.ensures)
