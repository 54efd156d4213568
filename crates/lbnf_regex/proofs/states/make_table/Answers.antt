-- With each row the table has one state more, until it has all.
use Rattle.std.proofs.Common.{map, ◌≡◌, ℕ, ◌+◌, ◌<◌, length, List, [], ◌∷◌, ◌++◌, Option, sym, subst, arith, ◌∙◌, ap}
use Rattle.std.proofs.lemmas.List.{length_push}
use Rattle.spec_automata.specs.Encoding.{one_of_these}
use Rattle.lbnf_regex.specs.Patterns.{bytes_of_pattern}
use Rattle.lbnf_regex.specs.States.{state_at, IsStateRow, AreRows}
use Rattle.lbnf_regex.proofs.StateLemmas.{grows_len, grows_at, rows_grow, rows_push}
use Rattle.lbnf_regex.proofs.states.make_table.Goals as goal

pub states-preserved : goal.states-preserved
states-preserved c =
    let x = one_of_these (map bytes_of_pattern c.args.kinds.now) in
    let old : List (List ℕ) = c.states.states in
    let new : List (List ℕ) = c.row.new.states in
    let rows : List (List (Option ℕ)) = c.states.rows in
    let n : ℕ = length rows in
    let g = c.in_ok-row.ensures.grows in
    let lt : n < length old = omega (arith, c.states-test.true, c.len.ensures, c.len-in-states.ensures) in
    let made : c.push-in-states.new.self ≡ rows ++ c.in_ok-row.row ∷ [] = c.in_ok-push-2.ensures.ok in
    let len : length c.push-in-states.new.self ≡ n + 1 = ap length made ∙ length_push rows c.in_ok-row.row in
    let right : IsStateRow x new (state_at old n) 256 c.in_ok-row.row =
    subst (λ (i : ℕ). IsStateRow x new (state_at old i) 256 c.in_ok-row.row) c.len-in-states-2.ensures c.in_ok-row.ensures.row in
    let row : IsStateRow x new (state_at new n) 256 c.in_ok-row.row =
    subst (λ (s : List ℕ). IsStateRow x new s 256 c.in_ok-row.row) (sym (grows_at old new g n lt)) right in
    record {
      are = c.in_ok-row.ensures.states;
      few = c.in_ok-row.ensures.most;
      within = omega (arith, len, lt, grows_len old new g);
      rows_are =
          subst (λ (k : ℕ). AreRows x new k c.push-in-states.new.self) (sym len)
          (subst (AreRows x new (n + 1)) (sym made)
          (rows_push x new n rows c.in_ok-row.row
          (rows_grow old new g x n rows (omega (arith, lt)) c.states.invariant.rows_are) row));
    }

pub returns-clause-table : goal.returns-clause-table
returns-clause-table c =
    let x = one_of_these (map bytes_of_pattern c.args.kinds.now) in
    let same : length c.states.rows ≡ length c.states.states =
    omega (arith, c.states-test.false, c.len.ensures, c.len-in-states.ensures, c.states.invariant.within) in
    record {
      are_states = c.states.invariant.are;
      are_rows = subst (λ (n : ℕ). AreRows x c.states.states n c.states.rows) same c.states.invariant.rows_are;
      few = c.states.invariant.few;
    }
