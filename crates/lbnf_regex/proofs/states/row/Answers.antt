-- Each entry is right, and states that are added change none before it.
use Rattle.std.proofs.Common.{map, ◌≡◌, ℕ, ◌<◌, List, length, sym, subst, arith, ◌∙◌}
use Rattle.std.proofs.lemmas.Result.{err_from_is_err_and}
use Rattle.lbnf_regex.specs.declared.lex_fault.LexFault.TheVariants.{TooManyStates}
use Rattle.spec_automata.specs.Encoding.{one_of_these}
use Rattle.lbnf_regex.specs.Patterns.{bytes_of_pattern}
use Rattle.lbnf_regex.specs.Sets.{AreTargets, IsNext, StepsFrom}
use Rattle.lbnf_regex.specs.States.{state_at, IsStateEntry}
use Rattle.lbnf_regex.proofs.SetLemmas.{next_is_set}
use Rattle.lbnf_regex.proofs.StateLemmas.{grows_more, grows_at, grows_len, row_grows, row_push, no_room, entry_is, entry_above, other_err}
use Rattle.lbnf_regex.proofs.states.row.Goals as goal

pub returns-in_err-entry-clause-full : goal.returns-in_err-entry-clause-full
returns-in_err-entry-clause-full c =
    let x = one_of_these (map bytes_of_pattern c.args.kinds.now) in
    let i = c.args.i in
    let old : List (List ℕ) = c.loop-byte.states in
    let grows = c.loop-byte.invariant.grows in
    let at : state_at old i ≡ state_at c.args.states.now i = grows_at c.args.states.now old grows i c.requires.within in
    let just : AreTargets (StepsFrom x (state_at old i)) c.in_ok-targets.targets =
    subst (λ (z : List ℕ). AreTargets (StepsFrom x z) c.in_ok-targets.targets) (c.at.ensures ∙ sym at) c.in_ok-targets.ensures in
    let next : IsNext x (state_at old i) c.loop-byte.byte c.of_byte-set.result.now =
    next_is_set x (state_at old i) c.in_ok-targets.targets c.loop-byte.byte c.of_byte-set.result.now c.loop-byte-test.true just
    c.of_byte-set.ensures.positions c.of_byte-set.ensures.rising in
    let lt : i < length old = omega (arith, c.requires.within, grows_len c.args.states.now old grows) in
    let p = err_from_is_err_and c.from_residual-in_err-entry.result c.from_residual-in_err-entry.ensures.1 in
    rw (p.1, p.2)
    (λ full.
    no_room x old i c.loop-byte.byte c.of_byte-set.result.now c.loop-byte.invariant.are lt c.loop-byte-test.true next
    c.args.most (c.in_err-entry.ensures.full (other_err c.in_err-entry.field-0.0 TooManyStates full)))

pub of-requires : goal.of-requires
of-requires c =
    let x = one_of_these (map bytes_of_pattern c.args.kinds.now) in
    let i = c.args.i in
    let old : List (List ℕ) = c.loop-byte.states in
    let new : List (List ℕ) = c.entry.new.states in
    let grows = c.loop-byte.invariant.grows in
    let at : state_at old i ≡ state_at c.args.states.now i = grows_at c.args.states.now old grows i c.requires.within in
    let just : AreTargets (StepsFrom x (state_at old i)) c.in_ok-targets.targets =
    subst (λ (z : List ℕ). AreTargets (StepsFrom x z) c.in_ok-targets.targets) (c.at.ensures ∙ sym at) c.in_ok-targets.ensures in
    let next : IsNext x (state_at old i) c.loop-byte.byte c.of_byte-set.result.now =
    next_is_set x (state_at old i) c.in_ok-targets.targets c.loop-byte.byte c.of_byte-set.result.now c.loop-byte-test.true just
    c.of_byte-set.ensures.positions c.of_byte-set.ensures.rising in
    let lt : i < length old = omega (arith, c.requires.within, grows_len c.args.states.now old grows) in
    let right = entry_is x old i c.loop-byte.byte c.of_byte-set.result.now c.loop-byte.invariant.are lt c.loop-byte-test.true
    next new c.in_ok-entry.entry c.in_ok-entry.ensures.ok in
    entry_above x new (state_at old i) c.loop-byte.byte c.in_ok-entry.entry right.2

pub loop-byte-preserved : goal.loop-byte-preserved
loop-byte-preserved c =
    let x = one_of_these (map bytes_of_pattern c.args.kinds.now) in
    let i = c.args.i in
    let old : List (List ℕ) = c.loop-byte.states in
    let new : List (List ℕ) = c.entry.new.states in
    let b : ℕ = c.loop-byte.byte in
    let grows = c.loop-byte.invariant.grows in
    let at : state_at old i ≡ state_at c.args.states.now i = grows_at c.args.states.now old grows i c.requires.within in
    let just : AreTargets (StepsFrom x (state_at old i)) c.in_ok-targets.targets =
    subst (λ (z : List ℕ). AreTargets (StepsFrom x z) c.in_ok-targets.targets) (c.at.ensures ∙ sym at) c.in_ok-targets.ensures in
    let next : IsNext x (state_at old i) b c.of_byte-set.result.now =
    next_is_set x (state_at old i) c.in_ok-targets.targets b c.of_byte-set.result.now c.loop-byte-test.true just
    c.of_byte-set.ensures.positions c.of_byte-set.ensures.rising in
    let lt : i < length old = omega (arith, c.requires.within, grows_len c.args.states.now old grows) in
    let right = entry_is x old i b c.of_byte-set.result.now c.loop-byte.invariant.are lt c.loop-byte-test.true next new
    c.in_ok-entry.entry c.in_ok-entry.ensures.ok in
    record {
      grows = grows_more c.args.states.now old new grows right.0;
      are = right.1;
      few = c.in_ok-entry.ensures.most;
      row = rw (c.in_ok-push.ensures.ok, c.of.ensures)
          (row_push x new (state_at c.args.states.now i) b c.loop-byte.row c.in_ok-entry.entry
          (row_grows old new right.0 x (state_at c.args.states.now i) b c.loop-byte.row c.loop-byte.invariant.row)
          (subst (λ (z : List ℕ). IsStateEntry x new z b c.in_ok-entry.entry) at right.2));
    }
