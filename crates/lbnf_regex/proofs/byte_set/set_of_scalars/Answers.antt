-- One byte more is tested.
use Rattle.std.proofs.Common.{◌≡◌, ◌&&◌, ◌++◌, ◌∷◌, [], cond, nat_eq, not, ℕ, List, ap, refl, sym, arith, ◌∙◌}
use Rattle.std.specs.List.{filter, range_with_len}
use Rattle.std.specs.Set.{is_member}
use Rattle.spec_automata.specs.Encoding.{is_ascii}
use Rattle.lbnf_regex.specs.ByteSets.{flag_at, kept_of}
use Rattle.spec_automata.proofs.ByteSetLemmas.{bytes_that_is}
use Rattle.lbnf_regex.proofs.ByteSetLemmas.{filter_one_more}
use Rattle.lbnf_regex.proofs.byte_set.set_of_scalars.Goals as goal

pub loop-byte-preserved : goal.loop-byte-preserved
loop-byte-preserved c =
    c.in_ok-push_if.ensures
    ∙ ap (λ (z : List ℕ). z ++ cond c.is_kept_scalar-holds.result (c.loop-byte.byte ∷ []) []) c.loop-byte.invariant
    ∙ filter_one_more (λ b. not (is_ascii b && flag_at c.args.removed.now b))
    (λ b. is_ascii b && is_member nat_eq c.args.scalars.now b) c.loop-byte.byte c.loop-byte.byte
    c.is_kept_scalar-holds.result refl c.is_kept_scalar-holds.ensures

pub returns : goal.returns
returns c =
    let all : c.loop-byte.byte ≡ 256 = omega (arith, c.loop-byte-test.false, c.loop-byte.auto.byte-end) in
    c.loop-byte.invariant
    ∙ ap (λ (n : ℕ). kept_of c.args.removed.now (filter (λ b. is_ascii b && is_member nat_eq c.args.scalars.now b) (range_with_len 0 n))) all
    ∙ ap (kept_of c.args.removed.now) (sym (bytes_that_is (λ b. is_ascii b && is_member nat_eq c.args.scalars.now b)))
