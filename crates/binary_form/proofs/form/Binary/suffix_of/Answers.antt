use Rattle.std.proofs.Common.{arith}
use Rattle.binary_form.specs.Symbols.{suffix}
use Rattle.binary_form.proofs.NumberLemmas.{numbers_below}
use Rattle.binary_form.proofs.FormLemmas.{suffix_numbered}
use Rattle.binary_form.proofs.form.Binary.suffix_of.Goals as goal

pub overflow_add-result : goal.overflow_add-result
overflow_add-result g c =
    let parts = rw c.self.view_is at c.self.invariant.0 in
    let number = suffix_numbered c.args.self.now c.self.inside.first_suffixes c.args.r c.args.p parts.firsts_are c.requires in
    let below = numbers_below c.args.self.now (suffix c.args.r c.args.p) c.requires in
    let few = parts.few in
    rw (c.as_slice.ensures, number) (record { fits = omega (arith, below, few) })

pub returns-clause-number : goal.returns-clause-number
returns-clause-number g c =
    let parts = rw c.self.view_is at c.self.invariant.0 in
    rw c.as_slice.ensures (suffix_numbered c.args.self.now c.self.inside.first_suffixes c.args.r c.args.p parts.firsts_are c.requires)

pub returns-clause-below : goal.returns-clause-below
returns-clause-below g c =
    let parts = rw c.self.view_is at c.self.invariant.0 in
    let is = suffix_numbered c.args.self.now c.self.inside.first_suffixes c.args.r c.args.p parts.firsts_are c.requires in
    rw (c.as_slice.ensures, is) (numbers_below c.args.self.now (suffix c.args.r c.args.p) c.requires)
