-- By the symbol's number.
use Rattle.std.proofs.Common.{sym}
use Rattle.binary_form.specs.Symbols.{plain}
use Rattle.first_tree.proofs.derivation.derives.Goals as goal

pub returns : goal.returns
returns g c = c.is_derived.ensures (plain c.args.symbol) (c.requires.own, sym c.symbol_of.ensures.number)
