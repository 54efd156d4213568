use Rattle.std.proofs.Common.{length}
use Rattle.binary_form.proofs.NullableLemmas.{flags_widened}
use Rattle.binary_form.proofs.nullable.with_suffixes.Goals as goal

pub flag_suffixes-requires-clause-flags : goal.flag_suffixes-requires-clause-flags
flag_suffixes-requires-clause-flags c =
    flags_widened c.args.grammar.now c.args.flags.items c.resize.new.self.items c.symbol_count.result
    c.args.flags.len (length c.args.rows.now) c.requires.categories c.symbol_count.ensures (c.args.flags).ok.0
    c.requires.rows.count c.in_ok-resize.ensures.items
