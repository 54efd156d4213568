use Rattle.std.proofs.lemmas.Result.{err_from_is_err_and}
use Rattle.lbnf_grammar.proofs.FaultLemmas.{unknown_told, expands}
use Rattle.lbnf_grammar.proofs.expanding.expand_by.Goals as goal

pub returns : goal.returns
returns c =
    expands c.args.defs.now c.requires.first.0 c.requires.first.1 c.in_ok-check_own_names.ensures
    c.in_ok-used.ensures.0 c.in-Ok-numbered_parts.parts c.in-Ok-numbered_parts.ensures c.acyclic.result c.acyclic.ensures

pub returns-in_err-used : goal.returns-in_err-used
returns-in_err-used c =
    let p = err_from_is_err_and c.from_residual-in_err-used.result c.from_residual-in_err-used.ensures.1 in
    rw (p.1, p.2) (unknown_told c.args.defs.now c.requires.first.0 c.requires.first.1 c.in_ok-check_own_names.ensures
    c.in_err-used.field-0.0 c.in_err-used.ensures)
