use Rattle.std.proofs.Common.{◌≡◌, Some, slice_get, refl, ap, ◌∙◌, cond}
use Rattle.std.proofs.lemmas.Option.{slice_get_read}
use Rattle.spec_lbnf.specs.Expansion.{is_among}
use Rattle.lbnf_grammar.specs.Numbering.{with_new_name}
use Rattle.lbnf_grammar.proofs.DistinctLemmas.{passing_more}
use Rattle.lbnf_grammar.proofs.names.Names.add_listed.Goals as goal

pub loop-name-preserved : goal.loop-name-preserved
loop-name-preserved c =
    let names = c.args.names.now in
    let name = c.name-item.result in
    let old = c.loop-name.self in
    let at : slice_get names c.loop-name.name-index ≡ Some name = slice_get_read names _ c.loop-name.name-index name refl c.loop-name-test.true c.name-item.is in
    passing_more (is_among c.args.others.now) c.args.self.now names c.loop-name.name-index name at old c.add_if_listed.new.self c.loop-name.invariant
    (c.in_ok-add_if_listed.ensures ∙ ap (λ n. cond (is_among c.args.others.now n) (with_new_name old n) old) c.in_ok-in_room.ensures)
