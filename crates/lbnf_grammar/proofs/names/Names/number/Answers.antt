use Rattle.std.proofs.Common.{◌∙◌, string_bytes}
use Rattle.std.specs.Option.{unwrap_or}
use Rattle.lbnf_grammar.proofs.NameLemmas.{place_is_number}
use Rattle.lbnf_grammar.proofs.names.Names.number.Goals as goal

pub returns-clause-number : goal.returns-clause-number
returns-clause-number c =
    c.unwrap_or.ensures ∙ (λ i. unwrap_or (c.get_index_of.ensures.index i) (c.len.ensures.len i))
    ∙ place_is_number (λ key. string_bytes key) c.self.inside.set.keys c.args.self.now c.self.view_is c.args.name.now
