use Rattle.std.proofs.Common.{◌∙◌, string_bytes}
use Rattle.lbnf_grammar.proofs.NameLemmas.{has_key}
use Rattle.lbnf_grammar.proofs.names.Names.has.Goals as goal

pub returns : goal.returns
returns c = c.contains.ensures ∙ has_key (λ key. string_bytes key) c.self.inside.set.keys c.args.self.now c.self.view_is c.args.name.now
