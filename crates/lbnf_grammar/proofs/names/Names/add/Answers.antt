use Rattle.std.proofs.Common.{true, false, sym, string_bytes}
use Rattle.lbnf_grammar.proofs.NameLemmas.{told, with_name_there, keys_added}
use Rattle.lbnf_grammar.proofs.names.Names.add.Goals as goal

pub returns-then-contains : goal.returns-then-contains
returns-then-contains c =
    sym (with_name_there c.args.self.now c.args.name.now
    (told (λ key. string_bytes key) c.self.inside.set.keys c.args.self.now c.self.view_is c.args.name.now _ true c.contains.ensures c.if-contains.true))

pub returns : goal.returns
returns c =
    keys_added (λ key. string_bytes key) c.self.inside.set.keys c.args.self.now c.self.view_is c.args.name.now
    c.in_ok-key.key c.insert.new.self.keys c.in_ok-key.ensures.ok
    (told (λ key. string_bytes key) c.self.inside.set.keys c.args.self.now c.self.view_is c.args.name.now _ false c.contains.ensures c.if-contains.false)
    c.in_ok-insert.ensures.keys
