use Rattle.std.proofs.Common.{Vec, Global, sym, ap, ◌∙◌, is_some}
use Rattle.std.specs.Map.{lookup}
use Rattle.std.specs.Str.{bytes_eq}
use Rattle.numbered_grammar.proofs.PlaceLemmas.{symbol_there, symbol_new}
use Rattle.numbered_grammar.proofs.places.add_symbol.Goals as goal

pub returns-then-contains_key : goal.returns-then-contains_key
returns-then-contains_key c =
    symbol_there c.args.places.now c.args.name.now c.args.symbol
    (ap (λ n. is_some (lookup (λ (key : Vec _ Global). bytes_eq n key.items) c.args.places.now.entries)) (sym c.as_slice.ensures.bytes)
    ∙ sym c.contains_key.ensures ∙ c.if-contains_key.true)

pub returns : goal.returns
returns c =
    symbol_new c.args.places.now c.args.name.now c.args.symbol c.insert.new.self c.in_ok-key.key (c.in_ok-key.ensures.items ∙ c.as_slice-2.ensures.bytes)
    (ap (λ n. is_some (lookup (λ (key : Vec _ Global). bytes_eq n key.items) c.args.places.now.entries)) (sym c.as_slice.ensures.bytes)
    ∙ sym c.contains_key.ensures ∙ c.if-contains_key.false)
    c.in_ok-insert.ensures.entries
