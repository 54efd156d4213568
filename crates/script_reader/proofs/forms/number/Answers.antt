-- What spells a number is UTF-8 and parsed as it.
use Rattle.std.proofs.Common.{◌≡◌, ◌<◌, ◌^◌, ℕ, decimal, false, true, sym, subst}
use Rattle.script_reader.proofs.FormsLemmas.{spelled_utf8, parsed_is, not_unparsed}
use Rattle.script_reader.proofs.forms.number.Goals as goal

pub returns-in_default : goal.returns-in_default
returns-in_default c n small spelled =
    absurd (c.in_default.ensures.cases.0 (spelled_utf8 c.args.word.now n small spelled))

pub returns-in_default-parse : goal.returns-in_default-parse
returns-in_default-parse c n small spelled =
    let is : c.in-Ok-parse.number ≡ n =
    parsed_is c.args.word.now n small spelled c.in-Ok.text.now c.in-Ok.ensures.cases.0
    c.in-Ok-parse.number c.in-Ok-parse.ensures.value.0 in
    let IsSpelled : ℕ → Type 0 = λ (m : ℕ). (m < 10 ^ 9) × (c.args.word.now ≡ decimal m) in
    let never : false ≡ true = c.if-is_spelled.ensures.1 (subst IsSpelled (sym is) (small, spelled)) in
    cc

pub returns-in_default-parse-2 : goal.returns-in_default-parse-2
returns-in_default-parse-2 c n small spelled =
    absurd (not_unparsed c.args.word.now n small spelled c.in-Ok.text.now c.in-Ok.ensures.cases.0
    c.in_default-parse.ensures.value.0)
