use Rattle.std.proofs.Common.{ap, sym, subst}
use Rattle.std.specs.Str.{IsUtf8}
use Rattle.std.proofs.lemmas.Str.{IsUtf8-string_bytes}
use Rattle.lbnf_grammar.proofs.texts.name_of.Goals as goal

pub of-requires : goal.of-requires
of-requires c = subst IsUtf8 (sym (ap (λ v. v.items) c.into_bytes.ensures.value)) (IsUtf8-string_bytes c.args.text)
