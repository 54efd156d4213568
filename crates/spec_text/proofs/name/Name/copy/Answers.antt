use Rattle.std.proofs.Common.{subst, sym, ◌∙◌}
use Rattle.std.specs.Str.{IsUtf8}
use Rattle.std.proofs.lemmas.Str.{IsUtf8-had}
use Rattle.spec_text.proofs.name.Name.copy.Goals as goal

pub of-requires : goal.of-requires
of-requires c = subst IsUtf8 (sym (c.in_ok-bytes.ensures.items ∙ c.as_slice.ensures.bytes)) (IsUtf8-had c.args.self.now c.as_slice.ensures.utf8)
