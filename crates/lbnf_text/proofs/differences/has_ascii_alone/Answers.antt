use Rattle.std.proofs.lemmas.Str.{IsUtf8-had}
use Rattle.lbnf_text.proofs.DifferenceLemmas.{ascii_name}
use Rattle.lbnf_text.proofs.differences.has_ascii_alone.Goals as goal

pub returns : goal.returns
returns c =
    ascii_name c.args.name.now (IsUtf8-had c.args.name.now c.as_slice.ensures.utf8) c.is_ascii.result
    (rw c.as_slice.ensures.bytes at c.is_ascii.ensures.cases)
