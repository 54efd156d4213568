use Rattle.lbnf_text.proofs.DifferenceLemmas.{seq_is_no_class}
use Rattle.lbnf_text.proofs.differences.+is_class.Goals as goal

pub returns-in-Seq : goal.returns-in-Seq
returns-in-Seq t c = rw c.in-Seq.is (seq_is_no_class c.in-Seq.field-0)
