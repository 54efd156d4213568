-- So many kinds were the same, from the end.
use Rattle.spec_lexing.specs.Tokens.{kinds_of}
use Rattle.text_store.specs.Trimming.{ShareSuffix}
use Rattle.text_store.proofs.token_edit.common_suffix.Given as goal

abbrev pub invariant-loop-len : goal.invariant-loop-len
invariant-loop-len l = ShareSuffix (kinds_of l.old) (kinds_of l.new) l.len
