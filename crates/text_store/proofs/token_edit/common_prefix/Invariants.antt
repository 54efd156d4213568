-- So many kinds were the same.
use Rattle.spec_lexing.specs.Tokens.{kinds_of}
use Rattle.text_store.specs.Trimming.{SharePrefix}
use Rattle.text_store.proofs.token_edit.common_prefix.Given as goal

abbrev pub invariant-loop-len : goal.invariant-loop-len
invariant-loop-len l = SharePrefix (kinds_of l.old) (kinds_of l.new) l.len
