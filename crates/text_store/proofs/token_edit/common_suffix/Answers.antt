-- The next kinds from the end are the same.
use Rattle.std.proofs.Common.{None, arith}
use Rattle.spec_lexing.specs.declared.token.Token.{Token}
use Rattle.text_store.proofs.TrimmingLemmas.{suffix_token, same_kind}
use Rattle.text_store.proofs.token_edit.common_suffix.Goals as goal

pub loop-len-preserved : goal.loop-len-preserved
loop-len-preserved c =
    let stray : Token = record { kind = None; first = 0; end = 0 } in
    suffix_token c.args.old.now c.args.new.now c.loop-len.len (omega arith) (omega arith) stray stray
    (same_kind _ _ c.if-ne.ensures) c.loop-len.invariant
