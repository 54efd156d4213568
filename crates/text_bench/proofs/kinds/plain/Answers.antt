-- What a string may not have as it is are ASCII characters.
use Rattle.std.proofs.Common.{◌<◌, All, refl, sym, subst}
use Rattle.std.specs.Str.{chars}
use Rattle.text_bench.proofs.SoundLemmas.{ascii_chars}
use Rattle.text_bench.proofs.kinds.plain.Goals as goal

pub without-requires-clause-ascii : goal.without-requires-clause-ascii
without-requires-clause-ascii c =
    subst (λ bytes. All (λ c. c < 128) (chars bytes)) (sym c.in_ok-never.ensures.bytes) (ascii_chars _ refl)
