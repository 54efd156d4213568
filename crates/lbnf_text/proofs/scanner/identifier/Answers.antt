-- An identifier is ASCII.
use Rattle.lbnf_text.proofs.RunTextLemmas.{name_boundary}
use Rattle.lbnf_text.proofs.scanner.identifier.Goals as goal

pub split_at-requires : goal.split_at-requires
split_at-requires c =
    rw (c.name_len.ensures, c.as_bytes.ensures.value) (name_boundary c.args.text.now c.utf8.text)
