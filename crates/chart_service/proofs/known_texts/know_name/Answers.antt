-- The bytes of a name are UTF-8.
use Rattle.std.proofs.lemmas.Str.{IsUtf8-had}
use Rattle.chart_service.proofs.known_texts.know_name.Goals as goal

pub returns : goal.returns
returns c = IsUtf8-had c.args.name.now c.as_slice-bytes.ensures.utf8
