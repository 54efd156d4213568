use Rattle.spec_lbnf.proofs.SoundLemmas.{sound_kinds}
use Rattle.spec_lbnf.proofs.laws.sound_kinds.Goals as goal

pub returns : goal.returns
returns c = sound_kinds
