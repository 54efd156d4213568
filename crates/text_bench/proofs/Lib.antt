mod SoundLemmas
