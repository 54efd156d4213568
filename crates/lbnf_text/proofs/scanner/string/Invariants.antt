-- What the whole text gives is what is in the room before what the rest gives.
use Rattle.std.proofs.Common.{◌≡◌, length, option_map, false, string_bytes}
use denote.Shadow.{shadow}
use denote.Text.{Utf8}
use Rattle.lbnf_readers.specs.Scanning.{literal_from}
use Rattle.lbnf_text.proofs.PartLemmas.{bytes_before}
use Rattle.lbnf_text.proofs.scanner.string.Given as goal

abbrev pub invariant-loop-scalar : goal.invariant-loop-scalar
invariant-loop-scalar l = record {
  utf8 : shadow (Utf8 l.rest);
  so_far : literal_from 34 false l.fn.text ≡ option_map (bytes_before (string_bytes l.room)) (literal_from 34 false l.rest);
}

abbrev pub decreases-loop-scalar : goal.decreases-loop-scalar
decreases-loop-scalar l = length l.rest
