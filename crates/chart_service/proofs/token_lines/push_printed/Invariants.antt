-- What is printed so far, with the rest, is the whole.
use Rattle.std.proofs.Common.{◌≡◌, ◌++◌, IsUtf8, string_bytes}
use Rattle.std.specs.Str.Iter.{chars_rest}
use Rattle.spec_text.specs.Escapes.{printed}
use Rattle.chart_service.proofs.token_lines.push_printed.Given as goal

abbrev pub invariant-loop-character : goal.invariant-loop-character
invariant-loop-character l = record {
  utf8 : IsUtf8 (chars_rest l.character-iterator);
  whole : string_bytes l.line ++ printed (chars_rest l.character-iterator) ≡ string_bytes l.fn.line ++ printed l.fn.text;
}
