-- The value is text, and the parts of the literal are read one by one.
use Rattle.std.proofs.Common.{string_bytes, ◌∙◌}
use Rattle.std.proofs.lemmas.Str.{IsUtf8-string_bytes}
use Rattle.lbnf_text.proofs.LiteralLemmas.{string_closed, string_broken}
use Rattle.lbnf_text.proofs.scanner.string.Goals as goal

pub of-name-requires : goal.of-name-requires
of-name-requires c =
    rw (c.in_ok-from_slice-in-Close.ensures.items, c.as_bytes.ensures.value) (IsUtf8-string_bytes c.loop-scalar.room)

pub returns-in-Close : goal.returns-in-Close
returns-in-Close c =
    string_closed c.args.text.now (string_bytes c.loop-scalar.room) c.loop-scalar.rest.now c.in-Close.behind.now
    c.of-name.result c.loop-scalar.invariant.so_far c.in-Close.ensures.part
    (c.of-name.ensures ∙ c.in_ok-from_slice-in-Close.ensures.items ∙ c.as_bytes.ensures.value)

pub returns-in-Broken : goal.returns-in-Broken
returns-in-Broken c =
    string_broken c.args.text.now (string_bytes c.loop-scalar.room) c.loop-scalar.rest.now
    c.loop-scalar.invariant.so_far c.in-Broken.ensures.part
