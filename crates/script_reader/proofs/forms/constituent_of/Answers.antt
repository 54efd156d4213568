-- Nothing, a word behind a space, or a word behind a space with a span behind another.
use Rattle.script_reader.proofs.QuestionLemmas.{no_space_first, whole_of_word, front_of_word}
use Rattle.script_reader.proofs.forms.constituent_of.Goals as goal

pub returns-in_err-named : goal.returns-in_err-named
returns-in_err-named c =
    rw c.from_residual.ensures
    (no_space_first c.args.bytes.now c.if-is_empty.ensures (rw c.as_slice.ensures at c.in_err-named.ensures))

pub named_span-requires : goal.named_span-requires
named_span-requires c =
    front_of_word c.args.bytes.now c.as_slice.result.now c.in_ok-named.named.now c.in_ok-named.ensures c.requires
    c.in-Some.name.now c.in-Some.span.now c.in-Some.ensures.0 c.in-Some.ensures.1

pub named_whole-requires : goal.named_whole-requires
named_whole-requires c =
    whole_of_word c.args.bytes.now c.as_slice.result.now c.in_ok-named.named.now c.in_ok-named.ensures c.requires
    c.in-None.ensures
