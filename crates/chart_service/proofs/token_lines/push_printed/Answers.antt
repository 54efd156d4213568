-- A character goes from the rest to what is printed.
use Rattle.std.proofs.lemmas.Str.{IsUtf8-past_char}
use Rattle.chart_service.proofs.TokenLineLemmas.{printed_step, printed_end}
use Rattle.chart_service.proofs.token_lines.push_printed.Goals as goal

pub loop-character-preserved : goal.loop-character-preserved
loop-character-preserved c =
    let held = c.loop-character.invariant in
    let parts = c.in-Some.ensures.steps.0 in
    record {
      utf8 = IsUtf8-past_char _ _ c.in-Some.character held.utf8 parts;
      whole = printed_step _ _ _ _ _ c.in-Some.character parts held.whole c.in_ok-push_character.ensures;
    }

pub returns : goal.returns
returns c = printed_end _ _ _ c.in-None.ensures.steps.0.0 c.loop-character.invariant.whole
