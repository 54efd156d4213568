-- A character that is neither a control byte nor a backslash is printed as it is.
use Rattle.chart_service.proofs.TokenLineLemmas.{character_added}
use Rattle.chart_service.proofs.token_lines.push_character.Goals as goal

pub returns : goal.returns
returns c =
    character_added c.push.result _ _ c.args.character c.if-is_ascii_control.ensures.cases
    c.if-character-eq92.false c.push.ensures.bytes
