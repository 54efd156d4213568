-- A space, the name, a colon and the bytes are added in turn.
use Rattle.chart_service.proofs.TokenLineLemmas.{token_pushed}
use Rattle.chart_service.proofs.token_lines.push_token.Goals as goal

pub returns : goal.returns
returns c token is =
    token_pushed c.args.kinds.now c.args.text.now.bytes c.args.text.now.tokens c.args.place token is
    c.token_kind.result c.token_kind.ensures c.in_ok-bytes.bytes c.in_ok-bytes.ensures c.push_printed.result
    _ _ _ _ _ _ _ c.in_ok-push.ensures.bytes c.in_ok-push_str.ensures.bytes c.in_ok-push-2.ensures.bytes
    c.push_printed.ensures c.name_of.ensures c.as_str.ensures
