use Rattle.std.proofs.Common.{sym, ◌∙◌}
use Rattle.std.proofs.lemmas.Result.{err_from_is_err_and}
use Rattle.lbnf_text.proofs.ExpressionLemmas.{nothing_read, one_token, not_read, all_read}
use Rattle.lbnf_text.proofs.parser.Parser.expression.Goals as goal

pub tokens-init : goal.tokens-init
tokens-init c = rw c.first_state-state.ensures (nothing_read c.args.self.now)

pub returns-in_err-state : goal.returns-in_err-state
returns-in_err-state c =
    let p = err_from_is_err_and c.from_residual.result c.from_residual.ensures.1 in
    let split = sym c.rest.ensures ∙ c.in-Some.ensures in
    rw (p.1, p.2) (λ free. not_read c.args.self.now c.tokens.self c.tokens.state c.tokens.invariant c.in-Some.first.now c.in-Some.behind.now c.in_err-state.field-0.0 split (c.in_err-state.ensures free))

pub tokens-preserved : goal.tokens-preserved
tokens-preserved c =
    let split = sym c.rest.ensures ∙ c.in-Some.ensures in
    rw c.go_to.ensures (c.tokens.invariant ∙ one_token c.tokens.self c.in-Some.first.now c.in-Some.behind.now c.tokens.state c.in_ok-state.state split c.in_ok-state.ensures)

pub returns : goal.returns
returns c = all_read c.args.self.now c.tokens.self c.tokens.state c.tokens.invariant c.whole.result (sym c.rest.ensures ∙ c.in_default.ensures) c.whole.ensures
