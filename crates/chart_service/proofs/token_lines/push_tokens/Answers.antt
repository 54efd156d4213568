-- A token more is told, up to the last.
use Rattle.std.proofs.Common.{◌≡◌, ◌<◌, ◌++◌, ℕ, length, get_or, slice_get, slice_range, None, Some, string_bytes, subst, arith}
use Rattle.std.proofs.lemmas.Option.{slice_get-get_or}
use Rattle.spec_lexing.specs.declared.token.Token.{Token}
use Rattle.spec_session.specs.TokenAnswers.{tokens_text}
use Rattle.chart_service.proofs.TokenLineLemmas.{token_added}
use Rattle.chart_service.proofs.token_lines.push_tokens.Goals as goal

pub loop-place-preserved : goal.loop-place-preserved
loop-place-preserved c =
    let tokens = c.args.text.now.tokens in
    let place : ℕ = c.loop-place.place in
    let within : place < length tokens = omega (arith, c.loop-place-test.true, c.requires.within) in
    let token : Token = get_or tokens place (record { kind = None; first = 0; end = 0 }) in
    let is : slice_get tokens place ≡ Some token = slice_get-get_or tokens place _ within in
    record {
      order = omega (arith, c.loop-place.invariant.order);
      told = token_added c.args.kinds.now c.args.text.now.bytes tokens _ _ _ c.args.first place token
          c.loop-place.invariant.order within is c.loop-place.invariant.told (c.in_ok-push_token.ensures token is);
    }

pub returns : goal.returns
returns c =
    let end : c.loop-place.place ≡ c.args.end =
    omega (arith, c.loop-place.auto, c.loop-place-test.false, c.requires.order) in
    let Told : ℕ → Type 0 = λ place. string_bytes c.loop-place.line ≡ string_bytes c.args.line.now
    ++ tokens_text c.args.kinds.now c.args.text.now.bytes (slice_range c.args.text.now.tokens c.args.first place) in
    subst Told end c.loop-place.invariant.told
