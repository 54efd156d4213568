-- A number is ASCII, and its digits are parsed.
use Rattle.std.proofs.Common.{◌≡◌, ◌≤◌, ℕ, List, take, length, sym, ap, ◌∙◌, arith}
use Rattle.std.specs.List.{prefix_len}
use Rattle.std.specs.Result.{result_ok}
use Rattle.std.proofs.lemmas.Option.{none-some}
use Rattle.spec_text.specs.Bytes.{is_digit}
use Rattle.lbnf_text.proofs.RunTextLemmas.{digit_boundary, digits_parse}
use Rattle.lbnf_text.proofs.scanner.number.Goals as goal

pub split_at-requires : goal.split_at-requires
split_at-requires c =
    rw (c.digit_count.ensures, c.as_bytes.ensures.value) (digit_boundary c.args.text.now c.utf8.text)

pub returns-in_err-value : goal.returns-in_err-value
returns-in_err-value c =
    let text : List ℕ = c.args.text.now in
    let count : c.digit_count.result ≡ prefix_len is_digit text = rw c.as_bytes.ensures.value at c.digit_count.ensures in
    let front : c.split_at.result.0.now ≡ take (prefix_len is_digit text) text = c.split_at.ensures.front ∙ ap (λ n. take n text) count in
    let few : length (take (prefix_len is_digit text) text) ≤ 4 = omega (arith, ap length front) in
    let parsed = digits_parse text c.parse.result c.requires few (rw front at c.parse.ensures.value.0) in
    absurd (none-some _ (sym c.in_err-value.was ∙ c.ok.ensures.value ∙ ap result_ok parsed))
