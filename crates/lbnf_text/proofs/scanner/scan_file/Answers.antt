-- Each token that is read is the next one of the file.
use Rattle.std.proofs.Common.{ℕ, [], length, rules, arith, append_assoc}
use Rattle.std.proofs.lemmas.List.{append-nil}
use Rattle.lbnf_readers.proofs.ScanLemmas.{skip_shorter}
use Rattle.lbnf_text.proofs.ScanTextLemmas.{behind_token_is_shorter, token_then, no_token_then}
use Rattle.lbnf_text.proofs.scanner.scan_file.Goals as goal

pub overflow_sub-offset : goal.overflow_sub-offset
overflow_sub-offset c =
    omega (arith, skip_shorter c.loop-tokens.rest.now c.skip_spaces-here.result.now c.skip_spaces-here.ensures.skips, c.loop-tokens.invariant.within)

pub returns-in_default : goal.returns-in_default
returns-in_default c =
    let size : ℕ = length c.args.text.now in
    let read = rw c.in_default.is at c.in_ok-token.ensures in
    let last = no_token_then size c.loop-tokens.rest.now c.skip_spaces-here.result.now c.loop-tokens.invariant.within c.skip_spaces-here.ensures.skips c.skip_spaces-here.ensures.free read in
    rw append-nil at (c.loop-tokens.invariant.so_far [] _ last)

pub loop-tokens-smaller : goal.loop-tokens-smaller
loop-tokens-smaller c =
    let read = rw c.in-Some.is at c.in_ok-token.ensures in
    behind_token_is_shorter c.loop-tokens.rest.now c.skip_spaces-here.result.now c.in-Some.behind.now c.in-Some.token c.skip_spaces-here.ensures.skips read

pub loop-tokens-preserved : goal.loop-tokens-preserved
loop-tokens-preserved c =
    let size : ℕ = length c.args.text.now in
    let read = rw c.in-Some.is at c.in_ok-token.ensures in
    let shorter = behind_token_is_shorter c.loop-tokens.rest.now c.skip_spaces-here.result.now c.in-Some.behind.now c.in-Some.token c.skip_spaces-here.ensures.skips read in
    record {
      utf8 = search rules;
      within = omega (arith, shorter, c.loop-tokens.invariant.within);
      so_far = λ tokens stop more.
          let next = token_then size c.loop-tokens.rest.now c.skip_spaces-here.result.now c.in-Some.behind.now c.in-Some.token tokens stop c.loop-tokens.invariant.within c.skip_spaces-here.ensures.skips read more in
          rw (c.in_ok-push.ensures.items, append_assoc) (c.loop-tokens.invariant.so_far _ stop next);
    }
