-- Each white byte and each comment is skipped in turn.
use Rattle.std.proofs.Common.{rules}
use Rattle.lbnf_text.proofs.ScanTextLemmas.{behind_is_shorter, skips_more, skips_none}
use Rattle.lbnf_text.proofs.scanner.skip_spaces.Goals as goal

pub loop-behind-smaller : goal.loop-behind-smaller
loop-behind-smaller c = behind_is_shorter c.loop-behind.rest.now c.in-Some.behind.now c.in-Some.ensures

pub loop-behind-preserved : goal.loop-behind-preserved
loop-behind-preserved c = record {
  utf8 = search rules;
  so_far = λ rest skips. c.loop-behind.invariant.so_far rest (skips_more c.loop-behind.rest.now c.in-Some.behind.now rest c.in-Some.ensures skips);
}

pub returns-clause-skips : goal.returns-clause-skips
returns-clause-skips c = c.loop-behind.invariant.so_far c.loop-behind.rest.now (skips_none c.loop-behind.rest.now)
