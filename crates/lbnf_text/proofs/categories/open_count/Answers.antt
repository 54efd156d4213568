use Rattle.std.proofs.Common.{sym, ◌∙◌, arith, Bool}
use Rattle.std.proofs.lemmas.List.Sums.{prefix_len_is}
use Rattle.spec_lbnf.specs.declared.token.PlacedToken.{PlacedToken}
use Rattle.spec_lbnf.specs.declared.token.Sign.TheVariants.{OpenBracket}
use Rattle.lbnf_readers.specs.FileReading.{is_sign}
use Rattle.lbnf_text.proofs.ParsingLemmas.{open_run, all_open}
use Rattle.lbnf_text.proofs.categories.open_count.Goals as goal

pub returns-then-not-is_sign-clause-count : goal.returns-then-not-is_sign-clause-count
returns-then-not-is_sign-clause-count c =
    let other : PlacedToken = c.index-tokens-i.result in
    let passes : PlacedToken → Bool = λ token. is_sign OpenBracket token.token in
    sym (prefix_len_is passes c.args.tokens.now c.loop-i.i other (omega arith) (λ k lt. c.loop-i.invariant k other lt) (λ _. rw (← c.index-tokens-i.is) (sym c.is_sign.ensures ∙ c.if-not-is_sign.true))) ∙ open_run c.args.tokens.now

pub returns-clause-count : goal.returns-clause-count
returns-clause-count c = all_open c.args.tokens.now (λ k other lt. c.loop-i.invariant k other (omega arith))
