-- The scalars of one to four bytes.
use Rattle.std.proofs.Common.{◌≡◌, ◌∷◌, [], List, map, ap, ◌∙◌}
use Rattle.spec_automata.specs.Encoding.{one_of_these}
use Rattle.lbnf_regex.specs.declared.pattern.Pattern.{Pattern}
use Rattle.lbnf_regex.specs.ByteSets.{flag_at}
use Rattle.lbnf_regex.specs.Patterns.{bytes_of_pattern}
use Rattle.lbnf_regex.proofs.PatternLemmas.{pattern-Alt}
use Rattle.lbnf_regex.proofs.EncodingStepLemmas.{without_sizes}
use Rattle.lbnf_regex.proofs.encoding.any_scalar.Goals as goal

pub returns : goal.returns
returns c =
    let a = c.in_ok-between.field-0 in
    let b = c.in_ok-wide_scalar.field-0 in
    let d = c.in_ok-wide_scalar-2.field-0 in
    let e = c.in_ok-wide_scalar-3.field-0 in
    let one : c.push.new.self ≡ a ∷ [] = rw c.new-sizes.ensures at c.in_ok-push.ensures.ok in
    let two : c.push-2.new.self ≡ a ∷ b ∷ [] = rw one at c.in_ok-push-2.ensures.ok in
    let three : c.push-3.new.self ≡ a ∷ b ∷ d ∷ [] = rw two at c.in_ok-push-3.ensures.ok in
    let four : c.push-4.new.self ≡ a ∷ b ∷ d ∷ e ∷ [] = rw three at c.in_ok-push-4.ensures.ok in
    pattern-Alt c.push-4.new.self ∙ ap (λ (z : List Pattern). one_of_these (map bytes_of_pattern z)) four
    ∙ without_sizes (flag_at c.args.removed.now) (bytes_of_pattern a) (bytes_of_pattern b) (bytes_of_pattern d)
    (bytes_of_pattern e) c.in_ok-between.ensures c.in_ok-wide_scalar.ensures c.in_ok-wide_scalar-2.ensures
    c.in_ok-wide_scalar-3.ensures
