-- The set of ASCII characters, and a sequence for each other scalar.
use Rattle.std.proofs.Common.{◌≡◌, ◌+◌, ◌∷◌, [], ◌++◌, ◌&&◌, ℕ, List, Bool, map, take, chars, nat_eq, ap, sym, ◌∙◌}
use Rattle.std.specs.Char.{encode_utf8}
use Rattle.std.specs.Set.{is_member}
use Rattle.std.proofs.lemmas.List.{take_more, take_all}
use Rattle.spec_automata.specs.ByteExpressions.{ByteExpression, byte_in, either}
use Rattle.spec_automata.specs.Encoding.{bytes_that, is_ascii, literal, one_of_these, wide_scalars, without}
use Rattle.lbnf_regex.specs.declared.pattern.Pattern.TheVariants.{Bytes}
use Rattle.lbnf_regex.specs.ByteSets.{flag_at, kept_of}
use Rattle.lbnf_regex.specs.Patterns.{bytes_of_pattern}
use Rattle.lbnf_regex.proofs.PatternLemmas.{pattern-Alt, pattern-Bytes}
use Rattle.lbnf_regex.proofs.EncodingStepLemmas.{wide_more, without_each}
use Rattle.lbnf_regex.proofs.encoding.scalars_pattern.Goals as goal

pub loop-scalar-init : goal.loop-scalar-init
loop-scalar-init c =
    let one : c.push.new.self ≡ Bytes c.in_ok-ascii.ascii ∷ [] = rw c.new-parts.ensures at c.in_ok-push.ensures.ok in
    ap (map bytes_of_pattern) one
    ∙ ap (λ (z : ByteExpression). z ∷ [])
    (pattern-Bytes c.in_ok-ascii.ascii
    ∙ ap byte_in
    (c.in_ok-ascii.ensures
    ∙ ap (λ (z : List ℕ). kept_of c.args.removed.now (bytes_that (λ b. is_ascii b && is_member nat_eq z b)))
    (c.as_slice.ensures.value ∙ sym c.as_slice-scalar-items.ensures.value)))

pub loop-scalar-preserved : goal.loop-scalar-preserved
loop-scalar-preserved c =
    let items : List ℕ = c.as_slice-scalar-items.result.now in
    let i : ℕ = c.loop-scalar.scalar-index in
    let s : ℕ = c.scalar-item.result in
    let sequence : ℕ → ByteExpression = λ z. without (flag_at c.args.removed.now) (literal (encode_utf8 z)) in
    let first : ByteExpression =
    byte_in (kept_of c.args.removed.now (bytes_that (λ b. is_ascii b && is_member nat_eq items b))) in
    let cut : take (i + 1) items ≡ take i items ++ s ∷ [] =
    take_more items i s c.loop-scalar-test.true ∙ ap (λ (z : ℕ). take i items ++ z ∷ []) (sym c.scalar-item.is) in
    wide_more (flag_at c.args.removed.now) sequence first (take i items) s (map bytes_of_pattern c.loop-scalar.parts)
    (map bytes_of_pattern c.push_wide.new.parts) c.loop-scalar.invariant c.in_ok-push_wide.ensures
    ∙ ap (λ (z : List ℕ). first ∷ map sequence (wide_scalars z)) (sym cut)

pub returns : goal.returns
returns c =
    let items : List ℕ = c.as_slice-scalar-items.result.now in
    let t : ℕ → Bool = flag_at c.args.removed.now in
    let sequence : ℕ → ByteExpression = λ z. without t (literal (encode_utf8 z)) in
    let set : List ℕ → ByteExpression =
    λ z. byte_in (kept_of c.args.removed.now (bytes_that (λ b. is_ascii b && is_member nat_eq z b))) in
    let all : items ≡ chars c.args.name.now = c.as_slice-scalar-items.ensures.value ∙ c.in_ok-scalars.ensures in
    pattern-Alt c.loop-scalar.parts ∙ ap one_of_these c.loop-scalar.invariant
    ∙ ap (λ (z : List ℕ). either (set items) (one_of_these (map sequence (wide_scalars z))))
    (take_all c.loop-scalar.scalar-index items c.loop-scalar-test.false)
    ∙ ap (λ (z : List ℕ). either (set z) (one_of_these (map sequence (wide_scalars z)))) all
    ∙ ap (either (set (chars c.args.name.now)))
    (sym (without_each t (λ z. literal (encode_utf8 z)) (wide_scalars (chars c.args.name.now))))
