-- White space, the comments and the kinds in turn.
use Rattle.std.proofs.Common.{◌≡◌, ◌∷◌, [], ◌++◌, List, map, ap, ◌∙◌}
use Rattle.spec_lexing.specs.Kinds.{block_comment, line_comment, white}
use Rattle.spec_automata.specs.ByteExpressions.{ByteExpression}
use Rattle.spec_automata.specs.Encoding.{bytes_of_def, bytes_of_kind}
use Rattle.lbnf_regex.specs.Patterns.{bytes_of_pattern}
use Rattle.lbnf_regex.proofs.LexiconLemmas.{all_kinds}
use Rattle.lbnf_regex.proofs.kinds.patterns_of.Goals as goal

pub returns : goal.returns
returns c =
    let lines = c.args.lines.now in
    let blocks = c.args.blocks.now in
    let kinds = c.args.kinds.now in
    let first = c.in_ok-white.field-0 in
    let one : c.push.new.self ≡ first ∷ [] = rw c.new-patterns.ensures at c.in_ok-push.ensures.ok in
    let start : map bytes_of_pattern c.push.new.self ≡ bytes_of_kind white ∷ [] =
    ap (map bytes_of_pattern) one ∙ ap (λ (z : ByteExpression). z ∷ []) c.in_ok-white.ensures in
    c.in_ok-push_kinds.ensures
    ∙ ap (λ (z : List ByteExpression). z ++ map bytes_of_def kinds)
    (c.in_ok-push_blocks.ensures
    ∙ ap (λ (z : List ByteExpression). z ++ map (λ words. bytes_of_kind (block_comment words.0 words.1)) blocks)
    (c.in_ok-push_lines.ensures
    ∙ ap (λ (z : List ByteExpression). z ++ map (λ opening. bytes_of_kind (line_comment opening)) lines) start))
    ∙ all_kinds lines blocks kinds
