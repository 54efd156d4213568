use Rattle.std.proofs.Common.{◌≡◌, codes, true, false}
use Rattle.spec_lbnf.specs.declared.token.FileToken.{FileToken}
use Rattle.lbnf_readers.specs.FileReading.{is_word}
use Rattle.lbnf_text.proofs.ParsingLemmas.{separator_by}
use Rattle.lbnf_text.proofs.parser.Parser.def_by.Goals as goal

pub returns-then-is_word-3 : goal.returns-then-is_word-3
returns-then-is_word-3 c =
    let token : FileToken = c.args.first.now.token in
    let internal : is_word (codes "internal") token ≡ false = cc in
    let terminator : is_word (codes "terminator") token ≡ false = cc in
    let separator : is_word (codes "separator") token ≡ true = cc in
    let same = separator_by c.args.first.now c.args.behind.now internal terminator separator in
    rw (same, ← c.go_to-then-is_word-3.ensures) c.list_macro-then-is_word-3.ensures
