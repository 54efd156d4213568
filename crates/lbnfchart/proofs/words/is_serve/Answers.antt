use Rattle.lbnfchart.proofs.TopCallLemmas.{is_serve_of_one}
use Rattle.lbnfchart.proofs.words.is_serve.Goals as goal

pub returns : goal.returns
returns c =
    is_serve_of_one c.args.words.now c.word-item.result c.as_str.result.now c.eq.result
    c.in-len1.len_at_least c.in-len1.len_below c.word-item.is c.as_str.ensures.value c.eq.ensures
