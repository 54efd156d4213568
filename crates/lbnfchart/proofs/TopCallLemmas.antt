-- Laws of the words: one word is `serve` just where its bytes are, and no other number of words is.
use native.Mathlib.Omega.{arith}
use Rattle.std.proofs.Common.{◌≡◌, ◌↔◌, ℕ, ◌<◌, ◌≤◌, Bool, List, [], ◌∷◌, length, slice_index_or, suc, refl, ap, sym, ◌∙◌}
use Rattle.std.proofs.lemmas.Slice.Eq.{bytes_eq-Decides}
use Rattle.std.specs.Prelude.{IsTrue, String, bytes_eq, string_bytes, codes}
use Rattle.std.specs.declared.alloc.Global.{Global}
use Rattle.lbnfchart.specs.TopCall.{word_bytes, IsServe}

-- there are as many lists of bytes as words
pub length-word_bytes : (words : List (String Global)) → length (word_bytes words) ≡ length words
length-word_bytes [] = refl
length-word_bytes (word ∷ words) = ap suc (length-word_bytes words)

-- where the words are `serve`, there is one
pub one_word_serves : (words : List (String Global)) → IsServe words → length words ≡ 1
one_word_serves words serves = sym (length-word_bytes words) ∙ ap length serves

-- one word is `serve` just where its bytes are
pub word_bytes-one :
    (words : List (String Global)) (word : String Global) → 1 ≤ length words → length words < 2
    → word ≡ slice_index_or words 0 word → word_bytes words ≡ string_bytes word ∷ []
word_bytes-one [] word some few is = absurd (omega arith)
word_bytes-one (only ∷ []) word some few is = cc
word_bytes-one (first ∷ second ∷ words) word some few is = absurd (omega arith)

-- the test of its bytes says so
pub is_serve_of_one :
    (words : List (String Global)) (word : String Global) (text : List ℕ) (answer : Bool)
    → 1 ≤ length words → length words < 2 → word ≡ slice_index_or words 0 word
    → text ≡ string_bytes word → answer ≡ bytes_eq text (codes "serve") → IsTrue answer ↔ IsServe words
is_serve_of_one words word text answer some few is same tested =
    let one : word_bytes words ≡ string_bytes word ∷ [] = word_bytes-one words word some few is in
    let decides = bytes_eq-Decides text (codes "serve") in (
      (λ yes. let bytes : text ≡ codes "serve" = decides.0 (sym tested ∙ yes) in cc),
      (λ serves.
          let bytes : string_bytes word ≡ codes "serve" = grind arith in tested ∙ decides.1 (same ∙ bytes)),
    )
