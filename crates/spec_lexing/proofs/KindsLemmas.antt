-- Tests of what the kinds of a lexicon match, and the lexer of a lexicon.
use Rattle.std.proofs.Common.{◌≡◌, ℕ, List, [], ◌∷◌, ◌++◌, length, Bool, true, false, ◌&&◌, not, nat_eq, refl, ap₂, subst, arith}
use Rattle.std.specs.Bool.{Decides}
use Rattle.std.specs.Str.{bytes_eq}
use Rattle.std.proofs.lemmas.Bool.Decides.{Decides-like, Decides-and, Decides-not, Decides-by_and}
use Rattle.std.proofs.lemmas.Slice.Eq.{bytes_eq-Decides}
use Rattle.spec_text.specs.Bytes.{is_white}
use Rattle.spec_lexing.specs.declared.kind_def.KindDef.{KindDef}
use Rattle.spec_lexing.specs.declared.kind_def.KindDef.TheVariants.{Word, Token as TokenDef}
use Rattle.spec_lexing.specs.declared.token.Token.{Token}
use Rattle.spec_lexing.specs.Expressions.{expression_of}
use Rattle.spec_lexing.specs.Lexicon.{Lexicon, lexicon_of}
use Rattle.spec_lexing.specs.Kinds.{LexKind, white, line_comment, block_comment, symbol, HasWordsAlone, IsOnLine, EndsFirst, MatchesDef, MatchesKind, token_kind, lex_kinds}
use Rattle.spec_lexing.specs.Tokens.{Match, tokens_of as tokens_of_matches, AreTokensOf}
use Rattle.spec_lexing.proofs.MatchingTests.{is_empty, is_empty-Decides, some_cut, HasCut, some_cut-Decides, matches as expression_matches, matches-Decides as expression_matches-Decides}
use Rattle.spec_lexing.proofs.LexerByTests.{matches_from, matches_are}

-- whether the bytes are one white byte
abbrev pub is_one_white : List ℕ → Bool
is_one_white [] = false
is_one_white (byte ∷ []) = is_white byte
is_one_white (byte ∷ second ∷ bytes) = false

is_one_white-Decides : (bytes : List ℕ) → Decides (is_one_white bytes) (MatchesKind white bytes)
is_one_white-Decides [] = (λ e. cc, λ m. let empty : [] ≡ m.0 ∷ [] = m.1 in cc)
is_one_white-Decides (byte ∷ []) =
    (λ e. (byte, refl, e), λ m. let same : byte ≡ m.0 = cc in rw same m.2)
is_one_white-Decides (byte ∷ second ∷ bytes) =
    (λ e. cc, λ m. let long : byte ∷ second ∷ bytes ≡ m.0 ∷ [] = m.1 in cc)

-- whether there is no LF among the bytes
abbrev pub is_on_line : List ℕ → Bool
is_on_line [] = true
is_on_line (byte ∷ bytes) = not (nat_eq byte 10) && is_on_line bytes

is_on_line-Decides : (bytes : List ℕ) → Decides (is_on_line bytes) (IsOnLine bytes)
is_on_line-Decides =
    Decides-by_and (λ byte. not (nat_eq byte 10)) (λ byte. nat_eq byte 10 ≡ false) is_on_line
    (λ byte. is_false (nat_eq byte 10)) refl (λ byte bytes. refl)
  where
    is_false : (b : Bool) → Decides (not b) (b ≡ false)
    is_false true = (λ e. cc, λ e. cc)
    is_false false = (λ _. refl, λ _. refl)

-- whether the closing text stands somewhere in the bytes with more behind it
abbrev pub closes_early : List ℕ → List ℕ → Bool
closes_early closing bytes =
    some_cut (λ before from. some_cut (λ here behind. bytes_eq here closing && not (is_empty behind)) from)
    bytes

-- the closing text stands somewhere in the bytes with more behind it
abbrev ClosesEarly : List ℕ → List ℕ → Type 0
ClosesEarly closing bytes =
    HasCut (λ before from. HasCut (λ here behind. (here ≡ closing) × (behind ≡ [] → ⊥)) from) bytes

closes_early-Decides : (closing bytes : List ℕ) → Decides (closes_early closing bytes) (ClosesEarly closing bytes)
closes_early-Decides closing bytes =
    some_cut-Decides (λ before from. HasCut (λ here behind. (here ≡ closing) × (behind ≡ [] → ⊥)) from)
    (λ before from. some_cut (λ here behind. bytes_eq here closing && not (is_empty behind)) from) bytes
    (λ before from e.
    some_cut-Decides (λ here behind. (here ≡ closing) × (behind ≡ [] → ⊥))
    (λ here behind. bytes_eq here closing && not (is_empty behind)) from
    (λ here behind f. Decides-and (bytes_eq here closing) (not (is_empty behind))
    (bytes_eq-Decides here closing) (Decides-not (is_empty behind) (is_empty-Decides behind))))

-- whether the closing text stands at the end of the bytes, and nowhere before
abbrev pub ends_first : List ℕ → List ℕ → Bool
ends_first bytes closing =
    some_cut (λ inside end. bytes_eq end closing) bytes && not (closes_early closing bytes)

ends_first-Decides : (bytes closing : List ℕ) → Decides (ends_first bytes closing) (EndsFirst bytes closing)
ends_first-Decides bytes closing =
    Decides-like (ends_first bytes closing) to from
    (Decides-and (some_cut (λ inside end. bytes_eq end closing) bytes) (not (closes_early closing bytes))
    (some_cut-Decides (λ inside end. end ≡ closing) (λ inside end. bytes_eq end closing) bytes
    (λ inside end e. bytes_eq-Decides end closing))
    (Decides-not (closes_early closing bytes) (closes_early-Decides closing bytes)))
  where
    last : (behind : List ℕ) (early : Bool) → is_empty behind ≡ early → (early ≡ false → ⊥) → behind ≡ []
    last behind true e not_early = (is_empty-Decides behind).0 e
    last behind false e not_early = absurd (not_early refl)

    to : HasCut (λ inside end. end ≡ closing) bytes × (ClosesEarly closing bytes → ⊥) → EndsFirst bytes closing
    to ((inside, end, e, is), never) = record {
      inside = inside;
      whole = rw is at e;
      first = λ before behind f.
          last behind (is_empty behind) refl
          (λ early. never (
            before,
            closing ++ behind,
            f,
            (
              closing,
              behind,
              refl,
              (
                refl,
                λ none.
                    let full : is_empty behind ≡ true = (is_empty-Decides behind).1 none in cc,
              ),
            ),
          ));
    }

    from : EndsFirst bytes closing → HasCut (λ inside end. end ≡ closing) bytes × (ClosesEarly closing bytes → ⊥)
    from ends = (
      (ends.inside, closing, ends.whole, refl),
      λ early. early.3.3.1 (ends.first early.0 early.3.1
          (let front : early.1 ≡ closing ++ early.3.1 = rw early.3.3.0 at early.3.2 in rw front at early.2)),
    )

-- whether the kind of the lexicon matches the bytes
abbrev pub matches_def : KindDef → List ℕ → Bool
matches_def (Word word) bytes = bytes_eq bytes word
matches_def (TokenDef name expr) bytes = expression_matches (expression_of expr) bytes

matches_def-Decides : (kind : KindDef) (bytes : List ℕ) → Decides (matches_def kind bytes) (MatchesDef kind bytes)
matches_def-Decides (Word word) bytes = bytes_eq-Decides bytes word
matches_def-Decides (TokenDef name expr) bytes = expression_matches-Decides (expression_of expr) bytes

-- whether the kind matches the bytes
abbrev pub matches : LexKind → List ℕ → Bool
matches white bytes = is_one_white bytes
matches (line_comment opening) bytes =
    some_cut (λ front rest. bytes_eq front opening && is_on_line rest) bytes
matches (block_comment opening closing) bytes =
    some_cut (λ front rest. bytes_eq front opening && ends_first rest closing) bytes
matches (symbol number kind) bytes = matches_def kind bytes

-- bytes that are an opening text and a rest with a property
opened-Decides : (opening : List ℕ) (Rest : List ℕ → Type 0) (test : List ℕ → Bool) →
    ((rest : List ℕ) → Decides (test rest) (Rest rest)) → (bytes : List ℕ) →
    Decides (some_cut (λ front rest. bytes_eq front opening && test rest) bytes)
    ((rest : List ℕ) × (bytes ≡ opening ++ rest) × Rest rest)
opened-Decides opening Rest test each bytes =
    Decides-like (some_cut (λ front rest. bytes_eq front opening && test rest) bytes)
    (λ h. (h.1, rw h.3.0 at h.2, h.3.1)) (λ h. (opening, h.0, h.1, (refl, h.2)))
    (some_cut-Decides (λ front rest. (front ≡ opening) × Rest rest)
    (λ front rest. bytes_eq front opening && test rest) bytes
    (λ front rest e. Decides-and (bytes_eq front opening) (test rest) (bytes_eq-Decides front opening) (each rest)))

pub matches-Decides : (kind : LexKind) (bytes : List ℕ) → Decides (matches kind bytes) (MatchesKind kind bytes)
matches-Decides white bytes = is_one_white-Decides bytes
matches-Decides (line_comment opening) bytes =
    opened-Decides opening IsOnLine is_on_line is_on_line-Decides bytes
matches-Decides (block_comment opening closing) bytes =
    opened-Decides opening (λ rest. EndsFirst rest closing) (λ rest. ends_first rest closing)
    (λ rest. ends_first-Decides rest closing) bytes
matches-Decides (symbol number kind) bytes = matches_def-Decides kind bytes

-- the matches of the text under the lexicon, and its tokens
abbrev pub matches_of : Lexicon → List ℕ → List (Match LexKind)
matches_of lexicon text = matches_from matches (lex_kinds lexicon) text (length text) 0

abbrev pub tokens_of : Lexicon → List ℕ → List Token
tokens_of lexicon text = tokens_of_matches token_kind (matches_of lexicon text)

-- these are the tokens of the text
are_tokens : (lexicon : Lexicon) (text : List ℕ) → AreTokensOf lexicon text (tokens_of lexicon text)
are_tokens lexicon text = record {
  matches = matches_of lexicon text;
  are_matches =
      matches_are MatchesKind matches matches-Decides (lex_kinds lexicon) text (length text) 0
      (omega arith) (omega arith);
  kept = refl;
}

-- the text has tokens
pub some_tokens : (lexicon : Lexicon) (text : List ℕ) → (tokens : List Token) × AreTokensOf lexicon text tokens
some_tokens lexicon text = (tokens_of lexicon text, are_tokens lexicon text)

-- what the lexer gives are the tokens of the text
pub tokens_of_is : (lexicon : Lexicon) (text : List ℕ) (tokens : List Token) →
    tokens_of lexicon text ≡ tokens → AreTokensOf lexicon text tokens
tokens_of_is lexicon text tokens e = subst (AreTokensOf lexicon text) e (are_tokens lexicon text)

-- a lexicon of words alone is that of its kinds
pub lexicon_of_words : (lexicon : Lexicon) → HasWordsAlone lexicon → lexicon ≡ lexicon_of lexicon.kinds
lexicon_of_words lexicon words =
    ap₂ (λ lines blocks. record { line_comments = lines; block_comments = blocks; kinds = lexicon.kinds })
    words.no_lines words.no_blocks
