-- The reader of a definition tells of the definition that the tokens spell.
use Rattle.std.proofs.Common.{◌≡◌, ℕ, ◌<◌, List, [], ◌∷◌, ◌++◌, length, cond, inl, inr, Bool, true, false, codes, refl, sym, ap, subst, ◌∙◌, arith}
use Rattle.std.specs.List.{AllByRecursion}
use Rattle.std.specs.Str.{bytes_eq}
use Rattle.std.proofs.lemmas.Bool.{false≢true}
use Rattle.std.proofs.lemmas.List.Elements.{All-from_recursion, recursion_from_All}
use Rattle.std.proofs.lemmas.Slice.Eq.{bytes_eq-Decides}
use Rattle.spec_grammar.specs.declared.rule.Label.{Label}
use Rattle.spec_grammar.specs.declared.rule.Label.TheVariants.{Named, Wild, Nil, Cons, One}
use Rattle.spec_lbnf.specs.declared.definition.CatName.{CatName}
use Rattle.spec_lbnf.specs.declared.definition.Def.{Def}
use Rattle.spec_lbnf.specs.declared.definition.Def.TheVariants.{Rule, Internal, Terminator, Separator, Coercions, Entry, Token, LineComment, BlockComment}
use Rattle.spec_lbnf.specs.declared.token.Sign.TheVariants.{OpenBracket, OpenParen, Underscore}
use Rattle.spec_lbnf.specs.declared.token.FileToken.{FileToken}
use Rattle.spec_lbnf.specs.declared.token.FileToken.TheVariants.{Identifier, Number, Text, Character}
use Rattle.spec_lbnf.specs.declared.token.FileToken.TheVariants.{Sign as SignToken}
use Rattle.spec_lbnf.specs.declared.token.PlacedToken.{PlacedToken}
use Rattle.spec_lbnf.specs.GrammarFile.{starts_upper}
use Rattle.spec_lbnf.specs.GrammarFile.{IsCategory, IsLabel, IsUpperName, label_tokens, category_tokens, entry_tokens, nonempty_tokens, position_tokens, keyword, SpellsRule, SpellsDef}
use Rattle.spec_lbnf.specs.TokenExpressions.{SpellsExpr}
use Rattle.lbnf_readers.specs.FileReading.{Read, next_on, ◌>>=◌, pure, to_end, is_word, rule_at, list_macro_at, coercions_at, entries_at, token_at, position_at, comment_at, def_by, def_at}
use Rattle.lbnf_readers.proofs.TokenTestLemmas.{word_true, upper_some, upper_has}
use Rattle.lbnf_readers.proofs.ReaderLemmas.{Spelling, IsNothing, GoesOn, Tells, Then, Gives, AtEnd, HaveShortNames, nothing_front, stuck_here, change_tells, then_tells, then_got, gives_tells, end_some, end_tells, to_end_tells, one_token}
use Rattle.lbnf_readers.proofs.RuleLemmas.{RuleOf, one_rule, some_rule, rule_tells}
use Rattle.lbnf_readers.proofs.FormLemmas.{WordOf, word_got, word_of, ListMacroOf, one_list_macro, list_macro_tells, CoercionsOf, one_coercions, coercions_tell, EntriesOf, one_entries, entries_tell}
use Rattle.lbnf_readers.proofs.ExpressionLemmas.{one_expression, TokenRest, token_rest_tells, PositionRest, position_rest_tells, filled_some, filled_is, CommentEnd, CommentRest, comment_rest_tells}

-- the tokens are a definition, and nothing is behind it
abbrev pub DefOf : Spelling Def
DefOf def tokens rest = SpellsDef def tokens × (rest ≡ [])

-- the number of a form of definition
abbrev def_kind : Def → ℕ
def_kind (Rule rule) = 0
def_kind (Internal rule) = 1
def_kind (Terminator nonempty cat word) = 2
def_kind (Separator nonempty cat word) = 3
def_kind (Coercions name levels) = 4
def_kind (Entry cats) = 5
def_kind (Token name expr) = 6
def_kind (LineComment opening) = 7
def_kind (BlockComment opening closing) = 7

-- the number of the form that begins with this word
abbrev word_kind : List ℕ → ℕ
word_kind word =
    cond (bytes_eq word (codes "internal")) 1
    (cond (bytes_eq word (codes "terminator")) 2
    (cond (bytes_eq word (codes "separator")) 3
    (cond (bytes_eq word (codes "coercions")) 4
    (cond (bytes_eq word (codes "entrypoints")) 5
    (cond (bytes_eq word (codes "token")) 6
    (cond (bytes_eq word (codes "position")) 6
    (cond (bytes_eq word (codes "comment")) 7 0)))))))

-- the number of the form that begins with this token
abbrev token_kind : FileToken → ℕ
token_kind (Identifier name) = word_kind name
token_kind other = 0

-- an upper-case name is no word of the notation
upper_differs : (name word : List ℕ) → IsUpperName name → starts_upper word ≡ false → bytes_eq name word ≡ false
upper_differs name word upper lower = by (bytes_eq name word) refl
  where
    by : (b : Bool) → bytes_eq name word ≡ b → b ≡ false
    by false e = refl
    by true e =
        let same : name ≡ word = (bytes_eq-Decides name word).0 e in
        absurd (false≢true (sym lower ∙ ap starts_upper (sym same) ∙ upper))

-- an upper-case name begins a rule
upper_kind : (name : List ℕ) → IsUpperName name → word_kind name ≡ 0
upper_kind name upper =
    rw (
      upper_differs name (codes "internal") upper refl,
      upper_differs name (codes "terminator") upper refl,
      upper_differs name (codes "separator") upper refl,
      upper_differs name (codes "coercions") upper refl,
      upper_differs name (codes "entrypoints") upper refl,
      upper_differs name (codes "token") upper refl,
      upper_differs name (codes "position") upper refl,
      upper_differs name (codes "comment") upper refl,
    ) refl

-- a label begins a rule
label_kind : (label : Label) (others more : List FileToken) (token : FileToken) → IsLabel label
    → label_tokens label ++ others ≡ token ∷ more → token_kind token ≡ 0
label_kind (Named name) others more token is e =
    let same : token ≡ Identifier name = cc e in ap token_kind same ∙ upper_kind name is
label_kind Wild others more token is e = let same : token ≡ SignToken Underscore = cc e in ap token_kind same
label_kind Nil others more token is e = let same : token ≡ SignToken OpenBracket = cc e in ap token_kind same
label_kind Cons others more token is e = let same : token ≡ SignToken OpenParen = cc e in ap token_kind same
label_kind One others more token is e = let same : token ≡ SignToken OpenParen = cc e in ap token_kind same

-- a label has a token
label_some : (label : Label) (others : List FileToken) → label_tokens label ++ others ≡ [] → ⊥
label_some (Named name) others e = cc e
label_some Wild others e = cc e
label_some Nil others e = cc e
label_some Cons others e = cc e
label_some One others e = cc e

-- a definition has a token
pub def_some : (def : Def) → SpellsDef def [] → ⊥
def_some (Rule rule) is = label_some rule.label _ (sym is.whole)
def_some (Internal rule) is = cc is.2
def_some (Terminator nonempty cat word) is = cc is.1
def_some (Separator nonempty cat word) is = cc is.1
def_some (Coercions name levels) is = cc is.1
def_some (Entry cats) is = cc is.2
def_some (Token name expr) is = by is.position is.whole
  where
    by : (position : Bool) → [] ≡ position_tokens position ++ (keyword (codes "token") ∷ Identifier name ∷ is.own) → ⊥
    by true e = cc e
    by false e = cc e
def_some (LineComment opening) is = cc is.1
def_some (BlockComment opening closing) is = cc is.2

-- the first token of a definition tells its form
spelled_kind : (def : Def) (tokens more : List FileToken) (token : FileToken) → SpellsDef def tokens → tokens ≡ token ∷ more
    → token_kind token ≡ def_kind def
spelled_kind (Rule rule) tokens more token is e = label_kind rule.label _ more token is.is_label (sym is.whole ∙ e)
spelled_kind (Internal rule) tokens more token is e =
    let same : token ≡ keyword (codes "internal") = cc (is.2, e) in ap token_kind same
spelled_kind (Terminator nonempty cat word) tokens more token is e =
    let same : token ≡ keyword (codes "terminator") = cc (is.1, e) in ap token_kind same
spelled_kind (Separator nonempty cat word) tokens more token is e =
    let same : token ≡ keyword (codes "separator") = cc (is.1, e) in ap token_kind same
spelled_kind (Coercions name levels) tokens more token is e =
    let same : token ≡ keyword (codes "coercions") = cc (is.1, e) in ap token_kind same
spelled_kind (Entry cats) tokens more token is e =
    let same : token ≡ keyword (codes "entrypoints") = cc (is.2, e) in ap token_kind same
spelled_kind (Token name expr) tokens more token is e = by is.position (sym e ∙ is.whole)
  where
    by : (position : Bool) → token ∷ more ≡ position_tokens position ++ (keyword (codes "token") ∷ Identifier name ∷ is.own)
        → token_kind token ≡ 6
    by true e = let same : token ≡ keyword (codes "position") = cc e in ap token_kind same
    by false e = let same : token ≡ keyword (codes "token") = cc e in ap token_kind same
spelled_kind (LineComment opening) tokens more token is e =
    let same : token ≡ keyword (codes "comment") = cc (is.1, e) in ap token_kind same
spelled_kind (BlockComment opening closing) tokens more token is e =
    let same : token ≡ keyword (codes "comment") = cc (is.2, e) in ap token_kind same

-- behind `internal`: a rule
abbrev InternalRest : Spelling Def
InternalRest = Gives Internal RuleOf

-- behind the first word of a macro: a macro of lists, and nothing more
abbrev MacroRest : (Bool → CatName → List ℕ → Def) → Spelling Def
MacroRest def_of = Then (ListMacroOf def_of) AtEnd

-- behind `coercions`: a name and a number, and nothing more
abbrev CoercionsRest : Spelling Def
CoercionsRest = Then CoercionsOf AtEnd

-- behind `entrypoints`: categories
abbrev EntryRest : Spelling Def
EntryRest = Gives Entry EntriesOf

-- the tokens behind a word are these
abbrev IsBehind : List ℕ → Spelling Def → Type 0
IsBehind word next =
    (def : Def) (more rest : List FileToken) → next def more rest → DefOf def (Identifier word ∷ more) rest

-- a definition that begins with the word is the word and these
abbrev HasBehind : List ℕ → Spelling Def → Type 0
HasBehind word next =
    (def : Def) (more rest : List FileToken) → DefOf def (Identifier word ∷ more) rest → next def more rest

-- where what is behind the first word is read, the definition is
word_tells : (word : List ℕ) (next : Spelling Def) (token : PlacedToken) (tokens : List PlacedToken) (y : Read Def)
    → is_word word token.token ≡ true → HaveShortNames (token ∷ tokens) → IsBehind word next → HasBehind word next
    → Tells IsNothing next tokens y → Tells IsNothing DefOf (token ∷ tokens) y
word_tells word next token tokens y is short forth back tells =
    let same : token.token ≡ Identifier word = word_true word token.token is in
    change_tells IsNothing (Then (WordOf word) (λ done. next)) DefOf (token ∷ tokens) y
    (λ def others rest parts.
    let head = word_of word parts.2.0 parts.0 parts.2.1 in
    let whole : others ≡ Identifier word ∷ parts.1 = parts.2.2 ∙ ap (λ t. t ∷ parts.1) head in
    let Are : List FileToken → Type 0 = λ ts. DefOf def ts rest in
    subst Are (sym whole) (forth def parts.1 rest parts.3))
    (λ def others rest follows spelled.
    let whole : others ≡ Identifier word ∷ follows.0 = follows.1 ∙ ap (λ t. t ∷ follows.0) same in
    let Are : List FileToken → Type 0 = λ ts. DefOf def ts rest in
    (tt, follows.0, (token.token, rw is refl, follows.1), back def follows.0 rest (subst Are whole spelled)))
    (then_got IsNothing (WordOf word) (λ done. next) tt (token ∷ tokens) tokens (one_token _) (word_got word token tokens is short) y tells)

-- the form is that of the first word
kind_of_word : (def : Def) (word : List ℕ) (more rest : List FileToken) → DefOf def (Identifier word ∷ more) rest
    → word_kind word ≡ def_kind def
kind_of_word def word more rest is = spelled_kind def (Identifier word ∷ more) more (Identifier word) is.0 refl

-- an internal rule is the word and a rule
internal_forth : IsBehind (codes "internal") InternalRest
internal_forth def more rest is =
    let Are : Def → Type 0 = λ d. DefOf d (keyword (codes "internal") ∷ more) rest in
    subst Are (sym is.1) ((more, is.2.0, refl), is.2.1)

-- nothing else is an internal rule
internal_back : HasBehind (codes "internal") InternalRest
internal_back (Internal rule) more rest is =
    let same : is.0.0 ≡ more = cc is.0.2 in
    (rule, refl, (subst (SpellsRule rule) same is.0.1, is.1))
internal_back def more rest is = absurd (omega (arith, kind_of_word def (codes "internal") more rest is))

-- the parts of a macro of lists up to the end
macro_parts : (def_of : Bool → CatName → List ℕ → Def) (nonempty : Bool) (cat : CatName) (word : List ℕ) (more rest : List FileToken)
    → IsCategory cat → more ≡ nonempty_tokens nonempty ++ (category_tokens cat ++ (Text word ∷ [])) → rest ≡ []
    → MacroRest def_of (def_of nonempty cat word) more rest
macro_parts def_of nonempty cat word more rest is whole none =
    (def_of nonempty cat word, [], (nonempty, cat, word, is, refl, whole), (refl, refl, none))

-- what stands behind a macro's text is nothing
macro_whole : (def_of : Bool → CatName → List ℕ → Def) (def : Def) (more rest : List FileToken) (is : MacroRest def_of def more rest)
    → more ≡ nonempty_tokens is.2.0 ++ (category_tokens is.2.1 ++ (Text is.2.2 ∷ []))
macro_whole def_of def more rest is =
    is.2.5 ∙ ap (λ zs. nonempty_tokens is.2.0 ++ (category_tokens is.2.1 ++ (Text is.2.2 ∷ zs))) is.3.1

-- a terminator is the word and a macro of lists
terminator_forth : IsBehind (codes "terminator") (MacroRest Terminator)
terminator_forth def more rest is =
    let Are : Def → Type 0 = λ d. DefOf d (keyword (codes "terminator") ∷ more) rest in
    let whole = macro_whole Terminator def more rest is in
    subst Are (sym (is.3.0 ∙ is.2.4)) ((is.2.3, ap (λ zs. keyword (codes "terminator") ∷ zs) whole), is.3.2)

-- nothing else is a terminator
terminator_back : HasBehind (codes "terminator") (MacroRest Terminator)
terminator_back (Terminator nonempty cat word) more rest is =
    macro_parts Terminator nonempty cat word more rest is.0.0 (cc is.0.1) is.1
terminator_back def more rest is = absurd (omega (arith, kind_of_word def (codes "terminator") more rest is))

-- and so is a separator
separator_forth : IsBehind (codes "separator") (MacroRest Separator)
separator_forth def more rest is =
    let Are : Def → Type 0 = λ d. DefOf d (keyword (codes "separator") ∷ more) rest in
    let whole = macro_whole Separator def more rest is in
    subst Are (sym (is.3.0 ∙ is.2.4)) ((is.2.3, ap (λ zs. keyword (codes "separator") ∷ zs) whole), is.3.2)

-- nothing else is a separator
separator_back : HasBehind (codes "separator") (MacroRest Separator)
separator_back (Separator nonempty cat word) more rest is =
    macro_parts Separator nonempty cat word more rest is.0.0 (cc is.0.1) is.1
separator_back def more rest is = absurd (omega (arith, kind_of_word def (codes "separator") more rest is))

-- coercions are the word, a name and a number
coercions_forth : IsBehind (codes "coercions") CoercionsRest
coercions_forth def more rest is =
    let Are : Def → Type 0 = λ d. DefOf d (keyword (codes "coercions") ∷ more) rest in
    let whole : more ≡ Identifier is.2.0 ∷ Number is.2.1 ∷ [] = is.2.4 ∙ ap (λ zs. Identifier is.2.0 ∷ Number is.2.1 ∷ zs) is.3.1 in
    subst Are (sym (is.3.0 ∙ is.2.3)) ((is.2.2, ap (λ zs. keyword (codes "coercions") ∷ zs) whole), is.3.2)

-- nothing else is a definition of coercions
coercions_back : HasBehind (codes "coercions") CoercionsRest
coercions_back (Coercions name levels) more rest is =
    (Coercions name levels, [], (name, levels, is.0.0, refl, cc is.0.1), (refl, refl, is.1))
coercions_back def more rest is = absurd (omega (arith, kind_of_word def (codes "coercions") more rest is))

-- entry points are the word and categories
entry_forth : IsBehind (codes "entrypoints") EntryRest
entry_forth def more rest is =
    let Are : Def → Type 0 = λ d. DefOf d (keyword (codes "entrypoints") ∷ more) rest in
    let each = All-from_recursion IsCategory is.0 is.2.1 in
    subst Are (sym is.1) ((is.2.0, each, ap (λ zs. keyword (codes "entrypoints") ∷ zs) is.2.2), is.2.3)

-- nothing else is one of entry points
entry_back : HasBehind (codes "entrypoints") EntryRest
entry_back (Entry cats) more rest is =
    (cats, refl, (is.0.0, recursion_from_All IsCategory cats is.0.1, cc is.0.2, is.1))
entry_back def more rest is = absurd (omega (arith, kind_of_word def (codes "entrypoints") more rest is))

-- a kind of token is the word, a name and an expression
token_forth : IsBehind (codes "token") TokenRest
token_forth def more rest is =
    let Are : Def → Type 0 = λ d. DefOf d (keyword (codes "token") ∷ more) rest in
    let upper = upper_some is.2.0 is.0 is.2.1 in
    subst Are (sym is.3.1) (
      record {
        is_name = upper.1;
        position = false;
        own = is.1;
        spelled = is.3.2.0;
        whole = ap (λ zs. keyword (codes "token") ∷ zs) (is.2.2 ∙ ap (λ t. t ∷ is.1) upper.0);
      },
      is.3.2.1,
    )

-- nothing else is a kind of token
token_back : HasBehind (codes "token") TokenRest
token_back (Token name expr) more rest is = by is.0.position is.0.whole
  where
    by : (position : Bool)
        → keyword (codes "token") ∷ more ≡ position_tokens position ++ (keyword (codes "token") ∷ Identifier name ∷ is.0.own)
        → TokenRest (Token name expr) more rest
    by true e = absurd (cc e)
    by false e =
        (name, is.0.own, (Identifier name, upper_has name is.0.is_name, cc e), (expr, refl, (is.0.spelled, is.1)))
token_back def more rest is = absurd (omega (arith, kind_of_word def (codes "token") more rest is))

-- and so is `position` before it
position_forth : IsBehind (codes "position") PositionRest
position_forth def more rest is =
    let Are : Def → Type 0 = λ d. DefOf d (keyword (codes "position") ∷ more) rest in
    let inner = is.3 in
    let word = word_of (codes "token") is.2.0 is.0 is.2.1 in
    let upper = upper_some inner.2.0 inner.0 inner.2.1 in
    let tokens : is.1 ≡ Identifier inner.0 ∷ inner.1 = inner.2.2 ∙ ap (λ t. t ∷ inner.1) upper.0 in
    subst Are (sym inner.3.1) (
      record {
        is_name = upper.1;
        position = true;
        own = inner.1;
        spelled = inner.3.2.0;
        whole = ap (λ zs. keyword (codes "position") ∷ zs) (is.2.2 ∙ (λ i. word i ∷ tokens i));
      },
      inner.3.2.1,
    )

-- nothing else begins so
position_back : HasBehind (codes "position") PositionRest
position_back (Token name expr) more rest is = by is.0.position is.0.whole
  where
    by : (position : Bool)
        → keyword (codes "position") ∷ more ≡ position_tokens position ++ (keyword (codes "token") ∷ Identifier name ∷ is.0.own)
        → PositionRest (Token name expr) more rest
    by true e = (
      tt,
      Identifier name ∷ is.0.own,
      (keyword (codes "token"), refl, cc e),
      (name, is.0.own, (Identifier name, upper_has name is.0.is_name, refl), (expr, refl, (is.0.spelled, is.1))),
    )
    by false e = absurd (cc e)
position_back def more rest is = absurd (omega (arith, kind_of_word def (codes "position") more rest is))

-- a comment is the word and one text or two
comment_forth : IsBehind (codes "comment") CommentRest
comment_forth def more rest is = by is.3
  where
    Are : Def → Type 0
    Are d = DefOf d (keyword (codes "comment") ∷ more) rest

    opening : (is.2.0 ≡ Text is.0) × (0 < length is.0)
    opening = filled_some is.2.0 is.0 is.2.1

    by : CommentEnd is.0 def is.1 rest → DefOf def (keyword (codes "comment") ∷ more) rest
    by (inl line) =
        let whole : more ≡ Text is.0 ∷ [] = is.2.2 ∙ (λ i. opening.0 i ∷ line.1 i) in
        subst Are (sym line.0) ((opening.1, ap (λ zs. keyword (codes "comment") ∷ zs) whole), line.2)
    by (inr block) =
        let whole : more ≡ Text is.0 ∷ Text block.0 ∷ [] = is.2.2 ∙ (λ i. opening.0 i ∷ block.3 i) in
        subst Are (sym block.2) ((opening.1, block.1, ap (λ zs. keyword (codes "comment") ∷ zs) whole), block.4)

-- nothing else is a comment
comment_back : HasBehind (codes "comment") CommentRest
comment_back (LineComment opening) more rest is =
    (opening, [], (Text opening, filled_is opening is.0.0, cc is.0.1), inl (refl, refl, is.1))
comment_back (BlockComment opening closing) more rest is =
    (opening, Text closing ∷ [], (Text opening, filled_is opening is.0.0, cc is.0.2), inr (closing, is.0.1, refl, refl, is.1))
comment_back def more rest is = absurd (omega (arith, kind_of_word def (codes "comment") more rest is))

-- some definition can be read
pub some_def : GoesOn IsNothing DefOf []
some_def = (Rule some_rule.0, some_rule.1, λ others none. some_rule.2 others none)

-- a definition of another first token is a rule
rule_back : (def : Def) (token : FileToken) (tokens more rest : List FileToken) → tokens ≡ token ∷ more
    → token_kind token ≡ 0 → DefOf def tokens rest → Gives Rule RuleOf def tokens rest
rule_back (Rule rule) token tokens more rest begins kind is = (rule, refl, is)
rule_back def token tokens more rest begins kind is =
    absurd (omega (arith, kind, spelled_kind def tokens more token is.0 begins))

-- the token is none of the words
abbrev IsNone : List (List ℕ) → FileToken → Type 0
IsNone words token = AllByRecursion (λ word. is_word word token ≡ false) words

-- a token that is none of the first words begins a rule
no_word_kind : (token : FileToken)
    → IsNone (codes "comment" ∷ codes "position" ∷ codes "token" ∷ codes "entrypoints" ∷ codes "coercions" ∷ codes "separator" ∷ codes "terminator" ∷ codes "internal" ∷ []) token
    → token_kind token ≡ 0
no_word_kind (Identifier name) (h, (g, (f, (e, (d, (c, (b, (a, end)))))))) = rw (a, b, c, d, e, f, g, h) refl
no_word_kind (Number value) none = refl
no_word_kind (Text value) none = refl
no_word_kind (Character scalar) none = refl
no_word_kind (SignToken sign) none = refl

module _ (token : PlacedToken) (tokens : List PlacedToken) (short : HaveShortNames (token ∷ tokens)) where
  -- the reader of a rule, where no first word of another form stands
  plain_tells : token_kind token.token ≡ 0
      → Tells IsNothing DefOf (token ∷ tokens) (next_on to_end ((rule_at >>= (λ rule. pure (Rule rule))) (token ∷ tokens)))
  plain_tells kind =
      change_tells IsNothing (Gives Rule RuleOf) DefOf (token ∷ tokens) _
      (λ def others rest is.
      let Are : Def → Type 0 = λ d. DefOf d others rest in subst Are (sym is.1) is.2)
      (λ def others rest follows is. rule_back def token.token others follows.0 rest follows.1 kind is)
      (to_end_tells (Gives Rule RuleOf) (token ∷ tokens) _
      (gives_tells IsNothing RuleOf Rule (token ∷ tokens) (rule_at (token ∷ tokens)) (rule_tells (token ∷ tokens) short)))

  -- the reader of a rule behind `internal`
  internal_tells : Tells IsNothing InternalRest tokens (next_on to_end ((rule_at >>= (λ rule. pure (Internal rule))) tokens))
  internal_tells =
      to_end_tells InternalRest tokens _
      (gives_tells IsNothing RuleOf Internal tokens (rule_at tokens) (rule_tells tokens short.1))

  -- the reader of a macro of lists behind its first word
  macro_rest_tells : (def_of : Bool → CatName → List ℕ → Def)
      → Tells IsNothing (MacroRest def_of) tokens (next_on to_end (list_macro_at def_of tokens))
  macro_rest_tells def_of =
      then_tells IsNothing (ListMacroOf def_of) AtEnd tokens to_end (one_list_macro def_of) end_some
      (λ def rest is. end_tells def rest) (list_macro_at def_of tokens) (list_macro_tells def_of tokens short.1)

  -- the reader of coercions behind their first word
  coercions_rest_tell : Tells IsNothing CoercionsRest tokens (next_on to_end (coercions_at tokens))
  coercions_rest_tell =
      then_tells IsNothing CoercionsOf AtEnd tokens to_end one_coercions end_some
      (λ def rest is. end_tells def rest) (coercions_at tokens) (coercions_tell tokens short.1)

  -- the reader of entry points behind their first word
  entry_rest_tells : Tells IsNothing EntryRest tokens (next_on to_end ((entries_at >>= (λ cats. pure (Entry cats))) tokens))
  entry_rest_tells =
      to_end_tells EntryRest tokens _
      (gives_tells IsNothing EntriesOf Entry tokens (entries_at tokens) (entries_tell tokens short.1))

  -- the reader of a rule, and those that try a first word before it
  abbrev rule_or : Read Def
  rule_or = (rule_at >>= (λ rule. pure (Rule rule))) (token ∷ tokens)

  abbrev comment_or : Read Def
  comment_or = cond (is_word (codes "comment") token.token) (comment_at tokens) rule_or

  abbrev position_or : Read Def
  position_or = cond (is_word (codes "position") token.token) (position_at tokens) comment_or

  abbrev token_or : Read Def
  token_or = cond (is_word (codes "token") token.token) (token_at tokens) position_or

  abbrev entry_or : Read Def
  entry_or = cond (is_word (codes "entrypoints") token.token) ((entries_at >>= (λ cats. pure (Entry cats))) tokens) token_or

  abbrev coercions_or : Read Def
  coercions_or = cond (is_word (codes "coercions") token.token) (coercions_at tokens) entry_or

  abbrev separator_or : Read Def
  separator_or = cond (is_word (codes "separator") token.token) (list_macro_at Separator tokens) coercions_or

  abbrev terminator_or : Read Def
  terminator_or = cond (is_word (codes "terminator") token.token) (list_macro_at Terminator tokens) separator_or

  -- what is read tells of a definition
  abbrev TellsDef : Read Def → Type 0
  TellsDef x = Tells IsNothing DefOf (token ∷ tokens) (next_on to_end x)

  -- where the first word is this, the reader of what is behind it tells; else the others do
  word_or_other : (word : List ℕ) (next : Spelling Def) (x other : Read Def) → IsBehind word next → HasBehind word next
      → Tells IsNothing next tokens (next_on to_end x) → (is_word word token.token ≡ false → TellsDef other)
      → TellsDef (cond (is_word word token.token) x other)
  word_or_other word next x other forth back tells others = by (is_word word token.token) refl
    where
      by : (b : Bool) → is_word word token.token ≡ b → TellsDef (cond b x other)
      by true e = word_tells word next token tokens _ e short forth back tells
      by false e = others e

  -- the reader of a definition, by its first token
  first_tells : TellsDef (def_by token tokens)
  unfolding def_by
  first_tells =
      word_or_other (codes "internal") InternalRest _ terminator_or internal_forth internal_back internal_tells (λ a.
      word_or_other (codes "terminator") (MacroRest Terminator) _ separator_or terminator_forth terminator_back (macro_rest_tells Terminator) (λ b.
      word_or_other (codes "separator") (MacroRest Separator) _ coercions_or separator_forth separator_back (macro_rest_tells Separator) (λ c.
      word_or_other (codes "coercions") CoercionsRest _ entry_or coercions_forth coercions_back coercions_rest_tell (λ d.
      word_or_other (codes "entrypoints") EntryRest _ token_or entry_forth entry_back entry_rest_tells (λ e.
      word_or_other (codes "token") TokenRest _ position_or token_forth token_back
      (to_end_tells TokenRest tokens (token_at tokens) (token_rest_tells tokens short.1)) (λ f.
      word_or_other (codes "position") PositionRest _ comment_or position_forth position_back
      (to_end_tells PositionRest tokens (position_at tokens) (position_rest_tells tokens short.1)) (λ g.
      word_or_other (codes "comment") CommentRest _ rule_or comment_forth comment_back (comment_rest_tells tokens short.1) (λ h.
      plain_tells (no_word_kind token.token (h, (g, (f, (e, (d, (c, (b, (a, tt)))))))))))))))))

-- the reader of a definition tells of the definition that the tokens are
pub def_tells : (tokens : List PlacedToken) → HaveShortNames tokens → Tells IsNothing DefOf tokens (def_at tokens)
unfolding def_at
def_tells [] short =
    stuck_here IsNothing DefOf [] nothing_front some_def
    (λ others def behind follows is.
    let Spelled : List FileToken → Type 0 = λ ts. SpellsDef def ts in def_some def (subst Spelled follows is.0))
def_tells (token ∷ tokens) short = first_tells token tokens short

-- tokens are at most one definition
pub one_def : (a b : Def) (tokens : List FileToken) → SpellsDef a tokens → SpellsDef b tokens → a ≡ b
one_def (Rule r) (Rule s) tokens is_a is_b = ap Rule (one_rule r s tokens [] [] (is_a, refl) (is_b, refl)).0
one_def (Internal r) (Internal s) tokens is_a is_b =
    let same : is_b.0 ≡ is_a.0 = cc (is_a.2, is_b.2) in
    ap Internal (one_rule r s is_a.0 [] [] (is_a.1, refl) (subst (SpellsRule s) same is_b.1, refl)).0
one_def (Terminator m c v) (Terminator n d w) tokens is_a is_b =
    let same : nonempty_tokens m ++ (category_tokens c ++ (Text v ∷ [])) ≡ nonempty_tokens n ++ (category_tokens d ++ (Text w ∷ []))
    = cc (is_a.1, is_b.1) in
    (one_list_macro Terminator (Terminator m c v) (Terminator n d w) _ [] []
    (m, c, v, is_a.0, refl, refl) (n, d, w, is_b.0, refl, same)).0
one_def (Separator m c v) (Separator n d w) tokens is_a is_b =
    let same : nonempty_tokens m ++ (category_tokens c ++ (Text v ∷ [])) ≡ nonempty_tokens n ++ (category_tokens d ++ (Text w ∷ []))
    = cc (is_a.1, is_b.1) in
    (one_list_macro Separator (Separator m c v) (Separator n d w) _ [] []
    (m, c, v, is_a.0, refl, refl) (n, d, w, is_b.0, refl, same)).0
one_def (Coercions a x) (Coercions b y) tokens is_a is_b =
    let names : a ≡ b = cc (is_a.1, is_b.1) in
    let levels : x ≡ y = cc (is_a.1, is_b.1) in
    λ i. Coercions (names i) (levels i)
one_def (Entry a) (Entry b) tokens is_a is_b =
    let same : entry_tokens a ≡ entry_tokens b = cc (is_a.2, is_b.2) in
    ap Entry (one_entries a b (entry_tokens a) [] []
    (is_a.0, recursion_from_All IsCategory a is_a.1, refl, refl) (is_b.0, recursion_from_All IsCategory b is_b.1, same, refl)).0
one_def (Token a x) (Token b y) tokens is_a is_b = by is_a.position is_b.position (sym is_a.whole ∙ is_b.whole)
  where
    parts : Identifier a ∷ is_a.own ≡ Identifier b ∷ is_b.own → Token a x ≡ Token b y
    parts e =
        let names : a ≡ b = cc e in
        let same : is_a.own ≡ is_b.own = cc e in
        let exprs = one_expression x y is_b.own (subst (SpellsExpr x) same is_a.spelled) is_b.spelled in
        λ i. Token (names i) (exprs i)

    by : (p q : Bool)
        → position_tokens p ++ (keyword (codes "token") ∷ Identifier a ∷ is_a.own)
        ≡ position_tokens q ++ (keyword (codes "token") ∷ Identifier b ∷ is_b.own)
        → Token a x ≡ Token b y
    by true true e = parts (cc e)
    by false false e = parts (cc e)
    by true false e = absurd (cc e)
    by false true e = absurd (cc e)
one_def (LineComment a) (LineComment b) tokens is_a is_b =
    let same : a ≡ b = cc (is_a.1, is_b.1) in ap LineComment same
one_def (BlockComment a x) (BlockComment b y) tokens is_a is_b =
    let openings : a ≡ b = cc (is_a.2, is_b.2) in
    let closings : x ≡ y = cc (is_a.2, is_b.2) in
    λ i. BlockComment (openings i) (closings i)
one_def (LineComment a) (BlockComment b y) tokens is_a is_b = absurd (cc (is_a.1, is_b.2))
one_def (BlockComment a x) (LineComment b) tokens is_a is_b = absurd (cc (is_a.2, is_b.1))
one_def a b tokens is_a is_b = absurd (differ tokens is_a is_b)
  where
    differ : (tokens : List FileToken) → SpellsDef a tokens → SpellsDef b tokens → ⊥
    differ [] is_a is_b = def_some a is_a
    differ (token ∷ tokens) is_a is_b =
        omega (arith, spelled_kind a (token ∷ tokens) tokens token is_a refl, spelled_kind b (token ∷ tokens) tokens token is_b refl)
