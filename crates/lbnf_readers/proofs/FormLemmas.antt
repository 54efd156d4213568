-- The readers of macros, coercions and entry points tell of what the tokens spell.
use Rattle.std.proofs.Common.{◌≡◌, ℕ, zero, suc, ◌≤◌, ◌<◌, List, [], ◌∷◌, ◌++◌, length, cond, Bool, true, false, codes, Some, None, inl, inr, refl, sym, ap, subst, ◌∙◌, arith, length-append}
use Rattle.std.specs.List.{AllByRecursion}
use Rattle.std.proofs.lemmas.Bool.{false≢true}
use Rattle.std.proofs.lemmas.List.{append-nil}
use Rattle.std.proofs.lemmas.Option.{cond_some}
use Rattle.spec_lbnf.specs.declared.definition.CatName.{CatName}
use Rattle.spec_lbnf.specs.declared.definition.Def.{Def}
use Rattle.spec_lbnf.specs.declared.definition.Def.TheVariants.{Coercions}
use Rattle.spec_lbnf.specs.declared.token.Sign.TheVariants.{Comma}
use Rattle.spec_lbnf.specs.declared.token.FileToken.{FileToken}
use Rattle.spec_lbnf.specs.declared.token.FileToken.TheVariants.{Identifier, Number, Text}
use Rattle.spec_lbnf.specs.declared.token.FileToken.TheVariants.{Sign as SignToken}
use Rattle.spec_lbnf.specs.declared.token.PlacedToken.{PlacedToken}
use Rattle.spec_lbnf.specs.GrammarFile.{starts_upper}
use Rattle.spec_lbnf.specs.GrammarFile.{IsCategory, IsUpperName, category_tokens, entry_tokens, nonempty_tokens, keyword}
use Rattle.spec_lbnf.specs.Faults.{bare}
use Rattle.lbnf_readers.specs.FileReading.{◌>>=◌, pure, sign_at, upper_name, name_at, text_value, text_at, number_value, number_at, category_at, is_word, macro_at, list_macro_at, coercions_at, more_entries_at, entries_at}
use Rattle.spec_lbnf.proofs.BoundaryLemmas.{bracketed, category_bracketed, one_closed, nothing_closed}
use Rattle.lbnf_readers.proofs.TokenTestLemmas.{upper_some, upper_has, text_some, number_some, word_true, word_false}
use Rattle.lbnf_readers.proofs.ReaderLemmas.{Spelling, IsOne, IsAny, IsNothing, GoesOn, IsGot, Tells, Then, Gives, TokenOf, HaveShortNames, nothing_front, stuck_here, change_tells, then_tells, then_got, gives_tells, token_tells, token_some, some_then, some_gives, short_rest, one_token, one_then, one_gives, one_change}
use Rattle.lbnf_readers.proofs.CategoryLemmas.{Category, one_category, some_category, category_tells}
use Rattle.lbnf_readers.proofs.RuleLemmas.{category_some, SignOf, sign_value, sign_value_is, sign_tells}

-- this word stands before the rest
abbrev pub WordOf : List ℕ → Spelling (Unit {0})
WordOf word = TokenOf (λ token. cond (is_word word token) (Some tt) None)

-- a word is read
pub word_got : (word : List ℕ) (token : PlacedToken) (tokens : List PlacedToken) → is_word word token.token ≡ true
    → HaveShortNames (token ∷ tokens) → IsGot IsAny (WordOf word) tt (token ∷ tokens) tokens
word_got word token tokens h short =
    let is = word_true word token.token h in
    record {
      used = token ∷ [];
      whole = refl;
      behind = tt;
      spelled = λ others may. (token.token, rw h refl, refl);
      closed = one_closed token.token (λ same. cc (is, same)) (λ same. cc (is, same)) short.0;
    }

-- what is a word by its test stands for the word
pub word_of : (word : List ℕ) (token : FileToken) (done : Unit {0}) → cond (is_word word token) (Some tt) None ≡ Some done
    → token ≡ Identifier word
word_of word token done h = word_true word token (cond_some {A = Unit {0}} (is_word word token) tt done h).0

-- a reader of a text tells of it
text_tells : (tokens : List PlacedToken) → HaveShortNames tokens → Tells IsAny (TokenOf text_value) tokens (text_at tokens)
unfolding text_at
text_tells tokens short =
    token_tells text_value (Text []) [] refl
    (λ token text has is. let same = text_some token text has in elim is [ inl e ↦ cc (same, e) | inr e ↦ cc (same, e) ])
    tokens short

-- a reader of a number tells of it
number_tells : (tokens : List PlacedToken) → HaveShortNames tokens → Tells IsAny (TokenOf number_value) tokens (number_at tokens)
unfolding number_at
number_tells tokens short =
    token_tells number_value (Number 0) 0 refl
    (λ token number has is. let same = number_some token number has in elim is [ inl e ↦ cc (same, e) | inr e ↦ cc (same, e) ])
    tokens short

-- a reader of an upper-case name tells of it
pub name_tells : (tokens : List PlacedToken) → HaveShortNames tokens → Tells IsAny (TokenOf upper_name) tokens (name_at tokens)
unfolding name_at
name_tells tokens short =
    token_tells upper_name (Identifier (codes "A")) (codes "A") refl
    (λ token name has is. let same = (upper_some token name has).0 in elim is [ inl e ↦ cc (same, e) | inr e ↦ cc (same, e) ])
    tokens short

module _ (def_of : CatName → List ℕ → Def) where
  -- a category and a string stand before the rest, and give this definition
  abbrev pub MacroOf : Spelling Def
  MacroOf def tokens rest =
      (cat : CatName) × (word : List ℕ) × IsCategory cat × (def ≡ def_of cat word)
      × (tokens ≡ category_tokens cat ++ (Text word ∷ rest))

  -- the parts of a macro
  abbrev MacroParts : Spelling Def
  MacroParts = Then Category (λ cat. Gives (def_of cat) (TokenOf text_value))

  -- the parts make a macro
  macro_forth : (def : Def) (tokens rest : List FileToken) → MacroParts def tokens rest → MacroOf def tokens rest
  macro_forth def tokens rest is =
      let text = is.3 in
      let token = text.2 in
      let same = text_some token.0 text.0 token.1 in
      let behind : is.1 ≡ Text text.0 ∷ rest = token.2 ∙ ap (λ t. t ∷ rest) same in
      (is.0, text.0, is.2.0, text.1, is.2.1 ∙ ap (λ zs. category_tokens is.0 ++ zs) behind)

  -- a macro is made of the parts
  macro_back : (def : Def) (tokens rest : List FileToken) → MacroOf def tokens rest → MacroParts def tokens rest
  macro_back def tokens rest is = (is.0, Text is.1 ∷ rest, (is.2, is.4), (is.1, is.3, (Text is.1, refl, refl)))

  -- at most one macro stands at the front of tokens
  pub one_macro : IsOne MacroOf
  one_macro = one_change MacroParts MacroOf
      (one_then Category (λ cat. Gives (def_of cat) (TokenOf text_value)) one_category
      (λ cat. one_gives (def_of cat) (TokenOf text_value) (one_token text_value)))
      macro_back

  -- some string can be read behind a category
  some_text : (cat : CatName) → GoesOn IsAny (Gives (def_of cat) (TokenOf text_value)) []
  some_text cat = some_gives IsAny (def_of cat) (TokenOf text_value) (token_some text_value (Text []) [] refl)

  -- some macro can be read
  pub some_macro : GoesOn IsAny MacroOf []
  some_macro =
      let parts = some_then IsAny Category (λ cat. Gives (def_of cat) (TokenOf text_value)) some_text some_category in
      (parts.0, parts.1, λ others may. macro_forth parts.0 (parts.1 ++ others) others (parts.2 others may))

  -- the reader of a macro tells of it
  pub macro_tells : (tokens : List PlacedToken) → HaveShortNames tokens → Tells IsAny MacroOf tokens (macro_at def_of tokens)
  unfolding macro_at
  macro_tells tokens short =
      change_tells IsAny MacroParts MacroOf tokens _ macro_forth (λ a others rest follows. macro_back a others rest)
      (then_tells IsAny Category (λ cat. Gives (def_of cat) (TokenOf text_value)) tokens
      (λ cat. text_at >>= (λ word. pure (def_of cat word))) one_category some_text
      (λ cat rest is. gives_tells IsAny (TokenOf text_value) (def_of cat) rest (text_at rest)
      (text_tells rest (short_rest IsAny Category cat tokens rest is short)))
      (category_at tokens) (category_tells tokens))

-- a bracketed name begins with no word of the notation
bracketed_no_word : (opens : ℕ) (name word : List ℕ) (behind other : List FileToken) → IsUpperName name → starts_upper word ≡ false
    → bracketed opens name behind ≡ Identifier word ∷ other → ⊥
bracketed_no_word zero name word behind other upper lower e =
    let same : name ≡ word = cc e in
    false≢true (sym lower ∙ ap starts_upper (sym same) ∙ upper)
bracketed_no_word (suc opens) name word behind other upper lower e = cc e

-- neither does a category
pub category_no_word : (cat : CatName) (word : List ℕ) (behind other : List FileToken) → IsCategory cat → starts_upper word ≡ false
    → category_tokens cat ++ behind ≡ Identifier word ∷ other → ⊥
category_no_word cat word behind other upper lower e =
    bracketed_no_word cat.depth cat.name word _ other upper lower (sym (category_bracketed cat behind) ∙ e)

module _ (def_of : Bool → CatName → List ℕ → Def) where
  -- a macro of lists stands before the rest, behind its first word
  abbrev pub ListMacroOf : Spelling Def
  ListMacroOf def tokens rest =
      (nonempty : Bool) × (cat : CatName) × (word : List ℕ) × IsCategory cat × (def ≡ def_of nonempty cat word)
      × (tokens ≡ nonempty_tokens nonempty ++ (category_tokens cat ++ (Text word ∷ rest)))

  -- a macro of lists that may be empty begins with no word
  plain_no_word : (cat : CatName) (behind more : List FileToken) (token : FileToken) → IsCategory cat
      → token ≡ keyword (codes "nonempty") → category_tokens cat ++ behind ≡ token ∷ more → ⊥
  plain_no_word cat behind more token upper is e =
      category_no_word cat (codes "nonempty") behind more upper refl (e ∙ ap (λ t. t ∷ more) is)

  -- at most one macro of lists stands at the front of tokens
  pub one_list_macro : IsOne ListMacroOf
  one_list_macro a b tokens rest other is_a is_b =
      by is_a.0 is_b.0 is_a.1 is_b.1 is_a.2 is_b.2 is_a.3 is_b.3 is_a.4 is_b.4 is_a.5 is_b.5
    where
      by : (m n : Bool) (c d : CatName) (v w : List ℕ) → IsCategory c → IsCategory d → a ≡ def_of m c v → b ≡ def_of n d w
          → tokens ≡ nonempty_tokens m ++ (category_tokens c ++ (Text v ∷ rest))
          → tokens ≡ nonempty_tokens n ++ (category_tokens d ++ (Text w ∷ other)) → (a ≡ b) × (rest ≡ other)
      by true true c d v w is_c is_d gives_a gives_b e f =
          let same : category_tokens c ++ (Text v ∷ rest) ≡ category_tokens d ++ (Text w ∷ other) = cc (e, f) in
          one_macro (def_of true) a b _ rest other (c, v, is_c, gives_a, refl) (d, w, is_d, gives_b, same)
      by false false c d v w is_c is_d gives_a gives_b e f =
          one_macro (def_of false) a b tokens rest other (c, v, is_c, gives_a, e) (d, w, is_d, gives_b, f)
      by true false c d v w is_c is_d gives_a gives_b e f =
          absurd (category_no_word d (codes "nonempty") (Text w ∷ other) (category_tokens c ++ (Text v ∷ rest)) is_d refl (sym f ∙ e))
      by false true c d v w is_c is_d gives_a gives_b e f =
          absurd (category_no_word c (codes "nonempty") (Text v ∷ rest) (category_tokens d ++ (Text w ∷ other)) is_c refl (sym e ∙ f))

  -- some macro of lists can be read
  pub some_list_macro : GoesOn IsAny ListMacroOf []
  some_list_macro =
      let macro = some_macro (def_of false) in (
        macro.0,
        macro.1,
        λ others may.
            let is = macro.2 others may in (false, is.0, is.1, is.2, is.3, is.4),
      )

  -- the reader of a macro of lists tells of it
  pub list_macro_tells : (tokens : List PlacedToken) → HaveShortNames tokens → Tells IsAny ListMacroOf tokens (list_macro_at def_of tokens)
  unfolding list_macro_at
  list_macro_tells [] short =
      stuck_here IsAny ListMacroOf [] nothing_front some_list_macro
      (λ others def behind follows is. by behind is.0 is.1 is.2 (sym is.5 ∙ follows))
    where
      by : (behind : List FileToken) (n : Bool) (cat : CatName) (word : List ℕ)
          → nonempty_tokens n ++ (category_tokens cat ++ (Text word ∷ behind)) ≡ [] → ⊥
      by behind true cat word e = cc e
      by behind false cat word e = category_some cat (Text word ∷ behind) e
  list_macro_tells (token ∷ tokens) short = by (is_word (codes "nonempty") token.token) refl
    where
      by : (b : Bool) → is_word (codes "nonempty") token.token ≡ b
          → Tells IsAny ListMacroOf (token ∷ tokens) (cond b (macro_at (def_of true) tokens) (macro_at (def_of false) (token ∷ tokens)))
      by true e =
          let is = word_true (codes "nonempty") token.token e in
          change_tells IsAny (Then (WordOf (codes "nonempty")) (λ done. MacroOf (def_of true))) ListMacroOf (token ∷ tokens)
          (macro_at (def_of true) tokens)
          (λ def others rest parts.
          let macro = parts.3 in
          let head = word_of (codes "nonempty") parts.2.0 parts.0 parts.2.1 in
          let whole = parts.2.2 ∙ (λ i. head i ∷ macro.4 i) in
          (true, macro.0, macro.1, macro.2, macro.3, whole))
          (λ def others rest follows spelled.
          back spelled.0 spelled.1 spelled.2 def others rest follows.0 is follows.1 spelled.3 spelled.4 spelled.5)
          (then_got IsAny (WordOf (codes "nonempty")) (λ done. MacroOf (def_of true)) tt (token ∷ tokens) tokens
          (one_token _) (word_got (codes "nonempty") token tokens e short) (macro_at (def_of true) tokens)
          (macro_tells (def_of true) tokens short.1))
        where
          back : (n : Bool) (cat : CatName) (word : List ℕ) (def : Def) (others rest more : List FileToken)
              → token.token ≡ keyword (codes "nonempty") → others ≡ token.token ∷ more → IsCategory cat → def ≡ def_of n cat word
              → others ≡ nonempty_tokens n ++ (category_tokens cat ++ (Text word ∷ rest))
              → Then (WordOf (codes "nonempty")) (λ done. MacroOf (def_of true)) def others rest
          back true cat word def others rest more is begins is_cat gives whole =
              (tt, category_tokens cat ++ (Text word ∷ rest), (keyword (codes "nonempty"), refl, whole), (cat, word, is_cat, gives, refl))
          back false cat word def others rest more is begins is_cat gives whole =
              absurd (plain_no_word cat (Text word ∷ rest) more token.token is_cat is (sym whole ∙ begins))
      by false e =
          change_tells IsAny (MacroOf (def_of false)) ListMacroOf (token ∷ tokens) (macro_at (def_of false) (token ∷ tokens))
          (λ def others rest is. (false, is.0, is.1, is.2, is.3, is.4))
          (λ def others rest follows is. back is.0 is.1 is.2 def others rest follows.0 follows.1 is.3 is.4 is.5)
          (macro_tells (def_of false) (token ∷ tokens) short)
        where
          back : (n : Bool) (cat : CatName) (word : List ℕ) (def : Def) (others rest more : List FileToken)
              → others ≡ token.token ∷ more → IsCategory cat → def ≡ def_of n cat word
              → others ≡ nonempty_tokens n ++ (category_tokens cat ++ (Text word ∷ rest)) → MacroOf (def_of false) def others rest
          back true cat word def others rest more begins is_cat gives whole =
              absurd (word_false (codes "nonempty") token.token e (cc (begins, whole)))
          back false cat word def others rest more begins is_cat gives whole = (cat, word, is_cat, gives, whole)

-- the name and the number of coercions stand before the rest
abbrev pub CoercionsOf : Spelling Def
CoercionsOf def tokens rest =
    (name : List ℕ) × (levels : ℕ) × IsUpperName name × (def ≡ Coercions name levels)
    × (tokens ≡ Identifier name ∷ Number levels ∷ rest)

-- the parts of coercions
abbrev CoercionsParts : Spelling Def
CoercionsParts = Then (TokenOf upper_name) (λ name. Gives (Coercions name) (TokenOf number_value))

-- the parts make coercions
coercions_forth : (def : Def) (tokens rest : List FileToken) → CoercionsParts def tokens rest → CoercionsOf def tokens rest
coercions_forth def tokens rest is =
    let name = upper_some is.2.0 is.0 is.2.1 in
    let number = is.3.2 in
    let is_number = number_some number.0 is.3.0 number.1 in
    let behind : is.1 ≡ Number is.3.0 ∷ rest = number.2 ∙ ap (λ t. t ∷ rest) is_number in
    (is.0, is.3.0, name.1, is.3.1, is.2.2 ∙ (λ i. name.0 i ∷ behind i))

-- coercions are made of the parts
coercions_back : (def : Def) (tokens rest : List FileToken) → CoercionsOf def tokens rest → CoercionsParts def tokens rest
coercions_back def tokens rest is =
    (is.0, Number is.1 ∷ rest, (Identifier is.0, upper_has is.0 is.2, is.4), (is.1, is.3, (Number is.1, refl, refl)))

-- at most one definition of coercions stands at the front of tokens
pub one_coercions : IsOne CoercionsOf
one_coercions = one_change CoercionsParts CoercionsOf
    (one_then (TokenOf upper_name) (λ name. Gives (Coercions name) (TokenOf number_value)) (one_token upper_name)
    (λ name. one_gives (Coercions name) (TokenOf number_value) (one_token number_value)))
    coercions_back

-- some levels can be read
some_levels : (name : List ℕ) → GoesOn IsAny (Gives (Coercions name) (TokenOf number_value)) []
some_levels name = some_gives IsAny (Coercions name) (TokenOf number_value) (token_some number_value (Number 0) 0 refl)

-- the reader of coercions tells of them
pub coercions_tell : (tokens : List PlacedToken) → HaveShortNames tokens → Tells IsAny CoercionsOf tokens (coercions_at tokens)
unfolding coercions_at
coercions_tell tokens short =
    change_tells IsAny CoercionsParts CoercionsOf tokens _ coercions_forth (λ a others rest follows. coercions_back a others rest)
    (then_tells IsAny (TokenOf upper_name) (λ name. Gives (Coercions name) (TokenOf number_value)) tokens
    (λ name. number_at >>= (λ levels. pure (Coercions name levels))) (one_token upper_name) some_levels
    (λ name rest is. gives_tells IsAny (TokenOf number_value) (Coercions name) rest (number_at rest)
    (number_tells rest (short_rest IsAny (TokenOf upper_name) name tokens rest is short)))
    (name_at tokens) (name_tells tokens short))

-- the tokens of categories behind a comma each
abbrev more_tokens : List CatName → List FileToken
more_tokens [] = []
more_tokens (cat ∷ cats) = SignToken Comma ∷ (category_tokens cat ++ more_tokens cats)

-- the tokens of entry points are those of the first, and of the others behind a comma each
entry_more : (cat : CatName) (cats : List CatName) → entry_tokens (cat ∷ cats) ≡ category_tokens cat ++ more_tokens cats
entry_more cat [] = sym (append-nil (category_tokens cat))
entry_more cat (next ∷ cats) = ap (λ zs. category_tokens cat ++ (SignToken Comma ∷ zs)) (entry_more next cats)

-- the tokens are categories behind a comma each, and nothing is behind them
abbrev MoreOf : Spelling (List CatName)
MoreOf cats tokens rest = AllByRecursion IsCategory cats × (tokens ≡ more_tokens cats) × (rest ≡ [])

-- behind the category that stands behind a comma: more of them
abbrev BehindCommaCategory : CatName → Spelling (List CatName)
BehindCommaCategory cat = Gives (λ cats. cat ∷ cats) MoreOf

-- a category behind a comma, and more behind it
abbrev BehindComma : Spelling (List CatName)
BehindComma = Then Category BehindCommaCategory

-- a comma, and what is behind it
abbrev MoreParts : Spelling (List CatName)
MoreParts = Then (SignOf Comma) (λ done. BehindComma)

-- the parts are categories behind a comma each
more_forth : (cats : List CatName) (tokens rest : List FileToken) → MoreParts cats tokens rest → MoreOf cats tokens rest
more_forth cats tokens rest is =
    let comma = sign_value_is Comma is.2.0 is.0 is.2.1 in
    let cat = is.3 in
    let more = cat.3 in
    let behind : is.1 ≡ category_tokens cat.0 ++ more_tokens more.0 = cat.2.1 ∙ ap (λ zs. category_tokens cat.0 ++ zs) more.2.1 in
    let whole : tokens ≡ more_tokens (cat.0 ∷ more.0) = is.2.2 ∙ (λ i. comma i ∷ behind i) in
    let MoreAre : List CatName → Type 0 = λ cats. MoreOf cats tokens rest in
    subst MoreAre (sym more.1) ((cat.2.0, more.2.0), whole, more.2.2)

-- categories behind a comma each, of tokens with a first, are these parts
more_back : (cats : List CatName) (token : FileToken) (more tokens rest : List FileToken) → tokens ≡ token ∷ more
    → MoreOf cats tokens rest → MoreParts cats tokens rest
more_back [] token more tokens rest begins is = absurd (cc (begins, is.1))
more_back (cat ∷ cats) token more tokens rest begins is =
    (tt, category_tokens cat ++ more_tokens cats, (SignToken Comma, refl, is.1), (cat, more_tokens cats, (is.0.0, refl), (cats, refl, (is.0.1, refl, is.2))))

-- no categories can be read
some_more : GoesOn IsNothing MoreOf []
some_more = ([], [], λ others none. (tt, none, none))

-- some category behind a comma can be read
some_behind_category : (cat : CatName) → GoesOn IsNothing (BehindCommaCategory cat) []
some_behind_category cat = some_gives IsNothing (λ cats. cat ∷ cats) MoreOf some_more

-- something can be read behind a comma
some_behind_comma : GoesOn IsNothing BehindComma []
some_behind_comma = some_then IsNothing Category BehindCommaCategory some_behind_category some_category

-- what is behind a comma is shorter
comma_shorter : (done : Unit {0}) (tokens rest : List PlacedToken) → IsGot IsAny (SignOf Comma) done tokens rest → length rest < length tokens
comma_shorter done tokens rest is = by is.used is.whole (is.spelled [] tt)
  where
    by : (used : List PlacedToken) → tokens ≡ used ++ rest → SignOf Comma done (bare used ++ []) [] → length rest < length tokens
    by [] whole spelled = absurd (cc spelled.2)
    by (u ∷ used) whole spelled = omega (arith, ap length whole, length-append used rest)

-- what is behind a category is no longer
category_no_longer : (cat : CatName) (tokens rest : List PlacedToken) → IsGot IsAny Category cat tokens rest → length rest ≤ length tokens
category_no_longer cat tokens rest is = omega (arith, ap length is.whole, length-append is.used rest)

-- the reader of categories behind a comma each tells of them
more_tell : (turns : ℕ) (tokens : List PlacedToken) → length tokens ≤ turns → HaveShortNames tokens
    → Tells IsNothing MoreOf tokens (more_entries_at turns tokens)
unfolding more_entries_at
more_tell turns [] few short = record {
  used = [];
  whole = refl;
  behind = refl;
  spelled = λ others none. (tt, none, none);
  closed = nothing_closed;
}
more_tell zero (token ∷ tokens) few short = absurd (omega (arith, few))
more_tell (suc turns) (token ∷ tokens) few short =
    change_tells IsNothing MoreParts MoreOf (token ∷ tokens) _ more_forth
    (λ a others rest follows is. more_back a token.token follows.0 others rest follows.1 is)
    (then_tells IsNothing (SignOf Comma) (λ done. BehindComma) (token ∷ tokens)
    (λ comma. category_at >>= (λ cat. more_entries_at turns >>= (λ cats. pure (cat ∷ cats))))
    (one_token (sign_value Comma)) (λ done. some_behind_comma)
    (λ done rest is.
    let shorter = comma_shorter done (token ∷ tokens) rest is in
    let short_there = short_rest IsAny (SignOf Comma) done (token ∷ tokens) rest is short in
    then_tells IsNothing Category BehindCommaCategory rest
    (λ cat. more_entries_at turns >>= (λ cats. pure (cat ∷ cats))) one_category some_behind_category
    (λ cat last is_cat.
    gives_tells IsNothing MoreOf (λ cats. cat ∷ cats) last (more_entries_at turns last)
    (more_tell turns last (omega (arith, few, shorter, category_no_longer cat rest last is_cat))
    (short_rest IsAny Category cat rest last is_cat short_there)))
    (category_at rest) (category_tells rest))
    (sign_at Comma (token ∷ tokens)) (sign_tells Comma refl (λ e. cc e) (λ e. cc e) (token ∷ tokens) short))

-- tokens are at most one list of categories behind a comma each
one_more : IsOne MoreOf
one_more a b tokens rest other is_a is_b = (by a b is_a.0 is_b.0 (sym is_a.1 ∙ is_b.1), is_a.2 ∙ sym is_b.2)
  where
    by : (a b : List CatName) → AllByRecursion IsCategory a → AllByRecursion IsCategory b → more_tokens a ≡ more_tokens b → a ≡ b
    by [] [] each_a each_b e = refl
    by [] (b ∷ bs) each_a each_b e = absurd (cc e)
    by (a ∷ as_) [] each_a each_b e = absurd (cc e)
    by (a ∷ as_) (b ∷ bs) each_a each_b e =
        let tail : category_tokens a ++ more_tokens as_ ≡ category_tokens b ++ more_tokens bs = cc e in
        let same = one_category a b _ (more_tokens as_) (more_tokens bs) (each_a.0, refl) (each_b.0, tail) in
        let behind = by as_ bs each_a.1 each_b.1 same.1 in
        λ i. same.0 i ∷ behind i

-- the tokens are categories with a comma between each two, one or more, and nothing is behind them
abbrev pub EntriesOf : Spelling (List CatName)
EntriesOf cats tokens rest =
    (0 < length cats) × AllByRecursion IsCategory cats × (tokens ≡ entry_tokens cats) × (rest ≡ [])

-- the first category, and the others
abbrev EntriesParts : Spelling (List CatName)
EntriesParts = Then Category BehindCommaCategory

-- the parts are entry points
entries_forth : (cats : List CatName) (tokens rest : List FileToken) → EntriesParts cats tokens rest → EntriesOf cats tokens rest
entries_forth cats tokens rest is =
    let more = is.3 in
    let whole : tokens ≡ entry_tokens (is.0 ∷ more.0)
    = is.2.1 ∙ ap (λ zs. category_tokens is.0 ++ zs) more.2.1 ∙ sym (entry_more is.0 more.0) in
    let EntriesAre : List CatName → Type 0 = λ cats. EntriesOf cats tokens rest in
    subst EntriesAre (sym more.1) (omega arith, (is.2.0, more.2.0), whole, more.2.2)

-- entry points are these parts
entries_back : (cats : List CatName) (tokens rest : List FileToken) → EntriesOf cats tokens rest → EntriesParts cats tokens rest
entries_back [] tokens rest is = absurd (omega (arith, is.0))
entries_back (cat ∷ cats) tokens rest is =
    (cat, more_tokens cats, (is.1.0, is.2 ∙ entry_more cat cats), (cats, refl, (is.1.1, refl, is.3)))

-- tokens are at most one list of entry points
pub one_entries : IsOne EntriesOf
one_entries = one_change EntriesParts EntriesOf
    (one_then Category BehindCommaCategory one_category (λ cat. one_gives (λ cats. cat ∷ cats) MoreOf one_more))
    entries_back

-- the reader of entry points tells of them
pub entries_tell : (tokens : List PlacedToken) → HaveShortNames tokens → Tells IsNothing EntriesOf tokens (entries_at tokens)
unfolding entries_at
entries_tell tokens short =
    change_tells IsNothing EntriesParts EntriesOf tokens _ entries_forth (λ a others rest follows. entries_back a others rest)
    (then_tells IsNothing Category BehindCommaCategory tokens
    (λ cat. more_entries_at (length tokens) >>= (λ cats. pure (cat ∷ cats))) one_category some_behind_category
    (λ cat rest is.
    gives_tells IsNothing MoreOf (λ cats. cat ∷ cats) rest (more_entries_at (length tokens) rest)
    (more_tell (length tokens) rest (category_no_longer cat tokens rest is) (short_rest IsAny Category cat tokens rest is short)))
    (category_at tokens) (category_tells tokens))
