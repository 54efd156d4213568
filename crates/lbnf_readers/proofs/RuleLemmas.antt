-- The readers of items and of a rule tell of what the tokens spell.
use Rattle.std.proofs.Common.{◌≡◌, ℕ, zero, suc, ◌≤◌, ◌<◌, List, [], ◌∷◌, ◌++◌, length, map, cond, Option, Some, None, inl, inr, refl, sym, ap, subst, ◌∙◌, arith, length-append}
use Rattle.std.specs.List.{flat_map, AllByRecursion}
use Rattle.std.proofs.lemmas.List.Elements.{All-from_recursion, recursion_from_All}
use Rattle.std.proofs.lemmas.Option.{cond_some, none-some}
use Rattle.spec_grammar.specs.declared.rule.Label.{Label}
use Rattle.spec_lbnf.specs.declared.definition.CatName.{CatName}
use Rattle.spec_lbnf.specs.declared.definition.RawItem.{RawItem}
use Rattle.spec_lbnf.specs.declared.definition.RawItem.TheVariants.{Cat, Word}
use Rattle.spec_lbnf.specs.declared.definition.RawRule.{RawRule}
use Rattle.spec_lbnf.specs.declared.token.Sign.{Sign}
use Rattle.spec_lbnf.specs.declared.token.Sign.TheVariants.{Dot, Gives as GivesSign, OpenBracket, CloseBracket}
use Rattle.spec_lbnf.specs.declared.token.FileToken.{FileToken}
use Rattle.spec_lbnf.specs.declared.token.FileToken.TheVariants.{Text}
use Rattle.spec_lbnf.specs.declared.token.FileToken.TheVariants.{Sign as SignToken}
use Rattle.spec_lbnf.specs.declared.token.PlacedToken.{PlacedToken}
use Rattle.spec_lbnf.specs.Words.{words_in}
use Rattle.spec_lbnf.specs.GrammarFile.{WrittenItem, category, string, IsWritten, written_tokens, written_items, category_tokens, label_tokens, SpellsItems, SpellsRule}
use Rattle.spec_lbnf.specs.Faults.{bare}
use Rattle.lbnf_readers.specs.FileReading.{Reader, ◌>>=◌, pure, is_sign, sign_at, text_value, category_at, label_at, item_by, item_at, items_at, side_at, rule_at}
use Rattle.spec_lbnf.proofs.BoundaryLemmas.{bracketed, category_bracketed, bracketed_some, one_closed, nothing_closed}
use Rattle.lbnf_readers.proofs.TokenTestLemmas.{sign_true, text_some}
use Rattle.lbnf_readers.proofs.ReaderLemmas.{Spelling, IsOne, IsAny, IsNothing, GoesOn, IsGot, Tells, Then, Gives, TokenOf, HaveShortNames, nothing_front, stuck_here, change_tells, then_tells, gives_tells, token_tells, token_some, some_then, some_gives, short_rest, one_token, one_then, one_gives, one_change}
use Rattle.lbnf_readers.proofs.CategoryLemmas.{Category, one_category, some_category, category_tells}
use Rattle.lbnf_readers.proofs.LabelLemmas.{LabelOf, one_label, some_label, label_tells}

-- a written item stands before the rest, and gives these items
abbrev pub ItemOf : Spelling (List RawItem)
ItemOf items tokens rest =
    (written : WrittenItem) × IsWritten written × (items ≡ written_items written) × (tokens ≡ written_tokens written ++ rest)

-- a bracketed name begins with no string
bracketed_no_text : (opens : ℕ) (name text : List ℕ) (behind other : List FileToken) → bracketed opens name behind ≡ Text text ∷ other → ⊥
bracketed_no_text zero name text behind other e = cc
bracketed_no_text (suc opens) name text behind other e = cc

-- a category begins with no string
pub category_no_text : (cat : CatName) (text : List ℕ) (behind other : List FileToken) → category_tokens cat ++ behind ≡ Text text ∷ other → ⊥
category_no_text cat text behind other e =
    bracketed_no_text cat.depth cat.name text _ other (sym (category_bracketed cat behind) ∙ e)

-- a category has a token
pub category_some : (cat : CatName) (behind : List FileToken) → category_tokens cat ++ behind ≡ [] → ⊥
category_some cat behind e = bracketed_some cat.depth cat.name _ (sym (category_bracketed cat behind) ∙ e)

-- a written item has a token
written_some : (written : WrittenItem) (rest : List FileToken) → written_tokens written ++ rest ≡ [] → ⊥
written_some (category cat) rest e = category_some cat rest e
written_some (string text) rest e = cc

-- at most one item stands at the front of tokens
one_item : IsOne ItemOf
one_item a b tokens rest other is_a is_b = by is_a.0 is_b.0 is_a.1 is_b.1 is_a.2 is_b.2 is_a.3 is_b.3
  where
    by : (v w : WrittenItem) → IsWritten v → IsWritten w → a ≡ written_items v → b ≡ written_items w
        → tokens ≡ written_tokens v ++ rest → tokens ≡ written_tokens w ++ other → (a ≡ b) × (rest ≡ other)
    by (category c) (category d) is_c is_d gives_c gives_d e f =
        let same = one_category c d tokens rest other (is_c, e) (is_d, f) in
        (gives_c ∙ ap (λ cat. Cat cat ∷ []) same.0 ∙ sym gives_d, same.1)
    by (category c) (string text) is_c is_d gives_c gives_d e f =
        absurd (category_no_text c text rest other (sym e ∙ f))
    by (string text) (category d) is_c is_d gives_c gives_d e f =
        absurd (category_no_text d text other rest (sym f ∙ e))
    by (string x) (string y) is_c is_d gives_c gives_d e f =
        let both : ◌≡◌ {A = List FileToken} (Text x ∷ rest) (Text y ∷ other) = sym e ∙ f in
        let texts : x ≡ y = cc both in
        let rests : rest ≡ other = cc both in
        (gives_c ∙ ap (λ text. map Word (words_in text)) texts ∙ sym gives_d, rests)

-- some item can be read
some_item : GoesOn IsAny ItemOf []
some_item = (
  Cat some_category.0 ∷ [],
  some_category.1,
  λ others may.
      let is = some_category.2 others may in (category some_category.0, is.0, refl, is.1),
)

-- the reader of an item tells of the item at the front
item_tells : (tokens : List PlacedToken) → HaveShortNames tokens → Tells IsAny ItemOf tokens (item_at tokens)
unfolding item_at
item_tells [] short =
    stuck_here IsAny ItemOf [] nothing_front some_item
    (λ others value behind follows spelled. written_some spelled.0 behind (sym spelled.3 ∙ follows))
item_tells (token ∷ tokens) short = by (text_value token.token) refl
  where
    by : (x : Option (List ℕ)) → text_value token.token ≡ x → Tells IsAny ItemOf (token ∷ tokens) (item_by x token tokens)
    by (Some text) e =
        let is = text_some token.token text e in
        record {
          used = token ∷ [];
          whole = refl;
          behind = tt;
          spelled = λ others may. (string text, tt, refl, ap (λ t. t ∷ others) is);
          closed = one_closed token.token (λ same. cc (is, same)) (λ same. cc (is, same)) short.0;
        }
    by None e =
        change_tells IsAny (Gives (λ cat. Cat cat ∷ []) Category) ItemOf (token ∷ tokens) _
        (λ a others rest is. (category is.0, is.2.0, is.1, is.2.1))
        (λ a others rest follows is. back is.0 a others rest follows.0 follows.1 is.1 is.2 is.3)
        (gives_tells IsAny Category (λ cat. Cat cat ∷ []) (token ∷ tokens) (category_at (token ∷ tokens)) (category_tells (token ∷ tokens)))
      where
        back : (w : WrittenItem) (a : List RawItem) (others rest more : List FileToken) → others ≡ token.token ∷ more
            → IsWritten w → a ≡ written_items w → others ≡ written_tokens w ++ rest
            → Gives (λ cat. Cat cat ∷ []) Category a others rest
        back (category cat) a others rest more begins is gives whole = (cat, gives, (is, whole))
        back (string text) a others rest more begins is gives whole =
            let same : token.token ≡ Text text = cc (begins, whole) in
            absurd (none-some text (sym e ∙ ap text_value same))

-- the tokens are items, and nothing is behind them
abbrev pub ItemsOf : Spelling (List RawItem)
ItemsOf items tokens rest = SpellsItems items tokens × (rest ≡ [])

-- no tokens are no items
no_items : (tokens : List FileToken) → tokens ≡ [] → SpellsItems [] tokens
no_items tokens e = record { written = []; each = All-from_recursion IsWritten [] tt; whole = e; gives = refl }

-- some items can be read
pub some_items : GoesOn IsNothing ItemsOf []
some_items = ([], [], λ others none. (no_items others none, none))

-- one item, and others behind it
abbrev ItemAndOthers : Spelling (List RawItem)
ItemAndOthers = Then ItemOf (λ items. Gives (λ others. items ++ others) ItemsOf)

-- one item and others behind it are items
items_forth : (a : List RawItem) (tokens rest : List FileToken) → ItemAndOthers a tokens rest → ItemsOf a tokens rest
items_forth a tokens rest is =
    let first = is.2 in
    let others = is.3 in
    let spelled = others.2.0 in (
      record {
        written = first.0 ∷ spelled.written;
        each = All-from_recursion IsWritten (first.0 ∷ spelled.written) (first.1, recursion_from_All IsWritten spelled.written spelled.each);
        whole = first.3 ∙ ap (λ zs. written_tokens first.0 ++ zs) spelled.whole;
        gives = others.1 ∙ (λ i. first.2 i ++ spelled.gives i);
      },
      others.2.1,
    )

-- items that begin with a token are one item and others behind it
items_back : (a : List RawItem) (token : FileToken) (more tokens rest : List FileToken) → tokens ≡ token ∷ more → ItemsOf a tokens rest
    → ItemAndOthers a tokens rest
items_back a token more tokens rest begins is =
    by is.0.written (recursion_from_All IsWritten is.0.written is.0.each) is.0.whole is.0.gives
  where
    by : (written : List WrittenItem) → AllByRecursion IsWritten written → tokens ≡ flat_map written_tokens written
        → a ≡ flat_map written_items written → ItemAndOthers a tokens rest
    by [] each whole gives = absurd (cc (begins, whole))
    by (w ∷ written) each whole gives = (
      written_items w,
      flat_map written_tokens written,
      (w, each.0, refl, whole),
      (
        flat_map written_items written,
        gives,
        (record { written = written; each = All-from_recursion IsWritten written each.1; whole = refl; gives = refl }, is.1),
      ),
    )

-- what is behind an item is shorter
item_shorter : (a : List RawItem) (tokens rest : List PlacedToken) → IsGot IsAny ItemOf a tokens rest → length rest < length tokens
item_shorter a tokens rest is = by is.used is.whole (is.spelled [] tt)
  where
    by : (used : List PlacedToken) → tokens ≡ used ++ rest → ItemOf a (bare used ++ []) [] → length rest < length tokens
    by [] whole spelled = absurd (written_some spelled.0 [] (sym spelled.3))
    by (u ∷ used) whole spelled = omega (arith, ap length whole, length-append used rest)

-- the reader of items tells of the items that the tokens are
items_tell : (turns : ℕ) (tokens : List PlacedToken) → length tokens ≤ turns → HaveShortNames tokens
    → Tells IsNothing ItemsOf tokens (items_at turns tokens)
unfolding items_at
items_tell turns [] few short = record {
  used = [];
  whole = refl;
  behind = refl;
  spelled = λ others none. (no_items others none, none);
  closed = nothing_closed;
}
items_tell zero (token ∷ tokens) few short = absurd (omega (arith, few))
items_tell (suc turns) (token ∷ tokens) few short =
    change_tells IsNothing ItemAndOthers ItemsOf (token ∷ tokens) _ items_forth
    (λ a others rest follows is. items_back a token.token follows.0 others rest follows.1 is)
    (then_tells IsNothing ItemOf (λ items. Gives (λ others. items ++ others) ItemsOf) (token ∷ tokens)
    (λ items. items_at turns >>= (λ others. pure (items ++ others))) one_item
    (λ items. some_gives IsNothing (λ others. items ++ others) ItemsOf some_items)
    (λ items rest is. gives_tells IsNothing ItemsOf (λ others. items ++ others) rest (items_at turns rest)
    (items_tell turns rest (omega (arith, few, item_shorter items (token ∷ tokens) rest is)) (short_rest IsAny ItemOf items (token ∷ tokens) rest is short)))
    (item_at (token ∷ tokens)) (item_tells (token ∷ tokens) short))

-- tokens are at most one list of items
pub one_items : IsOne ItemsOf
one_items a b tokens rest other is_a is_b = (
  is_a.0.gives ∙ by is_a.0.written is_b.0.written
      (recursion_from_All IsWritten is_a.0.written is_a.0.each) (recursion_from_All IsWritten is_b.0.written is_b.0.each)
      (sym is_a.0.whole ∙ is_b.0.whole) ∙ sym is_b.0.gives,
  is_a.1 ∙ sym is_b.1,
)
  where
    by : (v w : List WrittenItem) → AllByRecursion IsWritten v → AllByRecursion IsWritten w
        → flat_map written_tokens v ≡ flat_map written_tokens w → flat_map written_items v ≡ flat_map written_items w
    by [] [] each_v each_w e = refl
    by [] (w ∷ ws) each_v each_w e = absurd (written_some w (flat_map written_tokens ws) (sym e))
    by (v ∷ vs) [] each_v each_w e = absurd (written_some v (flat_map written_tokens vs) e)
    by (v ∷ vs) (w ∷ ws) each_v each_w e =
        let same = one_item (written_items v) (written_items w) (flat_map written_tokens (v ∷ vs)) (flat_map written_tokens vs) (flat_map written_tokens ws)
        (v, each_v.0, refl, refl) (w, each_w.0, refl, e) in
        let behind = by vs ws each_v.1 each_w.1 same.1 in
        λ i. same.0 i ++ behind i

-- the token as this sign
abbrev pub sign_value : Sign → FileToken → Option (Unit {0})
sign_value sign token = cond (is_sign sign token) (Some tt) None

-- this sign stands before the rest
abbrev pub SignOf : Sign → Spelling (Unit {0})
SignOf sign = TokenOf (sign_value sign)

-- a sign with a value is this sign
pub sign_value_is : (sign : Sign) (token : FileToken) (done : Unit {0}) → sign_value sign token ≡ Some done → token ≡ SignToken sign
sign_value_is sign token done h = sign_true sign token (cond_some {A = Unit {0}} (is_sign sign token) tt done h).0

-- the reader of a sign that is no bracket tells of it
pub sign_tells : (sign : Sign) → sign_value sign (SignToken sign) ≡ Some tt
    → (SignToken sign ≡ SignToken OpenBracket → ⊥) → (SignToken sign ≡ SignToken CloseBracket → ⊥)
    → (tokens : List PlacedToken) → HaveShortNames tokens → Tells IsAny (SignOf sign) tokens (sign_at sign tokens)
unfolding sign_at
sign_tells sign same not_open not_close tokens short =
    token_tells (sign_value sign) (SignToken sign) tt same
    (λ token done has is. elim is [
      | inl e ↦ not_open (sym (sign_value_is sign token done has) ∙ e)
      | inr e ↦ not_close (sym (sign_value_is sign token done has) ∙ e)
    ])
    tokens short

-- the tokens are a rule, and nothing is behind it
abbrev pub RuleOf : Spelling RawRule
RuleOf rule tokens rest = SpellsRule rule tokens × (rest ≡ [])

-- the rule of these parts
abbrev rule_of : Label → CatName → List RawItem → RawRule
rule_of label cat items = record { label = label; cat = cat; items = items }

-- behind the sign `::=` of a rule with this label and category: the items
abbrev BehindGives : Label → CatName → Spelling RawRule
BehindGives label cat = Gives (rule_of label cat) ItemsOf

-- behind the category: the sign `::=` and the items
abbrev BehindCategory : Label → CatName → Spelling RawRule
BehindCategory label cat = Then (SignOf GivesSign) (λ done. BehindGives label cat)

-- behind the dot: the category and what is behind it
abbrev BehindDot : Label → Spelling RawRule
BehindDot label = Then Category (BehindCategory label)

-- behind the label: a dot and what is behind it
abbrev BehindLabel : Label → Spelling RawRule
BehindLabel label = Then (SignOf Dot) (λ done. BehindDot label)

-- the parts of a rule
abbrev RuleParts : Spelling RawRule
RuleParts = Then LabelOf BehindLabel

-- the reader behind the sign `::=`
abbrev behind_gives : Label → CatName → Reader RawRule
behind_gives label cat = side_at >>= (λ items. pure (rule_of label cat items))

-- the reader behind the category
abbrev behind_category : Label → CatName → Reader RawRule
behind_category label cat = sign_at GivesSign >>= (λ done. behind_gives label cat)

-- the reader behind the dot
abbrev behind_dot : Label → Reader RawRule
behind_dot label = category_at >>= behind_category label

-- the reader behind the label
abbrev behind_label : Label → Reader RawRule
behind_label label = sign_at Dot >>= (λ done. behind_dot label)

-- the parts make a rule
rule_forth : (rule : RawRule) (tokens rest : List FileToken) → RuleParts rule tokens rest → RuleOf rule tokens rest
rule_forth rule tokens rest is =
    let dot = is.3 in
    let cat = dot.3 in
    let gives = cat.3 in
    let items = gives.3 in
    let is_dot = sign_value_is Dot dot.2.0 dot.0 dot.2.1 in
    let is_gives = sign_value_is GivesSign gives.2.0 gives.0 gives.2.1 in
    let behind_cat : cat.1 ≡ SignToken GivesSign ∷ gives.1 = gives.2.2 ∙ ap (λ t. t ∷ gives.1) is_gives in
    let at_cat : dot.1 ≡ category_tokens cat.0 ++ (SignToken GivesSign ∷ gives.1) = cat.2.1 ∙ ap (λ zs. category_tokens cat.0 ++ zs) behind_cat in
    let behind : is.1 ≡ SignToken Dot ∷ (category_tokens cat.0 ++ (SignToken GivesSign ∷ gives.1)) = dot.2.2 ∙ (λ i. is_dot i ∷ at_cat i) in
    let own : SpellsRule (rule_of is.0 cat.0 items.0) tokens = record {
      is_label = is.2.0;
      is_cat = cat.2.0;
      side = gives.1;
      items = items.2.0;
      whole = is.2.1 ∙ ap (λ zs. label_tokens is.0 ++ zs) behind;
    } in
    (subst (λ r. SpellsRule r tokens) (sym items.1) own, items.2.1)

-- a rule is made of the parts
rule_back : (rule : RawRule) (tokens rest : List FileToken) → RuleOf rule tokens rest → RuleParts rule tokens rest
rule_back rule tokens rest is =
    let own = is.0 in
    let behind_cat : List FileToken = SignToken GivesSign ∷ own.side in
    let behind_dot : List FileToken = category_tokens rule.cat ++ behind_cat in (
      rule.label,
      SignToken Dot ∷ behind_dot,
      (own.is_label, own.whole),
      (
        tt,
        behind_dot,
        (SignToken Dot, refl, refl),
        (
          rule.cat,
          behind_cat,
          (own.is_cat, refl),
          (tt, own.side, (SignToken GivesSign, refl, refl), (rule.items, refl, (own.items, is.1))),
        ),
      ),
    )

-- tokens are at most one rule
pub one_rule : IsOne RuleOf
one_rule = one_change RuleParts RuleOf
    (one_then LabelOf BehindLabel one_label (λ label.
    one_then (SignOf Dot) (λ done. BehindDot label) (one_token (sign_value Dot)) (λ done.
    one_then Category (BehindCategory label) one_category (λ cat.
    one_then (SignOf GivesSign) (λ done. BehindGives label cat) (one_token (sign_value GivesSign)) (λ done.
    one_gives (rule_of label cat) ItemsOf one_items)))))
    rule_back

-- some right side can be read
some_behind_gives : (label : Label) (cat : CatName) → GoesOn IsNothing (BehindGives label cat) []
some_behind_gives label cat = some_gives IsNothing (rule_of label cat) ItemsOf some_items

-- something can be read behind the category
some_behind_category : (label : Label) (cat : CatName) → GoesOn IsNothing (BehindCategory label cat) []
some_behind_category label cat =
    some_then IsNothing (SignOf GivesSign) (λ done. BehindGives label cat) (λ done. some_behind_gives label cat)
    (token_some (sign_value GivesSign) (SignToken GivesSign) tt refl)

-- something can be read behind the dot
some_behind_dot : (label : Label) → GoesOn IsNothing (BehindDot label) []
some_behind_dot label = some_then IsNothing Category (BehindCategory label) (some_behind_category label) some_category

-- something can be read behind the label
some_behind_label : (label : Label) → GoesOn IsNothing (BehindLabel label) []
some_behind_label label =
    some_then IsNothing (SignOf Dot) (λ done. BehindDot label) (λ done. some_behind_dot label)
    (token_some (sign_value Dot) (SignToken Dot) tt refl)

-- some rule can be read
pub some_rule : GoesOn IsNothing RuleOf []
some_rule =
    let parts = some_then IsNothing LabelOf BehindLabel some_behind_label some_label in
    (parts.0, parts.1, λ others none. rule_forth parts.0 (parts.1 ++ others) others (parts.2 others none))

-- the reader of a right side tells of it
side_tells : (label : Label) (cat : CatName) (tokens : List PlacedToken) → HaveShortNames tokens
    → Tells IsNothing (BehindGives label cat) tokens (behind_gives label cat tokens)
unfolding side_at
side_tells label cat tokens short =
    gives_tells IsNothing ItemsOf (rule_of label cat) tokens (items_at (length tokens) tokens)
    (items_tell (length tokens) tokens (omega arith) short)

-- the reader behind the category tells of what is there
behind_category_tells : (label : Label) (cat : CatName) (tokens : List PlacedToken) → HaveShortNames tokens
    → Tells IsNothing (BehindCategory label cat) tokens (behind_category label cat tokens)
behind_category_tells label cat tokens short =
    then_tells IsNothing (SignOf GivesSign) (λ done. BehindGives label cat) tokens (λ done. behind_gives label cat)
    (one_token (sign_value GivesSign)) (λ done. some_behind_gives label cat)
    (λ done rest is. side_tells label cat rest (short_rest IsAny (SignOf GivesSign) done tokens rest is short))
    (sign_at GivesSign tokens) (sign_tells GivesSign refl (λ e. cc e) (λ e. cc e) tokens short)

-- the reader behind the dot tells of what is there
behind_dot_tells : (label : Label) (tokens : List PlacedToken) → HaveShortNames tokens
    → Tells IsNothing (BehindDot label) tokens (behind_dot label tokens)
behind_dot_tells label tokens short =
    then_tells IsNothing Category (BehindCategory label) tokens (behind_category label) one_category (some_behind_category label)
    (λ cat rest is. behind_category_tells label cat rest (short_rest IsAny Category cat tokens rest is short))
    (category_at tokens) (category_tells tokens)

-- the reader behind the label tells of what is there
behind_label_tells : (label : Label) (tokens : List PlacedToken) → HaveShortNames tokens
    → Tells IsNothing (BehindLabel label) tokens (behind_label label tokens)
behind_label_tells label tokens short =
    then_tells IsNothing (SignOf Dot) (λ done. BehindDot label) tokens (λ done. behind_dot label)
    (one_token (sign_value Dot)) (λ done. some_behind_dot label)
    (λ done rest is. behind_dot_tells label rest (short_rest IsAny (SignOf Dot) done tokens rest is short))
    (sign_at Dot tokens) (sign_tells Dot refl (λ e. cc e) (λ e. cc e) tokens short)

-- the reader of a rule tells of the rule that the tokens are
pub rule_tells : (tokens : List PlacedToken) → HaveShortNames tokens → Tells IsNothing RuleOf tokens (rule_at tokens)
unfolding rule_at
rule_tells tokens short =
    change_tells IsNothing RuleParts RuleOf tokens _ rule_forth (λ a others rest follows. rule_back a others rest)
    (then_tells IsNothing LabelOf BehindLabel tokens behind_label one_label some_behind_label
    (λ label rest is. behind_label_tells label rest (short_rest IsAny LabelOf label tokens rest is short))
    (label_at tokens) (label_tells tokens short))
