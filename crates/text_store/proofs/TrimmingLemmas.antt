-- Prefixes and suffixes that two lists of kinds share, as one kind more is compared, and the edit that leaves them out.
use Rattle.std.proofs.Common.{◌≡◌, ℕ, ◌+◌, ◌-◌, ◌<◌, List, [], ◌∷◌, ◌++◌, length, take, drop, get_or, Option, Some, None, false, not, refl, sym, ◌∙◌, ap, subst, arith, length-append}
use Rattle.std.proofs.lemmas.List.{take_more_same, drop_more, take-append-drop, length-drop, length-take-le, length-map, get_or-drop, get_or-take, get_or-map, take-map, drop-map}
use Rattle.std.proofs.Math.Dec.{eqb}
use Rattle.std.specs.Option.{option_eq}
use Rattle.std.proofs.lemmas.Bool.{eqb-true, not-false, false≢true}
use Rattle.std.proofs.Math.Seq.{get_or-append_seam}
use Rattle.spec_lexing.specs.declared.token.Token.{Token}
use Rattle.spec_lexing.specs.Tokens.{kinds_of}
use Rattle.text_store.specs.declared.token_edit.TokenEdit.{TokenEdit}
use Rattle.text_store.specs.TokenEdits.{BeginApart, EndApart, IsTrimmedEdit}
use Rattle.text_store.specs.Trimming.{SharePrefix, ShareSuffix, ShareLongestPrefix, ShareLongestSuffix}

-- lists of kinds
abbrev pub Kinds : Type 0
Kinds = List (Option ℕ)

-- one kind more of a prefix
pub prefix_more : (xs ys : Kinds) (len : ℕ) → SharePrefix xs ys len → len < length xs → len < length ys →
    get_or xs len None ≡ get_or ys len None → SharePrefix xs ys (len + 1)
prefix_more xs ys len h left right same = record {
  within_left = omega (arith, left);
  within_right = omega (arith, right);
  same = take_more_same xs ys len None left right h.same same;
}

-- one kind more of a suffix
pub suffix_more : (xs ys : Kinds) (len : ℕ) → ShareSuffix xs ys len → len < length xs → len < length ys →
    get_or xs (length xs - len - 1) None ≡ get_or ys (length ys - len - 1) None → ShareSuffix xs ys (len + 1)
suffix_more xs ys len h left right same = record {
  within_left = omega (arith, left);
  within_right = omega (arith, right);
  same =
      longer xs left ∙ ap (λ (x : Option ℕ). x ∷ drop (length xs - len) xs) same
      ∙ ap (λ (zs : Kinds). get_or ys (length ys - len - 1) None ∷ zs) h.same ∙ sym (longer ys right);
}
  where
    longer : (zs : Kinds) → len < length zs →
        drop (length zs - (len + 1)) zs ≡ get_or zs (length zs - len - 1) None ∷ drop (length zs - len) zs
    longer zs more =
        let before : length zs - (len + 1) ≡ length zs - len - 1 = omega (arith, more) in
        let behind : length zs - len - 1 + 1 ≡ length zs - len = omega (arith, more) in
        ap (λ (n : ℕ). drop n zs) before ∙ drop_more zs (length zs - len - 1) None (omega (arith, more))
        ∙ ap (λ (n : ℕ). get_or zs (length zs - len - 1) None ∷ drop n zs) behind

-- what stands first, and what stands last
first_of : (zs : Kinds) (x : Option ℕ) (us : Kinds) → zs ≡ x ∷ us → (0 < length zs) × (get_or zs 0 None ≡ x)
first_of zs x us is = (omega (arith, ap length is), ap (λ (q : Kinds). get_or q 0 None) is)

pub last_of : (zs : Kinds) (x : Option ℕ) (us : Kinds) → zs ≡ us ++ x ∷ [] →
    (0 < length zs) × (get_or zs (length zs - 1) None ≡ x)
last_of zs x us is =
    let size : length zs ≡ length us + 1 = ap length is ∙ length-append us (x ∷ []) in
    let place : length zs - 1 ≡ length us = omega (arith, size) in (
      omega (arith, size),
      ap (λ (n : ℕ). get_or zs n None) place
          ∙ ap (λ (q : Kinds). get_or q (length us) None) is ∙ get_or-append_seam us x [] None,
    )

module _ (old new : Kinds) (first kept : ℕ) (prefix : ShareLongestPrefix old new first)
    (suffix : ShareLongestSuffix (drop first old) (drop first new) kept) where
  -- what is left of a list behind the prefix, and of that before the suffix
  abbrev rest : Kinds → Kinds
  rest zs = drop first zs

  abbrev middle : Kinds → Kinds
  middle zs = take (length (rest zs) - kept) (rest zs)

  abbrev end : Kinds → Kinds
  end zs = drop (length (rest zs) - kept) (rest zs)

  -- both parts of the rest
  parts : (zs : Kinds) → middle zs ++ end zs ≡ rest zs
  parts zs = take-append-drop (length (rest zs) - kept) (rest zs)

  whole : (zs : Kinds) → take first zs ++ (middle zs ++ end zs) ≡ zs
  whole zs = ap (λ (q : Kinds). take first zs ++ q) (parts zs) ∙ take-append-drop first zs

  new_parts : new ≡ take first old ++ (middle new ++ end old)
  new_parts =
      sym (whole new) ∙ ap (λ (q : Kinds). q ++ (middle new ++ end new)) (sym prefix.shared.same)
      ∙ ap (λ (q : Kinds). take first old ++ (middle new ++ q)) (sym suffix.shared.same)

  begin_apart : BeginApart (middle old ++ end old) (middle new ++ end old)
  begin_apart x us vs left right =
      let l = first_of (rest old) x us (sym (parts old) ∙ left) in
      let r =
      first_of (rest new) x vs (sym (parts new)
      ∙ ap (λ (q : Kinds). middle new ++ q) (sym suffix.shared.same) ∙ right) in
      prefix.longest (omega (arith, l.0, length-drop first old)) (omega (arith, r.0, length-drop first new))
      (sym (at_first old) ∙ l.1 ∙ sym r.1 ∙ at_first new)
    where
      at_first : (zs : Kinds) → get_or (drop first zs) 0 None ≡ get_or zs first None
      at_first zs =
          let place : first + 0 ≡ first = omega arith in
          get_or-drop first zs 0 None ∙ ap (λ (n : ℕ). get_or zs n None) place

  end_apart : EndApart (middle old) (middle new)
  end_apart x us vs left right =
      let l = last_of (middle old) x us left in
      let r = last_of (middle new) x vs right in
      suffix.longest (omega (arith, l.0, size old)) (omega (arith, r.0, size new))
      (sym (at_last old l.0) ∙ l.1 ∙ sym r.1 ∙ at_last new r.0)
    where
      size : (zs : Kinds) → length (middle zs) ≡ length (rest zs) - kept
      size zs = length-take-le (length (rest zs) - kept) (rest zs) (omega arith)

      at_last : (zs : Kinds) → 0 < length (middle zs) →
          get_or (middle zs) (length (middle zs) - 1) None ≡ get_or (rest zs) (length (rest zs) - kept - 1) None
      at_last zs some =
          let place : length (middle zs) - 1 ≡ length (rest zs) - kept - 1 = omega (arith, size zs) in
          get_or-take (length (rest zs) - kept) (rest zs) (length (middle zs) - 1) None (omega (arith, some, size zs))
          ∙ ap (λ (n : ℕ). get_or (rest zs) n None) place

  -- the edit between both is trimmed
  pub trimmed : (edit : TokenEdit) → edit.first ≡ first → edit.deleted ≡ length (rest old) - kept →
      edit.inserted ≡ middle new → IsTrimmedEdit old new edit
  trimmed edit is_first count inserted = record {
    prefix = take first old;
    deleted = middle old;
    suffix = end old;
    first = is_first ∙ sym (length-take-le first old prefix.shared.within_left);
    count = count ∙ sym (length-take-le (length (rest old) - kept) (rest old) (omega arith));
    old_is = sym (whole old);
    new_is = new_parts ∙ ap (λ (q : Kinds). take first old ++ (q ++ end old)) (sym inserted);
    longest_prefix =
        subst (λ (q : Kinds). BeginApart (middle old ++ end old) (q ++ end old)) (sym inserted) begin_apart;
    longest_suffix = subst (EndApart (middle old)) (sym inserted) end_apart;
  }

-- the kind of the token at a place
pub kind_at : (tokens : List Token) (i : ℕ) (d : Token) → i < length tokens →
    get_or (kinds_of tokens) i None ≡ (get_or tokens i d).kind
kind_at tokens i d within = get_or-map (λ (token : Token). token.kind) tokens i d None within

kinds_len : (tokens : List Token) → length (kinds_of tokens) ≡ length tokens
kinds_len tokens = length-map tokens (λ (token : Token). token.kind)

-- one token more of which both kinds are the same
module _ (old new : List Token) (len : ℕ) (in_old : len < length old) (in_new : len < length new) (d e : Token) where
  pub prefix_token : (get_or old len d).kind ≡ (get_or new len e).kind →
      SharePrefix (kinds_of old) (kinds_of new) len → SharePrefix (kinds_of old) (kinds_of new) (len + 1)
  prefix_token same h =
      prefix_more (kinds_of old) (kinds_of new) len h (omega (arith, in_old, kinds_len old))
      (omega (arith, in_new, kinds_len new))
      (kind_at old len d in_old ∙ same ∙ sym (kind_at new len e in_new))

  pub suffix_token : (get_or old (length old - len - 1) d).kind ≡ (get_or new (length new - len - 1) e).kind →
      ShareSuffix (kinds_of old) (kinds_of new) len → ShareSuffix (kinds_of old) (kinds_of new) (len + 1)
  suffix_token same h =
      suffix_more (kinds_of old) (kinds_of new) len h (omega (arith, in_old, kinds_len old))
      (omega (arith, in_new, kinds_len new)) (at old d in_old ∙ same ∙ sym (at new e in_new))
    where
      at : (tokens : List Token) (f : Token) → len < length tokens →
          get_or (kinds_of tokens) (length (kinds_of tokens) - len - 1) None
          ≡ (get_or tokens (length tokens - len - 1) f).kind
      at tokens f within =
          ap (λ (n : ℕ). get_or (kinds_of tokens) (n - len - 1) None) (kinds_len tokens)
          ∙ kind_at tokens (length tokens - len - 1) f (omega (arith, within))

-- two kinds that are not found different are the same
pub same_kind : (x y : Option ℕ) → false ≡ not (option_eq eqb x y) → x ≡ y
same_kind None None h = refl
same_kind None (Some b) h = absurd (false≢true h)
same_kind (Some a) None h = absurd (false≢true h)
same_kind (Some a) (Some b) h = ap Some (eqb-true a b (not-false (eqb a b) (sym h)))

-- the edit from the kinds of some tokens to those of others, by what is shared
pub trimmed_kinds : (old new old_rest new_rest : List Token) (first kept : ℕ) (inserted : Kinds) →
    old_rest ≡ drop first old → new_rest ≡ drop first new →
    ShareLongestPrefix (kinds_of old) (kinds_of new) first →
    ShareLongestSuffix (kinds_of old_rest) (kinds_of new_rest) kept →
    inserted ≡ kinds_of (take (length new_rest - kept) new_rest) →
    IsTrimmedEdit (kinds_of old) (kinds_of new)
    (record { first = first; deleted = length old_rest - kept; inserted = inserted })
trimmed_kinds old new old_rest new_rest first kept inserted old_is new_is prefix suffix is =
    let kind : Token → Option ℕ = λ (token : Token). token.kind in
    let old_kinds : kinds_of old_rest ≡ drop first (kinds_of old) =
    ap kinds_of old_is ∙ sym (drop-map kind first old) in
    let new_kinds : kinds_of new_rest ≡ drop first (kinds_of new) =
    ap kinds_of new_is ∙ sym (drop-map kind first new) in
    let behind : ShareLongestSuffix (drop first (kinds_of old)) (drop first (kinds_of new)) kept =
    subst (λ (q : Kinds). ShareLongestSuffix q (drop first (kinds_of new)) kept) old_kinds
    (subst (λ (q : Kinds). ShareLongestSuffix (kinds_of old_rest) q kept) new_kinds suffix) in
    let old_size : length old_rest ≡ length (drop first (kinds_of old)) =
    sym (kinds_len old_rest) ∙ ap length old_kinds in
    let new_size : length new_rest ≡ length (drop first (kinds_of new)) =
    sym (kinds_len new_rest) ∙ ap length new_kinds in
    trimmed (kinds_of old) (kinds_of new) first kept prefix behind
    (record { first = first; deleted = length old_rest - kept; inserted = inserted }) refl
    (ap (λ (n : ℕ). n - kept) old_size)
    (is ∙ sym (take-map kind (length new_rest - kept) new_rest)
    ∙ ap (take (length new_rest - kept)) new_kinds
    ∙ ap (λ (n : ℕ). take (n - kept) (drop first (kinds_of new))) new_size)
