-- What an automaton accepts of a text is the longest match of the least kind, and so the tokens that are
-- read by it are those of the text.
use Rattle.std.proofs.Common.{inl, inr, ◌≡◌, ◌≢◌, ℕ, suc, zero, ◌+◌, ◌-◌, ◌<◌, ◌≤◌, List, [], ◌∷◌, ◌++◌, length, take, drop, get_or, All, Option, Some, None, Bool, true, false, cond, nat_eq, nat_le, slice_get, slice_index_or, slice_range, refl, sym, ◌∙◌, ap, subst, arith, length-drop}
use Rattle.std.specs.Option.{option_map}
use Rattle.std.specs.Str.{IsUtf8}
use Rattle.std.proofs.lemmas.List.{take-append-drop, length-take-le, take_more, drop_more, drop-drop}
use Rattle.std.proofs.lemmas.List.Elements.{All-weaker, All-take, All-tail, All-head}
use Rattle.std.proofs.lemmas.Option.{none-some, same_Some}
use Rattle.spec_lexing.specs.Lexicon.{Lexicon}
use Rattle.spec_lexing.specs.LongestMatch.{IsLongestMatch, IsUnmatched}
use Rattle.spec_lexing.specs.Kinds.{LexKind, white, line_comment, block_comment, symbol, MatchesKind, token_kind, lex_kinds}
use Rattle.spec_lexing.specs.Tokens.{scalar_end}
use Rattle.spec_lexing.proofs.TokensLemmas.{skips, keeps, strays}
use Rattle.spec_automata.specs.ByteExpressions.{MatchesBytes}
use Rattle.spec_automata.specs.Encoding.{bytes_of_kind, bytes_of_kinds, IsSoundKind}
use Rattle.spec_automata.specs.Positions.{HasPosition}
use Rattle.spec_automata.specs.States.{AreBytes}
use Rattle.spec_automata.proofs.EncodingLemmas.{kinds_match}
use Rattle.lbnf_regex.specs.declared.kind.Kind.{Kind}
use Rattle.lbnf_regex.specs.declared.kind.Kind.TheVariants.{White, Comment, Symbol, Stray}
use Rattle.lbnf_regex.specs.Automata.{Machine, kind_at, walk}
use Rattle.lbnf_regex.specs.Lexicons.{MatchesAtPlace, IsLeastPlace, IsSoundLexicon, kind_of}
use Rattle.lbnf_regex.proofs.PositionLemmas.{last_to}
use Rattle.text_store.specs.declared.fronts.Front.{Front}
use Rattle.text_store.specs.TextStore.{IsSoundAutomatonOf}
use Rattle.text_store.specs.Lexing.{kind_in, kind_behind, AcceptsNone, IsLongestFront, IsLexeme}
use Rattle.text_store.proofs.KindEndLemmas.{IsCutKind, cut_is_sound, all_cut, kind_ends}
use Rattle.text_store.proofs.ScalarTextLemmas.{utf8_bytes, behind_stray}

-- what one kind matches, all of them as one match
any_matches : (kinds : List LexKind) (place : ℕ) (kind : LexKind) → slice_get kinds place ≡ Some kind →
    (bytes : List ℕ) → MatchesBytes (bytes_of_kind kind) bytes → MatchesBytes (bytes_of_kinds kinds) bytes
any_matches [] place kind is bytes m = absurd (none-some kind is)
any_matches (first ∷ kinds) zero kind is bytes m =
    inl (subst (λ (k : LexKind). MatchesBytes (bytes_of_kind k) bytes) (sym (same_Some first kind is)) m)
any_matches (first ∷ kinds) (suc place) kind is bytes m = inr (any_matches kinds place kind is bytes m)

-- what is true of all kinds is true of the one at a place
at_place : (P : LexKind → Type 0) (kinds : List LexKind) → All P kinds → (place : ℕ) (kind : LexKind) →
    slice_get kinds place ≡ Some kind → P kind
at_place P [] all place kind is = absurd (none-some kind is)
at_place P (first ∷ kinds) all zero kind is = subst P (same_Some first kind is) (All-head P first kinds all)
at_place P (first ∷ kinds) all (suc place) kind is = at_place P kinds (All-tail P first kinds all) place kind is

-- an automaton accepts no stray scalar
kind_at_is_none : (comments place : ℕ) → kind_at comments place ≡ Stray → ⊥
kind_at_is_none comments place e = by_tests (nat_eq place 0) (nat_le place comments) e
  where
    by_tests : (first within : Bool) →
        cond first White (cond within Comment (Symbol (place - comments - 1))) ≡ Stray → ⊥
    by_tests true within e = cc
    by_tests false true e = cc
    by_tests false false e = cc

pub never_stray : (a : Machine) (bytes : List ℕ) (kind : Kind) → kind_behind a bytes ≡ Some kind → kind ≡ Stray → ⊥
never_stray a bytes kind accepted stray = by_state (walk a.rows (Some 0) bytes) (accepted ∙ ap Some stray)
  where
    by_place : (place : Option ℕ) → option_map (kind_at a.comments) place ≡ Some Stray → ⊥
    by_place None e = none-some Stray e
    by_place (Some place) e = kind_at_is_none a.comments place (same_Some (kind_at a.comments place) Stray e)

    by_state : (state : Option ℕ) → kind_in a state ≡ Some Stray → ⊥
    by_state None e = none-some Stray e
    by_state (Some state) e = by_place (slice_index_or a.places state None) e

-- the number of a token of what a lexer calls so
pub symbol_number : (kind : LexKind) (number : ℕ) → kind_of kind ≡ Symbol number → token_kind kind ≡ Some number
symbol_number white number e = cc
symbol_number (line_comment opening) number e = cc
symbol_number (block_comment opening closing) number e = cc
symbol_number (symbol own kind) number e = let same : own ≡ number = cc in ap Some same

pub white_number : (kind : LexKind) → kind_of kind ≡ White → token_kind kind ≡ None
white_number white e = refl
white_number (line_comment opening) e = cc
white_number (block_comment opening closing) e = cc
white_number (symbol own kind) e = cc

pub comment_number : (kind : LexKind) → kind_of kind ≡ Comment → token_kind kind ≡ None
comment_number white e = cc
comment_number (line_comment opening) e = refl
comment_number (block_comment opening closing) e = refl
comment_number (symbol own kind) e = cc

module _ (lexicon : Lexicon) (a : Machine) (is : IsSoundAutomatonOf lexicon a) where
  -- all that is looked for
  abbrev kinds : List LexKind
  kinds = lex_kinds lexicon

  cut : All IsCutKind (lex_kinds lexicon)
  cut = all_cut lexicon is.sound

  sound : IsSoundLexicon lexicon
  sound = All-weaker IsCutKind IsSoundKind cut_is_sound (lex_kinds lexicon) cut

  -- bytes that some text begins with
  module _ (bytes rest : List ℕ) (some : bytes ≢ []) (text : IsUtf8 (bytes ++ rest)) where
    are_bytes : AreBytes bytes
    are_bytes = front_bytes bytes rest (utf8_bytes (bytes ++ rest) text)
      where
        front_bytes : (front behind : List ℕ) → AreBytes (front ++ behind) → AreBytes front
        front_bytes front behind are =
            subst AreBytes (take_front front behind) (All-take (λ b. b < 256) (length front) (front ++ behind) are)
          where
            take_front : (front behind : List ℕ) → take (length front) (front ++ behind) ≡ front
            take_front [] behind = refl
            take_front (b ∷ front) behind = ap (λ (q : List ℕ). b ∷ q) (take_front front behind)

    -- what a kind matches begins a spelling
    has_position : (place : ℕ) → MatchesAtPlace (lex_kinds lexicon) bytes place →
        HasPosition (bytes_of_kinds (lex_kinds lexicon)) bytes
    has_position place (kind, at, m) =
        let of_kind : MatchesBytes (bytes_of_kind kind) bytes =
        (kinds_match kind (at_place IsSoundKind (lex_kinds lexicon) sound place kind at) bytes rest are_bytes text).1 m in
        elim (last_to (bytes_of_kinds (lex_kinds lexicon)) 0 bytes (any_matches (lex_kinds lexicon) place kind at bytes of_kind)) [
          | inl none ↦ absurd (some none)
          | inr found ↦ (found.0, found.1)
        ]

    -- where nothing is accepted, no kind matches
    none_matches : kind_behind a bytes ≡ None → (place : ℕ) → MatchesAtPlace (lex_kinds lexicon) bytes place → ⊥
    none_matches none place m = by_state (walk a.rows (Some 0) bytes) refl none
      where
        by_place : (least : Option ℕ) → IsLeastPlace (lex_kinds lexicon) bytes least →
            option_map (kind_at a.comments) least ≡ None → ⊥
        by_place None never e = never place m
        by_place (Some least) is_least e = none-some (kind_at a.comments least) (sym e)

        by_state : (state : Option ℕ) → walk a.rows (Some 0) bytes ≡ state → kind_in a state ≡ None → ⊥
        by_state None leads e = ((is.automaton).exact bytes some are_bytes).0 leads (has_position place m)
        by_state (Some state) leads e =
            by_place (slice_index_or a.places state None)
            ((is.automaton).least sound bytes rest state some are_bytes text leads) e

    -- the least kind that matches, at its place, is called so
    pub record IsLeastKind (called : Kind) : Type 0 where
      pub place : ℕ
      pub kind : LexKind
      pub stands : slice_get (lex_kinds lexicon) place ≡ Some kind
      pub matches : MatchesKind kind bytes
      pub least : (other : ℕ) → other < place → MatchesAtPlace (lex_kinds lexicon) bytes other → ⊥
      pub is_called : kind_of kind ≡ called

    -- what is accepted is the least kind
    least_kind : (called : Kind) → kind_behind a bytes ≡ Some called → IsLeastKind called
    least_kind called accepted = by_state (walk a.rows (Some 0) bytes) refl accepted
      where
        by_place : (least : Option ℕ) → IsLeastPlace (lex_kinds lexicon) bytes least →
            option_map (kind_at a.comments) least ≡ Some called → IsLeastKind called
        by_place None never e = absurd (none-some called e)
        by_place (Some place) is_least e =
            let m = is_least.0 in
            record {
              place = place;
              kind = m.0;
              stands = m.1;
              matches = m.2;
              least = is_least.1;
              is_called = sym ((is.automaton).kinds place m.0 m.1) ∙ same_Some (kind_at a.comments place) called e;
            }

        by_state : (state : Option ℕ) → walk a.rows (Some 0) bytes ≡ state → kind_in a state ≡ Some called →
            IsLeastKind called
        by_state None leads e = absurd (none-some called e)
        by_state (Some state) leads e =
            by_place (slice_index_or a.places state None)
            ((is.automaton).least sound bytes rest state some are_bytes text leads) e

  -- at a place where the text goes on as UTF-8
  module _ (text : List ℕ) (start : ℕ) (within : start < length text) (utf8 : IsUtf8 (drop start text)) where
    left : length (drop start text) ≡ length text - start
    left = length-drop start text

    front_some : (len : ℕ) → 0 < len → len ≤ length (drop start text) → take len (drop start text) ≢ []
    front_some len more inside e =
        omega (arith, more, ap length e, length-take-le len (drop start text) inside)

    front_text : (len : ℕ) → IsUtf8 (take len (drop start text) ++ drop len (drop start text))
    front_text len = subst IsUtf8 (sym (take-append-drop len (drop start text))) utf8

    -- no kind matches a front that is not accepted
    no_match : (len : ℕ) → 0 < len → len ≤ length (drop start text) →
        kind_behind a (take len (drop start text)) ≡ None →
        (place : ℕ) → MatchesAtPlace (lex_kinds lexicon) (take len (drop start text)) place → ⊥
    no_match len more inside none =
        none_matches (take len (drop start text)) (drop len (drop start text)) (front_some len more inside) (front_text len) none

    -- where no front is accepted, nothing matches
    pub unmatched : AcceptsNone a (drop start text) 0 (length (drop start text)) →
        IsUnmatched MatchesKind (lex_kinds lexicon) text start
    unmatched none place end some inside m =
        no_match (end - start) (omega (arith, some)) (omega (arith, left, inside))
        (none (end - start) (omega (arith, some)) (omega (arith, left, inside))) place m

    -- a stray scalar, before the tokens behind it
    pub stray_lexeme : AcceptsNone a (drop start text) 0 (length (drop start text)) →
        IsLexeme lexicon text start
        (record {
          token = Some (record { kind = None; first = start; end = scalar_end text start });
          end = scalar_end text start;
        })
    stray_lexeme none = record {
      tokens = λ rest are.
          strays MatchesKind token_kind (lex_kinds lexicon) text start (scalar_end text start) rest within
          (unmatched none) refl are;
      goes_on = behind_stray text start within utf8;
    }

    module _ (front : Front) (longest : IsLongestFront a (drop start text) (length (drop start text)) front) where
      -- the front's bytes, and what lies behind them
      abbrev own : List ℕ
      own = take front.len (drop start text)

      least : IsLeastKind own (drop front.len (drop start text)) (front_some front.len longest.some longest.within)
          (front_text front.len) front.kind
      least =
          least_kind own (drop front.len (drop start text)) (front_some front.len longest.some longest.within)
          (front_text front.len) front.kind longest.accepted

      size : (start + front.len) - start ≡ front.len
      size = omega arith

      inside : start + front.len ≤ length text
      inside = omega (arith, longest.within, left)

      -- no longer front is matched
      no_longer : (other later : ℕ) → start + front.len < later → later ≤ length text →
          MatchesAtPlace (lex_kinds lexicon) (slice_range text start later) other → ⊥
      no_longer other later after within_text m =
          no_match (later - start) (omega (arith, after)) (omega (arith, left, within_text))
          (longest.longest (later - start) (omega (arith, after)) (omega (arith, left, within_text))) other m

      -- it is the longest match of the least kind
      is_longest : IsLongestMatch MatchesKind (lex_kinds lexicon) text least.place start (start + front.len)
      is_longest = record {
        some = omega (arith, longest.some);
        within = inside;
        matches = (
          least.kind,
          least.stands,
          subst (λ (n : ℕ). MatchesKind least.kind (take n (drop start text))) (sym size) least.matches,
        );
        longest = no_longer;
        least = λ other below m.
            least.least other below
            (subst (λ (n : ℕ). MatchesAtPlace (lex_kinds lexicon) (take n (drop start text)) other) size m);
      }

      -- and the text goes on behind it
      goes_on : IsUtf8 (drop (start + front.len) text)
      goes_on =
          subst IsUtf8 (drop-drop front.len start text)
          (kind_ends least.kind (at_place IsCutKind (lex_kinds lexicon) cut least.place least.kind least.stands) own
          (drop front.len (drop start text)) (front_text front.len) least.matches
          (λ byte behind rest_is more. stops byte behind rest_is more))
        where
          stops : (byte : ℕ) (behind : List ℕ) → drop front.len (drop start text) ≡ byte ∷ behind →
              MatchesKind least.kind (own ++ byte ∷ []) → ⊥
          stops byte behind rest_is more =
              let rest_size : length (drop front.len (drop start text)) ≡ suc (length behind) = ap length rest_is in
              let room : front.len < length (drop start text) =
              omega (arith, rest_size, length-drop front.len (drop start text)) in
              let head : get_or (drop start text) front.len 0 ≡ byte =
              let both : get_or (drop start text) front.len 0 ∷ drop (front.len + 1) (drop start text) ≡ byte ∷ behind =
              sym (drop_more (drop start text) front.len 0 room) ∙ rest_is in
              ap (λ (q : List ℕ). get_or q 0 0) both in
              let one : take (front.len + 1) (drop start text) ≡ own ++ byte ∷ [] =
              take_more (drop start text) front.len 0 room ∙ ap (λ (b : ℕ). own ++ b ∷ []) head in
              no_match (front.len + 1) (omega arith) (omega (arith, room))
              (longest.longest (front.len + 1) (omega arith) (omega (arith, room))) least.place
              (least.kind, least.stands, subst (MatchesKind least.kind) (sym one) more)

      -- a token of the kind's number, before the tokens behind it
      pub token_lexeme : (number : ℕ) → front.kind ≡ Symbol number →
          IsLexeme lexicon text start
          (record {
            token = Some (record { kind = Some number; first = start; end = start + front.len });
            end = start + front.len;
          })
      token_lexeme number called = record {
        tokens = λ rest are.
            keeps MatchesKind token_kind (lex_kinds lexicon) text start (start + front.len) least.place number least.kind
            rest is_longest least.stands (symbol_number least.kind number (least.is_called ∙ called)) are;
        goes_on = goes_on;
      }

      -- white space or a comment gives none
      skipped_lexeme : token_kind least.kind ≡ None →
          IsLexeme lexicon text start (record { token = None; end = start + front.len })
      skipped_lexeme none = record {
        tokens = λ rest are.
            skips MatchesKind token_kind (lex_kinds lexicon) text start (start + front.len) least.place least.kind rest
            is_longest least.stands none are;
        goes_on = goes_on;
      }

      pub white_lexeme : front.kind ≡ White →
          IsLexeme lexicon text start (record { token = None; end = start + front.len })
      white_lexeme called = skipped_lexeme (white_number least.kind (least.is_called ∙ called))

      pub comment_lexeme : front.kind ≡ Comment →
          IsLexeme lexicon text start (record { token = None; end = start + front.len })
      comment_lexeme called = skipped_lexeme (comment_number least.kind (least.is_called ∙ called))
