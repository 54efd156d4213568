-- What is read of the tokens of a file is the definitions that they spell, or their first fault.
use Rattle.std.proofs.Common.{◌≡◌, ℕ, zero, suc, ◌-◌, ◌≤◌, ◌<◌, List, [], ◌∷◌, ◌++◌, length, take, Bool, true, false, cond, Result, Ok, Err, ◌⊎◌, inl, inr, refl, sym, ap, subst, ◌∙◌, append_assoc, arith, length-append}
use Rattle.std.proofs.Math.Seq.{take-append_seam}
use Rattle.std.proofs.lemmas.Bool.{false≢true}
use Rattle.std.proofs.lemmas.List.{append-nil, length-map}
use Rattle.spec_lbnf.specs.declared.definition.Def.{Def}
use Rattle.spec_lbnf.specs.declared.token.Sign.TheVariants.{Semicolon}
use Rattle.spec_lbnf.specs.declared.token.FileToken.{FileToken}
use Rattle.spec_lbnf.specs.declared.token.FileToken.TheVariants.{Identifier}
use Rattle.spec_lbnf.specs.declared.token.FileToken.TheVariants.{Sign as SignToken}
use Rattle.spec_lbnf.specs.declared.token.PlacedToken.{PlacedToken}
use Rattle.spec_lbnf.specs.GrammarFile.{category_tokens, SpellsDef, is_semicolon, pieces_of, AreSpelledBy, SpellsDefs}
use Rattle.spec_lbnf.specs.declared.fault.TextFault.{TextFault}
use Rattle.spec_lbnf.specs.declared.fault.TextFault.TheVariants.{Syntax}
use Rattle.spec_lbnf.specs.Faults.{bare, CanGoOn, LacksLong, HasLongCategory, last_piece, IsFirstLong}
use Rattle.lbnf_readers.specs.FileFaults.{piece_fault, token_fault}
use Rattle.lbnf_readers.proofs.RowLemmas.{at_token, at_bytes, at_end, FaultsAt, at_long, behind as goes_no_further}
use Rattle.lbnf_readers.specs.FileReading.{Read, got, stuck, long, def_at}
use Rattle.lbnf_readers.specs.FileDefinitions.{piece_at, behind_piece, offset_of, def_or_fault, piece_def, and_defs, defs_at, defs_of}
use Rattle.spec_lbnf.proofs.BoundaryLemmas.{IsClosed, IsOpenFront, closed_both, lacks_both, long_of_one, one_closed, nothing_closed}
use Rattle.lbnf_readers.proofs.ReaderLemmas.{IsNothing, GoesOn, IsGot, IsStuckAt, IsLongAt, Tells, HaveShortNames, short_behind, short_before, bare-append}
use Rattle.spec_lbnf.proofs.BracketLemmas.{category_no_close}
use Rattle.lbnf_readers.proofs.RuleLemmas.{category_some}
use Rattle.lbnf_readers.proofs.DefLemmas.{DefOf, def_tells, def_some}
use Rattle.spec_lbnf.proofs.PieceLemmas.{AreWithin, within_front, within_def, pieces_behind, one_piece, pieces_semicolon, pieces_ended, last_within, last_behind, semicolon_is, spelled_both, spelled_within}

-- a semicolon that cannot stand is a fault of syntax
semicolon_fault : (piece : List FileToken) (at : ℕ) → piece_fault piece (SignToken Semicolon) at ≡ Syntax at
semicolon_fault [] at = refl
semicolon_fault (Identifier first ∷ []) at = refl
semicolon_fault (Identifier first ∷ Identifier label ∷ []) at = refl
semicolon_fault piece at = refl

-- a front, by the length of what is behind it
front_of : (piece front rest : List PlacedToken) → piece ≡ front ++ rest → take (length piece - length rest) piece ≡ front
front_of piece front rest e =
    let len : length piece - length rest ≡ length front = omega (arith, ap length e, length-append front rest) in
    rw (len, e) (take-append_seam front rest)

-- a definition may begin, or the next token is a semicolon, if there is one
abbrev Fits : Bool → List FileToken → Type 0
Fits true more = Unit {0}
Fits false [] = Unit {0}
Fits false (token ∷ more) = is_semicolon token ≡ true

-- the tokens spell these definitions, whatever fits behind them
record IsDone (open_for_more : Bool) (earlier : List PlacedToken) (defs : List Def) : Type 0 where
  pub pieces : List (List FileToken)
  pub cut : (more : List FileToken) → Fits open_for_more more → pieces_of (bare earlier ++ more) ≡ pieces ++ pieces_of more
  pub spelled : AreSpelledBy defs pieces
  pub last : (more : List FileToken) → open_for_more ≡ true → last_piece (bare earlier ++ more) ≡ last_piece more
  pub closed : IsClosed (bare earlier)

-- no tokens spell no definitions
nothing_done : IsDone true [] []
nothing_done = record {
  pieces = [];
  cut = λ more fits. refl;
  spelled = tt;
  last = λ more is. refl;
  closed = nothing_closed;
}

-- a semicolon is closed
semicolon_closed : IsClosed (SignToken Semicolon ∷ [])
semicolon_closed = one_closed (SignToken Semicolon) (λ e. cc e) (λ e. cc e) tt

-- tokens in three parts
three_parts : (earlier front : List PlacedToken) (more : List FileToken)
    → bare (earlier ++ front) ++ more ≡ bare earlier ++ (bare front ++ more)
three_parts earlier front more =
    ap (λ zs. zs ++ more) (bare-append earlier front) ∙ append_assoc (bare earlier) (bare front) more

-- a semicolon behind definitions
done_semicolon : (open_for_more : Bool) (earlier : List PlacedToken) (defs : List Def) (token : PlacedToken)
    → is_semicolon token.token ≡ true → Fits open_for_more (token.token ∷ []) → IsDone open_for_more earlier defs
    → IsDone true (earlier ++ token ∷ []) defs
done_semicolon open_for_more earlier defs token is fits done =
    let semicolon = semicolon_is token.token is in
    record {
      pieces = done.pieces;
      cut = λ more any.
          ap pieces_of (three_parts earlier (token ∷ []) more)
          ∙ done.cut (token.token ∷ more) (fits_more open_for_more more fits)
          ∙ ap (λ ps. done.pieces ++ ps) (pieces_semicolon token.token more is);
      spelled = done.spelled;
      last = λ more same.
          ap last_piece (three_parts earlier (token ∷ []) more) ∙ last_behind (bare earlier) token.token more is;
      closed = rw (bare-append earlier (token ∷ []))
          (closed_both (bare earlier) (token.token ∷ []) done.closed (rw semicolon semicolon_closed));
    }
  where
    fits_more : (b : Bool) (more : List FileToken) → Fits b (token.token ∷ []) → Fits b (token.token ∷ more)
    fits_more true more fits = tt
    fits_more false more fits = fits

-- the pieces of a piece and what fits behind it
pieces_fit : (token : FileToken) (piece more : List FileToken) → AreWithin (token ∷ piece) → Fits false more
    → pieces_of ((token ∷ piece) ++ more) ≡ (token ∷ piece) ∷ pieces_of more
pieces_fit token piece [] within fits = ap pieces_of (append-nil (token ∷ piece)) ∙ one_piece token piece within
pieces_fit token piece (next ∷ more) within fits =
    pieces_ended token piece next more within fits ∙ ap (λ ps. (token ∷ piece) ∷ ps) (sym (pieces_semicolon next more fits))

-- a definition behind definitions
done_def : (earlier piece : List PlacedToken) (defs : List Def) (def : Def) → SpellsDef def (bare piece) → IsClosed (bare piece)
    → IsDone true earlier defs → IsDone false (earlier ++ piece) (defs ++ def ∷ [])
done_def earlier piece defs def spelled closed done = record {
  pieces = done.pieces ++ bare piece ∷ [];
  cut = λ more fits.
      ap pieces_of (three_parts earlier piece more)
      ∙ done.cut (bare piece ++ more) tt
      ∙ ap (λ ps. done.pieces ++ ps) (by (bare piece) more spelled fits)
      ∙ sym (append_assoc done.pieces (bare piece ∷ []) (pieces_of more));
  spelled = spelled_both defs (def ∷ []) done.pieces (bare piece ∷ []) done.spelled (spelled, tt);
  last = λ more same. absurd (false≢true same);
  closed = rw (bare-append earlier piece) (closed_both (bare earlier) (bare piece) done.closed closed);
}
  where
    by : (tokens more : List FileToken) → SpellsDef def tokens → Fits false more → pieces_of (tokens ++ more) ≡ tokens ∷ pieces_of more
    by [] more is fits = absurd (def_some def is)
    by (token ∷ tokens) more is fits = pieces_fit token tokens more (within_def def (token ∷ tokens) is) fits

-- where a definition can go on behind definitions, the file can
viable : (earlier front : List PlacedToken) (defs : List Def) (def : Def) (more : List FileToken) → IsDone true earlier defs
    → SpellsDef def (bare front ++ more) → CanGoOn (bare (earlier ++ front))
viable earlier front defs def more done spelled =
    let pieces : pieces_of (bare (earlier ++ front) ++ more) ≡ done.pieces ++ (bare front ++ more) ∷ []
    = ap pieces_of (three_parts earlier front more) ∙ done.cut (bare front ++ more) tt
    ∙ ap (λ ps. done.pieces ++ ps) (by (bare front ++ more) spelled) in
    let both = spelled_both defs (def ∷ []) done.pieces ((bare front ++ more) ∷ []) done.spelled (spelled, tt) in
    (more, defs ++ def ∷ [], subst (AreSpelledBy (defs ++ def ∷ [])) (sym pieces) both)
  where
    by : (tokens : List FileToken) → SpellsDef def tokens → pieces_of tokens ≡ tokens ∷ []
    by [] is = absurd (def_some def is)
    by (token ∷ tokens) is = one_piece token tokens (within_def def (token ∷ tokens) is)

-- the pieces of tokens that a token without a semicolon ends
pieces_begun : (front : List FileToken) (token : FileToken) (more : List FileToken) → AreWithin (front ++ token ∷ [])
    → (first : List FileToken) × (others : List (List FileToken))
    × (pieces_of (front ++ token ∷ more) ≡ (front ++ token ∷ first) ∷ others)
pieces_begun [] token more within = pieces_behind token [] more within
pieces_begun (x ∷ front) token more within =
    let pieces = pieces_behind x (front ++ token ∷ []) more within in
    let moved : (zs : List FileToken) → (x ∷ front ++ token ∷ []) ++ zs ≡ x ∷ front ++ token ∷ zs
    = λ zs. append_assoc (x ∷ front) (token ∷ []) zs in
    (pieces.0, pieces.1, ap pieces_of (sym (moved more)) ∙ pieces.2 ∙ ap (λ piece. piece ∷ pieces.1) (moved pieces.0))

-- the whole of the tokens, cut within a piece
cut_parts : (all earlier piece after front rest : List PlacedToken) → all ≡ earlier ++ (piece ++ after) → piece ≡ front ++ rest
    → all ≡ (earlier ++ front) ++ (rest ++ after)
cut_parts all earlier piece after front rest whole e =
    whole ∙ ap (λ ts. earlier ++ (ts ++ after)) e
    ∙ ap (λ ts. earlier ++ ts) (append_assoc front rest after)
    ∙ sym (append_assoc earlier front (rest ++ after))

module _ (bytes : List ℕ) (all : List PlacedToken) (stop : ℕ) where
  -- the tokens have a first fault
  pub record HasFault (fault : TextFault) : Type 0 where
    pub front : List PlacedToken
    pub rest : List PlacedToken
    pub split : all ≡ front ++ rest
    pub viable : CanGoOn (bare front)
    pub faults : FaultsAt bytes all stop front fault

  -- the tokens spell the definitions with these behind them, or have this fault
  abbrev pub Outcome : List Def → Result (List Def) TextFault → Type 0
  Outcome defs (Ok more) = SpellsDefs (defs ++ more) (bare all) × LacksLong (bare all)
  Outcome defs (Err fault) = HasFault fault

  module _ (ends : (stop < length bytes) ⊎ (stop ≡ length bytes)) (earlier : List PlacedToken) (defs : List Def)
      (done : IsDone true earlier defs)
      (first : PlacedToken) (others after : List PlacedToken) (whole : all ≡ earlier ++ ((first ∷ others) ++ after))
      (within : AreWithin (bare (first ∷ others))) where
    -- the piece that is read
    abbrev piece : List PlacedToken
    piece = first ∷ others

    -- a front of the piece has no category that is too long, with all before it
    lacks_front : (front : List PlacedToken) → IsOpenFront (bare front) → LacksLong (bare (earlier ++ front))
    lacks_front front closed = rw (bare-append earlier front) (lacks_both (bare earlier) (bare front) done.closed closed)

    -- the file can go on behind a front of the piece that can
    viable_front : (front : List PlacedToken) → GoesOn IsNothing DefOf (bare front) → CanGoOn (bare (earlier ++ front))
    viable_front front goes = viable earlier front defs goes.0 (goes.1 ++ []) done (goes.2 [] refl).0

    -- the fault of a token within the piece is that of the file
    fault_within : (front : List PlacedToken) → AreWithin (bare front) → (token : FileToken) (at : ℕ)
        → piece_fault (bare front) token at ≡ token_fault (bare (earlier ++ front)) token at
    fault_within front within_front token at = ap (λ ts. piece_fault ts token at) (sym last)
      where
        last : last_piece (bare (earlier ++ front)) ≡ bare front
        last = ap last_piece (bare-append earlier front) ∙ done.last (bare front) refl ∙ last_within (bare front) within_front

    -- the piece cannot go on with a token of it
    stuck_within : (token : PlacedToken) (rest : List PlacedToken) (is : IsStuckAt IsNothing DefOf piece (token ∷ rest))
        → HasFault (piece_fault (bare is.front) token.token token.offset)
    stuck_within token rest is = record {
      front = earlier ++ is.front;
      rest = token ∷ rest ++ after;
      split = split;
      viable = viable_front is.front is.goes_on;
      faults = goes_no_further (lacks_front is.front is.closed)
          (at_token token (rest ++ after) split stuck_here (fault_within is.front own_within token.token token.offset));
    }
      where
        split : all ≡ (earlier ++ is.front) ++ (token ∷ rest ++ after)
        split = cut_parts all earlier piece after is.front (token ∷ rest) whole is.whole

        parts : bare piece ≡ bare is.front ++ (token.token ∷ bare rest)
        parts = ap bare is.whole ∙ bare-append is.front (token ∷ rest)

        begun_within : AreWithin (bare is.front ++ token.token ∷ [])
        begun_within = within_front (bare is.front ++ token.token ∷ []) (bare rest)
            (subst AreWithin (parts ∙ sym (append_assoc (bare is.front) (token.token ∷ []) (bare rest))) within)

        own_within : AreWithin (bare is.front)
        own_within = within_front (bare is.front) (token.token ∷ []) begun_within

        stuck_here : CanGoOn (bare (earlier ++ is.front) ++ token.token ∷ []) → ⊥
        stuck_here can =
            let begun = pieces_begun (bare is.front) token.token can.0 begun_within in
            let e : (bare (earlier ++ is.front) ++ token.token ∷ []) ++ can.0 ≡ bare earlier ++ (bare is.front ++ (token.token ∷ can.0))
            = append_assoc (bare (earlier ++ is.front)) (token.token ∷ []) can.0 ∙ three_parts earlier is.front (token.token ∷ can.0) in
            let cut : pieces_of ((bare (earlier ++ is.front) ++ token.token ∷ []) ++ can.0)
            ≡ done.pieces ++ (bare is.front ++ token.token ∷ begun.0) ∷ begun.1
            = ap pieces_of e ∙ done.cut (bare is.front ++ (token.token ∷ can.0)) tt ∙ ap (λ ps. done.pieces ++ ps) begun.2 in
            let one = spelled_within can.1 done.pieces (bare is.front ++ token.token ∷ begun.0) begun.1
            (subst (AreSpelledBy can.1) cut can.2) in
            is.blocked (token.token ∷ begun.0) one.0 [] (begun.0, refl) (one.1, refl)

    -- the piece ends too early
    stuck_behind : IsStuckAt IsNothing DefOf piece [] → Fits false (bare after) → HasFault (Syntax (offset_of after stop))
    stuck_behind is fits = by after whole fits
      where
        front_is : is.front ≡ piece
        front_is = sym (append-nil is.front) ∙ sym is.whole

        no_def : (def : Def) → SpellsDef def (bare piece) → ⊥
        no_def def spelled =
            let moved : SpellsDef def (bare is.front ++ []) =
            subst (SpellsDef def) (ap bare (sym front_is) ∙ sym (append-nil (bare is.front))) spelled in
            is.blocked [] def [] refl (moved, refl)

        goes : CanGoOn (bare (earlier ++ piece))
        goes = viable_front piece (subst (λ ts. GoesOn IsNothing DefOf (bare ts)) front_is is.goes_on)

        lacks : LacksLong (bare (earlier ++ piece))
        lacks = lacks_front piece (subst (λ ts. IsOpenFront (bare ts)) front_is is.closed)

        none_spelled : (list : List Def) (more : List FileToken) → Fits false more
            → SpellsDefs list (bare (earlier ++ piece) ++ more) → ⊥
        none_spelled list more fits_more spelled =
            let cut : pieces_of (bare (earlier ++ piece) ++ more) ≡ done.pieces ++ bare piece ∷ pieces_of more
            = ap pieces_of (three_parts earlier piece more) ∙ done.cut (bare piece ++ more) tt
            ∙ ap (λ ps. done.pieces ++ ps) (pieces_fit first.token (bare others) more within fits_more) in
            let one = spelled_within list done.pieces (bare piece) (pieces_of more) (subst (AreSpelledBy list) cut spelled) in
            no_def one.0 one.1

        by : (after : List PlacedToken) → all ≡ earlier ++ (piece ++ after) → Fits false (bare after)
            → HasFault (Syntax (offset_of after stop))
        by [] whole fits = record {
          front = earlier ++ piece;
          rest = [];
          split = is_all ∙ sym (append-nil (earlier ++ piece));
          viable = goes;
          faults = goes_no_further lacks (elim ends [
            | inl early ↦ at_bytes is_all early refl
            | inr end ↦ at_end is_all end refl (λ list spelled.
                none_spelled list [] tt (subst (SpellsDefs list) (ap bare is_all ∙ sym (append-nil (bare (earlier ++ piece)))) spelled))
          ]);
        }
          where
            is_all : all ≡ earlier ++ piece
            is_all = whole ∙ ap (λ ts. earlier ++ ts) (append-nil piece)
        by (semicolon ∷ rest) whole fits = record {
          front = earlier ++ piece;
          rest = semicolon ∷ rest;
          split = whole ∙ sym (append_assoc earlier piece (semicolon ∷ rest));
          viable = goes;
          faults = goes_no_further lacks
              (at_token semicolon rest (whole ∙ sym (append_assoc earlier piece (semicolon ∷ rest)))
              (λ can. none_spelled can.1 (semicolon.token ∷ can.0) fits
              (subst (SpellsDefs can.1) (append_assoc (bare (earlier ++ piece)) (semicolon.token ∷ []) can.0) can.2))
              (rw (semicolon_is semicolon.token fits) (sym (semicolon_fault (last_piece (bare (earlier ++ piece))) semicolon.offset))));
        }

    -- the piece has a category that is too long
    too_long : (rest : List PlacedToken) → IsLongAt IsNothing DefOf piece rest → HasFault (Syntax (offset_of rest (offset_of after stop)))
    too_long rest is = by is.begins.own is.begins.whole is.begins.spelled is.goes_on
      where
        before_closed : IsClosed (bare (earlier ++ is.front))
        before_closed = rw (bare-append earlier is.front) (closed_both (bare earlier) (bare is.front) done.closed is.closed)

        by : (own : List PlacedToken) → rest ≡ own ++ is.begins.behind → bare own ≡ category_tokens is.begins.cat
            → GoesOn IsNothing DefOf (bare is.front ++ bare own) → HasFault (Syntax (offset_of rest (offset_of after stop)))
        by [] e spelled goes =
            absurd (category_some is.begins.cat [] (append-nil (category_tokens is.begins.cat) ∙ sym spelled))
        by (token ∷ own) e spelled goes = record {
          front = earlier ++ (is.front ++ token ∷ own);
          rest = is.begins.behind ++ after;
          split = cut_parts all earlier piece after (is.front ++ token ∷ own) is.begins.behind whole
              (is.whole ∙ ap (λ ts. is.front ++ ts) e ∙ sym (append_assoc is.front (token ∷ own) is.begins.behind));
          viable = viable_front (is.front ++ token ∷ own) (rw (bare-append is.front (token ∷ own)) goes);
          faults = at_long token.offset first_long (ap (λ ts. Syntax (offset_of ts (offset_of after stop))) e);
        }
          where
            split_long : earlier ++ (is.front ++ token ∷ own) ≡ (earlier ++ is.front) ++ token ∷ own
            split_long = sym (append_assoc earlier is.front (token ∷ own))

            in_bare : bare (earlier ++ (is.front ++ token ∷ own)) ≡ bare (earlier ++ is.front) ++ category_tokens is.begins.cat
            in_bare = ap bare split_long ∙ bare-append (earlier ++ is.front) (token ∷ own) ∙ ap (λ ts. bare (earlier ++ is.front) ++ ts) spelled

            first_long : IsFirstLong (earlier ++ (is.front ++ token ∷ own)) token.offset
            first_long = record {
              before = earlier ++ is.front;
              first = token;
              behind = own;
              split = split_long;
              is_offset = refl;
              long = record {
                cat = is.begins.cat;
                is_cat = is.begins.is_cat;
                behind = [];
                stands = in_bare ∙ ap (λ ts. bare (earlier ++ is.front) ++ ts) (sym (append-nil (category_tokens is.begins.cat)));
                whole = before_closed.no_open;
                long = is.begins.long;
              };
              earlier = λ other has. later other (subst (λ ts. HasLongCategory ts other) in_bare has);
            }
              where
                later : (other : List FileToken)
                    → HasLongCategory (bare (earlier ++ is.front) ++ category_tokens is.begins.cat) other
                    → length (earlier ++ is.front) ≤ length other
                later other has =
                    elim (long_of_one (bare (earlier ++ is.front)) (category_tokens is.begins.cat) other before_closed.no_open
                    (category_no_close is.begins.cat) has) [
                      | inl within_before ↦ absurd (before_closed.lacks other within_before)
                      | inr at_category ↦
                          let len : length (bare (earlier ++ is.front)) ≡ length (earlier ++ is.front)
                          = length-map (earlier ++ is.front) (λ (t : PlacedToken). t.token) in
                          omega (arith, ap length at_category.1, length-append (bare (earlier ++ is.front)) at_category.0, len)
                    ]

    -- what is read of a whole piece is a definition that it spells
    got_whole : (def : Def) (rest : List PlacedToken) → IsGot IsNothing DefOf def piece rest → IsDone false (earlier ++ piece) (defs ++ def ∷ [])
    got_whole def rest is =
        let used_is : is.used ≡ piece = sym (append-nil is.used) ∙ ap (λ ts. is.used ++ ts) (sym (none rest is.behind)) ∙ sym is.whole in
        let spelled : SpellsDef def (bare piece) =
        subst (λ ts. SpellsDef def (bare ts)) used_is
        (subst (SpellsDef def) (append-nil (bare is.used)) (is.spelled [] refl).0) in
        done_def earlier piece defs def spelled (subst (λ ts. IsClosed (bare ts)) used_is is.closed) done
      where
        none : (rest : List PlacedToken) → bare rest ≡ [] → rest ≡ []
        none [] e = refl
        none (token ∷ rest) e = absurd (cc e)

    -- what is read of a piece, and of the tokens behind it
    read_piece : (x : Read Def) → Tells IsNothing DefOf piece x → Fits false (bare after) → (behind : Result (List Def) TextFault)
        → ((def : Def) → IsDone false (earlier ++ piece) (defs ++ def ∷ []) → Outcome (defs ++ def ∷ []) behind)
        → Outcome defs (and_defs (def_or_fault piece (offset_of after stop) x) behind)
    read_piece (got def rest) is fits (Ok more) behind_is =
        let behind = behind_is def (got_whole def rest is) in
        (subst (λ list. SpellsDefs list (bare all)) (append_assoc defs (def ∷ []) more) behind.0, behind.1)
    read_piece (got def rest) is fits (Err fault) behind_is = behind_is def (got_whole def rest is)
    read_piece (stuck []) is fits behind behind_is = stuck_behind is fits
    read_piece (stuck (token ∷ rest)) is fits behind behind_is =
        let own : take (length piece - length (token ∷ rest)) piece ≡ is.front = front_of piece is.front (token ∷ rest) is.whole in
        rw own (stuck_within token rest is)
    read_piece (long rest) is fits behind behind_is = too_long rest is

-- the tokens are those up to the first semicolon and those from it on
piece_whole : (tokens : List PlacedToken) → tokens ≡ piece_at tokens ++ behind_piece tokens
piece_whole [] = refl
piece_whole (token ∷ tokens) = by (is_semicolon token.token) (piece_whole tokens)
  where
    by : (b : Bool) → tokens ≡ piece_at tokens ++ behind_piece tokens
        → token ∷ tokens ≡ cond b [] (token ∷ piece_at tokens) ++ cond b (token ∷ tokens) (behind_piece tokens)
    by true e = refl
    by false e = ap (λ ts. token ∷ ts) e

-- there is no semicolon before the first
piece_within : (tokens : List PlacedToken) → AreWithin (bare (piece_at tokens))
piece_within [] = tt
piece_within (token ∷ tokens) = by (is_semicolon token.token) refl (piece_within tokens)
  where
    by : (b : Bool) → is_semicolon token.token ≡ b → AreWithin (bare (piece_at tokens))
        → AreWithin (bare (cond b [] (token ∷ piece_at tokens)))
    by true e within = tt
    by false e within = (e, within)

-- what stands behind a piece begins with a semicolon
behind_fits : (tokens : List PlacedToken) → Fits false (bare (behind_piece tokens))
behind_fits [] = tt
behind_fits (token ∷ tokens) = by (is_semicolon token.token) refl (behind_fits tokens)
  where
    by : (b : Bool) → is_semicolon token.token ≡ b → Fits false (bare (behind_piece tokens))
        → Fits false (bare (cond b (token ∷ tokens) (behind_piece tokens)))
    by true e fits = e
    by false e fits = fits

-- what fits begins with what fits
fits_first : (b : Bool) (token : FileToken) (more : List FileToken) → Fits b (token ∷ more) → Fits b (token ∷ [])
fits_first true token more fits = tt
fits_first false token more fits = fits

-- nothing fits
fits_nothing : (b : Bool) → Fits b []
fits_nothing true = tt
fits_nothing false = tt

module _ (bytes : List ℕ) (all : List PlacedToken) (stop : ℕ) (ends : (stop < length bytes) ⊎ (stop ≡ length bytes)) where
  -- what is read of the tokens behind definitions that are done, in so many turns
  abbrev TellsAll : ℕ → Type 0
  TellsAll turns =
      (open_for_more : Bool) (earlier tokens : List PlacedToken) (defs : List Def)
      → IsDone open_for_more earlier defs → Fits open_for_more (bare tokens) → all ≡ earlier ++ tokens
      → length tokens ≤ turns → HaveShortNames tokens
      → Outcome bytes all stop defs (defs_at turns tokens stop)

  -- behind the last token the definitions are those of the file
  tell_end : (open_for_more : Bool) (earlier : List PlacedToken) (defs : List Def)
      → IsDone open_for_more earlier defs → all ≡ earlier ++ [] → Outcome bytes all stop defs (Ok [])
  tell_end open_for_more earlier defs done whole =
      let is_all : all ≡ earlier = whole ∙ append-nil earlier in
      let cut : pieces_of (bare all) ≡ done.pieces
      = ap (λ ts. pieces_of (bare ts)) is_all ∙ ap pieces_of (sym (append-nil (bare earlier)))
      ∙ done.cut [] (fits_nothing open_for_more) ∙ append-nil done.pieces in
      let spelled : AreSpelledBy (defs ++ []) (pieces_of (bare all)) = rw (append-nil defs, cut) done.spelled in
      (spelled, subst (λ ts. LacksLong (bare ts)) (sym is_all) done.closed.lacks)

  -- the first token is a semicolon, or begins a definition
  tell_first : (turns : ℕ) → TellsAll turns → (open_for_more : Bool) (earlier : List PlacedToken) (token : PlacedToken)
      (tokens : List PlacedToken) (defs : List Def) → IsDone open_for_more earlier defs → Fits open_for_more (bare (token ∷ tokens))
      → all ≡ earlier ++ token ∷ tokens → length (token ∷ tokens) ≤ suc turns → HaveShortNames (token ∷ tokens)
      → (b : Bool) → is_semicolon token.token ≡ b
      → Outcome bytes all stop defs
      (cond b (defs_at turns tokens stop)
      (and_defs
      (piece_def (cond b [] (token ∷ piece_at tokens)) (offset_of (cond b (token ∷ tokens) (behind_piece tokens)) stop))
      (defs_at turns (cond b (token ∷ tokens) (behind_piece tokens)) stop)))
  unfolding piece_def
  tell_first turns tell open_for_more earlier token tokens defs done fits whole few short true e =
      tell true (earlier ++ token ∷ []) tokens defs
      (done_semicolon open_for_more earlier defs token e (fits_first open_for_more token.token (bare tokens) fits) done) tt
      (whole ∙ sym (append_assoc earlier (token ∷ []) tokens)) (omega (arith, few)) short.1
  tell_first turns tell false earlier token tokens defs done fits whole few short false e =
      absurd (false≢true (sym e ∙ fits))
  tell_first turns tell true earlier token tokens defs done fits whole few short false e =
      let piece : List PlacedToken = token ∷ piece_at tokens in
      let after : List PlacedToken = behind_piece tokens in
      let parts : token ∷ tokens ≡ piece ++ after = ap (λ ts. token ∷ ts) (piece_whole tokens) in
      let is_all : all ≡ earlier ++ (piece ++ after) = whole ∙ ap (λ ts. earlier ++ ts) parts in
      let within : AreWithin (bare piece) = (e, piece_within tokens) in
      let short_parts : HaveShortNames (piece ++ after) = subst HaveShortNames parts short in
      read_piece bytes all stop ends earlier defs done token (piece_at tokens) after is_all within
      (def_at piece) (def_tells piece (short_before piece after short_parts)) (behind_fits tokens)
      (defs_at turns after stop)
      (λ def done_there.
      tell false (earlier ++ piece) after (defs ++ def ∷ []) done_there (behind_fits tokens)
      (is_all ∙ sym (append_assoc earlier piece after))
      (omega (arith, few, ap length parts, length-append piece after))
      (short_behind piece after short_parts))

  -- what is read of all the tokens behind definitions that are done
  tell_all : (turns : ℕ) → TellsAll turns
  unfolding defs_at
  tell_all turns open_for_more earlier [] defs done fits whole few short =
      tell_end open_for_more earlier defs done whole
  tell_all zero open_for_more earlier (token ∷ tokens) defs done fits whole few short =
      absurd (omega (arith, few))
  tell_all (suc turns) open_for_more earlier (token ∷ tokens) defs done fits whole few short =
      tell_first turns (tell_all turns) open_for_more earlier token tokens defs done fits whole few short
      (is_semicolon token.token) refl

  -- what is read of a file's tokens is the definitions that they spell, or their first fault
  pub defs_tell : HaveShortNames all → Outcome bytes all stop [] (defs_of all stop)
  defs_tell short = tell_all (length all) true [] all [] nothing_done tt refl (omega arith) short
