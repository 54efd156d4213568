-- A file has one first fault, or spells one list of definitions.
use Rattle.std.proofs.Common.{◌≡◌, ℕ, zero, suc, ◌+◌, ◌≤◌, ◌<◌, List, [], ◌∷◌, ◌++◌, length, take, slice_get, Bool, true, false, cond, Result, Ok, Err, ◌⊎◌, inl, inr, refl, sym, ap, subst, ◌∙◌, append_assoc, arith, length-append}
use Rattle.std.specs.Prelude.{IsUtf8}
use Rattle.std.specs.Str.{is_utf8}
use Rattle.std.specs.Str.Lossy.{utf8_valid_len, valid_len_up_to}
use Rattle.std.proofs.Math.Seq.{take-length}
use Rattle.std.proofs.lemmas.Bool.{false≢true, cases_lt}
use Rattle.std.proofs.lemmas.List.{append-nil, append_cancel_left, length-map}
use Rattle.std.proofs.lemmas.Str.{IsUtf8-from_is_utf8, is_utf8-from_IsUtf8, IsUtf8-nil, utf8_valid_len-IsUtf8}
use Rattle.spec_lbnf.specs.declared.definition.Def.{Def}
use Rattle.spec_lbnf.specs.declared.token.FileToken.{FileToken}
use Rattle.spec_lbnf.specs.declared.token.FileToken.TheVariants.{Identifier, Number, Text, Character}
use Rattle.spec_lbnf.specs.declared.token.FileToken.TheVariants.{Sign as SignToken}
use Rattle.spec_lbnf.specs.declared.token.PlacedToken.{PlacedToken}
use Rattle.spec_lbnf.specs.FileTokens.{IsScan, AreFileTokensFrom, IsTokenBefore}
use Rattle.spec_lbnf.specs.GrammarFile.{category_tokens, SpellsDefs, AreSpelledBy, pieces_of}
use Rattle.spec_lbnf.specs.declared.fault.TextFault.{TextFault}
use Rattle.spec_lbnf.specs.declared.fault.TextFault.TheVariants.{NotUtf8, Syntax, TooLarge, BadDifference}
use Rattle.spec_lbnf.specs.Faults.{bare, CanGoOn, HasLongCategory, LacksLong, IsSmallText, IsFirstLong, IsFront, FaultAt, HasForm, Spells, IsFirstBadAt, IsFirstFault, is_large, is_not_utf8, in_tokens, bad_difference}
use Rattle.spec_lbnf.specs.Checks.{HasAt}
use Rattle.spec_lbnf.specs.Differences.{differences_of, IsGood, IsBad, HasGoodDifferences, minus_signs}
use Rattle.spec_lbnf.proofs.FirstLemmas.{one_first, none_at}
use Rattle.lbnf_readers.proofs.DifferenceTests.{good_or_first, first_at}
use Rattle.std.proofs.lemmas.Option.{same_Some}
use Rattle.lbnf_readers.specs.FileFaults.{token_fault}
use Rattle.lbnf_readers.proofs.RowLemmas.{StopsBehind, at_token, at_bytes, at_end, FaultsAt, at_long, behind as goes_no_further, row_of, told_of}
use Rattle.lbnf_readers.specs.FileDefinitions.{defs_of}
use Rattle.lbnf_readers.specs.ReadingLaws.{OneListOfDefs, OneFileOfDefs, OneFirstFault, SpelledOrFaulty, DefsOrFault}
use Rattle.spec_lbnf.proofs.BoundaryLemmas.{two_cuts, long_before, long_of_one, IsShort}
use Rattle.lbnf_readers.proofs.ReaderLemmas.{HaveShortNames, bare-append}
use Rattle.spec_lbnf.proofs.BracketLemmas.{category_begins}
use Rattle.lbnf_readers.proofs.DefLemmas.{one_def}
use Rattle.lbnf_readers.proofs.DefsLemmas.{Outcome, HasFault, defs_tell}
use Rattle.lbnf_readers.proofs.ScanLemmas.{one_scan, rises, scanned}
use Rattle.lbnf_readers.specs.Scanning.{scan_of}

-- pieces spell at most one list of definitions
one_spelled : (a b : List Def) (pieces : List (List FileToken)) → AreSpelledBy a pieces → AreSpelledBy b pieces → a ≡ b
one_spelled [] [] [] is_a is_b = refl
one_spelled [] [] (x ∷ pieces) is_a is_b = absurd is_a
one_spelled [] (d ∷ b) [] is_a is_b = absurd is_b
one_spelled [] (d ∷ b) (x ∷ pieces) is_a is_b = absurd is_a
one_spelled (c ∷ a) b [] is_a is_b = absurd is_a
one_spelled (c ∷ a) [] (x ∷ pieces) is_a is_b = absurd is_b
one_spelled (c ∷ a) (d ∷ b) (x ∷ pieces) is_a is_b =
    let first = one_def c d x is_a.0 is_b.0 in
    let others = one_spelled a b pieces is_a.1 is_b.1 in
    λ i. first i ∷ others i

-- tokens spell at most one list of definitions
pub one_list_of_defs : OneListOfDefs
one_list_of_defs tokens a b = one_spelled a b (pieces_of tokens)

-- what can go on has fronts that can
front_goes_on : (front more : List FileToken) → CanGoOn (front ++ more) → CanGoOn front
front_goes_on front more can =
    (more ++ can.0, can.1, subst (SpellsDefs can.1) (append_assoc front more can.0) can.2)

-- what follows fronts of one length is the same
same_next : {A : Type 0} (xs ys us vs : List A) (x u : A) → xs ++ x ∷ ys ≡ us ++ u ∷ vs → length xs ≡ length us → x ≡ u
same_next [] ys [] vs x u e len = cc e
same_next [] ys (v ∷ us) vs x u e len = absurd (omega (arith, len))
same_next (y ∷ xs) ys [] vs x u e len = absurd (omega (arith, len))
same_next (y ∷ xs) ys (v ∷ us) vs x u e len =
    let tail : xs ++ x ∷ ys ≡ us ++ u ∷ vs = cc e in
    same_next xs ys us vs x u tail (omega (arith, len))

-- there are as many tokens without their offsets
bare_len : (tokens : List PlacedToken) → length (bare tokens) ≡ length tokens
bare_len tokens = length-map tokens (λ (t : PlacedToken). t.token)

-- the first category that is too long in a front is the first in the whole
same_long : (front gap : List PlacedToken) (p q : ℕ) → IsFirstLong front p → IsFirstLong (front ++ gap) q → p ≡ q
same_long front gap p q first second =
    first.is_offset ∙ ap (λ (t : PlacedToken). t.offset) next ∙ sym second.is_offset
  where
    in_whole : HasLongCategory (bare (front ++ gap)) (bare first.before)
    in_whole = rw (bare-append front gap) (long_before (bare front) (bare gap) (bare first.before) first.long)

    not_later : length second.before ≤ length first.before
    not_later = omega (arith, second.earlier (bare first.before) in_whole, bare_len first.before)

    rest : List FileToken
    rest = category_tokens in_whole.cat ++ in_whole.behind

    not_earlier : length first.before ≤ length second.before
    not_earlier =
        let there : HasLongCategory (bare first.before ++ (category_tokens in_whole.cat ++ in_whole.behind)) (bare second.before)
        = subst (λ ts. HasLongCategory ts (bare second.before)) in_whole.stands second.long in
        elim (long_of_one (bare first.before) (category_tokens in_whole.cat ++ in_whole.behind) (bare second.before)
        in_whole.whole (category_begins in_whole.cat in_whole.behind) there) [
          | inl has ↦
              let in_front : HasLongCategory (bare front) (bare second.before)
              = rw (ap bare first.split ∙ bare-append first.before (first.first ∷ first.behind))
              (long_before (bare first.before) (bare (first.first ∷ first.behind)) (bare second.before) has) in
              omega (arith, first.earlier (bare second.before) in_front, bare_len second.before)
          | inr has ↦
              omega (arith, ap length has.1, length-append (bare first.before) has.0, bare_len first.before, bare_len second.before)
        ]

    next : first.first ≡ second.first
    next =
        let e : first.before ++ first.first ∷ (first.behind ++ gap) ≡ second.before ++ second.first ∷ second.behind
        = sym (append_assoc first.before (first.first ∷ first.behind) gap) ∙ ap (λ ts. ts ++ gap) (sym first.split) ∙ second.split in
        same_next first.before (first.behind ++ gap) second.before second.behind first.first second.first e (omega (arith, not_later, not_earlier))

-- a front is no longer front
no_longer : (front gap rest : List PlacedToken) (token : PlacedToken) → front ≡ (front ++ token ∷ gap) ++ rest → ⊥
no_longer front gap rest token whole =
    omega (arith, ap length whole, length-append (front ++ token ∷ gap) rest, length-append front (token ∷ gap))

module _ (bytes : List ℕ) (all : List PlacedToken) (stop : ℕ) where
  -- where a front goes no further, no longer front can go on
  no_gap : (front gap rest : List PlacedToken) (fault : TextFault) → StopsBehind bytes all stop front fault
      → all ≡ (front ++ gap) ++ rest → CanGoOn (bare (front ++ gap)) → gap ≡ []
  no_gap front [] rest fault stops split can = refl
  no_gap front (token ∷ gap) rest fault (at_token next others whole stuck is) split can =
      let e : next ∷ others ≡ token ∷ gap ++ rest
      = append_cancel_left front (next ∷ others) (token ∷ gap ++ rest) (sym whole ∙ split ∙ append_assoc front (token ∷ gap) rest) in
      let same : token ≡ next = cc e in
      let parts : bare (front ++ token ∷ gap) ≡ (bare front ++ token.token ∷ []) ++ bare gap
      = bare-append front (token ∷ gap) ∙ sym (append_assoc (bare front) (token.token ∷ []) (bare gap)) in
      let can_next : CanGoOn (bare front ++ token.token ∷ []) = front_goes_on (bare front ++ token.token ∷ []) (bare gap) (subst CanGoOn parts can) in
      absurd (stuck (subst (λ (t : PlacedToken). CanGoOn (bare front ++ t.token ∷ [])) same can_next))
  no_gap front (token ∷ gap) rest fault (at_bytes whole early is) split can = absurd (no_longer front gap rest token (sym whole ∙ split))
  no_gap front (token ∷ gap) rest fault (at_end whole end is none) split can = absurd (no_longer front gap rest token (sym whole ∙ split))

  -- nothing stands behind the last token
  nothing_behind : (front others : List PlacedToken) (token : PlacedToken) → all ≡ front ++ token ∷ others → all ≡ front → ⊥
  nothing_behind front others token whole end =
      omega (arith, ap length (sym end ∙ whole), length-append front (token ∷ others))

  -- a front goes no further by one fault
  same_stop : (front : List PlacedToken) (a b : TextFault) → StopsBehind bytes all stop front a → StopsBehind bytes all stop front b → a ≡ b
  same_stop front a b (at_token s u whole_s stuck_s is_a) (at_token t v whole_t stuck_t is_b) =
      let e : s ∷ u ≡ t ∷ v = append_cancel_left front (s ∷ u) (t ∷ v) (sym whole_s ∙ whole_t) in
      let same : s ≡ t = cc e in
      is_a ∙ ap (λ (x : PlacedToken). token_fault (bare front) x.token x.offset) same ∙ sym is_b
  same_stop front a b (at_token s u whole_s stuck_s is_a) (at_bytes whole_t early is_b) = absurd (nothing_behind front u s whole_s whole_t)
  same_stop front a b (at_token s u whole_s stuck_s is_a) (at_end whole_t end is_b none) = absurd (nothing_behind front u s whole_s whole_t)
  same_stop front a b (at_bytes whole_s early is_a) (at_token t v whole_t stuck_t is_b) = absurd (nothing_behind front v t whole_t whole_s)
  same_stop front a b (at_end whole_s end is_a none) (at_token t v whole_t stuck_t is_b) = absurd (nothing_behind front v t whole_t whole_s)
  same_stop front a b (at_bytes whole_s early_s is_a) (at_bytes whole_t early_t is_b) = is_a ∙ sym is_b
  same_stop front a b (at_bytes whole_s early_s is_a) (at_end whole_t end is_b none) = is_a ∙ sym is_b
  same_stop front a b (at_end whole_s end is_a none) (at_bytes whole_t early is_b) = is_a ∙ sym is_b
  same_stop front a b (at_end whole_s end_s is_a none_s) (at_end whole_t end_t is_b none_t) = is_a ∙ sym is_b

  -- faults at a front and at a longer one are one
  same_fault : (front gap rest : List PlacedToken) (a b : TextFault) → FaultsAt bytes all stop front a → FaultsAt bytes all stop (front ++ gap) b
      → all ≡ (front ++ gap) ++ rest → CanGoOn (bare (front ++ gap)) → a ≡ b
  same_fault front gap rest a b (at_long p first is_a) (at_long q second is_b) split can =
      is_a ∙ ap Syntax (same_long front gap p q first second) ∙ sym is_b
  same_fault front gap rest a b (at_long p first is_a) (goes_no_further lacks stops) split can =
      absurd (lacks (bare first.before) (rw (bare-append front gap) (long_before (bare front) (bare gap) (bare first.before) first.long)))
  same_fault front gap rest a b (goes_no_further lacks stops) (at_long q second is_b) split can =
      let none = no_gap front gap rest a stops split can in
      let is_front : bare (front ++ gap) ≡ bare front = ap (λ ts. bare (front ++ ts)) none ∙ ap bare (append-nil front) in
      absurd (lacks (bare second.before) (subst (λ ts. HasLongCategory ts (bare second.before)) is_front second.long))
  same_fault front gap rest a b (goes_no_further lacks stops) (goes_no_further other_lacks other_stops) split can =
      let none = no_gap front gap rest a stops split can in
      let is_front : front ++ gap ≡ front = ap (λ ts. front ++ ts) none ∙ append-nil front in
      same_stop front a b stops (subst (λ ts. StopsBehind bytes all stop ts b) is_front other_stops)

  -- the tokens have at most one first fault
  pub one_of_tokens : (a b : TextFault) → HasFault bytes all stop a → HasFault bytes all stop b → a ≡ b
  one_of_tokens a b first second = elim (two_cuts first.front first.rest second.front second.rest (sym first.split ∙ second.split)) [
    | inl cut ↦
        same_fault first.front cut.0 second.rest a b first.faults
        (subst (λ ts. FaultsAt bytes all stop ts b) cut.1 second.faults)
        (second.split ∙ ap (λ ts. ts ++ second.rest) cut.1)
        (subst (λ ts. CanGoOn (bare ts)) cut.1 second.viable)
    | inr cut ↦
        let gap : List PlacedToken = cut.0 ∷ cut.1 in
        sym (same_fault second.front gap first.rest b a second.faults
        (subst (λ ts. FaultsAt bytes all stop ts a) cut.2 first.faults)
        (first.split ∙ ap (λ ts. ts ++ first.rest) cut.2)
        (subst (λ ts. CanGoOn (bare ts)) cut.2 first.viable))
  ]

-- the longest front that is UTF-8 is a front
valid_within : (bytes : List ℕ) (n : ℕ) → valid_len_up_to bytes n ≤ n
valid_within bytes zero = omega arith
valid_within bytes (suc n) = by (is_utf8 (take (suc n) bytes)) (valid_within bytes n)
  where
    by : (b : Bool) → valid_len_up_to bytes n ≤ n → cond b (suc n) (valid_len_up_to bytes n) ≤ suc n
    by true le = omega arith
    by false le = omega (arith, le)

-- bytes that are not UTF-8 stop being so before their end
stops_early : (bytes : List ℕ) → is_utf8 bytes ≡ false → utf8_valid_len bytes < length bytes
unfolding utf8_valid_len
stops_early [] none = absurd (false≢true (sym none ∙ is_utf8-from_IsUtf8 [] IsUtf8-nil))
stops_early (byte ∷ bytes) none =
    let n : ℕ = length bytes in
    let whole : is_utf8 (take (suc n) (byte ∷ bytes)) ≡ false = ap is_utf8 (take-length (byte ∷ bytes)) ∙ none in
    rw whole (omega (arith, valid_within (byte ∷ bytes) n))

-- no identifier of a scan has more than 64 bytes
scan_short : (start : ℕ) (bytes : List ℕ) (tokens : List PlacedToken) (stop : ℕ) → AreFileTokensFrom start bytes tokens stop → HaveShortNames tokens
scan_short start bytes [] stop scan = tt
scan_short start bytes (token ∷ tokens) stop (skipped, written, rest, whole, skips, offset, begins, more) =
    (short token.token written rest begins, scan_short (token.offset + length written) rest tokens stop more)
  where
    short : (t : FileToken) (here rest : List ℕ) → IsTokenBefore t here rest → IsShort t
    short (Identifier name) here rest is = subst (λ l. length l ≤ 64) (sym is.2) is.0.short
    short (Number value) here rest is = tt
    short (Text value) here rest is = tt
    short (Character value) here rest is = tt
    short (SignToken sign) here rest is = tt

-- an offset within the file is before its end or at it
before_or_at : (stop size : ℕ) → stop ≤ size → (stop < size) ⊎ (stop ≡ size)
before_or_at stop size le = elim (cases_lt stop size) [
  | inl lt ↦ inl lt
  | inr ge ↦ inr (omega (arith, le, ge))
]

module _ (bytes : List ℕ) (tokens : List PlacedToken) (stop : ℕ) (scan : IsScan bytes tokens stop) where
  -- what is read of a file's tokens is the definitions that they spell, or their first fault
  pub scanned_tell : Outcome bytes tokens stop [] (defs_of tokens stop)
  scanned_tell =
      defs_tell bytes tokens stop (before_or_at stop (length bytes) (rises bytes tokens stop scan).1)
      (scan_short 0 bytes tokens stop scan)

  -- where the tokens reach the end of the file, it has the form of the definitions that are read
  pub form_is : (defs : List Def) → IsSmallText bytes → stop ≡ length bytes → defs_of tokens stop ≡ Ok defs
      → HasForm bytes tokens defs
  form_is defs small end read =
      let is : SpellsDefs defs (bare tokens) × LacksLong (bare tokens) = subst (Outcome bytes tokens stop []) read scanned_tell in
      record {
        small = small;
        scan = subst (IsScan bytes tokens) end scan;
        spelled = is.0;
        short = is.1;
      }

  -- and these are the definitions of the file, if each difference is good
  pub defs_are : (defs : List Def) → IsSmallText bytes → stop ≡ length bytes → defs_of tokens stop ≡ Ok defs
      → HasGoodDifferences defs → Spells bytes defs
  defs_are defs small end read good = record { tokens = tokens; form = form_is defs small end read; good = good }

  -- else the file has a fault at the minus sign of the first that is not
  pub bad_is : (defs : List Def) (offset : ℕ) → IsSmallText bytes → stop ≡ length bytes → defs_of tokens stop ≡ Ok defs
      → IsFirstBadAt tokens defs offset → IsFirstFault bytes (BadDifference offset)
  bad_is defs offset small end read first = bad_difference tokens defs (form_is defs small end read) offset first refl

  -- where the tokens spell definitions, and do not reach the end of the file, it has a fault where
  -- they end
  pub stop_is : (defs : List Def) → IsSmallText bytes → stop < length bytes → defs_of tokens stop ≡ Ok defs
      → IsFirstFault bytes (Syntax stop)
  stop_is defs small early read =
      let is : SpellsDefs defs (bare tokens) × LacksLong (bare tokens) = subst (Outcome bytes tokens stop []) read scanned_tell in
      let viable : CanGoOn (bare tokens) = ([], defs, subst (SpellsDefs defs) (sym (append-nil (bare tokens))) is.0) in
      in_tokens small tokens stop scan tokens (record { behind = []; split = sym (append-nil tokens); viable = viable })
      (row_of bytes tokens stop tokens (Syntax stop) (goes_no_further is.1 (at_bytes refl early refl)))

  -- the fault that is read of the tokens is that of the file
  pub fault_is : (fault : TextFault) → IsSmallText bytes → defs_of tokens stop ≡ Err fault → IsFirstFault bytes fault
  fault_is fault small read =
      let is : HasFault bytes tokens stop fault = subst (Outcome bytes tokens stop []) read scanned_tell in
      in_tokens small tokens stop scan is.front (record { behind = is.rest; split = is.split; viable = is.viable })
      (row_of bytes tokens stop is.front fault is.faults)

-- a file has the form of at most one list of definitions, by one list of tokens
one_form : (bytes : List ℕ) (xs ys : List PlacedToken) (a b : List Def) → HasForm bytes xs a → HasForm bytes ys b → (xs ≡ ys) × (a ≡ b)
one_form bytes xs ys a b first second =
    let same = one_scan bytes xs ys (length bytes) (length bytes) first.scan second.scan in
    (same.0, one_list_of_defs (bare ys) a b (subst (λ ts. SpellsDefs a (bare ts)) same.0 first.spelled) second.spelled)

-- a file spells at most one list of definitions
pub one_file_of_defs : OneFileOfDefs
one_file_of_defs bytes a b first second =
    (one_form bytes first.tokens second.tokens a b first.form second.form).1

-- bytes that stop being UTF-8 early are not UTF-8
utf8_whole : (bytes : List ℕ) → utf8_valid_len bytes < length bytes → IsUtf8 bytes → ⊥
utf8_whole bytes early utf8 = omega (arith, early, utf8_valid_len-IsUtf8 bytes utf8)

-- a front with a fault at it, as the readers tell it
has_fault : (bytes : List ℕ) (tokens : List PlacedToken) (stop : ℕ) (front : List PlacedToken) (fault : TextFault)
    → IsFront tokens front → FaultAt bytes tokens stop front fault → HasFault bytes tokens stop fault
has_fault bytes tokens stop front fault is at = record {
  front = front;
  rest = is.behind;
  split = is.split;
  viable = is.viable;
  faults = told_of bytes tokens stop front fault at;
}

-- a file's tokens have at most one first fault
one_token_fault : (bytes : List ℕ) (a b : TextFault) (xs ys : List PlacedToken) (m n : ℕ) → IsScan bytes xs m → IsScan bytes ys n
    → HasFault bytes xs m a → HasFault bytes ys n b → a ≡ b
one_token_fault bytes a b xs ys m n scan again first second =
    let same = one_scan bytes xs ys m n scan again in
    one_of_tokens bytes ys n a b
    (subst (λ k. HasFault bytes ys k a) same.1 (subst (λ ts. HasFault bytes ts m a) same.0 first)) second

-- tokens that spell definitions up to the end of the file have no fault
no_fault_of_spelled : (bytes : List ℕ) (tokens : List PlacedToken) (stop : ℕ) (defs : List Def) (fault : TextFault)
    → stop ≡ length bytes → SpellsDefs defs (bare tokens) → LacksLong (bare tokens) → HasFault bytes tokens stop fault → ⊥
no_fault_of_spelled bytes tokens stop defs fault end spelled lacks has = by has.faults
  where
    by : FaultsAt bytes tokens stop has.front fault → ⊥
    by (at_long p first is) =
        lacks (bare first.before)
        (rw (ap bare has.split ∙ bare-append has.front has.rest) (long_before (bare has.front) (bare has.rest) (bare first.before) first.long))
    by (goes_no_further short (at_token token others whole stuck is)) =
        let parts : bare tokens ≡ (bare has.front ++ token.token ∷ []) ++ bare others
        = ap bare whole ∙ bare-append has.front (token ∷ others) ∙ sym (append_assoc (bare has.front) (token.token ∷ []) (bare others)) in
        stuck (bare others, defs, subst (SpellsDefs defs) parts spelled)
    by (goes_no_further short (at_bytes whole early is)) = omega (arith, early, end)
    by (goes_no_further short (at_end whole end is none)) = none defs spelled

-- so a file that has the form of definitions has no fault at its tokens
no_fault_of_form : (bytes : List ℕ) (xs tokens front : List PlacedToken) (stop : ℕ) (defs : List Def) (fault : TextFault)
    → HasForm bytes xs defs → IsScan bytes tokens stop → IsFront tokens front → FaultAt bytes tokens stop front fault → ⊥
no_fault_of_form bytes xs tokens front stop defs fault form scan is at =
    let same = one_scan bytes xs tokens (length bytes) stop form.scan scan in
    no_fault_of_spelled bytes tokens stop defs fault (sym same.1)
    (subst (λ ts. SpellsDefs defs (bare ts)) same.0 form.spelled)
    (subst (λ ts. LacksLong (bare ts)) same.0 form.short) (has_fault bytes tokens stop front fault is at)

-- the minus sign of the first difference that is bad has one offset
one_bad : (tokens : List PlacedToken) (defs : List Def) (p q : ℕ) → IsFirstBadAt tokens defs p → IsFirstBadAt tokens defs q → p ≡ q
one_bad tokens defs p q first second =
    let number = one_first (HasAt IsBad (differences_of defs)) first.number second.number first.first second.first in
    let sign : first.sign ≡ second.sign
    = same_Some first.sign second.sign (sym first.is_sign ∙ ap (slice_get (minus_signs tokens)) number ∙ second.is_sign) in
    first.is_offset ∙ ap (λ (t : PlacedToken). t.offset) sign ∙ sym second.is_offset

-- in a file of one form there is one such offset
one_bad_form : (bytes : List ℕ) (xs ys : List PlacedToken) (a b : List Def) (p q : ℕ) → HasForm bytes xs a → HasForm bytes ys b
    → IsFirstBadAt xs a p → IsFirstBadAt ys b q → p ≡ q
one_bad_form bytes xs ys a b p q form other first second =
    let same = one_form bytes xs ys a b form other in
    one_bad ys b p q
    (subst (λ ds. IsFirstBadAt ys ds p) same.1 (subst (λ ts. IsFirstBadAt ts a p) same.0 first)) second

-- a file has at most one first fault
pub one_first_fault : OneFirstFault
one_first_fault bytes a b (is_large large is_a) (is_large more is_b) = is_a ∙ sym is_b
one_first_fault bytes a b (is_large large is_a) (is_not_utf8 few early is_b) = absurd (omega (arith, large, few))
one_first_fault bytes a b (is_large large is_a) (in_tokens small ys n again other front at) = absurd (omega (arith, large, small.few))
one_first_fault bytes a b (is_large large is_a) (bad_difference ys ds form q second is_b) = absurd (omega (arith, large, form.small.few))
one_first_fault bytes a b (is_not_utf8 few early is_a) (is_large large is_b) = absurd (omega (arith, large, few))
one_first_fault bytes a b (is_not_utf8 few early is_a) (is_not_utf8 also more is_b) = is_a ∙ sym is_b
one_first_fault bytes a b (is_not_utf8 few early is_a) (in_tokens small ys n again other front at) = absurd (utf8_whole bytes early small.utf8)
one_first_fault bytes a b (is_not_utf8 few early is_a) (bad_difference ys ds form q second is_b) =
    absurd (utf8_whole bytes early form.small.utf8)
one_first_fault bytes a b (in_tokens small xs m scan front is at) (is_large large is_b) = absurd (omega (arith, large, small.few))
one_first_fault bytes a b (in_tokens small xs m scan front is at) (is_not_utf8 also early is_b) = absurd (utf8_whole bytes early small.utf8)
one_first_fault bytes a b (in_tokens small xs m scan front is at) (in_tokens also ys n again other too there) =
    one_token_fault bytes a b xs ys m n scan again (has_fault bytes xs m front a is at) (has_fault bytes ys n other b too there)
one_first_fault bytes a b (in_tokens small xs m scan front is at) (bad_difference ys ds form q second is_b) =
    absurd (no_fault_of_form bytes ys xs front m ds a form scan is at)
one_first_fault bytes a b (bad_difference xs cs form p first is_a) (is_large large is_b) = absurd (omega (arith, large, form.small.few))
one_first_fault bytes a b (bad_difference xs cs form p first is_a) (is_not_utf8 also early is_b) =
    absurd (utf8_whole bytes early form.small.utf8)
one_first_fault bytes a b (bad_difference xs cs form p first is_a) (in_tokens also ys n again other too there) =
    absurd (no_fault_of_form bytes xs ys other n cs b form again too there)
one_first_fault bytes a b (bad_difference xs cs form p first is_a) (bad_difference ys ds other q second is_b) =
    is_a ∙ ap BadDifference (one_bad_form bytes xs ys cs ds p q form other first second) ∙ sym is_b

-- no file both spells definitions and has a first fault
pub spelled_or_faulty : SpelledOrFaulty
spelled_or_faulty bytes defs fault spelled (is_large large is) = omega (arith, large, spelled.form.small.few)
spelled_or_faulty bytes defs fault spelled (is_not_utf8 few early is) = utf8_whole bytes early spelled.form.small.utf8
spelled_or_faulty bytes defs fault spelled (in_tokens small tokens stop scan front is at) =
    no_fault_of_form bytes spelled.tokens tokens front stop defs fault spelled.form scan is at
spelled_or_faulty bytes defs fault spelled (bad_difference tokens ds form offset first is) =
    let same = (one_form bytes spelled.tokens tokens defs ds spelled.form form).1 in
    let good : HasGoodDifferences ds = subst HasGoodDifferences same spelled.good in
    none_at IsGood (differences_of ds) IsBad (λ d bad is_good. bad is_good) good first.number first.first.is_so

-- a file spells definitions, or has a fault
abbrev HasAnswer : List ℕ → Type 0
HasAnswer bytes = ((defs : List Def) × Spells bytes defs) ⊎ ((fault : TextFault) × IsFirstFault bytes fault)

-- a file of UTF-8 that is not too large has one of the two
utf8_answer : (bytes : List ℕ) → IsSmallText bytes → HasAnswer bytes
utf8_answer bytes small = by (defs_of tokens stop) refl (before_or_at stop (length bytes) (rises bytes tokens stop scan).1)
  where
    tokens : List PlacedToken
    tokens = (scan_of bytes).0

    stop : ℕ
    stop = (scan_of bytes).1

    scan : IsScan bytes tokens stop
    scan = scanned bytes

    by : (x : Result (List Def) TextFault) → defs_of tokens stop ≡ x → (stop < length bytes) ⊎ (stop ≡ length bytes) → HasAnswer bytes
    by (Ok defs) read (inl early) = inr (Syntax stop, stop_is bytes tokens stop scan defs small early read)
    by (Ok defs) read (inr end) = elim (good_or_first defs) [
      | inl good ↦ inl (defs, defs_are bytes tokens stop scan defs small end read good)
      | inr first ↦
          let at = first_at defs tokens first.0 (form_is bytes tokens stop scan defs small end read).spelled first.1 in
          inr (BadDifference at.0, bad_is bytes tokens stop scan defs at.0 small end read at.1)
    ]
    by (Err fault) read ends = inr (fault, fault_is bytes tokens stop scan fault small read)

-- each file spells definitions or has a first fault
pub defs_or_fault : DefsOrFault
defs_or_fault bytes = elim (cases_lt 65536 (length bytes)) [
  | inl large ↦ inr (TooLarge (length bytes), is_large large refl)
  | inr few ↦ by few (is_utf8 bytes) refl
]
  where
    by : length bytes ≤ 65536 → (b : Bool) → is_utf8 bytes ≡ b → HasAnswer bytes
    by few true utf8 = utf8_answer bytes (record { few = few; utf8 = IsUtf8-from_is_utf8 bytes utf8 })
    by few false none = inr (NotUtf8 (utf8_valid_len bytes), is_not_utf8 few (stops_early bytes none) refl)
