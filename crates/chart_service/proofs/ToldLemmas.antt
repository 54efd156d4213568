-- What a session told is a prefix of it, however much is written of that; and its last line is the
-- rest.
use Rattle.std.proofs.Common.{◌≡◌, ℕ, inl, inr, List, [], ◌++◌, take, drop, Option, Some, Result}
use Rattle.std.proofs.Common.{Ok, Err, IfOk, IfErr, IsErrAnd, String, string_bytes, refl, sym, ◌∙◌, ap, subst}
use Rattle.std.proofs.Common.{append_assoc, append-nil}
use Rattle.std.proofs.lemmas.List.{take-append-drop}
use Rattle.std.specs.declared.alloc.Global.{Global}
use Rattle.std.specs.declared.alloc.AllocError.{AllocError}
use Rattle.cyk_io.specs.Streams.{GrowsByPrefix}
use Rattle.cyk_io.specs.declared.fault.IoFault.{IoFault}
use Rattle.cyk_io.specs.declared.fault.IoFault.TheVariants.{Read, Write, Memory}
use Rattle.spec_session.specs.Sessions.{serve_mode, IsSession}
use Rattle.spec_session.proofs.SessionsLemmas.{one_session}
use Rattle.chart_service.specs.declared.status.Status.{Status}
use Rattle.chart_service.specs.Statuses.{number_of, status_at, EndsAtFault}
use Rattle.chart_service.specs.Serving.{IsPrefixOfSession}
use Rattle.chart_service.specs.Replies.{line_in, Passes, Finishes}
use Rattle.chart_service.specs.Progress.{IsToldBehind, IsCutShort, LacksLast, Ends}

-- what was told goes on with the bytes that passed
pub told_on : (before : List ℕ) (old new : Option (List ℕ)) (gathered bytes left told : List ℕ)
    → IsToldBehind before old gathered told → Passes old new gathered bytes left
    → IsToldBehind before new left (told ++ bytes)
told_on before old new gathered bytes left told t p = (
  t.0 ++ p.0,
  p.1 (before ++ t.0) t.1 ∙ ap Some (append_assoc before t.0 p.0),
  ap (λ these. these ++ bytes) t.2
      ∙ append_assoc t.0 gathered bytes
      ∙ ap (λ these. t.0 ++ these) p.2
      ∙ sym (append_assoc t.0 p.0 left),
)

-- the status at a fault is a fault's
pub fault_status : (fault : IoFault) → EndsAtFault (status_at fault)
fault_status Read = inl refl
fault_status Write = inr (inl refl)
fault_status Memory = inr (inr refl)

-- an error that is known
pub err_given : {X E : Type 0} → (P : E → Type 0) (e : E) (r : Result X E) → IsErrAnd r (λ x. x ≡ e) → P e
    → IfErr r P
err_given P e (Ok x) h p = absurd h
err_given P e (Err x) h p = subst P (sym h) p

-- it is no other error
pub other_error : {X E : Type 0} → (r : Result X E) (e other : E) → IsErrAnd r (λ x. x ≡ e) → (e ≡ other → ⊥)
    → r ≡ Err other → ⊥
other_error (Ok x) e other h never is = absurd h
other_error (Err x) e other h never is = never (let same : x ≡ other = cc in sym h ∙ same)

module _ (input before : List ℕ) where
  -- a prefix of a prefix
  pub prefix_of_prefix : (told cut rest : List ℕ) → IsPrefixOfSession input told → told ≡ cut ++ rest
      → IsPrefixOfSession input cut
  prefix_of_prefix told cut rest h e out status s =
      let m = h out status s in
      (rest ++ m.0, m.1 ∙ ap (λ these. these ++ m.0) e ∙ append_assoc cut rest m.0)

  -- a session is a prefix of itself
  pub whole_is_prefix : (out : List ℕ) (status : ℕ) → IsSession serve_mode input out status
      → IsPrefixOfSession input out
  whole_is_prefix out status s other n t =
      ([], sym (one_session input out other status n s t).0 ∙ sym (append-nil out))

  -- where what was told is a prefix, so is what was written of it
  pub written_is_prefix : (now : Option (List ℕ)) (gathered told : List ℕ)
      → IsToldBehind before now gathered told → IsPrefixOfSession input told → IsCutShort input before now
  written_is_prefix now gathered told t h = (t.0, t.1, prefix_of_prefix told t.0 gathered h t.2)

  -- and so is what is written of it and the bytes behind it, where these go on with the prefix
  pub cut_is_prefix : (old new : Option (List ℕ)) (gathered bytes told : List ℕ)
      → IsToldBehind before old gathered told → GrowsByPrefix old new (gathered ++ bytes)
      → IsPrefixOfSession input (told ++ bytes) → IsCutShort input before new
  cut_is_prefix old new gathered bytes told t cut h =
      (out, cut.2 (before ++ t.0) t.1 ∙ ap Some (append_assoc before t.0 part), prefix_of_prefix (told ++ bytes) out rest h parts)
    where
      part : List ℕ
      part = take cut.0 (gathered ++ bytes)

      rest : List ℕ
      rest = drop cut.0 (gathered ++ bytes)

      out : List ℕ
      out = t.0 ++ part

      parts : told ++ bytes ≡ out ++ rest
      parts =
          ap (λ these. these ++ bytes) t.2
          ∙ append_assoc t.0 gathered bytes
          ∙ ap (λ these. t.0 ++ these) (sym (take-append-drop cut.0 (gathered ++ bytes)))
          ∙ sym (append_assoc t.0 part rest)

  -- a line goes on with the prefix, where each line that can be said does
  pub line_is_prefix : (told : List ℕ) (IsOne : List ℕ → Type 0) → IsPrefixOfSession input told
      → ((line : List ℕ) → IsOne line → IsPrefixOfSession input (told ++ line))
      → (line : Result (String Global) AllocError) → IfOk line (λ text. IsOne (string_bytes text))
      → IsPrefixOfSession input (told ++ line_in line)
  line_is_prefix told IsOne h goes (Ok text) is = goes (string_bytes text) is
  line_is_prefix told IsOne h goes (Err error) is = subst (IsPrefixOfSession input) (sym (append-nil told)) h

  -- the last line ends the session
  pub finished : (old new : Option (List ℕ)) (gathered : List ℕ) (IsLast : List ℕ → Type 0) (n : ℕ)
      → LacksLast input before old gathered IsLast n
      → (line : Result (String Global) AllocError) → IfOk line (λ text. IsLast (string_bytes text))
      → (wanted status : Status) → number_of wanted ≡ n → Finishes line old new gathered wanted status
      → Ends input before new status
  finished old new gathered IsLast n l line is wanted status final (inl ((text, e, grows), same)) =
      (out, t.1 ∙ ap (λ these. Some (before ++ these)) (sym all), inl session)
    where
      bytes : List ℕ
      bytes = string_bytes text

      out : List ℕ
      out = l.told ++ bytes

      t : IsToldBehind before new [] (l.told ++ bytes)
      t = told_on before old new gathered bytes [] l.told l.is_told
          (gathered ++ bytes, grows, sym (append-nil (gathered ++ bytes)))

      all : out ≡ t.0
      all = t.2 ∙ append-nil t.0

      is_last : IsLast bytes
      is_last =
          let P : Result (String Global) AllocError → Type 0 = λ r. IfOk r (λ text. IsLast (string_bytes text)) in
          subst P e is

      session : IsSession serve_mode input out (number_of status)
      session =
          let P : ℕ → Type 0 = IsSession serve_mode input out in
          subst P (sym final ∙ ap number_of (sym same)) (l.last bytes is_last)
  finished old new gathered IsLast n l line is wanted status final (inr (cut, fault)) =
      let goes : (other : List ℕ) → IsLast other → IsPrefixOfSession input (l.told ++ other) =
      λ other last. whole_is_prefix (l.told ++ other) n (l.last other last) in
      let h = line_is_prefix l.told IsLast l.is_prefix goes line is in
      let short = cut_is_prefix old new gathered (line_in line) l.told l.is_told cut h in
      (short.0, short.1, inr (fault, short.2))
