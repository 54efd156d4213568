-- What is gathered and what comes behind it is written in turn.
use Rattle.std.proofs.Common.{inl, inr, ◌≡◌, ◌⊎◌, ℕ, List, [], ◌++◌, Option, Result, Ok, Err, OnOk, OnErr, IfOk, String, string_bytes, refl, sym, ap, subst}
use Rattle.cyk_io.specs.Streams.{Grows, GrowsByPrefix}
use Rattle.cyk_io.proofs.GatheringLemmas.{both_grow, prefix_behind}
use Rattle.std.specs.declared.alloc.Global.{Global}
use Rattle.std.specs.declared.alloc.AllocError.{AllocError}
use Rattle.chart_service.specs.Replies.{bytes_in, SaysBy, line_in, Passes, Says, WritesOut}
use Rattle.chart_service.specs.Sessions.{SaysReply, WritesReply, CutsReply}

-- the same where the bytes passed
pub prefix_passed : (old mid new : Option (List ℕ)) (gathered bytes left : List ℕ)
    → Passes old mid gathered bytes left → GrowsByPrefix mid new left
    → GrowsByPrefix old new (gathered ++ bytes)
prefix_passed old mid new gathered bytes left passes cut =
    let P : List ℕ → Type 0 = GrowsByPrefix old new in
    subst P (sym passes.2) (prefix_behind old mid new passes.0 left passes.1 cut)

-- and where all that is left is written
pub grows_passed : (old mid new : Option (List ℕ)) (gathered bytes left : List ℕ)
    → Passes old mid gathered bytes left → Grows mid new left → Grows old new (gathered ++ bytes)
grows_passed old mid new gathered bytes left passes grows =
    let P : List ℕ → Type 0 = Grows old new in
    subst P (sym passes.2) (both_grow old mid new passes.0 left passes.1 grows)

-- what was gathered is written, if the write succeeds
pub flushed : {X E : Type 0} → (old new : Option (List ℕ)) (gathered left : List ℕ) → left ≡ []
    → (r : Result X E) → OnOk r (Grows old new gathered) → OnOk r (Passes old new gathered [] left)
flushed old new gathered left e (Ok x) grows = (gathered, grows, ap (λ rest. gathered ++ rest) (sym e))
flushed old new gathered left e (Err fault) h = h

-- what holds anyway holds at an error
pub at_error : {X E : Type 0} → (P : Type 0) (r : Result X E) → P → OnErr r P
at_error P (Ok x) h = tt
at_error P (Err fault) h = h

-- the line was said, if its bytes passed
pub said : {X E : Type 0} → (line : Result (String Global) AllocError) (text : String Global) (bytes : List ℕ)
    → line ≡ Ok text → bytes ≡ string_bytes text → (old new : Option (List ℕ)) (gathered left : List ℕ)
    → (r : Result X E) → OnOk r (Passes old new gathered bytes left)
    → OnOk r (Says line old new gathered left)
said line text bytes e b old new gathered left (Ok x) passes =
    (text, e, subst (λ these. Passes old new gathered these left) b passes)
said line text bytes e b old new gathered left (Err fault) h = h

-- a line was said, and all that is left is written
module _ (line : Result (String Global) AllocError) (old mid new : Option (List ℕ))
    (gathered left : List ℕ) (says : Says line old mid gathered left) where
  pub written_out : {X E : Type 0} → (r : Result X E) → OnOk r (Grows mid new left)
      → OnOk r (WritesOut line old new gathered)
  written_out (Ok x) grows =
      (says.0, says.1, grows_passed old mid new gathered (string_bytes says.0) left says.2 grows)
  written_out (Err fault) h = h

  pub out_cut : {X E : Type 0} → (r : Result X E) → OnErr r (GrowsByPrefix mid new left)
      → OnErr r (GrowsByPrefix old new (gathered ++ line_in line))
  out_cut (Ok x) h = h
  out_cut (Err fault) cut =
      let P : Result (String Global) AllocError → Type 0 = λ r. GrowsByPrefix old new (gathered ++ line_in r) in
      subst P (sym says.1) (prefix_passed old mid new gathered (string_bytes says.0) left says.2 cut)

-- the bytes of a line that was said passed
pub line_passes : (line : Result (String Global) AllocError) (bytes : List ℕ) (old new : Option (List ℕ))
    (gathered left : List ℕ) → IfOk line (λ text. string_bytes text ≡ bytes)
    → Says line old new gathered left → Passes old new gathered bytes left
line_passes line bytes old new gathered left is says =
    let P : Result (String Global) AllocError → Type 0 = λ r. IfOk r (λ text. string_bytes text ≡ bytes) in
    let same : string_bytes says.0 ≡ bytes = subst P says.1 is in
    subst (λ these. Passes old new gathered these left) same says.2

-- what was said replies, where each line that could be said does
module _ {X : Type 0} (Replies : List ℕ → Type 0) (bytes : X → List ℕ) (reply : Result X AllocError)
    (h : IfOk reply (λ x. Replies (bytes x))) (old new : Option (List ℕ)) (gathered left : List ℕ) where
  pub says_reply : {Y E : Type 0} → (r : Result Y E) → OnOk r (SaysBy bytes reply old new gathered left)
      → OnOk r (SaysReply Replies old new gathered left)
  says_reply (Ok y) (x, is, passes) =
      let P : Result X AllocError → Type 0 = λ r. IfOk r (λ x. Replies (bytes x)) in
      (bytes x, subst P is h, passes)
  says_reply (Err fault) says = says

  -- a line may be cut short, or none was made
  may_reply : (made : Result X AllocError) → IfOk made (λ x. Replies (bytes x))
      → Replies (bytes_in bytes made) ⊎ (bytes_in bytes made ≡ [])
  may_reply (Ok x) k = inl k
  may_reply (Err error) k = inr refl

  pub cuts_reply : {Y E : Type 0} → (r : Result Y E)
      → OnErr r (GrowsByPrefix old new (gathered ++ bytes_in bytes reply))
      → OnErr r (CutsReply Replies old new gathered)
  cuts_reply (Ok y) cut = cut
  cuts_reply (Err fault) cut = (bytes_in bytes reply, may_reply reply h, cut)

-- a line that replies to one thing replies to another
module _ (P Q : List ℕ → Type 0) (goes : (line : List ℕ) → P line → Q line) (old new : Option (List ℕ))
    (gathered left : List ℕ) where
  pub says_so : {Y E : Type 0} → (r : Result Y E) → OnOk r (SaysReply P old new gathered left)
      → OnOk r (SaysReply Q old new gathered left)
  says_so (Ok y) (line, p, passes) = (line, goes line p, passes)
  says_so (Err fault) says = says

  may_so : (line : List ℕ) → P line ⊎ (line ≡ []) → Q line ⊎ (line ≡ [])
  may_so line (inl p) = inl (goes line p)
  may_so line (inr none) = inr none

  pub cuts_so : {Y E : Type 0} → (r : Result Y E) → OnErr r (CutsReply P old new gathered)
      → OnErr r (CutsReply Q old new gathered)
  cuts_so (Ok y) cut = cut
  cuts_so (Err fault) (line, why, cut) = (line, may_so line why, cut)

-- a line that was said behind nothing is written, once all that is left is
module _ (Replies : List ℕ → Type 0) (old mid new : Option (List ℕ)) (left : List ℕ)
    (says : SaysReply Replies old mid [] left) where
  pub writes_reply : {Y E : Type 0} → (r : Result Y E) → OnOk r (Grows mid new left)
      → OnOk r (WritesReply Replies old new)
  writes_reply (Ok y) grows = (says.0, says.1, grows_passed old mid new [] says.0 left says.2 grows)
  writes_reply (Err fault) h = h

  pub cuts_behind : {Y E : Type 0} → (r : Result Y E) → OnErr r (GrowsByPrefix mid new left)
      → OnErr r (CutsReply Replies old new [])
  cuts_behind (Ok y) h = h
  cuts_behind (Err fault) cut = (says.0, inl says.1, prefix_passed old mid new [] says.0 left says.2 cut)
