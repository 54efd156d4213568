-- What is gathered and what comes behind it is written in turn.
use Rattle.std.proofs.Common.{◌≡◌, ℕ, ◌+◌, List, [], ◌++◌, length, take, Option, Some, Result, Ok, Err, OnOk, OnErr, sym, ◌∙◌, ap, subst, arith}
use Rattle.std.proofs.Common.{append_assoc, append-nil, length-append}
use Rattle.std.proofs.lemmas.List.{take-append-le}
use Rattle.std.proofs.Math.Seq.{take-append-add}
use Rattle.cyk_io.specs.Streams.{Grows, GrowsByPrefix}
use Rattle.cyk_io.specs.Gathering.{Passes}

-- bytes are written, and then others
pub both_grow :
    (old mid new : Option (List ℕ)) (first second : List ℕ)
    → Grows old mid first → Grows mid new second → Grows old new (first ++ second)
both_grow old mid new first second grows more told is =
    more (told ++ first) (grows told is) ∙ ap Some (append_assoc told first second)

-- a prefix of bytes is one of these and those behind them
pub prefix_of_both :
    (old new : Option (List ℕ)) (first second : List ℕ)
    → GrowsByPrefix old new first → GrowsByPrefix old new (first ++ second)
prefix_of_both old new first second cut =
    let P : List ℕ → Type 0 = Grows old new in (
      cut.0,
      omega (arith, cut.1, length-append first second),
      subst P (sym (take-append-le cut.0 first second cut.1)) cut.2,
    )

-- bytes are written, and then a prefix of those behind them
pub prefix_behind :
    (old mid new : Option (List ℕ)) (first second : List ℕ)
    → Grows old mid first → GrowsByPrefix mid new second → GrowsByPrefix old new (first ++ second)
prefix_behind old mid new first second grows cut =
    let P : List ℕ → Type 0 = Grows old new in (
      length first + cut.0,
      omega (arith, cut.1, length-append first second),
      subst P (sym (take-append-add first second cut.0))
          (both_grow old mid new first (take cut.0 second) grows cut.2),
    )

-- bytes pass, and then others
pub both_pass :
    (old mid new : Option (List ℕ)) (gathered first held second left : List ℕ)
    → Passes old mid gathered first held → Passes mid new held second left
    → Passes old new gathered (first ++ second) left
both_pass old mid new gathered first held second left (out, grows, same) (more, grows_more, same_more) = (
  out ++ more,
  both_grow old mid new out more grows grows_more,
  sym (append_assoc gathered first second)
      ∙ ap (λ these. these ++ second) same
      ∙ append_assoc out held second
      ∙ ap (λ these. out ++ these) same_more
      ∙ sym (append_assoc out more left),
)

-- bytes pass, and then a prefix of what is left and of those behind it is written
pub passes_cut :
    (old mid new : Option (List ℕ)) (gathered first held second : List ℕ)
    → Passes old mid gathered first held → GrowsByPrefix mid new (held ++ second)
    → GrowsByPrefix old new (gathered ++ (first ++ second))
passes_cut old mid new gathered first held second (out, grows, same) cut =
    let P : List ℕ → Type 0 = GrowsByPrefix old new in
    let whole : gathered ++ (first ++ second) ≡ out ++ (held ++ second) =
    sym (append_assoc gathered first second) ∙ ap (λ these. these ++ second) same ∙ append_assoc out held second in
    subst P (sym whole) (prefix_behind old mid new out (held ++ second) grows cut)

-- a prefix of what is gathered and of bytes behind it is one of these and others
pub cut_of_both :
    (old new : Option (List ℕ)) (gathered first second : List ℕ)
    → GrowsByPrefix old new (gathered ++ first) → GrowsByPrefix old new (gathered ++ (first ++ second))
cut_of_both old new gathered first second cut =
    let P : List ℕ → Type 0 = GrowsByPrefix old new in
    subst P (append_assoc gathered first second) (prefix_of_both old new (gathered ++ first) second cut)

-- the first pass, and then what is to be said of the second is said of both
module _ (old mid new : Option (List ℕ)) (gathered first held second left : List ℕ)
    (passes : Passes old mid gathered first held) where
  pub then_all :
      {X E : Type 0} → (r : Result X E)
      → OnOk r (Passes mid new held second left) → OnOk r (Passes old new gathered (first ++ second) left)
  then_all (Ok x) more = both_pass old mid new gathered first held second left passes more
  then_all (Err fault) more = more

  pub then_prefix :
      {X E : Type 0} → (r : Result X E)
      → OnErr r (GrowsByPrefix mid new (held ++ second))
      → OnErr r (GrowsByPrefix old new (gathered ++ (first ++ second)))
  then_prefix (Ok x) cut = cut
  then_prefix (Err fault) cut = passes_cut old mid new gathered first held second passes cut

-- what was gathered is written, if it is so, and then what comes behind it
module _ (old mid new : Option (List ℕ)) (gathered first bytes left : List ℕ) (same : first ≡ gathered)
    (grows : Grows old mid first) where
  flushed_same : Grows old mid gathered
  flushed_same = subst (λ these. Grows old mid these) same grows

  pub added : {X E : Type 0} → left ≡ [] → (r : Result X E) → OnOk r (Grows mid new bytes)
      → OnOk r (Passes old new gathered bytes left)
  added none (Ok x) more = (
    gathered ++ bytes,
    both_grow old mid new gathered bytes flushed_same more,
    sym (append-nil (gathered ++ bytes)) ∙ ap (λ rest. (gathered ++ bytes) ++ rest) (sym none),
  )
  added none (Err fault) h = h

  pub add_cut : {X E : Type 0} → (r : Result X E) → OnErr r (GrowsByPrefix mid new bytes)
      → OnErr r (GrowsByPrefix old new (gathered ++ bytes))
  add_cut (Ok x) h = h
  add_cut (Err fault) cut = prefix_behind old mid new gathered bytes flushed_same cut
