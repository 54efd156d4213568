-- Parts of a literal: what comes next by scalars is what comes next by bytes.
use Rattle.std.proofs.Common.{◌≡◌, ℕ, ◌<◌, ◌⊎◌, inl, inr, List, [], ◌∷◌, ◌++◌, length, get_or, Bool, true, false, cond, eqb, Option, Some, None, option_map, refl, sym, ap, ◌∙◌, arith, encode_utf8}
use Rattle.std.specs.List.{AllByRecursion}
use Rattle.std.proofs.lemmas.Bool.{ne_eqb, eqb-false, false_from_ne_true, eq-eqb}
use Rattle.std.proofs.lemmas.Bool.Decides.{nat_tests}
use Rattle.std.proofs.lemmas.Option.{cond_some, none-some}
use Rattle.std.proofs.lemmas.List.{append-nil}
use Rattle.std.proofs.lemmas.List.Elements.{All-from_get_or, recursion_from_All}
use Rattle.std.proofs.lemmas.Str.{encode_ascii, inside_one, length-encode, len_utf8_bounds}
use Rattle.spec_lbnf.specs.FileTokens.{escaped}
use Rattle.lbnf_readers.specs.Scanning.{is_escape, byte_before, literal_from}
use Rattle.lbnf_readers.proofs.LiteralLemmas.{StandsPlain}
use Rattle.lbnf_text.specs.declared.scanner.Part.{Part}
use Rattle.lbnf_text.specs.declared.scanner.Part.TheVariants.{Scalar, Close, Broken}
use Rattle.lbnf_text.specs.LiteralParts.{scalar_before, IsPartOf}

-- bytes before a value that is read
abbrev pub bytes_before : List ℕ → List ℕ × List ℕ → List ℕ × List ℕ
bytes_before bytes read = (bytes ++ read.0, read.1)

-- no bytes before it are none
nothing_before : (read : Option (List ℕ × List ℕ)) → read ≡ option_map (bytes_before []) read
nothing_before None = refl
nothing_before (Some read) = refl

-- one byte before others are all of them before it
one_more_before : (byte : ℕ) (bytes : List ℕ) (read : Option (List ℕ × List ℕ))
    → option_map (byte_before byte) (option_map (bytes_before bytes) read) ≡ option_map (bytes_before (byte ∷ bytes)) read
one_more_before byte bytes None = refl
one_more_before byte bytes (Some read) = refl

-- an escape is ASCII, and so is what it stands for
escape_low : (byte : ℕ) → is_escape byte ≡ true → byte < 128
escape_low byte h = grind (arith, nat_tests)

escaped_low : (byte : ℕ) → byte < 128 → escaped byte < 128
escaped_low byte h = grind (arith, nat_tests)

-- an ASCII scalar before a value is its byte before it
byte_is_scalar : (byte : ℕ) (read : Option (List ℕ × List ℕ)) → byte < 128
    → option_map (byte_before byte) read ≡ option_map (scalar_before byte) read
byte_is_scalar byte None low = refl
byte_is_scalar byte (Some read) low = ap (λ l. Some (l ++ read.0, read.1)) (sym (encode_ascii byte low))

-- the first byte of a scalar that is no escape is none
first_is_no_escape : (scalar byte : ℕ) (front : List ℕ) → cond (is_escape scalar) (Some (escaped scalar)) None ≡ None
    → encode_utf8 scalar ≡ byte ∷ front → is_escape byte ≡ false
first_is_no_escape scalar byte front is e = false_from_ne_true (is_escape byte) (λ h.
    let whole : byte ∷ front ≡ encode_utf8 scalar ++ [] = sym e ∙ sym (append-nil (encode_utf8 scalar)) in
    let within : 0 < length (encode_utf8 scalar) = omega (arith, ap length e) in
    let same : scalar ≡ byte = inside_one scalar [] (byte ∷ front) 0 whole within (escape_low byte h) in
    let is_escape : is_escape scalar ≡ true = ap is_escape same ∙ h in
    none-some (escaped scalar) (sym (rw is_escape at is)))

module _ (quote : ℕ) where
  -- a quote is ASCII, and no other byte than the two
  quote_low : (quote ≡ 34) ⊎ (quote ≡ 39) → quote < 128
  quote_low (inl e) = omega arith
  quote_low (inr e) = omega arith

  quote_apart : (byte : ℕ) → eqb byte 34 ≡ false → eqb byte 39 ≡ false → (quote ≡ 34) ⊎ (quote ≡ 39) → eqb byte quote ≡ false
  quote_apart byte h k (inl e) = rw e h
  quote_apart byte h k (inr e) = rw e k

  -- bytes that stand for themselves are read before what follows them
  pub plain_front : (bytes rest : List ℕ) → AllByRecursion (StandsPlain quote) bytes
      → literal_from quote false (bytes ++ rest) ≡ option_map (bytes_before bytes) (literal_from quote false rest)
  unfolding literal_from
  plain_front [] rest all = nothing_before (literal_from quote false rest)
  plain_front (byte ∷ bytes) rest all =
      rw (all.0.no_quote, all.0.no_backslash, all.0.no_line_end, plain_front bytes rest all.1)
      (one_more_before byte bytes (literal_from quote false rest))

  -- the bytes of a scalar stand for themselves where the scalar does
  pub scalar_stands : (scalar : ℕ) → quote < 128 → StandsPlain quote scalar
      → AllByRecursion (StandsPlain quote) (encode_utf8 scalar)
  scalar_stands scalar low stands =
      recursion_from_All (StandsPlain quote) (encode_utf8 scalar)
      (All-from_get_or (StandsPlain quote) (encode_utf8 scalar) 0 by)
    where
      apart : (k code : ℕ) → k < length (encode_utf8 scalar) → code < 128 → eqb scalar code ≡ false
          → eqb (get_or (encode_utf8 scalar) k 0) code ≡ false
      apart k code l low differs = ne_eqb _ code (λ e.
          let below : get_or (encode_utf8 scalar) k 0 < 128 = omega arith in
          let same = inside_one scalar [] (encode_utf8 scalar) k (sym (append-nil (encode_utf8 scalar))) l below in
          eqb-false scalar code differs (same ∙ e))

      by : (k : ℕ) → k < length (encode_utf8 scalar) → StandsPlain quote (get_or (encode_utf8 scalar) k 0)
      by k l = record {
        no_quote = apart k quote l low stands.no_quote;
        no_backslash = apart k 92 l (omega arith) stands.no_backslash;
        no_line_end = apart k 10 l (omega arith) stands.no_line_end;
      }

  -- a scalar that stands for itself is read before what follows it
  pub scalar_part : (scalar : ℕ) (bytes rest : List ℕ) → (quote ≡ 34) ⊎ (quote ≡ 39) → (scalar ≡ quote → ⊥)
      → (scalar ≡ 92 → ⊥) → (scalar ≡ 10 → ⊥) → bytes ≡ encode_utf8 scalar ++ rest
      → literal_from quote false bytes ≡ option_map (scalar_before scalar) (literal_from quote false rest)
  scalar_part scalar bytes rest is no_quote no_backslash no_line_end e =
      let low = quote_low is in
      let stands : StandsPlain quote scalar = record {
        no_quote = ne_eqb scalar quote no_quote;
        no_backslash = ne_eqb scalar 92 no_backslash;
        no_line_end = ne_eqb scalar 10 no_line_end;
      } in
      ap (literal_from quote false) e ∙ plain_front (encode_utf8 scalar) rest (scalar_stands scalar low stands)

  -- an ASCII scalar is one byte
  one_byte : (scalar : ℕ) (bytes rest : List ℕ) → scalar < 128 → bytes ≡ encode_utf8 scalar ++ rest
      → bytes ≡ scalar ∷ rest
  one_byte scalar bytes rest low e = e ∙ ap (λ l. l ++ rest) (encode_ascii scalar low)

  -- the quote is the end
  pub close_part : (scalar : ℕ) (bytes rest : List ℕ) → (quote ≡ 34) ⊎ (quote ≡ 39) → scalar ≡ quote
      → bytes ≡ encode_utf8 scalar ++ rest → literal_from quote false bytes ≡ Some ([], rest)
  unfolding literal_from
  close_part scalar bytes rest is same e =
      let low = quote_low is in
      rw (one_byte scalar bytes rest (omega arith) e, eq-eqb scalar quote same) refl

  -- LF is not read
  pub line_end_part : (scalar : ℕ) (bytes rest : List ℕ) → (quote ≡ 34) ⊎ (quote ≡ 39) → scalar ≡ 10
      → bytes ≡ encode_utf8 scalar ++ rest → literal_from quote false bytes ≡ None
  unfolding literal_from
  line_end_part scalar bytes rest is same e =
      rw (one_byte scalar bytes rest (omega arith) e, same, quote_apart 10 refl refl is) refl

  -- behind a backslash the escape is read
  backslash_read : (scalar : ℕ) (bytes rest : List ℕ) → (quote ≡ 34) ⊎ (quote ≡ 39) → scalar ≡ 92
      → bytes ≡ encode_utf8 scalar ++ rest → literal_from quote false bytes ≡ literal_from quote true rest
  unfolding literal_from
  backslash_read scalar bytes rest is same e =
      rw (one_byte scalar bytes rest (omega arith) e, same, quote_apart 92 refl refl is) refl

  -- what is read behind a backslash is the part
  pub backslash_part : (scalar : ℕ) (bytes rest : List ℕ) (part : Part) → (quote ≡ 34) ⊎ (quote ≡ 39) → scalar ≡ 92
      → bytes ≡ encode_utf8 scalar ++ rest → IsPartOf quote true rest part → IsPartOf quote false bytes part
  backslash_part scalar bytes rest (Scalar value behind) is same e part = backslash_read scalar bytes rest is same e ∙ part
  backslash_part scalar bytes rest (Close behind) is same e part = backslash_read scalar bytes rest is same e ∙ part
  backslash_part scalar bytes rest Broken is same e part = backslash_read scalar bytes rest is same e ∙ part

  -- nothing is read of no bytes
  pub no_part : (escapes : Bool) (bytes : List ℕ) → bytes ≡ [] → literal_from quote escapes bytes ≡ None
  unfolding literal_from
  no_part true bytes e = rw e refl
  no_part false bytes e = rw e refl

  -- an escape is read before what follows it
  pub escape_part : (scalar value : ℕ) (bytes rest : List ℕ) → cond (is_escape scalar) (Some (escaped scalar)) None ≡ Some value
      → bytes ≡ encode_utf8 scalar ++ rest
      → literal_from quote true bytes ≡ option_map (scalar_before value) (literal_from quote false rest)
  unfolding literal_from
  escape_part scalar value bytes rest is e =
      let split = cond_some (is_escape scalar) (escaped scalar) value is in
      let low = escape_low scalar split.0 in
      let value_low : value < 128 = omega (arith, escaped_low scalar low, split.1) in
      rw (one_byte scalar bytes rest low e, split.0, split.1) (byte_is_scalar value (literal_from quote false rest) value_low)

  -- what is no escape is not read
  pub no_escape_part : (scalar : ℕ) (bytes rest : List ℕ) → cond (is_escape scalar) (Some (escaped scalar)) None ≡ None
      → bytes ≡ encode_utf8 scalar ++ rest → literal_from quote true bytes ≡ None
  unfolding literal_from
  no_escape_part scalar bytes rest is e = ap (literal_from quote true) e ∙ by (encode_utf8 scalar) refl
    where
      by : (front : List ℕ) → encode_utf8 scalar ≡ front → literal_from quote true (front ++ rest) ≡ None
      by [] f = absurd (omega (arith, length-encode scalar, (len_utf8_bounds scalar).0, ap length f))
      by (byte ∷ front) f = rw (first_is_no_escape scalar byte front is f) refl
