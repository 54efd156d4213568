-- Strings and characters: a literal that stands before a rest is read, and what is read stands there.
use Rattle.std.proofs.Common.{◌≡◌, ℕ, zero, suc, List, [], ◌∷◌, ◌++◌, map, flat_map, get_or, codes, Bool, true, false, eqb, Option, Some, None, option_map, option_and_then, Contains, refl, sym, ap, subst, ◌∙◌, inl, inr, append_assoc, arith, chars}
use Rattle.std.specs.Char.{IsScalar, encode_utf8}
use Rattle.std.specs.List.{list_any, AllByRecursion}
use Rattle.std.specs.Str.{all_scalars, bytes_eq}
use Rattle.std.proofs.lemmas.Bool.{cases_Bool, false≢true, and_parts, and_from, eqb-true, eq-eqb, ne_eqb, eqb-false}
use Rattle.std.proofs.lemmas.Bool.Decides.{nat_tests}
use Rattle.std.proofs.lemmas.Option.{cond_some, none-some, some_pair_parts}
use Rattle.std.proofs.lemmas.Slice.Eq.{bytes_eq-Decides}
use Rattle.std.proofs.lemmas.List.{append-nil}
use Rattle.std.proofs.lemmas.List.Elements.{All-from_recursion, recursion_from_All}
use Rattle.std.proofs.lemmas.Str.{chars-encodes}
use Rattle.spec_lbnf.specs.declared.token.FileToken.{FileToken}
use Rattle.spec_lbnf.specs.declared.token.FileToken.TheVariants.{Text, Character}
use Rattle.spec_lbnf.specs.FileTokens.{LiteralPart, plain, escape, IsLiteralPart, part_bytes, part_value, escaped, IsLiteral}
use Rattle.lbnf_readers.specs.Scanning.{is_escape, byte_before, literal_from, string_of, string_at, is_encoded, character_of, character_at, IsTokenAt}

-- the bytes that an escape may have behind its backslash
abbrev escapes : List ℕ
escapes = codes "\"'\\nt"

-- a byte of the list passes the test for each
any_again : (bytes : List ℕ) (byte : ℕ) → Contains bytes byte → list_any (eqb byte) bytes ≡ true
any_again [] byte (k, l, e) = absurd (omega arith)
any_again (b ∷ bytes) byte (zero, l, e) = rw (eq-eqb byte b (sym e)) refl
any_again (b ∷ bytes) byte (suc k, l, e) = rw (any_again bytes byte (k, omega arith, e)) (grind (arith, nat_tests))

-- a byte that passes the test for some is one of the list
any_read : (bytes : List ℕ) (byte : ℕ) → list_any (eqb byte) bytes ≡ true → Contains bytes byte
any_read [] byte h = absurd (false≢true h)
any_read (b ∷ bytes) byte h = elim (cases_Bool (eqb byte b)) [
  | inl e ↦ (zero, omega arith, sym (eqb-true byte b e))
  | inr e ↦ let found = any_read bytes byte (rw e at h) in (suc found.0, omega (arith, found.1), found.2)
]

-- a byte that stands for itself in a literal is neither its quote nor a backslash nor LF
pub record StandsPlain (quote byte : ℕ) : Type 0 where
  pub no_quote : eqb byte quote ≡ false
  pub no_backslash : eqb byte 92 ≡ false
  pub no_line_end : eqb byte 10 ≡ false

-- the two forms of this are one
stands_plain : (quote byte : ℕ) → IsLiteralPart quote (plain byte) → StandsPlain quote byte
stands_plain quote byte apart = record {
  no_quote = ne_eqb byte quote (λ e. apart (0, omega arith, sym e));
  no_backslash = ne_eqb byte 92 (λ e. apart (1, omega arith, sym e));
  no_line_end = ne_eqb byte 10 (λ e. apart (2, omega arith, sym e));
}

plain_part : (quote byte : ℕ) → StandsPlain quote byte → IsLiteralPart quote (plain byte)
plain_part quote byte stands (zero, l, e) = eqb-false byte quote stands.no_quote (sym e)
plain_part quote byte stands (suc zero, l, e) = eqb-false byte 92 stands.no_backslash (sym e)
plain_part quote byte stands (suc (suc zero), l, e) = eqb-false byte 10 stands.no_line_end (sym e)
plain_part quote byte stands (suc (suc (suc k)), l, e) = absurd (omega arith)

module _ (quote : ℕ) where
  -- the parts, up to a quote, are read
  pub parts_again : (parts : List LiteralPart) (rest : List ℕ) → eqb 92 quote ≡ false
      → AllByRecursion (IsLiteralPart quote) parts
      → literal_from quote false (flat_map part_bytes parts ++ quote ∷ rest) ≡ Some (map part_value parts, rest)
  unfolding literal_from
  parts_again [] rest apart all = rw (eq-eqb quote quote refl) refl
  parts_again (plain byte ∷ parts) rest apart all =
      let stands = stands_plain quote byte all.0 in
      rw (stands.no_quote, stands.no_backslash, stands.no_line_end, parts_again parts rest apart all.1) refl
  parts_again (escape byte ∷ parts) rest apart all =
      rw (apart, any_again escapes byte all.0, parts_again parts rest apart all.1) refl

  -- what is read where no backslash stands before it: parts, up to a quote
  pub record ReadsParts (bytes value rest : List ℕ) : Type 0 where
    pub parts : List LiteralPart
    pub each : AllByRecursion (IsLiteralPart quote) parts
    pub whole : bytes ≡ flat_map part_bytes parts ++ quote ∷ rest
    pub means : value ≡ map part_value parts

  -- what is read where a backslash does: the byte of an escape, and parts
  pub record ReadsEscape (bytes value rest : List ℕ) : Type 0 where
    pub byte : ℕ
    pub behind : List ℕ
    pub value_behind : List ℕ
    pub is_escape : Contains escapes byte
    pub whole : bytes ≡ byte ∷ behind
    pub means : value ≡ escaped byte ∷ value_behind
    pub reads : ReadsParts behind value_behind rest

  -- what is read, in both cases
  abbrev ReadsLiteral : Bool → List ℕ → List ℕ → List ℕ → Type 0
  ReadsLiteral true bytes value rest = ReadsEscape bytes value rest
  ReadsLiteral false bytes value rest = ReadsParts bytes value rest

  -- a byte that stands for itself before parts
  plain_before : (byte : ℕ) (bytes value behind rest : List ℕ) → StandsPlain quote byte
      → value ≡ byte ∷ behind → ReadsParts bytes behind rest → ReadsParts (byte ∷ bytes) value rest
  plain_before byte bytes value behind rest stands e reads = record {
    parts = plain byte ∷ reads.parts;
    each = (plain_part quote byte stands, reads.each);
    whole = ap (λ l. byte ∷ l) reads.whole;
    means = e ∙ ap (λ l. byte ∷ l) reads.means;
  }

  -- a backslash before an escape's byte
  backslash_before : (byte : ℕ) (bytes value rest : List ℕ) → byte ≡ 92 → ReadsEscape bytes value rest
      → ReadsParts (byte ∷ bytes) value rest
  backslash_before byte bytes value rest e reads = record {
    parts = escape reads.byte ∷ reads.reads.parts;
    each = (reads.is_escape, reads.reads.each);
    whole = rw e (ap (λ l. 92 ∷ l) (reads.whole ∙ ap (λ l. reads.byte ∷ l) reads.reads.whole));
    means = reads.means ∙ ap (λ l. escaped reads.byte ∷ l) reads.reads.means;
  }

  -- what is read with a byte before it
  split_before : (byte : ℕ) (o : Option (List ℕ × List ℕ)) (value rest : List ℕ)
      → option_map (byte_before byte) o ≡ Some (value, rest)
      → (behind : List ℕ) × (o ≡ Some (behind, rest)) × (value ≡ byte ∷ behind)
  split_before byte None value rest e = absurd (none-some _ e)
  split_before byte (Some read) value rest e =
      let parts = some_pair_parts (byte ∷ read.0) value read.1 rest e in
      (read.0, ap (λ r. Some (read.0, r)) parts.1, sym parts.0)

  -- what is read is spelled
  parts_read : (bytes : List ℕ) (escapes : Bool) (value rest : List ℕ)
      → literal_from quote escapes bytes ≡ Some (value, rest) → ReadsLiteral escapes bytes value rest
  unfolding literal_from
  parts_read [] true value rest e = absurd (none-some _ e)
  parts_read [] false value rest e = absurd (none-some _ e)
  parts_read (byte ∷ bytes) true value rest e = elim (cases_Bool (is_escape byte)) [
    | inr h ↦ absurd (none-some _ (rw h at e))
    | inl h ↦
        let split = split_before (escaped byte) (literal_from quote false bytes) value rest (rw h at e) in
        record {
          byte = byte;
          behind = bytes;
          value_behind = split.0;
          is_escape = any_read escapes byte h;
          whole = refl;
          means = split.2;
          reads = parts_read bytes false split.0 rest split.1;
        }
  ]
  parts_read (byte ∷ bytes) false value rest e = elim (cases_Bool (eqb byte quote)) [
    | inl h ↦
        let parts = some_pair_parts [] value bytes rest (rw h at e) in
        record {
          parts = [];
          each = tt;
          whole = (λ i. eqb-true byte quote h i ∷ parts.1 i);
          means = sym parts.0;
        }
    | inr h ↦ elim (cases_Bool (eqb byte 92)) [
      | inl k ↦
          let reads = parts_read bytes true value rest (rw (h, k) at e) in
          backslash_before byte bytes value rest (eqb-true byte 92 k) reads
      | inr k ↦ elim (cases_Bool (eqb byte 10)) [
        | inl m ↦ absurd (none-some _ (rw (h, k, m) at e))
        | inr m ↦
            let split = split_before byte (literal_from quote false bytes) value rest (rw (h, k, m) at e) in
            let reads = parts_read bytes false split.0 rest split.1 in
            let stands : StandsPlain quote byte = record { no_quote = h; no_backslash = k; no_line_end = m } in
            plain_before byte bytes value split.0 rest stands split.2 reads
      ]
    ]
  ]

  -- a literal is read behind its opening quote
  pub literal_again : (value bytes written rest : List ℕ) → eqb 92 quote ≡ false → bytes ≡ written ++ rest
      → IsLiteral quote value written
      → (behind : List ℕ) × (bytes ≡ quote ∷ behind) × (literal_from quote false behind ≡ Some (value, rest))
  literal_again value bytes written rest apart e is =
      let parts : List ℕ = flat_map part_bytes is.parts in
      let each = recursion_from_All (IsLiteralPart quote) is.parts is.each in
      let read = parts_again is.parts rest apart each in
      let whole : bytes ≡ quote ∷ (parts ++ quote ∷ rest) =
      e ∙ ap (λ l. l ++ rest) is.whole ∙ ap (λ l. quote ∷ l) (append_assoc parts (quote ∷ []) rest) in
      (parts ++ quote ∷ rest, whole, read ∙ ap (λ v. Some (v, rest)) (sym is.means))

  -- what is read is a literal behind its opening quote
  pub literal_read : (value bytes rest : List ℕ) → literal_from quote false bytes ≡ Some (value, rest)
      → (written : List ℕ) × (quote ∷ bytes ≡ written ++ rest) × IsLiteral quote value written
  literal_read value bytes rest e =
      let reads = parts_read bytes false value rest e in
      let parts : List ℕ = flat_map part_bytes reads.parts in
      let is : IsLiteral quote value (quote ∷ parts ++ quote ∷ []) = record {
        parts = reads.parts;
        each = All-from_recursion (IsLiteralPart quote) reads.parts reads.each;
        whole = refl;
        means = reads.means;
      } in
      (quote ∷ parts ++ quote ∷ [], ap (λ l. quote ∷ l) (reads.whole ∙ sym (append_assoc parts (quote ∷ []) rest)), is)

-- a string before a rest is read behind its opening quote
pub string_again : (value bytes rest : List ℕ) → IsTokenAt (Text value) bytes rest
    → (behind : List ℕ) × (bytes ≡ 34 ∷ behind) × (string_at behind ≡ Some (Text value, rest))
unfolding string_at
string_again value bytes rest (written, e, is) =
    let read = literal_again 34 value bytes written rest refl e is in
    (read.0, read.1, ap (option_map string_of) read.2)

-- what is read of a string is one behind its opening quote
pub string_read : (bytes : List ℕ) (token : FileToken) (rest : List ℕ) → string_at bytes ≡ Some (token, rest)
    → IsTokenAt token (34 ∷ bytes) rest
unfolding string_at
string_read bytes token rest e = of (literal_from 34 false bytes) refl e
  where
    of : (o : Option (List ℕ × List ℕ)) → literal_from 34 false bytes ≡ o → option_map string_of o ≡ Some (token, rest)
        → IsTokenAt token (34 ∷ bytes) rest
    of None k e = absurd (none-some _ e)
    of (Some read) k e =
        let parts = some_pair_parts (Text read.0) token read.1 rest e in
        let reads = literal_read 34 read.0 bytes read.1 k in
        subst (λ r. IsTokenAt token (34 ∷ bytes) r) parts.1 (subst (λ t. IsTokenAt t (34 ∷ bytes) read.1) parts.0 reads)

-- the bytes of a scalar are told to be its
pub is_encoded_again : (scalar : ℕ) → IsScalar scalar → is_encoded scalar (encode_utf8 scalar) ≡ true
is_encoded_again scalar is =
    and_from (all_scalars (scalar ∷ [])) _ (and_from _ true is refl) ((bytes_eq-Decides (encode_utf8 scalar) (encode_utf8 scalar)).1 refl)

-- what is told to be the bytes of a scalar is
pub is_encoded_read : (scalar : ℕ) (bytes : List ℕ) → is_encoded scalar bytes ≡ true
    → IsScalar scalar × (encode_utf8 scalar ≡ bytes)
is_encoded_read scalar bytes h =
    let parts = and_parts (all_scalars (scalar ∷ [])) (bytes_eq (encode_utf8 scalar) bytes) h in
    ((and_parts _ true parts.0).0, (bytes_eq-Decides (encode_utf8 scalar) bytes).0 parts.1)

-- the scalar of a scalar's bytes is this one
pub first_scalar : (scalar : ℕ) → IsScalar scalar → get_or (chars (encode_utf8 scalar)) 0 0 ≡ scalar
first_scalar scalar is =
    let whole : chars (encode_utf8 scalar ++ []) ≡ scalar ∷ [] = chars-encodes (scalar ∷ []) (and_from _ true is refl) in
    rw append-nil at (ap (λ l. get_or l 0 0) whole)

-- a character is read behind its opening quote
pub character_again : (scalar : ℕ) (bytes rest : List ℕ) → IsTokenAt (Character scalar) bytes rest
    → (behind : List ℕ) × (bytes ≡ 39 ∷ behind) × (character_at behind ≡ Some (Character scalar, rest))
unfolding character_at
character_again scalar bytes rest (written, e, (scalar_is, is)) =
    let read = literal_again 39 (encode_utf8 scalar) bytes written rest refl e is in
    (read.0, read.1, rw (read.2, first_scalar scalar scalar_is, is_encoded_again scalar scalar_is) refl)

-- what is read of a character is one behind its opening quote
pub character_read : (bytes : List ℕ) (token : FileToken) (rest : List ℕ) → character_at bytes ≡ Some (token, rest)
    → IsTokenAt token (39 ∷ bytes) rest
unfolding character_at
character_read bytes token rest e = of (literal_from 39 false bytes) refl e
  where
    of : (o : Option (List ℕ × List ℕ)) → literal_from 39 false bytes ≡ o → option_and_then character_of o ≡ Some (token, rest)
        → IsTokenAt token (39 ∷ bytes) rest
    of None k e = absurd (none-some _ e)
    of (Some read) k e =
        let scalar : ℕ = get_or (chars read.0) 0 0 in
        let split = cond_some (is_encoded scalar read.0) (Character scalar, read.1) (token, rest) e in
        let is = is_encoded_read scalar read.0 split.0 in
        let reads = literal_read 39 read.0 bytes read.1 k in
        let begins : IsTokenAt (Character scalar) (39 ∷ bytes) read.1 =
        (reads.0, reads.1, (is.0, subst (λ v. IsLiteral 39 v reads.0) (sym is.1) reads.2)) in
        subst (λ r. IsTokenAt r.0 (39 ∷ bytes) r.1) split.1 begins
