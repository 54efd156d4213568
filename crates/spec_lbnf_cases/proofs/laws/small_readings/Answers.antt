-- The functions of Scanning, FileReading and FileDefinitions compute what is read.
use Rattle.std.proofs.lemmas.Option.{same_Some}
use Rattle.std.proofs.Common.{◌≡◌, ℕ, zero, suc, sym, subst, ◌∙◌, ◌≤◌, ◌<◌, List, [], ◌∷◌, ◌++◌, codes, length, slice_get, Some, true, Ok, Err, refl, arith}
use Rattle.std.specs.List.{AllByRecursion}
use Rattle.std.proofs.lemmas.List.Elements.{All-from_recursion}
use Rattle.std.specs.Char.{encode_utf8}
use Rattle.std.specs.Str.{chars, is_utf8}
use Rattle.std.specs.Str.Lossy.{utf8_valid_len}
use Rattle.std.proofs.lemmas.Str.{IsUtf8-from_is_utf8}
use Rattle.spec_lbnf.specs.declared.definition.Def.{Def}
use Rattle.lbnf_readers.specs.Scanning.{scan_of, behind_closing, behind_space, identifier_at, number_token_at, literal_from, string_at, character_at, sign_token_at, file_token_at, tokens_from}
use Rattle.spec_lbnf.specs.declared.fault.TextFault.{TextFault}
use Rattle.spec_lbnf.specs.declared.fault.TextFault.TheVariants.{Syntax, BadDifference}
use Rattle.spec_lbnf.specs.Checks.{HasAt}
use Rattle.spec_lbnf.specs.Differences.{differences_of, IsGood, IsBad, minus_signs}
use Rattle.spec_lbnf.specs.declared.token.PlacedToken.{PlacedToken}
use Rattle.spec_lexing.proofs.ExpressionLemmas.{expression-Class, expression-Scalar, expression-AnyOf, expression-Word, expression-Seq, expression-Alt, expression-Minus, expression-Star, expression-Plus, expression-Opt}
use Rattle.spec_lbnf.proofs.ExpressionLemmas.{expression-Eps}
use Rattle.spec_lbnf.specs.Faults.{Spells, IsFirstFault, is_not_utf8}
use Rattle.spec_lbnf_cases.specs.ReadingExamples.{one_category, one_token, times}
use Rattle.lbnf_readers.specs.FileReading.{next_on, take_token, sign_at, name_at, text_at, number_at, closes_at, bracketed_at, category_at, nil_at, one_at, colon_label_at, paren_label_at, sign_label_at, label_at, item_at, items_at, side_at, rule_at, macro_at, list_macro_at, coercions_at, more_entries_at, entries_at, expression_from, expression_at, token_at, word_at, position_at, filled_text_at, comment_end, comment_at, to_end, def_by, def_at}
use Rattle.lbnf_readers.specs.ExpressionReading.{sign_step, plain_step, atom_step, step}
use Rattle.lbnf_readers.specs.FileDefinitions.{piece_def, defs_at, defs_of}
use Rattle.lbnf_readers.proofs.ScanLemmas.{scanned}
use Rattle.lbnf_readers.proofs.FaultLemmas.{defs_are, bad_is, stop_is, fault_is}
use Rattle.spec_lbnf_cases.proofs.laws.small_readings.Goals as goal

-- what is read of the bytes, where they spell definitions
spelled : (bytes : List ℕ) (defs : List Def) → length bytes ≤ 65536 → is_utf8 bytes ≡ true → (scan_of bytes).1 ≡ length bytes
    → defs_of (scan_of bytes).0 (scan_of bytes).1 ≡ Ok defs → AllByRecursion IsGood (differences_of defs) → Spells bytes defs
spelled bytes defs few utf8 end read good =
    defs_are bytes (scan_of bytes).0 (scan_of bytes).1 (scanned bytes) defs (record { few = few; utf8 = IsUtf8-from_is_utf8 bytes utf8 }) end read
    (All-from_recursion IsGood (differences_of defs) good)

-- and where they have a fault
faulty : (bytes : List ℕ) (fault : TextFault) → length bytes ≤ 65536 → is_utf8 bytes ≡ true
    → defs_of (scan_of bytes).0 (scan_of bytes).1 ≡ Err fault → IsFirstFault bytes fault
faulty bytes fault few utf8 read =
    fault_is bytes (scan_of bytes).0 (scan_of bytes).1 (scanned bytes) fault (record { few = few; utf8 = IsUtf8-from_is_utf8 bytes utf8 }) read

-- and where the first difference is no good one
first_bad : (bytes : List ℕ) (defs : List Def) (offset : ℕ) → length bytes ≤ 65536 → is_utf8 bytes ≡ true → (scan_of bytes).1 ≡ length bytes
    → defs_of (scan_of bytes).0 (scan_of bytes).1 ≡ Ok defs → HasAt IsBad (differences_of defs) 0
    → (sign : PlacedToken) → slice_get (minus_signs (scan_of bytes).0) 0 ≡ Some sign → offset ≡ sign.offset → IsFirstFault bytes (BadDifference offset)
first_bad bytes defs offset few utf8 end read bad sign is_sign is_offset =
    bad_is bytes (scan_of bytes).0 (scan_of bytes).1 (scanned bytes) defs offset
    (record { few = few; utf8 = IsUtf8-from_is_utf8 bytes utf8 }) end read (record {
      number = 0;
      first = record { is_so = bad; none_before = λ k lt has. omega (arith, lt) };
      sign = sign;
      is_sign = is_sign;
      is_offset = is_offset;
    })

-- and where the second difference is no good one, and the first is
second_bad : (bytes : List ℕ) (defs : List Def) (offset : ℕ) → length bytes ≤ 65536 → is_utf8 bytes ≡ true → (scan_of bytes).1 ≡ length bytes
    → defs_of (scan_of bytes).0 (scan_of bytes).1 ≡ Ok defs → HasAt IsGood (differences_of defs) 0 → HasAt IsBad (differences_of defs) 1
    → (sign : PlacedToken) → slice_get (minus_signs (scan_of bytes).0) 1 ≡ Some sign → offset ≡ sign.offset → IsFirstFault bytes (BadDifference offset)
second_bad bytes defs offset few utf8 end read good bad sign is_sign is_offset =
    bad_is bytes (scan_of bytes).0 (scan_of bytes).1 (scanned bytes) defs offset
    (record { few = few; utf8 = IsUtf8-from_is_utf8 bytes utf8 }) end read (record {
      number = 1;
      first = record { is_so = bad; none_before = none };
      sign = sign;
      is_sign = is_sign;
      is_offset = is_offset;
    })
  where
    none : (k : ℕ) → k < 1 → HasAt IsBad (differences_of defs) k → ⊥
    none zero lt has = has.2 (subst IsGood (same_Some good.0 has.0 (sym good.1 ∙ has.1)) good.2)
    none (suc k) lt has = omega (arith, lt)

-- and where the tokens end before the file
cut_off : (bytes : List ℕ) (defs : List Def) → length bytes ≤ 65536 → is_utf8 bytes ≡ true → (scan_of bytes).1 < length bytes
    → defs_of (scan_of bytes).0 (scan_of bytes).1 ≡ Ok defs → IsFirstFault bytes (Syntax (scan_of bytes).1)
cut_off bytes defs few utf8 early read =
    stop_is bytes (scan_of bytes).0 (scan_of bytes).1 (scanned bytes) defs (record { few = few; utf8 = IsUtf8-from_is_utf8 bytes utf8 }) early read

pub returns : goal.returns
unfolding encode_utf8 chars is_utf8 behind_closing behind_space identifier_at number_token_at literal_from string_at character_at sign_token_at file_token_at tokens_from next_on take_token sign_at name_at text_at number_at closes_at bracketed_at category_at nil_at one_at colon_label_at paren_label_at sign_label_at label_at item_at items_at side_at rule_at macro_at list_macro_at coercions_at more_entries_at entries_at expression_from expression_at token_at word_at position_at filled_text_at comment_end comment_at sign_step plain_step atom_step step to_end def_by def_at piece_def defs_at utf8_valid_len
returns c = record {
  nothing_in_it = spelled (codes " ;; ") _ (omega arith) refl refl refl tt;
  rule = spelled (codes "A. S ::= \"a b\" [T];") _ (omega arith) refl refl refl tt;
  two_rules = spelled (codes "_.S::=;(:[]).[S]::=S") _ (omega arith) refl refl refl tt;
  internal = spelled (codes "internal []. S ::= ") _ (omega arith) refl refl refl tt;
  terminator = spelled (codes "terminator nonempty S \"\"") _ (omega arith) refl refl refl tt;
  separator = spelled (codes "separator [S] \",\"") _ (omega arith) refl refl refl tt;
  coercions = spelled (codes "coercions S 03") _ (omega arith) refl refl refl tt;
  entries = spelled (codes "entrypoints S, [T]") _ (omega arith) refl refl refl tt;
  layout = faulty (codes " layout") _ (omega arith) refl refl;
  nonempty = faulty (codes "nonempty") _ (omega arith) refl refl;
  lower_label = faulty (codes "internal a") _ (omega arith) refl refl;
  label_paren = faulty (codes "A(") _ (omega arith) refl refl;
  internal_paren = faulty (codes "internal A (") _ (omega arith) refl refl;
  sign_paren = faulty (codes "_(") _ (omega arith) refl refl;
  lower_category = faulty (codes "_.s") _ (omega arith) refl refl;
  no_item = faulty (codes "_.S::=S.") _ (omega arith) refl refl;
  early_end = faulty (codes "_.S ") _ (omega arith) refl refl;
  early_semicolon = faulty (codes "_.S;") _ (omega arith) refl refl;
  no_token = cut_off (codes "_.S::=S @") _ (omega arith) refl (omega arith) refl;
  open_category = faulty (codes "_.[S::=") _ (omega arith) refl refl;
  no_entry = faulty (codes "entrypoints") _ (omega arith) refl refl;
  deep_category = spelled (one_category 63 (codes "SS")) _ (omega arith) refl refl refl tt;
  too_long_category = faulty (one_category 63 (codes "SSS")) _ (omega arith) refl refl;
  no_utf8 = is_not_utf8 (omega arith) (omega arith) refl;
  kind = spelled (codes "position token Hex {\"0x\"} (digit|[\"af\"])+") _ (omega arith) refl refl refl (simp (expression-Eps, expression-Seq, expression-Alt, expression-Minus, expression-Star, expression-Plus, expression-Opt, expression-Class, expression-Scalar, expression-AnyOf, expression-Word) tt);
  levels = spelled (one_token (codes "'a' eps? | char - 'c' - 'd' | 'e'*+")) _ (omega arith) refl refl refl
      (simp (expression-Eps, expression-Seq, expression-Alt, expression-Minus, expression-Star, expression-Plus, expression-Opt, expression-Class, expression-Scalar, expression-AnyOf, expression-Word) ((tt, omega arith), ((tt, omega arith), tt)));
  empty_texts = spelled (one_token (codes "[\"\"]{\"\"}")) _ (omega arith) refl refl refl (simp (expression-Eps, expression-Seq, expression-Alt, expression-Minus, expression-Star, expression-Plus, expression-Opt, expression-Class, expression-Scalar, expression-AnyOf, expression-Word) tt);
  line_comment = spelled (codes "comment \" \"") _ (omega arith) refl refl refl tt;
  block_comment = spelled (codes "comment \"/*\" \"*/\"") _ (omega arith) refl refl refl tt;
  many_brackets = spelled (one_token (times 64 (codes "(") ++ codes "eps" ++ times 64 (codes ")"))) _ (omega arith) refl refl refl (simp expression-Eps tt);
  too_many_brackets = faulty (one_token (times 65 (codes "("))) _ (omega arith) refl refl;
  too_many_signs = faulty (one_token (codes "eps" ++ times 9 (codes "*"))) _ (omega arith) refl refl;
  signs_in_brackets = faulty (one_token (codes "(eps" ++ times 8 (codes "*") ++ codes ")+ )")) _ (omega arith) refl refl;
  too_many_minus_signs = faulty (one_token (codes "eps" ++ times 9 (codes " -eps"))) _ (omega arith) refl refl;
  other_word = faulty (one_token (codes "digit foo")) _ (omega arith) refl refl;
  no_expression = faulty (one_token (codes ";")) _ (omega arith) refl refl;
  no_operand = faulty (one_token (codes "'a' | ")) _ (omega arith) refl refl;
  no_character = faulty (one_token (codes "['a']")) _ (omega arith) refl refl;
  lower_kind = faulty (codes "token t 'a'") _ (omega arith) refl refl;
  no_word_token = faulty (codes "position T") _ (omega arith) refl refl;
  word_as_label = faulty (codes "token. S ::= \"a\"") _ (omega arith) refl refl;
  empty_comment = faulty (codes "comment \"\"") _ (omega arith) refl refl;
  empty_closing = faulty (codes "comment \"a\" \"\"") _ (omega arith) refl refl;
  wide_right_side = first_bad (one_token (codes "digit - char")) _ _ (omega arith) refl refl refl
      (simp (expression-Eps, expression-Seq, expression-Alt, expression-Minus, expression-Star, expression-Plus, expression-Opt, expression-Class, expression-Scalar, expression-AnyOf, expression-Word) (_, refl, λ good. good.1)) _ refl refl;
  outer_first = first_bad (one_token (codes "('a' 'b') - (digit - char)")) _ _ (omega arith) refl refl refl
      (simp (expression-Eps, expression-Seq, expression-Alt, expression-Minus, expression-Star, expression-Plus, expression-Opt, expression-Class, expression-Scalar, expression-AnyOf, expression-Word) (_, refl, λ good. good.0)) _ refl refl;
  closed_brackets = faulty (one_token (times 65 (codes "(eps)") ++ codes ")")) _ (omega arith) refl refl;
  bar_begins_anew = faulty (one_token (codes "eps" ++ times 8 (codes " -eps") ++ codes "|eps" ++ times 9 (codes " -eps"))) _ (omega arith) refl refl;
  bracket_begins_anew = faulty (one_token (codes "(eps" ++ times 8 (codes " -eps") ++ codes ")" ++ times 9 (codes " -eps"))) _ (omega arith) refl refl;
  sequence_side = first_bad (one_token (codes "('a' 'b') - 'a' ;")) _ _ (omega arith) refl refl refl
      (simp (expression-Eps, expression-Seq, expression-Alt, expression-Minus, expression-Star, expression-Plus, expression-Opt, expression-Class, expression-Scalar, expression-AnyOf, expression-Word) (_, refl, λ good. good.0)) _ refl refl;
  inner_second = second_bad (one_token (codes "char - (digit - char)")) _ _ (omega arith) refl refl refl
      (simp (expression-Eps, expression-Seq, expression-Alt, expression-Minus, expression-Star, expression-Plus, expression-Opt, expression-Class, expression-Scalar, expression-AnyOf, expression-Word) (_, refl, (tt, tt))) (simp (expression-Eps, expression-Seq, expression-Alt, expression-Minus, expression-Star, expression-Plus, expression-Opt, expression-Class, expression-Scalar, expression-AnyOf, expression-Word) (_, refl, λ good. good.1)) _ refl refl;
}
