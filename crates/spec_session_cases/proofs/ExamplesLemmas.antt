-- Small sessions, worked by hand: where a script breaks, and grammars that are refused.
use Rattle.std.proofs.Common.{◌≡◌, ℕ, ◌+◌, ◌^◌, ◌<◌, ◌≤◌, inl, List, [], ◌∷◌, ◌++◌, length, replicate, get_or, true, codes, decimal, refl, sym, ◌∙◌, ap, subst, arith, append-nil}
use Rattle.std.specs.Char.{encode_utf8}
use Rattle.std.specs.Str.{chars, is_utf8, all_ascii_digits}
use Rattle.std.specs.Str.Parse.{digits_value}
use Rattle.std.proofs.lemmas.List.Elements.{All-replicate}
use Rattle.std.proofs.lemmas.Fmt.{decimal_digit, decimal-digits_value}
use Rattle.std.proofs.lemmas.Str.{IsUtf8-from_is_utf8}
use Rattle.spec_grammar.specs.declared.rule.Label.TheVariants.{Wild}
use Rattle.spec_lbnf.specs.declared.definition.Def.{Def}
use Rattle.spec_lbnf.specs.declared.definition.Def.TheVariants.{Rule}
use Rattle.spec_lbnf.specs.declared.fault.TextFault.TheVariants.{Syntax}
use Rattle.spec_lbnf.specs.declared.fault.GrammarFault.TheVariants.{BadCoercion}
use Rattle.spec_lbnf.specs.Faults.{Spells, IsFirstFault}
use Rattle.spec_lbnf.specs.Checks.{IsFirst, HasAt, IsIllLabelled, IsBadCoercion, IsUnfit}
use Rattle.lbnf_readers.specs.Scanning.{scan_of, behind_closing, behind_space, identifier_at, number_token_at, literal_from, string_at, character_at, sign_token_at, file_token_at, tokens_from}
use Rattle.lbnf_readers.specs.FileReading.{next_on, take_token, sign_at, name_at, text_at, number_at, closes_at, bracketed_at, category_at, nil_at, one_at, colon_label_at, paren_label_at, sign_label_at, label_at, item_at, items_at, side_at, rule_at, macro_at, list_macro_at, coercions_at, more_entries_at, entries_at, to_end, def_by, def_at}
use Rattle.lbnf_readers.specs.FileDefinitions.{piece_def, defs_at}
use Rattle.std.proofs.lemmas.List.Elements.{All-from_recursion}
use Rattle.spec_lbnf.specs.Differences.{IsGood}
use Rattle.lbnf_readers.proofs.ScanLemmas.{scanned}
use Rattle.lbnf_readers.proofs.FaultLemmas.{defs_are, fault_is}
use Rattle.spec_script.specs.Script.{any_order, Part, header, grammar, of_command, nothing, header_alone}
use Rattle.spec_script.specs.Script.{line_of, text_of, IsWithinLimits, MayFollow, broken, IsScript, HasNoLf, HasBlockLine}
use Rattle.spec_script.specs.Script.{BreaksAt, long_line, no_form, no_lf, ends_in_line, ends_in_block}
use Rattle.spec_session.specs.Lines.{as_line, with_number}
use Rattle.spec_session.specs.GrammarReplies.{IsRefused, faulty, unfit, fault_reason, unfit_reason}
use Rattle.spec_session.specs.GrammarReplies.{refusal_line}
use Rattle.spec_session.specs.Sessions.{serve_mode, last_line, IsSession, refused, whole}
use Rattle.spec_script.proofs.ScriptLemmas.{model, is_without, tested, each_differs}

-- where a place has these digits
module _ (place : ℕ) (digits : List ℕ) (is : decimal place ≡ digits) where
  -- it is told by them in the last line of a script that is broken there
  abbrev pub refused_at : List ℕ
  refused_at = codes "script refused " ++ as_line digits

  pub broken_line : refused_at ≡ last_line (broken place)
  broken_line = ap (λ told. codes "script refused " ++ as_line told) (sym is)

  -- an input that is broken there at its first line
  pub broken_at_start : (input : List ℕ) → BreaksAt any_order nothing 0 input place → IsSession serve_mode input refused_at 3
  broken_at_start input breaks = whole nothing (broken place) [] script refl broken_line refl
    where
      script : IsScript any_order input nothing (broken place)
      script = record { at = 0; rest = input; in_order = tt; begins = (refl, refl); ends = breaks }

  -- and one that is broken there behind its header
  pub broken_behind_header : (rest : List ℕ) → BreaksAt any_order header_alone 9 rest place
      → IsSession serve_mode (codes "script 1\n" ++ rest) refused_at 3
  broken_behind_header rest breaks = whole header_alone (broken place) [] script refl broken_line refl
    where
      script : IsScript any_order (codes "script 1\n" ++ rest) header_alone (broken place)
      script = record {
        at = 9;
        rest = rest;
        in_order = tt;
        begins = (rest, omega arith, tt, refl, (refl, refl));
        ends = breaks;
      }

-- the digits of a number of two digits or more
pub digits_of : (digits : List ℕ) → all_ascii_digits digits ≡ true → 0 < length digits → (get_or digits 0 0 ≡ 48 → ⊥)
    → digits_value 10 digits < 2 ^ 64 → decimal (digits_value 10 digits) ≡ digits
digits_of digits are some first small = decimal-digits_value model digits are some (λ lead. absurd (first lead)) small

-- bytes that a test finds no LF in have none
pub clean : (bytes : List ℕ) → is_without 10 bytes ≡ true → HasNoLf bytes
clean bytes e = each_differs 10 bytes (tested 10 bytes e)

-- nor has the same byte again and again
pub clean_repeat : (count : ℕ) → HasNoLf (replicate count 97)
clean_repeat count = All-replicate (λ byte. byte ≡ 10 → ⊥) count 97 (λ e. omega (arith, e))

-- an input without an LF breaks at its end, or at its first byte where it has more than 256 bytes
pub cut_line : (input : List ℕ) (size : ℕ) → length input ≡ size → HasNoLf input → size ≤ 256
    → BreaksAt any_order nothing 0 input size
cut_line input size is no_lf_in short =
    ends_in_line (omega arith) no_lf_in (omega (arith, is, short)) (omega (arith, is))

pub too_long : (input : List ℕ) (size : ℕ) → length input ≡ size → HasNoLf input → 256 < size
    → BreaksAt any_order nothing 0 input 0
too_long input size is no_lf_in more =
    long_line input [] (sym (append-nil input)) no_lf_in (omega (arith, is, more)) refl

-- another line than the header breaks at its first byte
pub other_line : (told behind : List ℕ) → HasNoLf told → (told ≡ codes "script 1" → ⊥)
    → BreaksAt any_order nothing 0 (told ++ (10 ∷ behind)) 0
other_line told behind no_lf_in other =
    no_form told behind refl no_lf_in (record { no_part = none; no_end = λ complete e. complete }) refl
  where
    none : (part : Part) → MayFollow any_order nothing part → IsWithinLimits part → told ≡ line_of part → ⊥
    none header in_place within e = other e
    none (grammar block) in_place within e = in_place
    none (of_command command) in_place within e = in_place

-- behind the header the line of a grammar whose block has one byte or two
abbrev block_line : (count : ℕ) (block behind : List ℕ) → count < 10 → count ≡ length block
    → HasBlockLine any_order header_alone 9 (codes "grammar " ++ ((48 + count) ∷ (10 ∷ behind)))
block_line count block behind small is = record {
  part = grammar block;
  count = count;
  behind = behind;
  early = omega arith;
  in_place = tt;
  within_limits = omega (arith, is, small);
  has_block = is;
  spelled = ap (λ digits. (codes "grammar " ++ digits) ++ (10 ∷ behind))
      (sym (decimal_digit count small) ∙ ap decimal is);
}

-- an input that ends in the place of a block's LF breaks at its end
pub cut_block : BreaksAt any_order header_alone 9 (codes "grammar 2\n;\n") 21
cut_block = ends_in_block (block_line 2 (codes ";\n") (codes ";\n") (omega arith) refl) (omega arith) refl

-- another byte in that place breaks there
pub long_block : BreaksAt any_order header_alone 9 (codes "grammar 1\n;;\n") 20
long_block =
    no_lf (block_line 1 (codes ";") (codes ";;\n") (omega arith) refl) (codes ";") 59 (codes "\n") refl refl
    (λ e. omega (arith, e))
    (ap (λ digits. 9 + length ((codes "grammar " ++ digits) ++ codes "\n;")) (sym (decimal_digit 1 (omega arith))))

-- the bytes of a grammar's block, where its length has one digit
block_text : (block : List ℕ) → length block < 10 →
    text_of (grammar block) ≡ codes "grammar " ++ ((48 + length block) ∷ (10 ∷ (block ++ 10 ∷ [])))
block_text block small =
    ap (λ digits. (codes "grammar " ++ digits) ++ (10 ∷ (block ++ 10 ∷ []))) (decimal_digit (length block) small)

-- where the block of the first grammar is refused with a reason and one digit
module _ (block more word : List ℕ) (digit : ℕ) (short : length block < 10) (small : digit < 10)
    (refusal : IsRefused block (refusal_line (with_number word digit))) where
  -- that is the session
  pub refused_grammar : IsSession serve_mode (codes "script 1\n" ++ ((codes "grammar " ++ ((48 + length block) ∷ (10 ∷ (block ++ 10 ∷ [])))) ++ more))
      (refusal_line (word ++ (codes " " ++ (48 + digit) ∷ []))) 2
  refused_grammar =
      let size : ℕ = length (text_of header) + length (text_of (grammar block)) in
      let grammar_is = sym (ap (λ bytes. bytes ++ more) (block_text block short)) in
      refused block more size
      (_, omega arith, tt, refl, (more, omega arith, omega (arith, short), grammar_is, (refl, refl)))
      (subst (IsRefused block) (ap (λ digits. refusal_line (word ++ (codes " " ++ digits))) (decimal_digit digit small)) refusal) refl

-- a bracket is a fault of syntax
faulty_block : IsFirstFault (codes ")") (Syntax 0)
unfolding encode_utf8 chars is_utf8 behind_closing behind_space identifier_at number_token_at literal_from string_at character_at sign_token_at file_token_at tokens_from next_on take_token sign_at name_at text_at number_at closes_at bracketed_at category_at nil_at one_at colon_label_at paren_label_at sign_label_at label_at item_at items_at side_at rule_at macro_at list_macro_at coercions_at more_entries_at entries_at to_end def_by def_at piece_def defs_at
faulty_block =
    let bytes : List ℕ = codes ")" in
    fault_is bytes (scan_of bytes).0 (scan_of bytes).1 (scanned bytes) (Syntax 0) (record { few = omega arith; utf8 = IsUtf8-from_is_utf8 bytes refl }) refl

pub faulty_refused : IsRefused (codes ")") (refusal_line (with_number (codes "syntax") 0))
faulty_refused = (fault_reason (Syntax 0), faulty (Syntax 0) faulty_block refl, refl)

-- the definition of an unlabelled rule without items
abbrev wild_rule : Def
wild_rule = Rule (record { label = Wild; cat = record { name = codes "S"; depth = 0 }; items = [] })

wild_block : Spells (codes "_.S::=") (wild_rule ∷ [])
unfolding encode_utf8 chars is_utf8 behind_closing behind_space identifier_at number_token_at literal_from string_at character_at sign_token_at file_token_at tokens_from next_on take_token sign_at name_at text_at number_at closes_at bracketed_at category_at nil_at one_at colon_label_at paren_label_at sign_label_at label_at item_at items_at side_at rule_at macro_at list_macro_at coercions_at more_entries_at entries_at to_end def_by def_at piece_def defs_at
wild_block =
    let bytes : List ℕ = codes "_.S::=" in
    defs_are bytes (scan_of bytes).0 (scan_of bytes).1 (scanned bytes) (wild_rule ∷ []) (record { few = omega arith; utf8 = IsUtf8-from_is_utf8 bytes refl }) refl refl
    (All-from_recursion IsGood [] tt)

-- which is a bad coercion
wild_unfit : IsUnfit (wild_rule ∷ []) (BadCoercion 0)
wild_unfit =
    let bad : IsBadCoercion wild_rule = (refl, λ one. omega (arith, one)) in
    let is_first : IsFirst (HasAt IsIllLabelled (wild_rule ∷ [])) 0 = record {
      is_so = (wild_rule, refl, inl bad);
      none_before = λ k less at. absurd (omega arith);
    } in
    inl (0, is_first, inl ((wild_rule, refl, bad), refl))

pub unfit_refused : IsRefused (codes "_.S::=") (refusal_line (with_number (codes "coercion") 0))
unfit_refused =
    (unfit_reason (BadCoercion 0), unfit (wild_rule ∷ []) (BadCoercion 0) wild_block wild_unfit refl, refl)
