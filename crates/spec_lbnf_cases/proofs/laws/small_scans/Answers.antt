-- The functions of Scanning compute the tokens.
use Rattle.std.proofs.Common.{[], ◌∷◌, codes, replicate}
use Rattle.std.specs.Char.{encode_utf8}
use Rattle.std.specs.Str.{chars}
use Rattle.spec_lbnf.specs.declared.token.FileToken.TheVariants.{Identifier}
use Rattle.spec_lbnf.specs.FileTokens.{IsScan}
use Rattle.spec_lbnf_cases.specs.ScanExamples.{at}
use Rattle.lbnf_readers.specs.Scanning.{behind_closing, behind_space, identifier_at, number_token_at, literal_from, string_at, character_at, sign_token_at, file_token_at, tokens_from}
use Rattle.lbnf_readers.proofs.ScanLemmas.{scanned}
use Rattle.spec_lbnf_cases.proofs.laws.small_scans.Goals as goal

-- names of many bytes are read without a look at literals
long_name : IsScan (replicate 64 97) (at 0 (Identifier (replicate 64 97)) ∷ []) 64
unfolding behind_closing behind_space identifier_at file_token_at tokens_from
long_name = scanned (replicate 64 97)

too_long_name : IsScan (replicate 65 97) [] 0
unfolding behind_closing behind_space identifier_at file_token_at tokens_from
too_long_name = scanned (replicate 65 97)

pub returns : goal.returns
unfolding encode_utf8 chars behind_closing behind_space identifier_at number_token_at literal_from string_at character_at sign_token_at file_token_at tokens_from
returns c = record {
  empty_file = scanned (codes "");
  white_file = scanned (codes " \t\r\n ");
  gives = scanned (codes "::=");
  colons = scanned (codes "::");
  colon_gives = scanned (codes ":::=");
  no_equals = scanned (codes ":=");
  open_comment = scanned (codes "{-}");
  closed_comment = scanned (codes "{--}");
  no_nesting = scanned (codes "{-{--}-}");
  line_comment = scanned (codes "a--b\nb");
  last_line = scanned (codes "a --");
  return_in_line = scanned (codes "--\rb");
  return_between = scanned (codes "a\rb");
  hyphen = scanned (codes "a-b");
  underscore = scanned (codes "_a_'1");
  letter_behind_digit = scanned (codes "1a");
  long_name = long_name;
  too_long_name = too_long_name;
  four_digits = scanned (codes "0020");
  five_digits = scanned (codes "00020");
  apostrophes = scanned (codes "'''");
  apostrophe = scanned (codes "'\\''");
  no_character = scanned (codes "''");
  two_characters = scanned (codes "'ab'");
  two_bytes = scanned (39 ∷ 195 ∷ 169 ∷ 39 ∷ []);
  empty_string = scanned (codes "\"\"");
  escapes = scanned (codes "\"'\\n\\\"\"");
  no_escape = scanned (codes "\"\\a\"");
  open_string = scanned (codes "a\"a");
  string_over_lines = scanned (codes "\"\n\"");
  byte_order_mark = scanned (239 ∷ 187 ∷ 191 ∷ 97 ∷ []);
}
