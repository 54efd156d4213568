-- No fault that the definitions tell is want of memory.
use Rattle.std.proofs.Common.{◌≡◌, ℕ, List, Bool, true, false, inl, inr, sym, ap}
use Rattle.std.proofs.lemmas.Bool.{false≢true}
use Rattle.spec_lbnf.specs.declared.fault.GrammarFault.{GrammarFault}
use Rattle.spec_lbnf.specs.declared.fault.GrammarFault.TheVariants.{Memory as GrammarMemory}
use Rattle.spec_lbnf.specs.declared.fault.TextFault.{TextFault}
use Rattle.spec_lbnf.specs.declared.fault.TextFault.TheVariants.{Memory as FileMemory}
use Rattle.spec_lbnf.specs.declared.token.PlacedToken.{PlacedToken}
use Rattle.spec_lbnf.specs.Faults.{LeavesOut, first_word, lower_label, label_bracket, FaultAt, long_category, left_out, misplaced, no_token, early_end, is_large, is_not_utf8, in_tokens, bad_difference}
use Rattle.spec_lbnf.specs.Laws.{NoMemoryFault, NoMemoryUnfitness}

-- the fault of a file is want of memory
abbrev is_file_memory : TextFault → Bool
is_file_memory FileMemory = true
is_file_memory other = false

-- the fault of definitions is want of memory
abbrev is_grammar_memory : GrammarFault → Bool
is_grammar_memory GrammarMemory = true
is_grammar_memory other = false

-- nothing that is left out is want of memory
no_memory_left_out : (front : List PlacedToken) (token : PlacedToken) → LeavesOut front token FileMemory → ⊥
no_memory_left_out front token (first_word word first is_word lower is) = false≢true (sym (ap is_file_memory is))
no_memory_left_out front token (lower_label word behind is_word lower is) = false≢true (sym (ap is_file_memory is))
no_memory_left_out front token (label_bracket named opens is) = false≢true (sym (ap is_file_memory is))

-- no fault at a front is want of memory
no_memory_at : (bytes : List ℕ) (tokens : List PlacedToken) (stop : ℕ) (front : List PlacedToken)
    → FaultAt bytes tokens stop front FileMemory → ⊥
no_memory_at bytes tokens stop front (long_category offset first is) = false≢true (sym (ap is_file_memory is))
no_memory_at bytes tokens stop front (left_out token stops leaves) = no_memory_left_out front token leaves
no_memory_at bytes tokens stop front (misplaced token stops others is) = false≢true (sym (ap is_file_memory is))
no_memory_at bytes tokens stop front (no_token reaches early is) = false≢true (sym (ap is_file_memory is))
no_memory_at bytes tokens stop front (early_end reaches end none is) = false≢true (sym (ap is_file_memory is))

-- no first fault of a file is want of memory
pub no_memory_fault : NoMemoryFault
no_memory_fault bytes (is_large large is) = false≢true (sym (ap is_file_memory is))
no_memory_fault bytes (is_not_utf8 few early is) = false≢true (sym (ap is_file_memory is))
no_memory_fault bytes (in_tokens small tokens stop scan front is at_front) = no_memory_at bytes tokens stop front at_front
no_memory_fault bytes (bad_difference tokens defs form offset first is) = false≢true (sym (ap is_file_memory is))

-- no definitions are unfit for want of memory
pub no_memory_unfitness : NoMemoryUnfitness
no_memory_unfitness defs (inl (number, first, inl (bad, is))) = false≢true (sym (ap is_grammar_memory is))
no_memory_unfitness defs (inl (number, first, inr (bad, is))) = false≢true (sym (ap is_grammar_memory is))
no_memory_unfitness defs (inr (all, inl (many, is))) = false≢true (sym (ap is_grammar_memory is))
no_memory_unfitness defs (inr (all, inr (few, inl (name, first, is)))) = false≢true (sym (ap is_grammar_memory is))
no_memory_unfitness defs (inr (all, inr (few, inr (own, inl (name, number, first, is))))) = false≢true (sym (ap is_grammar_memory is))
no_memory_unfitness defs (inr (all, inr (few, inr (own, inr (known, (name, cyclic, is)))))) =
    false≢true (sym (ap is_grammar_memory is))
