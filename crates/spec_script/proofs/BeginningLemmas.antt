-- Of two beginnings of an input one is the front of the other. So an input is one script.
use Rattle.std.proofs.Common.{arith, drop, get_or, ◌<◌, ◌^◌, ◌≡◌, ℕ, ◌+◌, ◌⊎◌, inl, inr, List, [], ◌∷◌, ◌++◌, length, refl, sym, ◌∙◌, ap, subst, append_assoc, append-nil}
use Rattle.spec_script.specs.Script.{Command, opens, Part, header, grammar, of_command, Script, nothing, header_alone, with_grammar, as_parts, parts_of, Form, any_order, text_of, IsWithinLimits, IsInOrder, MayFollow, BeginsWithParts, BeginsWithScript, Ending, ended, broken, EndsAs, IsScript}
use Rattle.spec_script.specs.Laws.{OneScript}
use Rattle.spec_script.proofs.ScriptLemmas.{same_part, end_is_no_part}
use Rattle.spec_script.proofs.BreaksLemmas.{breaks_no_part, breaks_no_end, breaks_once}

-- the parts are the first of the others: behind them, in the rest, the input goes on with the others
abbrev pub IsFollowed : List Part → ℕ → List ℕ → List Part → ℕ → List ℕ → Type 0
IsFollowed parts end rest others later more =
    (behind : List Part) × (others ≡ parts ++ behind) × BeginsWithParts end rest behind later more

-- of two beginnings from one offset one is the front of the other
pub two_beginnings : (parts others : List Part) (at end later : ℕ) (bytes rest more : List ℕ) →
    BeginsWithParts at bytes parts end rest → BeginsWithParts at bytes others later more →
    IsFollowed parts end rest others later more ⊎ IsFollowed others later more parts end rest
two_beginnings [] others at end later bytes rest more h k = inl (others, refl, rw (h.0, h.1) k)
two_beginnings (x ∷ xs) [] at end later bytes rest more h k = inr (x ∷ xs, refl, rw (k.0, k.1) h)
two_beginnings (x ∷ xs) (y ∷ ys) at end later bytes rest more h k =
    let same = same_part x y h.0 k.0 h.2 k.2 (sym h.3 ∙ k.3) in
    let again : BeginsWithParts (at + length (text_of x)) h.0 ys later more = rw (same.0, same.1) k.4 in
    elim (two_beginnings xs ys (at + length (text_of x)) end later h.0 rest more h.4 again) [
      | inl f ↦ inl (f.0, (let e = f.1 in let d = same.0 in cc), f.2)
      | inr f ↦ inr (f.0, (let e = f.1 in let d = same.0 in cc), f.2)
    ]

-- a beginning and one part more are a longer beginning
pub begins_more : (parts : List Part) (at end : ℕ) (bytes rest : List ℕ) (part : Part) (more : List ℕ) →
    BeginsWithParts at bytes parts end rest → end < 2 ^ 48 → IsWithinLimits part → rest ≡ text_of part ++ more →
    BeginsWithParts at bytes (parts ++ part ∷ []) (end + length (text_of part)) more
begins_more [] at end bytes rest part more h early within e =
    let later : end + length (text_of part) ≡ at + length (text_of part) =
    ap (λ place. place + length (text_of part)) h.0 in
    (more, omega (arith, h.0, early), within, sym h.1 ∙ e, (later, refl))
begins_more (x ∷ parts) at end bytes rest part more h early within e =
    let next : ℕ = at + length (text_of x) in
    (h.0, h.1, h.2, h.3, begins_more parts next end h.0 rest part more h.4 early within e)

-- some commands and one more have the parts of these and one more
pub parts_more : (commands : List Command) (command : Command) →
    as_parts (commands ++ command ∷ []) ≡ as_parts commands ++ of_command command ∷ []
parts_more [] command = refl
parts_more (other ∷ commands) command =
    ap (λ (parts : List Part). of_command other ∷ parts) (parts_more commands command)

-- the command of the first part
abbrev first_command : List Part → Command
first_command (of_command command ∷ parts) = command
first_command parts = opens []

-- the part at a place
abbrev part_at : ℕ → List Part → Part
part_at place parts = get_or parts place header

-- commands whose parts go on from those of others go on from these
pub commands_behind : (commands longer : List Command) (behind : List Part) →
    as_parts longer ≡ as_parts commands ++ behind →
    (more : List Command) × (longer ≡ commands ++ more) × (behind ≡ as_parts more)
commands_behind [] longer behind e = (longer, refl, sym e)
commands_behind (command ∷ commands) [] behind e = absurd (omega (arith, ap length e))
commands_behind (command ∷ commands) (other ∷ longer) behind e =
    let f = commands_behind commands longer behind (ap (drop 1) e) in
    let same : other ≡ command = ap first_command e in
    let whole : other ∷ longer ≡ command ∷ (commands ++ f.0) =
    ap (λ (c : Command). c ∷ longer) same ∙ ap (λ (all : List Command). command ∷ all) f.1 in
    (f.0, whole, f.2)

-- commands with the same parts are the same
same_commands : (commands others : List Command) → as_parts commands ≡ as_parts others → commands ≡ others
same_commands [] [] e = refl
same_commands [] (other ∷ others) e = absurd (omega (arith, ap length e))
same_commands (command ∷ commands) [] e = absurd (omega (arith, ap length e))
same_commands (command ∷ commands) (other ∷ others) e =
    let same : command ≡ other = ap first_command e in
    let behind : commands ≡ others = same_commands commands others (ap (drop 1) e) in
    ap (λ (c : Command). c ∷ commands) same ∙ ap (λ (all : List Command). other ∷ all) behind

-- the block of a grammar
abbrev block_in : Part → List ℕ
block_in (grammar block) = block
block_in part = []

-- the block of the grammar that is the second part
abbrev pub second_block : List Part → List ℕ
second_block parts = block_in (part_at 1 parts)

-- scripts with the same parts are the same
same_parts : (script other : Script) → parts_of script ≡ parts_of other → script ≡ other
same_parts nothing nothing e = refl
same_parts nothing header_alone e = absurd (omega (arith, ap length e))
same_parts nothing (with_grammar block commands) e = absurd (omega (arith, ap length e))
same_parts header_alone nothing e = absurd (omega (arith, ap length e))
same_parts header_alone header_alone e = refl
same_parts header_alone (with_grammar block commands) e = absurd (omega (arith, ap length e))
same_parts (with_grammar block commands) nothing e = absurd (omega (arith, ap length e))
same_parts (with_grammar block commands) header_alone e = absurd (omega (arith, ap length e))
same_parts (with_grammar block commands) (with_grammar other others) e =
    let blocks : block ≡ other = ap second_block e in
    let behind : commands ≡ others = same_commands commands others (ap (drop 2) e) in
    ap (λ (b : List ℕ). with_grammar b commands) blocks ∙ ap (λ (all : List Command). with_grammar other all) behind

-- commands that may stand behind a grammar may stand there without the last of them
abbrev pub HasFronts : Form → Type 0
HasFronts form = (front back : List Command) → form.MayStand (front ++ back) → form.MayStand front

-- where commands stand in any order they may stand without the last of them
pub any_fronts : HasFronts any_order
any_fronts front back h = tt

-- where the form has fronts
module _ (form : Form) (fronts : HasFronts form) where
  -- the command behind some, where all are in order, is in its place
  next_in_place : (block : List ℕ) (commands longer more : List Command) (part : Part) (behind : List Part) →
      longer ≡ commands ++ more → part ∷ behind ≡ as_parts more → form.MayStand longer →
      MayFollow form (with_grammar block commands) part
  next_in_place block commands longer [] part behind e f in_order = absurd (omega (arith, ap length f))
  next_in_place block commands longer (command ∷ more) part behind e f in_order =
      let whole : form.MayStand ((commands ++ command ∷ []) ++ more) =
      rw (append_assoc commands (command ∷ []) more) (subst form.MayStand e in_order) in
      let P : Part → Type 0 = MayFollow form (with_grammar block commands) in
      let same : part ≡ of_command command = ap (part_at 0) f in
      subst P (sym same) (fronts (commands ++ command ∷ []) more whole)

  -- the part with which a longer script goes on is in its place
  part_in_place : (script longer : Script) (part : Part) (behind : List Part) →
      parts_of longer ≡ parts_of script ++ (part ∷ behind) → IsInOrder form longer → MayFollow form script part
  part_in_place nothing nothing part behind e in_order = absurd (omega (arith, ap length e))
  part_in_place nothing header_alone part behind e in_order =
      let P : Part → Type 0 = MayFollow form nothing in subst P (ap (part_at 0) e) tt
  part_in_place nothing (with_grammar block commands) part behind e in_order =
      let P : Part → Type 0 = MayFollow form nothing in subst P (ap (part_at 0) e) tt
  part_in_place header_alone nothing part behind e in_order = absurd (omega (arith, ap length e))
  part_in_place header_alone header_alone part behind e in_order = absurd (omega (arith, ap length e))
  part_in_place header_alone (with_grammar block commands) part behind e in_order =
      let P : Part → Type 0 = MayFollow form header_alone in subst P (ap (part_at 1) e) tt
  part_in_place (with_grammar block commands) nothing part behind e in_order = absurd (omega (arith, ap length e))
  part_in_place (with_grammar block commands) header_alone part behind e in_order =
      absurd (omega (arith, ap length e))
  part_in_place (with_grammar block commands) (with_grammar other longer) part behind e in_order =
      let f = commands_behind commands longer (part ∷ behind) (ap (drop 2) e) in
      next_in_place block commands longer f.0 part behind f.1 f.2 in_order

  -- where a script ends in some way
  module _ (script : Script) (at : ℕ) (rest : List ℕ) where
    -- no part of a longer one follows
    pub no_part_behind : (ending : Ending) → EndsAs form script at rest ending →
        (part : Part) (behind : List Part) (later : ℕ) (more : List ℕ) →
        BeginsWithParts at rest (part ∷ behind) later more → MayFollow form script part → ⊥
    no_part_behind ended h part behind later more k in_place =
        end_is_no_part part h.more k.0 k.2 (sym h.spelled ∙ k.3)
    no_part_behind (broken place) h part behind later more k in_place =
        breaks_no_part form script at rest part k.0 k.1 in_place k.2 k.3 place h

    -- it does so in no other way
    pub same_ending : (ending final : Ending) → EndsAs form script at rest ending → EndsAs form script at rest final →
        ending ≡ final
    same_ending ended ended h k = refl
    same_ending ended (broken place) h k = absurd (breaks_no_end form script at rest place h k)
    same_ending (broken place) ended h k = absurd (breaks_no_end form script at rest place k h)
    same_ending (broken place) (broken other) h k = ap broken (breaks_once form script at rest place other h k)

  -- where an input is a script
  module _ (input : List ℕ) (script : Script) (ending : Ending) (s : IsScript form input script ending) where
    -- it goes on from each script that the input begins with
    pub script_goes_on : (other : Script) (later : ℕ) (more : List ℕ) →
        BeginsWithScript input other later more → IsInOrder form other →
        IsFollowed (parts_of other) later more (parts_of script) s.at s.rest
    script_goes_on other later more k in_order =
        elim (two_beginnings (parts_of script) (parts_of other) 0 s.at later input s.rest more s.begins k) [
          | inl f ↦ cut f.0 f.1 f.2
          | inr f ↦ f
        ]
      where
        cut : (behind : List Part) → parts_of other ≡ parts_of script ++ behind →
            BeginsWithParts s.at s.rest behind later more →
            IsFollowed (parts_of other) later more (parts_of script) s.at s.rest
        cut [] e f =
            let back : parts_of script ≡ parts_of other ++ [] =
            sym (append-nil (parts_of script)) ∙ sym e ∙ sym (append-nil (parts_of other)) in
            ([], back, (sym f.0, sym f.1))
        cut (part ∷ behind) e f =
            let in_place = part_in_place script other part behind e in_order in
            absurd (no_part_behind script s.at s.rest ending s.ends part behind later more f in_place)

    -- it is no other script
    pub same_script : (other : Script) (final : Ending) → IsScript form input other final →
        (script ≡ other) × (ending ≡ final)
    same_script other final t =
        let f = script_goes_on other t.at t.rest t.begins t.in_order in
        cut f.0 f.1 f.2
      where
        cut : (behind : List Part) → parts_of script ≡ parts_of other ++ behind →
            BeginsWithParts t.at t.rest behind s.at s.rest → (script ≡ other) × (ending ≡ final)
        cut [] e f =
            let same : script ≡ other = same_parts script other (e ∙ append-nil (parts_of other)) in
            let Ends : Script → Type 0 = λ (one : Script). EndsAs form one s.at s.rest ending in
            let ends_so : EndsAs form other s.at s.rest ending = subst Ends same s.ends in
            let ends : EndsAs form other t.at t.rest ending = rw (sym f.0, sym f.1) ends_so in
            (same, same_ending other t.at t.rest ending final ends t.ends)
        cut (part ∷ behind) e f =
            let in_place = part_in_place other script part behind e s.in_order in
            absurd (no_part_behind other t.at t.rest final t.ends part behind s.at s.rest f in_place)

  -- an input is one script
  pub one_script_of : OneScript form
  one_script_of input script other ending final s t = same_script input script ending s other final t

-- so it is where texts and questions stand behind a grammar
pub one_script : OneScript any_order
one_script = one_script_of any_order any_fronts
