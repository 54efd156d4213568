use Rattle.std.proofs.Common.{◌≡◌, ◌++◌, ◌∷◌, [], ◌∙◌, List, length, sym, ap, subst, arith, rules}
use Rattle.std.proofs.lemmas.Result.{err_from_is_err_and}
use Rattle.spec_lbnf.specs.declared.token.PlacedToken.{PlacedToken}
use Rattle.lbnf_readers.specs.FileDefinitions.{piece_at, behind_piece}
use Rattle.lbnf_text.proofs.DefinitionsLemmas.{AreReadDefs, skip_semicolon, shorter, still_fault, no_defs, more_defs, all_read}
use Rattle.lbnf_text.proofs.definitions.definitions.Goals as goal

pub pieces-preserved-then-is_semicolon : goal.pieces-preserved-then-is_semicolon
pieces-preserved-then-is_semicolon c =
    let read = subst (AreReadDefs c.args.tokens.now c.args.stop c.pieces.list.items) c.in-Some.ensures c.pieces.invariant in
    skip_semicolon c.args.tokens.now c.args.stop c.pieces.list.items c.in-Some.first.now c.in-Some.behind.now read (sym c.is_semicolon.ensures ∙ c.if-is_semicolon.true)

pub returns-in_err-def : goal.returns-in_err-def
returns-in_err-def c =
    let p = err_from_is_err_and c.from_residual.result c.from_residual.ensures.1 in
    let split = c.in-Some.ensures in
    let read = subst (AreReadDefs c.args.tokens.now c.args.stop c.pieces.list.items) split c.pieces.invariant in
    rw (p.1, p.2) (still_fault c.in_err-def.field-0.0 _ _ (rw (← c.offset_of.ensures) c.in_err-def.ensures) (no_defs c.args.tokens.now c.args.stop c.pieces.list.items c.in-Some.first.now c.in-Some.behind.now c.cut.result.0.now c.cut.result.1.now read (sym c.is_semicolon.ensures ∙ c.if-is_semicolon.false) (c.cut.ensures.piece ∙ ap piece_at split) (c.cut.ensures.behind ∙ ap behind_piece split)))

pub pieces-smaller : goal.pieces-smaller
pieces-smaller c =
    let split = c.in-Some.ensures in
    let read = subst (AreReadDefs c.args.tokens.now c.args.stop c.pieces.list.items) split c.pieces.invariant in
    let size = ap (λ (tokens : List PlacedToken). length tokens) split in
    omega (arith, size, shorter c.args.tokens.now c.args.stop c.pieces.list.items c.in-Some.first.now c.in-Some.behind.now c.cut.result.0.now c.cut.result.1.now read (sym c.is_semicolon.ensures ∙ c.if-is_semicolon.false) (c.cut.ensures.piece ∙ ap piece_at split) (c.cut.ensures.behind ∙ ap behind_piece split))

pub pieces-preserved : goal.pieces-preserved
pieces-preserved c =
    let split = c.in-Some.ensures in
    let read = subst (AreReadDefs c.args.tokens.now c.args.stop c.pieces.list.items) split c.pieces.invariant in
    let pushed : c.push.new.self.items ≡ c.pieces.list.items ++ c.in_ok-def.def ∷ [] = search rules in
    rw pushed (more_defs c.args.tokens.now c.args.stop c.pieces.list.items c.in-Some.first.now c.in-Some.behind.now c.cut.result.0.now c.cut.result.1.now read (sym c.is_semicolon.ensures ∙ c.if-is_semicolon.false) (c.cut.ensures.piece ∙ ap piece_at split) (c.cut.ensures.behind ∙ ap behind_piece split) c.in_ok-def.def (rw (← c.offset_of.ensures) c.in_ok-def.ensures))

pub returns : goal.returns
returns c = all_read c.args.tokens.now c.args.stop c.pieces.list.items c.pieces.rest.now c.pieces.invariant c.in_default.ensures
