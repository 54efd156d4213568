-- An input has one session in the mode `check`, since its form and its lines are definite.
use Rattle.std.proofs.Common.{[], ◌∷◌, length, refl, sym, ◌∙◌, ap, arith}
use Rattle.spec_script.proofs.BeginningLemmas.{HasFronts}
use Rattle.spec_session.specs.Checking.{bare_form, check_mode, OneCheckSession}
use Rattle.spec_session.proofs.SessionsLemmas.{IsDefinite, one_session_of}

-- a front of no commands is none
bare_fronts : HasFronts bare_form
bare_fronts [] back h = refl
bare_fronts (command ∷ front) back h = absurd (omega (arith, ap length h))

check_definite : IsDefinite check_mode
check_definite = record { bare = refl; fronts = bare_fronts; one_text = λ g lines others h k. h ∙ sym k }

-- an input has one session
pub one_check_session : OneCheckSession
one_check_session = one_session_of check_mode check_definite
