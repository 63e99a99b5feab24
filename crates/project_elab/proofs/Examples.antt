-- Record patterns with `...` by computation.
use Rattle.std.proofs.Common.{◌≡◌, ℕ, zero, suc, true, false, [], ◌∷◌, refl}
use Rattle.ty_core.specs.Types.{var, none}
use Rattle.elab_types.specs.of_ty_solve.Substitution.{Entry, free, row}
use Rattle.ty_core.specs.declared.mark.Mark.{Mark}
use Rattle.elab_steps.specs.Flexible.{is_asked, is_settled}

-- variable 0 stands for a record with a field and perhaps others, all others for anything
abbrev said : ℕ → Entry
said zero = row false [] none
said (suc v) = free Mark.Any

a-row-is-open : is_settled said (var 0) ≡ false
a-row-is-open = refl

other-variables-are-no-records : is_settled said (var 1) ≡ true
other-variables-are-no-records = refl

the-first-is-not-asked : is_asked (false ∷ true ∷ []) 0 ≡ false
the-first-is-not-asked = refl

those-behind-are-asked : is_asked (false ∷ []) 1 ≡ true
those-behind-are-asked = refl
