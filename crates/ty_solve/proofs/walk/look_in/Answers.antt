use Rattle.std.proofs.Common.{◌≡◌, ℕ, List, ◌∙◌}
use Rattle.ty_table.specs.of_ty_core.Types.{Typ, var}
use Rattle.ty_table.specs.TypeAt.{type_at}
use Rattle.ty_solve.specs.Substitution.{Entry}
use Rattle.ty_solve.specs.SlotsOf.{seen}
use Rattle.ty_solve.specs.Walk.{Looks, LooksInRow}
use Rattle.std.proofs.Common.{refl, [], ◌∷◌}
use Rattle.ty_solve.specs.Walk.{Next}
use Rattle.ty_solve.proofs.Slots.{none-more}
use Rattle.ty_solve.proofs.walk.look_in.Goals as goal

pub returns-in_ok-push-in-Some : goal.returns-in_ok-push-in-Some
returns-in_ok-push-in-Some c = record { parts = c.in-Some.u ∷ []; is = c.in_ok-push-in-Some.ensures.items; next = Next.stands c.in-Var.x c.in-Some.u c.in-Var.ensures c.in-Some.ensures.is refl }

looks-row : (ts : List Typ) (s : ℕ → Entry) (t x : ℕ) (old new : List ℕ) → type_at ts t ≡ var x → LooksInRow ts s x old new → Looks ts s t old new
looks-row ts s t x old new p (LooksInRow.fields e ls ks q r) = record { parts = ks; is = r; next = Next.fields x e ls p q }
looks-row ts s t x old new p (LooksInRow.ends q r) = record { parts = []; is = r ∙ none-more old; next = Next.ends x p q refl }

pub returns-in_ok-look_in_row-in-None : goal.returns-in_ok-look_in_row-in-None
returns-in_ok-look_in_row-in-None c = looks-row c.args.s.now.types (seen c.args.s.now.types c.args.s.now.slots.items) c.args.t c.in-Var.x _ _ c.in-Var.ensures c.in_ok-look_in_row-in-None.ensures

pub returns-in_ok-add_all-in-Apply : goal.returns-in_ok-add_all-in-Apply
returns-in_ok-add_all-in-Apply c = record { parts = c.in-Apply.arguments.now; is = c.in_ok-add_all-in-Apply.ensures; next = Next.applied _ c.in-Apply.ensures.0 }
