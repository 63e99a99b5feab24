use Rattle.std.proofs.Common.{◌≡◌, length, true, ap, sym, subst, ◌∙◌, arith}
use Rattle.ty_solve.specs.Substitution.{Entry, free, bound, is_open, mark}
use Rattle.ty_solve.specs.SlotsOf.{entry_of}
use Rattle.ty_solve.specs.Held.{IsHeld}
use Rattle.ty_solve.proofs.Holding.{held-get}
use Rattle.ty_solve.proofs.Slots.{seen-get, seen-past}
use Rattle.ty_solve.proofs.subst.Subst.row.Goals as goal

free-mark : (e : Entry) (k : Rattle.ty_table.specs.of_ty_core.declared.mark.Mark.Mark) → e ≡ free k → e ≡ free (mark e)
free-mark e k p = p ∙ ap (λ x. free (mark x)) (sym p)

never-open : (e : Entry) (t : Rattle.ty_table.specs.of_ty_core.Types.Typ) → e ≡ bound t → is_open e ≡ true → e ≡ free (mark e)
never-open e t p h = let q = sym (ap is_open p) ∙ h in cc

pub returns-in-Partial-clause-held : goal.returns-in-Partial-clause-held
returns-in-Partial-clause-held c = subst (IsHeld (length c.args.self.now.types)) c.in-Partial.is (held-get (length c.args.self.now.types) c.args.self.now.slots.items c.args.v _ (omega (arith, c.args.self.now.slots.ok.0)) c.index.ensures c.args.self.now.held)

pub returns-in-Partial-clause-is : goal.returns-in-Partial-clause-is
returns-in-Partial-clause-is c = seen-get c.args.self.now.types c.args.self.now.slots.items c.args.v _ (omega (arith, c.args.self.now.slots.ok.0)) c.index.ensures ∙ ap (entry_of c.args.self.now.types) c.in-Partial.is

pub returns-in-Open-clause-is : goal.returns-in-Open-clause-is
returns-in-Open-clause-is c = λ h. free-mark _ _ (seen-get c.args.self.now.types c.args.self.now.slots.items c.args.v _ (omega (arith, c.args.self.now.slots.ok.0)) c.index.ensures ∙ ap (entry_of c.args.self.now.types) c.in-Open.is)

pub returns-in-Full-clause-is : goal.returns-in-Full-clause-is
returns-in-Full-clause-is c = λ h. never-open _ _ (seen-get c.args.self.now.types c.args.self.now.slots.items c.args.v _ (omega (arith, c.args.self.now.slots.ok.0)) c.index.ensures ∙ ap (entry_of c.args.self.now.types) c.in-Full.is) h

pub returns-else-v-len-clause-is : goal.returns-else-v-len-clause-is
returns-else-v-len-clause-is c = λ h. free-mark _ _ (seen-past c.args.self.now.types c.args.self.now.slots.items c.args.v (omega (arith, c.args.self.now.slots.ok.0)))
