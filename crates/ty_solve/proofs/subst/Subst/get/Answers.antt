use Rattle.std.proofs.Common.{length, ap, subst, ◌∙◌, arith}
use Rattle.ty_solve.specs.Held.{IsHeld}
use Rattle.ty_solve.proofs.Holding.{held-get}
use Rattle.std.proofs.Common.{◌∙◌, ap, arith}
use Rattle.ty_solve.specs.Substitution.{is_open}
use Rattle.ty_solve.specs.SlotsOf.{entry_of}
use Rattle.ty_solve.proofs.Slots.{seen-get, seen-past}
use Rattle.ty_solve.proofs.subst.Subst.get.Goals as goal

pub returns-in-Full-clause-held : goal.returns-in-Full-clause-held
returns-in-Full-clause-held c = subst (IsHeld (length c.args.self.now.types)) c.in-Full.is (held-get (length c.args.self.now.types) c.args.self.now.slots.items c.args.v _ (omega (arith, c.args.self.now.slots.ok.0)) c.index.ensures c.args.self.now.held)

pub returns-in-Full-clause-is : goal.returns-in-Full-clause-is
returns-in-Full-clause-is c = seen-get c.args.self.now.types c.args.self.now.slots.items c.args.v _ (omega (arith, c.args.self.now.slots.ok.0)) c.index.ensures ∙ ap (entry_of c.args.self.now.types) c.in-Full.is

pub returns-in-Open-clause-is : goal.returns-in-Open-clause-is
returns-in-Open-clause-is c = ap is_open (seen-get c.args.self.now.types c.args.self.now.slots.items c.args.v _ (omega (arith, c.args.self.now.slots.ok.0)) c.index.ensures ∙ ap (entry_of c.args.self.now.types) c.in-Open.is)

pub returns-else-v-len-clause-is : goal.returns-else-v-len-clause-is
returns-else-v-len-clause-is c = ap is_open (seen-past c.args.self.now.types c.args.self.now.slots.items c.args.v (omega (arith, c.args.self.now.slots.ok.0)))

pub returns-in-Partial-clause-is : goal.returns-in-Partial-clause-is
returns-in-Partial-clause-is c = ap is_open (seen-get c.args.self.now.types c.args.self.now.slots.items c.args.v _ (omega (arith, c.args.self.now.slots.ok.0)) c.index.ensures ∙ ap (entry_of c.args.self.now.types) c.in-Partial.is)
