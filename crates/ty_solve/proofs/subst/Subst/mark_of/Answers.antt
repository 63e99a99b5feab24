use Rattle.std.proofs.Common.{◌∙◌, ap, sym, arith}
use Rattle.ty_solve.specs.Substitution.{mark}
use Rattle.ty_solve.specs.SlotsOf.{entry_of}
use Rattle.ty_solve.proofs.Slots.{seen-get, seen-past}
use Rattle.ty_solve.proofs.subst.Subst.mark_of.Goals as goal

pub returns-in-Full : goal.returns-in-Full
returns-in-Full c = sym (ap mark (seen-get c.args.self.now.types c.args.self.now.slots.items c.args.v _ (omega (arith, c.args.self.now.slots.ok.0)) c.index.ensures ∙ ap (entry_of c.args.self.now.types) c.in-Full.is))

pub returns-in-Open : goal.returns-in-Open
returns-in-Open c = sym (ap mark (seen-get c.args.self.now.types c.args.self.now.slots.items c.args.v _ (omega (arith, c.args.self.now.slots.ok.0)) c.index.ensures ∙ ap (entry_of c.args.self.now.types) c.in-Open.is))

pub returns-else-v-len : goal.returns-else-v-len
returns-else-v-len c = sym (ap mark (seen-past c.args.self.now.types c.args.self.now.slots.items c.args.v (omega (arith, c.args.self.now.slots.ok.0))))

pub returns-in-Partial : goal.returns-in-Partial
returns-in-Partial c = sym (ap mark (seen-get c.args.self.now.types c.args.self.now.slots.items c.args.v _ (omega (arith, c.args.self.now.slots.ok.0)) c.index.ensures ∙ ap (entry_of c.args.self.now.types) c.in-Partial.is))
