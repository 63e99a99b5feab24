use Rattle.std.proofs.Common.{length, set, sym, subst}
use Rattle.ty_solve.specs.Held.{AreHeld}
use Rattle.ty_solve.proofs.Holding.{held-set}
use Rattle.std.proofs.Common.{set, subst, sym}
use Rattle.ty_solve.proofs.Slots.{IsFit, put}
use Rattle.ty_solve.specs.declared.subst.Slot.{Slot}
use Rattle.ty_solve.proofs.subst.Subst.put.Goals as goal

pub invariant_of-self : goal.invariant_of-self
invariant_of-self c =
    let g = subst (λ (o : Slot). IsFit c.args.self.now.types (set c.args.self.now.slots.items c.args.v o)) (sym c.replace.ensures.after) (put c.args.self.now.types c.args.self.now.slots.items c.args.v c.args.slot c.requires.may c.args.self.now.below c.args.self.now.acyclic c.args.self.now.inhabited) in
    record { held = subst (λ (o : Slot). AreHeld (length c.args.self.now.types) (set c.args.self.now.slots.items c.args.v o)) (sym c.replace.ensures.after) (held-set (length c.args.self.now.types) c.args.self.now.slots.items c.args.v c.args.slot c.args.self.now.held c.requires.held); below = g.below; acyclic = g.acyclic; inhabited = g.inhabited }
