use Rattle.std.proofs.Common.{◌≡◌, ◌⊎◌, ◌∷◌, [], length, sym, ap, subst, arith}
use Rattle.std.proofs.lemmas.List.{length-append}
use Rattle.final_types.specs.Names.{AreJumps, tos, to_in}
use Rattle.final_types.proofs.Numbering.{jumps-next, naming_at}
use Rattle.final_types.proofs.names.jumps_of.Goals as goal

pub loop-i-preserved : goal.loop-i-preserved
loop-i-preserved c = record {
  count = omega (arith, ap length c.in_ok-push.ensures.items, length-append c.loop-i.jumps.items (c.jump_behind-jump.result ∷ []), c.loop-i.invariant.count);
  jumps = λ h. subst (λ js. AreJumps c.args.namings.now (tos js)) (sym c.in_ok-push.ensures.items)
      (jumps-next c.args.namings.now c.loop-i.jumps.items c.jump_behind-jump.result c.loop-i.i h (c.loop-i.invariant.jumps h) c.loop-i-test.true c.loop-i.invariant.count
      (subst (λ js. (c.jump_behind-jump.result.to ≡ (naming_at c.args.namings.now c.loop-i.i).before) ⊎ (c.jump_behind-jump.result.to ≡ to_in (tos js) (to_in (tos js) (naming_at c.args.namings.now c.loop-i.i).before)))
      c.deref.ensures.value c.jump_behind-jump.ensures));
}
