use Rattle.std.proofs.Common.{◌≡◌, length, refl, sym, subst, ◌∙◌, arith}
use Rattle.ty_table.specs.TypeAt.{type_at, types_at}
use Rattle.ty_solve.specs.Lowering.{together}
use Rattle.ty_solve.proofs.Walking.{pop-lighter}
use Rattle.ty_solve.proofs.Reaching.{noted-new, noted-old}
use Rattle.ty_solve.proofs.Falling.{Walked, walked-first, walked-skips, walked-visits, walked-ends, part-here, variable-below, refuses-in, visit-lighter}
use Rattle.ty_solve.proofs.lower.lower_types.Goals as goal

pub loop-next-init : goal.loop-next-init
loop-next-init c = record {
  undone = refl;
  same_length = refl;
  walked = walked-first c.args.types.now c.args.parts.items c.args.to c.args.limits.now.items c.args.noted.now.items _ c.new-seen.ensures.empty;
}

pub visit-requires : goal.visit-requires
visit-requires c = λ y p. variable-below (length c.args.limits.now.items) (length c.loop-next.limits.items) (together (types_at c.args.types.now c.args.parts.items)) (type_at c.args.types.now c.in-Some.next) y (part-here c.args.types.now c.args.parts.items c.args.to c.args.limits.now.items c.loop-next.limits.items c.args.noted.now.items c.loop-next.noted.items _ _ _ c.in-Some.next c.in-Some.ensures.items c.loop-next.invariant.walked) p c.requires c.loop-next.invariant.same_length

pub returns-in-Err-clause-cause : goal.returns-in-Err-clause-cause
returns-in-Err-clause-cause c = refuses-in c.args.types.now c.args.parts.items c.args.to c.args.limits.now.items c.loop-next.limits.items c.args.noted.now.items c.loop-next.noted.items _ _ _ c.in-Some.next c.in-Some.ensures.items c.loop-next.invariant.walked c.in-Err.refused c.in-Err.ensures.cause

pub loop-next-smaller-in-Ok : goal.loop-next-smaller-in-Ok
loop-next-smaller-in-Ok c = visit-lighter c.args.types.now c.args.to _ _ _ _ _ _ _ c.in-Some.next c.in-Some.ensures.items c.in-Ok.ensures.visits

pub loop-next-preserved-in-Ok : goal.loop-next-preserved-in-Ok
loop-next-preserved-in-Ok c = record {
  undone = c.in-Ok.ensures.undone ∙ c.loop-next.invariant.undone;
  same_length = c.in-Ok.ensures.same_length ∙ c.loop-next.invariant.same_length;
  walked = walked-visits c.args.types.now c.args.parts.items c.args.to c.args.limits.now.items c.loop-next.limits.items c.args.noted.now.items c.loop-next.noted.items _ _ _ c.in-Some.next c.in-Some.ensures.items c.loop-next.invariant.walked _ (noted-new c.loop-next.seen.keys c.insert.new.self.keys c.in-Some.next c.in_ok-new.new c.in_ok-new.ensures.added c.in_ok-new.ensures.keys c.if-new.true) _ _ _ (λ y p. variable-below (length c.args.limits.now.items) (length c.loop-next.limits.items) (together (types_at c.args.types.now c.args.parts.items)) (type_at c.args.types.now c.in-Some.next) y (part-here c.args.types.now c.args.parts.items c.args.to c.args.limits.now.items c.loop-next.limits.items c.args.noted.now.items c.loop-next.noted.items _ _ _ c.in-Some.next c.in-Some.ensures.items c.loop-next.invariant.walked) p c.requires c.loop-next.invariant.same_length) c.in-Ok.ensures.visits;
}

pub loop-next-smaller : goal.loop-next-smaller
loop-next-smaller c = pop-lighter (λ v. 0) c.args.types.now _ _ c.in-Some.next c.in-Some.ensures.items

pub loop-next-preserved : goal.loop-next-preserved
loop-next-preserved c =
    let h = noted-old c.loop-next.seen.keys c.insert.new.self.keys c.in-Some.next c.in_ok-new.new c.in_ok-new.ensures.added c.in_ok-new.ensures.keys c.if-new.false in
    record {
      undone = c.loop-next.invariant.undone;
      same_length = c.loop-next.invariant.same_length;
      walked = subst (λ d. Walked c.args.types.now c.args.parts.items c.args.to c.args.limits.now.items c.loop-next.limits.items c.args.noted.now.items c.loop-next.noted.items d c.pop.new.self.items) (sym h.same) (walked-skips c.args.types.now c.args.parts.items c.args.to c.args.limits.now.items c.loop-next.limits.items c.args.noted.now.items c.loop-next.noted.items _ _ _ c.in-Some.next c.in-Some.ensures.items c.loop-next.invariant.walked h.has);
    }

pub returns-clause-lowers : goal.returns-clause-lowers
returns-clause-lowers c =
    let e : length c.loop-next.pending.items ≡ 0 = omega (arith, c.loop-next.pending.ok.0, c.in_default.ensures.cases.0) in
    walked-ends c.args.types.now c.args.parts.items c.args.to c.args.limits.now.items c.loop-next.limits.items c.args.noted.now.items c.loop-next.noted.items _ _ e c.loop-next.invariant.walked
