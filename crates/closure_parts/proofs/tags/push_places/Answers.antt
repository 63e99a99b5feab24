use Rattle.std.proofs.Common.{◌-◌, ◌&&◌, Bool, false, length, if◌then◌else◌, refl, ap, sym, ◌∙◌, arith}
use Rattle.std.specs.List.{concat}
use Rattle.flow_types.specs.of_closure_whole.Tags.{stand_once}
use Rattle.closure_parts.proofs.Tagging.{place-next, once-next, places-none, once-none}
use Rattle.closure_parts.proofs.tags.push_places.Goals as goal

pub loop-left-init : goal.loop-left-init
loop-left-init c = record {
  within = omega arith;
  placed = λ sets p. places-none c.args.set.now (length c.args.set.now) c.args.places.now.entries sets (omega arith) p;
  once = λ sets p. once-none c.args.set.now (length c.args.set.now) sets (omega arith);
}

pub loop-left-preserved-then-is_some : goal.loop-left-preserved-then-is_some
loop-left-preserved-then-is_some c =
    let w = c.loop-left.invariant.within in
    let q = c.loop-left-test.true in
    record {
      within = omega (arith, w);
      placed = λ sets p.
          place-next c.args.set.now c.loop-left.left (c.loop-left.left - 1) _ _ (omega (arith, q)) (omega (arith, w, q)) refl c.loop-left.places.entries c.insert.new.self.entries sets c.in_ok-old.ensures.updates.0
          (c.loop-left.invariant.placed sets p);
      once = λ sets p.
          sym (ap (λ (b : Bool). (if b then false else c.loop-left.new) && stand_once (concat sets)) c.if-is_some.true)
          ∙ once-next c.args.set.now c.loop-left.left (c.loop-left.left - 1) _ _ (omega (arith, q)) (omega (arith, w, q)) refl c.loop-left.places.entries sets c.in_ok-old.old c.loop-left.new c.is_some.result c.in_ok-old.ensures.old c.is_some.ensures
          (c.loop-left.invariant.placed sets p) (c.loop-left.invariant.once sets p);
    }

pub loop-left-preserved : goal.loop-left-preserved
loop-left-preserved c =
    let w = c.loop-left.invariant.within in
    let q = c.loop-left-test.true in
    record {
      within = omega (arith, w);
      placed = λ sets p.
          place-next c.args.set.now c.loop-left.left (c.loop-left.left - 1) _ _ (omega (arith, q)) (omega (arith, w, q)) refl c.loop-left.places.entries c.insert.new.self.entries sets c.in_ok-old.ensures.updates.0
          (c.loop-left.invariant.placed sets p);
      once = λ sets p.
          sym (ap (λ (b : Bool). (if b then false else c.loop-left.new) && stand_once (concat sets)) c.if-is_some.false)
          ∙ once-next c.args.set.now c.loop-left.left (c.loop-left.left - 1) _ _ (omega (arith, q)) (omega (arith, w, q)) refl c.loop-left.places.entries sets c.in_ok-old.old c.loop-left.new c.is_some.result c.in_ok-old.ensures.old c.is_some.ensures
          (c.loop-left.invariant.placed sets p) (c.loop-left.invariant.once sets p);
    }
