use Rattle.std.proofs.Common.{refl, sym, ap, subst, length, map, ◌∙◌}
use Rattle.ty_table.specs.TypeAt.{type_at, AllBelow}
use Rattle.ty_table.proofs.Building.{below-more}
use Rattle.pattern_tests.proofs.of_match_types.Seeing.{keeps-same, keeps-on, sees-before}
use Rattle.pattern_tests.proofs.of_match_types.Standing.{all-below-append}
use Rattle.general_bindings.proofs.Rows.{types-step, types-whole}
use Rattle.general_bindings.proofs.records.spot_types.Goals as goal

pub loop-i-init : goal.loop-i-init
loop-i-init c = record {
  is = λ v s. ap (map (type_at v.types)) c.new-made.ensures.items;
  held = subst (AllBelow (length c.args.work.now.tables.types)) (sym c.new-made.ensures.items) tt;
  next = refl;
  keeps = keeps-same _;
}

pub loop-i-preserved : goal.loop-i-preserved
loop-i-preserved c =
    let e = c.in_ok-k.ensures in
    let h = c.loop-i.invariant in
    record {
      is = λ v s.
          ap (map (type_at v.types)) c.in_ok-push.ensures.items
          ∙ types-step v c.loop-i.made.items c.args.spots.now c.loop-i.i c.in_ok-k.k _ c.loop-i-test.true (h.is v (sees-before _ _ v e.keeps s)) (e.is v s);
      held = subst (AllBelow (length c.scoped_type.new.work.tables.types)) (sym c.in_ok-push.ensures.items)
          (all-below-append _ c.loop-i.made.items c.in_ok-k.k (below-more _ _ c.loop-i.made.items e.keeps.longer h.held) e.held);
      next = e.next ∙ h.next;
      keeps = keeps-on _ _ _ h.keeps e.keeps;
    }

pub returns-clause-is : goal.returns-clause-is
returns-clause-is c = λ v s. c.loop-i.invariant.is v s ∙ types-whole v c.args.spots.now c.loop-i.i c.loop-i-test.false
