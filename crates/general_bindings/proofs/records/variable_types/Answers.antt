use Rattle.std.proofs.Common.{refl, ap, map, ◌∙◌}
use Rattle.ty_core.specs.Types.{var}
use Rattle.ty_table.specs.TypeAt.{type_at}
use Rattle.pattern_tests.proofs.of_match_types.Seeing.{keeps-same, keeps-on, keeps-by, sees-before, stands-at, held-within, held-is}
use Rattle.general_bindings.proofs.Rows.{take-whole, vars-step}
use Rattle.general_bindings.proofs.records.variable_types.Goals as goal

pub loop-i-init : goal.loop-i-init
loop-i-init c = record { is = λ v s. ap (map (type_at v.types)) c.new-made.ensures.items; next = refl; keeps = keeps-same _ }

pub loop-i-preserved : goal.loop-i-preserved
loop-i-preserved c =
    let e = c.in_ok-k.ensures in
    let h = c.loop-i.invariant in
    record {
      is = λ v s.
          ap (map (type_at v.types)) c.in_ok-push.ensures.items
          ∙ vars-step v c.loop-i.made.items c.args.variables.now c.loop-i.i c.in_ok-k.k c.loop-i-test.true (h.is v (sees-before c.loop-i.work _ v (keeps-by c.loop-i.work _ e.earlier_stay refl refl refl refl refl refl refl) s))
          (stands-at _ v c.in_ok-k.k s (held-within c.variable.new.self c.in_ok-k.k _ e.held) ∙ held-is c.variable.new.self c.in_ok-k.k _ e.held);
      next = h.next;
      keeps = keeps-on _ _ _ h.keeps (keeps-by c.loop-i.work _ e.earlier_stay refl refl refl refl refl refl refl);
    }

pub returns-clause-is : goal.returns-clause-is
returns-clause-is c = λ v s. c.loop-i.invariant.is v s ∙ ap (map var) (take-whole c.args.variables.now c.loop-i.i c.loop-i-test.false)
