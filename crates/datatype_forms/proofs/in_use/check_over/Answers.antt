use Rattle.std.proofs.Common.{◌≡◌, ℕ, Option, Some, None, nat_eq, map, take, ap, sym, subst, ◌∙◌}
use Rattle.std.specs.Map.{lookup}
use Rattle.std.proofs.lemmas.List.{map-append}
use Rattle.datatype_forms.specs.Arguments.{RowOver, row_at, rows_at}
use Rattle.datatype_forms.proofs.Best.{all_over_next}
use Rattle.datatype_forms.proofs.Collecting.{taken_next}
use Rattle.datatype_forms.proofs.in_use.check_over.Goals as goal

none-some : {A : Type 0} (o : Option ℕ) (n : ℕ) → o ≡ None → o ≡ Some n → A
none-some o n e f = absurd (let z : None ≡ Some n = sym e ∙ f in cc)

pub loop-i-init : goal.loop-i-init
loop-i-init c = record { over = tt; right = λ k n e. none-some (lookup (nat_eq k) c.new-known.result.entries) n (ap (lookup (nat_eq k)) c.new-known.ensures.empty) e }

pub loop-i-preserved : goal.loop-i-preserved
loop-i-preserved c = record {
  over =
      all_over_next c.args.limit (rows_at c.args.types.now (map (λ ks. ks.items) (take c.loop-i.i c.args.rows.now))) _ _ c.loop-i.invariant.over (subst (λ ks. RowOver c.args.limit (row_at c.args.types.now ks)) c.deref.ensures.value c.in_ok-check_row.ensures.over)
      (sym (map-append (row_at c.args.types.now) _ _) ∙ ap (rows_at c.args.types.now) (taken_next (λ ks. ks.items) c.args.rows.now c.loop-i.i c.index-rows-i.result c.loop-i-test.true c.index-rows-i.is));
  right = c.in_ok-check_row.ensures.right;
}
