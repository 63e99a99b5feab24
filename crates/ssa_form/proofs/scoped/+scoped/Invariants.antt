use Rattle.std.proofs.Common.{◌≡◌, ◌↔◌, IsTrue, map, take}
use Rattle.std.specs.List.{AllByRecursion}
use Rattle.first_tables.specs.TablesOf.{tables_of}
use Rattle.ssa_tree.specs.TreeOf.{step_of, arm_of}
use Rattle.ssa_form.specs.Labels.{labels_of}
use Rattle.ssa_form.specs.Scoped.{StepsScoped, ArmScoped, Grew, after, labels_after}
use Rattle.ssa_form.proofs.scoped.+scoped.Given as goal

abbrev pub invariant-steps_are_scoped-loop-i : goal.invariant-steps_are_scoped-loop-i
invariant-steps_are_scoped-loop-i l = record {
  scoped : IsTrue l.all ↔ StepsScoped (tables_of l.tables) l.arities l.fn.scope (labels_of l.fn.labels.items) l.guarded (map step_of (take l.i l.steps));
  bound : l.scope ≡ after (map step_of (take l.i l.steps)) l.fn.scope;
  labels : labels_of l.labels.items ≡ labels_after (map step_of (take l.i l.steps)) (labels_of l.fn.labels.items);
  grew : Grew l.fn.labels.items l.labels.items;
}

abbrev pub invariant-arms_are_scoped-loop-i : goal.invariant-arms_are_scoped-loop-i
invariant-arms_are_scoped-loop-i l = record {
  scoped : IsTrue l.all ↔ AllByRecursion (ArmScoped (tables_of l.tables) l.arities l.fn.scope (labels_of l.fn.labels.items) l.guarded) (map arm_of (take l.i l.arms));
  kept : l.scope ≡ l.fn.scope;
  labels : l.labels.items ≡ l.fn.labels.items;
}
