use Rattle.std.proofs.Common.{◌≡◌, ◌↔◌, IsTrue, map, take}
use Rattle.std.specs.List.{AllByRecursion}
use Rattle.first_tables.specs.TablesOf.{tables_of}
use Rattle.first_tree.specs.TreeOf.{step_of, arm_of}
use Rattle.ir_first.specs.WellFormed.{IsScoped}
use Rattle.first_form.specs.Scoped.{StepsScoped, after}
use Rattle.first_form.proofs.scoped.+scoped.Given as goal

abbrev pub invariant-steps_are_scoped-loop-i : goal.invariant-steps_are_scoped-loop-i
invariant-steps_are_scoped-loop-i l = record {
  scoped : IsTrue l.all ↔ StepsScoped (tables_of l.tables) l.arities l.fn.scope (map step_of (take l.i l.steps));
  bound : l.scope ≡ after (map step_of (take l.i l.steps)) l.fn.scope;
}

abbrev pub invariant-arms_are_scoped-loop-i : goal.invariant-arms_are_scoped-loop-i
invariant-arms_are_scoped-loop-i l = record {
  scoped : IsTrue l.all ↔ AllByRecursion (λ a. IsScoped (tables_of l.tables) l.arities l.fn.scope a.body) (map arm_of (take l.i l.arms));
  kept : l.scope ≡ l.fn.scope;
}
