use Rattle.std.proofs.Common.{◌≡◌, ◌≤◌, ℕ, List, ◌++◌, true, length, map, take, drop}
use Rattle.first_tables.specs.TablesOf.{tables_of}
use Rattle.ssa_tree.specs.TreeOf.{arm_of, step_of}
use Rattle.machine_rows.specs.Table.{rows}
use Rattle.emit_code.specs.PlacesOf.{places_of}
use Rattle.emit_code.specs.Tags.{choice_of}
use Rattle.emit_parts.specs.Labels.{label_in}
use Rattle.walk_labels.specs.Labels.{Frame, blank, entered_all, numbers_of, opened_all}
use Rattle.walk_labels.specs.Marks.{past_heads}
use Rattle.walk_labels.proofs.Walks.{ArmsMet, EndsMet}
use Rattle.emit_walk.specs.Marks.{frame_of, mark_of}
use Rattle.emit_walk.specs.Walk.{Env, Kept, env_of, after_all, behind_all, EndAll}
use Rattle.emit_walk.proofs.Walking.{HeadsSoFar, ArmsSoFar}
use Rattle.emit_walk.proofs.body.+walk.Given as goal

abbrev pub invariant-emit_arms-loop-i : goal.invariant-emit_arms-loop-i
invariant-emit_arms-loop-i l = record {
  kept : l.fn.sure ≡ true → Kept (env_of l.fn.pass) (env_of l.pass);
  code : l.fn.sure ≡ true → ArmsSoFar (places_of l.tables l.at) (label_in l.at) (choice_of l.how) l.arms (drop l.i l.arms) l.first l.number (env_of l.fn.pass)
      l.fn.pass.code.items l.pass.code.items;
  met : (front back : List ℕ) → l.first ≡ length front → l.fn.pass.found.items ≡ front ++ (blank (length l.arms) ++ back)
      → ArmsMet rows (tables_of l.tables).types (choice_of l.how) (map arm_of l.arms) (map arm_of (drop l.i l.arms)) l.first l.number (length l.fn.pass.code.items)
      (length l.pass.code.items) (frame_of l.fn.pass) (frame_of l.pass) front back l.pass.found.items;
}

abbrev pub invariant-emit_ends-loop-left : goal.invariant-emit_ends-loop-left
invariant-emit_ends-loop-left l = record {
  within : l.left ≤ length l.steps;
  kept : l.fn.sure ≡ true → (e : Env) → Kept (after_all (places_of l.tables l.at) e (map step_of l.steps)) (env_of l.fn.pass)
      → Kept (after_all (places_of l.tables l.at) e (map step_of (take l.left l.steps))) (env_of l.pass);
  code : l.fn.sure ≡ true → (e : Env) → Kept (after_all (places_of l.tables l.at) e (map step_of l.steps)) (env_of l.fn.pass)
      → l.pass.code.items ≡ l.fn.pass.code.items
      ++ behind_all (places_of l.tables l.at) (after_all (places_of l.tables l.at) e (map step_of (take l.left l.steps))) (map step_of (drop l.left l.steps))
      (length l.fn.pass.code.items);
  ends : l.fn.sure ≡ true → (e : Env) → Kept (after_all (places_of l.tables l.at) e (map step_of l.steps)) (env_of l.fn.pass)
      → EndAll (places_of l.tables l.at) (label_in l.at) (after_all (places_of l.tables l.at) e (map step_of (take l.left l.steps))) (drop l.left l.numbers)
      (map step_of (drop l.left l.steps)) (length l.fn.pass.code.items);
  met : (front back : List ℕ) (pc : ℕ) (f : Frame) → frame_of l.fn.pass ≡ entered_all f (map step_of l.steps)
      → l.fn.pass.found.items ≡ front ++ (opened_all rows (tables_of l.tables).types pc f (map step_of l.steps) ++ back)
      → l.numbers ≡ numbers_of rows (tables_of l.tables).types (length front) pc f (map step_of l.steps)
      → EndsMet rows (tables_of l.tables).types (map step_of (take l.left l.steps)) (map step_of (drop l.left l.steps)) pc (length l.fn.pass.code.items)
      (length l.pass.code.items) f (frame_of l.pass) front back l.pass.found.items;
}

abbrev pub decreases-emit_ends-loop-left : goal.decreases-emit_ends-loop-left
decreases-emit_ends-loop-left l = l.left

abbrev pub invariant-emit_heads-loop-i : goal.invariant-emit_heads-loop-i
invariant-emit_heads-loop-i l = record {
  code : l.fn.sure ≡ true → HeadsSoFar (places_of l.tables l.at) (label_in l.at) (map step_of l.steps) (map step_of (drop l.i l.steps)) l.numbers.items
      (env_of l.fn.pass) (env_of l.pass) l.fn.pass.code.items l.pass.code.items;
  marks : mark_of l.pass ≡ past_heads rows (tables_of l.tables).types (map step_of (take l.i l.steps)) (mark_of l.fn.pass);
  numbers : l.numbers.items ≡ numbers_of rows (tables_of l.tables).types (length l.fn.pass.found.items) (length l.fn.pass.code.items) (frame_of l.fn.pass)
      (map step_of (take l.i l.steps));
}
