use Rattle.std.proofs.Common.{◌≡◌, ◌≤◌, List, [], length, take, drop, reverse}
use Rattle.ir_poly.specs.Prog as t
use Rattle.plain_tree.specs.declared.tree.Step.{Step}
use Rattle.prog_tree.specs.TreeOf.{Reading}
use Rattle.prog_tree.specs.declared.tree.Exp.{Exp}
use Rattle.general_bindings.specs.of_match_types.declared.work.Work.{Work}
use Rattle.general_bindings.specs.of_exp_steps.Making.{Makes, MakesAll}
use Rattle.general_bindings.specs.of_exp_blocks.Giving.{otherwise_of}
use Rattle.match_pass.specs.Reading.{expression, fields_read, right_chain, rules_read, chain_read, decs_read}
use Rattle.match_pass.specs.Going.{Attempts, Linked, Declares}
use Rattle.match_pass.specs.Chains.{LeftOpen, LeftMade}
use Rattle.match_pass.specs.Declaring.{Binds, Groups, binds_read, funs_read}
use Rattle.match_pass.proofs.Loops.{InTurn}
use Rattle.match_pass.proofs.Applying.{AppliedTo}
use Rattle.match_pass.specs.Apart.{Begins, GoesOn, FirstOpen}
use Rattle.match_pass.proofs.Parts.{Waiting}
use Rattle.match_pass.proofs.exps.+exps.Given as goal

abbrev pub invariant-push_fields-loop-i : goal.invariant-push_fields-loop-i
invariant-push_fields-loop-i l = MakesAll l.fn.work l.work l.fn.steps.items l.steps.items (fields_read (take l.i l.fields)) l.made.items

abbrev pub invariant-push_arguments-loop-i : goal.invariant-push_arguments-loop-i
invariant-push_arguments-loop-i l =
    (w : Work) (ss : List Step) (f : Exp) → GoesOn f l.arguments l.fn.opening → Begins w l.fn.work ss l.fn.steps.items (expression f) l.fn.opening
    → AppliedTo w l.work ss l.steps.items l.place f l.arguments l.i l.value

abbrev pub invariant-push_operators-loop-left : goal.invariant-push_operators-loop-left
invariant-push_operators-loop-left l = record {
  within : l.left ≤ length l.joins;
  open_so_far : l.fn.openings.items ≡ [] → LeftOpen l.fn.work l.fn.steps.items (drop l.left l.joins) (reverse l.openings.items) l.work l.steps.items;
}

abbrev pub decreases-push_operators-loop-left : goal.decreases-push_operators-loop-left
decreases-push_operators-loop-left l = l.left

abbrev pub invariant-push_operands-loop-i : goal.invariant-push_operands-loop-i
invariant-push_operands-loop-i l =
    (start : Work) (before : List Step) (e : Reading → t.Exp) → LeftMade start l.fn.work before l.fn.steps.items e [] l.joins (reverse l.fn.openings.items) l.fn.first
    → LeftMade start l.work before l.steps.items e (take l.i l.joins) (drop l.i l.joins) (reverse l.openings.items) l.value

abbrev pub invariant-push_waiting-loop-i : goal.invariant-push_waiting-loop-i
invariant-push_waiting-loop-i l =
    (w v : Work) (ss us : List Step) (e : Exp) → l.fn.openings.items ≡ [] → FirstOpen w v ss us l.joins l.fn.first → Makes v l.fn.work us l.fn.steps.items (expression e) l.left
    → Waiting w l.work ss l.steps.items (right_chain (expression e) l.joins) l.joins l.i l.openings.items l.waiting l.value

abbrev pub invariant-make_rules-loop-i : goal.invariant-make_rules-loop-i
invariant-make_rules-loop-i l = Attempts l.fn.work l.work (rules_read l.rules) (rules_read (drop l.i l.rules)) l.matched l.u l.atom (otherwise_of l.other) l.attempts.items

abbrev pub invariant-push_dropped-loop-i : goal.invariant-push_dropped-loop-i
invariant-push_dropped-loop-i l = (last : Exp) → InTurn l.fn.work l.work l.fn.steps.items l.steps.items (drop l.i l.dropped) l.dropped last

abbrev pub invariant-push_links-loop-i : goal.invariant-push_links-loop-i
invariant-push_links-loop-i l = (last : Exp) → Linked l.fn.work l.work l.fn.steps.items l.steps.items l.goes_on (chain_read l.operands last) (chain_read (drop l.i l.operands) last)

abbrev pub invariant-push_decs-loop-i : goal.invariant-push_decs-loop-i
invariant-push_decs-loop-i l = Declares l.fn.work l.work l.fn.steps.items l.steps.items (decs_read l.decs) (decs_read (drop l.i l.decs))

abbrev pub invariant-push_bindings-loop-i : goal.invariant-push_bindings-loop-i
invariant-push_bindings-loop-i l = Binds l.fn.work l.work l.fn.steps.items l.steps.items l.parameters (binds_read l.bindings) (binds_read (drop l.i l.bindings)) l.fn.spots.items l.spots.items

abbrev pub invariant-make_members-loop-i : goal.invariant-make_members-loop-i
invariant-make_members-loop-i l = Groups l.fn.work l.work l.first l.variable (funs_read l.functions) (funs_read (drop l.i l.functions)) l.made.items
