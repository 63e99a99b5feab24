-- What a node of the code's tree stands for.
use Rattle.std.proofs.Common.{◌≡◌, ℕ, map, Vec, Box, Global, sym, ap, ◌∙◌}
use Rattle.mlc_base.specs.declared.place.Place.{Place}
use Rattle.ir_first.specs.Tree as f
use Rattle.first_tables.specs.declared.operation.Test.{Test}
use Rattle.first_tables.specs.TablesOf.{test_of}
use Rattle.first_tree.specs.declared.tree.Operation.{Operation}
use Rattle.first_tree.specs.declared.tree.Exp.{Exp, Exp-F, fold-roll-Exp}
use Rattle.first_tree.specs.declared.tree.Exp.TheVariants as exp
use Rattle.first_tree.specs.declared.tree.Step.{Step, Step-F, fold-roll-Step}
use Rattle.first_tree.specs.declared.tree.Step.TheVariants as step
use Rattle.first_tree.specs.declared.tree.Arm.{Arm, fold_out-Arm}
use Rattle.first_tree.specs.TreeOf.{StepTree, ArmTree, let_step, turn_step, try_step, when_step, unless_step, case_step, onto, arms_of, operation_of, node_exp, node_step, node_arm, tree_of, step_of, arm_of}

pub tree-steps : (ss : Vec Step Global) (e : Box Exp Global) → tree_of (exp.Steps ss e) ≡ onto (map step_of ss.items) (tree_of e.value)
tree-steps ss e = ap tree_of (sym (exp.rolls-Steps ss e)) ∙ fold-roll-Exp f.Exp StepTree ArmTree node_exp node_step node_arm (Exp-F.Steps ss e)

pub tree-ret : (x : ℕ) → tree_of (exp.Ret x) ≡ f.ret x
tree-ret x = ap tree_of (sym (exp.rolls-Ret x)) ∙ fold-roll-Exp f.Exp StepTree ArmTree node_exp node_step node_arm (Exp-F.Ret x)

pub tree-switch : (x : ℕ) (arms : Vec Arm Global) → tree_of (exp.Switch x arms) ≡ f.switch x (arms_of (map arm_of arms.items))
tree-switch x arms = ap tree_of (sym (exp.rolls-Switch x arms)) ∙ fold-roll-Exp f.Exp StepTree ArmTree node_exp node_step node_arm (Exp-F.Switch x arms)

pub tree-miss : tree_of exp.Miss ≡ f.miss
tree-miss = ap tree_of (sym exp.rolls-Miss) ∙ fold-roll-Exp f.Exp StepTree ArmTree node_exp node_step node_arm Exp-F.Miss

pub step-let : (x : ℕ) (o : Operation) → step_of (step.Let x o) ≡ let_step x (operation_of o)
step-let x o = ap step_of (sym (step.rolls-Let x o)) ∙ fold-roll-Step f.Exp StepTree ArmTree node_exp node_step node_arm (Step-F.Let x o)

pub step-block : (x : ℕ) (e : Box Exp Global) → step_of (step.Block x e) ≡ let_step x (f.block (tree_of e.value))
step-block x e = ap step_of (sym (step.rolls-Block x e)) ∙ fold-roll-Step f.Exp StepTree ArmTree node_exp node_step node_arm (Step-F.Block x e)

pub step-handle : (x : ℕ) (e : Box Exp Global) (y : ℕ) (h : Box Exp Global) → step_of (step.Handle x e y h) ≡ let_step x (f.handle (tree_of e.value) y (tree_of h.value))
step-handle x e y h = ap step_of (sym (step.rolls-Handle x e y h)) ∙ fold-roll-Step f.Exp StepTree ArmTree node_exp node_step node_arm (Step-F.Handle x e y h)

pub step-turn : (p : Place) → step_of (step.Turn p) ≡ turn_step p
step-turn p = ap step_of (sym (step.rolls-Turn p)) ∙ fold-roll-Step f.Exp StepTree ArmTree node_exp node_step node_arm (Step-F.Turn p)

pub step-try : (e : Box Exp Global) → step_of (step.Try e) ≡ try_step (tree_of e.value)
step-try e = ap step_of (sym (step.rolls-Try e)) ∙ fold-roll-Step f.Exp StepTree ArmTree node_exp node_step node_arm (Step-F.Try e)

pub step-when : (q : Test) (xs : Vec ℕ Global) (e : Box Exp Global) → step_of (step.When q xs e) ≡ when_step (test_of q) xs.items (tree_of e.value)
step-when q xs e = ap step_of (sym (step.rolls-When q xs e)) ∙ fold-roll-Step f.Exp StepTree ArmTree node_exp node_step node_arm (Step-F.When q xs e)

pub step-unless : (q : Test) (xs : Vec ℕ Global) (e : Box Exp Global) → step_of (step.Unless q xs e) ≡ unless_step (test_of q) xs.items (tree_of e.value)
step-unless q xs e = ap step_of (sym (step.rolls-Unless q xs e)) ∙ fold-roll-Step f.Exp StepTree ArmTree node_exp node_step node_arm (Step-F.Unless q xs e)

pub step-case : (x i : ℕ) (others : Vec Arm Global) → step_of (step.Case x i others) ≡ case_step x i (arms_of (map arm_of others.items))
step-case x i others = ap step_of (sym (step.rolls-Case x i others)) ∙ fold-roll-Step f.Exp StepTree ArmTree node_exp node_step node_arm (Step-F.Case x i others)

pub arm-parts : (a : Arm) → arm_of a ≡ record { tag = a.tag; body = tree_of a.body }
arm-parts = fold_out-Arm f.Exp StepTree ArmTree node_exp node_step node_arm
