-- What each node binds.
use Rattle.std.proofs.Common.{◌≡◌, ℕ, ◌∷◌, ◌++◌, map, Vec, Box, Global, sym, ap, ◌∙◌}
use Rattle.plain_tree.specs.declared.tree.Parameter.{Parameter}
use Rattle.plain_tree.specs.declared.tree.Binding.{Binding}
use Rattle.plain_tree.specs.declared.tree.Case.{Case}
use Rattle.plain_tree.specs.declared.tree.Exp.{Exp, Exp-F, fold-roll-Exp}
use Rattle.plain_tree.specs.declared.tree.Exp.TheVariants as exp
use Rattle.plain_tree.specs.declared.tree.Step.{Step, Step-F, fold-roll-Step}
use Rattle.plain_tree.specs.declared.tree.Step.TheVariants as step
use Rattle.plain_tree.specs.declared.tree.Arm.{Arm, fold_out-Arm}
use Rattle.plain_tree.specs.declared.tree.Function.{Function, fold_out-Function}
use Rattle.plain_tree.specs.Sums.{Vars, joined, variables_of, case_binders, binders_of, step_binders, arm_binders, function_binders, node_binders, node_step_binders, node_arm_binders, node_function_binders}
use Rattle.capture_table.specs.Inner.{inner_binders}

pub of-steps : (ss : Vec Step Global) (e : Box Exp Global) → binders_of (exp.Steps ss e) ≡ joined (map step_binders ss.items) ++ binders_of e.value
of-steps ss e = ap binders_of (sym (exp.rolls-Steps ss e)) ∙ fold-roll-Exp Vars Vars Vars Vars node_binders node_step_binders node_arm_binders node_function_binders (Exp-F.Steps ss e)

pub of-switch : (a u : ℕ) (arms : Vec Arm Global) → binders_of (exp.Switch a u arms) ≡ joined (map arm_binders arms.items)
of-switch a u arms = ap binders_of (sym (exp.rolls-Switch a u arms)) ∙ fold-roll-Exp Vars Vars Vars Vars node_binders node_step_binders node_arm_binders node_function_binders (Exp-F.Switch a u arms)

pub of-first : (es : Vec Exp Global) (d : Box Exp Global) → binders_of (exp.First es d) ≡ joined (map binders_of es.items) ++ binders_of d.value
of-first es d = ap binders_of (sym (exp.rolls-First es d)) ∙ fold-roll-Exp Vars Vars Vars Vars node_binders node_step_binders node_arm_binders node_function_binders (Exp-F.First es d)

pub of-fn : (b : Binding) (xs : Vec Parameter Global) (x : Parameter) (e : Box Exp Global) → step_binders (step.Fn b xs x e) ≡ b.variable ∷ (variables_of xs.items ++ x.variable ∷ binders_of e.value)
of-fn b xs x e = ap step_binders (sym (step.rolls-Fn b xs x e)) ∙ fold-roll-Step Vars Vars Vars Vars node_binders node_step_binders node_arm_binders node_function_binders (Step-F.Fn b xs x e)

pub of-block : (b : Binding) (e : Box Exp Global) → step_binders (step.Block b e) ≡ b.variable ∷ binders_of e.value
of-block b e = ap step_binders (sym (step.rolls-Block b e)) ∙ fold-roll-Step Vars Vars Vars Vars node_binders node_step_binders node_arm_binders node_function_binders (Step-F.Block b e)

pub of-handle : (b : Binding) (e : Box Exp Global) (x : ℕ) (h : Box Exp Global) → step_binders (step.Handle b e x h) ≡ b.variable ∷ (binders_of e.value ++ x ∷ binders_of h.value)
of-handle b e x h = ap step_binders (sym (step.rolls-Handle b e x h)) ∙ fold-roll-Step Vars Vars Vars Vars node_binders node_step_binders node_arm_binders node_function_binders (Step-F.Handle b e x h)

pub of-group : (ps : ℕ) (fs : Vec Function Global) → step_binders (step.Group ps fs) ≡ joined (map function_binders fs.items)
of-group ps fs = ap step_binders (sym (step.rolls-Group ps fs)) ∙ fold-roll-Step Vars Vars Vars Vars node_binders node_step_binders node_arm_binders node_function_binders (Step-F.Group ps fs)

pub of-test : (a u : ℕ) (c : Case) (others : Vec Arm Global) → step_binders (step.Test a u c others) ≡ case_binders c ++ joined (map arm_binders others.items)
of-test a u c others = ap step_binders (sym (step.rolls-Test a u c others)) ∙ fold-roll-Step Vars Vars Vars Vars node_binders node_step_binders node_arm_binders node_function_binders (Step-F.Test a u c others)

pub of-arm : (a : Arm) → arm_binders a ≡ case_binders a.case ++ binders_of a.body
of-arm a = fold_out-Arm Vars Vars Vars Vars node_binders node_step_binders node_arm_binders node_function_binders a

pub of-function : (f : Function) → function_binders f ≡ f.variable ∷ inner_binders f
of-function f = fold_out-Function Vars Vars Vars Vars node_binders node_step_binders node_arm_binders node_function_binders f
