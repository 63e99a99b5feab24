-- What a walk over the code's tree finds.
use Rattle.std.proofs.Common.{◌≡◌, ℕ, ◌+◌, ◌<◌, List, length, map, take, sym, ap, ◌∙◌, subst, get_or, Vec, Box, Global, Result, Ok, Err, OnOk}
use Rattle.ir_ssa.specs.Tree as t
use Rattle.ssa_tree.specs.declared.tree.Body.{Body as CodeBody, Body-F, fold-roll-Body}
use Rattle.ssa_tree.specs.declared.tree.Body.TheVariants.{Steps, Guard, Switch, rolls-Steps, rolls-Guard, rolls-Switch}
use Rattle.ssa_tree.specs.declared.tree.Step.{Step, Step-F, fold-roll-Step}
use Rattle.ssa_tree.specs.declared.tree.Step.TheVariants.{Case, rolls-Case}
use Rattle.ssa_tree.specs.declared.tree.Arm.{Arm, fold_out-Arm}
use Rattle.ssa_tree.specs.TreeOf.{StepTree, ArmTree, case_step, onto, bodies_of, node_body, node_step, node_arm, tree_of, step_of, arm_of}
use Rattle.ssa_tree.specs.Exceptions.{makes}
use Rattle.emit_known.specs.Found.{Adds, arms_make, step_makes, steps_make}
use Rattle.emit_known.proofs.Finding.{adds-both, adds-choice, adds-steps, arms-next}

steps-are : (ss : Vec Step Global) (r : Box CodeBody Global) → tree_of (Steps ss r) ≡ onto (map step_of ss.items) (tree_of r.value)
steps-are ss r = ap tree_of (sym (rolls-Steps ss r)) ∙ fold-roll-Body t.Body StepTree ArmTree node_body node_step node_arm (Body-F.Steps ss r)

guard-are : (l : ℕ) (a : Box CodeBody Global) (y : ℕ) (h : Box CodeBody Global) → tree_of (Guard l a y h) ≡ t.guard l (tree_of a.value) y (tree_of h.value)
guard-are l a y h = ap tree_of (sym (rolls-Guard l a y h)) ∙ fold-roll-Body t.Body StepTree ArmTree node_body node_step node_arm (Body-F.Guard l a y h)

switch-are : (x : ℕ) (arms : Vec Arm Global) (last : Box CodeBody Global) → tree_of (Switch x arms last) ≡ t.switch x (bodies_of (map arm_of arms.items) (tree_of last.value))
switch-are x arms last = ap tree_of (sym (rolls-Switch x arms last)) ∙ fold-roll-Body t.Body StepTree ArmTree node_body node_step node_arm (Body-F.Switch x arms last)

case-are : (x i : ℕ) (others : Vec Arm Global) (last : Box CodeBody Global) → step_of (Case x i others last) ≡ case_step x i (bodies_of (map arm_of others.items) (tree_of last.value))
case-are x i others last = ap step_of (sym (rolls-Case x i others last)) ∙ fold-roll-Step t.Body StepTree ArmTree node_body node_step node_arm (Step-F.Case x i others last)

on-ok : {A E : Type 0} (P Q : Type 0) (r : Result A E) → (P → Q) → OnOk r P → OnOk r Q
on-ok P Q (Ok v) f h = f h
on-ok P Q (Err e) f h = tt

module _ {A E : Type 0} (r : Result A E) (old mid new : List ℕ) where
  pub steps-found : (e : CodeBody) (ss : Vec Step Global) (b : Box CodeBody Global) (was : List Step) (rest : CodeBody) → e ≡ Steps ss b → was ≡ ss.items → rest ≡ b.value
      → Adds old (steps_make (map step_of was)) mid → OnOk r (Adds mid (makes (tree_of rest)) new) → OnOk r (Adds old (makes (tree_of e)) new)
  steps-found e ss b was rest is es er h =
      let same : onto (map step_of was) (tree_of rest) ≡ tree_of e =
      ap (λ l. onto (map step_of l) (tree_of rest)) es ∙ ap (λ x. onto (map step_of ss.items) (tree_of x)) er ∙ sym (ap tree_of is ∙ steps-are ss b) in
      on-ok (Adds mid (makes (tree_of rest)) new) (Adds old (makes (tree_of e)) new) r
      (λ g. subst (λ x. Adds old (makes x) new) same (adds-steps (map step_of was) (tree_of rest) old mid new h g))

  pub guard-found : (e : CodeBody) (l : ℕ) (a : Box CodeBody Global) (y : ℕ) (h : Box CodeBody Global) (body handler : CodeBody) → e ≡ Guard l a y h → body ≡ a.value
      → handler ≡ h.value → Adds old (makes (tree_of body)) mid → OnOk r (Adds mid (makes (tree_of handler)) new) → OnOk r (Adds old (makes (tree_of e)) new)
  guard-found e l a y h body handler is ea eh f =
      let same : t.guard l (tree_of body) y (tree_of handler) ≡ tree_of e =
      ap (λ x. t.guard l (tree_of x) y (tree_of handler)) ea ∙ ap (λ x. t.guard l (tree_of a.value) y (tree_of x)) eh ∙ sym (ap tree_of is ∙ guard-are l a y h) in
      on-ok (Adds mid (makes (tree_of handler)) new) (Adds old (makes (tree_of e)) new) r
      (λ g. subst (λ x. Adds old (makes x) new) same (adds-both old (makes (tree_of body)) mid (makes (tree_of handler)) new f g))

  module _ (arms : Vec Arm Global) (b : Box CodeBody Global) (was : List Arm) (rest : CodeBody) (es : was ≡ arms.items) (er : rest ≡ b.value) where
    arms-same : bodies_of (map arm_of was) (tree_of rest) ≡ bodies_of (map arm_of arms.items) (tree_of b.value)
    arms-same = ap (λ l. bodies_of (map arm_of l) (tree_of rest)) es ∙ ap (λ x. bodies_of (map arm_of arms.items) (tree_of x)) er

    pub switch-found : (e : CodeBody) (x : ℕ) → e ≡ Switch x arms b → Adds old (arms_make (map arm_of was)) mid → OnOk r (Adds mid (makes (tree_of rest)) new)
        → OnOk r (Adds old (makes (tree_of e)) new)
    switch-found e x is h =
        on-ok (Adds mid (makes (tree_of rest)) new) (Adds old (makes (tree_of e)) new) r
        (λ g. subst (λ z. Adds old (makes z) new) (ap (t.switch x) arms-same ∙ sym (ap tree_of is ∙ switch-are x arms b))
        (adds-choice (map arm_of was) (tree_of rest) old mid new h g))

    pub case-found : (e : Step) (x i : ℕ) → e ≡ Case x i arms b → Adds old (arms_make (map arm_of was)) mid → OnOk r (Adds mid (makes (tree_of rest)) new)
        → OnOk r (Adds old (step_makes (step_of e)) new)
    case-found e x i is h =
        on-ok (Adds mid (makes (tree_of rest)) new) (Adds old (step_makes (step_of e)) new) r
        (λ g. subst (λ z. Adds old (step_makes z) new) (ap (case_step x i) arms-same ∙ sym (ap step_of is ∙ case-are x i arms b))
        (adds-choice (map arm_of was) (tree_of rest) old mid new h g))

arm-is : (a : Arm) → arm_of a ≡ record { tag = a.tag; body = tree_of a.body }
arm-is = fold_out-Arm t.Body StepTree ArmTree node_body node_step node_arm

pub arm-next : (arms : List Arm) (k : ℕ) (d : Arm) (old mid new : List ℕ) → k < length arms → Adds old (arms_make (map arm_of (take k arms))) mid
    → Adds mid (makes (tree_of (get_or arms k d).body)) new → Adds old (arms_make (map arm_of (take (k + 1) arms))) new
arm-next arms k d old mid new lt h g =
    arms-next arms k d lt old mid new arm_of h (subst (λ b. Adds mid (makes b) new) (sym (ap (λ (a : ArmTree). a.body) (arm-is (get_or arms k d)))) g)
