-- What a node of the code's tree stands for.
use Rattle.std.proofs.Common.{◌≡◌, ℕ, List, map, Vec, Box, Global, sym, ap, ◌∙◌}
use Rattle.mlc_base.specs.declared.place.Place.{Place}
use Rattle.mlc_prims.specs.declared.basis.BasisPrimitive.{BasisPrimitive}
use Rattle.first_tables.specs.declared.operation.Plain.{Plain}
use Rattle.first_tables.specs.declared.operation.Operands.{Operands}
use Rattle.first_tables.specs.declared.operation.Test.{Test}
use Rattle.first_tables.specs.declared.operation.Callee.{Callee}
use Rattle.first_tables.specs.declared.operation.Piece.{Piece}
use Rattle.first_tables.specs.TablesOf.{plain_of, operands_of, test_of, callee_of, piece_of}
use Rattle.ir_ssa.specs.Tree as s
use Rattle.ssa_tree.specs.declared.tree.Body.{Body, Body-F, fold-roll-Body}
use Rattle.ssa_tree.specs.declared.tree.Body.TheVariants as body
use Rattle.ssa_tree.specs.declared.tree.Step.{Step, Step-F, fold-roll-Step}
use Rattle.ssa_tree.specs.declared.tree.Step.TheVariants as step
use Rattle.ssa_tree.specs.declared.tree.Arm.{Arm, fold_out-Arm}
use Rattle.ssa_tree.specs.TreeOf.{StepTree, ArmTree, plain_step, make_step, call_step, attempt_step, turn_step, label_step, again_step, when_step, unless_step, case_step, onto, bodies_of, node_body, node_step, node_arm, tree_of, step_of, arm_of}

pub arm-is : (a : Arm) → arm_of a ≡ record { tag = a.tag; body = tree_of a.body }
arm-is = fold_out-Arm s.Body StepTree ArmTree node_body node_step node_arm

pub tree-steps : (ss : Vec Step Global) (r : Box Body Global) → tree_of (body.Steps ss r) ≡ onto (map step_of ss.items) (tree_of r.value)
tree-steps ss r = ap tree_of (sym (body.rolls-Steps ss r)) ∙ fold-roll-Body s.Body StepTree ArmTree node_body node_step node_arm (Body-F.Steps ss r)

pub tree-guard : (l : ℕ) (b : Box Body Global) (y : ℕ) (h : Box Body Global) → tree_of (body.Guard l b y h) ≡ s.guard l (tree_of b.value) y (tree_of h.value)
tree-guard l b y h = ap tree_of (sym (body.rolls-Guard l b y h)) ∙ fold-roll-Body s.Body StepTree ArmTree node_body node_step node_arm (Body-F.Guard l b y h)

pub tree-switch : (x : ℕ) (arms : Vec Arm Global) (l : Box Body Global) → tree_of (body.Switch x arms l) ≡ s.switch x (bodies_of (map arm_of arms.items) (tree_of l.value))
tree-switch x arms l = ap tree_of (sym (body.rolls-Switch x arms l)) ∙ fold-roll-Body s.Body StepTree ArmTree node_body node_step node_arm (Body-F.Switch x arms l)

pub tree-goto : (l : ℕ) (xs : Vec ℕ Global) → tree_of (body.Goto l xs) ≡ s.goto l xs.items
tree-goto l xs = ap tree_of (sym (body.rolls-Goto l xs)) ∙ fold-roll-Body s.Body StepTree ArmTree node_body node_step node_arm (Body-F.Goto l xs)

pub tree-jump : (p : Place) (l : ℕ) (xs : Vec ℕ Global) → tree_of (body.Jump p l xs) ≡ s.jump p l xs.items
tree-jump p l xs = ap tree_of (sym (body.rolls-Jump p l xs)) ∙ fold-roll-Body s.Body StepTree ArmTree node_body node_step node_arm (Body-F.Jump p l xs)

pub tree-tail : (p : Place) (c : Callee) (xs : Vec ℕ Global) → tree_of (body.Tail p c xs) ≡ s.tail p (callee_of c) xs.items
tree-tail p c xs = ap tree_of (sym (body.rolls-Tail p c xs)) ∙ fold-roll-Body s.Body StepTree ArmTree node_body node_step node_arm (Body-F.Tail p c xs)

pub tree-ret : (x : ℕ) → tree_of (body.Ret x) ≡ s.ret x
tree-ret x = ap tree_of (sym (body.rolls-Ret x)) ∙ fold-roll-Body s.Body StepTree ArmTree node_body node_step node_arm (Body-F.Ret x)

pub tree-raise : (x : ℕ) → tree_of (body.Raise x) ≡ s.raise x
tree-raise x = ap tree_of (sym (body.rolls-Raise x)) ∙ fold-roll-Body s.Body StepTree ArmTree node_body node_step node_arm (Body-F.Raise x)

pub step-plain : (p : Plain) (xs : Vec ℕ Global) (x : ℕ) → step_of (step.Plain p xs x) ≡ plain_step (plain_of p) xs.items x
step-plain p xs x = ap step_of (sym (step.rolls-Plain p xs x)) ∙ fold-roll-Step s.Body StepTree ArmTree node_body node_step node_arm (Step-F.Plain p xs x)

pub step-make : (t : ℕ) (ps : Vec Piece Global) (x : ℕ) → step_of (step.Make t ps x) ≡ make_step t (map piece_of ps.items) x
step-make t ps x = ap step_of (sym (step.rolls-Make t ps x)) ∙ fold-roll-Step s.Body StepTree ArmTree node_body node_step node_arm (Step-F.Make t ps x)

pub step-call : (p : Place) (c : Callee) (xs : Vec ℕ Global) (x : ℕ) → step_of (step.Call p c xs x) ≡ call_step p (callee_of c) xs.items x
step-call p c xs x = ap step_of (sym (step.rolls-Call p c xs x)) ∙ fold-roll-Step s.Body StepTree ArmTree node_body node_step node_arm (Step-F.Call p c xs x)

pub step-attempt : (k : Operands) (p : BasisPrimitive) (xs : Vec ℕ Global) (x : ℕ) (b : Box Body Global)
    → step_of (step.Attempt k p xs x b) ≡ attempt_step (operands_of k) p xs.items x (tree_of b.value)
step-attempt k p xs x b = ap step_of (sym (step.rolls-Attempt k p xs x b)) ∙ fold-roll-Step s.Body StepTree ArmTree node_body node_step node_arm (Step-F.Attempt k p xs x b)

pub step-turn : (p : Place) → step_of (step.Turn p) ≡ turn_step p
step-turn p = ap step_of (sym (step.rolls-Turn p)) ∙ fold-roll-Step s.Body StepTree ArmTree node_body node_step node_arm (Step-F.Turn p)

pub step-label : (xs : Vec ℕ Global) (b : Box Body Global) → step_of (step.Label xs b) ≡ label_step xs.items (tree_of b.value)
step-label xs b = ap step_of (sym (step.rolls-Label xs b)) ∙ fold-roll-Step s.Body StepTree ArmTree node_body node_step node_arm (Step-F.Label xs b)

pub step-again : (xs : Vec ℕ Global) (b : Box Body Global) → step_of (step.Again xs b) ≡ again_step xs.items (tree_of b.value)
step-again xs b = ap step_of (sym (step.rolls-Again xs b)) ∙ fold-roll-Step s.Body StepTree ArmTree node_body node_step node_arm (Step-F.Again xs b)

pub step-when : (q : Test) (xs : Vec ℕ Global) (b : Box Body Global) → step_of (step.When q xs b) ≡ when_step (test_of q) xs.items (tree_of b.value)
step-when q xs b = ap step_of (sym (step.rolls-When q xs b)) ∙ fold-roll-Step s.Body StepTree ArmTree node_body node_step node_arm (Step-F.When q xs b)

pub step-unless : (q : Test) (xs : Vec ℕ Global) (b : Box Body Global) → step_of (step.Unless q xs b) ≡ unless_step (test_of q) xs.items (tree_of b.value)
step-unless q xs b = ap step_of (sym (step.rolls-Unless q xs b)) ∙ fold-roll-Step s.Body StepTree ArmTree node_body node_step node_arm (Step-F.Unless q xs b)

pub step-case : (x i : ℕ) (others : Vec Arm Global) (l : Box Body Global)
    → step_of (step.Case x i others l) ≡ case_step x i (bodies_of (map arm_of others.items) (tree_of l.value))
step-case x i others l = ap step_of (sym (step.rolls-Case x i others l)) ∙ fold-roll-Step s.Body StepTree ArmTree node_body node_step node_arm (Step-F.Case x i others l)

-- The same for what the code has of a node.

pub steps-at : (b : Body) (ss : Vec Step Global) (r : Box Body Global) (xs : List Step) (rest : Body) → b ≡ body.Steps ss r → xs ≡ ss.items → rest ≡ r.value
    → tree_of b ≡ onto (map step_of xs) (tree_of rest)
steps-at b ss r xs rest is hs hr =
    ap tree_of is ∙ tree-steps ss r ∙ ap (λ l. onto (map step_of l) (tree_of r.value)) (sym hs) ∙ ap (λ z. onto (map step_of xs) (tree_of z)) (sym hr)

pub guard-at : (b : Body) (l : ℕ) (i : Box Body Global) (y : ℕ) (h : Box Body Global) (inner other : Body) → b ≡ body.Guard l i y h → inner ≡ i.value → other ≡ h.value
    → tree_of b ≡ s.guard l (tree_of inner) y (tree_of other)
guard-at b l i y h inner other is hi hh =
    ap tree_of is ∙ tree-guard l i y h ∙ ap (λ z. s.guard l (tree_of z) y (tree_of h.value)) (sym hi) ∙ ap (λ z. s.guard l (tree_of inner) y (tree_of z)) (sym hh)

pub switch-at : (b : Body) (x : ℕ) (arms : Vec Arm Global) (l : Box Body Global) (as_ : List Arm) (end : Body) → b ≡ body.Switch x arms l → as_ ≡ arms.items → end ≡ l.value
    → tree_of b ≡ s.switch x (bodies_of (map arm_of as_) (tree_of end))
switch-at b x arms l as_ end is ha he =
    ap tree_of is ∙ tree-switch x arms l ∙ ap (λ z. s.switch x (bodies_of (map arm_of z) (tree_of l.value))) (sym ha)
    ∙ ap (λ z. s.switch x (bodies_of (map arm_of as_) (tree_of z))) (sym he)

pub goto-at : (b : Body) (l : ℕ) (xs : Vec ℕ Global) (ys : List ℕ) → b ≡ body.Goto l xs → ys ≡ xs.items → tree_of b ≡ s.goto l ys
goto-at b l xs ys is h = ap tree_of is ∙ tree-goto l xs ∙ ap (λ z. s.goto l z) (sym h)

pub jump-at : (b : Body) (p : Place) (l : ℕ) (xs : Vec ℕ Global) (ys : List ℕ) → b ≡ body.Jump p l xs → ys ≡ xs.items → tree_of b ≡ s.jump p l ys
jump-at b p l xs ys is h = ap tree_of is ∙ tree-jump p l xs ∙ ap (λ z. s.jump p l z) (sym h)

pub tail-at : (b : Body) (p : Place) (c : Callee) (xs : Vec ℕ Global) (ys : List ℕ) → b ≡ body.Tail p c xs → ys ≡ xs.items → tree_of b ≡ s.tail p (callee_of c) ys
tail-at b p c xs ys is h = ap tree_of is ∙ tree-tail p c xs ∙ ap (λ z. s.tail p (callee_of c) z) (sym h)

pub ret-at : (b : Body) (x : ℕ) → b ≡ body.Ret x → tree_of b ≡ s.ret x
ret-at b x is = ap tree_of is ∙ tree-ret x

pub raise-at : (b : Body) (x : ℕ) → b ≡ body.Raise x → tree_of b ≡ s.raise x
raise-at b x is = ap tree_of is ∙ tree-raise x

pub plain-at : (g : Step) (p : Plain) (xs : Vec ℕ Global) (x : ℕ) (ys : List ℕ) → g ≡ step.Plain p xs x → ys ≡ xs.items → step_of g ≡ plain_step (plain_of p) ys x
plain-at g p xs x ys is h = ap step_of is ∙ step-plain p xs x ∙ ap (λ z. plain_step (plain_of p) z x) (sym h)

pub make-at : (g : Step) (t : ℕ) (ps : Vec Piece Global) (x : ℕ) (qs : List Piece) → g ≡ step.Make t ps x → qs ≡ ps.items → step_of g ≡ make_step t (map piece_of qs) x
make-at g t ps x qs is h = ap step_of is ∙ step-make t ps x ∙ ap (λ z. make_step t (map piece_of z) x) (sym h)

pub call-at : (g : Step) (p : Place) (c : Callee) (xs : Vec ℕ Global) (x : ℕ) (ys : List ℕ) → g ≡ step.Call p c xs x → ys ≡ xs.items → step_of g ≡ call_step p (callee_of c) ys x
call-at g p c xs x ys is h = ap step_of is ∙ step-call p c xs x ∙ ap (λ z. call_step p (callee_of c) z x) (sym h)

-- of the operands nothing is known behind the rest
pub attempt-at : (g : Step) (k : Operands) (p : BasisPrimitive) (xs : Vec ℕ Global) (x : ℕ) (b : Box Body Global) (ys : List ℕ) → g ≡ step.Attempt k p xs x b → ys ≡ xs.items
    → step_of g ≡ attempt_step (operands_of k) p ys x (tree_of b.value)
attempt-at g k p xs x b ys is h = ap step_of is ∙ step-attempt k p xs x b ∙ ap (λ z. attempt_step (operands_of k) p z x (tree_of b.value)) (sym h)

pub turn-at : (g : Step) (p : Place) → g ≡ step.Turn p → step_of g ≡ turn_step p
turn-at g p is = ap step_of is ∙ step-turn p

pub label-at : (g : Step) (xs : Vec ℕ Global) (b : Box Body Global) (ys : List ℕ) (d : Body) → g ≡ step.Label xs b → ys ≡ xs.items → d ≡ b.value → step_of g ≡ label_step ys (tree_of d)
label-at g xs b ys d is h k = ap step_of is ∙ step-label xs b ∙ ap (λ z. label_step z (tree_of b.value)) (sym h) ∙ ap (λ z. label_step ys (tree_of z)) (sym k)

pub again-at : (g : Step) (xs : Vec ℕ Global) (b : Box Body Global) (ys : List ℕ) (d : Body) → g ≡ step.Again xs b → ys ≡ xs.items → d ≡ b.value → step_of g ≡ again_step ys (tree_of d)
again-at g xs b ys d is h k = ap step_of is ∙ step-again xs b ∙ ap (λ z. again_step z (tree_of b.value)) (sym h) ∙ ap (λ z. again_step ys (tree_of z)) (sym k)

pub when-at : (g : Step) (q : Test) (xs : Vec ℕ Global) (b : Box Body Global) (ys : List ℕ) (d : Body) → g ≡ step.When q xs b → ys ≡ xs.items → d ≡ b.value
    → step_of g ≡ when_step (test_of q) ys (tree_of d)
when-at g q xs b ys d is h k = ap step_of is ∙ step-when q xs b ∙ ap (λ z. when_step (test_of q) z (tree_of b.value)) (sym h) ∙ ap (λ z. when_step (test_of q) ys (tree_of z)) (sym k)

pub unless-at : (g : Step) (q : Test) (xs : Vec ℕ Global) (b : Box Body Global) (ys : List ℕ) (d : Body) → g ≡ step.Unless q xs b → ys ≡ xs.items → d ≡ b.value
    → step_of g ≡ unless_step (test_of q) ys (tree_of d)
unless-at g q xs b ys d is h k = ap step_of is ∙ step-unless q xs b ∙ ap (λ z. unless_step (test_of q) z (tree_of b.value)) (sym h) ∙ ap (λ z. unless_step (test_of q) ys (tree_of z)) (sym k)

pub case-at : (g : Step) (x i : ℕ) (others : Vec Arm Global) (l : Box Body Global) (as_ : List Arm) (end : Body) → g ≡ step.Case x i others l → as_ ≡ others.items → end ≡ l.value
    → step_of g ≡ case_step x i (bodies_of (map arm_of as_) (tree_of end))
case-at g x i others l as_ end is ha he =
    ap step_of is ∙ step-case x i others l ∙ ap (λ z. case_step x i (bodies_of (map arm_of z) (tree_of l.value))) (sym ha)
    ∙ ap (λ z. case_step x i (bodies_of (map arm_of as_) (tree_of z))) (sym he)
