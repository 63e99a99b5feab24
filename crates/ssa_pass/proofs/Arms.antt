-- What the code makes of arms, and of what stands in them.
use Rattle.std.proofs.Common.{◌≡◌, ℕ, List, [], ◌∷◌, ◌++◌, Bool, false, map, Vec, Box, Global, Result, Ok, Err, IfOk, refl, sym, ap, ◌∙◌}
use Rattle.ir_first.specs.Tree as f
use Rattle.first_tree.specs.TreeOf as source
use Rattle.first_tree.specs.TreeOf.{StepTree, ArmTree, node_exp, node_step, node_arm}
use Rattle.first_tree.specs.declared.tree.Exp.{Exp, Exp-F, fold-roll-Exp}
use Rattle.first_tree.specs.declared.tree.Exp.TheVariants.{Steps, Switch, rolls-Steps, rolls-Switch}
use Rattle.first_tree.specs.declared.tree.Step.{Step, Step-F, fold-roll-Step}
use Rattle.first_tree.specs.declared.tree.Step.TheVariants.{Case, rolls-Case}
use Rattle.first_tree.specs.declared.tree.Arm.{Arm}
use Rattle.ssa_tree.specs.declared.tree.Arm as made_arm
use Rattle.ir_ssa.specs.Tree as s
use Rattle.ssa_tree.specs.TreeOf as target
use Rattle.ssa_build.specs.Build.{Exit, is_last, build, build_arms}
use Rattle.ssa_pass.specs.Built.{build_arm}
use Rattle.ssa_pass.proofs.Steps.{arms-are, not-last}

pub if-ok : {A E : Type 0} (P Q : A → Type 0) (r : Result A E) → IfOk r P → ((a : A) → P a → Q a) → IfOk r Q
if-ok P Q (Ok a) h k = k a h
if-ok P Q (Err e) h k = h

tree_of-Switch : (x : ℕ) (arms : Vec Arm Global) → source.tree_of (Switch x arms) ≡ f.switch x (source.arms_of (map source.arm_of arms.items))
tree_of-Switch x arms = ap source.tree_of (sym (rolls-Switch x arms)) ∙ fold-roll-Exp f.Exp StepTree ArmTree node_exp node_step node_arm (Exp-F.Switch x arms)

tree_of-Steps : (ss : Vec Step Global) (e : Box Exp Global) → source.tree_of (Steps ss e) ≡ source.onto (map source.step_of ss.items) (source.tree_of e.value)
tree_of-Steps ss e = ap source.tree_of (sym (rolls-Steps ss e)) ∙ fold-roll-Exp f.Exp StepTree ArmTree node_exp node_step node_arm (Exp-F.Steps ss e)

step_of-Case : (x i : ℕ) (others : Vec Arm Global) → source.step_of (Case x i others) ≡ source.case_step x i (source.arms_of (map source.arm_of others.items))
step_of-Case x i others = ap source.step_of (sym (rolls-Case x i others)) ∙ fold-roll-Step f.Exp StepTree ArmTree node_exp node_step node_arm (Step-F.Case x i others)

-- the arms that were made, and the last
made-arms : (t : Exit) (m : ℕ) (before arms : List Arm) (made old : List made_arm.Arm) → arms ≡ before → old ≡ []
    → map target.arm_of made ≡ map target.arm_of old ++ map (build_arm t m) (map source.arm_of arms)
    → target.bodies_of (map target.arm_of made) (s.goto m []) ≡ build_arms t m (source.arms_of (map source.arm_of before))
made-arms t m before arms made old ea eo em =
    ap (λ l. target.bodies_of l (s.goto m [])) (em ∙ ap (λ l. map target.arm_of l ++ map (build_arm t m) (map source.arm_of arms)) eo ∙ ap (λ l. map (build_arm t m) (map source.arm_of l)) ea)
    ∙ arms-are t m (map source.arm_of before)

pub switch-is : (t : Exit) (m x : ℕ) (e : Exp) (arms : Vec Arm Global) (seen : List Arm) (made old : List made_arm.Arm) (d : s.Body) → e ≡ Switch x arms → seen ≡ arms.items → old ≡ []
    → map target.arm_of made ≡ map target.arm_of old ++ map (build_arm t m) (map source.arm_of seen) → d ≡ s.switch x (target.bodies_of (map target.arm_of made) (s.goto m []))
    → d ≡ build t m (source.tree_of e)
switch-is t m x e arms seen made old d is es eo em ed =
    ed ∙ ap (s.switch x) (made-arms t m arms.items seen made old es eo em) ∙ sym (ap (build t m) (ap source.tree_of is ∙ tree_of-Switch x arms))

pub case-is : (t : Exit) (m x i : ℕ) (step : Step) (others : Vec Arm Global) (seen : List Arm) (made old : List made_arm.Arm) (e : f.Exp) (d : s.Body) → step ≡ Case x i others → seen ≡ others.items → old ≡ []
    → map target.arm_of made ≡ map target.arm_of old ++ map (build_arm t m) (map source.arm_of seen)
    → d ≡ s.switch x (s.arm i (build t m e) (target.bodies_of (map target.arm_of made) (s.goto m []))) → d ≡ build t m (source.put (source.step_of step) e)
case-is t m x i step others seen made old e d is es eo em ed =
    ed ∙ ap (λ bs. s.switch x (s.arm i (build t m e) bs)) (made-arms t m others.items seen made old es eo em)
    ∙ sym (ap (λ r. build t m (source.put r e)) (ap source.step_of is ∙ step_of-Case x i others))

pub not-empty : (x : ℕ) (e : Exp) (ss : Vec Step Global) (rest : Box Exp Global) → e ≡ Steps ss rest → (ss.items ≡ [] → ⊥) → false ≡ is_last x (source.tree_of e)
not-empty x e ss rest is h = sym (ap (is_last x) (ap source.tree_of is ∙ tree_of-Steps ss rest) ∙ go ss.items h)
  where
    go : (rs : List Step) → (rs ≡ [] → ⊥) → is_last x (source.onto (map source.step_of rs) (source.tree_of rest.value)) ≡ false
    go [] k = absurd (k refl)
    go (r ∷ rs) k = not-last x (source.step_of r) (source.onto (map source.step_of rs) (source.tree_of rest.value))
