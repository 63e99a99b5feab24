-- Parts of a tree are less deep than it.
use Rattle.std.proofs.Common.{◌≡◌, ◌<◌, ◌≤◌, ℕ, List, Vec, Box, Global, length, get_or, ap, arith}
use denote.Param.Weighed.{most, at_most}
use Rattle.plain_tree.specs.declared.tree.Arm.{Arm, size-Arm, size_is-Arm}
use Rattle.plain_tree.specs.declared.tree.Binding.{Binding}
use Rattle.plain_tree.specs.declared.tree.Exp.{Exp, size-Exp}
use Rattle.plain_tree.specs.declared.tree.Exp.TheVariants as exp
use Rattle.plain_tree.specs.declared.tree.Exp.TheViews.{sized-Steps, sized-Switch, sized-First, sized-Handle}
use Rattle.plain_tree.specs.declared.tree.Function.{Function, size-Function, size_is-Function}
use Rattle.plain_tree.specs.declared.tree.Step.{Step, size-Step}
use Rattle.plain_tree.specs.declared.tree.Step.TheVariants as step

pub rest-size : (e : Exp) (ss : Vec Step Global) (r : Box Exp Global) (d : Exp) → e ≡ exp.Steps ss r → d ≡ r.value → size-Exp d < size-Exp e
rest-size e ss r d is k = omega (arith, sized-Steps ss r, ap size-Exp is, ap size-Exp k)

pub steps-size : (e : Exp) (ss : Vec Step Global) (r : Box Exp Global) (ls : List Step) → e ≡ exp.Steps ss r → ls ≡ ss.items → most size-Step ls < size-Exp e
steps-size e ss r ls is k = omega (arith, sized-Steps ss r, ap size-Exp is, ap (most size-Step) k)

pub arms-size : (e : Exp) (a u : ℕ) (arms : Vec Arm Global) (ls : List Arm) → e ≡ exp.Switch a u arms → ls ≡ arms.items → most size-Arm ls < size-Exp e
arms-size e a u arms ls is k = omega (arith, sized-Switch a u arms, ap size-Exp is, ap (most size-Arm) k)

pub attempts-size : (e : Exp) (es : Vec Exp Global) (d : Box Exp Global) (ls : List Exp) → e ≡ exp.First es d → ls ≡ es.items → most size-Exp ls < size-Exp e
attempts-size e es d ls is k = omega (arith, sized-First es d, ap size-Exp is, ap (most size-Exp) k)

pub exp-size : (es : List Exp) (i : ℕ) (x : Exp) → i < length es → x ≡ get_or es i x → size-Exp x ≤ most size-Exp es
exp-size es i x lt e = omega (arith, at_most size-Exp es i x lt, ap size-Exp e)

pub step-size : (ss : List Step) (i : ℕ) (x : Step) → i < length ss → x ≡ get_or ss i x → size-Step x ≤ most size-Step ss
step-size ss i x lt e = omega (arith, at_most size-Step ss i x lt, ap size-Step e)

pub arm-size : (as_ : List Arm) (i : ℕ) (x : Arm) → i < length as_ → x ≡ get_or as_ i x → size-Arm x ≤ most size-Arm as_
arm-size as_ i x lt e = omega (arith, at_most size-Arm as_ i x lt, ap size-Arm e)

pub body-size : (a : Arm) → size-Exp a.body < size-Arm a
body-size a = omega (arith, size_is-Arm a)

pub handled-size : (s : Step) (b : Binding) (e : Box Exp Global) (x : ℕ) (h : Box Exp Global) (d : Exp) → s ≡ step.Handle b e x h → d ≡ e.value → size-Exp d < size-Step s
handled-size s b e x h d is k = omega (arith, sized-Handle b e x h, ap size-Step is, ap size-Exp k)

pub function-size : (fs : List Function) (i : ℕ) (x : Function) → i < length fs → x ≡ get_or fs i x → size-Exp x.body ≤ most size-Function fs
function-size fs i x lt e = omega (arith, at_most size-Function fs i x lt, ap size-Function e, size_is-Function x)
