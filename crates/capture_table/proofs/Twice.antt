-- Where the walk stops for a variable that is bound twice, it is twice among those that are seen and those that the text binds.
use Rattle.std.proofs.Common.{◌≡◌, ℕ, zero, suc, ◌+◌, ◌<◌, ◌≤◌, List, [], ◌∷◌, ◌++◌, map, take, drop, length, get_or, Vec, Box, Global, refl, sym, ap, ap₂, subst, ◌∙◌, arith}
use Rattle.ir_plain.specs.Once.{hit, IsOnce}
use Rattle.ir_mono.specs.Types as table
use Rattle.ir_mono.specs.Mono.{mono}
use Rattle.mono_bound.specs.Reads.{reading, mono_of}
use Rattle.plain_tree.proofs.AgreeOnce.{tally, binders-agree}
use Rattle.capture_scope.specs.declared.scope.Member as code
use Rattle.capture_scope.specs.Seen.{members_of}
use Rattle.plain_tree.specs.declared.tree.Case.{Case}
use Rattle.plain_tree.specs.declared.tree.Case.TheVariants as case
use Rattle.plain_tree.specs.declared.tree.Parameter.{Parameter}
use Rattle.plain_tree.specs.declared.tree.Binding.{Binding}
use Rattle.plain_tree.specs.declared.tree.Exp.TheVariants as exp
use Rattle.plain_tree.specs.declared.tree.Step.TheVariants as step
use Rattle.plain_tree.specs.declared.tree.Exp.{Exp}
use Rattle.plain_tree.specs.declared.tree.Exp.TheFolds.{map-Step}
use Rattle.plain_tree.specs.declared.tree.Exp.TheViews.{out-Step}
use Rattle.plain_tree.specs.declared.tree.Step.{Step, Step-F, fold_out-Step}
use Rattle.plain_tree.specs.declared.tree.Arm.{Arm}
use Rattle.plain_tree.specs.declared.tree.Function.{Function}
use Rattle.plain_tree.specs.Sums.{Vars, joined, variables_of, case_binders, binders_of, step_binders, arm_binders, function_binders, node_binders, node_step_binders, node_arm_binders, node_function_binders}
use Rattle.closure_convert.specs.Scope.{Member, names, Scope, top}
use Rattle.closure_convert.specs.Closed.{scope_of}
use Rattle.closure_convert.specs.Capture.{visible}
use Rattle.flow_sets.specs.Member.{is_in}
use Rattle.capture_scope.specs.Repeats.{times_in, Repeats}
use Rattle.capture_scope.proofs.Repeating.{times-append, repeats-within, front-repeats, visible-times, times-kept}
use Rattle.capture_table.specs.Told.{Told, StepTold, FunctionTold, node_exp, node_step, node_arm, node_function, more, case_binds, used_in, members_told, after, exp_told, step_told, arm_told, function_told}
use Rattle.capture_table.specs.Inner.{inner_binders}
use Rattle.capture_table.proofs.Binders.{of-steps, of-switch, of-first, of-fn, of-block, of-handle, of-group, of-test, of-arm, of-function}
use Rattle.capture_table.proofs.Walking.{member-told}

pub twice-in : (vs xs ws ys : List ℕ) → ((k : ℕ) → times_in k vs + times_in k xs ≤ times_in k ws + times_in k ys) → Repeats (vs ++ xs) → Repeats (ws ++ ys)
twice-in vs xs ws ys h = repeats-within (vs ++ xs) (ws ++ ys) (λ k. let a = h k in let b = times-append k vs xs in let c = times-append k ws ys in omega (arith, a, b, c))

pub front-twice : (vs xs ys zs : List ℕ) → zs ≡ xs ++ ys → Repeats (vs ++ xs) → Repeats (vs ++ zs)
front-twice vs xs ys zs z = twice-in vs xs vs zs (λ k. let a : times_in k zs ≡ times_in k (xs ++ ys) = ap (times_in k) z in let b = times-append k xs ys in omega (arith, a, b))

pub back-twice : (vs xs ys zs : List ℕ) → zs ≡ xs ++ ys → Repeats (vs ++ ys) → Repeats (vs ++ zs)
back-twice vs xs ys zs z = twice-in vs ys vs zs (λ k. let a : times_in k zs ≡ times_in k (xs ++ ys) = ap (times_in k) z in let b = times-append k xs ys in omega (arith, a, b))

pub same-twice : (vs ws xs ys : List ℕ) → vs ≡ ws → xs ≡ ys → Repeats (vs ++ xs) → Repeats (ws ++ ys)
same-twice vs ws xs ys v x r = subst (λ l. Repeats (ws ++ l)) x (subst (λ l. Repeats (l ++ xs)) v r)

pub more-times : (k : ℕ) (xs : List ℕ) (s : Scope) → times_in k (visible (more xs s)) ≡ times_in k xs + times_in k (visible s)
more-times k xs s = let a = visible-times k (more xs s) in let b = visible-times k s in let c = times-append k xs s.locals in omega (arith, a, b, c)

-- what is bound in front, before the rest
pub bound-twice : (xs ys zs : List ℕ) (s now : Scope) → now ≡ more xs s → zs ≡ xs ++ ys → Repeats (visible now ++ ys) → Repeats (visible s ++ zs)
bound-twice xs ys zs s now n z r = twice-in (visible (more xs s)) ys (visible s) zs
    (λ k. let a = more-times k xs s in let b : times_in k zs ≡ times_in k (xs ++ ys) = ap (times_in k) z in let c = times-append k xs ys in omega (arith, a, b, c)) (subst (λ v. Repeats (visible v ++ ys)) n r)

pub joined-part : {A : Type 0} (g : A → List ℕ) (k : ℕ) (xs : List A) (i : ℕ) (x d : A) → i < length xs → x ≡ get_or xs i d
    → times_in k (joined (map g (take i xs))) + times_in k (g x) ≤ times_in k (joined (map g xs))
joined-part g k [] i x d lt is = absurd (omega (arith, lt))
joined-part g k (y ∷ xs) zero x d lt is = let a : times_in k (g x) ≡ times_in k (g y) = ap (λ v. times_in k (g v)) is in let b = times-append k (g y) (joined (map g xs)) in omega (arith, a, b)
joined-part g k (y ∷ xs) (suc i) x d lt is =
    let r = joined-part g k xs i x d (omega (arith, lt)) is in
    let a = times-append k (g y) (joined (map g (take i xs))) in
    let b = times-append k (g y) (joined (map g xs)) in
    omega (arith, r, a, b)

-- one of several texts in one scope
pub part-twice : {A : Type 0} (g : A → List ℕ) (vs : List ℕ) (xs : List A) (i : ℕ) (x d : A) → i < length xs → x ≡ get_or xs i d → Repeats (vs ++ g x) → Repeats (vs ++ joined (map g xs))
part-twice g vs xs i x d lt is = twice-in vs (g x) vs (joined (map g xs)) (λ k. let a = joined-part g k xs i x d lt is in omega (arith, a))

-- Steps

case-same : (c : Case) → case_binds c ≡ case_binders c
case-same (case.Constant c) = refl
case-same (case.Constructor c) = refl
case-same (case.ConstructorOf c x) = refl
case-same (case.Exception a) = refl
case-same (case.ExceptionOf a x) = refl
case-same (case.Record size) = refl

names-within : (k : ℕ) (fs : List Function) → times_in k (names (members_told (map function_told fs))) + times_in k (joined (map inner_binders fs)) ≡ times_in k (joined (map function_binders fs))
names-within k [] = refl
names-within k (f ∷ fs) =
    let r = names-within k fs in
    let a = times-append k (inner_binders f) (joined (map inner_binders fs)) in
    let b = times-append k (function_binders f) (joined (map function_binders fs)) in
    let c : times_in k (function_binders f) ≡ hit k f.variable + times_in k (inner_binders f) = ap (times_in k) (of-function f) in
    let d : hit k (function_told f).member.name ≡ hit k f.variable = ap (λ (m : Member). hit k m.name) (member-told f) in
    omega (arith, r, a, b, c, d)

binds-within : (k : ℕ) (s : Step) → times_in k (step_told s).binds ≤ times_in k (step_binders s)
binds-within k s =
    let a : times_in k (step_told s).binds ≡ _ = ap (λ (t : StepTold). times_in k t.binds) (fold_out-Step Told StepTold Told FunctionTold node_exp node_step node_arm node_function s) in
    let b : times_in k (step_binders s) ≡ _ = ap (times_in k) (fold_out-Step Vars Vars Vars Vars node_binders node_step_binders node_arm_binders node_function_binders s) in
    let c = by (out-Step s) in
    omega (arith, a, b, c)
  where
    by : (d : Step-F Exp Step Arm Function) → times_in k (node_step (map-Step Exp Step Arm Function Told StepTold Told FunctionTold exp_told step_told arm_told function_told d)).binds
        ≤ times_in k (node_step_binders (map-Step Exp Step Arm Function Vars Vars Vars Vars binders_of step_binders arm_binders function_binders d))
    by (Step-F.Let b o) = omega arith
    by (Step-F.Fn b xs x e) = omega arith
    by (Step-F.Block b e) = omega arith
    by (Step-F.Handle b e x h) = omega arith
    by (Step-F.Exception x i a) = omega arith
    by (Step-F.Name x y) = omega arith
    by (Step-F.Group ps fs) = let r = names-within k fs.items in omega (arith, r)
    by (Step-F.Test a u c others) = let e : times_in k (case_binds c) ≡ times_in k (case_binders c) = ap (times_in k) (case-same c) in let r = times-append k (case_binders c) (joined (map arm_binders others.items)) in omega (arith, e, r)
    by (Step-F.Counted n) = omega arith

after-times : (k : ℕ) (ss : List Step) (s : Scope) → times_in k (visible (after (map step_told ss) s)) ≤ times_in k (visible s) + times_in k (joined (map step_binders ss))
after-times k [] s = omega arith
after-times k (x ∷ ss) s =
    let r = after-times k ss (more (step_told x).binds s) in
    let a = more-times k (step_told x).binds s in
    let b = binds-within k x in
    let c = times-append k (step_binders x) (joined (map step_binders ss)) in
    omega (arith, r, a, b, c)

-- at one of several steps
pub step-twice : (ss : List Step) (i : ℕ) (x d : Step) (s scope : Scope) → i < length ss → x ≡ get_or ss i d → scope ≡ after (map step_told (take i ss)) s → Repeats (visible scope ++ step_binders x) → Repeats (visible s ++ joined (map step_binders ss))
step-twice ss i x d s scope lt is at r = twice-in (visible (after (map step_told (take i ss)) s)) (step_binders x) (visible s) (joined (map step_binders ss))
    (λ k. let a = after-times k (take i ss) s in let b = joined-part step_binders k ss i x d lt is in omega (arith, a, b)) (subst (λ v. Repeats (visible v ++ step_binders x)) at r)

pub binds-twice : (s : Scope) (x : Step) → Repeats (visible s ++ (step_told x).binds) → Repeats (visible s ++ step_binders x)
binds-twice s x = twice-in (visible s) (step_told x).binds (visible s) (step_binders x) (λ k. let a = binds-within k x in omega (arith, a))

-- behind steps
pub behind-twice : (ss : List Step) (ys zs : List ℕ) (s scope : Scope) → scope ≡ after (map step_told ss) s → zs ≡ joined (map step_binders ss) ++ ys → Repeats (visible scope ++ ys) → Repeats (visible s ++ zs)
behind-twice ss ys zs s scope at z r = twice-in (visible (after (map step_told ss) s)) ys (visible s) zs
    (λ k. let a = after-times k ss s in let b : times_in k zs ≡ times_in k (joined (map step_binders ss) ++ ys) = ap (times_in k) z in let c = times-append k (joined (map step_binders ss)) ys in omega (arith, a, b, c))
    (subst (λ v. Repeats (visible v ++ ys)) at r)

-- Functions

-- what is captured is visible
pub captured-within : (k : ℕ) (s : Scope) (uses cs : List ℕ) → cs ≡ used_in s uses → times_in k cs ≤ times_in k (visible s)
captured-within k s uses cs e = let a : times_in k cs ≡ times_in k (used_in s uses) = ap (times_in k) e in let b = times-kept k (λ y. is_in y uses) (visible s) in omega (arith, a, b)

-- a function alone
pub fn-twice : (s : Scope) (uses cs : List ℕ) (x : ℕ) (ys zs : List ℕ) → cs ≡ used_in s uses → zs ≡ x ∷ ys → Repeats ((cs ++ names []) ++ ys) → Repeats (visible s ++ zs)
fn-twice s uses cs x ys zs e z = twice-in (cs ++ names []) ys (visible s) zs
    (λ k. let a = captured-within k s uses cs e in let b : times_in k zs ≡ hit k x + times_in k ys = ap (times_in k) z in let c = times-append k cs [] in omega (arith, a, b, c))

-- those of a group
pub group-twice : (s : Scope) (uses cs zs : List ℕ) (ms : List Member) (fs : List Function) → cs ≡ used_in s uses → ms ≡ members_told (map function_told fs) → zs ≡ joined (map function_binders fs)
    → Repeats ((cs ++ names ms) ++ joined (map inner_binders fs)) → Repeats (visible s ++ zs)
group-twice s uses cs zs ms fs e m z = twice-in (cs ++ names ms) (joined (map inner_binders fs)) (visible s) zs
    (λ k. let a = captured-within k s uses cs e in let b : times_in k zs ≡ times_in k (joined (map function_binders fs)) = ap (times_in k) z in let c = times-append k cs (names ms) in
    let d : times_in k (names ms) ≡ times_in k (names (members_told (map function_told fs))) = ap (λ l. times_in k (names l)) m in let f = names-within k fs in omega (arith, a, b, c, d, f))

-- what the next function of a curried one captures
pub next-within : (k : ℕ) (cs cs' : List ℕ) (ms : List Member) (x : ℕ) (uses : List ℕ) → cs' ≡ used_in (scope_of cs ms x) uses → times_in k cs' ≤ times_in k cs + (times_in k (names ms) + hit k x)
next-within k cs cs' ms x uses e =
    let a = captured-within k (scope_of cs ms x) uses cs' e in
    let b = visible-times k (scope_of cs ms x) in
    omega (arith, a, b)

pub first-twice : (vs : List ℕ) (y x : Parameter) (ys : List Parameter) (zs : List ℕ) (k : ℕ) → k ≡ y.variable → Repeats (vs ++ k ∷ []) → Repeats (vs ++ (variables_of (y ∷ ys) ++ zs))
first-twice vs y x ys zs n e = twice-in vs (n ∷ []) vs (variables_of (y ∷ ys) ++ zs)
    (λ k. let a : hit k n ≡ hit k y.variable = ap (hit k) e in let b = times-append k (variables_of (y ∷ ys)) zs in omega (arith, a, b))

parameters-part : (k : ℕ) (ys : List Parameter) (i x : ℕ) (d : Parameter) → i < length ys → x ≡ (get_or ys i d).variable → times_in k (variables_of (take i ys)) + hit k x ≤ times_in k (variables_of ys)
parameters-part k [] i x d lt is = absurd (omega (arith, lt))
parameters-part k (y ∷ ys) zero x d lt is = let a : hit k x ≡ hit k y.variable = ap (hit k) is in omega (arith, a)
parameters-part k (y ∷ ys) (suc i) x d lt is = let r = parameters-part k ys i x d (omega (arith, lt)) is in omega (arith, r)

pub behind-none : (cs ys : List ℕ) → Repeats (cs ++ names []) → Repeats (cs ++ ys)
behind-none cs ys = twice-in cs [] cs ys (λ k. omega arith)

-- one of several parameters, behind those before it
pub parameter-twice : (cs : List ℕ) (ys : List Parameter) (i x : ℕ) (d : Parameter) (s : Scope) → i < length ys → x ≡ (get_or ys i d).variable → visible s ≡ cs ++ variables_of (take i ys) → Repeats (visible s ++ x ∷ []) → Repeats (cs ++ variables_of ys)
parameter-twice cs ys i x d s lt is h = twice-in (visible s) (x ∷ []) cs (variables_of ys)
    (λ k. let a : times_in k (visible s) ≡ times_in k (cs ++ variables_of (take i ys)) = ap (times_in k) h in let b = times-append k cs (variables_of (take i ys)) in let c = parameters-part k ys i x d lt is in omega (arith, a, b, c))

-- the functions that a curried one gives, and its body
module _ (vs cs : List ℕ) (ms : List Member) (y x : Parameter) (ys all : List Parameter) (n : ℕ) (uses body : List ℕ) (inner : List ℕ) (a : all ≡ y ∷ ys) (e : n ≡ y.variable) (u : inner ≡ used_in (scope_of cs ms n) uses) where
  pub inner-twice : Repeats (inner ++ variables_of ys) → Repeats ((cs ++ names ms) ++ (variables_of all ++ x.variable ∷ body))
  inner-twice = twice-in inner (variables_of ys) (cs ++ names ms) (variables_of all ++ x.variable ∷ body)
      (λ k. let b = next-within k cs inner ms n uses u in let c = times-append k cs (names ms) in let d = times-append k (variables_of all) (x.variable ∷ body) in
      let f : times_in k (variables_of all) ≡ hit k y.variable + times_in k (variables_of ys) = ap (λ l. times_in k (variables_of l)) a in let g : hit k n ≡ hit k y.variable = ap (hit k) e in omega (arith, b, c, d, f, g))

  pub innermost-twice : (last : List ℕ) → ((k : ℕ) → times_in k last ≤ times_in k inner + times_in k (variables_of ys)) → Repeats ((last ++ names []) ++ x.variable ∷ body) → Repeats ((cs ++ names ms) ++ (variables_of all ++ x.variable ∷ body))
  innermost-twice last h = twice-in (last ++ names []) (x.variable ∷ body) (cs ++ names ms) (variables_of all ++ x.variable ∷ body)
      (λ k. let b = next-within k cs inner ms n uses u in let c = times-append k cs (names ms) in let d = times-append k (variables_of all) (x.variable ∷ body) in
      let f : times_in k (variables_of all) ≡ hit k y.variable + times_in k (variables_of ys) = ap (λ l. times_in k (variables_of l)) a in let g : hit k n ≡ hit k y.variable = ap (hit k) e in
      let i = h k in let j = times-append k last [] in omega (arith, b, c, d, f, g, i, j))

-- in one scope

pub part-at : {A : Type 0} (g : A → List ℕ) (s now : Scope) (xs : List A) (i : ℕ) (x d : A) → i < length xs → x ≡ get_or xs i d → now ≡ s → Repeats (visible now ++ g x) → Repeats (visible s ++ joined (map g xs))
part-at g s now xs i x d lt is e r = part-twice g (visible s) xs i x d lt is (subst (λ v. Repeats (visible v ++ g x)) e r)

pub arm-binds : (a : Arm) → arm_binders a ≡ case_binds a.case ++ binders_of a.body
arm-binds a = of-arm a ∙ ap (λ l. l ++ binders_of a.body) (sym (case-same a.case))

pub back-at : (s now : Scope) (xs ys zs : List ℕ) → now ≡ s → zs ≡ xs ++ ys → Repeats (visible now ++ ys) → Repeats (visible s ++ zs)
back-at s now xs ys zs e z r = back-twice (visible s) xs ys zs z (subst (λ v. Repeats (visible v ++ ys)) e r)

members-part : (k : ℕ) (ms : List code.Member) (i x : ℕ) (d : code.Member) → i < length ms → x ≡ (get_or ms i d).name → hit k x + times_in k (names (members_of (drop (suc i) ms))) ≤ times_in k (names (members_of ms))
members-part k [] i x d lt is = absurd (omega (arith, lt))
members-part k (y ∷ ms) zero x d lt is = let a : hit k x ≡ hit k y.name = ap (hit k) is in omega (arith, a)
members-part k (y ∷ ms) (suc i) x d lt is = let r = members-part k ms i x d (omega (arith, lt)) is in omega (arith, r)

pub member-twice : (ms : List code.Member) (n i x : ℕ) (d : code.Member) (s now : Scope) → n ≡ i + 1 → i < length ms → x ≡ (get_or ms i d).name → now ≡ more (names (members_of (drop n ms))) s → Repeats (visible now ++ x ∷ [])
    → Repeats (visible s ++ names (members_of ms))
member-twice ms n i x d s now e lt is at r = twice-in (visible (more (names (members_of (drop (suc i) ms))) s)) (x ∷ []) (visible s) (names (members_of ms))
    (λ k. let a = more-times k (names (members_of (drop (suc i) ms))) s in let b = members-part k ms i x d lt is in omega (arith, a, b))
    (subst (λ v. Repeats (visible v ++ x ∷ [])) (at ∙ ap (λ j. more (names (members_of (drop j ms))) s) (let m : n ≡ suc i = omega (arith, e) in m)) r)

-- the whole program

pub none-twice : (types : List table.Row) (strings : List (List ℕ)) (e : Exp) (s : Scope) → s ≡ top → Repeats (visible s ++ binders_of e) → IsOnce {F = mono types} (λ x. x) (mono_of types strings e) → ⊥
none-twice types strings e s z r once =
    let q : Repeats (binders_of e) = subst (λ v. Repeats (visible v ++ binders_of e)) z r in
    let a = q.1 in
    let b = once q.0 in
    let c = binders-agree (reading types strings) (λ x. hit q.0 x) e in
    let d = tallied q.0 (binders_of e) in
    absurd (omega (arith, a, b, c, d))
  where
    tallied : (k : ℕ) (xs : List ℕ) → tally (reading types strings) (λ x. hit k x) xs ≡ times_in k xs
    tallied k [] = refl
    tallied k (x ∷ xs) = ap (λ n. hit k x + n) (tallied k xs)

-- of a body
pub body-twice : (cs cs' : List ℕ) (ms : List Member) (x : ℕ) (ys : List ℕ) (s : Scope) → cs' ≡ cs → s ≡ scope_of cs' ms x → Repeats (visible s ++ ys) → Repeats ((cs ++ names ms) ++ x ∷ ys)
body-twice cs cs' ms x ys s c e r = twice-in (visible (scope_of cs ms x)) ys (cs ++ names ms) (x ∷ ys)
    (λ k. let a = visible-times k (scope_of cs ms x) in let b = times-append k cs (names ms) in omega (arith, a, b)) (subst (λ v. Repeats (visible v ++ ys)) (e ∙ ap (λ l. scope_of l ms x) c) r)

pub entered-twice : (cs cs' : List ℕ) (ms : List Member) (x : ℕ) (ys : List ℕ) → cs' ≡ cs → Repeats ((cs' ++ names ms) ++ x ∷ []) → Repeats ((cs ++ names ms) ++ x ∷ ys)
entered-twice cs cs' ms x ys c r = front-twice (cs ++ names ms) (x ∷ []) ys (x ∷ ys) refl (subst (λ l. Repeats ((l ++ names ms) ++ x ∷ [])) c r)

-- before a parameter is bound
pub unbound-twice : (cs cs' : List ℕ) (ms : List Member) (ys : List ℕ) → cs' ≡ cs → Repeats (cs' ++ names ms) → Repeats ((cs ++ names ms) ++ ys)
unbound-twice cs cs' ms ys c r = front-repeats (cs ++ names ms) ys (subst (λ l. Repeats (l ++ names ms)) c r)

-- by the kind of node

module _ (vs : List ℕ) (e : Exp) where
  pub switch-twice : (a u : ℕ) (arms : Vec Arm Global) (l : List Arm) → e ≡ exp.Switch a u arms → l ≡ arms.items → Repeats (vs ++ joined (map arm_binders l)) → Repeats (vs ++ binders_of e)
  switch-twice a u arms l is d = subst (λ ys. Repeats (vs ++ ys)) (ap (λ xs. joined (map arm_binders xs)) d ∙ sym (of-switch a u arms) ∙ ap binders_of (sym is))

  attempts-are : (es : Vec Exp Global) (d : Box Exp Global) (l : List Exp) → e ≡ exp.First es d → l ≡ es.items → binders_of e ≡ joined (map binders_of l) ++ binders_of d.value
  attempts-are es d l is q = ap binders_of is ∙ of-first es d ∙ ap (λ xs. joined (map binders_of xs) ++ binders_of d.value) (sym q)

  pub attempts-twice : (es : Vec Exp Global) (d : Box Exp Global) (l : List Exp) → e ≡ exp.First es d → l ≡ es.items → Repeats (vs ++ joined (map binders_of l)) → Repeats (vs ++ binders_of e)
  attempts-twice es d l is q = front-twice vs (joined (map binders_of l)) (binders_of d.value) (binders_of e) (attempts-are es d l is q)

  pub last-twice : (es : Vec Exp Global) (d : Box Exp Global) (x : Exp) → e ≡ exp.First es d → x ≡ d.value → Repeats (vs ++ binders_of x) → Repeats (vs ++ binders_of e)
  last-twice es d x is q r = back-twice vs (joined (map binders_of es.items)) (binders_of d.value) (binders_of e) (attempts-are es d es.items is refl) (subst (λ y. Repeats (vs ++ binders_of y)) q r)

  steps-are : (ss : Vec Step Global) (d : Box Exp Global) (l : List Step) → e ≡ exp.Steps ss d → l ≡ ss.items → binders_of e ≡ joined (map step_binders l) ++ binders_of d.value
  steps-are ss d l is q = ap binders_of is ∙ of-steps ss d ∙ ap (λ xs. joined (map step_binders xs) ++ binders_of d.value) (sym q)

  pub steps-twice : (ss : Vec Step Global) (d : Box Exp Global) (l : List Step) → e ≡ exp.Steps ss d → l ≡ ss.items → Repeats (vs ++ joined (map step_binders l)) → Repeats (vs ++ binders_of e)
  steps-twice ss d l is q = front-twice vs (joined (map step_binders l)) (binders_of d.value) (binders_of e) (steps-are ss d l is q)

-- what comes of steps
pub rest-twice : (s scope : Scope) (e x : Exp) (ss : Vec Step Global) (d : Box Exp Global) (l : List Step) → e ≡ exp.Steps ss d → l ≡ ss.items → x ≡ d.value → scope ≡ after (map step_told l) s
    → Repeats (visible scope ++ binders_of x) → Repeats (visible s ++ binders_of e)
rest-twice s scope e x ss d l is q v at r =
    behind-twice l (binders_of d.value) (binders_of e) s scope at (steps-are (visible s) e ss d l is q) (subst (λ y. Repeats (visible scope ++ binders_of y)) v r)

module _ (s : Scope) (st : Step) where
  pub block-twice : (b : Binding) (d : Box Exp Global) (x : Exp) → st ≡ step.Block b d → x ≡ d.value → Repeats (visible s ++ binders_of x) → Repeats (visible s ++ step_binders st)
  block-twice b d x is q r = back-twice (visible s) (b.variable ∷ []) (binders_of d.value) (step_binders st) (ap step_binders is ∙ of-block b d) (subst (λ y. Repeats (visible s ++ binders_of y)) q r)

  pub handled-twice : (b : Binding) (d : Box Exp Global) (p : ℕ) (h : Box Exp Global) (x : Exp) → st ≡ step.Handle b d p h → x ≡ d.value → Repeats (visible s ++ binders_of x) → Repeats (visible s ++ step_binders st)
  handled-twice b d p h x is q r = twice-in (visible s) (binders_of d.value) (visible s) (step_binders st)
      (λ k. let a : times_in k (step_binders st) ≡ hit k b.variable + times_in k (binders_of d.value ++ p ∷ binders_of h.value) = ap (times_in k) (ap step_binders is ∙ of-handle b d p h) in
      let c = times-append k (binders_of d.value) (p ∷ binders_of h.value) in omega (arith, a, c)) (subst (λ y. Repeats (visible s ++ binders_of y)) q r)

  pub handler-twice : (b : Binding) (d : Box Exp Global) (p : ℕ) (h : Box Exp Global) (x : Exp) (now : Scope) → st ≡ step.Handle b d p h → x ≡ h.value → now ≡ s → Repeats (visible now ++ p ∷ binders_of x) → Repeats (visible s ++ step_binders st)
  handler-twice b d p h x now is q e r = twice-in (visible s) (p ∷ binders_of h.value) (visible s) (step_binders st)
      (λ k. let a : times_in k (step_binders st) ≡ hit k b.variable + times_in k (binders_of d.value ++ p ∷ binders_of h.value) = ap (times_in k) (ap step_binders is ∙ of-handle b d p h) in
      let c = times-append k (binders_of d.value) (p ∷ binders_of h.value) in omega (arith, a, c)) (same-twice (visible now) (visible s) (p ∷ binders_of x) (p ∷ binders_of h.value) (ap visible e) (ap (λ y. p ∷ binders_of y) q) r)

  pub others-twice : (a u : ℕ) (c : Case) (others : Vec Arm Global) (l : List Arm) → st ≡ step.Test a u c others → l ≡ others.items → Repeats (visible s ++ joined (map arm_binders l)) → Repeats (visible s ++ step_binders st)
  others-twice a u c others l is q r = back-twice (visible s) (case_binders c) (joined (map arm_binders others.items)) (step_binders st) (ap step_binders is ∙ of-test a u c others) (subst (λ xs. Repeats (visible s ++ joined (map arm_binders xs))) q r)

  pub step-fn-twice : (uses cs : List ℕ) (b : Binding) (ps : Vec Parameter Global) (x : Parameter) (d : Box Exp Global) (l : List Parameter) (y : Exp) → st ≡ step.Fn b ps x d → l ≡ ps.items → y ≡ d.value → cs ≡ used_in s uses
      → Repeats ((cs ++ names []) ++ (variables_of l ++ x.variable ∷ binders_of y)) → Repeats (visible s ++ step_binders st)
  step-fn-twice uses cs b ps x d l y is q v e = fn-twice s uses cs b.variable (variables_of l ++ x.variable ∷ binders_of y) (step_binders st) e
      (ap step_binders is ∙ of-fn b ps x d ∙ ap₂ (λ xs z. b.variable ∷ (variables_of xs ++ x.variable ∷ binders_of z)) (sym q) (sym v))

  pub step-group-twice : (uses cs : List ℕ) (ms : List Member) (n : ℕ) (fs : Vec Function Global) (l : List Function) → st ≡ step.Group n fs → l ≡ fs.items → cs ≡ used_in s uses → ms ≡ members_told (map function_told l)
      → Repeats ((cs ++ names ms) ++ joined (map inner_binders l)) → Repeats (visible s ++ step_binders st)
  step-group-twice uses cs ms n fs l is q e m = group-twice s uses cs (step_binders st) ms l e m (ap step_binders is ∙ of-group n fs ∙ ap (λ xs. joined (map function_binders xs)) (sym q))
