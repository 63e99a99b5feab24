-- What each node becomes.
use Rattle.std.proofs.Common.{◌≡◌, ℕ, ◌+◌, List, [], ◌∷◌, false, Vec, Global, refl, sym, ap, ap₂, ◌∙◌}
use Rattle.ir_plain.specs.Tree as t
use Rattle.ir_mono.specs.Types as table
use Rattle.ir_mono.specs.Mono.{mono, Mono}
use Rattle.plain_tree.specs.declared.tree.Parameter.{Parameter}
use Rattle.plain_tree.specs.declared.tree.Case.{Case}
use Rattle.plain_tree.specs.declared.tree.Case.TheVariants as case
use Rattle.plain_tree.specs.declared.tree.Step.{Step}
use Rattle.plain_tree.specs.declared.tree.Step.TheVariants as step
use Rattle.plain_tree.specs.declared.tree.Arm.{Arm}
use Rattle.plain_tree.specs.declared.tree.Function.{Function}
use Rattle.plain_tree.specs.TreeOf.{FunctionTree, fun_of, case_of}
use Rattle.mono_bound.specs.Reads.{reading, mono_of}
use Rattle.eta_expand.specs.Expand.{Names, case_names, group_names, news, fun_news, funs_news, expand, expand_fun, expand_funs}
use Rattle.eta_parts.specs.Reads.{mono_step}
use Rattle.eta_code.specs.Scopes.{with_case, with_parameters, with_functions}
use Rattle.eta_code.specs.Steps.{binds, expand_group, group_news, expand_arm, arm_news, expand_member, mono_arm, mono_function, functions_in}
use Rattle.eta_parts.proofs.Rolls.{step-group, arm-parts, function-parts}

module _ (types : List table.Row) (strings : List (List ℕ)) where
  -- scopes

  pub case-scope : (c : Case) (N : Names) → with_case c N ≡ case_names types (case_of (reading types strings) c) N
  case-scope (case.Constant c) N = refl
  case-scope (case.Constructor c) N = refl
  case-scope (case.ConstructorOf c x) N = refl
  case-scope (case.Exception a) N = refl
  case-scope (case.ExceptionOf a x) N = refl
  case-scope (case.Record size) N = refl

  pub group-scope : (fs : List Function) (N : Names) → with_functions fs N ≡ group_names types (functions_in types strings fs) N
  group-scope [] N = refl
  group-scope (f ∷ fs) N = ap₂ (λ x l. (x, false) ∷ l) (sym (ap (λ (r : FunctionTree (mono types)). r.variable) (function-parts (reading types strings) f))) (group-scope fs N)

  pub fun-made : (ys : List Parameter) (x : Parameter) (e : Mono types) (N : Names) (n : ℕ)
      → fun_of (reading types strings) ys x (expand types (with_parameters ys x N) n e) ≡ expand_fun types N n (fun_of (reading types strings) ys x e)
  fun-made [] x e N n = refl
  fun-made (y ∷ ys) x e N n = ap (t.more y.variable y.ty) (fun-made ys x e ((y.variable, false) ∷ N) n)

  pub fun-counted : (ys : List Parameter) (x : Parameter) (e : Mono types) (N : Names) → news types (with_parameters ys x N) e ≡ fun_news types N (fun_of (reading types strings) ys x e)
  fun-counted [] x e N = refl
  fun-counted (y ∷ ys) x e N = fun-counted ys x e ((y.variable, false) ∷ N)

  pub function-made : (ys : List Parameter) (x : Parameter) (e made : Mono types) (N M : Names) (n : ℕ) → M ≡ with_parameters ys x N → made ≡ expand types M n e
      → fun_of (reading types strings) ys x made ≡ expand_fun types N n (fun_of (reading types strings) ys x e)
  function-made ys x e made N M n k h = ap (fun_of (reading types strings) ys x) (h ∙ ap (λ v. expand types v n e) k) ∙ fun-made ys x e N n

  pub function-counted : (ys : List Parameter) (x : Parameter) (e : Mono types) (N M : Names) (n n' : ℕ) → M ≡ with_parameters ys x N → n' ≡ n + news types M e → n' ≡ n + fun_news types N (fun_of (reading types strings) ys x e)
  function-counted ys x e N M n n' k h = h ∙ ap (λ v. n + v) (ap (λ v. news types v e) k ∙ fun-counted ys x e N)

  -- arms and members

  pub arm-made : (a made : Arm) (N M : Names) (n : ℕ) → made.case ≡ a.case → M ≡ with_case a.case N → mono_of types strings made.body ≡ expand types M n (mono_of types strings a.body)
      → mono_arm types strings made ≡ expand_arm types N n (mono_arm types strings a)
  arm-made a made N M n c k h =
      arm-parts (reading types strings) made
      ∙ ap₂ (λ v e. record { case = case_of (reading types strings) v; body = e }) c (h ∙ ap (λ v. expand types v n (mono_of types strings a.body)) (k ∙ case-scope a.case N))
      ∙ ap (expand_arm types N n) (sym (arm-parts (reading types strings) a))

  pub arm-counted : (a : Arm) (N M : Names) (n n' : ℕ) → M ≡ with_case a.case N → n' ≡ n + news types M (mono_of types strings a.body) → n' ≡ n + arm_news types N (mono_arm types strings a)
  arm-counted a N M n n' k h = h ∙ ap (λ v. n + v) (ap (λ v. news types v (mono_of types strings a.body)) (k ∙ case-scope a.case N) ∙ ap (arm_news types N) (sym (arm-parts (reading types strings) a)))

  pub member-made : (f made : Function) (N : Names) (n : ℕ) → made.variable ≡ f.variable → made.ty ≡ f.ty → made.parameters.items ≡ f.parameters.items → made.last ≡ f.last
      → fun_of (reading types strings) f.parameters.items f.last (mono_of types strings made.body) ≡ expand_fun types N n (fun_of (reading types strings) f.parameters.items f.last (mono_of types strings f.body))
      → mono_function types strings made ≡ expand_member types N n (mono_function types strings f)
  member-made f made N n v u p l h =
      function-parts (reading types strings) made
      ∙ ap₂ (λ x y. record { variable = x; type = y; function = fun_of (reading types strings) made.parameters.items made.last (mono_of types strings made.body) }) v u
      ∙ ap (λ g. record { variable = f.variable; type = f.ty; function = g }) (ap₂ (λ ys x. fun_of (reading types strings) ys x (mono_of types strings made.body)) p l ∙ h)
      ∙ ap (expand_member types N n) (sym (function-parts (reading types strings) f))

  pub group-binds : (s : Step) (ps : ℕ) (fs : Vec Function Global) (taken : List Function) (N M : Names) → s ≡ step.Group ps fs → taken ≡ fs.items → M ≡ with_functions taken N → M ≡ binds types (mono_step types strings s) N
  group-binds s ps fs taken N M is k h = h ∙ group-scope taken N ∙ ap (λ l. group_names types (functions_in types strings l) N) k ∙ ap (λ v. binds types v N) (sym (ap (mono_step types strings) is ∙ step-group (reading types strings) ps fs))

  pub group-made : (fs : List Function) (made : t.Funs (mono types)) (N M : Names) (n : ℕ) → M ≡ with_functions fs N → made ≡ expand_funs types M n (functions_in types strings fs) → made ≡ expand_group types N n (functions_in types strings fs)
  group-made fs made N M n k h = h ∙ ap (λ v. expand_funs types v n (functions_in types strings fs)) (k ∙ group-scope fs N)

  pub group-counted : (fs : List Function) (N M : Names) (n n' : ℕ) → M ≡ with_functions fs N → n' ≡ n + funs_news types M (functions_in types strings fs) → n' ≡ n + group_news types N (functions_in types strings fs)
  group-counted fs N M n n' k h = h ∙ ap (λ v. n + funs_news types v (functions_in types strings fs)) (k ∙ group-scope fs N)
