-- Constants that are held, part by part.
use Rattle.std.proofs.Common.{◌≡◌, ℕ, zero, suc, ◌+◌, ◌<◌, ◌≤◌, List, [], ◌∷◌, ◌++◌, map, take, length, get_or, slice_get, slice_index_or, Option, Some, Vec, Box, Global, refl, sym, ap, subst, ◌∙◌}
use Rattle.std.specs.List.{AllByRecursion}
use Rattle.std.proofs.lemmas.List.{take_more}
use Rattle.ir_mono.specs.Types as table
use Rattle.ir_mono.specs.Mono.{mono, Mono}
use Rattle.ir_tables.specs.Tables.{string_at, literal_at}
use Rattle.ir_tables.specs.declared.tables.Constant.{Constant}
use Rattle.ir_tables.specs.declared.tables.Constant.TheVariants as constant
use Rattle.plain_tree.specs.declared.tree.Parameter.{Parameter}
use Rattle.plain_tree.specs.declared.tree.Binding.{Binding}
use Rattle.plain_tree.specs.declared.tree.Operation.{Operation}
use Rattle.plain_tree.specs.declared.tree.Exp.{Exp}
use Rattle.plain_tree.specs.declared.tree.Exp.TheVariants as exp
use Rattle.plain_tree.specs.declared.tree.Step.{Step}
use Rattle.plain_tree.specs.declared.tree.Step.TheVariants as step
use Rattle.plain_tree.specs.declared.tree.Arm.{Arm}
use Rattle.plain_tree.specs.declared.tree.Function.{Function}
use Rattle.plain_tree.specs.declared.tree.Case.{Case}
use Rattle.plain_tree.specs.declared.tree.Exception.{Exception}
use Rattle.plain_tree.specs.TreeOf.{StepTree, let_step, exception_step, name_step, rec_step, test_step, counted_step, put, onto, firsts, arms_of, funs_of, fun_of, operation_of, case_of}
use Rattle.mono_bound.specs.Reads.{reading, mono_of}
use Rattle.closure_bodies.specs.of_closure_whole.Constants.{IsHeld, CaseHeld, AreHeld, ArmsHeld, OpHeld, FunHeld, FunsHeld}
use Rattle.closure_bodies.specs.of_closure_steps.Reads.{mono_step, mono_arm, mono_function}
use Rattle.closure_bodies.proofs.of_closure_steps.Rolls.{tree-steps, tree-ret, tree-switch, tree-first, tree-miss, step-let, step-fn, step-block, step-handle, step-exception, step-name, step-group, step-test, step-counted, arm-parts, function-parts}
use Rattle.closure_bodies.proofs.of_closure_parts.Putting.{all-before}
use Rattle.closure_first.specs.Held.{IsByte, AreBytes, HasEmpty, StepHeld, ArmHeld, MemberHeld}

-- lists

module _ {A : Type 0} (P : A → Type 0) where
  all-last : (xs : List A) (x : A) → AllByRecursion P xs → P x → AllByRecursion P (xs ++ x ∷ [])
  all-last [] x h p = (p, tt)
  all-last (y ∷ xs) x h p = (h.0, all-last xs x h.1 p)

  pub all-next : (xs : List A) (i : ℕ) (x d : A) → i < length xs → x ≡ get_or xs i d → P x → AllByRecursion P (take i xs) → AllByRecursion P (take (i + 1) xs)
  all-next xs i x d lt is p h = subst (AllByRecursion P) (sym (take_more xs i d lt ∙ ap (λ y. take i xs ++ y ∷ []) (sym is))) (all-last (take i xs) x h p)

  pub all-done : (xs : List A) (i : ℕ) → length xs ≤ i → AllByRecursion P (take i xs) → AllByRecursion P xs
  all-done xs i le h = subst (AllByRecursion P) (all-before xs i le) h

-- strings

abbrev pub TextIsBytes : Vec ℕ Global → Type 0
TextIsBytes t = AllByRecursion IsByte t.items

pub texts-held : (ss : List (Vec ℕ Global)) → AllByRecursion TextIsBytes ss → AreBytes (map (λ t. t.items) ss)
texts-held [] h = tt
texts-held (s ∷ ss) h = (h.0, texts-held ss h.1)

either : (ss : List (List ℕ)) (k : ℕ) (T : Type 0) → ((i : ℕ) → slice_get ss i ≡ Some (slice_index_or ss k []) → T) → (slice_index_or ss k [] ≡ [] → T) → T
either [] k T a b = b refl
either (s ∷ ss) zero T a b = a 0 refl
either (s ∷ ss) (suc k) T a b = either ss k T (λ i e. a (suc i) e) b

string-held : (strings : List (List ℕ)) (k : ℕ) → HasEmpty strings → (i : ℕ) × (slice_get strings i ≡ Some (string_at strings k))
string-held strings k e = either strings k ((i : ℕ) × (slice_get strings i ≡ Some (string_at strings k))) (λ i h. (i, h)) (λ z. (e.0, e.1 ∙ ap Some (sym z)))

pub text-held : (strings : List (List ℕ)) (c : Constant) (k : ℕ) → c ≡ constant.Text k → HasEmpty strings → IsHeld strings (literal_at strings c)
text-held strings c k is e = subst (λ v. IsHeld strings (literal_at strings v)) (sym is) (string-held strings k e)

module _ (types : List table.Row) (strings : List (List ℕ)) where
  abbrev f : Exp → Mono types
  f = mono_of types strings

  abbrev S : Step → Type 0
  S s = StepHeld strings (mono_step types strings s)

  abbrev A : Arm → Type 0
  A a = ArmHeld strings (mono_arm types strings a)

  abbrev U : Function → Type 0
  U g = MemberHeld strings (mono_function types strings g)

  -- expressions

  put-held : (t : StepTree (mono types)) (e : Mono types) → StepHeld strings t → AreHeld strings e → AreHeld strings (put t e)
  put-held (let_step x ps u o) e h k = (h, k)
  put-held (exception_step x i u) e h k = k
  put-held (name_step x y) e h k = k
  put-held (rec_step ps fs) e h k = (h, k)
  put-held (test_step a u c others) e h k = (h.0, (k, h.1))
  put-held (counted_step n) e h k = k

  onto-held : (ss : List Step) (e : Mono types) → AllByRecursion S ss → AreHeld strings e → AreHeld strings (onto (map (mono_step types strings) ss) e)
  onto-held [] e h k = k
  onto-held (s ∷ ss) e h k = put-held (mono_step types strings s) (onto (map (mono_step types strings) ss) e) h.0 (onto-held ss e h.1 k)

  firsts-held : (es : List Exp) (d : Mono types) → AllByRecursion (λ e. AreHeld strings (f e)) es → AreHeld strings d → AreHeld strings (firsts (map f es) d)
  firsts-held [] d h k = k
  firsts-held (e ∷ es) d h k = (h.0, firsts-held es d h.1 k)

  arms-held : (as_ : List Arm) → AllByRecursion A as_ → ArmsHeld strings (arms_of (map (mono_arm types strings) as_))
  arms-held [] h = tt
  arms-held (a ∷ as_) h = (h.0.0, (h.0.1, arms-held as_ h.1))

  funs-held : (fs : List Function) → AllByRecursion U fs → FunsHeld strings (funs_of (map (mono_function types strings) fs))
  funs-held [] h = tt
  funs-held (g ∷ fs) h = (h.0, funs-held fs h.1)

  fun-held : (ys : List Parameter) (x : Parameter) (e : Mono types) → AreHeld strings e → FunHeld strings (fun_of (reading types strings) ys x e)
  fun-held [] x e h = h
  fun-held (y ∷ ys) x e h = fun-held ys x e h

  exp-as : (e : Exp) (t : Mono types) → f e ≡ t → AreHeld strings t → AreHeld strings (f e)
  exp-as e t is h = subst (AreHeld strings) (sym is) h

  pub steps-node : (e : Exp) (ss : Vec Step Global) (r : Box Exp Global) (taken : List Step) (rest : Exp) → e ≡ exp.Steps ss r → taken ≡ ss.items → rest ≡ r.value → AllByRecursion S taken → AreHeld strings (f rest)
      → AreHeld strings (f e)
  steps-node e ss r taken rest is a c h k =
      exp-as e _ (ap f is ∙ tree-steps (reading types strings) ss r) (onto-held ss.items (f r.value) (subst (AllByRecursion S) a h) (subst (λ v. AreHeld strings (f v)) c k))

  pub ret-node : (e : Exp) (a : ℕ) → e ≡ exp.Ret a → AreHeld strings (f e)
  ret-node e a is = exp-as e _ (ap f is ∙ tree-ret (reading types strings) a) tt

  pub miss-node : (e : Exp) → e ≡ exp.Miss → AreHeld strings (f e)
  miss-node e is = exp-as e _ (ap f is ∙ tree-miss (reading types strings)) tt

  pub switch-node : (e : Exp) (a u : ℕ) (arms : Vec Arm Global) (taken : List Arm) → e ≡ exp.Switch a u arms → taken ≡ arms.items → AllByRecursion A taken → AreHeld strings (f e)
  switch-node e a u arms taken is k h = exp-as e _ (ap f is ∙ tree-switch (reading types strings) a u arms) (arms-held arms.items (subst (AllByRecursion A) k h))

  pub first-node : (e : Exp) (es : Vec Exp Global) (d : Box Exp Global) (taken : List Exp) (last : Exp) → e ≡ exp.First es d → taken ≡ es.items → last ≡ d.value
      → AllByRecursion (λ e. AreHeld strings (f e)) taken → AreHeld strings (f last) → AreHeld strings (f e)
  first-node e es d taken last is a c h k =
      exp-as e _ (ap f is ∙ tree-first (reading types strings) es d)
      (firsts-held es.items (f d.value) (subst (AllByRecursion (λ e. AreHeld strings (f e))) a h) (subst (λ v. AreHeld strings (f v)) c k))

  -- steps

  step-as : (s : Step) (t : StepTree (mono types)) → mono_step types strings s ≡ t → StepHeld strings t → S s
  step-as s t is h = subst (StepHeld strings) (sym is) h

  pub let-held : (s : Step) (b : Binding) (o taken : Operation) → s ≡ step.Let b o → taken ≡ o → OpHeld strings (operation_of (reading types strings) taken) → S s
  let-held s b o taken is k h =
      step-as s _ (ap (mono_step types strings) is ∙ step-let (reading types strings) b o) (subst (λ v. OpHeld strings (operation_of (reading types strings) v)) k h)

  pub fn-held : (s : Step) (b : Binding) (ys : Vec Parameter Global) (x : Parameter) (d : Box Exp Global) (e : Exp) → s ≡ step.Fn b ys x d → e ≡ d.value → AreHeld strings (f e) → S s
  fn-held s b ys x d e is c h =
      step-as s _ (ap (mono_step types strings) is ∙ step-fn (reading types strings) b ys x d) (fun-held ys.items x (f d.value) (subst (λ v. AreHeld strings (f v)) c h))

  pub block-held : (s : Step) (b : Binding) (d : Box Exp Global) (e : Exp) → s ≡ step.Block b d → e ≡ d.value → AreHeld strings (f e) → S s
  block-held s b d e is c h = step-as s _ (ap (mono_step types strings) is ∙ step-block (reading types strings) b d) (subst (λ v. AreHeld strings (f v)) c h)

  pub handle-held : (s : Step) (b : Binding) (d : Box Exp Global) (y : ℕ) (w : Box Exp Global) (body handler : Exp) → s ≡ step.Handle b d y w → body ≡ d.value → handler ≡ w.value
      → AreHeld strings (f body) → AreHeld strings (f handler) → S s
  handle-held s b d y w body handler is a c h k =
      step-as s _ (ap (mono_step types strings) is ∙ step-handle (reading types strings) b d y w) (subst (λ v. AreHeld strings (f v)) a h, subst (λ v. AreHeld strings (f v)) c k)

  pub exception-held : (s : Step) (x i : ℕ) (a : Option ℕ) → s ≡ step.Exception x i a → S s
  exception-held s x i a is = step-as s _ (ap (mono_step types strings) is ∙ step-exception (reading types strings) x i a) tt

  pub name-held : (s : Step) (x : ℕ) (y : Exception) → s ≡ step.Name x y → S s
  name-held s x y is = step-as s _ (ap (mono_step types strings) is ∙ step-name (reading types strings) x y) tt

  pub group-held : (s : Step) (ps : ℕ) (fs : Vec Function Global) (taken : List Function) → s ≡ step.Group ps fs → taken ≡ fs.items → AllByRecursion U taken → S s
  group-held s ps fs taken is k h = step-as s _ (ap (mono_step types strings) is ∙ step-group (reading types strings) ps fs) (funs-held fs.items (subst (AllByRecursion U) k h))

  pub test-held : (s : Step) (a u : ℕ) (c : Case) (others : Vec Arm Global) (taken : List Arm) → s ≡ step.Test a u c others → taken ≡ others.items
      → CaseHeld strings (case_of (reading types strings) c) → AllByRecursion A taken → S s
  test-held s a u c others taken is k h j =
      step-as s _ (ap (mono_step types strings) is ∙ step-test (reading types strings) a u c others) (h, arms-held others.items (subst (AllByRecursion A) k j))

  pub counted-held : (s : Step) (k : ℕ) → s ≡ step.Counted k → S s
  counted-held s k is = step-as s _ (ap (mono_step types strings) is ∙ step-counted (reading types strings) k) tt

  pub arm-held : (a : Arm) → CaseHeld strings (case_of (reading types strings) a.case) → AreHeld strings (f a.body) → A a
  arm-held a h k = subst (ArmHeld strings) (sym (arm-parts (reading types strings) a)) (h, k)

  pub member-held : (g : Function) → AreHeld strings (f g.body) → U g
  member-held g h = subst (MemberHeld strings) (sym (function-parts (reading types strings) g)) (fun-held g.parameters.items g.last (f g.body) h)
