-- The codes along the code's tree.
use Rattle.std.proofs.Common.{◌≡◌, ℕ, suc, ◌+◌, ◌<◌, ◌≤◌, Bool, true, false, List, [], ◌∷◌, ◌++◌, map, drop, length, get_or, nat_eq, Vec, Box, Global, ◌==◌, refl, sym, ap, ap₂, ◌∙◌, arith}
use Rattle.std.proofs.lemmas.Bool.{eqb-true}
use Rattle.std.proofs.lemmas.List.{drop_more}
use Rattle.ir_plain.specs.Tree as m
use Rattle.ir_mono.specs.Types as table
use Rattle.ir_mono.specs.Mono.{mono, Mono}
use Rattle.ir_first.specs.Tree as out
use Rattle.flow_sets.specs.Flow.{Flow, number_of}
use Rattle.plain_tree.specs.declared.tree.Parameter.{Parameter}
use Rattle.plain_tree.specs.declared.tree.Binding.{Binding}
use Rattle.plain_tree.specs.declared.tree.Operation.{Operation}
use Rattle.plain_tree.specs.declared.tree.Operation.TheVariants as op
use Rattle.plain_tree.specs.declared.tree.Exp.{Exp}
use Rattle.plain_tree.specs.declared.tree.Exp.TheVariants as exp
use Rattle.plain_tree.specs.declared.tree.Step.{Step}
use Rattle.plain_tree.specs.declared.tree.Step.TheVariants as step
use Rattle.plain_tree.specs.declared.tree.Arm.{Arm}
use Rattle.plain_tree.specs.declared.tree.Function.{Function}
use Rattle.plain_tree.specs.declared.tree.Case.{Case}
use Rattle.plain_tree.specs.declared.tree.Exception.{Exception}
use Rattle.plain_tree.specs.TreeOf.{StepTree, let_step, exception_step, name_step, rec_step, test_step, counted_step, ArmTree, FunctionTree, put, onto, firsts, fun_of, operation_of}
use Rattle.mono_bound.specs.Reads.{reading, mono_of}
use Rattle.closure_convert.specs.Scope.{Member, Table}
use Rattle.closure_convert.specs.Closed.{members, leader}
use Rattle.closure_bodies.specs.of_capture_table.Told.{first_parameter}
use Rattle.first_tree.specs.declared.tree.Fun as made
use Rattle.first_tree.specs.TreeOf as made_tree
use Rattle.closure_meaning.specs.Convert.{Numbering, codes, codes_arms, codes_op, codes_fun, codes_funs}
use Rattle.closure_bodies.specs.of_closure_steps.Reads.{mono_step, arms_in, mono_function, functions_in}
use Rattle.closure_bodies.proofs.of_closure_steps.Rolls.{tree-steps, tree-ret, tree-switch, tree-first, tree-miss, step-let, step-fn, step-block, step-handle, step-exception, step-name, step-group, step-test, step-counted, arm-parts, function-parts}
use Rattle.closure_bodies.proofs.of_closure_steps.Members.{number-first}
use Rattle.closure_bodies.proofs.of_closure_parts.Putting.{all-behind}
use Rattle.closure_first.specs.Codes.{Before, Adds, in_order, last_first, lead, giving, taking, heads, alone, group_codes, front, back}
use Rattle.closure_first.proofs.Adding.{adds-then, adds-as}

module _ (n : Numbering) (types : List table.Row) (strings : List (List ℕ)) (F : Flow) (T : Table) where
  abbrev f : Exp → Mono types
  f = mono_of types strings

  abbrev pub of_exp : Exp → Before
  of_exp e = codes n types F T (f e)

  abbrev pub of_front : Step → Before
  of_front s = front n types F T (mono_step types strings s)

  abbrev pub of_back : Step → Before
  of_back s = back n types F T (mono_step types strings s)

  abbrev pub of_arm : Arm → Before
  of_arm a = codes n types F T (f a.body)

  -- expressions

  put-codes : (t : StepTree (mono types)) (e : Mono types) (cs : List out.Fun) → codes n types F T (put t e) cs ≡ front n types F T t (codes n types F T e (back n types F T t cs))
  put-codes (let_step x ps t o) e cs = refl
  put-codes (exception_step x i t) e cs = refl
  put-codes (name_step x y) e cs = refl
  put-codes (rec_step ps fs) e cs = refl
  put-codes (test_step a u c others) e cs = refl
  put-codes (counted_step k) e cs = refl

  onto-codes : (ss : List Step) (e : Mono types) (cs : List out.Fun)
      → codes n types F T (onto (map (mono_step types strings) ss) e) cs ≡ in_order of_front ss (codes n types F T e (last_first of_back ss cs))
  onto-codes [] e cs = refl
  onto-codes (s ∷ ss) e cs =
      put-codes (mono_step types strings s) (onto (map (mono_step types strings) ss) e) cs ∙ ap (of_front s) (onto-codes ss e (of_back s cs))

  firsts-codes : (es : List Exp) (d : Mono types) (cs : List out.Fun) → codes n types F T (firsts (map f es) d) cs ≡ in_order of_exp es (codes n types F T d cs)
  firsts-codes [] d cs = refl
  firsts-codes (e ∷ es) d cs = ap (of_exp e) (firsts-codes es d cs)

  pub arms-codes : (as_ : List Arm) (cs : List out.Fun) → codes_arms n types F T (arms_in types strings as_) cs ≡ in_order of_arm as_ cs
  arms-codes [] cs = refl
  arms-codes (a ∷ as_) cs =
      ap (λ (r : ArmTree (mono types)). codes n types F T r.body (codes_arms n types F T (arms_in types strings as_) cs)) (arm-parts (reading types strings) a)
      ∙ ap (of_arm a) (arms-codes as_ cs)

  pub steps-node : (e : Exp) (ss : Vec Step Global) (r : Box Exp Global) (taken last : List Step) (rest : Exp) (old one two new : List made.Fun) → e ≡ exp.Steps ss r → taken ≡ ss.items → rest ≡ r.value → last ≡ ss.items
      → Adds old one (in_order of_front taken) → Adds one two (of_exp rest) → Adds two new (last_first of_back last) → Adds old new (of_exp e)
  steps-node e ss r taken last rest old one two new is a c b p q k cs =
      ap (λ l. map made_tree.fun_of old ++ l)
      (ap (λ v. codes n types F T v cs) (ap f is ∙ tree-steps (reading types strings) ss r) ∙ onto-codes ss.items (f r.value) cs
      ∙ ap₂ (λ l v. in_order of_front l (of_exp v (last_first of_back ss.items cs))) (sym a) (sym c) ∙ ap (λ l. in_order of_front taken (of_exp rest (last_first of_back l cs))) (sym b))
      ∙ p (of_exp rest (last_first of_back last cs)) ∙ q (last_first of_back last cs) ∙ k cs

  pub ret-node : (e : Exp) (a : ℕ) (cs : List out.Fun) → e ≡ exp.Ret a → of_exp e cs ≡ cs
  ret-node e a cs is = ap (λ v. codes n types F T v cs) (ap f is ∙ tree-ret (reading types strings) a)

  pub miss-node : (e : Exp) (cs : List out.Fun) → e ≡ exp.Miss → of_exp e cs ≡ cs
  miss-node e cs is = ap (λ v. codes n types F T v cs) (ap f is ∙ tree-miss (reading types strings))

  pub switch-node : (e : Exp) (a u : ℕ) (arms : Vec Arm Global) (taken : List Arm) (old new : List made.Fun) → e ≡ exp.Switch a u arms → taken ≡ arms.items
      → Adds old new (codes_arms n types F T (arms_in types strings taken)) → Adds old new (of_exp e)
  switch-node e a u arms taken old new is k h =
      adds-as old new (codes_arms n types F T (arms_in types strings taken)) (of_exp e)
      (λ cs. ap (λ v. codes n types F T v cs) (ap f is ∙ tree-switch (reading types strings) a u arms) ∙ ap (λ l. codes_arms n types F T (arms_in types strings l) cs) (sym k)) h

  pub first-node : (e : Exp) (es : Vec Exp Global) (d : Box Exp Global) (taken : List Exp) (last : Exp) (old now new : List made.Fun) → e ≡ exp.First es d → taken ≡ es.items → last ≡ d.value
      → Adds old now (in_order of_exp taken) → Adds now new (of_exp last) → Adds old new (of_exp e)
  first-node e es d taken last old now new is a c p q =
      adds-as old new (λ cs. in_order of_exp taken (of_exp last cs)) (of_exp e)
      (λ cs. ap (λ v. codes n types F T v cs) (ap f is ∙ tree-first (reading types strings) es d) ∙ firsts-codes es.items (f d.value) cs ∙ ap₂ (λ l v. in_order of_exp l (of_exp v cs)) (sym a) (sym c))
      (adds-then old now new (in_order of_exp taken) (of_exp last) p q)

  -- functions

  pub fun-codes : (q : Bool) (g : ℕ) (ms : List Member) (ys : List Parameter) (x : Parameter) (e : Mono types) (cs : List out.Fun)
      → codes_fun n types F T q g ms (fun_of (reading types strings) ys x e) cs ≡ heads n types F T q g ms (fun_of (reading types strings) ys x e) (codes n types F T e cs)
  fun-codes q g ms [] x e cs = refl
  fun-codes q g ms (y ∷ ys) x e cs =
      ap (λ l. giving n types F T q g ms y.variable (number_of types (fun_of (reading types strings) ys x e)) ∷ l)
      (fun-codes true (number_of types (fun_of (reading types strings) ys x e)) [] ys x e cs)

  pub fun-pushed : (q : Bool) (g : ℕ) (ms : List Member) (ys : List Parameter) (x : Parameter) (e : Exp) (old now new : List made.Fun)
      → Adds old now (heads n types F T q g ms (fun_of (reading types strings) ys x (f e))) → Adds now new (of_exp e) → Adds old new (codes_fun n types F T q g ms (fun_of (reading types strings) ys x (f e)))
  fun-pushed q g ms ys x e old now new p k =
      adds-as old new (λ cs. heads n types F T q g ms (fun_of (reading types strings) ys x (f e)) (of_exp e cs)) (codes_fun n types F T q g ms (fun_of (reading types strings) ys x (f e)))
      (fun-codes q g ms ys x (f e)) (adds-then old now new (heads n types F T q g ms (fun_of (reading types strings) ys x (f e))) (of_exp e) p k)

  pub alone-pushed : (g : ℕ) (ys : List Parameter) (x : Parameter) (e : Exp) (old now new : List made.Fun) → g ≡ first_parameter ys x
      → Adds old now (heads n types F T true g [] (fun_of (reading types strings) ys x (f e))) → Adds now new (of_exp e)
      → Adds old new (codes_fun n types F T true (first_parameter ys x) [] (fun_of (reading types strings) ys x (f e)))
  alone-pushed g ys x e old now new is p k =
      adds-as old new (codes_fun n types F T true g [] (fun_of (reading types strings) ys x (f e))) (codes_fun n types F T true (first_parameter ys x) [] (fun_of (reading types strings) ys x (f e)))
      (λ cs. ap (λ j. codes_fun n types F T true j [] (fun_of (reading types strings) ys x (f e)) cs) (sym is)) (fun-pushed true g [] ys x e old now new p k)

  -- a function of several parameters

  pub heads-alone : (ys : List Parameter) (x : Parameter) (e : Mono types) (cs : List out.Fun)
      → heads n types F T true (number_of types (fun_of (reading types strings) ys x e)) [] (fun_of (reading types strings) ys x e) cs ≡ alone n types F T strings ys x e cs
  heads-alone ys x e cs = ap (λ k. heads n types F T true k [] (fun_of (reading types strings) ys x e) cs) (number-first types strings ys x e)

  pub heads-first : (q : Bool) (g : ℕ) (ms : List Member) (y : Parameter) (ys : List Parameter) (x : Parameter) (e : Mono types) (cs : List out.Fun)
      → heads n types F T q g ms (fun_of (reading types strings) (y ∷ ys) x e) cs ≡ giving n types F T q g ms y.variable (first_parameter ys x) ∷ alone n types F T strings ys x e cs
  heads-first q g ms y ys x e cs =
      ap₂ (λ k l. giving n types F T q g ms y.variable k ∷ l) (number-first types strings ys x e) (heads-alone ys x e cs)

  abbrev pub CurriedSoFar : List Parameter → Parameter → (old now : List made.Fun) (i : ℕ) → Type 0
  CurriedSoFar ys x old now i =
      (e : Mono types) (cs : List out.Fun) → map made_tree.fun_of old ++ alone n types F T strings ys x e cs ≡ map made_tree.fun_of now ++ alone n types F T strings (drop i ys) x e cs

  pub curried-next : (ys : List Parameter) (x : Parameter) (i : ℕ) (y d : Parameter) (k next : ℕ) (old now new : List made.Fun) → i < length ys → y ≡ get_or ys i d → k ≡ y.variable
      → next ≡ first_parameter (drop (i + 1) ys) x → Adds now new (λ cs. giving n types F T true k [] k next ∷ cs) → CurriedSoFar ys x old now i → CurriedSoFar ys x old new (i + 1)
  curried-next ys x i y d k next old now new lt is v w h inv e cs =
      inv e cs ∙ ap (λ l. map made_tree.fun_of now ++ alone n types F T strings l x e cs) (drop_more ys i d lt ∙ ap (λ z. z ∷ drop (i + 1) ys) (sym is))
      ∙ ap (λ l. map made_tree.fun_of now ++ l) (heads-first true y.variable [] y (drop (i + 1) ys) x e cs)
      ∙ ap₂ (λ a b. map made_tree.fun_of now ++ giving n types F T true a [] a b ∷ alone n types F T strings (drop (i + 1) ys) x e cs) (sym v) (sym w)
      ∙ h (alone n types F T strings (drop (i + 1) ys) x e cs)

  pub curried-done : (ys : List Parameter) (x : Parameter) (i : ℕ) (old now : List made.Fun) → length ys ≤ i → CurriedSoFar ys x old now i
      → (e : Mono types) (cs : List out.Fun) → map made_tree.fun_of old ++ alone n types F T strings ys x e cs ≡ map made_tree.fun_of now ++ taking n types F T true x.variable [] x.variable e ∷ cs
  curried-done ys x i old now le inv e cs = inv e cs ∙ ap (λ l. map made_tree.fun_of now ++ alone n types F T strings l x e cs) (all-behind ys i le)

  pub empty-is : (ys : List Parameter) (b : Bool) → b ≡ (length ys == 0) → b ≡ true → ys ≡ []
  empty-is [] b e t = refl
  empty-is (y ∷ ys) b e t = absurd (let q = eqb-true (suc (length ys)) 0 (sym e ∙ t) in omega (arith, q))

  pub heads-one : (q : Bool) (g : ℕ) (ms : List Member) (ys : List Parameter) (x : Parameter) (e : Exp) (old new : List made.Fun) → ys ≡ []
      → Adds old new (λ cs. taking n types F T q g ms x.variable (f e) ∷ cs) → Adds old new (heads n types F T q g ms (fun_of (reading types strings) ys x (f e)))
  heads-one q g ms ys x e old new z =
      adds-as old new (λ cs. taking n types F T q g ms x.variable (f e) ∷ cs) (heads n types F T q g ms (fun_of (reading types strings) ys x (f e)))
      (λ cs. ap (λ l. heads n types F T q g ms (fun_of (reading types strings) l x (f e)) cs) z)

  pub heads-more : (q : Bool) (g : ℕ) (ms : List Member) (ys rest : List Parameter) (y x : Parameter) (e : Exp) (k next : ℕ) (old one two new : List made.Fun) → ys ≡ y ∷ rest → k ≡ y.variable
      → next ≡ first_parameter rest x → Adds old one (λ cs. giving n types F T q g ms k next ∷ cs)
      → ((d : Mono types) (cs : List out.Fun) → map made_tree.fun_of one ++ alone n types F T strings rest x d cs ≡ map made_tree.fun_of two ++ taking n types F T true x.variable [] x.variable d ∷ cs)
      → Adds two new (λ cs. taking n types F T true x.variable [] x.variable (f e) ∷ cs) → Adds old new (heads n types F T q g ms (fun_of (reading types strings) ys x (f e)))
  heads-more q g ms ys rest y x e k next old one two new is v w p a b cs =
      ap (λ l. map made_tree.fun_of old ++ l)
      (ap (λ l. heads n types F T q g ms (fun_of (reading types strings) l x (f e)) cs) is ∙ heads-first q g ms y rest x (f e) cs
      ∙ ap₂ (λ i j. giving n types F T q g ms i j ∷ alone n types F T strings rest x (f e) cs) (sym v) (sym w))
      ∙ p (alone n types F T strings rest x (f e) cs) ∙ a (f e) cs ∙ b cs

  -- groups

  leads : (fs : m.Funs (mono types)) → leader types fs ≡ lead (members types fs)
  leads m.no_funs = refl
  leads (m.fun x t g fs) = refl

  abbrev pub GroupSoFar : List Function → (g : ℕ) (ms : List Member) (old now : List made.Fun) (i : ℕ) → Type 0
  GroupSoFar fs g ms old now i =
      (cs : List out.Fun) → map made_tree.fun_of old ++ codes_funs n types F T true g ms (functions_in types strings fs) cs
      ≡ map made_tree.fun_of now ++ codes_funs n types F T (nat_eq i 0) g ms (functions_in types strings (drop i fs)) cs

  not-first : (i : ℕ) → nat_eq (i + 1) 0 ≡ false
  not-first i = by (nat_eq (i + 1) 0) refl
    where
      by : (b : Bool) → nat_eq (i + 1) 0 ≡ b → b ≡ false
      by true e = absurd (let q = eqb-true (i + 1) 0 e in omega (arith, q))
      by false e = refl

  pub group-next : (fs : List Function) (g : ℕ) (ms ns : List Member) (i : ℕ) (x d : Function) (q : Bool) (old now new : List made.Fun) → i < length fs → x ≡ get_or fs i d → q ≡ nat_eq i 0 → ns ≡ ms
      → Adds now new (codes_fun n types F T q g ns (mono_function types strings x).function) → GroupSoFar fs g ms old now i → GroupSoFar fs g ms old new (i + 1)
  group-next fs g ms ns i x d q old now new lt is b m h inv cs =
      inv cs ∙ ap (λ l. map made_tree.fun_of now ++ codes_funs n types F T (nat_eq i 0) g ms (functions_in types strings l) cs) (drop_more fs i d lt ∙ ap (λ z. z ∷ drop (i + 1) fs) (sym is))
      ∙ ap₂ (λ v l. map made_tree.fun_of now ++ codes_fun n types F T v g l (mono_function types strings x).function (codes_funs n types F T false g ms (functions_in types strings (drop (i + 1) fs)) cs)) (sym b) (sym m)
      ∙ h (codes_funs n types F T false g ms (functions_in types strings (drop (i + 1) fs)) cs)
      ∙ ap (λ v. map made_tree.fun_of new ++ codes_funs n types F T v g ms (functions_in types strings (drop (i + 1) fs)) cs) (sym (not-first i))

  pub group-done : (fs : List Function) (g : ℕ) (ms ns : List Member) (i : ℕ) (old now : List made.Fun) → length fs ≤ i → ms ≡ members types (functions_in types strings fs) → g ≡ lead ns → ns ≡ ms
      → GroupSoFar fs g ms old now i → Adds old now (group_codes n types F T (functions_in types strings fs))
  group-done fs g ms ns i old now le e l b inv =
      adds-as old now (codes_funs n types F T true g ms (functions_in types strings fs)) (group_codes n types F T (functions_in types strings fs))
      (λ cs. ap₂ (λ k ks. codes_funs n types F T true k ks (functions_in types strings fs) cs) (leads (functions_in types strings fs) ∙ sym (l ∙ ap lead (b ∙ e))) (sym e))
      (λ cs. inv cs ∙ ap (λ l. map made_tree.fun_of now ++ codes_funs n types F T (nat_eq i 0) g ms (functions_in types strings l) cs) (all-behind fs i le))

  pub member-pushed : (q : Bool) (g : ℕ) (ms : List Member) (x : Function) (ys : List Parameter) (old now new : List made.Fun) → ys ≡ x.parameters.items
      → Adds old now (heads n types F T q g ms (fun_of (reading types strings) ys x.last (f x.body))) → Adds now new (of_exp x.body)
      → Adds old new (codes_fun n types F T q g ms (mono_function types strings x).function)
  member-pushed q g ms x ys old now new a p k =
      adds-as old new (codes_fun n types F T q g ms (fun_of (reading types strings) ys x.last (f x.body))) (codes_fun n types F T q g ms (mono_function types strings x).function)
      (λ cs. ap (λ (r : FunctionTree (mono types)). codes_fun n types F T q g ms r.function cs) (function-parts (reading types strings) x)
      ∙ ap (λ l. codes_fun n types F T q g ms (fun_of (reading types strings) l x.last (f x.body)) cs) (sym a))
      (fun-pushed q g ms ys x.last x.body old now new p k)

  -- steps

  operation-none : (o : Operation) (cs : List out.Fun) → codes_op n types F T (operation_of (reading types strings) o) cs ≡ cs
  operation-none (op.Use x ts) cs = refl
  operation-none (op.Constant c) cs = refl
  operation-none (op.Constructor c a) cs = refl
  operation-none (op.Construct m c a k) cs = refl
  operation-none (op.Reference a) cs = refl
  operation-none (op.Refer m a k) cs = refl
  operation-none (op.Content a k) cs = refl
  operation-none (op.Pack m a x k) cs = refl
  operation-none (op.Record a fs) cs = refl
  operation-none (op.Select a l k) cs = refl
  operation-none (op.Primitive p a) cs = refl
  operation-none (op.Perform m p a as_) cs = refl
  operation-none (op.Apply place g k) cs = refl
  operation-none (op.Raise a) cs = refl
  operation-none (op.RaiseInitial i) cs = refl

  module _ (s : Step) (t : StepTree (mono types)) (is : mono_step types strings s ≡ t) where
    front-as : (cs : List out.Fun) → of_front s cs ≡ front n types F T t cs
    front-as cs = ap (λ v. front n types F T v cs) is

    back-as : (cs : List out.Fun) → of_back s cs ≡ back n types F T t cs
    back-as cs = ap (λ v. back n types F T v cs) is

  pub front-let : (s : Step) (b : Binding) (o : Operation) (cs : List out.Fun) → s ≡ step.Let b o → of_front s cs ≡ cs
  front-let s b o cs is = front-as s _ (ap (mono_step types strings) is ∙ step-let (reading types strings) b o) cs ∙ operation-none o cs

  pub front-exception : (s : Step) (x i : ℕ) (a : _) (cs : List out.Fun) → s ≡ step.Exception x i a → of_front s cs ≡ cs
  front-exception s x i a cs is = front-as s _ (ap (mono_step types strings) is ∙ step-exception (reading types strings) x i a) cs

  pub front-name : (s : Step) (x : ℕ) (y : Exception) (cs : List out.Fun) → s ≡ step.Name x y → of_front s cs ≡ cs
  front-name s x y cs is = front-as s _ (ap (mono_step types strings) is ∙ step-name (reading types strings) x y) cs

  pub front-test : (s : Step) (a u : ℕ) (c : Case) (others : Vec Arm Global) (cs : List out.Fun) → s ≡ step.Test a u c others → of_front s cs ≡ cs
  front-test s a u c others cs is = front-as s _ (ap (mono_step types strings) is ∙ step-test (reading types strings) a u c others) cs

  pub front-counted : (s : Step) (k : ℕ) (cs : List out.Fun) → s ≡ step.Counted k → of_front s cs ≡ cs
  front-counted s k cs is = front-as s _ (ap (mono_step types strings) is ∙ step-counted (reading types strings) k) cs

  pub front-fn : (s : Step) (b : Binding) (ys : Vec Parameter Global) (x : Parameter) (d : Box Exp Global) (taken : List Parameter) (e : Exp) (old new : List made.Fun) → s ≡ step.Fn b ys x d → taken ≡ ys.items → e ≡ d.value
      → Adds old new (codes_fun n types F T true (first_parameter taken x) [] (fun_of (reading types strings) taken x (f e))) → Adds old new (of_front s)
  front-fn s b ys x d taken e old new is a c =
      adds-as old new (codes_fun n types F T true (first_parameter taken x) [] (fun_of (reading types strings) taken x (f e))) (of_front s)
      (λ cs. front-as s _ (ap (mono_step types strings) is ∙ step-fn (reading types strings) b ys x d) cs
      ∙ ap (λ k. codes_fun n types F T true k [] (fun_of (reading types strings) ys.items x (f d.value)) cs) (number-first types strings ys.items x (f d.value))
      ∙ ap₂ (λ l v. codes_fun n types F T true (first_parameter l x) [] (fun_of (reading types strings) l x (f v)) cs) (sym a) (sym c))

  pub front-block : (s : Step) (b : Binding) (d : Box Exp Global) (e : Exp) (old new : List made.Fun) → s ≡ step.Block b d → e ≡ d.value → Adds old new (of_exp e) → Adds old new (of_front s)
  front-block s b d e old new is a =
      adds-as old new (of_exp e) (of_front s) (λ cs. front-as s _ (ap (mono_step types strings) is ∙ step-block (reading types strings) b d) cs ∙ ap (λ v. of_exp v cs) (sym a))

  pub front-handle : (s : Step) (b : Binding) (d : Box Exp Global) (y : ℕ) (w : Box Exp Global) (body handler : Exp) (old now new : List made.Fun) → s ≡ step.Handle b d y w → body ≡ d.value → handler ≡ w.value
      → Adds old now (of_exp body) → Adds now new (of_exp handler) → Adds old new (of_front s)
  front-handle s b d y w body handler old now new is a c p q =
      adds-as old new (λ cs. of_exp body (of_exp handler cs)) (of_front s)
      (λ cs. front-as s _ (ap (mono_step types strings) is ∙ step-handle (reading types strings) b d y w) cs ∙ ap₂ (λ u v. of_exp u (of_exp v cs)) (sym a) (sym c))
      (adds-then old now new (of_exp body) (of_exp handler) p q)

  pub front-group : (s : Step) (ps : ℕ) (fs : Vec Function Global) (taken : List Function) (old new : List made.Fun) → s ≡ step.Group ps fs → taken ≡ fs.items
      → Adds old new (group_codes n types F T (functions_in types strings taken)) → Adds old new (of_front s)
  front-group s ps fs taken old new is a =
      adds-as old new (group_codes n types F T (functions_in types strings taken)) (of_front s)
      (λ cs. front-as s _ (ap (mono_step types strings) is ∙ step-group (reading types strings) ps fs) cs ∙ ap (λ l. group_codes n types F T (functions_in types strings l) cs) (sym a))

  pub back-test : (s : Step) (a u : ℕ) (c : Case) (others : Vec Arm Global) (taken : List Arm) (old new : List made.Fun) → s ≡ step.Test a u c others → taken ≡ others.items
      → Adds old new (codes_arms n types F T (arms_in types strings taken)) → Adds old new (of_back s)
  back-test s a u c others taken old new is k =
      adds-as old new (codes_arms n types F T (arms_in types strings taken)) (of_back s)
      (λ cs. back-as s _ (ap (mono_step types strings) is ∙ step-test (reading types strings) a u c others) cs ∙ ap (λ l. codes_arms n types F T (arms_in types strings l) cs) (sym k))

  pub back-let : (s : Step) (b : Binding) (o : Operation) (cs : List out.Fun) → s ≡ step.Let b o → of_back s cs ≡ cs
  back-let s b o cs is = back-as s _ (ap (mono_step types strings) is ∙ step-let (reading types strings) b o) cs

  pub back-fn : (s : Step) (b : Binding) (ys : Vec Parameter Global) (x : Parameter) (d : Box Exp Global) (cs : List out.Fun) → s ≡ step.Fn b ys x d → of_back s cs ≡ cs
  back-fn s b ys x d cs is = back-as s _ (ap (mono_step types strings) is ∙ step-fn (reading types strings) b ys x d) cs

  pub back-block : (s : Step) (b : Binding) (d : Box Exp Global) (cs : List out.Fun) → s ≡ step.Block b d → of_back s cs ≡ cs
  back-block s b d cs is = back-as s _ (ap (mono_step types strings) is ∙ step-block (reading types strings) b d) cs

  pub back-handle : (s : Step) (b : Binding) (d : Box Exp Global) (y : ℕ) (w : Box Exp Global) (cs : List out.Fun) → s ≡ step.Handle b d y w → of_back s cs ≡ cs
  back-handle s b d y w cs is = back-as s _ (ap (mono_step types strings) is ∙ step-handle (reading types strings) b d y w) cs

  pub back-exception : (s : Step) (x i : ℕ) (a : _) (cs : List out.Fun) → s ≡ step.Exception x i a → of_back s cs ≡ cs
  back-exception s x i a cs is = back-as s _ (ap (mono_step types strings) is ∙ step-exception (reading types strings) x i a) cs

  pub back-name : (s : Step) (x : ℕ) (y : Exception) (cs : List out.Fun) → s ≡ step.Name x y → of_back s cs ≡ cs
  back-name s x y cs is = back-as s _ (ap (mono_step types strings) is ∙ step-name (reading types strings) x y) cs

  pub back-group : (s : Step) (ps : ℕ) (fs : Vec Function Global) (cs : List out.Fun) → s ≡ step.Group ps fs → of_back s cs ≡ cs
  back-group s ps fs cs is = back-as s _ (ap (mono_step types strings) is ∙ step-group (reading types strings) ps fs) cs

  pub back-counted : (s : Step) (k : ℕ) (cs : List out.Fun) → s ≡ step.Counted k → of_back s cs ≡ cs
  back-counted s k cs is = back-as s _ (ap (mono_step types strings) is ∙ step-counted (reading types strings) k) cs
