-- What is told along the code's tree is what `closure_convert` has of its clean tree.
use Rattle.std.proofs.Common.{◌≡◌, ℕ, Bool, true, false, ◌||◌, List, [], ◌∷◌, ◌++◌, map, nat_eq, if◌then◌else◌, refl, sym, ap, ap₂, ◌∙◌, subst}
use Rattle.std.proofs.lemmas.List.{append-nil}
use Rattle.ir_plain.specs.Tree as t
use Rattle.ir_mono.specs.Types as table
use Rattle.ir_mono.specs.Mono.{mono, Mono}
use Rattle.plain_tree.specs.declared.tree.Parameter.{Parameter}
use Rattle.plain_tree.specs.declared.tree.Case.{Case}
use Rattle.plain_tree.specs.declared.tree.Case.TheVariants as case
use Rattle.plain_tree.specs.declared.tree.Exception.{Exception}
use Rattle.plain_tree.specs.declared.tree.Exception.TheVariants as exception
use Rattle.plain_tree.specs.declared.tree.Operation.{Operation}
use Rattle.plain_tree.specs.declared.tree.Operation.TheVariants as op
use Rattle.plain_tree.specs.declared.tree.Exp.{Exp, Exp-F}
use Rattle.plain_tree.specs.declared.tree.Exp.TheFolds.{fold-roll-Exp, fold-roll-Step, fold-roll-Arm, fold-roll-Function, map-Exp, map-Step, map-Arm, map-Function, ind-Exp}
use Rattle.plain_tree.specs.declared.tree.Exp.TheViews.{roll-Exp, roll-Step, roll-Arm, roll-Function}
use Rattle.plain_tree.specs.declared.tree.Step.{Step, Step-F}
use Rattle.plain_tree.specs.declared.tree.Arm.{Arm, Arm-F}
use Rattle.plain_tree.specs.declared.tree.Function.{Function, Function-F}
use Rattle.plain_tree.specs.TreeOf.{Reading, StepTree, ArmTree, FunctionTree, put, onto, firsts, arms_of, funs_of, fun_of, case_of, exception_of, operation_of, tree_of, step_of, arm_of, function_of}
use Rattle.plain_tree.specs.TreeOf as tree
use Rattle.flow_sets.specs.Member.{is_in}
use Rattle.flow_sets.specs.Flow.{number_of}
use Rattle.closure_convert.specs.Scope.{Member, names, Scope, add, add_all, Piece, top}
use Rattle.closure_convert.specs.Closed.{scope_of, members, case_scope}
use Rattle.closure_convert.specs.Capture.{visible, kept, cut, Entry, occurs_name, occurs, occurs_arms, occurs_op, occurs_fun, occurs_funs, wanted, tabulate, tabulate_arms, tabulate_op, tabulate_fun, tabulate_funs}
use Rattle.capture_table.specs.Told.{operation_uses, name_uses, more, case_binds, Entries, used_in, Told, StepTold, FunctionTold, uses_of, steps_use, functions_use, all_tables, steps_table, members_told, functions_table, first_parameter, entry, function_table, exp_told, step_told, arm_told, function_told, node_exp, node_step, node_arm, node_function}
use Rattle.mono_bound.specs.Reads.{reading}

or-false : (a : Bool) → (a || false) ≡ a
or-false true = refl
or-false false = refl

or-comm : (a b : Bool) → (a || b) ≡ (b || a)
or-comm true true = refl
or-comm true false = refl
or-comm false true = refl
or-comm false false = refl

or-assoc : (a b c : Bool) → ((a || b) || c) ≡ (a || (b || c))
or-assoc true b c = refl
or-assoc false b c = refl

in-append : (y : ℕ) (xs ys : List ℕ) → is_in y (xs ++ ys) ≡ (is_in y xs || is_in y ys)
in-append y [] ys = refl
in-append y (x ∷ xs) ys = ap (λ b. nat_eq y x || b) (in-append y xs ys) ∙ sym (or-assoc (nat_eq y x) (is_in y xs) (is_in y ys))

kept-same : (p q : ℕ → Bool) (xs : List ℕ) → ((y : ℕ) → p y ≡ q y) → kept p xs ≡ kept q xs
kept-same p q [] h = refl
kept-same p q (x ∷ xs) h = ap₂ (λ (b : Bool) l. if b then x ∷ l else l) (h x) (kept-same p q xs h)

-- a text of which this is told uses these variables, and has these entries
module _ (types : List table.Row) (strings : List (List ℕ)) where
  abbrev R : Reading (mono types)
  R = reading types strings

  abbrev M : Type 0
  M = Mono types

  abbrev Uses : M → List ℕ → Type 0
  Uses e us = (y : ℕ) → occurs types y e ≡ is_in y us

  abbrev Tells : M → (Scope → Entries → Entries) → Type 0
  Tells e T = (s : Scope) (es : Entries) → tabulate types s e es ≡ T s es

  record IsTold (e : M) (us : List ℕ) (T : Scope → Entries → Entries) : Type 0 where
    uses : Uses e us
    table : Tells e T

  abbrev ExpAgrees : Exp → Type 0
  ExpAgrees e = IsTold (tree_of R e) (exp_told e).uses (exp_told e).table

  abbrev StepAgrees : Step → Type 0
  StepAgrees s = (e : M) (us : List ℕ) (T : Scope → Entries → Entries) → IsTold e us T
      → IsTold (put (step_of R s) e) ((step_told s).uses ++ us) (λ z es. (step_told s).front z (T (more (step_told s).binds z) ((step_told s).back z es)))

  record ArmIsTold (a : ArmTree (mono types)) (us : List ℕ) (T : Scope → Entries → Entries) : Type 0 where
    uses : Uses a.body us
    table : (s : Scope) (es : Entries) → tabulate types (case_scope types a.case s) a.body es ≡ T s es

  abbrev ArmAgrees : Arm → Type 0
  ArmAgrees a = ArmIsTold (arm_of R a) (arm_told a).uses (arm_told a).table

  record FunctionIsTold (g : FunctionTree (mono types)) (f : FunctionTold) : Type 0 where
    member : record { name = g.variable; number = number_of types g.function } ≡ f.member
    uses : (y : ℕ) → occurs_fun types y g.function ≡ is_in y f.uses
    table : (ps : List Piece) (cs : List ℕ) (ms : List Member) (es : Entries) → tabulate_fun types ps cs ms g.function es ≡ f.table ps cs ms es

  abbrev FunctionAgrees : Function → Type 0
  FunctionAgrees f = FunctionIsTold (function_of R f) (function_told f)

  -- lists

  steps-agree : (ss : List ((s : Step) × StepAgrees s)) (e : M) (us : List ℕ) (T : Scope → Entries → Entries) → IsTold e us T
      → IsTold (onto (map (step_of R) (map (λ p. p.0) ss)) e) (steps_use (map step_told (map (λ p. p.0) ss)) ++ us) (steps_table (map step_told (map (λ p. p.0) ss)) T)
  steps-agree [] e us T h = h
  steps-agree ((s, a) ∷ ss) e us T h =
      let r = steps-agree ss e us T h in
      let q = a (onto (map (step_of R) (map (λ p. p.0) ss)) e) (steps_use (map step_told (map (λ p. p.0) ss)) ++ us) (steps_table (map step_told (map (λ p. p.0) ss)) T) r in
      record { uses = λ y. q.uses y ∙ ap (is_in y) (sym (assoc (step_told s).uses (steps_use (map step_told (map (λ p. p.0) ss))) us)); table = q.table }
    where
      assoc : (a b c : List ℕ) → (a ++ b) ++ c ≡ a ++ (b ++ c)
      assoc [] b c = refl
      assoc (n ∷ a) b c = ap (λ l. n ∷ l) (assoc a b c)

  firsts-agree : (es : List ((e : Exp) × ExpAgrees e)) (d : M) (us : List ℕ) (T : Scope → Entries → Entries) → IsTold d us T
      → IsTold (firsts (map (tree_of R) (map (λ p. p.0) es)) d) (uses_of (map exp_told (map (λ p. p.0) es)) ++ us) (λ s l. all_tables (map exp_told (map (λ p. p.0) es)) s (T s l))
  firsts-agree [] d us T h = h
  firsts-agree ((e, a) ∷ es) d us T h =
      let r = firsts-agree es d us T h in
      let U = uses_of (map exp_told (map (λ p. p.0) es)) in
      record {
        uses = λ y. ap₂ (λ a b. a || b) (a.uses y) (r.uses y ∙ in-append y U us) ∙ sym (in-append y ((exp_told e).uses ++ U) us ∙ ap (λ b. b || is_in y us) (in-append y (exp_told e).uses U) ∙ or-assoc (is_in y (exp_told e).uses) (is_in y U) (is_in y us));
        table = λ s l. ap (tabulate types s (tree_of R e)) (r.table s l) ∙ a.table s (all_tables (map exp_told (map (λ p. p.0) es)) s (T s l));
      }

  record ArmsAreTold (arms : t.Arms (mono types)) (ts : List Told) : Type 0 where
    uses : (y : ℕ) → occurs_arms types y arms ≡ is_in y (uses_of ts)
    table : (s : Scope) (es : Entries) → tabulate_arms types s arms es ≡ all_tables ts s es

  arms-agree : (as_ : List ((a : Arm) × ArmAgrees a)) → ArmsAreTold (arms_of (map (arm_of R) (map (λ p. p.0) as_))) (map arm_told (map (λ p. p.0) as_))
  arms-agree [] = record { uses = λ y. refl; table = λ s es. refl }
  arms-agree ((a, h) ∷ as_) =
      let r = arms-agree as_ in
      record {
        uses = λ y. ap₂ (λ a b. a || b) (h.uses y) (r.uses y) ∙ sym (in-append y (arm_told a).uses (uses_of (map arm_told (map (λ p. p.0) as_))));
        table = λ s es. ap (tabulate types (case_scope types (arm_of R a).case s) (arm_of R a).body) (r.table s es) ∙ h.table s (all_tables (map arm_told (map (λ p. p.0) as_)) s es);
      }

  record FunctionsAreTold (fs : t.Funs (mono types)) (ts : List FunctionTold) : Type 0 where
    members_are : members types fs ≡ members_told ts
    uses : (y : ℕ) → occurs_funs types y fs ≡ is_in y (functions_use ts)
    table : (ps : List Piece) (cs : List ℕ) (ms : List Member) (es : Entries) → tabulate_funs types ps cs ms fs es ≡ functions_table ts ps cs ms es

  funs-agree : (fs : List ((f : Function) × FunctionAgrees f)) → FunctionsAreTold (funs_of (map (function_of R) (map (λ p. p.0) fs))) (map function_told (map (λ p. p.0) fs))
  funs-agree [] = record { members_are = refl; uses = λ y. refl; table = λ ps cs ms es. refl }
  funs-agree ((f, h) ∷ fs) =
      let r = funs-agree fs in
      record {
        members_are = ap₂ (λ m l. m ∷ l) h.member r.members_are;
        uses = λ y. ap₂ (λ a b. a || b) (h.uses y) (r.uses y) ∙ sym (in-append y (function_told f).uses (functions_use (map function_told (map (λ p. p.0) fs))));
        table = λ ps cs ms es. ap (tabulate_fun types ps cs ms (function_of R f).function) (r.table ps cs ms es) ∙ h.table ps cs ms (functions_table (map function_told (map (λ p. p.0) fs)) ps cs ms es);
      }

  -- functions

  fun-number : (xs : List Parameter) (x : Parameter) (e : M) → number_of types (fun_of R xs x e) ≡ first_parameter xs x
  fun-number [] x e = refl
  fun-number (y ∷ xs) x e = refl

  fun-uses : (xs : List Parameter) (x : Parameter) (e : M) (us : List ℕ) → Uses e us → (y : ℕ) → occurs_fun types y (fun_of R xs x e) ≡ is_in y us
  fun-uses [] x e us h y = h y
  fun-uses (z ∷ xs) x e us h y = fun-uses xs x e us h y

  wanted-is : (s : Scope) (f : t.Fun (mono types)) (us : List ℕ) → ((y : ℕ) → occurs_fun types y f ≡ is_in y us) → wanted types s f ≡ used_in s us
  wanted-is s f us h = kept-same (λ y. occurs_fun types y f) (λ y. is_in y us) (visible s) h

  fun-table : (xs : List Parameter) (x : Parameter) (e : M) (us : List ℕ) (T : Scope → Entries → Entries) → IsTold e us T → (ps : List Piece) (cs : List ℕ) (ms : List Member) (es : Entries)
      → tabulate_fun types ps cs ms (fun_of R xs x e) es ≡ function_table us xs x T ps cs ms es
  fun-table [] x e us T h ps cs ms es = ap (λ l. entry x.variable ps cs ∷ l) (h.table (scope_of cs ms x.variable) es)
  fun-table (z ∷ xs) x e us T h ps cs ms es =
      let s = scope_of cs ms z.variable in
      ap (λ l. entry z.variable ps cs ∷ l)
      (ap (λ w. tabulate_fun types (cut s w) w [] (fun_of R xs x e) es) (wanted-is s (fun_of R xs x e) us (fun-uses xs x e us h.uses))
      ∙ fun-table xs x e us T h (cut s (used_in s us)) (used_in s us) [] es)

  -- what has no expressions

  operation-uses : (o : Operation) (y : ℕ) → occurs_op types y (operation_of R o) ≡ is_in y (operation_uses o)
  operation-uses (op.Use x ts) y = sym (or-false (nat_eq y x))
  operation-uses (op.Constant c) y = refl
  operation-uses (op.Constructor c a) y = refl
  operation-uses (op.Construct m c a k) y = refl
  operation-uses (op.Reference a) y = refl
  operation-uses (op.Refer m a k) y = refl
  operation-uses (op.Content a k) y = refl
  operation-uses (op.Pack m a x k) y = refl
  operation-uses (op.Record a fs) y = refl
  operation-uses (op.Select a l k) y = refl
  operation-uses (op.Primitive p a) y = refl
  operation-uses (op.Perform m p a as_) y = refl
  operation-uses (op.Apply place f k) y = refl
  operation-uses (op.Raise a) y = refl
  operation-uses (op.RaiseInitial n) y = refl

  operation-table : (o : Operation) (s : Scope) (es : Entries) → tabulate_op types s (operation_of R o) es ≡ es
  operation-table (op.Use x ts) s es = refl
  operation-table (op.Constant c) s es = refl
  operation-table (op.Constructor c a) s es = refl
  operation-table (op.Construct m c a k) s es = refl
  operation-table (op.Reference a) s es = refl
  operation-table (op.Refer m a k) s es = refl
  operation-table (op.Content a k) s es = refl
  operation-table (op.Pack m a x k) s es = refl
  operation-table (op.Record a fs) s es = refl
  operation-table (op.Select a l k) s es = refl
  operation-table (op.Primitive p a) s es = refl
  operation-table (op.Perform m p a as_) s es = refl
  operation-table (op.Apply place f k) s es = refl
  operation-table (op.Raise a) s es = refl
  operation-table (op.RaiseInitial n) s es = refl

  name-uses : (x : Exception) (y : ℕ) → occurs_name types y (exception_of R x) ≡ is_in y (name_uses x)
  name-uses (exception.Initial n) y = refl
  name-uses (exception.Held x) y = sym (or-false (nat_eq y x))

  case-binds : (c : Case) (s : Scope) → case_scope types (case_of R c) s ≡ more (case_binds c) s
  case-binds (case.Constant c) s = refl
  case-binds (case.Constructor c) s = refl
  case-binds (case.ConstructorOf c x) s = refl
  case-binds (case.Exception a) s = refl
  case-binds (case.ExceptionOf a x) s = refl
  case-binds (case.Record size) s = refl

  all-binds : (xs : List ℕ) (s : Scope) → add_all xs s ≡ more xs s
  all-binds [] s = refl
  all-binds (x ∷ xs) s = ap (add x) (all-binds xs s)

  -- one let

  bind-agrees : (x u : ℕ) (o : t.Op (mono types)) (os : List ℕ) (F : Scope → Entries → Entries) → ((y : ℕ) → occurs_op types y o ≡ is_in y os) → ((s : Scope) (es : Entries) → tabulate_op types s o es ≡ F s es)
      → (e : M) (us : List ℕ) (T : Scope → Entries → Entries) → IsTold e us T → IsTold (t.let_in x tt u o e) (os ++ us) (λ s es. F s (T (more (x ∷ []) s) es))
  bind-agrees x u o os F ho hf e us T h = record {
    uses = λ y. ap₂ (λ a b. a || b) (ho y) (h.uses y) ∙ sym (in-append y os us);
    table = λ s es. hf s (tabulate types (add x s) e es) ∙ ap (F s) (h.table (add x s) es);
  }

  abbrev E : Type 0
  E = (e : Exp) × ExpAgrees e

  abbrev S : Type 0
  S = (s : Step) × StepAgrees s

  abbrev A : Type 0
  A = (a : Arm) × ArmAgrees a

  abbrev U : Type 0
  U = (f : Function) × FunctionAgrees f

  tree-rolls : (d : Exp-F Exp Step Arm Function) → tree_of R (roll-Exp d) ≡ tree.node_exp R (map-Exp Exp Step Arm Function M (StepTree (mono types)) (ArmTree (mono types)) (FunctionTree (mono types)) (tree_of R) (step_of R) (arm_of R) (function_of R) d)
  tree-rolls d = fold-roll-Exp M (StepTree (mono types)) (ArmTree (mono types)) (FunctionTree (mono types)) (tree.node_exp R) (tree.node_step R) (tree.node_arm R) (tree.node_function R) d

  step-rolls : (d : Step-F Exp Step Arm Function) → step_of R (roll-Step d) ≡ tree.node_step R (map-Step Exp Step Arm Function M (StepTree (mono types)) (ArmTree (mono types)) (FunctionTree (mono types)) (tree_of R) (step_of R) (arm_of R) (function_of R) d)
  step-rolls d = fold-roll-Step M (StepTree (mono types)) (ArmTree (mono types)) (FunctionTree (mono types)) (tree.node_exp R) (tree.node_step R) (tree.node_arm R) (tree.node_function R) d

  arm-rolls : (d : Arm-F Exp Step Arm Function) → arm_of R (roll-Arm d) ≡ tree.node_arm R (map-Arm Exp Step Arm Function M (StepTree (mono types)) (ArmTree (mono types)) (FunctionTree (mono types)) (tree_of R) (step_of R) (arm_of R) (function_of R) d)
  arm-rolls d = fold-roll-Arm M (StepTree (mono types)) (ArmTree (mono types)) (FunctionTree (mono types)) (tree.node_exp R) (tree.node_step R) (tree.node_arm R) (tree.node_function R) d

  function-rolls : (d : Function-F Exp Step Arm Function) → function_of R (roll-Function d) ≡ tree.node_function R (map-Function Exp Step Arm Function M (StepTree (mono types)) (ArmTree (mono types)) (FunctionTree (mono types)) (tree_of R) (step_of R) (arm_of R) (function_of R) d)
  function-rolls d = fold-roll-Function M (StepTree (mono types)) (ArmTree (mono types)) (FunctionTree (mono types)) (tree.node_exp R) (tree.node_step R) (tree.node_arm R) (tree.node_function R) d

  told-rolls : (d : Exp-F Exp Step Arm Function) → exp_told (roll-Exp d) ≡ node_exp (map-Exp Exp Step Arm Function Told StepTold Told FunctionTold exp_told step_told arm_told function_told d)
  told-rolls d = fold-roll-Exp Told StepTold Told FunctionTold node_exp node_step node_arm node_function d

  step-told-rolls : (d : Step-F Exp Step Arm Function) → step_told (roll-Step d) ≡ node_step (map-Step Exp Step Arm Function Told StepTold Told FunctionTold exp_told step_told arm_told function_told d)
  step-told-rolls d = fold-roll-Step Told StepTold Told FunctionTold node_exp node_step node_arm node_function d

  arm-told-rolls : (d : Arm-F Exp Step Arm Function) → arm_told (roll-Arm d) ≡ node_arm (map-Arm Exp Step Arm Function Told StepTold Told FunctionTold exp_told step_told arm_told function_told d)
  arm-told-rolls d = fold-roll-Arm Told StepTold Told FunctionTold node_exp node_step node_arm node_function d

  function-told-rolls : (d : Function-F Exp Step Arm Function) → function_told (roll-Function d) ≡ node_function (map-Function Exp Step Arm Function Told StepTold Told FunctionTold exp_told step_told arm_told function_told d)
  function-told-rolls d = fold-roll-Function Told StepTold Told FunctionTold node_exp node_step node_arm node_function d

  abbrev down : Exp-F E S A U → Exp-F Exp Step Arm Function
  down y = map-Exp E S A U Exp Step Arm Function (λ e. e.0) (λ e. e.0) (λ e. e.0) (λ e. e.0) y

  exp-agrees : (y : Exp-F E S A U)
      → (λ (d : Exp-F Exp Step Arm Function). (λ (r : Told). IsTold (tree.node_exp R (map-Exp Exp Step Arm Function M (StepTree (mono types)) (ArmTree (mono types)) (FunctionTree (mono types)) (tree_of R) (step_of R) (arm_of R) (function_of R) d)) r.uses r.table)
      (node_exp (map-Exp Exp Step Arm Function Told StepTold Told FunctionTold exp_told step_told arm_told function_told d))) (map-Exp E S A U Exp Step Arm Function (λ e. e.0) (λ e. e.0) (λ e. e.0) (λ e. e.0) y)
  exp-agrees (Exp-F.Steps ss e) = steps-agree ss.items (tree_of R e.value.0) (exp_told e.value.0).uses (exp_told e.value.0).table e.value.1
  exp-agrees (Exp-F.Ret a) = record { uses = λ y. refl; table = λ s es. refl }
  exp-agrees (Exp-F.Switch a u arms) = let r = arms-agree arms.items in record { uses = r.uses; table = r.table }
  exp-agrees (Exp-F.First es d) = firsts-agree es.items (tree_of R d.value.0) (exp_told d.value.0).uses (exp_told d.value.0).table d.value.1
  exp-agrees Exp-F.Miss = record { uses = λ y. refl; table = λ s es. refl }

  exp-case : (y : Exp-F E S A U) → ExpAgrees (roll-Exp (map-Exp E S A U Exp Step Arm Function (λ e. e.0) (λ e. e.0) (λ e. e.0) (λ e. e.0) y))
  exp-case y =
      subst (λ (e : M). IsTold e (exp_told (roll-Exp (down y))).uses (exp_told (roll-Exp (down y))).table) (sym (tree-rolls (down y)))
      (subst (λ (r : Told). IsTold (tree.node_exp R (map-Exp Exp Step Arm Function M (StepTree (mono types)) (ArmTree (mono types)) (FunctionTree (mono types)) (tree_of R) (step_of R) (arm_of R) (function_of R) (down y))) r.uses r.table) (sym (told-rolls (down y))) (exp-agrees y))

  abbrev down-step : Step-F E S A U → Step-F Exp Step Arm Function
  down-step y = map-Step E S A U Exp Step Arm Function (λ e. e.0) (λ e. e.0) (λ e. e.0) (λ e. e.0) y

  abbrev StepIsTold : StepTree (mono types) → StepTold → Type 0
  StepIsTold s r = (e : M) (us : List ℕ) (T : Scope → Entries → Entries) → IsTold e us T → IsTold (put s e) (r.uses ++ us) (λ z es. r.front z (T (more r.binds z) (r.back z es)))

  step-agrees : (y : Step-F E S A U)
      → (λ (d : Step-F Exp Step Arm Function). StepIsTold (tree.node_step R (map-Step Exp Step Arm Function M (StepTree (mono types)) (ArmTree (mono types)) (FunctionTree (mono types)) (tree_of R) (step_of R) (arm_of R) (function_of R) d))
      (node_step (map-Step Exp Step Arm Function Told StepTold Told FunctionTold exp_told step_told arm_told function_told d))) (map-Step E S A U Exp Step Arm Function (λ e. e.0) (λ e. e.0) (λ e. e.0) (λ e. e.0) y)
  step-agrees (Step-F.Let b o) e us T h = bind-agrees b.variable b.ty (operation_of R o) (operation_uses o) (λ s es. es) (operation-uses o) (operation-table o) e us T h
  step-agrees (Step-F.Fn b xs x e') e us T h =
      let d = tree_of R e'.value.0 in
      let r = exp_told e'.value.0 in
      bind-agrees b.variable b.ty (t.fn (fun_of R xs.items x d)) r.uses (λ s. function_table r.uses xs.items x r.table (cut s (used_in s r.uses)) (used_in s r.uses) []) (fun-uses xs.items x d r.uses e'.value.1.uses)
      (λ s es. ap (λ w. tabulate_fun types (cut s w) w [] (fun_of R xs.items x d) es) (wanted-is s (fun_of R xs.items x d) r.uses (fun-uses xs.items x d r.uses e'.value.1.uses))
      ∙ fun-table xs.items x d r.uses r.table e'.value.1 (cut s (used_in s r.uses)) (used_in s r.uses) [] es) e us T h
  step-agrees (Step-F.Block b e') e us T h =
      bind-agrees b.variable b.ty (t.block (tree_of R e'.value.0)) (exp_told e'.value.0).uses (exp_told e'.value.0).table e'.value.1.uses e'.value.1.table e us T h
  step-agrees (Step-F.Handle b e' x d) e us T h =
      let r = exp_told e'.value.0 in
      let q = exp_told d.value.0 in
      bind-agrees b.variable b.ty (t.handle (tree_of R e'.value.0) x (tree_of R d.value.0)) (r.uses ++ q.uses) (λ s es. r.table s (q.table (more (x ∷ []) s) es))
      (λ y. ap₂ (λ a b. a || b) (e'.value.1.uses y) (d.value.1.uses y) ∙ sym (in-append y r.uses q.uses))
      (λ s es. e'.value.1.table s (tabulate types (add x s) (tree_of R d.value.0) es) ∙ ap (r.table s) (d.value.1.table (add x s) es)) e us T h
  step-agrees (Step-F.Exception x i a) e us T h = record { uses = h.uses; table = λ s es. h.table (add x s) es }
  step-agrees (Step-F.Name x y) e us T h = record { uses = λ z. ap₂ (λ a b. a || b) (name-uses y z) (h.uses z) ∙ sym (in-append z (name_uses y) us); table = λ s es. h.table (add x s) es }
  step-agrees (Step-F.Group ps fs) e us T h =
      let r = funs-agree fs.items in
      let ts = map function_told (map (λ p. p.0) fs.items) in
      let gs = funs_of (map (function_of R) (map (λ p. p.0) fs.items)) in
      record {
        uses = λ y. ap₂ (λ a b. a || b) (r.uses y) (h.uses y) ∙ sym (in-append y (functions_use ts) us);
        table = λ s es.
            ap (λ w. tabulate_funs types (cut s w) w (members types gs) gs (tabulate types (add_all (names (members types gs)) s) e es)) (kept-same (λ y. occurs_funs types y gs) (λ y. is_in y (functions_use ts)) (visible s) r.uses)
            ∙ ap (λ m. tabulate_funs types (cut s (used_in s (functions_use ts))) (used_in s (functions_use ts)) m gs (tabulate types (add_all (names m) s) e es)) r.members_are
            ∙ r.table (cut s (used_in s (functions_use ts))) (used_in s (functions_use ts)) (members_told ts) (tabulate types (add_all (names (members_told ts)) s) e es)
            ∙ ap (functions_table ts (cut s (used_in s (functions_use ts))) (used_in s (functions_use ts)) (members_told ts))
            (ap (λ z. tabulate types z e es) (all-binds (names (members_told ts)) s) ∙ h.table (more (names (members_told ts)) s) es);
      }
  step-agrees (Step-F.Test a u c others) e us T h =
      let r = arms-agree others.items in
      let ts = map arm_told (map (λ p. p.0) others.items) in
      let gs = arms_of (map (arm_of R) (map (λ p. p.0) others.items)) in
      record {
        uses = λ y. ap₂ (λ a b. a || b) (h.uses y) (r.uses y) ∙ or-comm (is_in y us) (is_in y (uses_of ts)) ∙ sym (in-append y (uses_of ts) us);
        table = λ s es. ap₂ (λ z l. tabulate types z e l) (case-binds c s) (r.table s es) ∙ h.table (more (case_binds c) s) (all_tables ts s es);
      }
  step-agrees (Step-F.Counted n) e us T h = record { uses = h.uses; table = h.table }

  step-case : (y : Step-F E S A U) → StepAgrees (roll-Step (map-Step E S A U Exp Step Arm Function (λ e. e.0) (λ e. e.0) (λ e. e.0) (λ e. e.0) y))
  step-case y =
      subst (λ (s : StepTree (mono types)). StepIsTold s (step_told (roll-Step (down-step y)))) (sym (step-rolls (down-step y)))
      (subst (λ (r : StepTold). StepIsTold (tree.node_step R (map-Step Exp Step Arm Function M (StepTree (mono types)) (ArmTree (mono types)) (FunctionTree (mono types)) (tree_of R) (step_of R) (arm_of R) (function_of R) (down-step y))) r) (sym (step-told-rolls (down-step y))) (step-agrees y))

  abbrev down-arm : Arm-F E S A U → Arm-F Exp Step Arm Function
  down-arm y = map-Arm E S A U Exp Step Arm Function (λ e. e.0) (λ e. e.0) (λ e. e.0) (λ e. e.0) y

  arm-case : (y : Arm-F E S A U) → ArmAgrees (roll-Arm (map-Arm E S A U Exp Step Arm Function (λ e. e.0) (λ e. e.0) (λ e. e.0) (λ e. e.0) y))
  arm-case y =
      subst (λ (a : ArmTree (mono types)). ArmIsTold a (arm_told (roll-Arm (down-arm y))).uses (arm_told (roll-Arm (down-arm y))).table) (sym (arm-rolls (down-arm y)))
      (subst (λ (r : Told). ArmIsTold (record { case = case_of R y.case; body = tree_of R y.body.0 }) r.uses r.table) (sym (arm-told-rolls (down-arm y)))
      (record { uses = y.body.1.uses; table = λ s es. ap (λ z. tabulate types z (tree_of R y.body.0) es) (case-binds y.case s) ∙ y.body.1.table (more (case_binds y.case) s) es }))

  abbrev down-function : Function-F E S A U → Function-F Exp Step Arm Function
  down-function y = map-Function E S A U Exp Step Arm Function (λ e. e.0) (λ e. e.0) (λ e. e.0) (λ e. e.0) y

  function-case : (y : Function-F E S A U) → FunctionAgrees (roll-Function (map-Function E S A U Exp Step Arm Function (λ e. e.0) (λ e. e.0) (λ e. e.0) (λ e. e.0) y))
  function-case y =
      let d = tree_of R y.body.0 in
      let r = exp_told y.body.0 in
      subst (λ (g : FunctionTree (mono types)). FunctionIsTold g (function_told (roll-Function (down-function y)))) (sym (function-rolls (down-function y)))
      (subst (λ (f : FunctionTold). FunctionIsTold (record { variable = y.variable; type = y.ty; function = fun_of R y.parameters.items y.last d }) f) (sym (function-told-rolls (down-function y)))
      (record {
        member = ap (λ n. record { name = y.variable; number = n }) (fun-number y.parameters.items y.last d);
        uses = fun-uses y.parameters.items y.last d r.uses y.body.1.uses;
        table = fun-table y.parameters.items y.last d r.uses r.table y.body.1;
      }))

  told-agrees : (e : Exp) → ExpAgrees e
  told-agrees = ind-Exp ExpAgrees StepAgrees ArmAgrees FunctionAgrees
      (λ x y is. subst (λ x. ExpAgrees (roll-Exp x)) is (exp-case y))
      (λ x y is. subst (λ x. StepAgrees (roll-Step x)) is (step-case y))
      (λ x y is. subst (λ x. ArmAgrees (roll-Arm x)) is (arm-case y))
      (λ x y is. subst (λ x. FunctionAgrees (roll-Function x)) is (function-case y))

  pub table-agrees : (e : Exp) → tabulate types top (tree_of R e) [] ≡ (exp_told e).table top []
  table-agrees e = (told-agrees e).table top []

-- what the walk found in all
pub captured-all : (types : List table.Row) (strings : List (List ℕ)) (e : Exp) (old new : List Entry) (s : Scope) → old ≡ [] → s ≡ top → ((es : Entries) → old ++ (exp_told e).table s es ≡ new ++ es) → new ≡ tabulate types top (tree_of (reading types strings) e) []
captured-all types strings e old new s o z h =
    sym (append-nil new) ∙ sym (h []) ∙ ap₂ (λ l k. l ++ (exp_told e).table k []) o z ∙ sym (table-agrees types strings e)
