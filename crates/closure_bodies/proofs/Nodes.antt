-- What each node becomes.
use Rattle.std.proofs.Common.{◌≡◌, ℕ, Bool, true, false, List, [], ◌∷◌, map, take, drop, length, Option, Vec, Box, Global, refl, sym, ap, ap₂, ◌∙◌}
use Rattle.mlc_base.specs.declared.place.Place.{Place}
use Rattle.ir_plain.specs.Tree as m
use Rattle.ir_mono.specs.Types as table
use Rattle.ir_mono.specs.Mono.{mono, Mono}
use Rattle.ir_first.specs.Tree as out
use Rattle.first_values.specs.Operations as op
use Rattle.flow_sets.specs.Flow.{Flow}
use Rattle.plain_tree.specs.declared.tree.Parameter.{Parameter}
use Rattle.plain_tree.specs.declared.tree.Binding.{Binding}
use Rattle.plain_tree.specs.declared.tree.Case.{Case}
use Rattle.plain_tree.specs.declared.tree.Exception.{Exception}
use Rattle.plain_tree.specs.declared.tree.Operation.{Operation}
use Rattle.plain_tree.specs.declared.tree.Exp.{Exp}
use Rattle.plain_tree.specs.declared.tree.Exp.TheVariants as exp
use Rattle.plain_tree.specs.declared.tree.Step.{Step}
use Rattle.plain_tree.specs.declared.tree.Step.TheVariants as step
use Rattle.plain_tree.specs.declared.tree.Arm.{Arm}
use Rattle.plain_tree.specs.declared.tree.Function.{Function}
use Rattle.plain_tree.specs.TreeOf.{StepTree, onto, firsts, case_of, fun_of, exception_of, operation_of}
use Rattle.mono_bound.specs.Reads.{reading, mono_of}
use Rattle.closure_convert.specs.Scope.{Scope, Table, add}
use Rattle.closure_convert.specs.Closed.{members, case_scope}
use Rattle.closure_steps.specs.of_capture_table.Told.{first_parameter}
use Rattle.first_tree.specs.declared.tree.Exp.{Exp as Made}
use Rattle.first_tree.specs.declared.tree.Exp.TheVariants as made
use Rattle.first_tree.specs.declared.tree.Step.{Step as MadeStep}
use Rattle.first_tree.specs.TreeOf.{tree_of}
use Rattle.closure_meaning.specs.Convert.{Numbering, var, convert, cases, con_arms, convert_op, making, name_of, group_in}
use Rattle.closure_steps.specs.Reads.{mono_step, steps_in, arms_in, functions_in}
use Rattle.closure_steps.proofs.Rolls as mono_rolls
use Rattle.closure_steps.specs.of_closure_parts.Puts.{before, Puts}
use Rattle.closure_steps.proofs.of_closure_parts.Rolls.{tree-steps, tree-ret, tree-miss}
use Rattle.closure_steps.proofs.of_closure_parts.Putting.{puts-as}
use Rattle.closure_steps.specs.Cases.{is_test, is_constructor, test_in, tested_in, tag_in, opened}
use Rattle.closure_steps.specs.Steps.{all_behind, switched, stepped, all_stepped}
use Rattle.closure_steps.proofs.Switching.{switched-test, switched-constructor, switched-all}
use Rattle.closure_steps.proofs.Members.{number-first}
use Rattle.closure_steps.proofs.Stepping.{steps-converted}
use Rattle.closure_bodies.specs.Made.{body_made}

module _ (n : Numbering) (types : List table.Row) (strings : List (List ℕ)) (F : Flow) (T : Table) where
  abbrev f : Exp → Mono types
  f = mono_of types strings

  abbrev to : Scope → Mono types → out.Exp
  to = convert n types F T

  -- expressions

  pub steps-node : (e : Exp) (ss : Vec Step Global) (r : Box Exp Global) (taken : List Step) (rest : Exp) (s now : Scope) (none : List MadeStep) (new : Vec MadeStep Global) (end : Box Made Global) → e ≡ exp.Steps ss r
      → taken ≡ ss.items → rest ≡ r.value → none ≡ [] → now ≡ all_behind types (steps_in types strings taken) s → Puts none new.items (all_stepped n types F T s (steps_in types strings taken)) → tree_of end.value ≡ to now (f rest)
      → tree_of (made.Steps new end) ≡ to s (f e)
  steps-node e ss r taken rest s now none new end is a c z b p h =
      tree-steps new end ∙ p (tree_of end.value) ∙ ap (λ l. before l (all_stepped n types F T s (steps_in types strings taken) (tree_of end.value))) z
      ∙ ap (all_stepped n types F T s (steps_in types strings taken)) (h ∙ ap (λ v. to v (f rest)) b) ∙ sym (steps-converted n types F T (steps_in types strings taken) s (f rest))
      ∙ ap (to s) (sym (ap f is ∙ mono_rolls.tree-steps (reading types strings) ss r ∙ ap₂ (λ l v. onto (steps_in types strings l) (f v)) (sym a) (sym c)))

  pub ret-node : (e : Exp) (a x : ℕ) (s : Scope) → e ≡ exp.Ret a → x ≡ var a → tree_of (made.Ret x) ≡ to s (f e)
  ret-node e a x s is h = tree-ret x ∙ ap out.ret h ∙ ap (to s) (sym (ap f is ∙ mono_rolls.tree-ret (reading types strings) a))

  pub miss-node : (e : Exp) (s : Scope) → e ≡ exp.Miss → tree_of made.Miss ≡ to s (f e)
  miss-node e s is = tree-miss ∙ ap (to s) (sym (ap f is ∙ mono_rolls.tree-miss (reading types strings)))

  pub switch-node : (e : Exp) (a u : ℕ) (arms : Vec Arm Global) (taken : List Arm) (s : Scope) (new : out.Exp) → e ≡ exp.Switch a u arms → taken ≡ arms.items → new ≡ cases n types F T s a u (arms_in types strings taken) → new ≡ to s (f e)
  switch-node e a u arms taken s new is k h =
      h ∙ ap (λ l. cases n types F T s a u (arms_in types strings l)) k ∙ ap (to s) (sym (ap f is ∙ mono_rolls.tree-switch (reading types strings) a u arms))

  pub first-node : (e : Exp) (es : Vec Exp Global) (d : Box Exp Global) (taken : List Exp) (last : Exp) (s now : Scope) (none : List MadeStep) (new : Vec MadeStep Global) (end : Box Made Global) → e ≡ exp.First es d → taken ≡ es.items → last ≡ d.value
      → none ≡ [] → now ≡ s → ((d : Mono types) → before new.items (to s d) ≡ before none (to s (firsts (map f taken) d))) → tree_of end.value ≡ to now (f last) → tree_of (made.Steps new end) ≡ to s (f e)
  first-node e es d taken last s now none new end is a c z b p h =
      tree-steps new end ∙ ap (before new.items) (h ∙ ap (λ v. to v (f last)) b) ∙ p (f last) ∙ ap (λ l. before l (to s (firsts (map f taken) (f last)))) z
      ∙ ap (to s) (sym (ap f is ∙ mono_rolls.tree-first (reading types strings) es d ∙ ap₂ (λ l v. firsts (map f l) (f v)) (sym a) (sym c)))

  -- steps

  module _ (s : Scope) (st : Step) (old new : List MadeStep) where
    abbrev put : StepTree (mono types) → out.Exp → out.Exp
    put = stepped n types F T s

    puts-step : (t : StepTree (mono types)) (g : out.Exp → out.Exp) → mono_step types strings st ≡ t → ((e : out.Exp) → g e ≡ put t e) → Puts old new g → Puts old new (put (mono_step types strings st))
    puts-step t g is h = puts-as old new g (put (mono_step types strings st)) (λ e. h e ∙ ap (λ v. put v e) (sym is))

    pub let-step : (b : Binding) (o taken : Operation) → st ≡ step.Let b o → taken ≡ o → Puts old new (convert_op n types F T s b.variable (operation_of (reading types strings) taken)) → Puts old new (put (mono_step types strings st))
    let-step b o taken is k =
        puts-step _ (convert_op n types F T s b.variable (operation_of (reading types strings) taken)) (ap (mono_step types strings) is ∙ mono_rolls.step-let (reading types strings) b o)
        (λ e. ap (λ v. convert_op n types F T s b.variable (operation_of (reading types strings) v) e) k)

    pub fn-step : (b : Binding) (ys : Vec Parameter Global) (x : Parameter) (d : Box Exp Global) (taken : List Parameter) (i k : ℕ) → st ≡ step.Fn b ys x d → taken ≡ ys.items → i ≡ var b.variable → k ≡ first_parameter taken x
        → Puts old new (making n types F T s i k) → Puts old new (put (mono_step types strings st))
    fn-step b ys x d taken i k is a v w =
        puts-step _ (making n types F T s i k) (ap (mono_step types strings) is ∙ mono_rolls.step-fn (reading types strings) b ys x d)
        (λ e. ap₂ (λ j l. making n types F T s j l e) v (w ∙ ap (λ l. first_parameter l x) a ∙ sym (number-first types strings ys.items x (f d.value))))

    pub block-step : (b : Binding) (d : Box Exp Global) (taken : Exp) (i : ℕ) (o : out.Exp) → st ≡ step.Block b d → taken ≡ d.value → i ≡ var b.variable → o ≡ to s (f taken) → Puts old new (out.let_in i (out.block o)) → Puts old new (put (mono_step types strings st))
    block-step b d taken i o is a v h =
        puts-step _ (out.let_in i (out.block o)) (ap (mono_step types strings) is ∙ mono_rolls.step-block (reading types strings) b d) (λ e. ap₂ (λ j l. out.let_in j (out.block l) e) v (h ∙ ap (λ l. to s (f l)) a))

    pub handle-step : (b : Binding) (d : Box Exp Global) (y : ℕ) (w : Box Exp Global) (body handler : Exp) → st ≡ step.Handle b d y w → body ≡ d.value → handler ≡ w.value
        → Puts old new (out.let_in (var b.variable) (out.handle (to s (f body)) (var y) (to (add y s) (f handler)))) → Puts old new (put (mono_step types strings st))
    handle-step b d y w body handler is a c =
        puts-step _ (out.let_in (var b.variable) (out.handle (to s (f body)) (var y) (to (add y s) (f handler)))) (ap (mono_step types strings) is ∙ mono_rolls.step-handle (reading types strings) b d y w)
        (λ e. ap₂ (λ j l. out.let_in (var b.variable) (out.handle (to s (f j)) (var y) (to (add y s) (f l))) e) a c)

    pub exception-step : (x i : ℕ) (t : Option ℕ) → st ≡ step.Exception x i t → Puts old new (out.let_in (var x) (out.plain (op.exception i) [])) → Puts old new (put (mono_step types strings st))
    exception-step x i t is = puts-step _ (out.let_in (var x) (out.plain (op.exception i) [])) (ap (mono_step types strings) is ∙ mono_rolls.step-exception (reading types strings) x i t) (λ e. refl)

    pub name-step : (x : ℕ) (y : Exception) → st ≡ step.Name x y → Puts old new (out.let_in (var x) (name_of n types F T s (exception_of (reading types strings) y))) → Puts old new (put (mono_step types strings st))
    name-step x y is =
        puts-step _ (out.let_in (var x) (name_of n types F T s (exception_of (reading types strings) y))) (ap (mono_step types strings) is ∙ mono_rolls.step-name (reading types strings) x y) (λ e. refl)

    pub group-step : (ps : ℕ) (fs : Vec Function Global) (taken : List Function) → st ≡ step.Group ps fs → taken ≡ fs.items → Puts old new (group_in n types F T s (members types (functions_in types strings taken))) → Puts old new (put (mono_step types strings st))
    group-step ps fs taken is a =
        puts-step _ (group_in n types F T s (members types (functions_in types strings taken))) (ap (mono_step types strings) is ∙ mono_rolls.step-group (reading types strings) ps fs)
        (λ e. ap (λ l. group_in n types F T s (members types (functions_in types strings l)) e) a)

    pub test-step : (a u : ℕ) (c : Case) (others : Vec Arm Global) (taken : List Arm) → st ≡ step.Test a u c others → taken ≡ others.items → Puts old new (switched n types F T s a u (case_of (reading types strings) c) (arms_in types strings taken))
        → Puts old new (put (mono_step types strings st))
    test-step a u c others taken is k =
        puts-step _ (switched n types F T s a u (case_of (reading types strings) c) (arms_in types strings taken)) (ap (mono_step types strings) is ∙ mono_rolls.step-test (reading types strings) a u c others)
        (λ e. ap (λ l. switched n types F T s a u (case_of (reading types strings) c) (arms_in types strings l) e) k)

    pub counted-step : (k : ℕ) → st ≡ step.Counted k → old ≡ new → Puts old new (put (mono_step types strings st))
    counted-step k is h e = ap (λ l. before l e) (sym h) ∙ ap (λ v. before old (put v e)) (sym (ap (mono_step types strings) is ∙ mono_rolls.step-counted (reading types strings) k))

  pub handle-known : (s now : Scope) (old new : List MadeStep) (x y i j : ℕ) (body handler : Exp) (b h : out.Exp) → i ≡ var x → j ≡ var y → b ≡ to s (f body) → now ≡ s → h ≡ to (add y now) (f handler)
      → Puts old new (out.let_in i (out.handle b j h)) → Puts old new (out.let_in (var x) (out.handle (to s (f body)) (var y) (to (add y s) (f handler))))
  handle-known s now old new x y i j body handler b h u v w k m p e =
      p e ∙ ap₂ (λ q r. before old (out.let_in q (out.handle b r h) e)) u v
      ∙ ap₂ (λ q r. before old (out.let_in (var x) (out.handle q (var y) r) e)) w (m ∙ ap (λ z. to (add y z) (f handler)) k)

  -- the body of an arm
  pub opened-made : (s z : Scope) (a : ℕ) (arm : Arm) (none ss : List MadeStep) (o b : out.Exp) → o ≡ before ss b → none ≡ [] → Puts none ss (opened a arm.case) → b ≡ to z (f arm.body) → z ≡ case_scope types (case_of (reading types strings) arm.case) s
      → o ≡ body_made n types strings F T s a arm
  opened-made s z a arm none ss o b m k p h c =
      m ∙ p b ∙ ap (λ l. before l (opened a arm.case b)) k ∙ ap (opened a arm.case) (h ∙ ap (λ v. to v (f arm.body)) c)

  -- tests

  module _ (s : Scope) (a t : ℕ) (c : Case) (others : List Arm) (old now new : List MadeStep) (p : Puts now new (opened a c)) where
    abbrev goes : out.Exp → out.Exp
    goes = switched n types F T s a t (case_of (reading types strings) c) (arms_in types strings others)

    pub test-when : is_test c ≡ true → (o : out.Exp) → o ≡ cases n types F T s a t (arms_in types strings others) → Puts old now (λ e. out.branch (test_in n strings c) (tested_in a c) e o) → Puts old new goes
    test-when h o k q e =
        p e ∙ q (opened a c e) ∙ ap (before old) (ap (out.branch (test_in n strings c) (tested_in a c) (opened a c e)) k ∙ sym (switched-test n types strings F T s a t c h (arms_in types strings others) e))

    pub test-case : is_constructor c ≡ true → (o : out.Arms) → o ≡ con_arms n types F T s a t (arms_in types strings others) → Puts old now (λ e. out.switch (var a) (out.arm (tag_in types t c) e o)) → Puts old new goes
    test-case h o k q e =
        p e ∙ q (opened a c e) ∙ ap (before old) (ap (λ l. out.switch (var a) (out.arm (tag_in types t c) (opened a c e) l)) k ∙ sym (switched-constructor n types strings F T s a t c h (arms_in types strings others) e))

    pub test-all : is_test c ≡ false → is_constructor c ≡ false → now ≡ old → Puts old new goes
    test-all h k q e = p e ∙ ap₂ before q (sym (switched-all n types strings F T s a t c h k (arms_in types strings others) e))
