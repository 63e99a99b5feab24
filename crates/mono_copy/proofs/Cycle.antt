-- What each function of the walk puts.
use Rattle.std.proofs.Common.{◌≡◌, ◌<◌, ℕ, zero, suc, Bool, false, List, [], ◌∷◌, ◌++◌, map, drop, length, get_or, refl, sym, ap, subst, ◌∙◌, arith}
use Rattle.ty_core.specs.Types.{Typ}
use Rattle.ty_core.specs.Statics.{replace}
use Rattle.ty_table.specs.TypeAt.{type_at}
use Rattle.ir_plain.specs.Tree.{Op, ret, switch, miss, fn, block, handle}
use Rattle.ir_poly.specs.Tests.{inst, poly}
use Rattle.ir_tables.specs.Tables.{strings_of, parameters_of, parameters_at}
use Rattle.ir_tables.specs.declared.tables.Tables.{Tables}
use Rattle.plain_tree.specs.TreeOf.{StepTree, let_step, test_step, onto, firsts, arms_of, fun_of, case_of, arm_of, operation_of}
use Rattle.plain_tree.specs.declared.tree.Arm.{Arm}
use Rattle.plain_tree.specs.declared.tree.Binding.{Binding}
use Rattle.plain_tree.specs.declared.tree.Case.{Case}
use Rattle.plain_tree.specs.declared.tree.Exp as code
use Rattle.plain_tree.specs.declared.tree.Function.{Function}
use Rattle.plain_tree.specs.declared.tree.Operation.{Operation}
use Rattle.plain_tree.specs.declared.tree.Parameter.{Parameter}
use Rattle.plain_tree.specs.declared.tree.Step.{Step}
use Rattle.mono_parts.specs.of_tests_check.Reads.{reading}
use Rattle.monomorphise.specs.Monomorphise.{copy_of}
use Rattle.mono_close.specs.Closing.{standing}
use Rattle.mono_scopes.specs.Scopes.{variable}
use Rattle.mono_words.specs.Words.{last_sign}
use Rattle.mono_words.specs.Seen.{Seen, with_sign, within, out}
use Rattle.mono_words.specs.Made.{exp_made, op_made, case_entered, all_bare, entered_step}
use Rattle.mono_words.proofs.Making.{miss-made, switch-made, fn-made, block-made, handle-made}
use Rattle.mono_parts.specs.of_mono_state.Seen.{Held, held_of, Later, types_in, groups_in, seen}
use Rattle.mono_parts.specs.of_mono_state.Going.{IsHeld, AllHeld, Goes}
use Rattle.mono_parts.specs.of_mono_state.declared.copier.Copier.{Copier}
use Rattle.mono_parts.specs.of_mono_state.declared.word.Word.TheVariants as word
use Rattle.mono_parts.specs.Steps.{functions_in, steps_in, parameters_entered, parameters_left}
use Rattle.mono_copy.specs.Puts.{Change, Puts, Passes}
use Rattle.mono_copy.specs.Changes.{exp_in, step_in, exp_put, each_put, attempt_put, arms_put, arm_put, step_entered, steps_entered, steps_left, operation_put, ret_put, handler_put, function_put, acted, binding_put, group_put}
use Rattle.mono_copy.proofs.Changing.{Grows, Same, then_, word_put, grows-then, puts-then, puts-as, passes-then, passes-more, passes-as, passes-on, each-part, each-grows}
use Rattle.mono_copy.proofs.Nodes.{nodes-entered, nodes-left, grows-left-all, grows-binding, grows-group}
use Rattle.mono_copy.proofs.Walking.{steps-whole, attempts-whole, function-all, body_put}
use Rattle.mono_copy.proofs.Leaves.{arm_opened, switch_put}

-- expressions

module _ (t : Tables) (strip b : Bool) (e d : code.Exp) (ss : List Step) (is : exp_in t e ≡ onto (steps_in t ss) (exp_in t d)) (f : b ≡ all_bare strip (steps_in t ss)) where
  left-grows : Grows (steps_left t strip ss)
  left-grows H g s n = grows-left-all g s strip (steps_in t ss) n

  exp-grows : Grows (exp_put t b d)
  exp-grows H g s n = omega arith

  pub steps-put : {p q r o : Copier} (last : List Step) → last ≡ ss → Puts t (steps_entered t strip ss) p q → Puts t (exp_put t b d) q r → Puts t (steps_left t strip last) r o → Puts t (exp_put t strip e) p o
  steps-put {r = r} {o = o} last k x y z = puts-as (exp_put t strip e) (steps-whole t strip b e d ss is f) (puts-then (puts-then x y) (subst (λ l. Puts t (steps_left t strip l) r o) k z))

  pub steps-left-passes : {p q r : Copier} (last : List Step) → last ≡ ss → Puts t (steps_entered t strip ss) p q → Puts t (exp_put t b d) q r → Passes t (steps_left t strip last) r → Passes t (exp_put t strip e) p
  steps-left-passes {r = r} last k x y z = passes-as (exp_put t strip e) (steps-whole t strip b e d ss is f) (passes-then (puts-then x y) (subst (λ l. Passes t (steps_left t strip l) r) k z))

  pub steps-walk-passes : {p q : Copier} → Puts t (steps_entered t strip ss) p q → Passes t (exp_put t b d) q → Passes t (exp_put t strip e) p
  steps-walk-passes x y = passes-on (steps_left t strip ss) (exp_put t strip e) left-grows (steps-whole t strip b e d ss is f) (passes-then x y)

  pub steps-enter-passes : {p : Copier} → Passes t (steps_entered t strip ss) p → Passes t (exp_put t strip e) p
  steps-enter-passes x =
      passes-on (then_ (exp_put t b d) (steps_left t strip ss)) (exp_put t strip e) (grows-then (exp_put t b d) (steps_left t strip ss) exp-grows left-grows) (steps-whole t strip b e d ss is f) x

module _ (t : Tables) (strip : Bool) (e : code.Exp) where
  pub ret-exp : {p o : Copier} (x : ℕ) → exp_in t e ≡ ret (inst x []) → Puts t (ret_put strip x) p o → Puts t (exp_put t strip e) p o
  ret-exp x is q = puts-as (exp_put t strip e) (λ H g s n. ap (λ z. exp_made strip g s z n) (sym is)) q

  pub miss-exp : {p o : Copier} → exp_in t e ≡ miss → Puts t (word_put t word.Miss) p o → Puts t (exp_put t strip e) p o
  miss-exp is q = puts-as (exp_put t strip e) (λ H g s n. miss-made g s strip n ∙ ap (λ z. exp_made strip g s z n) (sym is)) q

  module _ (x u : ℕ) (arms : List Arm) (is : exp_in t e ≡ switch (inst x []) (type_at t.types u) (arms_of (map (arm_of (reading t)) arms))) where
    switch-whole : Same (then_ (arms_put t strip arms) (switch_put t x u)) (exp_put t strip e)
    switch-whole H g s n = switch-made g s strip (inst x []) (type_at t.types u) (arms_of (map (arm_of (reading t)) arms)) n ∙ ap (λ z. exp_made strip g s z n) (sym is)

    pub switch-exp : {p q o : Copier} → Puts t (arms_put t strip arms) p q → Puts t (switch_put t x u) q o → Puts t (exp_put t strip e) p o
    switch-exp y z = puts-as (exp_put t strip e) switch-whole (puts-then y z)

    pub switch-passes : {p : Copier} → Passes t (arms_put t strip arms) p → Passes t (exp_put t strip e) p
    switch-passes y = passes-on (switch_put t x u) (exp_put t strip e) (λ H g s n. omega arith) switch-whole y

  module _ (es : List code.Exp) (d : code.Exp) (is : exp_in t e ≡ firsts (map (exp_in t) es) (exp_in t d)) where
    pub first-exp : {p q o : Copier} → Puts t (exp_put t strip d) p q → Puts t (each_put (attempt_put t strip) es) q o → Puts t (exp_put t strip e) p o
    first-exp y z = puts-as (exp_put t strip e) (attempts-whole t strip e d es is) (puts-then y z)

    pub first-attempts-passes : {p q : Copier} → Puts t (exp_put t strip d) p q → Passes t (each_put (attempt_put t strip) es) q → Passes t (exp_put t strip e) p
    first-attempts-passes y z = passes-as (exp_put t strip e) (attempts-whole t strip e d es is) (passes-then y z)

    pub first-last-passes : {p : Copier} → Passes t (exp_put t strip d) p → Passes t (exp_put t strip e) p
    first-last-passes y =
        passes-on (each_put (attempt_put t strip) es) (exp_put t strip e) (each-grows (attempt_put t strip) (λ x H g s n. omega arith) es) (attempts-whole t strip e d es is) y

-- lists from the last to the first, behind E

module _ {t : Tables} {A : Type 0} (E : Change) (I : A → Change) where
  pub each-begins : {a b : Copier} (xs : List A) → xs ≡ [] → Puts t E a b → Puts t (then_ E (each_put I xs)) a b
  each-begins {a = a} {b = b} xs e p = subst (λ l. Puts t (then_ E (each_put I l)) a b) (sym e) p

  pub each-goes : {a b c : Copier} (all xs : List A) (x : A) → all ≡ x ∷ xs → Puts t (then_ E (each_put I xs)) a b → Puts t (I x) b c → Puts t (then_ E (each_put I all)) a c
  each-goes {a = a} {c = c} all xs x e p q = subst (λ l. Puts t (then_ E (each_put I l)) a c) (sym e) (puts-then p q)

  pub each-stops : {a b : Copier} (all front xs : List A) (x : A) → all ≡ front ++ x ∷ xs → ((y : A) → Grows (I y)) → Puts t (then_ E (each_put I xs)) a b → Passes t (I x) b
      → Passes t (then_ E (each_put I all)) a
  each-stops {a = a} all front xs x e h p q =
      subst (λ l. Passes t (then_ E (each_put I l)) a) (sym e)
      (passes-more (then_ E (each_put I (front ++ x ∷ xs))) (λ H g s n. each-part I h front (x ∷ xs) H g s (E H g s n)) (passes-then p q))

  pub each-ends : {a b : Copier} (xs : List A) (k : ℕ) → k ≡ 0 → Puts t (then_ E (each_put I (drop k xs))) a b → Puts t (then_ E (each_put I xs)) a b
  each-ends {a = a} {b = b} xs k z p = subst (λ j. Puts t (then_ E (each_put I (drop j xs))) a b) z p

abbrev pub nothing : Change
nothing H g s n = n

-- attempts

pub attempt-goes : {t : Tables} {a b c : Copier} (strip : Bool) (x : code.Exp) → Puts t (exp_put t strip x) a b → Puts t (word_put t word.First) b c → Puts t (attempt_put t strip x) a c
attempt-goes strip x p q = puts-then p q

pub attempt-grows : (t : Tables) (strip : Bool) (x : code.Exp) → Grows (attempt_put t strip x)
attempt-grows t strip x H g s n = omega arith

pub attempt-passes : {t : Tables} {a : Copier} (strip : Bool) (x : code.Exp) → Passes t (exp_put t strip x) a → Passes t (attempt_put t strip x) a
attempt-passes {t = t} strip x p = passes-more (attempt_put t strip x) (λ H g s n. omega arith) p

-- arms

pub arm-grows : (t : Tables) (strip : Bool) (a : Arm) → Grows (arm_put t strip a)
arm-grows t strip a H g s n =
    let u = nodes-entered (case_of (reading t) a.case) n in
    let v = nodes-left (case_of (reading t) a.case) (exp_made strip g s (exp_in t a.body) (case_entered (case_of (reading t) a.case) n)) in
    omega (arith, u, v)

pub arm-passes : {t : Tables} {p q : Copier} (strip : Bool) (a : Arm) → Puts t (arm_opened t a.case) p q → Passes t (exp_put t strip a.body) q → Passes t (arm_put t strip a) p
arm-passes {t = t} strip a x y =
    passes-more (arm_put t strip a)
    (λ H g s n.
    let v = nodes-left (case_of (reading t) a.case) (exp_made strip g s (exp_in t a.body) (case_entered (case_of (reading t) a.case) n)) in
    omega (arith, v))
    (passes-then x y)

-- a test is entered

module _ (t : Tables) (strip : Bool) (st : Step) (x u : ℕ) (c : Case) (others : List Arm) (is : step_in t st ≡ test_step (inst x []) (type_at t.types u) (case_of (reading t) c) (arms_of (map (arm_of (reading t)) others))) where
  test-whole : Same (then_ (arms_put t strip others) (arm_opened t c)) (step_entered t strip st)
  test-whole H g s n = ap (λ (z : StepTree poly). entered_step strip g s z n) (sym is)

  pub test-entered : {p q o : Copier} → Puts t (arms_put t strip others) p q → Puts t (arm_opened t c) q o → Puts t (step_entered t strip st) p o
  test-entered y z = puts-as (step_entered t strip st) test-whole (puts-then y z)

  pub test-passes : {p : Copier} → Passes t (arms_put t strip others) p → Passes t (step_entered t strip st) p
  test-passes y = passes-on (arm_opened t c) (step_entered t strip st) (λ H g s n. let v = nodes-entered (case_of (reading t) c) n in omega (arith, v)) test-whole y

-- operations

module _ (t : Tables) (strip : Bool) (st : Step) (b : Binding) where
  abbrev at_let : Op poly → StepTree poly
  at_let o = let_step b.variable ((reading t).parameters b.parameters) ((reading t).type b.ty) o

  pub operation-acted : {p o : Copier} (op : Operation) → step_in t st ≡ at_let (operation_of (reading t) op) → Goes t.types p o
      → ((H : Held) → Later (held_of o) H → seen (strings_of t) H o ≡ op_made strip (groups_in H p.own) (standing H.types p.slots) (operation_of (reading t) op) (seen (strings_of t) H p))
      → Puts t (operation_put t strip st) p o
  operation-acted {p = p} op is g h = record {
    goes = g;
    sees = λ H l. h H l ∙ ap (λ (z : StepTree poly). acted strip (groups_in H p.own) (standing H.types p.slots) z (seen (strings_of t) H p)) (sym is);
  }

  module _ (xs : List Parameter) (x : Parameter) (e : code.Exp) (is : step_in t st ≡ at_let (fn (fun_of (reading t) xs x (exp_in t e)))) where
    fn-whole : Same (then_ (function_put t xs x e) (word_put t word.Fn)) (operation_put t strip st)
    fn-whole H g s n = fn-made g s strip (fun_of (reading t) xs x (exp_in t e)) n ∙ ap (λ (z : StepTree poly). acted strip g s z n) (sym is)

    pub fn-acted : {p q o : Copier} → Puts t (function_put t xs x e) p q → Puts t (word_put t word.Fn) q o → Puts t (operation_put t strip st) p o
    fn-acted y z = puts-as (operation_put t strip st) fn-whole (puts-then y z)

    pub fn-passes : {p : Copier} → Passes t (function_put t xs x e) p → Passes t (operation_put t strip st) p
    fn-passes y = passes-on (word_put t word.Fn) (operation_put t strip st) (λ H g s n. omega arith) fn-whole y

  module _ (e : code.Exp) (is : step_in t st ≡ at_let (block (exp_in t e))) where
    block-whole : Same (then_ (exp_put t strip e) (word_put t word.Block)) (operation_put t strip st)
    block-whole H g s n = block-made g s strip (exp_in t e) n ∙ ap (λ (z : StepTree poly). acted strip g s z n) (sym is)

    pub block-acted : {p q o : Copier} → Puts t (exp_put t strip e) p q → Puts t (word_put t word.Block) q o → Puts t (operation_put t strip st) p o
    block-acted y z = puts-as (operation_put t strip st) block-whole (puts-then y z)

    pub block-passes : {p : Copier} → Passes t (exp_put t strip e) p → Passes t (operation_put t strip st) p
    block-passes y = passes-on (word_put t word.Block) (operation_put t strip st) (λ H g s n. omega arith) block-whole y

  module _ (e d : code.Exp) (x : ℕ) (is : step_in t st ≡ at_let (handle (exp_in t e) x (exp_in t d))) where
    handle-whole : Same (then_ (then_ (handler_put t x d) (exp_put t false e)) (word_put t word.Handle)) (operation_put t strip st)
    handle-whole H g s n = handle-made g s strip (exp_in t e) (exp_in t d) x n ∙ ap (λ (z : StepTree poly). acted strip g s z n) (sym is)

    pub handle-acted : {p q r o : Copier} → Puts t (handler_put t x d) p q → Puts t (exp_put t false e) q r → Puts t (word_put t word.Handle) r o → Puts t (operation_put t strip st) p o
    handle-acted y z w = puts-as (operation_put t strip st) handle-whole (puts-then (puts-then y z) w)

    pub handle-walk-passes : {p q : Copier} → Puts t (handler_put t x d) p q → Passes t (exp_put t false e) q → Passes t (operation_put t strip st) p
    handle-walk-passes y z = passes-on (word_put t word.Handle) (operation_put t strip st) (λ H g s n. omega arith) handle-whole (passes-then y z)

    pub handle-handler-passes : {p : Copier} → Passes t (handler_put t x d) p → Passes t (operation_put t strip st) p
    handle-handler-passes y = passes-on (then_ (exp_put t false e) (word_put t word.Handle)) (operation_put t strip st) (λ H g s n. omega arith) handle-whole y

abbrev pub variable_opened : ℕ → Change
variable_opened x H g s n = within (variable x) n

pub handler-passes : {t : Tables} {p q : Copier} (x : ℕ) (d : code.Exp) → Puts t (variable_opened x) p q → Passes t (exp_put t false d) q → Passes t (handler_put t x d) p
handler-passes {t = t} x d y z = passes-more (handler_put t x d) (λ H g s n. omega arith) (passes-then y z)

-- functions

abbrev pub parameters_opened : List Parameter → Change
parameters_opened xs H g s n = parameters_entered xs n

abbrev pub last_closed : Tables → Parameter → Change
last_closed t x H g s n = with_sign (last_sign (copy_of x.variable []) (replace s (type_at t.types x.ty))) (out n)

abbrev pub parameters_closed : Tables → List Parameter → Change
parameters_closed t xs H g s n = parameters_left s t.types xs n

parameters-nodes : (s : ℕ → Typ) (sources : List Typ) (xs : List Parameter) (n : Seen) → (parameters_left s sources xs n).nodes ≡ n.nodes
parameters-nodes s sources [] n = refl
parameters-nodes s sources (x ∷ xs) n = parameters-nodes s sources xs n

entered-nodes : (xs : List Parameter) (n : Seen) → (parameters_entered xs n).nodes ≡ n.nodes
entered-nodes [] n = refl
entered-nodes (x ∷ xs) n = entered-nodes xs (within (variable x.variable) n)

module _ {t : Tables} (xs : List Parameter) (x : Parameter) (e : code.Exp) where
  pub function-goes : {a b c d f o : Copier} → Puts t (parameters_opened xs) a b → Puts t (variable_opened x.variable) b c → Puts t (exp_put t false e) c d → Puts t (last_closed t x) d f
      → Puts t (parameters_closed t xs) f o → Puts t (function_put t xs x e) a o
  function-goes p q r u v = puts-as (function_put t xs x e) (function-all t xs x e) (puts-then (puts-then (puts-then (puts-then p q) r) u) v)

  pub function-passes : {a b c : Copier} → Puts t (parameters_opened xs) a b → Puts t (variable_opened x.variable) b c → Passes t (exp_put t false e) c → Passes t (function_put t xs x e) a
  function-passes p q r =
      passes-on (then_ (last_closed t x) (parameters_closed t xs)) (function_put t xs x e)
      (λ H g s n. let u = parameters-nodes s t.types xs (last_closed t x H g s n) in omega (arith, u))
      (function-all t xs x e) (passes-then (puts-then p q) r)

pub body-grows : (t : Tables) (f : Function) → Grows (body_put t f)
body-grows t f H g s n = omega arith

-- what is held

pub held-at : (H : Held) (ks : List ℕ) (i : ℕ) → i < length ks → AllHeld H ks → IsHeld H (get_or ks i 0)
held-at H [] i lt h = absurd (omega (arith, lt))
held-at H (k ∷ ks) zero lt h = h.0
held-at H (k ∷ ks) (suc i) lt h = held-at H ks i (omega (arith, lt)) h.1

pub binding-put-grows : (t : Tables) (strip : Bool) (b : Binding) (st : Step) (k : ℕ) → Grows (binding_put t strip b st k)
binding-put-grows t strip b st k H g s n = grows-binding g s strip b.variable (parameters_at (parameters_of t) b.parameters) (type_at t.types b.ty) (step_in t st) (types_in H k) n

pub group-put-grows : (t : Tables) (p : ℕ) (fs : List Function) (k : ℕ) → Grows (group_put t p fs k)
group-put-grows t p fs k H g s n = grows-group g s (parameters_at (parameters_of t) p) (functions_in t fs) (types_in H k) n
