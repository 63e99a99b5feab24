-- What the parts of a walk put together.
use Rattle.std.proofs.Common.{◌≡◌, ◌<◌, ◌≤◌, ◌+◌, ℕ, zero, suc, Bool, true, false, List, [], ◌∷◌, ◌++◌, map, reverse, take, drop, length, get_or, Some, refl, sym, ap, ap₂, subst, ◌∙◌, arith}
use Rattle.std.proofs.lemmas.List.{take_more, take_all, reverse-append, map-append}
use Rattle.ty_core.specs.Types.{Typ}
use Rattle.ty_core.specs.Statics.{replace}
use Rattle.ty_table.specs.TypeAt.{type_at}
use Rattle.ty_core.specs.declared.scheme.Quantified.{Quantified}
use Rattle.ir_plain.specs.Tree.{Case, Exp, Arms, Op, Fun, Funs, ret}
use Rattle.ir_plain.specs.Tree as clean
use Rattle.ir_poly.specs.Tests.{poly}
use Rattle.ir_tables.specs.declared.tables.Tables.{Tables}
use Rattle.plain_tree.specs.TreeOf.{StepTree, ArmTree, FunctionTree, let_step, exception_step, name_step, rec_step, test_step, counted_step, onto, firsts, arms_of, fun_of, case_of, arm_of}
use Rattle.plain_tree.specs.declared.tree.Arm.{Arm}
use Rattle.plain_tree.specs.declared.tree.Binding.{Binding}
use Rattle.plain_tree.specs.declared.tree.Case as codecase
use Rattle.plain_tree.specs.declared.tree.Case.TheVariants as case
use Rattle.plain_tree.specs.declared.tree.Exp as code
use Rattle.plain_tree.specs.declared.tree.Function.{Function}
use Rattle.plain_tree.specs.declared.tree.Parameter.{Parameter}
use Rattle.plain_tree.specs.declared.tree.Step.{Step}
use Rattle.mono_parts.specs.of_tests_check.Reads.{reading}
use Rattle.mono_parts.proofs.of_tests_check.Rolls.{arm-parts, function-parts}
use Rattle.monomorphise.specs.Monomorphise.{Groups, copy_of, units, fun_vars}
use Rattle.mono_scopes.specs.Scopes.{variable, binding}
use Rattle.mono_words.specs.Words.{end_sign, parameter_sign, last_sign}
use Rattle.mono_words.specs.Seen.{Seen, with_sign, within, out, needed_types}
use Rattle.mono_words.specs.Made.{exp_made, arms_made, fun_made, bodies_made, case_entered, case_left, let_made, more_lets_made, group_made, more_groups_made, still_bare, entered_step, left_step, all_bare, entered_all, left_all}
use Rattle.mono_words.proofs.Making.{first-made, arm-made, arms-end, last-made, more-made, bodies-made, no-bodies, steps-made}
use Rattle.mono_parts.specs.of_mono_state.Seen.{types_in}
use Rattle.mono_parts.specs.of_mono_state.declared.copier.Copier.{Copier}
use Rattle.mono_parts.specs.Arms.{bound_in, entered, left}
use Rattle.mono_parts.specs.Steps.{functions_in, steps_in, parameters_entered, parameters_left}
use Rattle.mono_copy.specs.Puts.{Change, IsReady, Puts, Passes}
use Rattle.mono_copy.specs.Changes.{exp_in, step_in, exp_put, each_made, each_put, attempt_put, arms_put, arm_put, step_entered, step_left, steps_entered, steps_left, function_put, bodies_put, opened, bound_at, binding_in, binding_made, binding_left, group_left}
use Rattle.mono_copy.proofs.Changing.{Same, then_, puts-then, puts-as, passes-then, passes-more, puts-nothing}
use Rattle.mono_copy.proofs.Nodes.{entered-part, left-part}

-- lists

map-take : {A B : Type 0} (f : A → B) (i : ℕ) (xs : List A) → map f (take i xs) ≡ take i (map f xs)
map-take f zero xs = refl
map-take f (suc i) [] = refl
map-take f (suc i) (x ∷ xs) = ap (λ l. f x ∷ l) (map-take f i xs)

map-drop : {A B : Type 0} (f : A → B) (i : ℕ) (xs : List A) → map f (drop i xs) ≡ drop i (map f xs)
map-drop f zero xs = refl
map-drop f (suc i) [] = refl
map-drop f (suc i) (x ∷ xs) = map-drop f i xs

map-turned : {A B : Type 0} (f : A → B) (xs : List A) → reverse (map f xs) ≡ map f (reverse xs)
map-turned f [] = refl
map-turned f (x ∷ xs) =
    reverse-append (f x ∷ []) (map f xs) ∙ ap (λ l. l ++ f x ∷ []) (map-turned f xs) ∙ sym (map-append f (reverse xs) (x ∷ [])) ∙ ap (map f) (sym (reverse-append (x ∷ []) xs))

pub each-mapped : {A B : Type 0} (f : B → Seen → Seen) (h : A → B) (xs : List A) (n : Seen) → each_made f (map h xs) n ≡ each_made (λ x. f (h x)) xs n
each-mapped f h [] n = refl
each-mapped f h (x ∷ xs) n = ap (f (h x)) (each-mapped f h xs n)

-- at lists that were handed out
pub each-turned : {A B : Type 0} (f : B → Seen → Seen) (h : A → B) (xs : List A) (ys : List B) (n : Seen) → reverse (map h xs) ≡ ys → each_made (λ x. f (h x)) (reverse xs) n ≡ each_made f ys n
each-turned f h xs ys n e = sym (each-mapped f h (reverse xs) n) ∙ ap (λ l. each_made f l n) (sym (map-turned h xs) ∙ e)

-- one more of a list in front
pub turned-more : {A : Type 0} (xs : List A) (i : ℕ) (d : A) → i < length xs → reverse (take (i + 1) xs) ≡ get_or xs i d ∷ reverse (take i xs)
turned-more xs i d lt = ap reverse (take_more xs i d lt) ∙ reverse-append (take i xs) (get_or xs i d ∷ [])

take-drop : {A : Type 0} (xs : List A) (i : ℕ) → xs ≡ take i xs ++ drop i xs
take-drop xs zero = refl
take-drop [] (suc i) = refl
take-drop (x ∷ xs) (suc i) = ap (λ l. x ∷ l) (take-drop xs i)

pub turned-whole : {A : Type 0} (xs : List A) (i : ℕ) (d : A) → i < length xs → reverse xs ≡ reverse (drop (i + 1) xs) ++ get_or xs i d ∷ reverse (take i xs)
turned-whole xs i d lt =
    ap reverse (take-drop xs (i + 1)) ∙ reverse-append (take (i + 1) xs) (drop (i + 1) xs) ∙ ap (λ l. reverse (drop (i + 1) xs) ++ l) (turned-more xs i d lt)

pub part-whole : {A : Type 0} (xs ys : List A) (x : A) (i : ℕ) → drop i xs ≡ x ∷ ys → xs ≡ take i xs ++ x ∷ ys
part-whole xs ys x i e = take-drop xs i ∙ ap (λ l. take i xs ++ l) e

-- steps

entered-end : (g : Groups) (s : ℕ → Typ) (bare : Bool) (ss : List (StepTree poly)) (x : StepTree poly) (n : Seen)
    → entered_all bare g s (ss ++ x ∷ []) n ≡ entered_step (all_bare bare ss) g s x (entered_all bare g s ss n)
entered-end g s bare [] x n = refl
entered-end g s bare (st ∷ ss) x n = entered-end g s (still_bare bare st) ss x (entered_step bare g s st n)

bare-end : (bare : Bool) (ss : List (StepTree poly)) (x : StepTree poly) → all_bare bare (ss ++ x ∷ []) ≡ still_bare (all_bare bare ss) x
bare-end bare [] x = refl
bare-end bare (st ∷ ss) x = bare-end (still_bare bare st) ss x

behind : {A B : Type 0} (h : A → B) (xs : List A) (i : ℕ) (d : A) → i < length xs → drop i (map h xs) ≡ h (get_or xs i d) ∷ drop (suc i) (map h xs)
behind h [] i d lt = absurd (omega (arith, lt))
behind h (y ∷ xs) zero d lt = refl
behind h (y ∷ xs) (suc i) d lt = behind h xs i d (omega (arith, lt))

module _ (t : Tables) (strip : Bool) (steps : List Step) where
  one-more : (i : ℕ) (x d : Step) → i < length steps → x ≡ get_or steps i d → steps_in t (take (i + 1) steps) ≡ steps_in t (take i steps) ++ step_in t x ∷ []
  one-more i x d lt is =
      ap (map (step_in t)) (take_more steps i d lt) ∙ map-append (step_in t) (take i steps) (get_or steps i d ∷ []) ∙ ap (λ y. steps_in t (take i steps) ++ step_in t y ∷ []) (sym is)

  module _ (i : ℕ) (x d : Step) (flag : Bool) (lt : i < length steps) (is : x ≡ get_or steps i d) (f : flag ≡ all_bare strip (take i (steps_in t steps))) where
    step-entered : Same (then_ (steps_entered t strip (take i steps)) (step_entered t flag x)) (steps_entered t strip (take (i + 1) steps))
    step-entered H g s n =
        ap (λ b. entered_step b g s (step_in t x) (entered_all strip g s (steps_in t (take i steps)) n)) (f ∙ ap (all_bare strip) (sym (map-take (step_in t) i steps)))
        ∙ sym (entered-end g s strip (steps_in t (take i steps)) (step_in t x) n) ∙ ap (λ l. entered_all strip g s l n) (sym (one-more i x d lt is))

    pub entered-more : {a b c : Copier} → Puts t (steps_entered t strip (take i steps)) a b → Puts t (step_entered t flag x) b c → Puts t (steps_entered t strip (take (i + 1) steps)) a c
    entered-more p q = puts-as (steps_entered t strip (take (i + 1) steps)) step-entered (puts-then p q)

    pub entered-passes : {a b : Copier} → Puts t (steps_entered t strip (take i steps)) a b → Passes t (step_entered t flag x) b → Passes t (steps_entered t strip steps) a
    entered-passes p q =
        passes-more (steps_entered t strip steps)
        (λ H g s n.
        let u = entered-part g s strip (i + 1) (steps_in t steps) n in
        let e = ap (λ (l : List (StepTree poly)). (entered_all strip g s l n).nodes) (map-take (step_in t) (i + 1) steps) in
        let v = ap (λ (m : Seen). m.nodes) (step-entered H g s n) in
        omega (arith, u, e, v))
        (passes-then p q)

  pub entered-whole : {a b : Copier} (i : ℕ) → length steps ≤ i → Puts t (steps_entered t strip (take i steps)) a b → Puts t (steps_entered t strip steps) a b
  entered-whole {a = a} {b = b} i le p = subst (λ l. Puts t (steps_entered t strip l) a b) (take_all i steps le) p

  -- those from the k-th on
  abbrev pub left_from : ℕ → Change
  left_from k H g s = left_all (all_bare strip (take k (steps_in t steps))) g s (drop k (steps_in t steps))

  pub left-none : {a : Copier} (k : ℕ) → drop k (steps_in t steps) ≡ [] → IsReady t a → Puts t (left_from k) a a
  left-none {a = a} k e r =
      puts-as (left_from k) (λ H g s n. ap (λ l. left_all (all_bare strip (take k (steps_in t steps))) g s l n) (sym e)) (puts-nothing r)

  module _ (k i : ℕ) (x d : Step) (flag : Bool) (m : k ≡ i + 1) (lt : i < length steps) (is : x ≡ get_or steps i d) (f : flag ≡ all_bare strip (take i (steps_in t steps))) where
    step-left : Same (then_ (left_from k) (step_left t flag x)) (left_from i)
    step-left H g s n =
        let l = steps_in t steps in
        let b = all_bare strip (take i l) in
        let here : drop i l ≡ step_in t x ∷ drop k l =
        behind (step_in t) steps i d lt ∙ ap₂ (λ y j. step_in t y ∷ drop j l) (sym is) (let e : suc i ≡ k = omega (arith, m) in e) in
        let upto : take k l ≡ take i l ++ step_in t x ∷ [] =
        ap (λ j. take j l) m ∙ sym (map-take (step_in t) (i + 1) steps) ∙ one-more i x d lt is ∙ ap (λ z. z ++ step_in t x ∷ []) (map-take (step_in t) i steps) in
        let bare : all_bare strip (take k l) ≡ still_bare b (step_in t x) =
        ap (all_bare strip) upto ∙ bare-end strip (take i l) (step_in t x) in
        ap₂ (λ c d. left_step c g s (step_in t x) (left_all d g s (drop k l) n)) f bare ∙ ap (λ z. left_all b g s z n) (sym here)

    pub left-more : {a b c : Copier} → Puts t (left_from k) a b → Puts t (step_left t flag x) b c → Puts t (left_from i) a c
    left-more p q = puts-as (left_from i) step-left (puts-then p q)

    pub left-passes : {a b : Copier} → Puts t (left_from k) a b → Passes t (step_left t flag x) b → Passes t (steps_left t strip steps) a
    left-passes p q =
        passes-more (steps_left t strip steps)
        (λ H g s n.
        let u = left-part g s strip i (steps_in t steps) n in
        let v = ap (λ (m : Seen). m.nodes) (step-left H g s n) in
        omega (arith, u, v))
        (passes-then p q)

  pub left-whole : {a b : Copier} (k : ℕ) → k ≡ 0 → Puts t (left_from k) a b → Puts t (steps_left t strip steps) a b
  left-whole {a = a} {b = b} k z p = subst (λ j. Puts t (left_from j) a b) z p

-- steps, and what comes of them
pub steps-whole : (t : Tables) (strip b : Bool) (e d : code.Exp) (ss : List Step) → exp_in t e ≡ onto (steps_in t ss) (exp_in t d) → b ≡ all_bare strip (steps_in t ss)
    → Same (then_ (then_ (steps_entered t strip ss) (exp_put t b d)) (steps_left t strip ss)) (exp_put t strip e)
steps-whole t strip b e d ss is f H g s n =
    ap (λ c. left_all strip g s (steps_in t ss) (exp_made c g s (exp_in t d) (entered_all strip g s (steps_in t ss) n))) f
    ∙ steps-made g s strip (steps_in t ss) (exp_in t d) n ∙ ap (λ x. exp_made strip g s x n) (sym is)

-- attempts
pub attempts-whole : (t : Tables) (strip : Bool) (e d : code.Exp) (es : List code.Exp) → exp_in t e ≡ firsts (map (exp_in t) es) (exp_in t d)
    → Same (then_ (exp_put t strip d) (each_put (attempt_put t strip) es)) (exp_put t strip e)
attempts-whole t strip e d es is H g s n = go es ∙ ap (λ x. exp_made strip g s x n) (sym is)
  where
    go : (es : List code.Exp) → each_put (attempt_put t strip) es H g s (exp_made strip g s (exp_in t d) n) ≡ exp_made strip g s (firsts (map (exp_in t) es) (exp_in t d)) n
    go [] = refl
    go (x ∷ es) = ap (λ m. attempt_put t strip x H g s m) (go es) ∙ first-made g s strip (exp_in t x) (firsts (map (exp_in t) es) (exp_in t d)) n

-- arms
pub arms-whole : (t : Tables) (strip : Bool) (arms : List Arm) → Same (then_ (λ H g s n. with_sign end_sign n) (each_put (arm_put t strip) arms)) (arms_put t strip arms)
arms-whole t strip [] H g s n = arms-end g s strip n
arms-whole t strip (a ∷ arms) H g s n =
    ap (λ m. arm_put t strip a H g s m) (arms-whole t strip arms H g s n)
    ∙ arm-made g s strip (case_of (reading t) a.case) (exp_in t a.body) (arms_of (map (arm_of (reading t)) arms)) n
    ∙ ap (λ (x : ArmTree poly). arms_made strip g s (clean.arm x.case x.body (arms_of (map (arm_of (reading t)) arms))) n) (sym (arm-parts (reading t) a))

pub case-is-entered : (t : Tables) (c : codecase.Case) (n : Seen) → entered (bound_in c) n ≡ case_entered (case_of (reading t) c) n
case-is-entered t (case.Constant c) n = refl
case-is-entered t (case.Constructor c) n = refl
case-is-entered t (case.ConstructorOf c x) n = refl
case-is-entered t (case.Exception a) n = refl
case-is-entered t (case.ExceptionOf a x) n = refl
case-is-entered t (case.Record size) n = refl

pub case-is-left : (t : Tables) (c : codecase.Case) (n : Seen) → left (bound_in c) n ≡ case_left (case_of (reading t) c) n
case-is-left t (case.Constant c) n = refl
case-is-left t (case.Constructor c) n = refl
case-is-left t (case.ConstructorOf c x) n = refl
case-is-left t (case.Exception a) n = refl
case-is-left t (case.ExceptionOf a x) n = refl
case-is-left t (case.Record size) n = refl

-- bodies
abbrev pub body_put : Tables → Function → Change
body_put t f = function_put t f.parameters.items f.last f.body

pub bodies-whole : (t : Tables) (k : ℕ) (fs : List Function) → Same (each_put (body_put t) fs) (bodies_put t k fs)
bodies-whole t k [] H g s n = no-bodies g s (types_in H k) n
bodies-whole t k (f ∷ fs) H g s n =
    ap (fun_made g s (fun_of (reading t) f.parameters.items f.last (exp_in t f.body))) (bodies-whole t k fs H g s n)
    ∙ bodies-made g s (types_in H k) f.variable ((reading t).type f.ty) (fun_of (reading t) f.parameters.items f.last (exp_in t f.body)) (functions_in t fs) n
    ∙ ap (λ (x : FunctionTree poly). bodies_made (types_in H k) g s (clean.fun x.variable x.type x.function (functions_in t fs)) n) (sym (function-parts (reading t) f))

-- functions
pub function-whole : (t : Tables) (xs : List Parameter) (x : Parameter) (e : code.Exp) (g : Groups) (s : ℕ → Typ) (n : Seen)
    → parameters_left s t.types xs (fun_made g s (clean.last x.variable ((reading t).type x.ty) (exp_in t e)) (parameters_entered xs n)) ≡ fun_made g s (fun_of (reading t) xs x (exp_in t e)) n
function-whole t [] x e g s n = refl
function-whole t (y ∷ xs) x e g s n =
    ap (λ m. with_sign (parameter_sign (copy_of y.variable []) (replace s (type_at t.types y.ty))) (out m)) (function-whole t xs x e g s (within (variable y.variable) n))
    ∙ more-made g s y.variable (type_at t.types y.ty) (fun_of (reading t) xs x (exp_in t e)) n

abbrev pub function_steps : Tables → List Parameter → Parameter → code.Exp → Change
function_steps t xs x e H g s n =
    parameters_left s t.types xs
    (with_sign (last_sign (copy_of x.variable []) (replace s (type_at t.types x.ty))) (out (exp_made false g s (exp_in t e) (within (variable x.variable) (parameters_entered xs n)))))

pub function-all : (t : Tables) (xs : List Parameter) (x : Parameter) (e : code.Exp) → Same (function_steps t xs x e) (function_put t xs x e)
function-all t xs x e H g s n =
    ap (parameters_left s t.types xs) (last-made g s x.variable (type_at t.types x.ty) (exp_in t e) (parameters_entered xs n)) ∙ function-whole t xs x e g s n

-- a binding's copies
lets-each : (g : Groups) (s : ℕ → Typ) (x : ℕ) (ps : List Quantified) (u : Typ) (o : Op poly) (ts : List (List Typ)) (n : Seen)
    → each_made (binding_made true g s x ps u (let_step x ps u o)) ts n ≡ more_lets_made g s x ps u o ts n
lets-each g s x ps u o [] n = refl
lets-each g s x ps u o (a ∷ ts) n = ap (let_made true g s x ps u o a) (lets-each g s x ps u o ts n)

groups-each : (g : Groups) (s : ℕ → Typ) (ps : List Quantified) (fs : Funs poly) (ts : List (List Typ)) (n : Seen) → each_made (group_made g s ps fs) ts n ≡ more_groups_made g s ps fs ts n
groups-each g s ps fs [] n = refl
groups-each g s ps fs (a ∷ ts) n = ap (group_made g s ps fs a) (groups-each g s ps fs ts n)

copied-at : (bare : Bool) (g : Groups) (s : ℕ → Typ) (k : ℕ × List Quantified × Typ) (st : StepTree poly) (n : Seen) → Some k ≡ bound_at st
    → binding_made bare g s k.0 k.1 k.2 st (units k.1) (each_made (binding_made true g s k.0 k.1 k.2 st) (needed_types n.scopes) (out n)) ≡ left_step bare g s st n
copied-at bare g s k (let_step x ps u o) n e =
    let p : k ≡ (x, ps, u) = cc in
    ap (λ (j : ℕ × List Quantified × Typ). binding_made bare g s j.0 j.1 j.2 (let_step x ps u o) (units j.1) (each_made (binding_made true g s j.0 j.1 j.2 (let_step x ps u o)) (needed_types n.scopes) (out n))) p
    ∙ ap (let_made bare g s x ps u o (units ps)) (lets-each g s x ps u o (needed_types n.scopes) (out n))
copied-at bare g s k (exception_step x i a) n e = absurd (cc)
copied-at bare g s k (name_step x y) n e = absurd (cc)
copied-at bare g s k (rec_step ps fs) n e = absurd (cc)
copied-at bare g s k (test_step u t c others) n e = absurd (cc)
copied-at bare g s k (counted_step j) n e = absurd (cc)

pub step-copied : (t : Tables) (strip : Bool) (b : Binding) (st : Step) → Some (binding_in t b) ≡ bound_at (step_in t st) → Same (binding_left t strip b st) (step_left t strip st)
step-copied t strip b st e H g s n = copied-at strip g s (binding_in t b) (step_in t st) n e

pub group-copied : (t : Tables) (strip : Bool) (p : ℕ) (fs : List Function) (st : Step) → step_in t st ≡ rec_step ((reading t).parameters p) (functions_in t fs) → Same (group_left t p fs) (step_left t strip st)
group-copied t strip p fs st e H g s n =
    let ps = (reading t).parameters p in
    let m = within (binding (fun_vars (functions_in t fs)) (units ps) []) (out n) in
    ap (λ z. out (group_made g s ps (functions_in t fs) (units ps) z)) (groups-each g s ps (functions_in t fs) (needed_types n.scopes) m)
    ∙ ap (λ z. left_step strip g s z n) (sym e)

-- the scope that a step opens

bound-opened : (k : ℕ × List Quantified × Typ) (st : StepTree poly) (n : Seen) → Some k ≡ bound_at st → within (binding (k.0 ∷ []) (units k.1) []) n ≡ opened st n
bound-opened k (let_step x ps u o) n e =
    let p : k ≡ (x, ps, u) = cc in
    ap (λ (j : ℕ × List Quantified × Typ). within (binding (j.0 ∷ []) (units j.1) []) n) p
bound-opened k (exception_step x i a) n e = absurd (cc)
bound-opened k (name_step x y) n e = absurd (cc)
bound-opened k (rec_step ps fs) n e = absurd (cc)
bound-opened k (test_step u t c others) n e = absurd (cc)
bound-opened k (counted_step j) n e = absurd (cc)

pub binding-opened : (t : Tables) (b : Binding) (st : Step) (n : Seen) → Some (binding_in t b) ≡ bound_at (step_in t st)
    → within (binding (b.variable ∷ []) (units ((reading t).parameters b.parameters)) []) n ≡ opened (step_in t st) n
binding-opened t b st n e = bound-opened (binding_in t b) (step_in t st) n e

-- no step stands behind all of them
pub none-behind : (t : Tables) (steps : List Step) → drop (length steps) (steps_in t steps) ≡ []
none-behind t [] = refl
none-behind t (x ∷ xs) = none-behind t xs
