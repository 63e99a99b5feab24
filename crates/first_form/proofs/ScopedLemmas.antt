-- What well formed says of steps in a row.
use Rattle.std.proofs.Common.{◌≡◌, ◌↔◌, Vec, Box, Global, Some, slice_get, ℕ, zero, suc, ◌+◌, ◌-◌, ◌<◌, ◌≤◌, Bool, true, false, ◌&&◌, ◌||◌, List, [], ◌∷◌, ◌++◌, map, length, take, drop, get_or, IsTrue, refl, sym, ap, ◌∙◌, subst, arith}
use Rattle.std.proofs.lemmas.List.{take_more}
use Rattle.std.specs.List.{AllByRecursion}
use Rattle.first_values.specs.Operations.{Tables}
use Rattle.first_values.specs.WellFormed.{AreTables}
use Rattle.first_tables.specs.TablesOf.{tables_of}
use Rattle.first_tree.specs.TreeOf.{StepTree, let_step, turn_step, try_step, when_step, unless_step, case_step, put, onto, ArmTree, arms_of, node_exp, node_step, node_arm, tree_of, step_of, arm_of, fun_of}
use Rattle.first_tree.specs.declared.tree.Exp.{Exp as CodeExp, Exp-F, fold-roll-Exp}
use Rattle.first_tree.specs.declared.tree.Exp.TheVariants.{Steps, rolls-Steps}
use Rattle.first_tree.specs.declared.tree.Step.{Step}
use Rattle.first_tree.specs.declared.tree.Arm.{Arm, fold_out-Arm}
use Rattle.first_tree.specs.declared.tree.Fun.{Fun}
use Rattle.first_form.specs.declared.form.First.{First}
use Rattle.first_form.specs.Programs.{program_of}
use Rattle.ir_first.specs.Tree.{Exp}
use Rattle.ir_first.specs.WellFormed.{IsScoped, ArmsScoped, IsWellFormed, arity}
use Rattle.ir_first.specs.Whole.{HasWhole, ArmsHaveWhole, FunIsWhole, may_miss}
use Rattle.first_form.specs.Scoped.{bound_by, after, StepScoped, StepsScoped, FunScoped, StepHasWhole, StepsHaveWhole, step_may_miss, steps_may_miss}
use Rattle.first_known.proofs.Flags.{both-is, iff-along, all-last}

pub map-last : {A B : Type 0} (g : A → B) (xs : List A) (x : A) → map g (xs ++ x ∷ []) ≡ map g xs ++ g x ∷ []
map-last g [] x = refl
map-last g (y ∷ ys) x = ap (λ l. g y ∷ l) (map-last g ys x)

-- one more of those that were seen
pub seen : {A B : Type 0} (g : A → B) (xs : List A) (i : ℕ) (x d : A) → i < length xs → x ≡ get_or xs i d → map g (take (i + 1) xs) ≡ map g (take i xs) ++ g x ∷ []
seen g xs i x d lt is = ap (map g) (take_more xs i d lt ∙ ap (λ y. take i xs ++ y ∷ []) (sym is)) ∙ map-last g (take i xs) x

pub all-seen : {A : Type 0} (xs : List A) (i : ℕ) → length xs ≤ i → take i xs ≡ xs
all-seen [] zero le = refl
all-seen [] (suc i) le = refl
all-seen (x ∷ xs) zero le = absurd (omega (arith, le))
all-seen (x ∷ xs) (suc i) le = ap (λ l. x ∷ l) (all-seen xs i (omega (arith, le)))

pub after-last : (ss : List StepTree) (s : StepTree) (xs : List ℕ) → after (ss ++ s ∷ []) xs ≡ bound_by s ++ after ss xs
after-last [] s xs = refl
after-last (r ∷ ss) s xs = after-last ss s (bound_by r ++ xs)

-- what was in scope before is left when what came in is dropped
assoc : {A : Type 0} (a b c : List A) → (a ++ b) ++ c ≡ a ++ (b ++ c)
assoc [] b c = refl
assoc (x ∷ a) b c = ap (λ l. x ∷ l) (assoc a b c)

added : (ss : List StepTree) (xs : List ℕ) → (ys : List ℕ) × (after ss xs ≡ ys ++ xs)
added [] xs = ([], refl)
added (s ∷ ss) xs = let r = added ss (bound_by s ++ xs) in (r.0 ++ bound_by s, r.1 ∙ sym (assoc r.0 (bound_by s) xs))

dropped : (ys xs : List ℕ) (n : ℕ) → n ≡ length ys → drop n (ys ++ xs) ≡ xs
dropped [] xs n e = ap (λ k. drop k xs) e
dropped (y ∷ ys) xs zero e = (cc)
dropped (y ∷ ys) xs (suc n) e = dropped ys xs n (omega (arith, e))

length-both : (ys xs : List ℕ) → length (ys ++ xs) ≡ length ys + length xs
length-both [] xs = omega arith
length-both (y ∷ ys) xs = let r = length-both ys xs in omega (arith, r)

pub left-scope : (old now new ys : List ℕ) (len : ℕ) → len ≡ length old → now ≡ ys ++ old → new ≡ drop (length now - len) now → new ≡ old
left-scope old now new ys len l e n =
    let k = length-both ys old in
    let d : length (ys ++ old) - len ≡ length ys = omega (arith, k, l) in
    n ∙ ap (λ s. drop (length s - len) s) e ∙ dropped ys old (length (ys ++ old) - len) d

pub left-steps : (ss : List StepTree) (old now new : List ℕ) (len : ℕ) → len ≡ length old → now ≡ after ss old → new ≡ drop (length now - len) now → new ≡ old
left-steps ss old now new len l e n = let a = added ss old in left-scope old now new a.0 len l (e ∙ a.1) n

module _ (T : Tables) (arities : List ℕ) where
  pub step-scoped : (s : StepTree) (xs : List ℕ) (e : Exp) → (StepScoped T arities xs s × IsScoped T arities (bound_by s ++ xs) e) ↔ IsScoped T arities xs (put s e)
  step-scoped (let_step x o) xs e = (λ w. w, λ w. w)
  step-scoped (turn_step p) xs e = (λ w. w.1, λ w. (tt, w))
  step-scoped (try_step d) xs e = (λ w. w, λ w. w)
  step-scoped (when_step q ys d) xs e = (λ w. (w.0.0, (w.1, w.0.1)), λ w. ((w.0, w.1.1), w.1.0))
  step-scoped (unless_step q ys d) xs e = (λ w. (w.0.0, (w.0.1, w.1)), λ w. ((w.0, w.1.0), w.1.1))
  step-scoped (case_step x i others) xs e = (λ w. (w.0.0, (w.1, w.0.1)), λ w. ((w.0, w.1.1), w.1.0))

  pub steps-scoped : (ss : List StepTree) (xs : List ℕ) (e : Exp) → (StepsScoped T arities xs ss × IsScoped T arities (after ss xs) e) ↔ IsScoped T arities xs (onto ss e)
  steps-scoped [] xs e = (λ w. w.1, λ w. (tt, w))
  steps-scoped (s ∷ ss) xs e =
      let r = steps-scoped ss (bound_by s ++ xs) e in
      let q = step-scoped s xs (onto ss e) in
      (λ w. q.0 (w.0.0, r.0 (w.0.1, w.1)), λ w. let v = q.1 w in let u = r.1 v.1 in ((v.0, u.0), u.1))

  last-scoped : (ss : List StepTree) (s : StepTree) (xs : List ℕ) → (StepsScoped T arities xs ss × StepScoped T arities (after ss xs) s) ↔ StepsScoped T arities xs (ss ++ s ∷ [])
  last-scoped [] s xs = (λ w. (w.1, tt), λ w. (tt, w.0))
  last-scoped (r ∷ ss) s xs = let q = last-scoped ss s (bound_by r ++ xs) in (λ w. (w.0.0, q.0 (w.0.1, w.1)), λ w. let v = q.1 w.1 in ((w.0, v.0), v.1))

  -- the whole of steps and what follows them
  pub whole-scoped : (ss : List StepTree) (xs mid : List ℕ) (e : Exp) (c a b : Bool) → c ≡ (a && b) → IsTrue a ↔ StepsScoped T arities xs ss → mid ≡ after ss xs
      → IsTrue b ↔ IsScoped T arities mid e → IsTrue c ↔ IsScoped T arities xs (onto ss e)
  whole-scoped ss xs mid e c a b ec ha em hb =
      iff-along c (steps-scoped ss xs e) (both-is c a b ec ha (subst (λ l. IsTrue b ↔ IsScoped T arities l e) em hb))

  -- one step more
  pub next-scoped : (ss : List StepTree) (all : List StepTree) (s : StepTree) (xs mid : List ℕ) (c a b : Bool) → all ≡ ss ++ s ∷ [] → c ≡ (a && b) → IsTrue a ↔ StepsScoped T arities xs ss
      → mid ≡ after ss xs → IsTrue b ↔ StepScoped T arities mid s → IsTrue c ↔ StepsScoped T arities xs all
  next-scoped ss all s xs mid c a b ea ec ha em hb =
      subst (λ l. IsTrue c ↔ StepsScoped T arities xs l) (sym ea)
      (iff-along c (last-scoped ss s xs) (both-is c a b ec ha (subst (λ l. IsTrue b ↔ StepScoped T arities l s) em hb)))

  pub arms-scoped : (xs : List ℕ) (as_ : List ArmTree) → AllByRecursion (λ a. IsScoped T arities xs a.body) as_ ↔ ArmsScoped T arities xs (arms_of as_)
  arms-scoped xs [] = (λ w. w, λ w. w)
  arms-scoped xs (a ∷ as_) = let r = arms-scoped xs as_ in (λ w. (w.0, r.0 w.1), λ w. (w.0, r.1 w.1))

pub next-after : (ss all : List StepTree) (s : StepTree) (xs mid new : List ℕ) → all ≡ ss ++ s ∷ [] → mid ≡ after ss xs → new ≡ bound_by s ++ mid → new ≡ after all xs
next-after ss all s xs mid new ea em en = en ∙ ap (λ l. bound_by s ++ l) em ∙ sym (after-last ss s xs) ∙ ap (λ l. after l xs) (sym ea)

step-whole : (s : StepTree) (e : Exp) → (StepHasWhole s × HasWhole e) ↔ HasWhole (put s e)
step-whole (let_step x o) e = (λ w. w, λ w. w)
step-whole (turn_step p) e = (λ w. w.1, λ w. (tt, w))
step-whole (try_step d) e = (λ w. w, λ w. w)
step-whole (when_step q ys d) e = (λ w. (w.1, w.0), λ w. (w.1, w.0))
step-whole (unless_step q ys d) e = (λ w. w, λ w. w)
step-whole (case_step x i others) e = (λ w. (w.1, w.0), λ w. (w.1, w.0))

pub steps-whole : (ss : List StepTree) (e : Exp) → (StepsHaveWhole ss × HasWhole e) ↔ HasWhole (onto ss e)
steps-whole [] e = (λ w. w.1, λ w. (tt, w))
steps-whole (s ∷ ss) e =
    let r = steps-whole ss e in
    let q = step-whole s (onto ss e) in
    (λ w. q.0 (w.0.0, r.0 (w.0.1, w.1)), λ w. let v = q.1 w in let u = r.1 v.1 in ((v.0, u.0), u.1))

pub all-whole : (ss : List StepTree) → AllByRecursion StepHasWhole ss ↔ StepsHaveWhole ss
all-whole [] = (λ w. w, λ w. w)
all-whole (s ∷ ss) = let r = all-whole ss in (λ w. (w.0, r.0 w.1), λ w. (w.0, r.1 w.1))

pub arms-whole : (as_ : List ArmTree) → AllByRecursion (λ a. HasWhole a.body) as_ ↔ ArmsHaveWhole (arms_of as_)
arms-whole [] = (λ w. w, λ w. w)
arms-whole (a ∷ as_) = let r = arms-whole as_ in (λ w. (w.0, r.0 w.1), λ w. (w.0, r.1 w.1))

or-false : (b : Bool) → (b || false) ≡ b
or-false true = refl
or-false false = refl

or-true : (b : Bool) → (b || true) ≡ true
or-true true = refl
or-true false = refl

or-swap : (a b : Bool) → (a || b) ≡ (b || a)
or-swap true b = sym (or-true b)
or-swap false b = sym (or-false b)

or-assoc : (a b c : Bool) → ((a || b) || c) ≡ (a || (b || c))
or-assoc true b c = refl
or-assoc false b c = refl

step-misses : (s : StepTree) (e : Exp) → (step_may_miss s || may_miss e) ≡ may_miss (put s e)
step-misses (let_step x o) e = refl
step-misses (turn_step p) e = refl
step-misses (try_step d) e = refl
step-misses (when_step q ys d) e = or-swap (may_miss d) (may_miss e)
step-misses (unless_step q ys d) e = refl
step-misses (case_step x i others) e = refl

pub steps-miss : (ss : List StepTree) (e : Exp) → (steps_may_miss ss || may_miss e) ≡ may_miss (onto ss e)
steps-miss [] e = refl
steps-miss (s ∷ ss) e = or-assoc (step_may_miss s) (steps_may_miss ss) (may_miss e) ∙ ap (λ b. step_may_miss s || b) (steps-miss ss e) ∙ step-misses s (onto ss e)

pub last-misses : (ss all : List StepTree) (s : StepTree) (c a b : Bool) → all ≡ ss ++ s ∷ [] → c ≡ (a || b) → a ≡ steps_may_miss ss → b ≡ step_may_miss s → c ≡ steps_may_miss all
last-misses ss all s c a b ea ec ha hb = ec ∙ ap (λ x. x || b) ha ∙ ap (λ x. steps_may_miss ss || x) hb ∙ go ss ∙ ap steps_may_miss (sym ea)
  where
    go : (rs : List StepTree) → (steps_may_miss rs || step_may_miss s) ≡ steps_may_miss (rs ++ s ∷ [])
    go [] = sym (or-false (step_may_miss s))
    go (r ∷ rs) = or-assoc (step_may_miss r) (steps_may_miss rs) (step_may_miss s) ∙ ap (λ x. step_may_miss r || x) (go rs)

-- one more of those that were seen, with what they stand for
pub all-mapped-more : {A B : Type 0} (P : B → Type 0) (g : A → B) (xs : List A) (i : ℕ) (x d : A) (all here c : Bool) → i < length xs → x ≡ get_or xs i d
    → IsTrue all ↔ AllByRecursion P (map g (take i xs)) → IsTrue here ↔ P (g x) → c ≡ (all && here) → IsTrue c ↔ AllByRecursion P (map g (take (i + 1) xs))
all-mapped-more P g xs i x d all here c lt is h k e =
    subst (λ l. IsTrue c ↔ AllByRecursion P l) (sym (seen g xs i x d lt is)) (iff-along c (let r = all-last P (map g (take i xs)) (g x) in (r.1, r.0)) (both-is c all here e h k))

pub all-mapped-ends : {A B : Type 0} (P : B → Type 0) (g : A → B) (xs : List A) (i : ℕ) (all : Bool) → length xs ≤ i → IsTrue all ↔ AllByRecursion P (map g (take i xs)) → IsTrue all ↔ AllByRecursion P (map g xs)
all-mapped-ends P g xs i all le h = subst (λ l. IsTrue all ↔ AllByRecursion P (map g l)) (all-seen xs i le) h

arm-is : (a : Arm) → arm_of a ≡ record { tag = a.tag; body = tree_of a.body }
arm-is = fold_out-Arm Exp StepTree ArmTree node_exp node_step node_arm

steps-are : (ss : Vec Step Global) (r : Box CodeExp Global) → tree_of (Steps ss r) ≡ onto (map step_of ss.items) (tree_of r.value)
steps-are ss r = ap tree_of (sym (rolls-Steps ss r)) ∙ fold-roll-Exp Exp StepTree ArmTree node_exp node_step node_arm (Exp-F.Steps ss r)

exp-is : (e : CodeExp) (ss : Vec Step Global) (r : Box CodeExp Global) (was : List Step) (rest : CodeExp) → e ≡ Steps ss r → was ≡ ss.items → rest ≡ r.value
    → tree_of e ≡ onto (map step_of was) (tree_of rest)
exp-is e ss r was rest is es er = ap tree_of is ∙ steps-are ss r ∙ ap (λ l. onto (map step_of l) (tree_of r.value)) (sym es) ∙ ap (λ x. onto (map step_of was) (tree_of x)) (sym er)

module _ (T : Tables) (arities : List ℕ) where
  pub arm-scoped : (xs ys : List ℕ) (a : Arm) (here : Bool) → ys ≡ xs → IsTrue here ↔ IsScoped T arities ys (tree_of a.body) → IsTrue here ↔ IsScoped T arities xs (arm_of a).body
  arm-scoped xs ys a here e h =
      subst (λ l. IsTrue here ↔ IsScoped T arities l (arm_of a).body) e (subst (λ b. IsTrue here ↔ IsScoped T arities ys b) (sym (ap (λ (t : ArmTree). t.body) (arm-is a))) h)

  pub exp-scoped : (e : CodeExp) (ss : Vec Step Global) (r : Box CodeExp Global) (was : List Step) (rest : CodeExp) (xs mid : List ℕ) (c a b : Bool) → e ≡ Steps ss r → was ≡ ss.items → rest ≡ r.value
      → c ≡ (a && b) → IsTrue a ↔ StepsScoped T arities xs (map step_of was) → mid ≡ after (map step_of was) xs → IsTrue b ↔ IsScoped T arities mid (tree_of rest)
      → IsTrue c ↔ IsScoped T arities xs (tree_of e)
  exp-scoped e ss r was rest xs mid c a b is es er ec ha em hb =
      subst (λ t. IsTrue c ↔ IsScoped T arities xs t) (sym (exp-is e ss r was rest is es er)) (whole-scoped T arities (map step_of was) xs mid (tree_of rest) c a b ec ha em hb)

pub exp-misses : (e : CodeExp) (ss : Vec Step Global) (r : Box CodeExp Global) (was : List Step) (rest : CodeExp) (c a b : Bool) → e ≡ Steps ss r → was ≡ ss.items → rest ≡ r.value
    → c ≡ (a || b) → a ≡ steps_may_miss (map step_of was) → b ≡ may_miss (tree_of rest) → c ≡ may_miss (tree_of e)
exp-misses e ss r was rest c a b is es er ec ha hb =
    ec ∙ ap (λ x. x || b) ha ∙ ap (λ x. steps_may_miss (map step_of was) || x) hb ∙ steps-miss (map step_of was) (tree_of rest) ∙ sym (ap may_miss (exp-is e ss r was rest is es er))

pub exp-whole : (e : CodeExp) (ss : Vec Step Global) (r : Box CodeExp Global) (was : List Step) (rest : CodeExp) (c a b : Bool) → e ≡ Steps ss r → was ≡ ss.items → rest ≡ r.value
    → c ≡ (a && b) → IsTrue a ↔ StepsHaveWhole (map step_of was) → IsTrue b ↔ HasWhole (tree_of rest) → IsTrue c ↔ HasWhole (tree_of e)
exp-whole e ss r was rest c a b is es er ec ha hb =
    subst (λ t. IsTrue c ↔ HasWhole t) (sym (exp-is e ss r was rest is es er)) (iff-along c (steps-whole (map step_of was) (tree_of rest)) (both-is c a b ec ha hb))

pub arm-whole : (a : Arm) (here : Bool) → IsTrue here ↔ HasWhole (tree_of a.body) → IsTrue here ↔ HasWhole (arm_of a).body
arm-whole a here h = subst (λ b. IsTrue here ↔ HasWhole b) (sym (ap (λ (t : ArmTree). t.body) (arm-is a))) h

pub well-formed : (p : First) (ars ars1 ars2 : List ℕ) (f1 f2 f3 : List Fun) (a b s w c x y : Bool) → ars ≡ map arity (map fun_of f1) → f1 ≡ p.funs.items → ars1 ≡ ars → f2 ≡ p.funs.items → ars2 ≡ ars
    → f3 ≡ p.funs.items → IsTrue a ↔ AreTables (tables_of p.tables) → IsTrue b ↔ (slice_get ars2 0 ≡ Some 0) → IsTrue s ↔ AllByRecursion (FunScoped (tables_of p.tables) ars1) (map fun_of f2)
    → IsTrue w ↔ AllByRecursion FunIsWhole (map fun_of f3) → x ≡ (a && b) → y ≡ (s && w) → c ≡ (x && y) → IsTrue c ↔ IsWellFormed (program_of p)
well-formed p ars ars1 ars2 f1 f2 f3 a b s w c x y ea e1 ea1 e2 ea2 e3 ha hb hs hw ex ey ec =
    let T = tables_of p.tables in
    let rows : ars ≡ map arity (map fun_of p.funs.items) = ea ∙ ap (λ l. map arity (map fun_of l)) e1 in
    let hb2 = subst (λ l. IsTrue b ↔ (slice_get l 0 ≡ Some 0)) (ea2 ∙ rows) hb in
    let hs2 = subst (λ l. IsTrue s ↔ AllByRecursion (FunScoped T l) (map fun_of p.funs.items)) (ea1 ∙ rows) (subst (λ l. IsTrue s ↔ AllByRecursion (FunScoped T ars1) (map fun_of l)) e2 hs) in
    let hw2 = subst (λ l. IsTrue w ↔ AllByRecursion FunIsWhole (map fun_of l)) e3 hw in
    let q = both-is c x y ec (both-is x a b ex ha hb2) (both-is y s w ey hs2 hw2) in
    (λ t. let v = q.0 t in record { tables = v.0.0; main = v.0.1; scoped = v.1.0; whole = v.1.1 }, λ v. q.1 ((v.tables, v.main), (v.scoped, v.whole)))
