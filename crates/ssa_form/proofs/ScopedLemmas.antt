-- What well formed says of steps in a row.
use Rattle.std.proofs.Common.{◌≡◌, ◌↔◌, Vec, Box, Global, Some, None, slice_get, ℕ, zero, suc, ◌+◌, ◌-◌, ◌<◌, ◌≤◌, Bool, ◌&&◌, List, [], ◌∷◌, ◌++◌, map, length, take, drop, get_or, reverse, IsTrue, refl, sym, ap, ◌∙◌, subst, arith}
use Rattle.std.proofs.lemmas.List.{take_more, reverse-append, get_or-reverse, length-reverse}
use Rattle.std.specs.List.{AllByRecursion}
use Rattle.first_values.specs.Operations.{Tables}
use Rattle.first_values.specs.WellFormed.{AreTables, IsIn, is_among}
use Rattle.first_tables.specs.TablesOf.{tables_of}
use Rattle.ssa_tree.specs.declared.tree.Body.{Body as CodeBody, Body-F, fold-roll-Body}
use Rattle.ssa_tree.specs.declared.tree.Body.TheVariants.{Steps, Switch, rolls-Steps, rolls-Switch}
use Rattle.ssa_tree.specs.declared.tree.Step.{Step, Step-F, fold-roll-Step}
use Rattle.ssa_tree.specs.declared.tree.Step.TheVariants.{Case, rolls-Case}
use Rattle.ssa_tree.specs.declared.tree.Arm.{Arm, fold_out-Arm}
use Rattle.ssa_tree.specs.declared.tree.Fun.{Fun}
use Rattle.ssa_form.specs.declared.form.Ssa.{Ssa}
use Rattle.ssa_form.specs.Programs.{program_of}
use Rattle.ssa_tree.specs.TreeOf.{node_body, node_step, node_arm, tree_of, step_of, arm_of, fun_of}
use Rattle.ssa_tree.specs.TreeOf.{StepTree, plain_step, make_step, call_step, attempt_step, turn_step, label_step, again_step, when_step, unless_step, case_step, put, onto, ArmTree, bodies_of}
use Rattle.ir_ssa.specs.Tree as t
use Rattle.ir_ssa.specs.Tree.{Body}
use Rattle.ir_ssa.specs.WellFormed as clean
use Rattle.ir_ssa.specs.WellFormed.{IsScoped, AllScoped, IsWellFormed, arity}
use Rattle.ssa_form.specs.Labels.{label_of, labels_of}
use Rattle.ssa_form.specs.Scoped.{bound_by, labels_by, after, labels_after, StepScoped, StepsScoped, ArmScoped, FunScoped, Grew}
use Rattle.ssa_form.specs.declared.labels.Label.{Label}
use Rattle.first_known.proofs.Flags.{both-is, iff-along, all-last}

pub map-last : {A B : Type 0} (g : A → B) (xs : List A) (x : A) → map g (xs ++ x ∷ []) ≡ map g xs ++ g x ∷ []
map-last g [] x = refl
map-last g (y ∷ ys) x = ap (λ l. g y ∷ l) (map-last g ys x)

-- one more of those that were seen
pub seen : {A B : Type 0} (g : A → B) (xs : List A) (i : ℕ) (x d : A) → i < length xs → x ≡ get_or xs i d → map g (take (i + 1) xs) ≡ map g (take i xs) ++ g x ∷ []
seen g xs i x d lt is = ap (map g) (take_more xs i d lt ∙ ap (λ y. take i xs ++ y ∷ []) (sym is)) ∙ map-last g (take i xs) x

pub all-seen : {A : Type 0} (xs : List A) (i : ℕ) → length xs ≤ i → take i xs ≡ xs
all-seen [] zero le = refl
all-seen [] (suc i) le = refl
all-seen (x ∷ xs) zero le = absurd (omega (arith, le))
all-seen (x ∷ xs) (suc i) le = ap (λ l. x ∷ l) (all-seen xs i (omega (arith, le)))

assoc : {A : Type 0} (a b c : List A) → (a ++ b) ++ c ≡ a ++ (b ++ c)
assoc [] b c = refl
assoc (x ∷ a) b c = ap (λ l. x ∷ l) (assoc a b c)

right-nil : {A : Type 0} (a : List A) → a ++ [] ≡ a
right-nil [] = refl
right-nil (x ∷ a) = ap (λ l. x ∷ l) (right-nil a)

pub grew-not : {A : Type 0} (old new : List A) → new ≡ old → Grew old new
grew-not old new e = ([], e ∙ sym (right-nil old))

pub grew-by : {A : Type 0} (old new : List A) (x : A) → new ≡ old ++ x ∷ [] → Grew old new
grew-by old new x e = (x ∷ [], e)

pub grew-more : {A : Type 0} (old mid new : List A) → Grew old mid → Grew mid new → Grew old new
grew-more old mid new g h = (g.0 ++ h.0, h.1 ∙ ap (λ l. l ++ h.0) g.1 ∙ assoc old g.0 h.0)

taken : {A : Type 0} (old more : List A) → take (length old) (old ++ more) ≡ old
taken [] more = refl
taken (x ∷ old) more = ap (λ l. x ∷ l) (taken old more)

-- what came on top is taken away
pub cut : {A : Type 0} (old now new : List A) (n : ℕ) → n ≡ length old → Grew old now → new ≡ take n now → new ≡ old
cut old now new n en g e = e ∙ ap (λ k. take k now) en ∙ ap (take (length old)) g.1 ∙ taken old g.0

pub labels-push : (ls : List Label) (l : Label) → labels_of (ls ++ l ∷ []) ≡ label_of l ∷ labels_of ls
labels-push ls l = ap (map label_of) (reverse-append ls (l ∷ []))

pub after-last : (ss : List StepTree) (s : StepTree) (xs : List ℕ) → after (ss ++ s ∷ []) xs ≡ bound_by s ++ after ss xs
after-last [] s xs = refl
after-last (r ∷ ss) s xs = after-last ss s (bound_by r ++ xs)

pub labels-last : (ss : List StepTree) (s : StepTree) (ls : List clean.Label) → labels_after (ss ++ s ∷ []) ls ≡ labels_by s ++ labels_after ss ls
labels-last [] s ls = refl
labels-last (r ∷ ss) s ls = labels-last ss s (labels_by r ++ ls)

added : (ss : List StepTree) (xs : List ℕ) → (ys : List ℕ) × (after ss xs ≡ ys ++ xs)
added [] xs = ([], refl)
added (s ∷ ss) xs = let r = added ss (bound_by s ++ xs) in (r.0 ++ bound_by s, r.1 ∙ sym (assoc r.0 (bound_by s) xs))

dropped : (ys xs : List ℕ) (n : ℕ) → n ≡ length ys → drop n (ys ++ xs) ≡ xs
dropped [] xs n e = ap (λ k. drop k xs) e
dropped (y ∷ ys) xs zero e = (cc)
dropped (y ∷ ys) xs (suc n) e = dropped ys xs n (omega (arith, e))

length-both : (ys xs : List ℕ) → length (ys ++ xs) ≡ length ys + length xs
length-both [] xs = omega arith
length-both (y ∷ ys) xs = let r = length-both ys xs in omega (arith, r)

pub left-scope : (old now new ys : List ℕ) (len : ℕ) → len ≡ length old → now ≡ ys ++ old → new ≡ drop (length now - len) now → new ≡ old
left-scope old now new ys len l e n =
    let k = length-both ys old in
    let d : length (ys ++ old) - len ≡ length ys = omega (arith, k, l) in
    n ∙ ap (λ s. drop (length s - len) s) e ∙ dropped ys old (length (ys ++ old) - len) d

pub left-steps : (ss : List StepTree) (old now new : List ℕ) (len : ℕ) → len ≡ length old → now ≡ after ss old → new ≡ drop (length now - len) now → new ≡ old
left-steps ss old now new len l e n = let a = added ss old in left-scope old now new a.0 len l (e ∙ a.1) n

module _ (T : Tables) (arities : List ℕ) (g : Bool) where
  pub step-scoped : (s : StepTree) (xs : List ℕ) (ls : List clean.Label) (b : Body)
      → (StepScoped T arities xs ls g s × IsScoped T arities (bound_by s ++ xs) (labels_by s ++ ls) g b) ↔ IsScoped T arities xs ls g (put s b)
  step-scoped (plain_step p ys x) xs ls b = (λ w. w, λ w. w)
  step-scoped (make_step t ps x) xs ls b = (λ w. w, λ w. w)
  step-scoped (call_step p c ys x) xs ls b = (λ w. w, λ w. w)
  step-scoped (attempt_step k p ys x d) xs ls b = (λ w. (w.0.0, (w.1, w.0.1)), λ w. ((w.0, w.1.1), w.1.0))
  step-scoped (turn_step p) xs ls b = (λ w. w.1, λ w. (tt, w))
  step-scoped (label_step params d) xs ls b = (λ w. (w.1, w.0), λ w. (w.1, w.0))
  step-scoped (again_step params d) xs ls b = (λ w. (w.1, w.0), λ w. (w.1, w.0))
  step-scoped (when_step q ys d) xs ls b = (λ w. (w.0.0, (w.1, w.0.1)), λ w. ((w.0, w.1.1), w.1.0))
  step-scoped (unless_step q ys d) xs ls b = (λ w. (w.0.0, (w.0.1, w.1)), λ w. ((w.0, w.1.0), w.1.1))
  step-scoped (case_step x i others) xs ls b = (λ w. (w.0.0, (w.1, w.0.1)), λ w. ((w.0, w.1.1), w.1.0))

  pub steps-scoped : (ss : List StepTree) (xs : List ℕ) (ls : List clean.Label) (b : Body)
      → (StepsScoped T arities xs ls g ss × IsScoped T arities (after ss xs) (labels_after ss ls) g b) ↔ IsScoped T arities xs ls g (onto ss b)
  steps-scoped [] xs ls b = (λ w. w.1, λ w. (tt, w))
  steps-scoped (s ∷ ss) xs ls b =
      let r = steps-scoped ss (bound_by s ++ xs) (labels_by s ++ ls) b in
      let q = step-scoped s xs ls (onto ss b) in
      (λ w. q.0 (w.0.0, r.0 (w.0.1, w.1)), λ w. let v = q.1 w in let u = r.1 v.1 in ((v.0, u.0), u.1))

  last-scoped : (ss : List StepTree) (s : StepTree) (xs : List ℕ) (ls : List clean.Label)
      → (StepsScoped T arities xs ls g ss × StepScoped T arities (after ss xs) (labels_after ss ls) g s) ↔ StepsScoped T arities xs ls g (ss ++ s ∷ [])
  last-scoped [] s xs ls = (λ w. (w.1, tt), λ w. (tt, w.0))
  last-scoped (r ∷ ss) s xs ls =
      let q = last-scoped ss s (bound_by r ++ xs) (labels_by r ++ ls) in (λ w. (w.0.0, q.0 (w.0.1, w.1)), λ w. let v = q.1 w.1 in ((w.0, v.0), v.1))

  -- the whole of steps and what follows them
  pub whole-scoped : (ss : List StepTree) (xs mid : List ℕ) (ls lmid : List clean.Label) (d : Body) (c a b : Bool) → c ≡ (a && b) → IsTrue a ↔ StepsScoped T arities xs ls g ss → mid ≡ after ss xs
      → lmid ≡ labels_after ss ls → IsTrue b ↔ IsScoped T arities mid lmid g d → IsTrue c ↔ IsScoped T arities xs ls g (onto ss d)
  whole-scoped ss xs mid ls lmid d c a b ec ha em el hb =
      iff-along c (steps-scoped ss xs ls d) (both-is c a b ec ha (subst (λ l. IsTrue b ↔ IsScoped T arities (after ss xs) l g d) el (subst (λ l. IsTrue b ↔ IsScoped T arities l lmid g d) em hb)))

  -- one step more
  pub next-scoped : (ss : List StepTree) (all : List StepTree) (s : StepTree) (xs mid : List ℕ) (ls lmid : List clean.Label) (c a b : Bool) → all ≡ ss ++ s ∷ [] → c ≡ (a && b)
      → IsTrue a ↔ StepsScoped T arities xs ls g ss → mid ≡ after ss xs → lmid ≡ labels_after ss ls → IsTrue b ↔ StepScoped T arities mid lmid g s → IsTrue c ↔ StepsScoped T arities xs ls g all
  next-scoped ss all s xs mid ls lmid c a b ea ec ha em el hb =
      subst (λ l. IsTrue c ↔ StepsScoped T arities xs ls g l) (sym ea)
      (iff-along c (last-scoped ss s xs ls) (both-is c a b ec ha (subst (λ l. IsTrue b ↔ StepScoped T arities (after ss xs) l g s) el (subst (λ l. IsTrue b ↔ StepScoped T arities l lmid g s) em hb))))

  pub arms-scoped : (xs : List ℕ) (ls : List clean.Label) (as_ : List ArmTree) (b : Body)
      → (AllByRecursion (ArmScoped T arities xs ls g) as_ × IsScoped T arities xs ls g b) ↔ AllScoped T arities xs ls g (bodies_of as_ b)
  arms-scoped xs ls [] b = (λ w. w.1, λ w. (tt, w))
  arms-scoped xs ls (a ∷ as_) b = let r = arms-scoped xs ls as_ b in (λ w. (w.0.0, r.0 (w.0.1, w.1)), λ w. let v = r.1 w.1 in ((w.0, v.0), v.1))

pub next-after : (ss all : List StepTree) (s : StepTree) (xs mid new : List ℕ) → all ≡ ss ++ s ∷ [] → mid ≡ after ss xs → new ≡ bound_by s ++ mid → new ≡ after all xs
next-after ss all s xs mid new ea em en = en ∙ ap (λ l. bound_by s ++ l) em ∙ sym (after-last ss s xs) ∙ ap (λ l. after l xs) (sym ea)

pub next-labels : (ss all : List StepTree) (s : StepTree) (ls mid new : List clean.Label) → all ≡ ss ++ s ∷ [] → mid ≡ labels_after ss ls → new ≡ labels_by s ++ mid → new ≡ labels_after all ls
next-labels ss all s ls mid new ea em en = en ∙ ap (λ l. labels_by s ++ l) em ∙ sym (labels-last ss s ls) ∙ ap (λ l. labels_after l ls) (sym ea)

-- one more of those that were seen, with what they stand for
pub all-mapped-more : {A B : Type 0} (P : B → Type 0) (g : A → B) (xs : List A) (i : ℕ) (x d : A) (all here c : Bool) → i < length xs → x ≡ get_or xs i d
    → IsTrue all ↔ AllByRecursion P (map g (take i xs)) → IsTrue here ↔ P (g x) → c ≡ (all && here) → IsTrue c ↔ AllByRecursion P (map g (take (i + 1) xs))
all-mapped-more P g xs i x d all here c lt is h k e =
    subst (λ l. IsTrue c ↔ AllByRecursion P l) (sym (seen g xs i x d lt is)) (iff-along c (let r = all-last P (map g (take i xs)) (g x) in (r.1, r.0)) (both-is c all here e h k))

pub all-mapped-ends : {A B : Type 0} (P : B → Type 0) (g : A → B) (xs : List A) (i : ℕ) (all : Bool) → length xs ≤ i → IsTrue all ↔ AllByRecursion P (map g (take i xs)) → IsTrue all ↔ AllByRecursion P (map g xs)
all-mapped-ends P g xs i all le h = subst (λ l. IsTrue all ↔ AllByRecursion P (map g l)) (all-seen xs i le) h

arm-is : (a : Arm) → arm_of a ≡ record { tag = a.tag; body = tree_of a.body }
arm-is = fold_out-Arm Body StepTree ArmTree node_body node_step node_arm

steps-are : (ss : Vec Step Global) (r : Box CodeBody Global) → tree_of (Steps ss r) ≡ onto (map step_of ss.items) (tree_of r.value)
steps-are ss r = ap tree_of (sym (rolls-Steps ss r)) ∙ fold-roll-Body Body StepTree ArmTree node_body node_step node_arm (Body-F.Steps ss r)

body-is : (e : CodeBody) (ss : Vec Step Global) (r : Box CodeBody Global) (was : List Step) (rest : CodeBody) → e ≡ Steps ss r → was ≡ ss.items → rest ≡ r.value
    → tree_of e ≡ onto (map step_of was) (tree_of rest)
body-is e ss r was rest is es er = ap tree_of is ∙ steps-are ss r ∙ ap (λ l. onto (map step_of l) (tree_of r.value)) (sym es) ∙ ap (λ x. onto (map step_of was) (tree_of x)) (sym er)

module _ (T : Tables) (arities : List ℕ) (g : Bool) where
  pub arm-scoped : (xs ys : List ℕ) (ls ms : List clean.Label) (a : Arm) (here : Bool) → ys ≡ xs → ms ≡ ls → IsTrue here ↔ IsScoped T arities ys ms g (tree_of a.body)
      → IsTrue here ↔ ArmScoped T arities xs ls g (arm_of a)
  arm-scoped xs ys ls ms a here e el h =
      subst (λ l. IsTrue here ↔ IsScoped T arities l ls g (arm_of a).body) e
      (subst (λ m. IsTrue here ↔ IsScoped T arities ys m g (arm_of a).body) el (subst (λ b. IsTrue here ↔ IsScoped T arities ys ms g b) (sym (ap (λ (a : ArmTree). a.body) (arm-is a))) h))

  pub body-scoped : (e : CodeBody) (ss : Vec Step Global) (r : Box CodeBody Global) (was : List Step) (rest : CodeBody) (xs mid : List ℕ) (ls lmid : List clean.Label) (c a b : Bool) → e ≡ Steps ss r
      → was ≡ ss.items → rest ≡ r.value → c ≡ (a && b) → IsTrue a ↔ StepsScoped T arities xs ls g (map step_of was) → mid ≡ after (map step_of was) xs → lmid ≡ labels_after (map step_of was) ls
      → IsTrue b ↔ IsScoped T arities mid lmid g (tree_of rest) → IsTrue c ↔ IsScoped T arities xs ls g (tree_of e)
  body-scoped e ss r was rest xs mid ls lmid c a b is es er ec ha em el hb =
      subst (λ d. IsTrue c ↔ IsScoped T arities xs ls g d) (sym (body-is e ss r was rest is es er)) (whole-scoped T arities g (map step_of was) xs mid ls lmid (tree_of rest) c a b ec ha em el hb)

  -- arms, and the last
  pub last-arms : (arms : List Arm) (last : CodeBody) (xs ys : List ℕ) (ls ms : List clean.Label) (c a b : Bool) → c ≡ (a && b)
      → IsTrue a ↔ AllByRecursion (ArmScoped T arities xs ls g) (map arm_of arms) → ys ≡ xs → ms ≡ ls → IsTrue b ↔ IsScoped T arities ys ms g (tree_of last)
      → IsTrue c ↔ AllScoped T arities xs ls g (bodies_of (map arm_of arms) (tree_of last))
  last-arms arms last xs ys ls ms c a b ec ha ex el hb =
      iff-along c (arms-scoped T arities g xs ls (map arm_of arms) (tree_of last))
      (both-is c a b ec ha (subst (λ l. IsTrue b ↔ IsScoped T arities l ls g (tree_of last)) ex (subst (λ m. IsTrue b ↔ IsScoped T arities ys m g (tree_of last)) el hb)))

switch-are : (x : ℕ) (arms : Vec Arm Global) (last : Box CodeBody Global) → tree_of (Switch x arms last) ≡ t.switch x (bodies_of (map arm_of arms.items) (tree_of last.value))
switch-are x arms last = ap tree_of (sym (rolls-Switch x arms last)) ∙ fold-roll-Body Body StepTree ArmTree node_body node_step node_arm (Body-F.Switch x arms last)

case-are : (x i : ℕ) (others : Vec Arm Global) (last : Box CodeBody Global) → step_of (Case x i others last) ≡ case_step x i (bodies_of (map arm_of others.items) (tree_of last.value))
case-are x i others last = ap step_of (sym (rolls-Case x i others last)) ∙ fold-roll-Step Body StepTree ArmTree node_body node_step node_arm (Step-F.Case x i others last)

module _ (T : Tables) (arities : List ℕ) (g : Bool) (x : ℕ) (arms : Vec Arm Global) (last : Box CodeBody Global) (was : List Arm) (end : CodeBody) (xs ys : List ℕ) (ls ms : List clean.Label) where
  -- where a cell and the arms are in scope
  cell-scoped : (h a b y c : Bool) → was ≡ arms.items → end ≡ last.value → h ≡ is_among x xs → IsTrue a ↔ AllByRecursion (ArmScoped T arities xs ls g) (map arm_of was) → ys ≡ xs → ms ≡ ls
      → IsTrue b ↔ IsScoped T arities ys ms g (tree_of end) → y ≡ (a && b) → c ≡ (h && y) → IsTrue c ↔ (IsIn xs x × AllScoped T arities xs ls g (bodies_of (map arm_of arms.items) (tree_of last.value)))
  cell-scoped h a b y c es ee eh ha ex el hb ey ec =
      subst (λ bs. IsTrue c ↔ (IsIn xs x × AllScoped T arities xs ls g bs)) (ap (λ l. bodies_of (map arm_of l) (tree_of end)) es ∙ ap (λ d. bodies_of (map arm_of arms.items) (tree_of d)) ee)
      (both-is c h y ec ((λ k. sym eh ∙ k), (λ k. eh ∙ k)) (last-arms T arities g was end xs ys ls ms y a b ey ha ex el hb))

  pub switch-scoped : (e : CodeBody) (h a b y c : Bool) → e ≡ Switch x arms last → was ≡ arms.items → end ≡ last.value → h ≡ is_among x xs
      → IsTrue a ↔ AllByRecursion (ArmScoped T arities xs ls g) (map arm_of was) → ys ≡ xs → ms ≡ ls → IsTrue b ↔ IsScoped T arities ys ms g (tree_of end) → y ≡ (a && b) → c ≡ (h && y)
      → IsTrue c ↔ IsScoped T arities xs ls g (tree_of e)
  switch-scoped e h a b y c is es ee eh ha ex el hb ey ec =
      subst (λ d. IsTrue c ↔ IsScoped T arities xs ls g d) (sym (ap tree_of is ∙ switch-are x arms last)) (cell-scoped h a b y c es ee eh ha ex el hb ey ec)

  pub case-scoped : (step : Step) (i : ℕ) (h a b y c : Bool) → step ≡ Case x i arms last → was ≡ arms.items → end ≡ last.value → h ≡ is_among x xs
      → IsTrue a ↔ AllByRecursion (ArmScoped T arities xs ls g) (map arm_of was) → ys ≡ xs → ms ≡ ls → IsTrue b ↔ IsScoped T arities ys ms g (tree_of end) → y ≡ (a && b) → c ≡ (h && y)
      → IsTrue c ↔ StepScoped T arities xs ls g (step_of step)
  case-scoped step i h a b y c is es ee eh ha ex el hb ey ec =
      subst (λ d. IsTrue c ↔ StepScoped T arities xs ls g d) (sym (ap step_of is ∙ case-are x i arms last)) (cell-scoped h a b y c es ee eh ha ex el hb ey ec)

pub found-at : (ls : List Label) (n : ℕ) (d : Label) → n < length ls → Some (label_of (get_or ls (length ls - 1 - n) d)) ≡ slice_get (labels_of ls) n
found-at ls n d lt = ap (λ l. Some (label_of l)) (sym (get_or-reverse ls n d lt)) ∙ mapped (reverse ls) n d (let r = length-reverse ls in omega (arith, r, lt))
  where
    mapped : (xs : List Label) (k : ℕ) (e : Label) → k < length xs → Some (label_of (get_or xs k e)) ≡ slice_get (map label_of xs) k
    mapped [] k e h = absurd (omega (arith, h))
    mapped (x ∷ xs) zero e h = refl
    mapped (x ∷ xs) (suc k) e h = mapped xs k e (omega (arith, h))

pub found-none : (ls : List Label) (n : ℕ) → length ls ≤ n → None ≡ slice_get (labels_of ls) n
found-none ls n le = past (reverse ls) n (let r = length-reverse ls in omega (arith, r, le))
  where
    past : (xs : List Label) (k : ℕ) → length xs ≤ k → None ≡ slice_get (map label_of xs) k
    past [] k h = refl
    past (x ∷ xs) zero h = absurd (omega (arith, h))
    past (x ∷ xs) (suc k) h = past xs k (omega (arith, h))

pub well-formed : (p : Ssa) (ars ars1 ars2 : List ℕ) (f1 f2 : List Fun) (a b s c x : Bool) → ars ≡ map arity (map fun_of f1) → f1 ≡ p.funs.items → ars1 ≡ ars → f2 ≡ p.funs.items → ars2 ≡ ars
    → IsTrue a ↔ AreTables (tables_of p.tables) → IsTrue b ↔ (slice_get ars2 0 ≡ Some 0) → IsTrue s ↔ AllByRecursion (FunScoped (tables_of p.tables) ars1) (map fun_of f2)
    → x ≡ (a && b) → c ≡ (x && s) → IsTrue c ↔ IsWellFormed (program_of p)
well-formed p ars ars1 ars2 f1 f2 a b s c x ea e1 ea1 e2 ea2 ha hb hs ex ec =
    let T = tables_of p.tables in
    let rows : ars ≡ map arity (map fun_of p.funs.items) = ea ∙ ap (λ l. map arity (map fun_of l)) e1 in
    let hb2 = subst (λ l. IsTrue b ↔ (slice_get l 0 ≡ Some 0)) (ea2 ∙ rows) hb in
    let hs2 = subst (λ l. IsTrue s ↔ AllByRecursion (FunScoped T l) (map fun_of p.funs.items)) (ea1 ∙ rows) (subst (λ l. IsTrue s ↔ AllByRecursion (FunScoped T ars1) (map fun_of l)) e2 hs) in
    let q = both-is c x s ec (both-is x a b ex ha hb2) hs2 in
    (λ k. let v = q.0 k in record { tables = v.0.0; main = v.0.1; scoped = v.1 }, λ v. q.1 ((v.tables, v.main), v.scoped))
