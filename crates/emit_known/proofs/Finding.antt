-- What a walk finds is what the tree makes.
use Rattle.std.proofs.Common.{◌≡◌, refl, ℕ, zero, suc, ◌+◌, ◌<◌, List, [], ◌∷◌, ◌++◌, length, map, take, Bool, true, false, ◌||◌, nat_eq, sym, ap, ◌∙◌, subst, arith, append_assoc, append-nil, get_or}
use Rattle.std.specs.Prelude.{All, Contains}
use Rattle.std.proofs.lemmas.Bool.{eqb-true, eq-eqb, false≢true}
use Rattle.std.proofs.lemmas.List.{map_more}
use Rattle.std.proofs.lemmas.List.Elements.{All-contains, All-from_get_or}
use Rattle.ir_ssa.specs.Tree.{Body, Fun}
use Rattle.ssa_tree.specs.TreeOf.{StepTree, ArmTree, plain_step, make_step, call_step, attempt_step, turn_step, label_step, again_step, when_step, unless_step, case_step, put, onto, bodies_of}
use Rattle.ssa_tree.specs.Exceptions.{makes, bodies_make, funs_make}
use Rattle.first_tables.specs.Exceptions.{made_by}
use Rattle.image_law.specs.ImageOf.{has}
use Rattle.emit_known.specs.Found.{Adds, step_makes, steps_make, arms_make}

pub or-nothing : (a : Bool) → a ≡ (a || false)
or-nothing true = refl
or-nothing false = refl

pub or-assoc : (a b c : Bool) → ((a || b) || c) ≡ (a || (b || c))
or-assoc true b c = refl
or-assoc false b c = refl

or-swap : (a b : Bool) → (a || b) ≡ (b || a)
or-swap true true = refl
or-swap true false = refl
or-swap false true = refl
or-swap false false = refl

pub has-append : (xs ys : List ℕ) (i : ℕ) → has (xs ++ ys) i ≡ (has xs i || has ys i)
has-append [] ys i = refl
has-append (x ∷ xs) ys i = ap (λ b. nat_eq i x || b) (has-append xs ys i) ∙ sym (or-assoc (nat_eq i x) (has xs i) (has ys i))

has-swapped : (xs ys : List ℕ) (i : ℕ) → has (ys ++ xs) i ≡ (has xs i || has ys i)
has-swapped xs ys i = has-append ys xs i ∙ or-swap (has ys i) (has xs i)

-- a step and the rest
put-has : (g : StepTree) (b : Body) (i : ℕ) → has (makes (put g b)) i ≡ (has (step_makes g) i || has (makes b) i)
put-has (plain_step p xs x) b i = has-append (made_by p) (makes b) i
put-has (make_step t ps x) b i = refl
put-has (call_step p c xs x) b i = refl
put-has (attempt_step k p xs x d) b i = has-append (makes d) (makes b) i
put-has (turn_step p) b i = refl
put-has (label_step xs d) b i = has-append (makes d) (makes b) i
put-has (again_step xs d) b i = has-append (makes d) (makes b) i
put-has (when_step q xs d) b i = has-swapped (makes d) (makes b) i
put-has (unless_step q xs d) b i = has-append (makes d) (makes b) i
put-has (case_step x t others) b i = has-swapped (bodies_make others) (makes b) i

onto-has : (gs : List StepTree) (b : Body) (i : ℕ) → has (makes (onto gs b)) i ≡ (has (steps_make gs) i || has (makes b) i)
onto-has [] b i = refl
onto-has (g ∷ gs) b i =
    put-has g (onto gs b) i ∙ ap (λ z. has (step_makes g) i || z) (onto-has gs b i) ∙ sym (or-assoc (has (step_makes g) i) (has (steps_make gs) i) (has (makes b) i))
    ∙ ap (λ z. z || has (makes b) i) (sym (has-append (step_makes g) (steps_make gs) i))

bodies-make : (arms : List ArmTree) (b : Body) → bodies_make (bodies_of arms b) ≡ arms_make arms ++ makes b
bodies-make [] b = refl
bodies-make (a ∷ arms) b = ap (λ l. makes a.body ++ l) (bodies-make arms b) ∙ sym (append_assoc (makes a.body) (arms_make arms) (makes b))

pub adds-nothing : (old : List ℕ) → Adds old [] old
adds-nothing old i = or-nothing (has old i)

pub adds-both : (old a mid b new : List ℕ) → Adds old a mid → Adds mid b new → Adds old (a ++ b) new
adds-both old a mid b new h g i =
    g i ∙ ap (λ z. z || has b i) (h i) ∙ or-assoc (has old i) (has a i) (has b i) ∙ ap (λ z. has old i || z) (sym (has-append a b i))

pub adds-steps : (gs : List StepTree) (b : Body) (old mid new : List ℕ) → Adds old (steps_make gs) mid → Adds mid (makes b) new → Adds old (makes (onto gs b)) new
adds-steps gs b old mid new h g i =
    g i ∙ ap (λ z. z || has (makes b) i) (h i) ∙ or-assoc (has old i) (has (steps_make gs) i) (has (makes b) i)
    ∙ ap (λ z. has old i || z) (sym (onto-has gs b i))

pub adds-choice : (arms : List ArmTree) (b : Body) (old mid new : List ℕ) → Adds old (arms_make arms) mid → Adds mid (makes b) new
    → Adds old (bodies_make (bodies_of arms b)) new
adds-choice arms b old mid new h g = subst (λ l. Adds old l new) (sym (bodies-make arms b)) (adds-both old (arms_make arms) mid (makes b) new h g)

pub adds-name : (old new : List ℕ) (n : ℕ) → new ≡ old ++ n ∷ [] → Adds old (n ∷ []) new
adds-name old new n e i = ap (λ l. has l i) e ∙ has-append old (n ∷ []) i

-- one more of what a loop goes over
steps-push : (gs : List StepTree) (g : StepTree) → steps_make (gs ++ g ∷ []) ≡ steps_make gs ++ step_makes g
steps-push [] g = append-nil (step_makes g)
steps-push (h ∷ gs) g = ap (λ l. step_makes h ++ l) (steps-push gs g) ∙ sym (append_assoc (step_makes h) (steps_make gs) (step_makes g))

arms-push : (arms : List ArmTree) (a : ArmTree) → arms_make (arms ++ a ∷ []) ≡ arms_make arms ++ makes a.body
arms-push [] a = append-nil (makes a.body)
arms-push (h ∷ arms) a = ap (λ l. makes h.body ++ l) (arms-push arms a) ∙ sym (append_assoc (makes h.body) (arms_make arms) (makes a.body))

funs-push : (funs : List Fun) (f : Fun) → funs_make (funs ++ f ∷ []) ≡ funs_make funs ++ makes f.body
funs-push [] f = append-nil (makes f.body)
funs-push (h ∷ funs) f = ap (λ l. makes h.body ++ l) (funs-push funs f) ∙ sym (append_assoc (makes h.body) (funs_make funs) (makes f.body))

module _ {X : Type 0} (xs : List X) (k : ℕ) (d : X) (lt : k < length xs) (old mid new : List ℕ) where
  pub steps-next : (step : X → StepTree) → Adds old (steps_make (map step (take k xs))) mid → Adds mid (step_makes (step (get_or xs k d))) new
      → Adds old (steps_make (map step (take (k + 1) xs))) new
  steps-next step h g =
      subst (λ l. Adds old l new) (sym (ap steps_make (map_more step xs k d lt) ∙ steps-push (map step (take k xs)) (step (get_or xs k d))))
      (adds-both old (steps_make (map step (take k xs))) mid (step_makes (step (get_or xs k d))) new h g)

  pub arms-next : (arm : X → ArmTree) → Adds old (arms_make (map arm (take k xs))) mid → Adds mid (makes (arm (get_or xs k d)).body) new
      → Adds old (arms_make (map arm (take (k + 1) xs))) new
  arms-next arm h g =
      subst (λ l. Adds old l new) (sym (ap arms_make (map_more arm xs k d lt) ∙ arms-push (map arm (take k xs)) (arm (get_or xs k d))))
      (adds-both old (arms_make (map arm (take k xs))) mid (makes (arm (get_or xs k d)).body) new h g)

  pub funs-next : (fun : X → Fun) → Adds old (funs_make (map fun (take k xs))) mid → Adds mid (makes (fun (get_or xs k d)).body) new
      → Adds old (funs_make (map fun (take (k + 1) xs))) new
  funs-next fun h g =
      subst (λ l. Adds old l new) (sym (ap funs_make (map_more fun xs k d lt) ∙ funs-push (map fun (take k xs)) (fun (get_or xs k d))))
      (adds-both old (funs_make (map fun (take k xs))) mid (makes (fun (get_or xs k d)).body) new h g)

pub found-all : (initial made found : List ℕ) → Adds initial made found → (i : ℕ) → has found i ≡ has (initial ++ made) i
found-all initial made found h i = h i ∙ sym (has-append initial made i)

-- what holds of all of these holds of all that are found
has-at : (xs : List ℕ) (i k : ℕ) → k < length xs → get_or xs k 0 ≡ i → has xs i ≡ true
has-at [] i k lt e = absurd (omega (arith, lt))
has-at (x ∷ xs) i zero lt e = ap (λ b. b || has xs i) (eq-eqb i x (sym e))
has-at (x ∷ xs) i (suc k) lt e = ap (λ b. nat_eq i x || b) (has-at xs i k (omega (arith, lt)) e) ∙ or-swap (nat_eq i x) true

contained : (xs : List ℕ) (i : ℕ) → has xs i ≡ true → Contains xs i
contained [] i h = absurd (false≢true h)
contained (x ∷ xs) i h = at (contained xs i) (nat_eq i x) refl h
  where
    at : (has xs i ≡ true → Contains xs i) → (b : Bool) → nat_eq i x ≡ b → (b || has xs i) ≡ true → Contains (x ∷ xs) i
    at rest true e g = (0, omega arith, sym (eqb-true i x e))
    at rest false e g = let c = rest g in (suc c.0, (let lt = c.1 in omega (arith, lt)), c.2)

pub all-found : (P : ℕ → Type 0) (made found : List ℕ) → ((i : ℕ) → has found i ≡ has made i) → All P made → All P found
all-found P made found same all =
    All-from_get_or P found 0 (λ k lt. All-contains P made (get_or found k 0) all (contained made (get_or found k 0) (sym (same (get_or found k 0)) ∙ has-at found (get_or found k 0) k lt refl)))
