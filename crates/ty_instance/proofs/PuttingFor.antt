-- Types put for variables that are given one by one.
use Rattle.std.proofs.Common.{◌≡◌, ◌<◌, ◌≤◌, ◌+◌, ℕ, zero, suc, Bool, true, false, cond, nat_eq, if◌then◌else◌, List, [], ◌∷◌, ◌++◌, length, map, take, get_or, Option, Some, None, unwrap_or, refl, sym, ap, ap₂, subst, ◌∙◌, arith}
use Rattle.std.specs.Option.{option_map, option_or}
use Rattle.std.proofs.lemmas.Bool.{eqb-true}
use Rattle.std.proofs.lemmas.Option.{slice_get-get_or}
use Rattle.std.proofs.Math.Seq.{take-suc}
use Rattle.ty_solve.specs.of_ty_core.Types.{Typ, var}
use Rattle.ty_solve.specs.of_ty_table.TypeAt.{type_at, AllBelow}
use Rattle.ty_solve.proofs.Holding.{type-stays}
use Rattle.ty_solve.specs.Substitution.{Entry}
use Rattle.ty_instance.specs.Put.{put_for, first_at, put_at, AreHeld}
use Rattle.ty_instance.specs.Steps.{Going, Moves}
use Rattle.ty_instance.specs.declared.step.Step.{Step}
use Rattle.ty_instance.specs.declared.step.Step.TheVariants.{Visit}
use Rattle.ty_instance.proofs.Going.{longer, whole, last-step}
use Rattle.ty_instance.proofs.Putting.{IsVariable, going-puts}

-- a variable's first image

pub noted : (v image : ℕ) (old new : ℕ → Option ℕ) → old v ≡ None → ((q : ℕ) → new q ≡ cond (nat_eq v q) (Some image) (old q)) → (x : ℕ) → new x ≡ option_or (old x) (if nat_eq v x then Some image else None)
noted v image old new none u x = u x ∙ go (nat_eq v x) refl
  where
    go : (b : Bool) → nat_eq v x ≡ b → cond b (Some image) (old x) ≡ option_or (old x) (if b then Some image else None)
    go true c = ap (λ o. option_or o (Some image)) (sym none ∙ ap old (eqb-true v x c))
    go false c = keep (old x)
      where
        keep : (o : Option ℕ) → o ≡ option_or o None
        keep None = refl
        keep (Some k) = refl

pub kept : (v image : ℕ) (old : ℕ → Option ℕ) (k : ℕ) → old v ≡ Some k → (x : ℕ) → old x ≡ option_or (old x) (if nat_eq v x then Some image else None)
kept v image old k some x = go (nat_eq v x) refl
  where
    stays : (o : Option ℕ) → o ≡ option_or o None
    stays None = refl
    stays (Some j) = refl

    go : (b : Bool) → nat_eq v x ≡ b → old x ≡ option_or (old x) (if b then Some image else None)
    go true c = let e : old x ≡ Some k = ap old (sym (eqb-true v x c)) ∙ some in e ∙ sym (ap (λ o. option_or o (Some image)) e)
    go false c = stays (old x)

pub first-more : (ps ks : List ℕ) (p k v : ℕ) → length ps ≡ length ks → first_at (ps ++ p ∷ []) (ks ++ k ∷ []) v ≡ option_or (first_at ps ks v) (if nat_eq p v then Some k else None)
first-more [] [] p k v e = refl
first-more [] (j ∷ ks) p k v e = absurd (omega arith)
first-more (q ∷ ps) [] p k v e = absurd (omega arith)
first-more (q ∷ ps) (j ∷ ks) p k v e = go (nat_eq q v) (first-more ps ks p k v (omega arith))
  where
    go : (b : Bool) → first_at (ps ++ p ∷ []) (ks ++ k ∷ []) v ≡ option_or (first_at ps ks v) (if nat_eq p v then Some k else None) → (if b then Some j else first_at (ps ++ p ∷ []) (ks ++ k ∷ []) v) ≡ option_or (if b then Some j else first_at ps ks v) (if nat_eq p v then Some k else None)
    go true h = refl
    go false h = h

taken-length : (l : List ℕ) (i : ℕ) → i ≤ length l → length (take i l) ≡ i
taken-length l zero le = refl
taken-length [] (suc i) le = absurd (omega arith)
taken-length (x ∷ l) (suc i) le = ap suc (taken-length l i (omega arith))

pub first-next : (ps ks : List ℕ) (i v : ℕ) → i < length ps → length ks ≡ length ps → first_at (take (i + 1) ps) (take (i + 1) ks) v ≡ option_or (first_at (take i ps) (take i ks) v) (if nat_eq (get_or ps i 0) v then Some (get_or ks i 0) else None)
first-next ps ks i v lt e =
    let n : i + 1 ≡ suc i = omega arith in
    ap (λ j. first_at (take j ps) (take j ks) v) n
    ∙ ap₂ (λ l m. first_at l m v) (take-suc ps i 0 lt) (take-suc ks i 0 (omega arith))
    ∙ first-more (take i ps) (take i ks) (get_or ps i 0) (get_or ks i 0) v (taken-length ps i (omega arith) ∙ sym (taken-length ks i (omega arith)))

whole-list : (l : List ℕ) (i : ℕ) → i ≡ length l → take i l ≡ l
whole-list l i e = ap (λ j. take j l) e ∙ whole l

pub first-whole : (ps ks : List ℕ) (i v : ℕ) → i ≡ length ps → length ks ≡ length ps → first_at (take i ps) (take i ks) v ≡ first_at ps ks v
first-whole ps ks i v e h = ap₂ (λ l m. first_at l m v) (whole-list ps i e) (whole-list ks i (e ∙ sym h))

-- what a variable becomes

pub put-first : (ts : List Typ) (ps ks : List ℕ) (images : ℕ → Option ℕ) (v : ℕ) → images v ≡ first_at ps ks v → put_at ts images v ≡ put_for ps (map (type_at ts) ks) v
put-first ts ps ks images v e = ap (λ o. unwrap_or (option_map (type_at ts) o) (var v)) e ∙ go ps ks
  where
    go : (ps ks : List ℕ) → unwrap_or (option_map (type_at ts) (first_at ps ks v)) (var v) ≡ put_for ps (map (type_at ts) ks) v
    go [] ks = refl
    go (p ∷ ps) [] = refl
    go (p ∷ ps) (k ∷ ks) = here (nat_eq p v) (go ps ks)
      where
        here : (b : Bool) → unwrap_or (option_map (type_at ts) (first_at ps ks v)) (var v) ≡ put_for ps (map (type_at ts) ks) v → unwrap_or (option_map (type_at ts) (if b then Some k else first_at ps ks v)) (var v) ≡ (if b then type_at ts k else put_for ps (map (type_at ts) ks) v)
        here true h = refl
        here false h = h

pub first-held : (n : ℕ) (ps ks : List ℕ) (images : ℕ → Option ℕ) → ((v : ℕ) → images v ≡ first_at ps ks v) → AllBelow n ks → AreHeld n images
first-held n ps ks images e h v k i = go ps ks h (sym (e v) ∙ i)
  where
    go : (ps ks : List ℕ) → AllBelow n ks → first_at ps ks v ≡ Some k → k < n
    go [] ks h i = cc
    go (p ∷ ps) [] h i = cc
    go (p ∷ ps) (j ∷ ks) h i = here (go ps ks h.1) (nat_eq p v) i
      where
        here : (first_at ps ks v ≡ Some k → k < n) → (b : Bool) → (if b then Some j else first_at ps ks v) ≡ Some k → k < n
        here rest true i = let q : j ≡ k = cc in subst (λ x. x < n) q h.0
        here rest false i = rest i

pub put-stays : (ts us : List Typ) (images : ℕ → Option ℕ) (v : ℕ) → take (length ts) us ≡ ts → AreHeld (length ts) images → put_at us images v ≡ put_at ts images v
put-stays ts us images v e h = go (images v) refl
  where
    go : (o : Option ℕ) → images v ≡ o → unwrap_or (option_map (type_at us) o) (var v) ≡ unwrap_or (option_map (type_at ts) o) (var v)
    go None i = refl
    go (Some k) i = type-stays ts us k e (h v k i)

pub going-image : (ts : List Typ) (s : ℕ → Entry) (f : ℕ → Typ) (w : ℕ → ℕ) (images made later : ℕ → Option ℕ) (rest new : List Step) (k v r goal : ℕ) → AreHeld (length ts) images → r ≡ unwrap_or (images v) k → ((q : ℕ) → later q ≡ cond (nat_eq k q) (Some r) (made q)) → IsVariable ts k v rest new → f v ≡ put_at ts images v → Going ts s f made (rest ++ Visit k ∷ []) goal → Moves ts ts s f w made later (rest ++ Visit k ∷ []) new goal
going-image ts s f w images made later rest new k v r goal held e u x p g =
    let q = go (images v) refl in
    going-puts ts ts s f w made later rest new k v r goal (type_at ts r) (whole ts) u x (slice_get-get_or ts r (var 0) q.0) (p ∙ q.1) g
  where
    go : (o : Option ℕ) → images v ≡ o → (r < length ts) × (put_at ts images v ≡ type_at ts r)
    go None i =
        let same : k ≡ r = sym (e ∙ ap (λ o. unwrap_or o k) i) in
        (subst (λ y. y < length ts) same (last-step ts s made rest (Visit k) g.order), ap (λ o. unwrap_or (option_map (type_at ts) o) (var v)) i ∙ sym x.is ∙ ap (type_at ts) same)
    go (Some j) i =
        let same : j ≡ r = sym (e ∙ ap (λ o. unwrap_or o k) i) in
        (subst (λ y. y < length ts) same (held v j i), ap (λ o. unwrap_or (option_map (type_at ts) o) (var v)) i ∙ ap (type_at ts) same)

pub held-grown : (ts us : List Typ) (images : ℕ → Option ℕ) → take (length ts) us ≡ ts → AreHeld (length ts) images → AreHeld (length us) images
held-grown ts us images e h v k i = let n = longer ts us e in let lt = h v k i in omega arith
