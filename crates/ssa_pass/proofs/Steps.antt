-- What the code makes of steps in a row, one after the other.
use Rattle.std.proofs.Common.{◌≡◌, ℕ, zero, suc, ◌+◌, ◌<◌, ◌≤◌, List, [], ◌∷◌, ◌++◌, Bool, true, false, ◌&&◌, nat_eq, map, take, drop, get_or, length, refl, sym, ap, ◌∙◌, arith}
use Rattle.std.proofs.lemmas.Bool.{eqb-true, eqb-false}
use Rattle.std.proofs.lemmas.List.{take_more, drop_more}
use Rattle.ir_first.specs.Tree as f
use Rattle.first_tree.specs.TreeOf as source
use Rattle.first_tree.specs.TreeOf.{let_step, turn_step, try_step, when_step, unless_step, case_step}
use Rattle.first_tree.specs.declared.tree.Step.{Step}
use Rattle.ir_ssa.specs.Tree as s
use Rattle.ssa_tree.specs.TreeOf as target
use Rattle.ssa_build.specs.Build.{Exit, is_last, build, build_arms}
use Rattle.ssa_pass.specs.Built.{ends_with, build_arm}

pub map-last : {A B : Type 0} (g : A → B) (xs : List A) (x : A) → map g (xs ++ x ∷ []) ≡ map g xs ++ g x ∷ []
map-last g [] x = refl
map-last g (y ∷ ys) x = ap (λ l. g y ∷ l) (map-last g ys x)

pub seen : {A B : Type 0} (g : A → B) (xs : List A) (i : ℕ) (x d : A) → i < length xs → x ≡ get_or xs i d → map g (take (i + 1) xs) ≡ map g (take i xs) ++ g x ∷ []
seen g xs i x d lt is = ap (map g) (take_more xs i d lt ∙ ap (λ y. take i xs ++ y ∷ []) (sym is)) ∙ map-last g (take i xs) x

pub onto-last : (gs : List target.StepTree) (g : target.StepTree) (b : s.Body) → target.onto (gs ++ g ∷ []) b ≡ target.onto gs (target.put g b)
onto-last [] g b = refl
onto-last (h ∷ gs) g b = ap (target.put h) (onto-last gs g b)

-- a step gives no value back
pub not-last : (x : ℕ) (r : source.StepTree) (e : f.Exp) → is_last x (source.put r e) ≡ false
not-last x (let_step y o) e = refl
not-last x (turn_step p) e = refl
not-last x (try_step d) e = refl
not-last x (when_step q ys d) e = refl
not-last x (unless_step q ys d) e = refl
not-last x (case_step y i others) e = refl

not-ends : (s r : source.StepTree) (e : f.Exp) → ends_with s (source.put r e) ≡ false
not-ends (let_step x o) r e = not-last x r e
not-ends (turn_step p) r e = refl
not-ends (try_step d) r e = refl
not-ends (when_step q ys d) r e = refl
not-ends (unless_step q ys d) r e = refl
not-ends (case_step y i others) r e = refl

all-left : (ss : List Step) (i : ℕ) → length ss ≤ i → drop i ss ≡ []
all-left [] zero le = refl
all-left [] (suc i) le = refl
all-left (x ∷ xs) zero le = absurd (omega (arith, le))
all-left (x ∷ xs) (suc i) le = all-left xs i (omega (arith, le))

-- whether a step is the last, and what comes of the steps gives its value back
pub ends-is : (s : source.StepTree) (ss : List Step) (i : ℕ) (e : f.Exp) → i < length ss
    → ends_with s (source.onto (map source.step_of (drop (i + 1) ss)) e) ≡ (nat_eq (i + 1) (length ss) && ends_with s e)
ends-is s ss i e lt = by (nat_eq (i + 1) (length ss)) refl
  where
    more : (rs : List Step) (j : ℕ) → j < length rs → ends_with s (source.onto (map source.step_of (drop j rs)) e) ≡ false
    more [] j h = absurd (omega (arith, h))
    more (r ∷ rs) zero h = not-ends s (source.step_of r) (source.onto (map source.step_of rs) e)
    more (r ∷ rs) (suc j) h = more rs j (omega (arith, h))

    by : (q : Bool) → nat_eq (i + 1) (length ss) ≡ q → ends_with s (source.onto (map source.step_of (drop (i + 1) ss)) e) ≡ (q && ends_with s e)
    by true k = let n = eqb-true (i + 1) (length ss) k in ap (λ l. ends_with s (source.onto (map source.step_of l) e)) (all-left ss (i + 1) (omega (arith, n)))
    by false k = more ss (i + 1) (let n = eqb-false (i + 1) (length ss) k in omega (arith, lt, n))

module _ (t : Exit) (m : ℕ) (ss : List Step) (i : ℕ) (x d : Step) (e : f.Exp) (last : Bool) (gs : List target.StepTree) (whole : s.Body) where
  -- what is left from here on
  from-here : i < length ss → x ≡ get_or ss i d → last ≡ (nat_eq (i + 1) (length ss) && ends_with (source.step_of x) e)
      → (b : s.Body) → ((c : f.Exp) → last ≡ ends_with (source.step_of x) c → b ≡ build t m (source.put (source.step_of x) c)) → b ≡ build t m (source.onto (map source.step_of (drop i ss)) e)
  from-here lt is h b k =
      k (source.onto (map source.step_of (drop (i + 1) ss)) e) (h ∙ sym (ends-is (source.step_of x) ss i e lt))
      ∙ ap (λ y. build t m (source.put (source.step_of y) (source.onto (map source.step_of (drop (i + 1) ss)) e))) is ∙ ap (λ l. build t m (source.onto (map source.step_of l) e)) (sym (drop_more ss i d lt))

  pub step-next : (new : List target.StepTree) (g : target.StepTree) → i < length ss → x ≡ get_or ss i d → last ≡ (nat_eq (i + 1) (length ss) && ends_with (source.step_of x) e) → new ≡ gs ++ g ∷ []
      → ((c : f.Exp) → last ≡ ends_with (source.step_of x) c → target.put g (build t m c) ≡ build t m (source.put (source.step_of x) c))
      → target.onto gs (build t m (source.onto (map source.step_of (drop i ss)) e)) ≡ whole → target.onto new (build t m (source.onto (map source.step_of (drop (i + 1) ss)) e)) ≡ whole
  step-next new g lt is h n k w =
      let rest = source.onto (map source.step_of (drop (i + 1) ss)) e in
      ap (λ l. target.onto l (build t m rest)) n ∙ onto-last gs g (build t m rest)
      ∙ ap (target.onto gs) (k rest (h ∙ sym (ends-is (source.step_of x) ss i e lt)) ∙ ap (λ y. build t m (source.put (source.step_of y) rest)) is
      ∙ ap (λ l. build t m (source.onto (map source.step_of l) e)) (sym (drop_more ss i d lt))) ∙ w

  pub end-here : (b : s.Body) → i < length ss → x ≡ get_or ss i d → last ≡ (nat_eq (i + 1) (length ss) && ends_with (source.step_of x) e)
      → ((c : f.Exp) → last ≡ ends_with (source.step_of x) c → b ≡ build t m (source.put (source.step_of x) c))
      → target.onto gs (build t m (source.onto (map source.step_of (drop i ss)) e)) ≡ whole → target.onto gs b ≡ whole
  end-here b lt is h k w = ap (target.onto gs) (from-here lt is h b k) ∙ w

pub none-left : (t : Exit) (m : ℕ) (ss : List Step) (i : ℕ) (e : f.Exp) → length ss ≤ i → build t m (source.onto (map source.step_of (drop i ss)) e) ≡ build t m e
none-left t m ss i e le = ap (λ l. build t m (source.onto (map source.step_of l) e)) (all-left ss i le)

pub arms-are : (t : Exit) (m : ℕ) (arms : List source.ArmTree) → target.bodies_of (map (build_arm t m) arms) (s.goto m []) ≡ build_arms t m (source.arms_of arms)
arms-are t m [] = refl
arms-are t m (a ∷ arms) = ap (s.arm a.tag (build t m a.body)) (arms-are t m arms)
