-- Types that are needed, each once, are counted, in whichever order.
use Rattle.std.proofs.Common.{◌≡◌, ℕ, suc, ◌+◌, ◌-◌, ◌<◌, ◌≤◌, List, [], ◌∷◌, length, Option, Some, None, option_map, nat_lt, Bool, true, false, if◌then◌else◌, refl, sym, ap, ap₂, ◌∙◌, subst, arith}
use Rattle.std.proofs.lemmas.Bool.{ltb-true}
use Rattle.mlc_prims.specs.declared.basis.BasisPrimitive.TheVariants.{Equals}
use Rattle.ty_core.specs.Types.{Typ, con, labels}
use Rattle.ir_plain.specs.Tree.{Exp, let_in, miss, prim_alone}
use Rattle.ir_plain.specs.Weight.{weight}
use Rattle.ir_poly.specs.Types.{Constructor}
use Rattle.monomorphise.specs.Monomorphise.{Named, alone}
use Rattle.monomorphise.specs.Expansion.{compared, IsOneOf, this, further, IsNeeded, needed_itself, needed_field, needed_argument, AreDifferent, one_differs}
use Rattle.monomorphise.specs.Counting.{needed_within, expansion_within}
use Rattle.monomorphise.proofs.Counted.{Counted, counts, passes, counted-right}
use Rattle.mono_needed.specs.Gathered.{a_field, an_argument, AreAllNeeded, AreNeeded, AllAreCounted, MoreArePast}

-- an expression that compares values of these types, and has no nodes of the source

abbrev comparing : List Typ → Exp Named
comparing [] = miss
comparing (t ∷ ts) = let_in (alone 0) tt t (prim_alone Equals t) (comparing ts)

compares : (ts : List Typ) → compared (comparing ts) ≡ ts
compares [] = refl
compares (t ∷ ts) = ap (λ l. t ∷ l) (compares ts)

weightless : (ts : List Typ) → weight (comparing ts) ≡ 0
weightless [] = refl
weightless (t ∷ ts) = let e : weight (comparing (t ∷ ts)) ≡ 0 + weight (comparing ts) = refl in let h = weightless ts in omega (arith, e, h)

-- the others, where a type is taken away
record Without (t : Typ) (us : List Typ) : Type 0 where
  rest : List Typ
  longer : length us ≡ suc (length rest)
  kept : (s : Typ) → (s ≡ t → ⊥) → IsOneOf s us → IsOneOf s rest

kept-here : (t : Typ) (us : List Typ) (s : Typ) → (s ≡ t → ⊥) → IsOneOf s (t ∷ us) → IsOneOf s us
kept-here t us s ne this = absurd (ne refl)
kept-here t us s ne (further q) = q

kept-more : (t u : Typ) (us rest : List Typ) → ((s : Typ) → (s ≡ t → ⊥) → IsOneOf s us → IsOneOf s rest) → (s : Typ) → (s ≡ t → ⊥) → IsOneOf s (u ∷ us) → IsOneOf s (u ∷ rest)
kept-more t u us rest k s ne this = this
kept-more t u us rest k s ne (further q) = further (k s ne q)

without : (t : Typ) (us : List Typ) → IsOneOf t us → Without t us
without t [] p = elim p [ ]
without t (u ∷ us) this = record { rest = us; longer = refl; kept = kept-here t us }
without t (u ∷ us) (further p) = let w = without t us p in record { rest = u ∷ w.rest; longer = ap suc w.longer; kept = kept-more t u us w.rest w.kept }

not-more : (ts us : List Typ) → AreDifferent ts → ((t : Typ) → IsOneOf t ts → IsOneOf t us) → length ts ≤ length us
not-more [] us d f = omega arith
not-more (t ∷ ts) us (one_differs n d) f =
    let w = without t us (f t this) in
    let r = not-more ts w.rest d (λ s q. w.kept s (λ e. n (subst (λ s. IsOneOf s ts) e q)) (f s (further q))) in
    let l = w.longer in
    omega arith

module _ (constructors : List Constructor) (roots : List Typ) where
  -- what is needed is there
  all-there : (ts : List Typ) → AreAllNeeded constructors roots ts → {t : Typ} → IsNeeded constructors roots t → IsOneOf t ts
  all-there ts a (needed_itself {t = t} i) = a.roots_are t i
  all-there ts a (needed_field {ls = ls} {ts = us} {t = t} h i) = a.parts_are (con (labels ls) us) t (all-there ts a h) (a_field ls us refl i)
  all-there ts a (needed_argument {t = t} {a = u} c h k) = a.parts_are t u (all-there ts a h) (an_argument c k)

  module _ (limit : ℕ) where
    abbrev counted-as : Option ℕ
    counted-as = option_map length (needed_within constructors limit [] roots)

    plain : (w : ℕ) → w ≡ 0 → (o : Option (List Typ)) → option_map (λ ts. w + length ts) o ≡ option_map length o
    plain w e None = refl
    plain w e (Some ts) = let p : w + length ts ≡ length ts = omega (arith, e) in ap Some p

    written : (w : ℕ) (l : List Typ) → w ≡ 0 → l ≡ roots → (b : Bool) → nat_lt limit w ≡ b → (if b then None else option_map (λ ts. w + length ts) (needed_within constructors (limit - w) [] l)) ≡ counted-as
    written w l e i true h = let p = ltb-true limit w h in absurd (omega (arith, e, p))
    written w l e i false h =
        let p : limit - w ≡ limit = omega (arith, e) in
        plain w e (needed_within constructors (limit - w) [] l) ∙ ap₂ (λ n l. option_map length (needed_within constructors n [] l)) p i

    as-written : expansion_within limit constructors (comparing roots) ≡ counted-as
    as-written = written (weight (comparing roots)) (compared (comparing roots)) (weightless roots) (compares roots) (nat_lt limit (weight (comparing roots))) refl

    module _ (ts : List Typ) where
      by-all : AreAllNeeded constructors roots ts → length ts ≤ limit → {o : Option ℕ} → Counted constructors limit (comparing roots) o → o ≡ Some (length ts)
      by-all a le (counts {n = n} x m) =
          let there : (t : Typ) → IsOneOf t x.types → IsOneOf t ts = λ t q. all-there ts a (subst (λ l. IsNeeded constructors l t) (compares roots) (x.only t q)) in
          let back : (t : Typ) → IsOneOf t ts → IsOneOf t x.types = λ t q. x.all t (subst (λ l. IsNeeded constructors l t) (sym (compares roots)) (a.only t q)) in
          let p = not-more x.types ts x.each_once there in
          let q = not-more ts x.types a.each_once back in
          let c = x.count in
          let w = weightless roots in
          let e : n ≡ length ts = omega (arith, p, q, c, w) in ap Some e
      by-all a le (passes x) =
          let there : (t : Typ) → IsOneOf t x.types → IsOneOf t ts = λ t q. all-there ts a (subst (λ l. IsNeeded constructors l t) (compares roots) (x.only t q)) in
          let p = not-more x.types ts x.each_once there in
          let c = x.past in
          let w = weightless roots in
          absurd (omega (arith, p, c, w, le))

      by-more : AreNeeded constructors roots ts → limit < length ts → {o : Option ℕ} → Counted constructors limit (comparing roots) o → o ≡ None
      by-more a lt (counts {n = n} x m) =
          let back : (t : Typ) → IsOneOf t ts → IsOneOf t x.types = λ t q. x.all t (subst (λ l. IsNeeded constructors l t) (sym (compares roots)) (a.only t q)) in
          let q = not-more ts x.types a.each_once back in
          let c = x.count in
          let w = weightless roots in
          absurd (omega (arith, q, c, w, lt, m))
      by-more a lt (passes x) = refl

  none-mapped : (o : Option (List Typ)) → option_map length o ≡ None → o ≡ None
  none-mapped None e = refl
  none-mapped (Some ts) e = absurd (cc)

pub all-counted : AllAreCounted
all-counted constructors limit roots ts a le = sym (as-written constructors roots limit) ∙ by-all constructors roots limit ts a le (counted-right constructors limit (comparing roots))

pub more-past : MoreArePast
more-past constructors limit roots ts a lt =
    none-mapped constructors roots (needed_within constructors limit [] roots) (sym (as-written constructors roots limit) ∙ by-more constructors roots limit ts a lt (counted-right constructors limit (comparing roots)))
