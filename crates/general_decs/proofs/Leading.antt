-- Parameters that begin with those of type variables.
use Rattle.std.proofs.Common.{◌≡◌, ◌<◌, ◌≤◌, ◌+◌, ◌-◌, ℕ, zero, suc, List, [], ◌∷◌, ◌++◌, drop, length, take, get_or, refl, sym, ap, ap₂, ◌∙◌, arith}
use Rattle.std.proofs.Math.Seq.{take-suc}
use Rattle.std.proofs.lemmas.List.{take-append-drop}
use Rattle.ty_core.specs.declared.mark.Mark.{Mark}
use Rattle.ty_core.specs.declared.scheme.Quantified.{Quantified}
use Rattle.sml_tree.specs.declared.ident.Tyvar.{Tyvar}
use Rattle.core_rules.specs.Typing.{mark_of}
use Rattle.general_decs.specs.Scoped.{IsLedBy, tyvar_parameters}

take-next : {A : Type 0} (xs : List A) (i : ℕ) (x : A) → i < length xs → x ≡ get_or xs i x → take i xs ++ x ∷ [] ≡ take (i + 1) xs
take-next xs i x lt is =
    let up : suc i ≡ i + 1 = omega arith in ap (λ z. take i xs ++ z ∷ []) is ∙ sym (take-suc xs i x lt) ∙ ap (λ j. take j xs) up

taken : {A : Type 0} (xs : List A) (i : ℕ) → length xs ≤ i → take i xs ≡ xs
taken [] zero le = refl
taken [] (suc i) le = refl
taken (x ∷ xs) zero le = absurd (omega (arith, le))
taken (x ∷ xs) (suc i) le = ap (λ l. x ∷ l) (taken xs i (omega (arith, le)))

parameters-snoc : (v n : ℕ) (as_ : List Tyvar) (a : Tyvar) → n ≡ v + length as_
    → tyvar_parameters v (as_ ++ a ∷ []) ≡ tyvar_parameters v as_ ++ record { variable = n; mark = mark_of a } ∷ []
parameters-snoc v n [] a e = let q : v ≡ n = omega (arith, e) in ap (λ k. record { variable = k; mark = mark_of a } ∷ []) q
parameters-snoc v n (b ∷ as_) a e = ap (λ l. record { variable = v; mark = mark_of b } ∷ l) (parameters-snoc (suc v) n as_ a (omega (arith, e)))

take-length : {A : Type 0} (xs : List A) (i : ℕ) → i ≤ length xs → length (take i xs) ≡ i
take-length [] zero le = refl
take-length [] (suc i) le = absurd (omega (arith, le))
take-length (x ∷ xs) zero le = refl
take-length (x ∷ xs) (suc i) le = ap suc (take-length xs i (omega (arith, le)))

pub led-next : (ps : List Quantified) (v : ℕ) (as_ : List Tyvar) (i : ℕ) (p : Quantified) (a : Tyvar) → i < length ps → i < length as_ → p ≡ get_or ps i p → a ≡ get_or as_ i a
    → v ≤ p.variable → p.variable - v ≡ i → p.mark ≡ mark_of a → take i ps ≡ tyvar_parameters v (take i as_) → take (i + 1) ps ≡ tyvar_parameters v (take (i + 1) as_)
led-next ps v as_ i p a lp la ip ia le sub m h =
    let n : p.variable ≡ v + length (take i as_) = let q = take-length as_ i (omega (arith, la)) in omega (arith, le, sub, q) in
    let one : p ≡ record { variable = p.variable; mark = mark_of a } = ap (λ (k : Mark). record { variable = p.variable; mark = k }) m in
    sym (take-next ps i p lp ip) ∙ ap₂ (λ (l : List Quantified) (q : Quantified). l ++ q ∷ []) h one ∙ sym (parameters-snoc v p.variable (take i as_) a n)
    ∙ ap (tyvar_parameters v) (take-next as_ i a la ia)

pub led-ends : (ps : List Quantified) (v : ℕ) (as_ : List Tyvar) (i : ℕ) → length as_ ≤ i → take i ps ≡ tyvar_parameters v (take i as_) → IsLedBy v as_ ps
led-ends ps v as_ i le h = record {
  rest = drop i ps;
  is = sym (take-append-drop i ps) ∙ ap (λ l. l ++ drop i ps) (h ∙ ap (tyvar_parameters v) (taken as_ i le));
}

-- a list that begins with another is as long
pub longer : {A : Type 0} (xs ys : List A) → take (length xs) ys ≡ xs → length xs ≤ length ys
longer [] ys e = omega arith
longer (x ∷ xs) [] e = cc
longer (x ∷ xs) (y ∷ ys) e = let q : take (length xs) ys ≡ xs = cc in let r = longer xs ys q in omega (arith, r)

at-itself : {A : Type 0} (xs : List A) (i : ℕ) (d : A) → i < length xs → get_or xs i d ≡ get_or xs i (get_or xs i d)
at-itself [] i d lt = absurd (omega (arith, lt))
at-itself (x ∷ xs) zero d lt = refl
at-itself (x ∷ xs) (suc i) d lt = at-itself xs i d (omega (arith, lt))

pub led-at : (ps : List Quantified) (v : ℕ) (as_ : List Tyvar) (i : ℕ) (d : Quantified) (a : Tyvar) → i < length ps → i < length as_ → a ≡ get_or as_ i a
    → v ≤ (get_or ps i d).variable → (get_or ps i d).variable - v ≡ i → (get_or ps i d).mark ≡ mark_of a → take i ps ≡ tyvar_parameters v (take i as_)
    → take (i + 1) ps ≡ tyvar_parameters v (take (i + 1) as_)
led-at ps v as_ i d a lp la ia le sub m h = led-next ps v as_ i (get_or ps i d) a lp la (at-itself ps i d lp) ia le sub m h
