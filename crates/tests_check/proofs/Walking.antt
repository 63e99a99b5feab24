-- What the walk's functions need of their parts, at what was in scope before.
use Rattle.std.proofs.Common.{◌≡◌, ◌↔◌, ℕ, Bool, true, false, List, [], ◌∷◌, ◌++◌, map, take, length, IsTrue, refl, sym, ap, ◌∙◌, subst}
use Rattle.ty_core.specs.declared.scheme.Quantified.{Quantified}
use Rattle.ty_table.specs.TypeAt.{type_at}
use Rattle.ir_plain.specs.Tree as clean
use Rattle.ir_poly.specs.Tests.{poly, inst}
use Rattle.ir_poly.specs.Types.{over}
use Rattle.ir_tables.specs.declared.tables.Tables.{Tables}
use Rattle.ir_known.specs.declared.known.Known.{Known}
use Rattle.ir_known.specs.declared.known.Known.TheVariants.{OfType}
use Rattle.ir_known.specs.declared.scope.Mark.{Mark}
use Rattle.plain_tree.specs.declared.tree.Parameter.{Parameter}
use Rattle.plain_tree.specs.declared.tree.Exp.{Exp}
use Rattle.plain_tree.specs.declared.tree.Arm.{Arm}
use Rattle.plain_tree.specs.declared.tree.Function.{Function}
use Rattle.plain_tree.specs.TreeOf.{StepTree, put, test_step, arms_of, tree_of, arm_of, function_of}
use Rattle.tests_check.specs.Fits.{AtomFits, CaseFits}
use Rattle.tests_check.specs.Reads.{reading}
use Rattle.tests_check.specs.Walk.{Names, all, local, table_of, Grows, Brings, Refuses, Enters, Each, IsExp, IsArm, IsFunction, IsSince, Opens}
use Rattle.tests_check.proofs.Names.{not-yes}
use Rattle.tests_check.proofs.Lists.{all-taken}
use Rattle.tests_check.proofs.Steps.{grown-within}
use Rattle.tests_check.proofs.Exps.{exp-is, exp-was, arms-fit, fit-arms}
use Rattle.tests_check.proofs.Lets.{test-brings}
use Rattle.tests_check.proofs.Groups.{function-type}

-- the same parameters and variables are in scope as before

pub placed : (P : List Quantified → Names → Type 0) {D D' : List Quantified} {s s' : Names} → D' ≡ D → s' ≡ s → P D' s' → P D s
placed P {D} {D'} {s} {s'} d e p = subst (λ D. P D s) d (subst (λ s. P D' s) e p)

pub placed-back : (P : List Quantified → Names → Type 0) {D D' : List Quantified} {s s' : Names} → D' ≡ D → s' ≡ s → P D s → P D' s'
placed-back P {D} {D'} {s} {s'} d e p = subst (λ D. P D s') (sym d) (subst (λ s. P D s) (sym e) p)

pub brings-at : (t : Tables) (m : Bool) (v : ℕ) (old new : Names) {D D' : List Quantified} {f : clean.Exp poly → clean.Exp poly} → D' ≡ D → Brings t m D' v old new f → Brings t m D v old new f
brings-at t m v old new {f = f} d b = subst (λ D. Brings t m D v old new f) d b

pub refuses-at : (t : Tables) (m : Bool) (v : ℕ) (s : Names) {D D' : List Quantified} {f : clean.Exp poly → clean.Exp poly} → D' ≡ D → Refuses t m D' v s f → Refuses t m D v s f
refuses-at t m v s {f = f} d r = subst (λ D. Refuses t m D v s f) d r

-- lists that are gone along

pub each-first : {A : Type 0} (P : A → Type 0) (xs : List A) → Each P (take 0 xs)
each-first P [] = tt
each-first P (x ∷ xs) = tt

pub each-all : {A : Type 0} (P : A → Type 0) (xs : List A) (n : ℕ) → n ≡ length xs → Each P (take n xs) → Each P xs
each-all P xs n e = subst (Each P) (all-taken xs n e)

-- expressions

module _ (t : Tables) (m : Bool) (D : List Quantified) (s : Names) (e : Exp) where
  pub ret-fits : (a u : ℕ) → tree_of (reading t) e ≡ clean.ret (inst a []) → (b : Bool) → IsTrue b ↔ AtomFits (local t s) (inst a []) (type_at t.types u) → b ≡ true → IsExp t m D s e u
  ret-fits a u i b w y = exp-is t m D s e (clean.ret (inst a [])) u i (w.0 y)

  pub ret-misfits : (a u : ℕ) → tree_of (reading t) e ≡ clean.ret (inst a []) → (b : Bool) → IsTrue b ↔ AtomFits (local t s) (inst a []) (type_at t.types u) → b ≡ false → IsExp t m D s e u → ⊥
  ret-misfits a u i b w f p = not-yes f (w.1 (exp-was t m D s e (clean.ret (inst a [])) u i p))

  module _ (a o : ℕ) (arms : List Arm) (u : ℕ) (i : tree_of (reading t) e ≡ clean.switch (inst a []) (type_at t.types o) (arms_of (map (arm_of (reading t)) arms))) where
    abbrev switched : clean.Exp poly
    switched = clean.switch (inst a []) (type_at t.types o) (arms_of (map (arm_of (reading t)) arms))

    pub switch-fits : m ≡ true → AtomFits (local t s) (inst a []) (type_at t.types o) → Each (IsArm t D s o u) arms → IsExp t m D s e u
    switch-fits y p ps = exp-is t m D s e switched u i (y, p, arms-fit t D s o u arms ps)

    pub switch-misses : m ≡ false → IsExp t m D s e u → ⊥
    switch-misses f p = not-yes f (exp-was t m D s e switched u i p).0

    pub switch-atom : (b : Bool) → IsTrue b ↔ AtomFits (local t s) (inst a []) (type_at t.types o) → b ≡ false → IsExp t m D s e u → ⊥
    switch-atom b w f p = not-yes f (w.1 (exp-was t m D s e switched u i p).1)

    pub switch-arms : (Each (IsArm t D s o u) arms → ⊥) → IsExp t m D s e u → ⊥
    switch-arms n p = n (fit-arms t D s o u arms (exp-was t m D s e switched u i p).2)

-- tests

pub test-brings-at : (t : Tables) (m : Bool) (D D' : List Quantified) (v : ℕ) (old old' new : Names) (a u : ℕ) (c : clean.Case poly) (arms : List Arm) (s : StepTree poly)
    → s ≡ test_step (inst a []) (type_at t.types u) c (arms_of (map (arm_of (reading t)) arms)) → m ≡ true → AtomFits (local t old) (inst a []) (type_at t.types u) → Each (IsArm t D old u v) arms → old' ≡ old → D' ≡ D
    → Opens t D' old' new c u → Brings t m D v old new (put s)
test-brings-at t m D D' v old old' new a u c arms s e y f ps i d o = subst (λ m. Brings t m D v old new (put s)) (sym y) (test-brings t D D' v old old' new a u c arms s e f ps i d o)

pub case-at : (t : Tables) (D D' : List Quantified) (s s' : Names) (c : clean.Case poly) (u : ℕ) → D' ≡ D → s' ≡ s → CaseFits (table_of t) D (all t s) (local t s) c (type_at t.types u)
    → CaseFits (table_of t) D' (all t s') (local t s') c (type_at t.types u)
case-at t D D' s s' c u d e p = placed-back (λ D s. CaseFits (table_of t) D (all t s) (local t s) c (type_at t.types u)) d e p

pub function-over : (t : Tables) (D : List Quantified) (s : Names) (f : Function) → IsFunction t D s f → over D (type_at t.types f.ty) ≡ true
function-over t D s f p = subst (λ u. over D u ≡ true) (function-type (reading t) f) p.type

-- since a mark was made

pub since-same : (old rest : Names) (mark : Mark) → rest ≡ old → mark.len ≡ length (old.0 ++ old.1) → mark.start ≡ length old.1 → IsSince rest old mark
since-same old rest mark e l b = record { added = []; within = ap (λ (s : Names). s.0 ++ s.1) e; len = l; start = b }

pub since-grown : (old now rest : Names) (mark : Mark) → Grows old now → rest ≡ now → mark.len ≡ length (old.0 ++ old.1) → mark.start ≡ length old.1 → IsSince rest old mark
since-grown old now rest mark g e l b = record { added = g.added; within = grown-within old now rest g e; len = l; start = b }

pub since-entered : (t : Tables) (D : List Quantified) (old now rest : Names) (xs : List Parameter) (x : Parameter) (u v : ℕ) (mark : Mark) → Enters t D old now xs x u v → rest ≡ now → mark.len ≡ length (old.0 ++ old.1)
    → mark.start ≡ length old.1 → IsSince rest old mark
since-entered t D old now rest xs x u v mark i e l b = record { added = i.added; within = ap (λ (s : Names). s.0 ++ s.1) e ∙ i.within; len = l; start = b }

pub since-packet : (s s1 s2 s3 : Names) (x exn : ℕ) (mark : Mark) → s1 ≡ s → s2 ≡ ((x, OfType exn) ∷ s1.0, s1.1) → s3 ≡ s2 → mark.len ≡ length (s.0 ++ s.1) → mark.start ≡ length s.1 → IsSince s3 s mark
since-packet s s1 s2 s3 x exn mark i j k l b = record {
  added = (x, OfType exn) ∷ [];
  within = ap (λ (r : Names). r.0 ++ r.1) k ∙ ap (λ (r : Names). r.0 ++ r.1) j ∙ ap (λ (r : Names). (x, OfType exn) ∷ (r.0 ++ r.1)) i;
  len = l;
  start = b;
}
