-- Instances, with types for the parameters in scope.
use Rattle.std.proofs.Common.{◌≡◌, ℕ, zero, suc, ◌+◌, Bool, true, false, List, [], ◌∷◌, ◌++◌, map, length, Option, Some, None, nat_eq, if◌then◌else◌, refl, sym, ap, subst, ◌∙◌, eqb-true, eq-eqb, arith}
use Rattle.std.specs.Prelude.{unwrap_or, option_map, ◌-◌, nat_lt}
use Rattle.std.proofs.lemmas.List.{length-map}
use Rattle.ty_core.specs.Types.{Typ, var, con, name, Typs, none, more, typs_of, no_variable, admits}
use Rattle.ty_core.specs.Marks.{Allows, overloaded}
use Rattle.ty_core.specs.Statics.{replace, replace_all}
use Rattle.ty_core.specs.declared.mark.Mark.{Mark}
use Rattle.ty_core.specs.declared.mark.Mark.TheVariants.{Any, Equality, Class}
use Rattle.ty_core.specs.declared.scheme.Quantified.{Quantified}
use Rattle.core_elab.specs.of_ty_basis.Types.{exn_type, function_type, ref_type}
use Rattle.core_elab.specs.of_core_rules.Objects.{Scheme, monomorphic, put, AllAllowed, Value, Context, Over}
use Rattle.core_elab.specs.of_core_rules.Closing.{place_in, scheme_under}
use Rattle.core_elab.specs.of_core_rules.Choices.{Choices, no_choice}
use Rattle.core_elab.specs.of_core_rules.Elaborated.{exception_type}
use Rattle.core_elab.specs.of_core_rules.Typing.{IsInstance, Chosen, all_general}
use Rattle.core_elab.proofs.of_core_rules.Basics.{put-none}
use Rattle.core_elab.proofs.of_core_rules.Closing.{instances-are-solutions}
use Rattle.core_elab.specs.of_ir_poly.Prog as prog
use Rattle.core_elab.specs.of_ir_poly.Types.{admits_in, changed, AreAllowed, nth_type, Constructor}
use Rattle.core_elab.proofs.of_ir_poly.ReplaceLemmas as lemmas
use Rattle.core_elab.specs.Scopes.{Denotes}
use Rattle.elab_typed.specs.Contexts.{Kept, given, general, single, raised, value_under, Around, context_under}
use Rattle.elab_typed.specs.Instances.{IsGivenAt, IsInstanceAt, UseElab, use_general, use_plain, use_single, use_own, use_constructor, use_reference, use_exception, use_given_exception, use_primitive}
use Rattle.elab_typed.specs.Laws.{Fits}
use Rattle.elab_typed.proofs.Under.{over-under}

pub eq-turned : (n m : ℕ) → nat_eq n m ≡ nat_eq m n
eq-turned n m = go (nat_eq n m) (nat_eq m n) refl refl
  where
    go : (a b : Bool) → nat_eq n m ≡ a → nat_eq m n ≡ b → a ≡ b
    go true true e d = refl
    go false false e d = refl
    go true false e d = let h : nat_eq m n ≡ true = eq-eqb m n (sym (eqb-true n m e)) in absurd (cc)
    go false true e d = let h : nat_eq n m ≡ true = eq-eqb n m (sym (eqb-true m n d)) in absurd (cc)

mutual
  pub replace-by : (f g : ℕ → Typ) → ((v : ℕ) → f v ≡ g v) → (t : Typ) → replace f t ≡ replace g t
  replace-by f g h (var v) = h v
  replace-by f g h (con a ts) = ap (con a) (replace_all-by f g h ts)

  replace_all-by : (f g : ℕ → Typ) → ((v : ℕ) → f v ≡ g v) → (ts : Typs) → replace_all f ts ≡ replace_all g ts
  replace_all-by f g h none = refl
  replace_all-by f g h (more t ts) = λ i. more (replace-by f g h t i) (replace_all-by f g h ts i)

pub shifted : (r : ℕ → Typ) (o : Option ℕ) (t : Typ) → unwrap_or (option_map (λ i. r (suc i)) o) t ≡ unwrap_or (option_map r (option_map suc o)) t
shifted r None t = refl
shifted r (Some i) t = refl

-- types put for parameters, by the place of each
changed-placed : (qs : List Quantified) (us : List Typ) (m : ℕ → Bool) → AreAllowed m qs us → (s : ℕ → Typ) (v : ℕ)
    → changed qs us s v ≡ unwrap_or (option_map (nth_type us) (place_in qs v)) (s v)
changed-placed [] us m a s v = refl
changed-placed (q ∷ qs) [] m a s v = absurd a
changed-placed (q ∷ qs) (u ∷ us) m a s v =
    ap (λ b. if b then u else changed qs us s v) (eq-turned q.variable v) ∙ go (nat_eq v q.variable) (changed-placed qs us m a.1 s v)
  where
    go : (b : Bool) → changed qs us s v ≡ unwrap_or (option_map (nth_type us) (place_in qs v)) (s v)
        → (if b then u else changed qs us s v) ≡ unwrap_or (option_map (nth_type (u ∷ us)) (if b then Some zero else option_map suc (place_in qs v))) (s v)
    go true h = refl
    go false h = h ∙ shifted (nth_type (u ∷ us)) (place_in qs v) (s v)

all-allowed : (qs : List Quantified) (us : List Typ) (r : ℕ → Typ) (k : ℕ) (m : ℕ → Bool) → AreAllowed m qs us → ((i : ℕ) → r (k + i) ≡ nth_type us i)
    → AllAllowed m r k (map (λ q. q.mark) qs)
all-allowed [] us r k m a h = tt
all-allowed (q ∷ qs) [] r k m a h = absurd a
all-allowed (q ∷ qs) (u ∷ us) r k m a h = (
  subst (Allows q.mark m) (sym (ap {B = Typ} r (let e : k ≡ k + 0 = omega arith in e) ∙ h 0)) a.0,
  all-allowed qs us r (suc k) m a.1 (λ i. ap {B = Typ} r (let e : suc k + i ≡ k + suc i = omega arith in e) ∙ h (suc i)),
)

given-allowed : (D : List Quantified) (s : ℕ → Typ) → lemmas.Fits D s → (r : ℕ → Typ) (k : ℕ) (marks : List Mark) → AllAllowed (admits_in D) r k marks
    → AllAllowed no_variable (λ i. replace s (r i)) k marks
given-allowed D s f r k [] a = tt
given-allowed D s f r k (m ∷ marks) a = (lemmas.allows-read m D s f (r k) a.0, given-allowed D s f r (suc k) marks a.1)

given-chosen : (s r : ℕ → Typ) (marks : List Mark) (k : Choices) → Chosen marks r k → Chosen marks (λ i. replace s (r i)) k
given-chosen s r [] k c = c
given-chosen s r (Any ∷ marks) k c = c
given-chosen s r (Equality ∷ marks) k c = c
given-chosen s r (Class m ∷ marks) k c = (c.0, ap (replace s) c.1, c.2)

unchosen : (r : ℕ → Typ) (marks : List Mark) → all_general marks ≡ true → Chosen marks r no_choice
unchosen r [] g = refl
unchosen r (Any ∷ marks) g = refl
unchosen r (Equality ∷ marks) g = refl
unchosen r (Class c ∷ marks) g = absurd (cc)

module _ {A : Around} {s : ℕ → Typ} (f : Fits A s) where
  pub given-instance : {v : Value} {ts : List Typ} {t : Typ} {k : Choices} → IsGivenAt A v ts t k
      → IsInstance no_variable (context_under s A) v.scheme (replace s t) k
  given-instance {v} {ts} {t} {k} g = record {
    types = λ i. replace s (nth_type ts i);
    allowed = given-allowed A.parameters s f.admits (nth_type ts) 0 v.scheme.marks g.allowed;
    over = over-under A.names s f.over t g.over;
    is = g.is s;
    chosen = given-chosen s (nth_type ts) v.scheme.marks k g.chosen;
  }

  pub single-instance : (t : Typ) → Over A.names t → IsInstance no_variable (context_under s A) (monomorphic (replace s t)) (replace s t) no_choice
  single-instance t o = record {
    types = λ i. exn_type;
    allowed = tt;
    over = over-under A.names s f.over t o;
    is = sym (put-none (λ i. exn_type) (replace s t));
    chosen = refl;
  }

  pub general-instance : {qs : List Quantified} {b : Typ} {ts : List Typ} {t : Typ} → IsInstanceAt A qs b ts t
      → IsInstance no_variable (context_under s A) (scheme_under s qs b) (replace s t) no_choice
  general-instance {qs} {b} {ts} {t} h =
      let a : AreAllowed no_variable qs (map (replace s) ts) = lemmas.are-allowed-read A.parameters s f.admits qs ts h.allowed in
      record {
        types = nth_type (map (replace s) ts);
        allowed = all-allowed qs (map (replace s) ts) (nth_type (map (replace s) ts)) 0 no_variable a (λ i. ap {B = Typ} (nth_type (map (replace s) ts)) (let e : 0 + i ≡ i = omega arith in e));
        over = over-under A.names s f.over t h.over;
        is = ap (replace s) h.is
            ∙ lemmas.instance-read A.parameters s s (λ v e. refl) qs ts _ h.allowed b h.body
            ∙ replace-by _ _ (changed-placed qs (map (replace s) ts) no_variable a s) b
            ∙ sym (instances-are-solutions s (nth_type (map (replace s) ts)) qs b)
            ∙ ap (λ n. put n (nth_type (map (replace s) ts)) (scheme_under s qs b).body) (sym (length-map qs (λ q. q.mark)));
        chosen = unchosen (nth_type (map (replace s) ts)) (map (λ q. q.mark) qs) h.marks;
      }

  pub raised-is : (a : Option Typ) → replace s (exception_type a) ≡ exception_type (option_map (replace s) a)
  raised-is None = refl
  raised-is (Some a) = refl

  pub raised-instance : (a : Option Typ) → Over A.names (exception_type a)
      → IsInstance no_variable (context_under s A) (monomorphic (exception_type (option_map (replace s) a))) (replace s (exception_type a)) no_choice
  raised-instance a o = subst (λ u. IsInstance no_variable (context_under s A) (monomorphic u) (replace s (exception_type a)) no_choice) (raised-is a) (single-instance (exception_type a) o)

  pub use-typed : {table : List Constructor} {v : Kept} {d : Denotes} {e : prog.Exp} {t : Typ} {c : Choices} → UseElab table A v d e t c
      → IsInstance no_variable (context_under s A) (value_under s v).scheme (replace s t) c
  use-typed (use_general n ts e o h) = general-instance h
  use-typed (use_plain n ts e h) = general-instance h
  use-typed (use_single n {t = t} e o) = single-instance t o
  use-typed (use_own n {t = t} e o) = single-instance t o
  use-typed (use_constructor c ts y us g h) = given-instance g
  use-typed (use_reference ts a g o) = given-instance g
  use-typed (use_exception x {a = a} e o) = raised-instance a o
  use-typed (use_given_exception x ts g e) = given-instance g
  use-typed (use_primitive q ts u g h) = given-instance g
