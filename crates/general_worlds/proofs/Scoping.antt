-- Parameters in front of others, and the variables of types.
use Rattle.std.proofs.Common.{◌≡◌, ◌<◌, inl, inr, ◌||◌, ◌&&◌, not, ℕ, suc, Bool, true, false, nat_eq, if◌then◌else◌, List, [], ◌∷◌, ◌++◌, refl, ap, subst, arith}
use Rattle.std.proofs.lemmas.Bool.{and_parts, and_from, eqb-true, eq-eqb}
use Rattle.ty_core.specs.Types.{Typ, Typs, var, con, none, more}
use Rattle.ty_core.specs.declared.scheme.Quantified.{Quantified}
use Rattle.ty_solve.specs.Substitution.{is_in, are_in}
use Rattle.ty_solve.specs.Weight.{weight, weights}
use Rattle.ir_poly.specs.Types.{in_scope, admits_in, is_equality, is_declarable, are_new, over, all_over}
use Rattle.elab_state.specs.States.{all_parameters}
use Rattle.elab_state.proofs.Generalising.{scope-front, scope-behind}
use Rattle.elab_state.proofs.Typed.{either}

pub scope-either : (qs rs : List Quantified) (v : ℕ) → in_scope (qs ++ rs) v ≡ true → in_scope qs v ≡ false → in_scope rs v ≡ true
scope-either [] rs v h e = h
scope-either (q ∷ qs) rs v h e = by (nat_eq q.variable v) h e (scope-either qs rs v)
  where
    by : (b : Bool) → (b || in_scope (qs ++ rs) v) ≡ true → (b || in_scope qs v) ≡ false → (in_scope (qs ++ rs) v ≡ true → in_scope qs v ≡ false → in_scope rs v ≡ true)
        → in_scope rs v ≡ true
    by true h e f = cc
    by false h e f = f h e

pub admits-front : (qs rs : List Quantified) (v : ℕ) → in_scope qs v ≡ true → admits_in (qs ++ rs) v ≡ admits_in qs v
admits-front [] rs v h = cc
admits-front (q ∷ qs) rs v h = by (nat_eq q.variable v) h (admits-front qs rs v)
  where
    by : (b : Bool) → (b || in_scope qs v) ≡ true → (in_scope qs v ≡ true → admits_in (qs ++ rs) v ≡ admits_in qs v)
        → (if b then is_equality q.mark else admits_in (qs ++ rs) v) ≡ (if b then is_equality q.mark else admits_in qs v)
    by true h f = refl
    by false h f = f h

pub admits-behind : (qs rs : List Quantified) (v : ℕ) → in_scope qs v ≡ false → admits_in (qs ++ rs) v ≡ admits_in rs v
admits-behind [] rs v h = refl
admits-behind (q ∷ qs) rs v h = by (nat_eq q.variable v) h (admits-behind qs rs v)
  where
    by : (b : Bool) → (b || in_scope qs v) ≡ false → (in_scope qs v ≡ false → admits_in (qs ++ rs) v ≡ admits_in rs v)
        → (if b then is_equality q.mark else admits_in (qs ++ rs) v) ≡ admits_in rs v
    by true h f = cc
    by false h f = f h

pub new-beside : (qs rs : List Quantified) → are_new qs [] ≡ true → ((v : ℕ) → in_scope qs v ≡ true → in_scope rs v ≡ false) → are_new qs rs ≡ true
new-beside [] rs h k = refl
new-beside (q ∷ qs) rs h k =
    let p = and_parts (is_declarable q.mark) (not (in_scope qs q.variable) && are_new qs []) h in
    let r = and_parts (not (in_scope qs q.variable)) (are_new qs []) p.1 in
    and_from (is_declarable q.mark) (not (in_scope rs q.variable) && (not (in_scope qs q.variable) && are_new qs rs)) p.0
    (and_from (not (in_scope rs q.variable)) (not (in_scope qs q.variable) && are_new qs rs) (ap not (k q.variable (here q qs)))
    (and_from (not (in_scope qs q.variable)) (are_new qs rs) r.0 (new-beside qs rs r.1 (λ v i. k v (there q qs v i)))))
  where
    here : (q : Quantified) (qs : List Quantified) → in_scope (q ∷ qs) q.variable ≡ true
    here q qs = ap (λ b. b || in_scope qs q.variable) (eq-eqb q.variable q.variable refl)

    there : (q : Quantified) (qs : List Quantified) (v : ℕ) → in_scope qs v ≡ true → in_scope (q ∷ qs) v ≡ true
    there q qs v i = scope-behind (q ∷ []) qs v i

-- one list of parameters more
pub last-general : (pss : List (List Quantified)) (qs : List Quantified) (v : ℕ) → in_scope qs v ≡ true → in_scope (all_parameters (pss ++ qs ∷ [])) v ≡ true
last-general [] qs v i = scope-front qs [] v i
last-general (ps ∷ pss) qs v i = scope-behind ps (all_parameters (pss ++ qs ∷ [])) v (last-general pss qs v i)

pub earlier-general : (pss : List (List Quantified)) (qs : List Quantified) (v : ℕ) → in_scope (all_parameters pss) v ≡ true → in_scope (all_parameters (pss ++ qs ∷ [])) v ≡ true
earlier-general [] qs v i = cc
earlier-general (ps ∷ pss) qs v i = by (in_scope ps v) refl (earlier-general pss qs v)
  where
    by : (b : Bool) → in_scope ps v ≡ b → (in_scope (all_parameters pss) v ≡ true → in_scope (all_parameters (pss ++ qs ∷ [])) v ≡ true)
        → in_scope (ps ++ all_parameters (pss ++ qs ∷ [])) v ≡ true
    by true e f = scope-front ps (all_parameters (pss ++ qs ∷ [])) v e
    by false e f = scope-behind ps (all_parameters (pss ++ qs ∷ [])) v (f (scope-either ps (all_parameters pss) v i e))

pub not-in : (b c : Bool) → c ≡ false → (b ≡ true → c ≡ true) → b ≡ false
not-in true c e h = let q = h refl in cc
not-in false c e h = refl

-- variables of types

mutual
  pub lighter : (w : ℕ → ℕ) (x : ℕ) (t : Typ) → is_in x t ≡ true → w x < weight w t
  lighter w x (var v) i = let e = ap w (eqb-true v x i) in omega arith
  lighter w x (con c ts) i = let l = all-lighter w x ts i in omega arith

  all-lighter : (w : ℕ → ℕ) (x : ℕ) (ts : Typs) → are_in x ts ≡ true → w x < suc (weights w ts)
  all-lighter w x none i = cc
  all-lighter w x (more t ts) i = elim (either (is_in x t) (are_in x ts) i) [
    | inl j ↦ (let l = lighter w x t j in omega arith)
    | inr j ↦ (let l = all-lighter w x ts j in omega arith)
  ]

mutual
  pub over-in : (qs : List Quantified) (x : ℕ) (t : Typ) → over qs t ≡ true → is_in x t ≡ true → in_scope qs x ≡ true
  over-in qs x (var v) o i = subst (λ y. in_scope qs y ≡ true) (eqb-true v x i) o
  over-in qs x (con c ts) o i = overs-in qs x ts o i

  overs-in : (qs : List Quantified) (x : ℕ) (ts : Typs) → all_over qs ts ≡ true → are_in x ts ≡ true → in_scope qs x ≡ true
  overs-in qs x none o i = cc
  overs-in qs x (more t ts) o i =
      let p = and_parts (over qs t) (all_over qs ts) o in
      elim (either (is_in x t) (are_in x ts) i) [ inl j ↦ over-in qs x t p.0 j | inr j ↦ overs-in qs x ts p.1 j ]
