-- Solutions where other variables admit equality.
use Rattle.std.proofs.Common.{◌≡◌, inl, inr, ◌||◌, ◌&&◌, ℕ, Bool, true, false, List, [], ◌∷◌, refl, sym, ap, ap₂, subst, ◌∙◌}
use Rattle.std.proofs.lemmas.Bool.{eq-eqb}
use Rattle.mlc_names.specs.declared.label.Label.{Label}
use Rattle.ty_core.specs.Types.{Typ, Typs, var, con, none, more, admits, all_admit, allowed, attribute}
use Rattle.ty_core.specs.declared.mark.Mark.{Mark}
use Rattle.ty_solve.specs.Rows.{At}
use Rattle.ty_solve.specs.Substitution.{Entry, free, bound, row, Meets, is_in, are_in}

-- both say the same of a type's variables
abbrev pub AgreeIn : (ℕ → Bool) → (ℕ → Bool) → Typ → Type 0
AgreeIn m n t = (x : ℕ) → is_in x t ≡ true → m x ≡ n x

or-left : (a b : Bool) → a ≡ true → (a || b) ≡ true
or-left true b e = refl
or-left false b e = cc

or-right : (a b : Bool) → b ≡ true → (a || b) ≡ true
or-right true b e = refl
or-right false b e = e

mutual
  pub admits-same : (m n : ℕ → Bool) (t : Typ) → AgreeIn m n t → admits m t ≡ admits n t
  admits-same m n (var v) h = h v (eq-eqb v v refl)
  admits-same m n (con c ts) h = ap (allowed (attribute c)) (all-admit-same m n ts h)

  all-admit-same : (m n : ℕ → Bool) (ts : Typs) → ((x : ℕ) → are_in x ts ≡ true → m x ≡ n x) → all_admit m ts ≡ all_admit n ts
  all-admit-same m n none h = refl
  all-admit-same m n (more t ts) h =
      ap₂ (λ a b. a && b) (admits-same m n t (λ x i. h x (or-left (is_in x t) (are_in x ts) i))) (all-admit-same m n ts (λ x i. h x (or-right (is_in x t) (are_in x ts) i)))

field-in : (l : Label) (t : Typ) (ks : List Label) (ts : Typs) (x : ℕ) → At l t ks ts → is_in x t ≡ true → are_in x ts ≡ true
field-in l t [] ts x p i = absurd p
field-in l t (k ∷ ks) none x p i = absurd p
field-in l t (k ∷ ks) (more u us) x (inl p) i = or-left (is_in x u) (are_in x us) (subst (λ y. is_in x y ≡ true) p.1 i)
field-in l t (k ∷ ks) (more u us) x (inr p) i = or-right (is_in x u) (are_in x us) (field-in l t ks us x p i)

pub meets-same : (m n : ℕ → Bool) (g : ℕ → Typ) (t : Typ) (e : Entry) → AgreeIn m n t → Meets m g t e → Meets n g t e
meets-same m n g t (free Mark.Any) a h = tt
meets-same m n g t (free Mark.Equality) a h = sym (admits-same m n t a) ∙ h
meets-same m n g t (free (Mark.Class c)) a h = h
meets-same m n g t (bound u) a h = h
meets-same m n g t (row d ks us) a h = record {
  names = h.names;
  types = h.types;
  is = h.is;
  proper = h.proper;
  fields = h.fields;
  further = λ e l x p k.
      let same : AgreeIn m n x = λ y i. a y (subst (λ u. is_in y u ≡ true) (sym h.is) (field-in l x h.names h.types y p i)) in
      sym (admits-same m n x same) ∙ h.further e l x p k;
}
