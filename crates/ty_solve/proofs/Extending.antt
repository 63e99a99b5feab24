-- Records that have the fields of a row.
use Rattle.std.proofs.Common.{◌≡◌, ℕ, Bool, true, false, List, [], refl, sym, ap, ◌∙◌, subst}
use Rattle.std.proofs.lemmas.Bool.{false≢true}
use mathlib.Core.Logic.{◌⊎◌, inl, inr}
use Rattle.mlc_names.specs.declared.label.Label.{Label}
use Rattle.ty_table.specs.of_ty_core.Types.{arrow, labels, name, Typ, var, con, Typs, none, admits, all_admit}
use Rattle.ty_solve.specs.Rows.{Among, At, IsProper, Extends}
use Rattle.ty_solve.proofs.Labels.{among-cases, among-at, at-unique, at-admit, admit-at}

-- a record's field
abbrev pub Field : Typ → Label → Typ → Type 0
Field (var v) l u = ⊥
Field (con arrow ts) l u = ⊥
Field (con (labels ls) ts) l u = At l u ls ts
Field (con (name n) ts) l u = ⊥

module _ (m : ℕ → Bool) (e : Bool) (ks : List Label) (us : Typs) (t : Typ) (x : Extends m e ks us t) where
  pub has : (l : Label) (u : Typ) → At l u ks us → Field t l u
  has l u h = subst (λ y. Field y l u) (sym x.is) (x.fields l u h)

  pub once : (l : Label) (u w : Typ) → Field t l u → Field t l w → u ≡ w
  once l u w a b = at-unique l u w x.names x.types x.proper (subst (λ y. Field y l u) x.is a) (subst (λ y. Field y l w) x.is b)

  pub others : e ≡ true → (l : Label) (u : Typ) → Field t l u → (Among l ks → ⊥) → admits m u ≡ true
  others i l u h n = x.further i l u (subst (λ y. Field y l u) x.is h) n

  pub extends-parts : IsProper ks us → admits m t ≡ true → all_admit m us ≡ true
  extends-parts p h = admit-at m ks us p (λ l u a. at-admit m l u x.names x.types (subst (λ y. admits m y ≡ true) x.is h) (x.fields l u a))

  pub extends-strict : admits m t ≡ true → Extends m true ks us t
  extends-strict h = record {
    names = x.names;
    types = x.types;
    is = x.is;
    proper = x.proper;
    fields = x.fields;
    further = λ i l u a n. at-admit m l u x.names x.types (subst (λ y. admits m y ≡ true) x.is h) a;
  }

  -- nothing is known
  pub extends-none : Extends m false [] none t
  extends-none = record {
    names = x.names;
    types = x.types;
    is = x.is;
    proper = x.proper;
    fields = λ l u a. absurd a;
    further = λ i l u a n. absurd (false≢true i);
  }

pub extends-whole : (m : ℕ → Bool) (ks : List Label) (us : Typs) (t : Typ) → Extends m true ks us t → IsProper ks us → all_admit m us ≡ true → admits m t ≡ true
extends-whole m ks us t x p h = subst (λ y. admits m y ≡ true) (sym x.is) (admit-at m x.names x.types x.proper (λ l u a. go l u a (among-cases l ks)))
  where
    go : (l : Label) (u : Typ) → At l u x.names x.types → Among l ks ⊎ (Among l ks → ⊥) → admits m u ≡ true
    go l u a (inl k) =
        let q = among-at l ks us p k in
        ap (admits m) (at-unique l u q.0 x.names x.types x.proper a (x.fields l q.0 q.1)) ∙ at-admit m l q.0 ks us h q.1
    go l u a (inr n) = x.further refl l u a n

pub extends-loose : (m : ℕ → Bool) (ks : List Label) (us : Typs) (t : Typ) → Extends m true ks us t → Extends m false ks us t
extends-loose m ks us t x = record {
  names = x.names;
  types = x.types;
  is = x.is;
  proper = x.proper;
  fields = x.fields;
  further = λ i l u a n. absurd (false≢true i);
}

-- the same row, said otherwise
pub extends-same : (m : ℕ → Bool) (t : Typ) (d e : Bool) (ks js : List Label) (us vs : Typs) → d ≡ e → ks ≡ js → us ≡ vs → Extends m d ks us t → Extends m e js vs t
extends-same m t d e ks js us vs p q r x = subst (λ y. Extends m y js vs t) p (subst (λ y. Extends m d y vs t) q (subst (λ y. Extends m d ks y t) r x))
