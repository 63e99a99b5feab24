-- What a `val` declaration with a typing binds.
use Rattle.std.proofs.Common.{◌≡◌, ℕ, Bool, true, false, List, [], ◌∷◌, ◌++◌, map, refl, sym, ap, subst}
use Rattle.std.specs.List.{AllByRecursion}
use Rattle.ty_basis.specs.of_ty_core.Types.{Typ}
use Rattle.ty_basis.specs.of_ty_core.declared.mark.Mark.{Mark}
use Rattle.sml_tree.specs.BareTree.{Pat, PatFields, Binds}
use Rattle.ty_basis.specs.Types.{Row, unit_type}
use Rattle.core_rules.specs.Words.{same_vid}
use Rattle.core_rules.specs.Objects as static
use Rattle.core_rules.specs.Objects.{Context}
use Rattle.core_rules.specs.Choices.{Choices}
use Rattle.core_rules.specs.Restrictions.{distinct, is_kept}
use Rattle.core_rules.specs.Typing
use Rattle.core_rules.specs.Typing.{Bound, PatHas, PatsHave, BindsHave, put_bound, together, closed, bound_in, marks_of, scoped_in}
use Rattle.core_rules.specs.Laws.{TypedBindsProperly}
use Rattle.core_rules.proofs.Basics.{units-may-stand}
use Rattle.core_rules.proofs.FittingDecs.{general-marks}

abbrev Unkept : Bound → Type 0
Unkept = AllByRecursion (λ b. is_kept b.0 ≡ false)

unkept-both : (vs us : Bound) → Unkept vs → Unkept us → Unkept (vs ++ us)
unkept-both [] us h k = k
unkept-both (b ∷ vs) us h k = (h.0, unkept-both vs us h.1 k)

unput : (n : ℕ) (r : ℕ → Typ) (vs : Bound) → Unkept (put_bound n r vs) → Unkept vs
unput n r [] h = h
unput n r (b ∷ vs) h = (h.0, unput n r vs h.1)

module _ (m : ℕ → Bool) where
  mutual
    pat-unkept : {c : Context} {a : Pat} {t : Typ} {vs : Bound} {k : Choices} → PatHas m c a t vs k → Unkept vs
    pat-unkept (Typing.wild_has p o) = tt
    pat-unkept (Typing.constant_has p k) = tt
    pat-unkept (Typing.variable_has p n kept o) = (kept, tt)
    pat-unkept (Typing.constructor_has p e n i) = tt
    pat-unkept (Typing.built_has p i) = tt
    pat-unkept (Typing.fields_has p h e) = pats-unkept h
    pat-unkept (Typing.open_has p others h e e' o) = pats-unkept h
    pat-unkept (Typing.con_has p q e n i h) = pat-unkept h
    pat-unkept (Typing.built_con_has p i h) = pat-unkept h
    pat-unkept (Typing.typed_has p h e) = pat-unkept h
    pat-unkept (Typing.as_has p n kept e h) = (kept, pat-unkept h)

    pats-unkept : {c : Context} {fs : PatFields} {r : Row} {vs : Bound} {k : Choices} → PatsHave m c fs r vs k → Unkept vs
    pats-unkept Typing.no_field_has = tt
    pats-unkept (Typing.field_has l {vs = vs} {us = us} h k) = unkept-both vs us (pat-unkept h) (pats-unkept k)

  binds-unkept : {c : Context} {n : ℕ} {r : ℕ → Typ} {bs : Binds} {vs : List Bound} {k : Choices} → BindsHave m c n r bs vs k → Unkept (together vs)
  binds-unkept Typing.no_bind_has = tt
  binds-unkept {n = n} {r = r} (Typing.bind_has p {vs = vs} {us = us} ph e h x bh) = unkept-both vs (together us) (unput n r vs (subst Unkept e (pat-unkept ph))) (binds-unkept bh)

keys-of : (marks : List Mark) (vs : Bound) → map (λ v. v.0) (static.values (closed marks vs)) ≡ bound_in vs
keys-of marks [] = refl
keys-of marks (b ∷ vs) = ap (λ ks. b.0 ∷ ks) (keys-of marks vs)

unkept-closed : (marks : List Mark) (vs : Bound) → Unkept vs → AllByRecursion (λ v. is_kept v.0 ≡ false) (static.values (closed marks vs))
unkept-closed marks [] h = tt
unkept-closed marks (b ∷ vs) h = (h.0, unkept-closed marks vs h.1)

pub typed-binds-properly : TypedBindsProperly
typed-binds-properly m c p q as_ bs rs made d k (Typing.val_has p' q' extra {vs = vs} {us = us} g fns dist plain rec_) =
    let marks = marks_of c as_ bs rs extra in
    let may = units-may-stand m c marks (general-marks (scoped_in c as_ bs rs) extra g) in
    record {
      once = subst (λ ks. distinct same_vid ks ≡ true) (sym (keys-of marks (together vs ++ together us))) dist;
      unkept = unkept-closed marks (together vs ++ together us) (unkept-both (together vs) (together us) (binds-unkept m (plain (λ v. unit_type) may)) (binds-unkept m (rec_ (λ v. unit_type) may)));
      functions = fns;
    }
