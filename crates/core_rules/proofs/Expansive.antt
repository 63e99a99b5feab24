-- An expansive binding binds nothing with a parameter in its type.
use Rattle.std.proofs.Common.{◌≡◌, ℕ, Bool, true, false, List, [], ◌∷◌, ◌++◌, length, Some, if◌then◌else◌, refl, sym, ap, subst}
use Rattle.std.specs.Prelude.{◌&&◌}
use Rattle.mlc_base.specs.declared.place.Place.{Place}
use Rattle.ty_basis.specs.of_ty_core.Types.{Typ}
use Rattle.ty_basis.specs.of_ty_core.declared.mark.Mark.{Mark}
use Rattle.ty_basis.specs.of_ty_core.declared.env.Status.TheVariants.{Variable}
use Rattle.sml_tree.specs.declared.ident.Vid.{Vid}
use Rattle.sml_tree.specs.BareTree.{Pat, Exp, no_binds, bind}
use Rattle.ty_basis.specs.Types.{unit_type}
use Rattle.core_rules.specs.Words.{same_vid}
use Rattle.core_rules.specs.Objects as static
use Rattle.core_rules.specs.Objects.{Context}
use Rattle.core_rules.specs.Choices.{Choices}
use Rattle.core_rules.specs.Typing.{Bound, BindsHave, bind_has, no_bind_has, val_has, is_non_expansive, has_none, bound_have_none, closed, together, marks_of, scoped_in}
use Rattle.core_rules.specs.Laws.{ExpansiveBindsNoParameter}
use Rattle.core_rules.proofs.Basics.{units-may-stand}
use Rattle.core_rules.proofs.Fitting.{not-none, not-false, some-is}
use Rattle.core_rules.proofs.FittingDecs.{general-marks}

and-left : (a b : Bool) → (a && b) ≡ true → a ≡ true
and-left true b h = refl
and-left false b h = h

and-right : (a b : Bool) → (a && b) ≡ true → b ≡ true
and-right true b h = h
and-right false b h = not-false (sym h)

append-none : (bs : Bound) → bs ++ [] ≡ bs
append-none [] = refl
append-none (b ∷ bs) = ap (λ bs. b ∷ bs) (append-none bs)

closed-none : (marks : List Mark) (bs : Bound) (x : Vid) (v : static.Value) → bound_have_none (length marks) bs ≡ true → static.at same_vid (static.values (closed marks bs)) x ≡ Some v → has_none (length v.scheme.marks) v.scheme.body ≡ true
closed-none marks [] x v h e = not-none e
closed-none marks (b ∷ bs) x v h e = by (same_vid x b.0) e (closed-none marks bs x v (and-right (has_none (length marks) b.1) (bound_have_none (length marks) bs) h))
  where
    by : (t : Bool) → (if t then Some (record { scheme = record { marks = marks; body = b.1 }; status = Variable }) else static.at same_vid (static.values (closed marks bs)) x) ≡ Some v →
        (static.at same_vid (static.values (closed marks bs)) x ≡ Some v → has_none (length v.scheme.marks) v.scheme.body ≡ true) → has_none (length v.scheme.marks) v.scheme.body ≡ true
    by true e go = subst (λ (v : static.Value). has_none (length v.scheme.marks) v.scheme.body ≡ true) (some-is e) (and-left (has_none (length marks) b.1) (bound_have_none (length marks) bs) h)
    by false e go = go e

record IsOne (n : ℕ) (vs : List Bound) : Type 0 where
  bound : Bound
  is : vs ≡ bound ∷ []
  none : bound_have_none n bound ≡ true

module _ {m : ℕ → Bool} where
  one-binding : {c : Context} {n : ℕ} {r : ℕ → Typ} {q : Place} {a : Pat} {e : Exp} {vs : List Bound} {k : Choices} → BindsHave m c n r (bind q a e no_binds) vs k → is_non_expansive c.env e ≡ false → IsOne n vs
  one-binding (bind_has p {vs = w} a e h s no_bind_has) x = record { bound = w; is = refl; none = s x }

  no-binding : {c : Context} {n : ℕ} {r : ℕ → Typ} {us : List Bound} {k : Choices} → BindsHave m c n r no_binds us k → us ≡ []
  no-binding no_bind_has = refl

pub expansive-binds-no-parameter : ExpansiveBindsNoParameter
expansive-binds-no-parameter m c p q r as_ a e made d k (val_has p' q' extra {vs = vs} {us = us} g fns dist plain rec_) x y v h =
    let bs = bind r a e no_binds in
    let marks = marks_of c as_ bs no_binds extra in
    let may = units-may-stand m c marks (general-marks (scoped_in c as_ bs no_binds) extra g) in
    let one : IsOne (length marks) vs = one-binding (plain (λ n. unit_type) may) x in
    let none : us ≡ [] = no-binding (rec_ (λ n. unit_type) may) in
    let found : static.at same_vid (static.values (closed marks ((one.bound ++ []) ++ []))) y ≡ Some v =
    subst (λ us. static.at same_vid (static.values (closed marks ((one.bound ++ []) ++ together us))) y ≡ Some v) none
    (subst (λ vs. static.at same_vid (static.values (closed marks (together vs ++ together us))) y ≡ Some v) one.is h) in
    closed-none marks ((one.bound ++ []) ++ []) y v
    (subst (λ bs. bound_have_none (length marks) bs ≡ true) (sym (append-none (one.bound ++ []))) (subst (λ bs. bound_have_none (length marks) bs ≡ true) (sym (append-none one.bound)) one.none)) found
