-- A variable is bound once in a declaration: val (x, x) = (1, 2) has no typing, and fn (nil, nil) => 1 binds nothing.
use Rattle.std.proofs.Common.{◌≡◌, ℕ, Bool, true, false, List, [], ◌∷◌, ◌++◌, Option, Some, None, refl, sym, ap, ◌∙◌, subst}
use Rattle.ty_basis.specs.of_ty_core.Types.{Typ, no_variable}
use Rattle.sml_tree.specs.declared.ident.Vid.{Vid}
use Rattle.sml_tree.specs.Derived.{tuple, tuple_pat}
use Rattle.sml_tree.specs.BareTree.{Exp, Pat, bind, no_binds}
use Rattle.ty_basis.specs.Types.{unit_type}
use Rattle.core_rules.specs.Words.{same_vid}
use Rattle.core_rules.specs.Objects.{Context, Value, Env, put}
use Rattle.core_rules.specs.Choices.{Choices}
use Rattle.core_rules.specs.Restrictions.{distinct}
use Rattle.core_rules.specs.Typing.{DecHas, BindsHave, Bound, bound_in, put_bound, together, AreDistinct, val_has, bind_has, no_bind_has, fields_has, field_has, no_field_has, variable_has, constructor_has}
use Rattle.core_rules.proofs.Basics.{units-may-stand}
use Rattle.core_rules.proofs.Words.{at, num, vid, pv, val, word_x}
use Rattle.core_rules.proofs.Typings.{start}

abbrev x : Vid
x = vid word_x

abbrev twice : Pat
twice = tuple_pat at (pv word_x ∷ pv word_x ∷ [])

abbrev both_numbers : Exp
both_numbers = tuple at (num 1 ∷ num 2 ∷ [])

abbrev Holds : Bool → Type 0
Holds true = Unit {0}
Holds false = ⊥

abbrev Full : Option Value → Type 0
Full None = ⊥
Full (Some w) = Unit {0}

abbrev IsTwo : List Vid → Type 0
IsTwo [] = ⊥
IsTwo (a ∷ []) = ⊥
IsTwo (a ∷ b ∷ []) = Unit {0}
IsTwo (a ∷ b ∷ c ∷ vs) = ⊥

abbrev first : List Vid → Vid
first [] = x
first (a ∷ vs) = a

abbrev second : List Vid → Vid
second [] = x
second (a ∷ vs) = first vs

-- what is bound, one identifier twice, isn't distinct
not-distinct : (n : ℕ) (r : ℕ → Typ) (t u : Typ) (g : Bound) → (x, t) ∷ (x, u) ∷ [] ≡ put_bound n r g → AreDistinct (bound_in ((g ++ []) ++ [])) → ⊥
not-distinct n r t u [] e d = subst IsTwo (ap bound_in e) tt
not-distinct n r t u (a ∷ []) e d = subst IsTwo (ap bound_in e) tt
not-distinct n r t u (a ∷ b ∷ c ∷ g) e d = subst IsTwo (ap bound_in e) tt
not-distinct n r t u (a ∷ b ∷ []) e d =
    let i : x ≡ a.0 = ap (λ g. first (bound_in g)) e in
    let j : x ≡ b.0 = ap (λ g. second (bound_in g)) e in
    let d' : distinct same_vid (x ∷ x ∷ []) ≡ true = subst (λ y. distinct same_vid (x ∷ y ∷ []) ≡ true) (sym j) (subst (λ y. distinct same_vid (y ∷ b.0 ∷ []) ≡ true) (sym i) d) in
    subst Holds (sym d') tt

by-binds : {n : ℕ} {r : ℕ → Typ} {c c' : Context} {vs us : List Bound} {k j : Choices} → BindsHave no_variable c n r (bind at twice both_numbers no_binds) vs k → BindsHave no_variable c' n r no_binds us j →
    (value-free : Rattle.core_rules.specs.Objects.value_in c.env x ≡ None) → AreDistinct (bound_in (together vs ++ together us)) → ⊥
by-binds {n} {r} (bind_has p {v = w} {vs = g} (fields_has q (field_has l (variable_has q1 {t = t} m m' o) (field_has l' (variable_has q2 {t = u} n1 n2 o') no_field_has)) is) e h s no_bind_has) no_bind_has f d = not-distinct n r t u g e d
by-binds (bind_has p (fields_has q (field_has l (constructor_has q1 {v = w} e m i) k) is) e' h s no_bind_has) no_bind_has f d = subst Full (sym (sym f ∙ e)) tt
by-binds (bind_has p (fields_has q (field_has l (variable_has q1 m m' o) (field_has l' (constructor_has q2 {v = w} e n1 i) no_field_has)) is) e' h s no_bind_has) no_bind_has f d = subst Full (sym (sym f ∙ e)) tt

bound_twice : (made : ℕ) (e : Env) (k : Choices) → DecHas no_variable start (val twice both_numbers) made e k → ⊥
bound_twice made e k (val_has p q marks g fns d plain rec_) =
    let may = units-may-stand no_variable start marks g in
    by-binds (plain (λ n. unit_type) may) (rec_ (λ n. unit_type) may) refl d
