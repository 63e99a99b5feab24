-- Constructors that may stand in the program's table.
use Rattle.std.proofs.Common.{◌≡◌, ◌≤◌, ℕ, true, false, nat_lt, List, [], ◌∷◌, ◌++◌, Option, Some, None, refl, sym, ap, ap₂, subst, ◌∙◌, arith}
use Rattle.std.specs.List.{AllByRecursion}
use Rattle.std.specs.Prelude.{option_map}
use Rattle.std.proofs.lemmas.Bool.{lt-ltb}
use Rattle.ty_core.specs.Types.{Typ, Typs, var, con, none, more}
use Rattle.ty_core.specs.Statics.{replace, replace_all}
use Rattle.ty_core.specs.declared.name.Equality.TheVariants.{Always}
use Rattle.ty_table.specs.TypeAt.{top, tops, type_at}
use Rattle.ir_poly.specs.Types.{is_of_basis, IsConstructor}
use Rattle.ir_tables.specs.Rows.{constructor_at, constructors_at}
use Rattle.ir_tables.specs.declared.constructors.Constructor as code
use Rattle.elab_state.specs.declared.state.State.{State}
use Rattle.elab_state.proofs.Reading.{rows-at-stay}
use Rattle.elab_steps.specs.Growing.{Begins}
use Rattle.elab_steps.specs.Tidy.{AreConstructors}
use Rattle.datatype_forms.specs.Standing.{IsFitting}

-- what is put for a type's variables
mutual
  agree : (r s : ℕ → Typ) (n : ℕ) → ((i : ℕ) → nat_lt i n ≡ true → r i ≡ s i) → (t : Typ) → top t ≤ n → replace r t ≡ replace s t
  agree r s n h (var v) le = h v (lt-ltb v n (omega (arith, le)))
  agree r s n h (con y ts) le = ap (con y) (all-agree r s n h ts le)

  all-agree : (r s : ℕ → Typ) (n : ℕ) → ((i : ℕ) → nat_lt i n ≡ true → r i ≡ s i) → (ts : Typs) → tops ts ≤ n → replace_all r ts ≡ replace_all s ts
  all-agree r s n h none le = refl
  all-agree r s n h (more t ts) le = ap₂ more (agree r s n h t (omega arith)) (all-agree r s n h ts (omega arith))

module _ (ts : List Typ) (row : code.Constructor) (declared : is_of_basis row.datatype ≡ false) (equality : row.datatype.equality ≡ Always → ⊥) where
  pub stands : (o : Option ℕ) → row.argument ≡ o → ((k : ℕ) → o ≡ Some k → IsFitting row.datatype (type_at ts k)) → IsConstructor (constructor_at ts row)
  stands None e h = record {
    declared = declared;
    equality = equality;
    closed = λ a q. absurd (nothing a (sym (ap (option_map (type_at ts)) e) ∙ q));
    admits = λ a q. absurd (nothing a (sym (ap (option_map (type_at ts)) e) ∙ q));
  }
    where
      nothing : (a : Typ) → None ≡ Some a → ⊥
      nothing a q = cc
  stands (Some k) e h =
      let fit = h k refl in
      let same : (a : Typ) → option_map (type_at ts) row.argument ≡ Some a → type_at ts k ≡ a = λ a q. some-is a (sym (ap (option_map (type_at ts)) e) ∙ q) in
      record {
        declared = declared;
        equality = equality;
        closed = λ a q r s f. subst (λ t. replace r t ≡ replace s t) (same a q) (agree r s row.datatype.arity f (type_at ts k) fit.over);
        admits = λ a q b. subst (λ t. Rattle.ty_core.specs.Types.admits (λ i. true) t ≡ true) (same a q) (fit.equality b);
      }
    where
      some-is : (a : Typ) → Some (type_at ts k) ≡ Some a → type_at ts k ≡ a
      some-is a q = cc

-- constructors of a table, with one more

pub constructors-more : (ts : List Typ) (ks new : List code.Constructor) (row : code.Constructor) → new ≡ ks ++ row ∷ [] → IsConstructor (constructor_at ts row)
    → AllByRecursion IsConstructor (constructors_at ts ks) → AllByRecursion IsConstructor (constructors_at ts new)
constructors-more ts ks new row e h hs = subst (λ l. AllByRecursion IsConstructor (constructors_at ts l)) (sym e) (go ks hs)
  where
    go : (ks : List code.Constructor) → AllByRecursion IsConstructor (constructors_at ts ks) → AllByRecursion IsConstructor (constructors_at ts (ks ++ row ∷ []))
    go [] hs = (h, tt)
    go (k ∷ ks) hs = (hs.0, go ks hs.1)

-- and with more types in it
pub constructors-wider : (S : State) (us : List Typ) → Begins S.tables.types us → AreConstructors S → AllByRecursion IsConstructor (constructors_at us S.tables.constructors)
constructors-wider S us e = subst (AllByRecursion IsConstructor) (sym (rows-at-stay S.tables.types us S.tables.constructors e S.rows))
