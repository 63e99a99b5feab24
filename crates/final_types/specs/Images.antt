-- Types of a solver as the program has them: with what variables stand for in the end, and the program's numbers of type names.
use Rattle.std.specs.Prelude.{◌≡◌, ◌<◌, ℕ, List, [], ◌∷◌, ⊤, Option, length}
use Rattle.ty_core.specs.Types.{Typ}
use Rattle.ty_table.specs.TypeAt.{type_at}
use Rattle.ty_solve.specs.Substitution.{sub}
use Rattle.elab_typed.specs.Numbers.{type_as}
use Rattle.elab_state.specs.Namings.{number_in}
use Rattle.elab_state.specs.declared.naming.Naming.{Naming}
use Rattle.elab_state.specs.declared.naming.Written.{Written}

-- ts are the types of the solver, us those of the program, rs the namings, and g says what variables stand for
module _ (ts us : List Typ) (rs : List Naming) (g : ℕ → Typ) where
  -- the program's type of k, where a naming is in force
  abbrev pub type_in : Option ℕ → ℕ → Typ
  type_in o k = type_as (number_in rs o) (sub g (type_at ts k))

  pub record IsMade (o : Option ℕ) (k r : ℕ) : Type 0 where
    pub held : r < length us
    pub is : type_at us r ≡ type_in o k

-- each type that is written has its number
abbrev pub AreEntered : List Typ → List Typ → List Naming → (ℕ → Typ) → List Written → List ℕ → Type 0
AreEntered ts us rs g [] [] = ⊤
AreEntered ts us rs g [] (k ∷ ks) = ⊥
AreEntered ts us rs g (w ∷ ws) [] = ⊥
AreEntered ts us rs g (w ∷ ws) (k ∷ ks) = IsMade ts us rs g w.naming w.ty k × AreEntered ts us rs g ws ks
