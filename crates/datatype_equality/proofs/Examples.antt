-- Small declarations, by computation. The new names are u, with stamp 100, and v, with stamp 101.
use Rattle.std.proofs.Common.{◌≡◌, ℕ, Bool, true, false, List, [], ◌∷◌, refl}
use Rattle.ty_core.specs.Types.{Typ, arrow, name, var, con, none, more, admits}
use Rattle.ty_core.specs.declared.name.TyName.{TyName}
use Rattle.ty_core.specs.declared.name.Equality.TheVariants.{Always, ByArguments, Never}
use Rattle.datatype_equality.specs.Respects.{type_with, every_parameter, AllBelow}

abbrev u : Typ
u = con (name (record { stamp = 100; arity = 0; equality = Always })) none

abbrev v : Typ
v = con (name (record { stamp = 101; arity = 1; equality = Never })) (more u none)

abbrev reference : Typ → Typ
reference t = con (name (record { stamp = 4; arity = 1; equality = Always })) (more t none)

-- what is said of the new names counts, and not how they are marked
as_is_said : admits every_parameter (type_with 100 (true ∷ []) u) ≡ true
as_is_said = refl

as_is_said_too : admits every_parameter (type_with 100 (false ∷ true ∷ []) u) ≡ false
as_is_said_too = refl

-- a new name's arguments count too
both : admits every_parameter (type_with 100 (true ∷ true ∷ []) v) ≡ true
both = refl

one_alone : admits every_parameter (type_with 100 (false ∷ true ∷ []) v) ≡ false
one_alone = refl

-- other names are as they are
before : admits every_parameter (type_with 101 (false ∷ true ∷ []) u) ≡ true
before = refl

behind : admits every_parameter (type_with 99 (true ∷ []) u) ≡ true
behind = refl

-- parameters count as admitting it, functions never do, references always
parameter : admits every_parameter (type_with 100 [] (var 7)) ≡ true
parameter = refl

function : admits every_parameter (type_with 100 [] (con arrow (more (var 0) (more (var 0) none)))) ≡ false
function = refl

held : admits every_parameter (type_with 100 (false ∷ []) (reference u)) ≡ true
held = refl

-- less is less at each place
below : AllBelow (false ∷ true ∷ []) (true ∷ true ∷ [])
below = ((λ e. refl), ((λ e. refl), tt))

not_below : AllBelow (true ∷ []) (false ∷ []) → false ≡ true
not_below h = h.0 refl
