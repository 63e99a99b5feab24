-- What is in scope, as the code keeps it: what was bound, the latest first.
use Rattle.std.specs.Prelude.{ℕ, ◌+◌, ◌*◌, Bool, List, [], ◌∷◌, Option, Some, None, nat_eq, length, take, if◌then◌else◌}
use Rattle.sml_tree.specs.declared.ident.Vid.{Vid}
use Rattle.sml_tree.specs.declared.ident.Vid.TheVariants.{Named, Equals, Fresh}
use Rattle.core_rules.specs.Words.{same_vid}
use Rattle.name_scopes.specs.declared.bound.Bound.{Bound}
use Rattle.name_scopes.specs.declared.bound.Bound.TheVariants.{Value, Tycon, Structure}
use Rattle.name_scopes.specs.declared.bound.Members.{Members}
use Rattle.name_scopes.specs.declared.held.Held.{Held}

-- a value identifier, and whether it is a variable
abbrev pub value_found : List Bound → Vid → Option Bool
value_found [] x = None
value_found (Value y v ∷ bs) x = if same_vid x y then Some v else value_found bs x
value_found (Tycon y n ∷ bs) x = value_found bs x
value_found (Structure y s ∷ bs) x = value_found bs x

-- a type constructor: its constructors were bound just before it
abbrev pub tycon_found : List Bound → ℕ → Option (List Bound)
tycon_found [] x = None
tycon_found (Value y v ∷ bs) x = tycon_found bs x
tycon_found (Tycon y n ∷ bs) x = if nat_eq x y then Some (take n bs) else tycon_found bs x
tycon_found (Structure y s ∷ bs) x = tycon_found bs x

abbrev pub structure_found : List Bound → ℕ → Option Members
structure_found [] x = None
structure_found (Value y v ∷ bs) x = structure_found bs x
structure_found (Tycon y n ∷ bs) x = structure_found bs x
structure_found (Structure y s ∷ bs) x = if nat_eq x y then Some s else structure_found bs x

-- The numbers under which it is looked up.

abbrev pub vid_key : Vid → ℕ
vid_key (Named x) = 4 * x
vid_key (Fresh k) = 4 * k + 1
vid_key Equals = 2

abbrev pub tycon_key : ℕ → ℕ
tycon_key x = 4 * x + 3

abbrev pub structure_key : ℕ → ℕ
structure_key x = 4 * x + 6

abbrev pub key_of : Bound → ℕ
key_of (Value x v) = vid_key x
key_of (Tycon x n) = tycon_key x
key_of (Structure x s) = structure_key x

-- each under its number, with how much was bound before it
abbrev pub keyed : List Bound → List (ℕ × Held)
keyed [] = []
keyed (b ∷ bs) = (key_of b, record { bound = b; before = length bs }) ∷ keyed bs
