-- What declarations bind, as a scope of the code holds it: the first in front.
use Rattle.std.specs.Prelude.{ℕ, true, false, List, ◌∷◌, length, map}
use Rattle.sml_tree.specs.declared.ident.Vid.{Vid}
use Rattle.sml_tree.specs.BareTree as bare
use Rattle.name_scopes.specs.Covering.{entries_of}
use Rattle.name_scopes.specs.declared.bound.Bound.{Bound}
use Rattle.name_scopes.specs.declared.bound.Bound.TheVariants.{Value, Tycon}
use Rattle.name_scopes.specs.declared.bound.Members.{Members}

-- type constructors without constructors
abbrev pub type_entries : List ℕ → List Bound
type_entries xs = map (λ x. Tycon x 0) xs

-- constructors, or exceptions
abbrev pub con_entries : List Vid → List Bound
con_entries xs = map (λ x. Value x false) xs

abbrev pub variable_entries : List Vid → List Bound
variable_entries xs = map (λ x. Value x true) xs

abbrev pub data_entries : bare.DataBind → List Bound
data_entries b = Tycon b.tycon (length b.cons) ∷ con_entries (map (λ c. c.vid) b.cons)

-- what a structure of the standard basis has
abbrev pub member_entries : Members → List Bound
member_entries s = map (λ r. Value r.vid true) (entries_of s)
