-- Names are noted one after the other.
use Rattle.std.proofs.Common.{◌≡◌, Bool, true, false, not, ◌&&◌, ◌||◌, List, [], ◌∷◌, nat_eq, if◌then◌else◌, refl, sym, ap, ◌∙◌}
use Rattle.ty_core.specs.Types.{Typ}
use Rattle.monomorphise.specs.Monomorphise.{Name, copy_of, same_types, is_among, is_in, others, without, all_needs}
use Rattle.mono_scopes.specs.Scopes.{variable, binding, Scopes, with_list, noted, noting, noting_all, PartsAreNoted, BindingsAreNoted, VariablesAreNoted, CopiesAreNoted, GroupsAreNoted}

pub parts-noted : PartsAreNoted
parts-noted [] w l = refl
parts-noted (copy_of x a ∷ v) w l = ap (noted x a) (parts-noted v w l)

pub bindings-noted : BindingsAreNoted
bindings-noted vs u [] l = refl
bindings-noted vs u (copy_of x a ∷ w) l = ap (noted x a) (bindings-noted vs u w l) ∙ by (is_among x vs)
  where
    by : (b : Bool) → (if b then binding vs u (with_list u a (others vs u w)) ∷ noting (without vs w) l else binding vs u (others vs u w) ∷ noted x a (noting (without vs w) l))
        ≡ binding vs u (if b && not (same_types u a || is_in a (others vs u w)) then a ∷ others vs u w else others vs u w) ∷ noting (if b then without vs w else copy_of x a ∷ without vs w) l
    by true = refl
    by false = refl

pub variables-noted : VariablesAreNoted
variables-noted y [] l = refl
variables-noted y (copy_of x a ∷ w) l = ap (noted x a) (variables-noted y w l) ∙ by (nat_eq x y)
  where
    by : (b : Bool) → (if b then variable y ∷ noting (without (y ∷ []) w) l else variable y ∷ noted x a (noting (without (y ∷ []) w) l))
        ≡ variable y ∷ noting (if (if b then true else false) then without (y ∷ []) w else copy_of x a ∷ without (y ∷ []) w) l
    by true = refl
    by false = refl

all-noted : (f : List Typ → List Name) (ts : List (List Typ)) (l : Scopes) → noting (all_needs f ts) l ≡ noting_all f ts l
all-noted f [] l = refl
all-noted f (a ∷ ts) l = parts-noted (f a) (all_needs f ts) l ∙ ap (noting (f a)) (all-noted f ts l)

pub copies-noted : CopiesAreNoted
copies-noted u vs f w l = parts-noted (all_needs f (u ∷ others vs u w)) (without vs w) l ∙ all-noted f (u ∷ others vs u w) (noting (without vs w) l)

pub groups-noted : GroupsAreNoted
groups-noted u vs f w l =
    sym (all-noted f (u ∷ others vs u w) (binding vs u [] ∷ noting (without vs w) l))
    ∙ bindings-noted vs u (all_needs f (u ∷ others vs u w)) (noting (without vs w) l)
    ∙ ap (λ m. binding vs u (others vs u (all_needs f (u ∷ others vs u w))) ∷ m) (sym (parts-noted (without vs (all_needs f (u ∷ others vs u w))) (without vs w) l))
