-- What the code keeps of variables, by number, and the sets that it makes of that.
use Rattle.std.specs.Prelude.{ℕ, zero, suc, List, [], ◌∷◌, ◌++◌, map, length, Option, Some, None, Vec}
use Rattle.std.specs.Global.{Global}
use Rattle.ty_core.specs.Types.{arrow}
use Rattle.ir_mono.specs.Types as table
use Rattle.ir_mono.specs.Types.{Node, node, node_at}
use Rattle.flow_sets.specs.ByType.{takes}
use Rattle.mono_bound.specs.declared.bound.What.{What}
use Rattle.mono_bound.specs.declared.bound.What.TheVariants as what

abbrev pub kind_at : List (Option What) → ℕ → Option What
kind_at [] x = None
kind_at (k ∷ ks) zero = k
kind_at (k ∷ ks) (suc x) = kind_at ks x

abbrev pub items_of : List (Vec ℕ Global) → List (List ℕ)
items_of = map (λ s. s.items)

abbrev pub empty_sets : ℕ → List (List ℕ)
empty_sets zero = []
empty_sets (suc n) = [] ∷ empty_sets n

-- one more in the set of this number
abbrev pub pushed : (number function : ℕ) → List (List ℕ) → List (List ℕ)
pushed t x [] = []
pushed zero x (s ∷ ss) = (s ++ x ∷ []) ∷ ss
pushed (suc t) x (s ∷ ss) = s ∷ pushed t x ss

abbrev pub with_kind : Option What → (x : ℕ) → List (List ℕ) → List (List ℕ)
with_kind None x ss = ss
with_kind (Some (what.Value t)) x ss = ss
with_kind (Some what.Name) x ss = ss
with_kind (Some (what.Parameter t)) x ss = pushed t x ss

-- variables from x on that are of these kinds
abbrev pub sets_in : (x : ℕ) → List (Option What) → List (List ℕ) → List (List ℕ)
sets_in x [] ss = ss
sets_in x (k ∷ ks) ss = sets_in (suc x) ks (with_kind k x ss)

abbrev pub takes_of : (nothing : ℕ) → Node → ℕ
takes_of nothing (node arrow (a ∷ b ∷ [])) = a
takes_of nothing k = nothing

abbrev pub number_in : List table.Row → Option What → ℕ
number_in types None = length types
number_in types (Some (what.Value t)) = t
number_in types (Some what.Name) = length types
number_in types (Some (what.Parameter f)) = takes types (node_at types f)
