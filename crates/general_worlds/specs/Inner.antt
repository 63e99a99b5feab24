-- The world inside a declaration: its parameters are in scope, and all else is as outside.
use Rattle.std.specs.Prelude.{◌≡◌, ℕ, suc, Bool, true, List, if◌then◌else◌, nat_eq, option_map}
use Rattle.std.specs.Map.{lookup}
use Rattle.ty_core.specs.declared.scheme.Quantified.{Quantified}
use Rattle.core_rules.specs.Objects.{at}
use Rattle.ir_poly.specs.Types.{in_scope, admits_in, are_new}
use Rattle.elab_typed.specs.Contexts.{Around}
use Rattle.elab_types.specs.declared.scope.TypeScope.{TypeScope}
use Rattle.elab_state.specs.Generalising.{inside}
use Rattle.elab_state.specs.declared.state.State.{State}
use Rattle.elab_steps.specs.World.{World, Comes, type_of}
use Rattle.elab_context.specs.declared.context.Context.{Context}

-- which variables admit equality there: the parameters by their marks
abbrev pub inner_admits : World → List Quantified → ℕ → Bool
inner_admits W qs v = if in_scope qs v then admits_in qs v else W.admits v

-- the parameters are new inside l declarations
pub record IsInside (W : World) (l : ℕ) (qs : List Quantified) : Type 0 where
  pub new : are_new qs (W.parameters l) ≡ true
  pub nested : (k v : ℕ) → in_scope (inside W.parameters l qs k) v ≡ true → in_scope (inside W.parameters l qs (suc k)) v ≡ true
  pub admitted : (k v : ℕ) → in_scope (inside W.parameters l qs k) v ≡ true → admits_in (inside W.parameters l qs k) v ≡ inner_admits W qs v

abbrev pub inner_world : (W : World) (l : ℕ) (qs : List Quantified) → IsInside W l qs → World
inner_world W l qs h = record {
  raw = W.raw;
  value = W.value;
  naming = W.naming;
  reading = W.reading;
  table = W.table;
  parameters = inside W.parameters l qs;
  admits = inner_admits W qs;
  initial = W.initial;
  nested = h.nested;
  admitted = h.admitted;
  ordered = W.ordered;
}

-- what the state says comes true inside
pub record ComesInside (S : State) (W : World) (l : ℕ) (qs : List Quantified) : Type 0 where
  pub inside : IsInside W l qs
  pub comes : Comes S (inner_world W l qs inside)

-- the context inside a declaration is one deeper, with these type variables
abbrev pub deeper : Context → TypeScope → Context
deeper C s = record C { types = s; level = suc C.level }

-- the type variables are those that are around, also the ones that are scoped at the declaration
abbrev pub HasTyvars : World → TypeScope → Around → Type 0
HasTyvars W s A = (a : ℕ) → at nat_eq A.tyvars a ≡ option_map (type_of W) (lookup (nat_eq a) s.tyvars)
