-- Type functions (section 4.4 of the Definition). Schemes, environments and contexts are those of the rules: `core_rules/specs/Objects.antt`.
use Rattle.std.specs.Prelude.{ℕ, zero, suc, Bool, nat_eq, nat_lt, if◌then◌else◌, Option, Some, None, unwrap_or}
use Rattle.ty_core.specs.Types.{Typ, var, con, Typs, none, more, name, admits}
use Rattle.ty_core.specs.declared.name.TyName.{TyName}

-- f put for the variables of a type
abbrev mutual
  pub replace : (ℕ → Typ) → Typ → Typ
  replace f (var v) = f v
  replace f (con h ts) = con h (replace_all f ts)

  pub replace_all : (ℕ → Typ) → Typs → Typs
  replace_all f none = none
  replace_all f (more t ts) = more (replace f t) (replace_all f ts)

-- The parameters are the variables of the body below the arity.
pub record TypeFunction : Type 0 where
  pub arity : ℕ
  pub body : Typ

abbrev pub count : Typs → ℕ
count none = 0
count (more t ts) = suc (count ts)

abbrev pub argument : Typs → ℕ → Option Typ
argument none k = None
argument (more t ts) zero = Some t
argument (more t ts) (suc k) = argument ts k

-- what the function gives for these arguments, if they are as many as its parameters: the body, with the arguments for the parameters
abbrev pub apply : TypeFunction → Typs → Option Typ
apply f ts = if nat_eq (count ts) f.arity then Some (replace (λ v. unwrap_or (argument ts v) (var v)) f.body) else None

-- it admits equality where its body does once all its parameters do
abbrev pub function_admits : TypeFunction → Bool
function_admits f = admits (λ v. nat_lt v f.arity) f.body

-- so many variables, from this one on
abbrev pub variables : ℕ → ℕ → Typs
variables v zero = none
variables v (suc n) = more (var v) (variables (suc v) n)

-- a type name is the function that gives its types
abbrev pub named : TyName → TypeFunction
named n = record { arity = n.arity; body = con (name n) (variables 0 n.arity) }
