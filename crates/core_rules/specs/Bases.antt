-- Signatures, functors and bases. [Definition 5.1]
use Rattle.std.specs.Prelude.{ℕ, nat_eq, List, [], ◌++◌}
use Rattle.sml_tree.specs.Fixity.{Fixity}
use Rattle.ty_basis.specs.of_ty_core.declared.name.TyName.{TyName}
use Rattle.core_rules.specs.Objects.{Map, joined, Env, no_env, plus}

-- A signature binds the type names that may be realised, a functor's result those that an application makes.
pub record Signature : Type 0 where
  pub flexible : List TyName
  pub body : Env

pub record Functor : Type 0 where
  pub parameter : Signature
  pub result : Signature

-- Beside the Definition's components all directives of fixity that are in force [2.6], those of `nonfix` and the one of `=` among them.
-- The type names in use are those numbered so far.
pub record Basis : Type 0 where
  pub body : Env
  pub signatures : Map ℕ Signature
  pub functors : Map ℕ Functor
  pub fixities : Fixity

abbrev pub no_basis : Basis
no_basis = record { body = no_env; signatures = []; functors = []; fixities = [] }

-- B + B', where the newest directive comes first
abbrev pub plus_basis : Basis → Basis → Basis
plus_basis b c = record {
  body = plus b.body c.body;
  signatures = joined nat_eq b.signatures c.signatures;
  functors = joined nat_eq b.functors c.functors;
  fixities = c.fixities ++ b.fixities;
}
