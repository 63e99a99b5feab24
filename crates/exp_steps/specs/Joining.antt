-- Operators whose operands are still to come.
use Rattle.std.specs.Prelude.{◌≡◌, ℕ, Option, List, [], ◌∷◌}
use Rattle.mlc_names.specs.declared.label.Label.TheVariants.{Number}
use Rattle.plain_tree.specs.declared.tree.Field.{Field}
use Rattle.mlc_prims.specs.declared.basis.BasisPrimitive.{BasisPrimitive}
use Rattle.ty_core.specs.Types.{Typ}
use Rattle.ir_poly.specs.Prog as t
use Rattle.match_compile.specs.Compile.{Way, way, by_call, by_building, by_performing}
use Rattle.plain_tree.specs.declared.tree.Step.{Step}
use Rattle.prog_tree.specs.TreeOf.{Reading, join}
use Rattle.prog_tree.specs.declared.tree.Join.{Join}
use Rattle.match_steps.specs.of_match_types.declared.work.Work.{Work}
use Rattle.exp_steps.specs.Making.{Makes, Weighs, Begun}
use Rattle.exp_steps.specs.Ways.{built_of, type_or_unit, operands}
use Rattle.exp_steps.specs.declared.ways.Built.{Built}
use Rattle.exp_steps.specs.declared.joins.Opening.{Opening}
use Rattle.exp_steps.specs.declared.joins.Opening.TheVariants as openings

-- the operator f goes so, whatever its operands
abbrev pub Goes : (Reading → t.Exp) → (Reading → Way) → Type 0
Goes f w = (R : Reading) (u : Typ) (d e : t.Exp) → way (f R) (operands u d e) ≡ w R

pub record OpensCall (old new : Work) (before after : List Step) (f : Reading → t.Exp) (x : ℕ) : Type 0 where
  pub goes : Goes f (λ R. by_call)
  pub makes : Makes old new before after f x

pub record OpensBuilding (old new : Work) (before after : List Step) (f : Reading → t.Exp) (b : Built) (name : ℕ) : Type 0 where
  pub goes : Goes f (λ R. by_building (built_of b R))
  pub begun : Begun old new before after f b name

pub record OpensPerforming (old new : Work) (before after : List Step) (f : Reading → t.Exp) (p : BasisPrimitive) (k : Option ℕ) : Type 0 where
  pub goes : Goes f (λ R. by_performing p (type_or_unit k R))
  pub weighs : Weighs old new before after f

-- what stands before the operands of f was put behind the steps before
abbrev pub Opens : (old new : Work) (before after : List Step) → (Reading → t.Exp) → Opening → Type 0
Opens old new before after f (openings.Call x) = OpensCall old new before after f x
Opens old new before after f (openings.Building b name) = OpensBuilding old new before after f b name
Opens old new before after f (openings.Performing p k) = OpensPerforming old new before after f p k

-- an operator between its operands
abbrev pub joined : Join → (f d e : Reading → t.Exp) → Reading → t.Exp
joined j f d e R = join R.type j (f R) (d R) (e R)

abbrev pub pair_fields : (d e : Reading → t.Exp) → Reading → t.Fields
pair_fields d e R = t.a_field (Number 1) (d R) (t.a_field (Number 2) (e R) t.no_fields)

abbrev pub pair_row : (x y : ℕ) → List Field
pair_row x y = record { label = Number 1; atom = x } ∷ record { label = Number 2; atom = y } ∷ []
