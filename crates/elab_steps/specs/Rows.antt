-- Fields of records, each with a type of the table.
use Rattle.std.specs.Prelude.{◌≡◌, true, ℕ, List, ◌++◌, length, map}
use Rattle.ty_core.specs.Types.{Typ}
use Rattle.ty_basis.specs.Types.{Row, labels_in, row_type}
use Rattle.elab_types.specs.of_ty_solve.Limits.{AllLimited}
use Rattle.elab_types.specs.of_ty_solve.declared.limit.Limit.{Limit}
use Rattle.ty_table.specs.TypeAt.{types_at}
use Rattle.label_rows.specs.declared.sort.Field.{Field}
use Rattle.elab_types.specs.of_core_rules.Objects.{sorted}
use Rattle.elab_state.specs.of_ir_poly.Types.{ascend}
use Rattle.elab_state.specs.States.{types_in, limit_in}
use Rattle.elab_state.specs.declared.state.State.{State}
use Rattle.elab_steps.specs.Growing.{Always, AreTypes, Grows, types_of}
use Rattle.elab_steps.specs.World.{World, type_of}

-- labels with types
abbrev pub row_of : World → List Field → Row
row_of W = map (λ f. (f.label, type_of W f.part))

-- a type of records with these fields and perhaps others, none with a label of another
pub record HasFields (W : World) (fs : List Field) (t : Typ) : Type 0 where
  pub others : Row
  pub is : t ≡ row_type (sorted (row_of W fs ++ others))
  pub once : ascend (labels_in (sorted (row_of W fs ++ others))) ≡ true

-- the types of fields were made the same as those of ks, of which no variable reaches further than a limit
pub record AreBounded (S : State) (limit : Limit) (fs : List Field) (T : State) (ks : List ℕ) : Type 0 where
  pub grows : Grows S T
  pub next : T.next ≡ S.next
  pub count : length ks ≡ length fs
  pub are : AreTypes T ks
  pub limited : AllLimited (limit_in T) limit (types_at (types_in T) ks)
  pub same : Always T (λ W. types_of W ks ≡ types_of W (map (λ f. f.part) fs))
