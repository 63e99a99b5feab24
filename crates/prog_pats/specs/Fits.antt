-- What is asked of patterns where this is in scope. Types are numbers of the tables.
use Rattle.std.specs.Prelude.{ℕ, Bool, ◌&&◌, List}
use Rattle.mlc_names.specs.declared.label.Label.{Label}
use Rattle.ty_core.specs.Types.{Typ}
use Rattle.ty_table.specs.TypeAt.{type_at}
use Rattle.ir_poly.specs.Types.{over}
use Rattle.ir_tables.specs.declared.tables.Tables.{Tables}
use Rattle.prog_known.specs.declared.environment.Environment.{Environment}
use Rattle.prog_known.specs.Environments.{parameters_in, variables_in}
use Rattle.prog_known.specs.Lists.{hold, all_hold}
use Rattle.prog_tree.specs.declared.tree.Exception.{Exception}
use Rattle.prog_tree.specs.declared.tree.Head.{Head}
use Rattle.prog_tree.specs.declared.tree.Pair.{Pair}
use Rattle.prog_tree.specs.declared.tree.Pat.{Pat}
use Rattle.prog_tree.specs.declared.tree.PatField.{PatField}
use Rattle.prog_tree.specs.declared.tree.PatPart.{PatPart}
use Rattle.prog_tree.specs.declared.tree.Side.{Side}
use Rattle.prog_parts.specs.of_prog_binds.Chains.{first_type}
use Rattle.prog_parts.specs.Patterns as parts

module _ (t : Tables) where
  abbrev pub type_in : ℕ → Typ
  type_in = type_at t.types

  module _ (e : Environment) where
    -- over the parameters in scope
    abbrev pub is_over : ℕ → Bool
    is_over a = over (parameters_in e) (type_in a)

    -- a pattern for values of a type
    abbrev pub pat_fits : Pat → ℕ → Bool
    pat_fits p u = parts.pat_holds t (parameters_in e) (variables_in t e) p u

    -- an exception alone
    abbrev pub exception_fits : Exception → ℕ → Bool
    exception_fits x u = parts.exception_fits (variables_in t e) x (type_in u)

    -- what stands before an argument, its type, and that of what is matched
    abbrev pub head_fits : Head → ℕ → ℕ → Bool
    head_fits h a u = parts.head_fits t (parameters_in e) (variables_in t e) h (type_in a) (type_in u)

    -- a constructor between two operands
    abbrev pub joint_fits : Head → Pair → ℕ → Bool
    joint_fits h j u = parts.joint_fits t (parameters_in e) (variables_in t e) h j (type_in u)

    abbrev pub pair_fits : Pair → Bool
    pair_fits j = parts.pair_fits (parameters_in e) (type_in j.ty) (type_in j.left) (type_in j.right)

    -- a record of this type has a part of that one
    abbrev pub part_fits : ℕ → Label → ℕ → Bool
    part_fits u l a = parts.is_part (parameters_in e) (type_in u) l (type_in a)

    abbrev pub field_fits : ℕ → PatField → Bool
    field_fits = parts.field_holds t (parameters_in e) (variables_in t e)

    -- a further operand of a chain, with the types of what it and its own pattern are matched with
    abbrev pub operand_fits : PatPart → ℕ → ℕ → Bool
    operand_fits = parts.part_right t (parameters_in e) (variables_in t e)

    abbrev pub chain_fits : Side → ℕ → PatPart → List PatPart → Bool
    chain_fits = parts.part_holds t (parameters_in e) (variables_in t e)

    -- what stands before an argument, and the argument's pattern
    abbrev pub before_fits : Head → ℕ → Pat → ℕ → Bool
    before_fits h a p u = head_fits h a u && (is_over a && pat_fits p a)

    -- fields, and how many there are
    abbrev pub record_fits : Bool → List PatField → ℕ → Bool
    record_fits further fs u = all_hold (field_fits u) fs && parts.has_size (parts.size_if further fs) (type_in u)

    -- the first operand of a chain, and its parts
    abbrev pub operands_fit : Side → Pat → List PatPart → ℕ → Bool
    operands_fit s p js u = pat_fits p (first_type u js) && hold (chain_fits s) (parts.next_part s) u js
