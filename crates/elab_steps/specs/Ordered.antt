-- Types whose records have their labels in order.
use Rattle.std.specs.Prelude.{Bool, true, ◌&&◌}
use Rattle.ty_core.specs.Types.{Symbol, arrow, labels, name, Typ, var, con, Typs, none, more}
use Rattle.elab_state.specs.of_ir_poly.Types.{ascend}

abbrev pub begins_in_order : Symbol → Bool
begins_in_order arrow = true
begins_in_order (labels ls) = ascend ls
begins_in_order (name n) = true

-- in each record type in it the labels stand in order, none twice
abbrev mutual
  pub is_ordered : Typ → Bool
  is_ordered (var v) = true
  is_ordered (con h ts) = begins_in_order h && are_ordered ts

  pub are_ordered : Typs → Bool
  are_ordered none = true
  are_ordered (more t ts) = is_ordered t && are_ordered ts
