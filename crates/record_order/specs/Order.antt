-- Which record types have labels that ascend.
use Rattle.std.specs.Prelude.{◌≡◌, Bool, List, map}
use Rattle.ty_core.specs.Types.{Typ}
use Rattle.ir_uses.specs.of_ir_poly.Types.{ascend, labels_in}
use Rattle.ir_uses.specs.of_prog_check.Deciding.{row_in, on_row}
use Rattle.record_order.specs.declared.orders.Orders.{Orders}

-- the type is that of records whose labels ascend
abbrev pub is_ordered : Typ → Bool
is_ordered u = on_row (row_in u) (λ r. ascend (labels_in r))

-- for each type of the table, whether it is
abbrev pub AreOrders : List Typ → Orders → Type 0
AreOrders ts o = o.ordered.items ≡ map is_ordered ts
