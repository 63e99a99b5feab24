use Rattle.std.proofs.Common.{◌≡◌, ◌++◌, length, sym, subst, OnOk}
use Rattle.first_tables.specs.TablesOf.{plain_of}
use Rattle.emit_rows.specs.of_machine_code.Code.{depths_in, plain_code}
use Rattle.emit_code.specs.PlacesOf.{places_of}
use Rattle.emit_code.proofs.plain.emit_plain.Goals as goal

pub returns-in-Equal : goal.returns-in-Equal
returns-in-Equal c =
    subst (λ p. OnOk c.emit_equal.result (c.emit_equal.new.code.items ≡ c.args.code.now.items
    ++ plain_code (places_of c.args.tables.now c.args.at.now) (length c.args.code.now.items) c.args.depth (plain_of p) (depths_in c.args.operands.now c.args.slots.now)))
    (sym c.in-Equal.is) (c.emit_equal.ensures _ _ c.in_ok-x.ensures c.in_ok-y.ensures)
