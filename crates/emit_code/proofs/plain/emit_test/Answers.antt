use Rattle.std.proofs.Common.{◌≡◌, ◌++◌, length, sym, subst, OnOk}
use Rattle.first_tables.specs.TablesOf.{test_of}
use Rattle.emit_rows.specs.of_machine_code.Code.{depths_in, test_code}
use Rattle.emit_code.specs.PlacesOf.{places_of}
use Rattle.emit_code.proofs.plain.emit_test.Goals as goal

pub returns-in-Is : goal.returns-in-Is
returns-in-Is c =
    subst (λ q. OnOk c.emit_is.result (c.emit_is.new.code.items ≡ c.args.code.now.items
    ++ test_code (places_of c.args.tables.now c.args.at.now) (length c.args.code.now.items) c.args.depth (test_of q) (depths_in c.args.operands.now c.args.slots.now) c.args.other))
    (sym c.in-Is.is) (c.emit_is.ensures c.args.depth _ c.in_ok-slot.ensures c.in_ok-x.ensures)
