use Rattle.std.proofs.Common.{◌≡◌, arith, ap, subst, IfOk}
use Rattle.emit_rows.specs.of_machine_code.Code.{slot}
use Rattle.emit_code.proofs.Slots.{depths-read, depths-none}
use Rattle.emit_code.proofs.put.operand.Goals as goal

pub returns-then-number-operands : goal.returns-then-number-operands
returns-then-number-operands c =
    subst (λ z. IfOk c.slot_of.result (λ s. s ≡ slot z)) (depths-read c.args.operands.now c.args.slots.now c.args.number c.if-number-operands.true) c.slot_of.ensures

pub returns-else-number-operands : goal.returns-else-number-operands
returns-else-number-operands c = ap slot (depths-none c.args.operands.now c.args.slots.now c.args.number (omega (arith, c.if-number-operands.false)))
