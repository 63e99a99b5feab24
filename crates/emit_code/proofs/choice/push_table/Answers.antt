use Rattle.std.proofs.Common.{◌≡◌, map, subst, OnOk}
use Rattle.emit_code.specs.Tags.{target_of}
use Rattle.emit_code.proofs.Choices.{table-is}
use Rattle.emit_code.proofs.choice.push_table.Goals as goal

pub returns : goal.returns
returns c =
    subst (λ l. OnOk c.put-2.result (c.put-2.new.code.items ≡ l))
    (table-is (map target_of c.args.targets.now) c.args.code.now.items c.put.new.code.items c.push_jumps.new.code.items c.jmp.result c.args.slot c.args.other
    c.args.count c.in_ok-places.places.items c.deref.result.now c.in_ok-put.ensures c.deref.ensures.value c.in_ok-push_jumps.ensures c.jmp.ensures
    c.in_ok-places.ensures.length c.in_ok-places.ensures.each)
    c.put-2.ensures
