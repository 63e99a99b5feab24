use Rattle.general_bindings.proofs.Placing.{field-gives}
use Rattle.general_bindings.proofs.records.field_body.Goals as goal

pub returns-clause-gives : goal.returns-clause-gives
returns-clause-gives c = λ u stands.
    let a = c.in_ok-at.ensures in
    let p = c.in_ok-whole.ensures in
    let f = c.in_ok-field.ensures in
    let q = c.in_ok-value.ensures in
    field-gives c.args.parameters c.args.record_at c.args.ty c.args.number c.args.spot.ty u c.in_ok-at.at.items c.in_ok-field.field c.in_ok-label.label c.new-inner.ensures.items a.is a.next a.keeps p.is p.next p.keeps p.puts f.is f.next f.keeps
    c.in_ok-label.ensures q.is q.next q.keeps q.puts c.in_ok-body.ensures stands
