use Rattle.std.proofs.Common.{[]}
use Rattle.std.proofs.lemmas.Result.{IfOk-weaker}
use Rattle.ir_tables.specs.Tables.{strings_of}
use Rattle.mono_state.specs.Seen.{seen}
use Rattle.mono_state.proofs.Growing.{sooner}
use Rattle.mono_state.proofs.Going.{goes-then, if-both}
use Rattle.mono_parts.proofs.Acts.{op-whole}
use Rattle.mono_parts.proofs.operations.put_operation.Goals as goal

pub act_of-requires-clause-is_open : goal.act_of-requires-clause-is_open
act_of-requires-clause-is_open c = (c.in_ok-put_list.ensures.goes []).open_

pub act_of-requires-clause-right : goal.act_of-requires-clause-right
act_of-requires-clause-right c = (c.in_ok-put_list.ensures.goes c.args.tables.now.types).right c.requires.right

pub note_compared-requires : goal.note_compared-requires
note_compared-requires c = c.in_ok-act.ensures.goes.open_

pub put-requires : goal.put-requires
put-requires c = (c.in_ok-note_compared.ensures.goes []).open_

pub returns-clause-goes : goal.returns-clause-goes
returns-clause-goes c =
    let t = c.args.tables.now.types in
    IfOk-weaker c.put.result _ _
    (λ x h. goes-then t c.args.copier.now c.note_compared.new.copier c.put.new.self
    (goes-then t c.args.copier.now c.act_of.new.copier c.note_compared.new.copier
    (goes-then t c.args.copier.now c.put_list.new.copier c.act_of.new.copier (c.in_ok-put_list.ensures.goes t) c.in_ok-act.ensures.goes) (c.in_ok-note_compared.ensures.goes t)) (h t))
    c.put.ensures.goes

pub returns-clause-made : goal.returns-clause-made
returns-clause-made c =
    let t = c.args.tables.now in
    let ss = strings_of t in
    let old = c.args.copier.now in
    let mid = c.put_list.new.copier in
    if-both c.put.result
    (λ x a b. λ H l.
    let m = sooner (b []).longer l in
    let n = sooner (c.in_ok-note_compared.ensures.goes []).longer m in
    op-whole t H c.args.operation.now c.args.strip c.in_ok-act.act old mid (seen ss H old) (seen ss H mid) (seen ss H c.act_of.new.copier) (seen ss H c.note_compared.new.copier) (seen ss H c.put.new.self)
    (c.in_ok-put_list.ensures.goes []).own (c.in_ok-put_list.ensures.goes []).slots (c.in_ok-put_list.ensures.made t ss H (sooner c.in_ok-act.ensures.goes.longer n)) (c.in_ok-act.ensures.noted ss H n)
    (c.in_ok-note_compared.ensures.noted ss H) (a ss H) (c.in_ok-act.ensures.is H n))
    c.put.ensures.put c.put.ensures.goes
