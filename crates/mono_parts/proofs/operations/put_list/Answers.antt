use Rattle.std.proofs.lemmas.Result.{IfOk-weaker}
use Rattle.mono_state.specs.Seen.{seen}
use Rattle.mono_state.proofs.Going.{goes-nowhere}
use Rattle.mono_parts.proofs.Acts.{record-list, perform-list, no-list}
use Rattle.mono_parts.proofs.operations.put_list.Goals as goal

pub returns-in-Record-clause-made : goal.returns-in-Record-clause-made
returns-in-Record-clause-made c =
    IfOk-weaker c.put_fields.result _ _
    (λ x h. λ t ss H l. record-list t c.args.operation.now c.in-Record.ty c.in-Record.fields c.deref.result.now (seen ss H c.args.copier.now) (seen ss H c.put_fields.new.copier) c.in-Record.is c.deref.ensures.value (h t ss H l))
    c.put_fields.ensures.made

pub returns-in-Perform-clause-made : goal.returns-in-Perform-clause-made
returns-in-Perform-clause-made c =
    IfOk-weaker c.put_arguments.result _ _
    (λ x h. λ t ss H l. perform-list t c.args.operation.now c.in-Perform.place c.in-Perform.primitive c.in-Perform.ty c.in-Perform.arguments c.deref-in-Perform.result.now (seen ss H c.args.copier.now) (seen ss H c.put_arguments.new.copier) c.in-Perform.is
    c.deref-in-Perform.ensures.value (h t ss H l))
    c.put_arguments.ensures.made

pub returns-in_default : goal.returns-in_default
returns-in_default c = record {
  goes = λ sources. goes-nowhere sources c.args.copier.now c.requires;
  made = λ t ss H l. no-list t c.args.operation.now (seen ss H c.args.copier.now) c.in_default.not-Record c.in_default.not-Perform;
}
