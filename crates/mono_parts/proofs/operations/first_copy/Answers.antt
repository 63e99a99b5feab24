use Rattle.std.proofs.lemmas.Result.{IfOk-weaker}
use Rattle.mono_close.specs.Closing.{standing}
use Rattle.mono_state.specs.Seen.{seen, groups_in}
use Rattle.mono_parts.proofs.Acts.{use-noted, use-is, atom-noted, atom-is}
use Rattle.mono_parts.proofs.operations.first_copy.Goals as goal

pub returns-in-Use-clause-noted : goal.returns-in-Use-clause-noted
returns-in-Use-clause-noted c =
    IfOk-weaker c.used.result _ _
    (λ n h. λ ss H l. use-noted c.args.tables.now (groups_in H c.args.copier.now.own) (standing H.types c.args.copier.now.slots) c.args.operation.now c.in-Use.variable c.in-Use.types c.deref.result.now (seen ss H c.args.copier.now) (seen ss H c.used.new.copier)
    c.in-Use.is c.deref.ensures.value (h ss H l))
    c.used.ensures.noted

pub returns-in-Use-clause-is : goal.returns-in-Use-clause-is
returns-in-Use-clause-is c =
    IfOk-weaker c.used.result _ _
    (λ n h. λ H l. use-is H c.args.tables.now (groups_in H c.args.copier.now.own) (standing H.types c.args.copier.now.slots) c.args.operation.now c.in-Use.variable c.in-Use.types c.deref.result.now n c.in-Use.is c.deref.ensures.value (h H l))
    c.used.ensures.is

pub returns-in_default : goal.returns-in_default
returns-in_default c = record {
  goes = IfOk-weaker c.atom_if.result _ _ (λ n h. h c.args.tables.now.types) c.atom_if.ensures.goes;
  noted = IfOk-weaker c.atom_if.result _ _
      (λ n h. λ ss H l. atom-noted c.args.tables.now (groups_in H c.args.copier.now.own) (standing H.types c.args.copier.now.slots) c.args.operation.now c.first_said.result (seen ss H c.args.copier.now) (seen ss H c.atom_if.new.copier)
      c.in_default.not-Use c.first_said.ensures (h ss H l))
      c.atom_if.ensures.noted;
  is = IfOk-weaker c.atom_if.result _ _
      (λ n h. λ H l. atom-is H c.args.tables.now (groups_in H c.args.copier.now.own) (standing H.types c.args.copier.now.slots) c.args.operation.now c.first_said.result n c.in_default.not-Use c.first_said.ensures (h H l))
      c.atom_if.ensures.is;
}
