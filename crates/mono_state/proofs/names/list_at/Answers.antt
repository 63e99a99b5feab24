use Rattle.std.proofs.Common.{sym, ◌∙◌, map}
use Rattle.std.proofs.lemmas.Result.{IfOk-weaker}
use Rattle.ty_table.specs.TypeAt.{type_at}
use Rattle.mono_close.specs.Closing.{standing}
use Rattle.mono_state.specs.Seen.{held_of}
use Rattle.mono_state.proofs.Going.{goes-nowhere}
use Rattle.mono_state.proofs.Naming.{own-held, used-own, used-other}
use Rattle.mono_state.proofs.names.list_at.Goals as goal

pub returns-in-Some-clause-goes : goal.returns-in-Some-clause-goes
returns-in-Some-clause-goes c = goes-nowhere c.args.tables.now.types c.args.copier.now c.requires.is_open

pub returns-in-Some-clause-held : goal.returns-in-Some-clause-held
returns-in-Some-clause-held c = own-held (held_of c.args.copier.now) c.args.variable c.in-Some.list c.args.copier.now.own c.requires.is_open.own (sym c.find.ensures ∙ c.in-Some.is)

pub returns-in-Some-clause-is : goal.returns-in-Some-clause-is
returns-in-Some-clause-is c = λ H l.
    used-own H c.args.variable c.in-Some.list c.args.copier.now.own (standing H.types c.args.copier.now.slots) (map (type_at c.args.tables.now.types) c.args.types.now) (sym c.find.ensures ∙ c.in-Some.is)

pub returns-in-None-clause-is : goal.returns-in-None-clause-is
returns-in-None-clause-is c =
    IfOk-weaker c.closed_list.result _ _
    (λ k h. λ H l. used-other H c.args.variable k c.args.copier.now.own (standing H.types c.args.copier.now.slots) (map (type_at c.args.tables.now.types) c.args.types.now)
    (sym c.find.ensures ∙ c.in-None.is) (h H l))
    c.closed_list.ensures.is
