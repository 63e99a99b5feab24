use Rattle.std.proofs.Common.{refl}
use Rattle.std.proofs.lemmas.Result.{IfOk-weaker}
use Rattle.mono_close.proofs.Tables.{type-held}
use Rattle.ty_table.specs.TypeAt.{type_at}
use Rattle.mono_state.specs.Seen.{held_of}
use Rattle.mono_state.proofs.Growing.{with-types}
use Rattle.mono_state.proofs.Going.{goes-closed}
use Rattle.mono_state.proofs.Naming.{closed-in}
use Rattle.mono_state.proofs.names.type_of.Goals as goal

pub returns-clause-goes : goal.returns-clause-goes
returns-clause-goes c =
    let old = c.args.copier.now in
    IfOk-weaker c.close_type.result _ _
    (λ n h. goes-closed c.args.tables.now.types old (record old { closed = c.close_type.new.closed; known = c.close_type.new.known }) c.requires.is_open
    (with-types (held_of old) c.close_type.new.closed c.close_type.ensures.earlier_stay) refl refl refl h c.requires.is_open.few)
    c.close_type.ensures.right

pub returns-clause-is : goal.returns-clause-is
returns-clause-is c =
    let old = c.args.copier.now in
    IfOk-weaker c.close_type.result _ _
    (λ n h. λ H l. closed-in n (type_at c.args.tables.now.types c.args.ty) old.slots c.requires.is_open.slots
    (with-types (held_of old) c.close_type.new.closed c.close_type.ensures.earlier_stay) l h)
    c.close_type.ensures.is

pub returns-clause-held : goal.returns-clause-held
returns-clause-held c = IfOk-weaker c.close_type.result _ _ (λ n h. type-held c.close_type.new.closed n _ h) c.close_type.ensures.is
