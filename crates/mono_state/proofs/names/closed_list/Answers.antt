use Rattle.std.proofs.Common.{refl, ap, ◌∙◌, take, map, arith}
use Rattle.std.proofs.lemmas.Result.{IfOk-weaker}
use Rattle.std.proofs.Common.{get_or, ◌+◌}
use Rattle.std.proofs.lemmas.List.{take_more, take_all}
use Rattle.ty_core.specs.Statics.{replace}
use Rattle.ty_table.specs.TypeAt.{type_at}
use Rattle.mono_close.specs.Closing.{standing}
use Rattle.mono_state.specs.Seen.{held_of}
use Rattle.mono_state.proofs.Growing.{sooner, with-lists, lists-longer}
use Rattle.mono_state.proofs.Naming.{list-at}
use Rattle.mono_state.proofs.Listing.{closed-none, closed-more, list-goes, list-held}
use Rattle.mono_state.proofs.names.closed_list.Goals as goal

pub loop-i-init : goal.loop-i-init
loop-i-init c = closed-none c.args.tables.now.types c.args.copier.now c.new-closed.result.items c.requires.is_open c.new-closed.ensures.items

pub type_of-requires-clause-is_open : goal.type_of-requires-clause-is_open
type_of-requires-clause-is_open c = c.loop-i.invariant.goes.open_

pub type_of-requires-clause-right : goal.type_of-requires-clause-right
type_of-requires-clause-right c = c.loop-i.invariant.goes.right c.requires.right

pub loop-i-preserved : goal.loop-i-preserved
loop-i-preserved c =
    closed-more c.args.tables.now.types c.args.copier.now c.loop-i.copier c.type_of.new.copier (take c.loop-i.i c.args.types.now) (take (c.loop-i.i + 1) c.args.types.now) c.loop-i.closed.items
    c.push.new.self.items (get_or c.args.types.now c.loop-i.i 0) c.in_ok-n.n c.loop-i.invariant c.in_ok-n.ensures.goes c.in_ok-n.ensures.stays c.in_ok-n.ensures.is c.in_ok-n.ensures.held
    (take_more c.args.types.now c.loop-i.i 0 (omega arith)) c.in_ok-push.ensures.items

pub returns-clause-goes : goal.returns-clause-goes
returns-clause-goes c =
    IfOk-weaker c.number.result _ _
    (λ k h. list-goes c.args.tables.now.types c.args.copier.now c.loop-i.copier (record c.loop-i.copier { lists = c.number.new.self }) c.loop-i.closed.items k c.loop-i.invariant.goes h
    refl refl refl refl refl refl refl)
    c.number.ensures.ok

pub returns-clause-held : goal.returns-clause-held
returns-clause-held c =
    IfOk-weaker c.number.result _ _
    (λ k h. list-held (held_of (record c.loop-i.copier { lists = c.number.new.self })) c.loop-i.closed.items k h.held c.loop-i.invariant.below) c.number.ensures.ok

pub returns-clause-is : goal.returns-clause-is
returns-clause-is c =
    IfOk-weaker c.number.result _ _
    (λ k h. λ H l. list-at k c.loop-i.closed.items l h.held
    ∙ c.loop-i.invariant.is H (sooner (with-lists (held_of c.loop-i.copier) c.number.new.self (lists-longer c.loop-i.copier.lists c.loop-i.closed.items k c.number.new.self h)) l)
    ∙ ap (λ ts. map (replace (standing H.types c.args.copier.now.slots)) (map (type_at c.args.tables.now.types) ts)) (take_all c.loop-i.i c.args.types.now (omega arith)))
    c.number.ensures.ok
