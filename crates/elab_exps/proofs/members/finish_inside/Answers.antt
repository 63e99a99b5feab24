use Rattle.std.proofs.Common.{◌∷◌, [], length, sym, ap, subst, ◌∙◌}
use Rattle.elab_steps.specs.Flexible.{AreSettled}
use Rattle.pat_elab.specs.Elaborated.{AreVariables}
use Rattle.elab_exps.proofs.Grouping.{all_at, ended_stands}
use Rattle.elab_exps.proofs.members.finish_inside.Goals as goal

pub finish-requires-clause-context : goal.finish-requires-clause-context
finish-requires-clause-context c = c.requires.stands.context

pub finish-requires-clause-level : goal.finish-requires-clause-level
finish-requires-clause-level c = c.requires.stands.level

pub finish-requires-clause-inside : goal.finish-requires-clause-inside
finish-requires-clause-inside c = c.requires.ready.deep

pub finish-requires-clause-have : goal.finish-requires-clause-have
finish-requires-clause-have c = subst (AreVariables c.args.state.now) (sym c.deref-bound.ensures.value) c.requires.ready.have

pub finish-requires-clause-count : goal.finish-requires-clause-count
finish-requires-clause-count c = ap length c.deref-flags.ensures.value ∙ c.requires.ready.count ∙ ap length (sym c.deref-bound.ensures.value)

pub finish-requires-clause-first : goal.finish-requires-clause-first
finish-requires-clause-first c = c.requires.ready.first

pub finish-requires-clause-outer : goal.finish-requires-clause-outer
finish-requires-clause-outer c = c.requires.ready.outer

pub returns-clause-brings : goal.returns-clause-brings
returns-clause-brings c S C p q as_ rs gs st h =
    c.in_ok-made.ensures.brings S h.from C p q as_ rs gs st.context h.begins
    (all_at h.from C c.args.context.now rs gs c.args.state.now c.args.inside c.deref-bound.result.now c.deref-flags.result.now c.args.funs.items c.deref-bound.ensures.value
    c.deref-flags.ensures.value h.all) h.first h.tyvars h.scopes

pub returns-clause-stands : goal.returns-clause-stands
returns-clause-stands c S C as_ rs gs st h =
    let all =
    all_at h.from C c.args.context.now rs gs c.args.state.now c.args.inside c.deref-bound.result.now c.deref-flags.result.now c.args.funs.items c.deref-bound.ensures.value
    c.deref-flags.ensures.value h.all in
    ended_stands S c.finish.new.state C c.finish.new.context c.args.place c.args.place as_ rs gs (c.in_ok-made.made ∷ []) c.args.brought.now c.finish.new.brought st
    (c.in_ok-made.ensures.context S h.from C rs gs st.context h.begins all h.first h.tyvars)
    (c.in_ok-made.ensures.brings S h.from C c.args.place c.args.place as_ rs gs st.context h.begins all h.first h.tyvars h.scopes)

pub returns-clause-settled : goal.returns-clause-settled
returns-clause-settled c = subst (AreSettled c.finish.new.state c.args.begun.flexible) c.deref-flexible.ensures.value c.in_ok-check_settled.ensures.settled
