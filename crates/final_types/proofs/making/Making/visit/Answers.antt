use Rattle.std.proofs.Common.{◌∷◌, ◌++◌, [], reverse, sym, ap, subst, ◌∙◌, arith}
use Rattle.indexmap.specs.IndexMap.{get}
use Rattle.ty_table.specs.TypeAt.{type_at}
use Rattle.final_types.specs.Making.{Moves, same_key, visits}
use Rattle.final_types.specs.Nodes.{IsNode, types_of}
use Rattle.final_types.specs.declared.step.Step.TheVariants.{Visit}
use Rattle.final_types.proofs.Stepping.{at-ok, going-finds, going-opens, going-parameter, going-same, on-ok}
use Rattle.final_types.proofs.making.Making.visit.Goals as goal

pub returns-in-Some-clause-moves : goal.returns-in-Some-clause-moves
returns-in-Some-clause-moves c = λ k₀ p₀ go.
    subst (λ l. Moves c.args.source.now c.args.types.now (get same_key c.args.self.now.made) (c.args.self.now.steps.items ++ Visit c.args.ty c.args.place ∷ []) c.args.self.now.steps.items l k₀ p₀)
    (sym c.in_ok-push.ensures.items)
    (going-finds c.args.source.now c.args.types.now (get same_key c.args.self.now.made) c.args.self.now.steps.items c.args.self.now.values.items c.args.ty c.args.place c.settled-at.result c.in-Some.r k₀ p₀
    (sym c.known.ensures ∙ c.in-Some.is) c.settled-at.ensures go)

pub returns-in_ok-r-in-Parameter-clause-moves : goal.returns-in_ok-r-in-Parameter-clause-moves
returns-in_ok-r-in-Parameter-clause-moves c = on-ok c.note.result
    (λ x ok h k₀ p₀ go.
    subst (λ l. Moves c.args.source.now c.variable.new.self (get same_key c.note.new.self.made) (c.args.self.now.steps.items ++ Visit c.args.ty c.args.place ∷ []) l c.note.new.self.values.items k₀ p₀) (sym c.note.ensures.steps)
    (subst (λ l. Moves c.args.source.now c.variable.new.self (get same_key c.note.new.self.made) (c.args.self.now.steps.items ++ Visit c.args.ty c.args.place ∷ []) c.args.self.now.steps.items l k₀ p₀)
    (sym (at-ok c.note.result x _ c.note.ensures.values ok))
    (going-parameter c.args.source.now c.args.types.now c.variable.new.self (get same_key c.args.self.now.made) (get same_key c.note.new.self.made) c.args.self.now.steps.items c.args.self.now.values.items c.args.ty c.args.place
    c.settled-at.result c.in-Parameter.v c.in_ok-r-in-Parameter.r k₀ p₀
    (subst (IsNode c.args.source.now.solver.now (type_at (types_of c.args.source.now.solver.now) c.args.ty)) c.in-Parameter.is c.in_ok-v.ensures)
    c.in_ok-r-in-Parameter.ensures.earlier_stay c.in_ok-r-in-Parameter.ensures.held h c.settled-at.ensures go)))
    c.note.ensures.made

pub returns-in_ok-push-in-Same-2-clause-moves : goal.returns-in_ok-push-in-Same-2-clause-moves
returns-in_ok-push-in-Same-2-clause-moves c = λ k₀ p₀ go.
    going-same c.args.source.now c.args.types.now (get same_key c.args.self.now.made) c.args.self.now.steps.items c.push-in-Same-2.new.self.items c.args.self.now.values.items c.args.ty c.args.place c.settled-at.result c.in-Same.u k₀ p₀
    (subst (IsNode c.args.source.now.solver.now (type_at (types_of c.args.source.now.solver.now) c.args.ty)) c.in-Same.is c.in_ok-v.ensures)
    (c.in_ok-push-in-Same-2.ensures.items ∙ ap (λ l. l ++ Visit c.in-Same.u c.settled-at.result ∷ []) c.in_ok-push-in-Same.ensures.items) c.settled-at.ensures go

pub returns-in_ok-push-in-Of-clause-moves : goal.returns-in_ok-push-in-Of-clause-moves
returns-in_ok-push-in-Of-clause-moves c = on-ok c.visit_all.result
    (λ x ok h k₀ p₀ go.
    going-opens c.args.source.now c.args.types.now (get same_key c.args.self.now.made) c.args.self.now.steps.items _ c.args.self.now.values.items c.args.ty c.args.place c.settled-at.result c.len.result k₀ p₀ c.in-Of.head c.head-named.result
    c.in-Of.parts.items (subst (IsNode c.args.source.now.solver.now (type_at (types_of c.args.source.now.solver.now) c.args.ty)) c.in-Of.is c.in_ok-v.ensures) c.head-named.ensures
    (omega (arith, c.len.ensures, c.in-Of.parts.ok.0)) (h ∙ ap (λ l. visits c.settled-at.result c.in-Of.parts.items ++ reverse l) c.in_ok-push-in-Of.ensures.items) c.settled-at.ensures go)
    c.visit_all.ensures
