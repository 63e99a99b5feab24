use Rattle.std.proofs.Common.{refl, map, ap, ◌∙◌}
use Rattle.ir_tables.specs.Rows.{constructors_at}
use Rattle.match_pass.proofs.Bodies.{program-made, constructors-stay, lists-read, whole-grown}
use Rattle.match_pass.proofs.compile.compile.Goals as goal

pub returns-clause-tests : goal.returns-clause-tests
returns-clause-tests c =
    let b = c.in_ok-body.ensures in
    program-made c.args.tables _ _ c.args.decs.now c.in_ok-body.body b.grows b.scope b.gives c.len-first.ensures.is c.in_ok-none.ensures.earlier_stay
    (c.in_ok-parameters.ensures ∙ lists-read _ c.args.tables.parameters.items c.deref.ensures.value) refl c.new.ensures c.new-2.ensures refl

pub returns-clause-initial : goal.returns-clause-initial
returns-clause-initial c = ap (λ l. l.items) c.in_ok-body.ensures.grows.initial

pub returns-clause-constructors : goal.returns-clause-constructors
returns-clause-constructors c =
    constructors-stay c.args.tables _ _ c.in_ok-none.none c.len-first.result c.len-first.ensures.is c.in_ok-none.ensures.earlier_stay c.in_ok-none.ensures.held c.in_ok-body.ensures.grows
    (λ old new e grown is. c.in_ok-constructors.ensures old new e grown is ∙ ap (constructors_at old) c.rows.ensures)

pub returns-clause-types : goal.returns-clause-types
returns-clause-types c = whole-grown c.args.tables.types _ _ c.in_ok-none.ensures.earlier_stay c.in_ok-body.ensures.grows

pub returns-clause-strings : goal.returns-clause-strings
returns-clause-strings c = ap (λ l. map (λ s. s.items) l.items) c.in_ok-body.ensures.grows.strings
