use Rattle.std.proofs.Common.{◌≡◌, ◌∷◌, ◌++◌, ◌-◌, [], Some, length, take, drop, sym, ap, subst, ◌∙◌, arith}
use Rattle.std.specs.Prelude.{slice_get}
use Rattle.indexmap.specs.IndexMap.{get}
use Rattle.ty_core.specs.Types.{con}
use Rattle.ty_core.specs.TypesOf.{head_of}
use Rattle.ty_table.specs.TypeAt.{AllBelow, types_at}
use Rattle.final_types.specs.Making.{Moves, same_key}
use Rattle.final_types.specs.declared.step.Step.TheVariants.{Build}
use Rattle.final_types.proofs.Stepping.{at-ok, below-drop, below-take, going-builds, on-ok}
use Rattle.final_types.proofs.making.Making.build.Goals as goal

pub apply-requires : goal.apply-requires
apply-requires c =
    below-take (length c.args.types.now) _ _ (below-drop (length c.args.types.now) c.saturating_sub-start.result c.deref.result.now (subst (AllBelow (length c.args.types.now)) (sym c.deref.ensures.value) c.requires))

pub returns-clause-moves : goal.returns-clause-moves
returns-clause-moves c = on-ok c.note.result
    (λ x ok h S k₀ p₀ go.
    subst (λ l. Moves S c.apply.new.self (get same_key c.note.new.self.made) (c.args.self.now.steps.items ++ Build c.args.ty c.args.place c.args.head c.args.count ∷ []) l c.note.new.self.values.items k₀ p₀) (sym c.note.ensures.steps)
    (subst (λ l. Moves S c.apply.new.self (get same_key c.note.new.self.made) (c.args.self.now.steps.items ++ Build c.args.ty c.args.place c.args.head c.args.count ∷ []) c.args.self.now.steps.items l k₀ p₀)
    (sym (at-ok c.note.result x _ c.note.ensures.values ok ∙ ap (λ l. l ++ c.in_ok-r.r ∷ []) c.truncate.ensures.items))
    (going-builds S c.args.types.now c.apply.new.self (get same_key c.args.self.now.made) (get same_key c.note.new.self.made) c.args.self.now.steps.items c.args.self.now.values.items c.args.ty c.args.place c.args.count
    c.saturating_sub-start.result c.in_ok-r.r k₀ p₀ c.args.head (omega (arith, c.saturating_sub-start.ensures, c.len.ensures, c.args.self.now.values.ok.0)) c.in_ok-r.ensures.earlier_stay
    (subst (λ l. slice_get c.apply.new.self c.in_ok-r.r ≡ Some (con (head_of c.args.head) (types_at c.args.types.now (take (length l - c.saturating_sub-start.result) (drop c.saturating_sub-start.result l)))))
    c.deref.ensures.value c.in_ok-r.ensures.held)
    h go)))
    c.note.ensures.made
