use Rattle.std.proofs.Common.{◌∷◌, ◌++◌, [], sym, subst}
use Rattle.indexmap.specs.IndexMap.{get}
use Rattle.final_types.specs.Making.{Moves, same_key}
use Rattle.final_types.specs.declared.step.Step.TheVariants.{Keep}
use Rattle.final_types.proofs.Stepping.{going-keeps}
use Rattle.final_types.proofs.making.Making.keep.Goals as goal

pub returns-in_ok-note : goal.returns-in_ok-note
returns-in_ok-note c = record {
  moves = λ S us k₀ p₀ go.
      subst (λ l. Moves S us (get same_key c.note.new.self.made) (c.args.self.now.steps.items ++ Keep c.args.ty c.args.place ∷ []) l c.note.new.self.values.items k₀ p₀) (sym c.in_ok-note.ensures.steps)
      (subst (λ l. Moves S us (get same_key c.note.new.self.made) (c.args.self.now.steps.items ++ Keep c.args.ty c.args.place ∷ []) c.args.self.now.steps.items l k₀ p₀) (sym c.in_ok-note.ensures.values)
      (going-keeps S us (get same_key c.args.self.now.made) (get same_key c.note.new.self.made) c.args.self.now.steps.items c.args.self.now.values.items c.pop.new.self.items c.args.ty c.args.place c.in-Some.r k₀ p₀
      c.in-Some.ensures.items c.in_ok-note.ensures.made go));
}
