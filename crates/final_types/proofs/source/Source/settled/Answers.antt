use Rattle.std.proofs.Common.{Some, [], sym, subst, ◌∙◌}
use Rattle.ty_table.specs.TypeAt.{type_at}
use Rattle.ty_solve.specs.Substitution.{sub}
use Rattle.final_types.specs.Bounds.{IsBound}
use Rattle.final_types.specs.Making.{namings_of}
use Rattle.final_types.specs.Nodes.{types_of}
use Rattle.final_types.proofs.Imaging.{same-image}
use Rattle.final_types.proofs.source.Source.settled.Goals as goal

pub returns-in-Some : goal.returns-in-Some
returns-in-Some c = λ g end.
    sym (same-image (types_of c.args.self.now.solver.now) [] (namings_of c.args.self.now) g (Some c.args.place) c.settled.result c.in-Some.bound c.args.ty c.settled.ensures.same
    (subst (λ o. IsBound o (sub g (type_at (types_of c.args.self.now.solver.now) c.args.ty))) (sym c.bound_at.ensures ∙ c.in-Some.is) (c.requires.bounds c.args.ty g end)))
    ∙ c.place_of.ensures g c.args.ty
