use Rattle.std.proofs.Common.{◌≡◌, ap, sym, ◌∙◌, Some, None, option_copied, subst}
use Rattle.std.specs.Option.{option_map}
use Rattle.ir_tables.specs.Rows.{constructor_at, find_row}
use Rattle.ir_tables.proofs.Found.{find-rows}
use Rattle.ir_tables.proofs.constructors.Constructors.find.Goals as goal

pub returns-in-Some-clause-found : goal.returns-in-Some-clause-found
returns-in-Some-clause-found c = λ types. find-rows types c.args.self.now c.args.datatype c.args.number ∙ ap (option_map (constructor_at types))
    (subst (λ ks. find_row ks c.args.datatype.stamp c.args.number ≡ Some c.in-Some.constructor.now) c.self.view_is
    (sym (c.self.invariant c.args.datatype.stamp c.args.number) ∙ sym c.get.ensures.value ∙ ap option_copied c.in-Some.is))

pub returns-in-None-clause-found : goal.returns-in-None-clause-found
returns-in-None-clause-found c = λ types. find-rows types c.args.self.now c.args.datatype c.args.number ∙ ap (option_map (constructor_at types))
    (subst (λ ks. find_row ks c.args.datatype.stamp c.args.number ≡ None) c.self.view_is
    (sym (c.self.invariant c.args.datatype.stamp c.args.number) ∙ sym c.get.ensures.value ∙ ap option_copied c.in-None.is))
