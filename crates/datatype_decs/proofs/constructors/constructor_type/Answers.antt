use Rattle.std.proofs.Common.{Some, sym, ap, ◌∙◌}
use Rattle.std.specs.Prelude.{option_map}
use Rattle.ty_table.specs.TypeAt.{type_at}
use Rattle.core_rules.specs.Elaborated.{from_argument}
use Rattle.elab_state.specs.States.{types_in}
use Rattle.datatype_forms.proofs.Stepping.{step_same}
use Rattle.datatype_decs.proofs.Adding.{type_found}
use Rattle.datatype_decs.proofs.constructors.constructor_type.Goals as goal

pub returns-in-None-clause-step : goal.returns-in-None-clause-step
returns-in-None-clause-step c = step_same c.args.state.now

pub returns-in-None-clause-is : goal.returns-in-None-clause-is
returns-in-None-clause-is c =
    let ts = types_in c.args.state.now in
    type_found ts c.args.ty c.requires.held ∙ ap (λ o. Some (from_argument (option_map (type_at ts) o) (type_at ts c.args.ty))) (sym c.in-None.is)

pub returns-in_ok-made-in-Some-clause-is : goal.returns-in_ok-made-in-Some-clause-is
returns-in_ok-made-in-Some-clause-is c =
    let ts = types_in c.args.state.now in
    c.in_ok-made-in-Some.ensures.is ∙ ap (λ o. Some (from_argument (option_map (type_at ts) o) (type_at ts c.args.ty))) (sym c.in-Some.is)
