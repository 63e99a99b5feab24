use Rattle.std.proofs.Common.{◌+◌, Some, refl, ap}
use Rattle.datatype_forms.specs.Steps.{renamed}
use Rattle.datatype_forms.proofs.Stepping.{one_named}
use Rattle.datatype_forms.proofs.naming.add_name.Goals as goal

pub push_naming-requires : goal.push_naming-requires
push_naming-requires c = c.requires.wide

pub returns : goal.returns
returns c =
    one_named c.args.state.now c.push_naming.new.state c.args.context.now _ _ c.in_ok-k.k c.in_ok-k.ensures refl refl
    (ap (λ ns. renamed c.args.context.now (c.args.context.now.names + 1) (Some c.in_ok-k.k) ns) c.in_ok-bind.ensures.bound)
