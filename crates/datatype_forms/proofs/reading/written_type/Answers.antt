use Rattle.sml_tree.specs.TreeOf.{ty_of}
use Rattle.elab_state.specs.States.{types_in}
use Rattle.closed_types.proofs.Entering.{closed-is}
use Rattle.datatype_forms.proofs.reading.written_type.Goals as goal

pub returns-clause-is : goal.returns-clause-is
returns-clause-is c = λ as_ outer e p.
    closed-is (types_in c.args.state.now) (types_in c.closed_type.new.state) as_ outer c.args.scope.now (ty_of c.args.ty.now) c.in_ok-number.number e p c.in_ok-number.ensures.is c.in_ok-number.ensures.known
