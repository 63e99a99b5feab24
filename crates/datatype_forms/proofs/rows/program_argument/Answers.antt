use Rattle.std.proofs.Common.{length, nat_eq, refl}
use Rattle.indexmap.specs.IndexMap.{get}
use Rattle.ty_instance.proofs.Going.{longer, whole}
use Rattle.elab_state.proofs.Reading.{rows-more}
use Rattle.datatype_forms.proofs.StandingRows.{constructors-wider}
use Rattle.datatype_forms.proofs.Stepping.{argument_made}
use Rattle.datatype_forms.proofs.rows.program_argument.Goals as goal

pub invariant_of-state : goal.invariant_of-state
invariant_of-state c =
    let s = c.args.state.now in
    record {
      held = s.held;
      ordered = s.ordered;
      rows = rows-more (length s.tables.types) (length c.program_type.new.program) s.tables.constructors (longer s.tables.types c.program_type.new.program c.program_type.ensures.earlier_stay) s.rows;
    }

pub returns-in_ok-number-in-Some : goal.returns-in_ok-number-in-Some
returns-in_ok-number-in-Some c =
    argument_made c.args.state.now _ c.args.names.now (get nat_eq c.program_type.new.known) c.args.argument c.in-Some.ty c.in_ok-number-in-Some.number c.in-Some.is (record {
      solver = refl;
      written = refl;
      namings = whole c.args.state.now.namings.items;
      types = c.program_type.ensures.earlier_stay;
      constructors = whole c.args.state.now.tables.constructors;
      parameters = refl;
      strings = refl;
      next = refl;
      level = refl;
      declared = constructors-wider c.args.state.now c.program_type.new.program c.program_type.ensures.earlier_stay;
    }) c.in_ok-number-in-Some.ensures.right c.in_ok-number-in-Some.ensures.is c.in_ok-number-in-Some.ensures.over
