use Rattle.std.proofs.Common.{Some, refl}
use Rattle.elab_context.specs.declared.entry.Scheme as code
use Rattle.datatype_decs.proofs.constructors.add_scheme.Goals as goal

pub returns : goal.returns
returns c =
    let made : code.Scheme = record { marks = c.in_ok-marks.marks; body = c.args.body; constructor = Some c.args.built } in
    record {
      scheme = made;
      marks = c.in_ok-marks.ensures;
      of = refl;
      built = refl;
      is = c.in_ok-push.ensures.items;
      number = c.len-number.ensures;
      rest = refl;
    }
