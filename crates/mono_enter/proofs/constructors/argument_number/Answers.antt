use Rattle.ty_table.specs.TypeAt.{type_at}
use Rattle.monomorphise.specs.Simple.{nth_part}
use Rattle.mono_enter.proofs.Keeping.{placed-keeps}
use Rattle.mono_enter.proofs.constructors.argument_number.Goals as goal

pub returns-in_ok-n-in-Some-clause-keeps : goal.returns-in_ok-n-in-Some-clause-keeps
returns-in_ok-n-in-Some-clause-keeps c = placed-keeps (nth_part c.args.parts.now) c.args.types.now c.place_type.new.types (type_at c.args.sources.now c.in-Some.ty) c.in_ok-n-in-Some.n c.in_ok-n-in-Some.ensures.is
