use Rattle.std.proofs.Common.{nat_eq, ◌∙◌}
use Rattle.indexmap.specs.IndexMap.{get}
use Rattle.ty_core.specs.TypesOf.{head_of}
use Rattle.datatype_forms.specs.ProgramTypes.{number_by}
use Rattle.datatype_forms.proofs.Going.{built, not-built}
use Rattle.datatype_forms.proofs.program_types.build.Goals as goal

pub returns-in-Var-clause-is : goal.returns-in-Var-clause-is
returns-in-Var-clause-is c = λ h parts is below. not-built c.args.types.now c.args.k c.in-Var.field-0 h parts c.in-Var.ensures is

pub returns-in_ok-n-in-Apply-clause-is : goal.returns-in_ok-n-in-Apply-clause-is
returns-in_ok-n-in-Apply-clause-is c = built c.args.types.now (number_by c.args.names.now.numbers.now) c.args.names.now.limit (get nat_eq c.args.known.now) c.args.program.now c.apply.new.self c.args.k c.in_ok-n-in-Apply.n (head_of c.in-Apply.head.now) (head_of c.in_ok-copy-in-Apply.copy) c.in-Apply.parts.now c.deref.result.now
    c.len-len.ensures.one_to_one c.in-Apply.ensures (c.deref.ensures.value ∙ c.in_ok-numbers-in-Apply.ensures) c.in_ok-copy-in-Apply.ensures.is c.in_ok-copy-in-Apply.ensures.over c.in_ok-n-in-Apply.ensures.held
