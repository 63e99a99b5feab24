use Rattle.std.proofs.Common.{refl}
use Rattle.ty_core.specs.TypesOf.{head_of}
use Rattle.datatype_forms.specs.ProgramTypes.{a_variable}
use Rattle.datatype_forms.proofs.Going.{opens-pushed}
use Rattle.datatype_forms.proofs.program_types.open.Goals as goal

pub returns-in-Var : goal.returns-in-Var
returns-in-Var c = a_variable c.in-Var.ensures refl

pub returns-in_ok-visit_all-in-Apply : goal.returns-in_ok-visit_all-in-Apply
returns-in_ok-visit_all-in-Apply c = opens-pushed c.args.types.now c.args.k (head_of c.in-Apply.field-0.now) c.in-Apply.parts.now c.args.steps.now.items c.push.new.self.items c.visit_all.new.steps.items c.in-Apply.ensures c.in_ok-push-in-Apply.ensures.items c.in_ok-visit_all-in-Apply.ensures
