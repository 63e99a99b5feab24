use Rattle.std.proofs.Common.{◌≡◌, replicate, rules, ◌∙◌}
use Rattle.ty_core.specs.declared.mark.Mark.TheVariants.{Any}
use Rattle.datatype_decs.proofs.Adding.{any_replicated}
use Rattle.datatype_decs.proofs.constructors.any_marks.Goals as goal

pub returns : goal.returns
returns c = let e : c.in_ok-marks.marks.items ≡ replicate c.args.count Any = search rules in e ∙ any_replicated c.args.count
