use Rattle.std.proofs.Common.{sym, ◌∙◌}
use Rattle.ty_table.specs.TypeAt.{type_at}
use Rattle.ir_uses.proofs.ClassLemmas.{no-parts}
use Rattle.ir_uses.proofs.allow.is_in_class.Goals as goal

pub returns-else-is_empty : goal.returns-else-is_empty
returns-else-is_empty c = no-parts c.args.types.now (type_at c.args.types.now c.args.t) c.args.class c.in-Some.name c.in-Some.parts.now c.in-Some.ensures (sym c.is_empty.ensures ∙ c.if-is_empty.false)
