use Rattle.std.proofs.Common.{length, nat_eq, ap, ◌∙◌}
use Rattle.prog_exps.proofs.of_prog_parts.Truths.{two}
use Rattle.ir_prog.proofs.form.has_tables.Goals as goal

pub returns : goal.returns
returns c = two c.both.ensures (c.are_seven-seven.ensures ∙ ap (λ l. nat_eq (length l) 7) c.deref.ensures.value) c.is_table.ensures.decided
