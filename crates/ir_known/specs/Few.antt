-- Few variables, asked one by one.
use Rattle.std.specs.Prelude.{ℕ, Bool, true, ◌&&◌, Option, Some, None}
use Rattle.ir_tables.specs.of_ty_table.declared.variables.Few.{Few}
use Rattle.ir_tables.specs.of_ty_table.declared.variables.Few.TheVariants.{Empty, One, Two, Three, Four, Many}

-- whether each is so, unless they are many
abbrev pub few_so : (ℕ → Bool) → Few → Option Bool
few_so so Empty = Some true
few_so so (One a) = Some (so a)
few_so so (Two a b) = Some (so a && so b)
few_so so (Three a b c) = Some ((so a && so b) && so c)
few_so so (Four a b c d) = Some (((so a && so b) && so c) && so d)
few_so so Many = None
