-- What is still to be made so, and the changes to a substitution.
use Rattle.std.specs.Prelude.{ℕ}
use Rattle.ty_table.specs.of_ty_core.Types.{Typ}
use Rattle.ty_table.specs.of_ty_core.declared.mark.Mark.{Mark}

-- the types are to be equal, or the mark is to allow the type
pub data Task : Type 0 where
  Equal : Typ → Typ → Task
  Admit : Mark → Typ → Task

-- the variable stands for the type, or gets a mark, or the fields of its row all admit equality
pub data Write : Type 0 where
  Bind : ℕ → Typ → Write
  Remark : ℕ → Mark → Write
  Further : ℕ → Write
