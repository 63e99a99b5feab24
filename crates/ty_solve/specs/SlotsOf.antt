-- What the slots of a substitution say, over the types that numbers stand for.
use Rattle.std.specs.Prelude.{ℕ, zero, suc, List, [], ◌∷◌, map}
use Rattle.ty_table.specs.of_ty_core.Types.{Typ}
use Rattle.ty_table.specs.of_ty_core.declared.mark.Mark.{Mark}
use Rattle.ty_table.specs.TypeAt.{type_at, types_at}
use Rattle.ty_solve.specs.Rows.{Known}
use Rattle.ty_solve.specs.Substitution.{Entry, free, bound, row}
use Rattle.ty_solve.specs.Task.{Task, Equal, Admit, Write, Bind, Remark, Further}
use Rattle.ty_solve.specs.declared.row.Row.{Row}
use Rattle.ty_solve.specs.declared.subst.Slot.{Slot}
use Rattle.ty_solve.specs.declared.subst.Slot.TheVariants.{Open, Partial, Full}
use Rattle.ty_solve.specs.declared.task.Todo.{Todo}
use Rattle.ty_solve.specs.declared.task.Move.{Move}
use Rattle.ty_solve.specs.declared.task.Todo.TheVariants as todo
use Rattle.ty_solve.specs.declared.task.Move.TheVariants as move

-- a row of the code, over the types that numbers stand for
abbrev pub row_in : List Typ → Row → Known
row_in ts r = record { equality = r.equality; labels = r.labels.items; types = types_at ts r.types.items }

abbrev pub row_of : Known → Entry
row_of r = row r.equality r.labels r.types

abbrev pub entry_of : List Typ → Slot → Entry
entry_of ts (Open k) = free k
entry_of ts (Partial r) = row_of (row_in ts r)
entry_of ts (Full t) = bound (type_at ts t)

abbrev pub entries : List Typ → List Slot → List Entry
entries ts = map (entry_of ts)

abbrev pub look : List Entry → ℕ → Entry
look [] v = free Mark.Any
look (o ∷ os) zero = o
look (o ∷ os) (suc v) = look os v

-- what the slots say of a variable
abbrev pub seen : List Typ → List Slot → ℕ → Entry
seen ts os = look (entries ts os)

abbrev pub task_of : List Typ → Todo → Task
task_of ts (todo.Equal a b) = Equal (type_at ts a) (type_at ts b)
task_of ts (todo.Admit k t) = Admit k (type_at ts t)

abbrev pub tasks_of : List Typ → List Todo → List Task
tasks_of ts = map (task_of ts)

abbrev pub write_of : List Typ → Move → Write
write_of ts (move.Bind v t) = Bind v (type_at ts t)
write_of ts (move.Remark v k) = Remark v k
write_of ts (move.Further v) = Further v
