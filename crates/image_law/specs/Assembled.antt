-- The code of a program with things at these places.
use Rattle.std.specs.Prelude.{ℕ, ◌+◌, List, ◌∷◌, ◌++◌}
use Rattle.ir_code.specs.declared.instr.Instr.{Instr}
use Rattle.ir_code.specs.declared.instr.Instr.TheVariants.{Call as CallRow, End}
use Rattle.ir_ssa.specs.Tree.{Program}
use Rattle.machine_routines.specs.EqualCode.{equal_code}
use Rattle.machine_code.specs.Code.{Places}
use Rattle.machine_code.specs.Image.{funs_code, funs_size, most_code, sets_code, shapes_size}

abbrev pub funs_from : Program → ℕ
funs_from p = 10 + shapes_size p.tables.types p.tables.types

abbrev pub sets_from : Places → Program → ℕ
sets_from at p = funs_from p + funs_size at.rows at.types p.funs

-- this is code_of where the places are those of the image
abbrev pub code_by : Places → Program → List Instr
code_by at p =
    CallRow (at.fun_at 0) 0 ∷ End
    ∷ (equal_code p.tables.types 2 most_code ++ (funs_code at (funs_from p) p.funs ++ sets_code p.funs at.fun_at (sets_from at p) p.tables.sets))
