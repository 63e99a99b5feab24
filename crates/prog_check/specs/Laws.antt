-- What is claimed of the functions: they answer yes exactly where the rules hold.
use Rattle.std.specs.Prelude.{◌≡◌, ◌↔◌, true, List, []}
use Rattle.ir_poly.specs.Prog.{Decs}
use Rattle.ir_poly.specs.ProgChecked.{DecsChecked}
use Rattle.ir_poly.specs.ProgOnce.{IsOnce}
use Rattle.ir_poly.specs.Types.{Constructor}
use Rattle.ir_poly.specs.TestsChecked.{Knowns}
use Rattle.ir_poly.specs.WellFormed.{Program, IsProg}
use Rattle.prog_check.specs.Checking.{check_decs, decs_onto}
use Rattle.prog_check.specs.Binders.{decs_binders, are_distinct}
use Rattle.prog_check.specs.Program.{check}

-- yes exactly where the rules of typing hold
abbrev pub Decides : Type 0
Decides = (table : List Constructor) (ds : Decs) → (check_decs table [] [] ds ≡ true) ↔ ((G : Knowns) × DecsChecked table [] [] ds G)

-- what is known after declarations is determined
abbrev pub KnowsAfter : Type 0
KnowsAfter = (table : List Constructor) (ds : Decs) (G : Knowns) → DecsChecked table [] [] ds G → G ≡ decs_onto ds []

-- the variables are distinct exactly where each is bound once
abbrev pub DecidesOnce : Type 0
DecidesOnce = (ds : Decs) → (are_distinct (decs_binders ds) ≡ true) ↔ IsOnce ds

-- the whole answer is yes exactly where a program is well formed
abbrev pub DecidesProg : Type 0
DecidesProg = (p : Program Decs) → (check p ≡ true) ↔ IsProg p
