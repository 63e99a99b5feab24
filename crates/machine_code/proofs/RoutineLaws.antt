-- The laws that the code of bodies rests on beside the machine's rows.
use Rattle.ir_code.specs.Laws.{NextLaws}
use Rattle.machine_routines.specs.EqualLaw.{EqualLaw}
use Rattle.machine_routines.specs.FindLaw.{FindMemberLaw}

pub record RoutineLaws : Type 0 where
  pub next : NextLaws
  pub equal : EqualLaw
  pub find : FindMemberLaw
