use Rattle.mlc_driver.proofs.Joining.{no-ok}
use Rattle.mlc_driver.proofs.elaborate.elaborate.Goals as goal

pub returns-clause-program : goal.returns-clause-program
returns-clause-program c =
    let h = c.in_ok-elaborating.ensures in
    record { core = h.core; parts_are = h.parts_are; lawful = h.lawful; program = c.in_ok-program.ensures.program _ h.core h.elaborated }

pub returns-clause-well_typed : goal.returns-clause-well_typed
returns-clause-well_typed c =
    let h = c.in_ok-elaborating.ensures in
    c.in_ok-program.ensures.well_typed _ h.core h.elaborated

pub returns-in_err-program-clause-program : goal.returns-in_err-program-clause-program
returns-in_err-program-clause-program c = no-ok _ _ c.from_residual-in_err-program.result c.from_residual-in_err-program.ensures.1
