use Rattle.ir_ssa.proofs.FuelLemmas.{fuel-is-enough}
use Rattle.ir_ssa.proofs.law.fuel_is_enough.Goals as goal

pub returns : goal.returns
returns c = fuel-is-enough
