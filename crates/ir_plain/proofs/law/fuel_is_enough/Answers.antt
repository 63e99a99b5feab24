use Rattle.ir_plain.proofs.FuelLemmas.{fuel-is-enough}
use Rattle.ir_plain.proofs.law.fuel_is_enough.Goals as goal

pub returns : goal.returns
returns g c = fuel-is-enough
