use Rattle.std.proofs.Common.{arith, rules}
use Rattle.ir_code.specs.Machine.{next, string_at}
use Rattle.heap_vm.specs.View.{state_of}
use Rattle.heap_vm.proofs.Runs.{way_starts, way_goes, way_prints, way_cut, way_over, went_halts}
use Rattle.heap_vm.proofs.vm.go.Goals as goal

pub loop-left-init : goal.loop-left-init
loop-left-init g c = record { way = way_starts _ _ _ _ _; fits = c.requires.fits }

pub returns-in-Failed-clause-went : goal.returns-in-Failed-clause-went
returns-in-Failed-clause-went g c =
    let put = c.in-Failed.ensures in
    let fits = c.loop-left.invariant.fits in
    way_cut c.loop-left.left (state_of c.step_on.new.registers c.step_on.new.stack c.step_on.new.memory) (string_at c.step_on.new.memory c.in-Ok-Print.text) put.taken c.loop-left.invariant.way (omega arith) (record { behind = fits.behind; inside = fits.in_memory }) (rw c.in-Ok-Print.field-0-is at c.in-Ok-Print.ensures.step) put.wrote put.kept put.rose

pub returns-in-Err-clause-went : goal.returns-in-Err-clause-went
returns-in-Err-clause-went g c =
    rw c.stop_at.ensures (went_halts c.loop-left.left _ c.in-Err.halt c.loop-left.invariant.way (omega arith) c.in-Err.ensures.step)

pub returns-clause-went : goal.returns-clause-went
returns-clause-went g c = way_over c.loop-left.left c.loop-left.invariant.way (omega arith)

pub loop-left-preserved-in-Ok-Go : goal.loop-left-preserved-in-Ok-Go
loop-left-preserved-in-Ok-Go g c = record {
  way = way_goes c.loop-left.left _ c.loop-left.invariant.way (omega arith) (rw c.in-Ok-Go.field-0-is at c.in-Ok-Go.ensures.step);
  fits = c.in-Ok-Go.ensures.fits;
}

pub loop-left-preserved : goal.loop-left-preserved
loop-left-preserved g c =
    let put = c.in-Done.ensures in
    record {
      way = way_prints c.loop-left.left (next (state_of c.step_on.new.registers c.step_on.new.stack c.step_on.new.memory)) (string_at c.step_on.new.memory c.in-Ok-Print.text) c.loop-left.invariant.way (omega arith) (rw c.in-Ok-Print.field-0-is at c.in-Ok-Print.ensures.step) put.wrote put.kept;
      fits = search rules;
    }
