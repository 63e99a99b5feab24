-- What becomes of the refusals of passes.
use Rattle.mlc_runs.specs.declared.pass.PassFault.{PassFault}
use Rattle.mlc_runs.specs.declared.pass.PassFault.TheVariants as fault
use Rattle.machine_emit.specs.declared.refused.EmitRefused.{EmitRefused}
use Rattle.machine_emit.specs.declared.refused.EmitRefused.TheVariants as emit
use Rattle.back_end.specs.declared.refused.CompileRefused.{CompileRefused}
use Rattle.back_end.specs.declared.refused.CompileRefused.TheVariants.{TooLarge, TooLong, Memory}

abbrev pub of_pass : PassFault → CompileRefused
of_pass fault.Expansion = TooLarge
of_pass fault.Memory = Memory

abbrev pub of_emit : EmitRefused → CompileRefused
of_emit emit.TooLong = TooLong
of_emit emit.Memory = Memory
