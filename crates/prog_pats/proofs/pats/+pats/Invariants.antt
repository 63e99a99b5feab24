use Rattle.prog_parts.specs.Patterns.{next_part}
use Rattle.prog_parts.proofs.Loops.{Asking, Carrying}
use Rattle.prog_pats.specs.Fits.{field_fits, chain_fits}
use Rattle.prog_pats.proofs.pats.+pats.Given as goal

abbrev pub invariant-check_fields-loop-i : goal.invariant-check_fields-loop-i
invariant-check_fields-loop-i l = Asking (field_fits l.tables l.environment l.ty) l.fields l.i l.so_far

abbrev pub invariant-check_parts-loop-i : goal.invariant-check_parts-loop-i
invariant-check_parts-loop-i l = Carrying (chain_fits l.tables l.environment l.side) (next_part l.side) l.ty l.parts l.i l.now l.so_far
