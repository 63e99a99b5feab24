use Rattle.std.proofs.Common.{map, ap}
use Rattle.first_form.specs.Programs as source
use Rattle.first_tables.specs.TablesOf.{tables_of}
use Rattle.first_tree.specs.TreeOf.{fun_of}
use Rattle.ssa_pass.proofs.Kept.{program-built, same-outcome, formed, kept-small, kept-at-once, kept-exceptions}
use Rattle.ssa_pass.proofs.pass.build_program.Goals as goal

pub returns-clause-built : goal.returns-clause-built
returns-clause-built c = program-built (tables_of c.args.program.tables) _ _ _ c.in_ok-funs.ensures (ap (map fun_of) c.deref.ensures.value)

pub returns-clause-same : goal.returns-clause-same
returns-clause-same c =
    same-outcome _ (source.program_of c.args.program) (program-built (tables_of c.args.program.tables) _ _ _ c.in_ok-funs.ensures (ap (map fun_of) c.deref.ensures.value))
    c.ssa_build_keeps.ensures.same

pub returns-clause-well_formed : goal.returns-clause-well_formed
returns-clause-well_formed c =
    formed _ (source.program_of c.args.program) (program-built (tables_of c.args.program.tables) _ _ _ c.in_ok-funs.ensures (ap (map fun_of) c.deref.ensures.value))
    c.ssa_build_keeps.ensures.well_formed

pub returns-clause-small : goal.returns-clause-small
returns-clause-small c =
    kept-small _ (source.program_of c.args.program) (program-built (tables_of c.args.program.tables) _ _ _ c.in_ok-funs.ensures (ap (map fun_of) c.deref.ensures.value))
    c.ssa_build_keeps.ensures.small

pub returns-clause-at_once : goal.returns-clause-at_once
returns-clause-at_once c =
    kept-at-once _ (source.program_of c.args.program) (program-built (tables_of c.args.program.tables) _ _ _ c.in_ok-funs.ensures (ap (map fun_of) c.deref.ensures.value))
    c.ssa_build_keeps.ensures.at_once

pub returns-clause-exceptions : goal.returns-clause-exceptions
returns-clause-exceptions c =
    kept-exceptions _ (source.program_of c.args.program) (program-built (tables_of c.args.program.tables) _ _ _ c.in_ok-funs.ensures (ap (map fun_of) c.deref.ensures.value))
    c.ssa_build_keeps.ensures.exceptions
