use Rattle.std.proofs.Common.{◌∷◌, ◌-◌, length, refl}
use Rattle.ty_table.specs.TypeAt.{type_at}
use Rattle.prog_known.specs.Onto.{known_by}
use Rattle.prog_known.proofs.OntoLemmas.{as-onto}
use Rattle.prog_binds.proofs.Onward.{each-back}
use Rattle.prog_binds.proofs.Onward.{back-at, back-first, back-last}
use Rattle.prog_binds.proofs.groups.bind_each.Goals as goal

pub loop-i-init : goal.loop-i-init
loop-i-init c = back-first c.args.tables.now (λ x G. (x, known_by c.args.tables.now c.args.manner (type_at c.args.tables.now.types c.args.ty)) ∷ G) c.args.names.now c.args.variables.now

pub loop-i-preserved : goal.loop-i-preserved
loop-i-preserved c = back-at c.args.tables.now (λ x G. (x, known_by c.args.tables.now c.args.manner (type_at c.args.tables.now.types c.args.ty)) ∷ G) c.args.names.now c.args.variables.now c.loop-i.variables c.bind_one.new.variables c.loop-i.i (length c.args.names.now - 1 - c.loop-i.i) 0 c.loop-i-test.true refl c.loop-i.invariant c.in_ok-bind_one.ensures

pub returns : goal.returns
returns c = as-onto c.args.tables.now c.args.variables.now c.loop-i.variables _ _ (each-back c.args.tables.now c.args.names.now (known_by c.args.tables.now c.args.manner (type_at c.args.tables.now.types c.args.ty)))
    (back-last c.args.tables.now (λ x G. (x, known_by c.args.tables.now c.args.manner (type_at c.args.tables.now.types c.args.ty)) ∷ G) c.args.names.now c.args.variables.now c.loop-i.variables c.loop-i.i c.loop-i-test.false c.loop-i.invariant)
