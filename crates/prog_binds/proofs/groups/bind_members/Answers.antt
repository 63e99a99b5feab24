use Rattle.std.proofs.Common.{◌-◌, length, refl}
use Rattle.prog_known.proofs.OntoLemmas.{as-onto}
use Rattle.prog_binds.specs.Chains.{member_step}
use Rattle.prog_binds.proofs.Onward.{funs-back}
use Rattle.prog_binds.proofs.Onward.{back-at-is, back-first, back-last}
use Rattle.prog_binds.proofs.groups.bind_members.Goals as goal

pub loop-i-init : goal.loop-i-init
loop-i-init c = back-first c.args.tables.now (member_step c.args.tables.now c.args.manner) c.args.members.now c.args.variables.now

pub loop-i-preserved : goal.loop-i-preserved
loop-i-preserved c = back-at-is c.args.tables.now (member_step c.args.tables.now c.args.manner) c.args.members.now c.args.variables.now c.loop-i.variables c.bind_member.new.variables c.loop-i.i (length c.args.members.now - 1 - c.loop-i.i) c.index-members-at.result c.loop-i-test.true refl c.index-members-at.is c.loop-i.invariant c.in_ok-bind_member.ensures

pub returns : goal.returns
returns c = as-onto c.args.tables.now c.args.variables.now c.loop-i.variables _ _ (funs-back c.args.tables.now c.args.manner c.args.members.now)
    (back-last c.args.tables.now (member_step c.args.tables.now c.args.manner) c.args.members.now c.args.variables.now c.loop-i.variables c.loop-i.i c.loop-i-test.false c.loop-i.invariant)
