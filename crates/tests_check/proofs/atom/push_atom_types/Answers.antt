use Rattle.std.proofs.Common.{◌≡◌, length, arith}
use Rattle.tests_check.proofs.Atoms.{atoms-first, atoms-next, atoms-stop, atoms-end}
use Rattle.tests_check.proofs.atom.push_atom_types.Goals as goal

pub loop-i-init : goal.loop-i-init
loop-i-init c = λ e. atoms-first c.args.tables.now c.args.scope.now c.args.atoms.now c.args.found.now.items e

pub loop-i-preserved : goal.loop-i-preserved
loop-i-preserved c = λ e. atoms-next c.args.tables.now c.args.scope.now c.args.atoms.now c.loop-i.found.items c.push.new.self.items c.loop-i.i _ c.in-Some.ty c.loop-i-test.true (c.loop-i.invariant e) c.in-Some.ensures c.in_ok-push-in-Some.ensures.items

pub returns-in-None-clause-no : goal.returns-in-None-clause-no
returns-in-None-clause-no c = λ _. atoms-stop c.args.tables.now c.args.scope.now c.args.atoms.now c.loop-i.i _ c.loop-i-test.true c.in-None.ensures

pub returns-clause-yes : goal.returns-clause-yes
returns-clause-yes c = λ _ e. let n : c.loop-i.i ≡ length c.args.atoms.now = omega arith in
    atoms-end c.args.tables.now c.args.scope.now c.args.atoms.now c.loop-i.found.items c.loop-i.i n (c.loop-i.invariant e)
