use Rattle.std.proofs.Common.{◌≡◌, length, arith}
use Rattle.tests_check.proofs.Atoms.{fields-first, fields-more, fields-are-not, fields-end}
use Rattle.tests_check.proofs.atom.push_field_types.Goals as goal

pub loop-i-init : goal.loop-i-init
loop-i-init c = λ e. fields-first c.args.tables.now c.args.scope.now c.args.fields.now c.args.found.now.items e

pub loop-i-preserved : goal.loop-i-preserved
loop-i-preserved c = λ e. fields-more c.args.tables.now c.args.scope.now c.args.fields.now c.loop-i.found.items c.push.new.self.items c.loop-i.i c.index-fields-i.result c.in-Some.ty c.loop-i-test.true c.index-fields-i.is (c.loop-i.invariant e) c.in-Some.ensures c.in_ok-push-in-Some.ensures.items

pub returns-in-None-clause-no : goal.returns-in-None-clause-no
returns-in-None-clause-no c = λ _. fields-are-not c.args.tables.now c.args.scope.now c.args.fields.now c.loop-i.i c.index-fields-i.result c.loop-i-test.true c.index-fields-i.is c.in-None.ensures

pub returns-clause-yes : goal.returns-clause-yes
returns-clause-yes c = λ _ e. let n : c.loop-i.i ≡ length c.args.fields.now = omega arith in
    fields-end c.args.tables.now c.args.scope.now c.args.fields.now c.loop-i.found.items c.loop-i.i n (c.loop-i.invariant e)
