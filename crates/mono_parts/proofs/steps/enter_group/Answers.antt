use Rattle.std.proofs.Common.{◌≡◌, ◌<◌, ◌-◌, ◌+◌, [], length, drop, subst, ap, ◌∙◌, arith}
use Rattle.std.proofs.lemmas.List.{drop_all}
use Rattle.ir_tables.specs.Tables.{parameters_of, parameters_at}
use Rattle.monomorphise.specs.Monomorphise.{units}
use Rattle.mono_parts.proofs.Scopes.{GroupEntered, group-begun, group-more}
use Rattle.mono_parts.proofs.Putting.{dropped}
use Rattle.mono_parts.proofs.steps.enter_group.Goals as goal

pub open_binding-requires : goal.open_binding-requires
open_binding-requires c = (c.in_ok-unit.ensures.goes []).open_.scopes

pub loop-left-init : goal.loop-left-init
loop-left-init c = record {
  within = omega arith;
  entered = group-begun c.args.tables.now (units (parameters_at (parameters_of c.args.tables.now) c.args.parameters)) c.args.copier.now c.unit_list.new.copier c.open_binding.new.self c.in_ok-unit.unit
      (drop (length c.args.functions.now) c.args.functions.now) (drop_all (length c.args.functions.now) c.args.functions.now (omega arith)) c.in_ok-unit.ensures.goes c.in_ok-unit.ensures.stays c.in_ok-unit.ensures.held
      (λ H l. c.in_ok-unit.ensures.is H l ∙ ap units c.parameters.ensures) c.in_ok-open_binding.ensures.kept c.in_ok-open_binding.ensures.opened;
}

pub add-requires-clause-kept : goal.add-requires-clause-kept
add-requires-clause-kept c = (c.loop-left.invariant.entered.goes []).open_.scopes

pub add-requires-clause-binding : goal.add-requires-clause-binding
add-requires-clause-binding c = c.loop-left.invariant.entered.binding_

pub loop-left-preserved : goal.loop-left-preserved
loop-left-preserved c =
    let w = c.loop-left.invariant.within in
    let q = c.loop-left-test.true in
    let m : c.loop-left.left ≡ (c.loop-left.left - 1) + 1 = omega (arith, q) in
    let lt : c.loop-left.left - 1 < length c.args.functions.now = omega (arith, w, q) in
    let us = units (parameters_at (parameters_of c.args.tables.now) c.args.parameters) in
    record {
      within = omega (arith, w);
      entered = group-more c.args.tables.now us c.args.copier.now c.loop-left.copier c.add.new.self (drop c.loop-left.left c.args.functions.now) (drop (c.loop-left.left - 1) c.args.functions.now) c.index-functions-left.result
          (dropped c.args.functions.now c.index-functions-left.result (c.loop-left.left - 1) c.loop-left.left m lt c.index-functions-left.is) c.loop-left.invariant.entered c.in_ok-add.ensures.kept c.in_ok-add.ensures.added;
    }

pub returns-clause-goes : goal.returns-clause-goes
returns-clause-goes c = c.loop-left.invariant.entered.goes

pub returns-clause-entered : goal.returns-clause-entered
returns-clause-entered c =
    let z : c.loop-left.left ≡ 0 = (let q = c.loop-left-test.false in omega (arith, q)) in
    (subst (λ k. GroupEntered c.args.tables.now (units (parameters_at (parameters_of c.args.tables.now) c.args.parameters)) c.args.copier.now c.loop-left.copier (drop k c.args.functions.now)) z c.loop-left.invariant.entered).entered
