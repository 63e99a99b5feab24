use Rattle.std.proofs.Common.{suc}
use Rattle.ir_poly.specs.Tests.{Tests}
use Rattle.match_compile.specs.Compile.{part}
use Rattle.pattern_tests.specs.of_match_types.Views.{View, value_type}
use Rattle.general_bindings.specs.General.{listed, over_scope}
use Rattle.general_bindings.proofs.Placing.{general-at}
use Rattle.general_bindings.proofs.records.push_part.Goals as goal

pub returns-clause-puts : goal.returns-clause-puts
returns-clause-puts c = λ u stands.
    let b = c.in_ok-body.ensures in
    let p = c.in_ok-variable.ensures in
    let g : View → Tests = λ v. part v.scope (listed c.args.parameters v) (u v) c.args.record_at c.args.number (value_type v c.args.spot.ty) c.args.work.now.next in
    general-at c.args.parameters c.field_body.new.work.next (suc (suc c.args.work.now.next)) (over_scope (λ v. value_type v c.args.spot.ty)) g b.next (p.puts (over_scope (λ v. value_type v c.args.spot.ty)) g b.ty (b.gives u stands))
