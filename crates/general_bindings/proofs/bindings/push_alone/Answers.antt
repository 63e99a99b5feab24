use Rattle.std.proofs.Common.{ap, ◌∙◌}
use Rattle.match_compile.specs.Compile.{spot, no_spots}
use Rattle.pattern_tests.specs.of_match_types.Views.{value_type}
use Rattle.pattern_tests.specs.Spots.{spots_onto}
use Rattle.general_bindings.proofs.Rows.{onto-one}
use Rattle.general_bindings.proofs.Recording.{alone-puts}
use Rattle.general_bindings.proofs.bindings.push_alone.Goals as goal

pub returns-clause-puts : goal.returns-clause-puts
returns-clause-puts c = λ f inner.
    let t = c.in_ok-ty.ensures in
    let p = c.in_ok-number.ensures in
    alone-puts c.args.parameters c.args.value c.in_ok-ty.ty c.args.u f c.in_ok-body.ensures t.is t.next t.keeps p.puts p.keeps inner

pub returns-clause-spots : goal.returns-clause-spots
returns-clause-spots c = λ v.
    onto-one v c.args.spots.now.items _ c.args.x c.in_ok-number.number c.args.u c.in_ok-push.ensures.items
    ∙ ap (λ n. spot c.args.x n (value_type v c.args.u) (spots_onto v c.args.spots.now.items no_spots)) (c.in_ok-number.ensures.is ∙ c.in_ok-ty.ensures.next)
