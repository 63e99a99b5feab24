use Rattle.std.proofs.Common.{ap, ◌∙◌}
use Rattle.match_compile.specs.Compile.{building, scoped}
use Rattle.match_steps.proofs.of_match_types.Seeing.{sees-before}
use Rattle.exp_steps.specs.Ways.{built_of}
use Rattle.exp_steps.proofs.Building.{pushed-after}
use Rattle.exp_steps.proofs.calls.push_construction.Goals as goal

pub returns : goal.returns
returns c =
    let q = c.in_ok-ty.ensures in
    let p = c.in_ok-a.ensures in
    pushed-after q.keeps q.next (record {
      keeps = p.keeps;
      is = p.is;
      next = p.next;
      puts = p.puts (λ v. building v.scope (built_of c.args.built v.source) c.args.place (v.source.type c.args.u) (v.source.type c.args.argument) c.args.name c.args.value)
          (λ v s. c.construction-operation.ensures v (v.source.type c.args.u) (v.source.type c.args.argument)
          (q.is v (sees-before _ _ v p.keeps s) ∙ ap (scoped v.scope) (c.built_at-at.ensures v.source)));
    })
