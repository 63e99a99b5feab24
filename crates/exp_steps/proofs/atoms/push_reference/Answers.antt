use Rattle.std.proofs.Common.{refl, ap}
use Rattle.ir_plain.specs.Tree.{ref_alone}
use Rattle.match_compile.specs.Compile.{scoped}
use Rattle.match_steps.proofs.of_match_types.Seeing.{sees-before}
use Rattle.exp_steps.proofs.Leaves.{alone, earlier}
use Rattle.exp_steps.proofs.atoms.push_reference.Goals as goal

pub returns : goal.returns
returns c =
    let q = c.in_ok-ty.ensures in
    let p = c.in_ok-a.ensures in
    earlier q.keeps q.next
    (alone p.keeps p.is p.next (p.puts (λ v. ref_alone (scoped v.scope (v.source.type c.args.held))) (λ v s. ap ref_alone (q.is v (sees-before _ _ v p.keeps s)))) (λ R m. refl) (λ v m rest. refl))
