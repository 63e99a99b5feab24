use Rattle.std.proofs.Common.{map, refl, ap}
use Rattle.ir_plain.specs.Tree.{con_alone}
use Rattle.ty_core.specs.Types.{con, name, typs_of}
use Rattle.match_compile.specs.Compile.{scoped}
use Rattle.match_steps.proofs.of_match_types.Seeing.{sees-before}
use Rattle.exp_steps.proofs.Leaves.{alone, earlier}
use Rattle.exp_steps.proofs.atoms.push_constructor.Goals as goal

pub returns : goal.returns
returns c =
    let q = c.in_ok-ty.ensures in
    let p = c.in_ok-a.ensures in
    earlier q.keeps q.next
    (alone p.keeps p.is p.next
    (p.puts (λ v. con_alone c.args.constructor (scoped v.scope (con (name c.args.name) (typs_of (map v.source.type c.args.types.now)))))
    (λ v s. ap (con_alone c.args.constructor) (q.is v (sees-before _ _ v p.keeps s))))
    (λ R m. refl) (λ v m rest. refl))
