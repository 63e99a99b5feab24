use Rattle.std.proofs.Common.{map, refl, ap₂}
use Rattle.ir_plain.specs.Tree.{use_of}
use Rattle.ir_poly.specs.Tests.{inst}
use Rattle.match_compile.specs.Compile.{all_scoped}
use Rattle.match_steps.proofs.of_match_types.Seeing.{sees-before, keeps-on}
use Rattle.exp_steps.proofs.Leaves.{alone, earlier, number-seen}
use Rattle.exp_steps.proofs.atoms.push_variable.Goals as goal

pub returns : goal.returns
returns c =
    let q = c.in_ok-at.ensures in
    let p = c.in_ok-a.ensures in
    earlier q.keeps q.next
    (alone p.keeps p.is p.next
    (p.puts (λ v. use_of (inst (v.names c.args.x) (all_scoped v.scope (map v.source.type c.args.types.now))))
    (λ v s. ap₂ (λ n l. use_of (inst n l)) (number-seen v c.args.x c.number-number.result (keeps-on _ _ _ q.keeps p.keeps) s c.number-number.ensures) (q.is v (sees-before _ _ v p.keeps s))))
    (λ R m. refl) (λ v m rest. refl))
