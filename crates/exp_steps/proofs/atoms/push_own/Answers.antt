use Rattle.std.proofs.Common.{[], map, refl, ap₂}
use Rattle.ir_plain.specs.Tree.{use_of}
use Rattle.ir_poly.specs.Tests.{inst}
use Rattle.ty_table.specs.TypeAt.{type_at}
use Rattle.exp_steps.proofs.Leaves.{alone, number-seen}
use Rattle.exp_steps.proofs.atoms.push_own.Goals as goal

pub returns : goal.returns
returns c =
    let p = c.in_ok-a.ensures in
    alone p.keeps p.is p.next
    (p.puts (λ v. use_of (inst (v.names c.args.x) [])) (λ v s. ap₂ (λ n l. use_of (inst n (map (type_at v.types) l))) (number-seen v c.args.x c.number-number.result p.keeps s c.number-number.ensures) c.new.ensures.items))
    (λ R m. refl) (λ v m rest. refl)
