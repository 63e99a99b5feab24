use Rattle.std.proofs.Common.{[], map, ap}
use Rattle.ir_plain.specs.Tree.{use_of}
use Rattle.ir_poly.specs.Tests.{inst}
use Rattle.ty_table.specs.TypeAt.{type_at}
use Rattle.exp_steps.proofs.Leaves.{named-leaf}
use Rattle.exp_steps.proofs.atoms.push_exception.Goals as goal

pub returns : goal.returns
returns c =
    let q = c.in_ok-name.ensures in
    let p = c.in_ok-a.ensures in
    named-leaf c.args.exception q.keeps q.is q.next q.puts p.keeps p.is p.next (p.puts (λ v. use_of (inst c.in_ok-name.name [])) (λ v s. ap (λ l. use_of (inst c.in_ok-name.name (map (type_at v.types) l))) c.new.ensures.items))
