use Rattle.std.proofs.Common.{Some, ap₂}
use Rattle.ir_plain.specs.Tree.{prim}
use Rattle.plain_tree.specs.TreeOf.{atoms_of}
use Rattle.match_compile.specs.Compile.{scoped}
use Rattle.match_steps.specs.of_match_types.Views.{reading}
use Rattle.match_steps.proofs.of_match_types.Seeing.{sees-before}
use Rattle.exp_steps.specs.Making.{atoms_in}
use Rattle.exp_steps.specs.Ways.{type_or_unit}
use Rattle.exp_steps.proofs.Building.{performed-makes, pushed-after}
use Rattle.exp_steps.proofs.calls.push_performed.Goals as goal

pub returns : goal.returns
returns c = λ w v ss us f d goes weighs makes.
    let q = c.in_ok-ty.ensures in
    let p = c.in_ok-a.ensures in
    performed-makes c.args.primitive c.args.at c.args.place c.args.fields.now goes weighs makes
    (pushed-after q.keeps q.next (record {
      keeps = p.keeps;
      is = p.is;
      next = p.next;
      puts = p.puts (λ o. prim (Some c.args.place) c.args.primitive (scoped o.scope (type_or_unit c.args.at o.source)) (atoms_of (reading o) (atoms_in c.args.fields.now)))
          (λ o s. ap₂ (λ k l. prim (Some c.args.place) c.args.primitive k (atoms_of (reading o) l)) (q.is o (sees-before _ _ o p.keeps s)) c.in_ok-arguments.ensures);
    }))
