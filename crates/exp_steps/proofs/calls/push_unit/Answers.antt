use Rattle.std.proofs.Common.{ap₂}
use Rattle.ir_plain.specs.Tree.{make_record, no_row}
use Rattle.ir_poly.specs.Types.{unit_type}
use Rattle.plain_tree.specs.TreeOf.{row_of}
use Rattle.match_compile.specs.Compile.{scoped}
use Rattle.match_steps.specs.of_match_types.Views.{reading}
use Rattle.match_steps.proofs.of_match_types.Seeing.{sees-before}
use Rattle.exp_steps.proofs.Building.{pushed-after}
use Rattle.exp_steps.proofs.calls.push_unit.Goals as goal

pub returns : goal.returns
returns c =
    let q = c.in_ok-ty.ensures in
    let p = c.in_ok-a.ensures in
    pushed-after q.keeps q.next (record {
      keeps = p.keeps;
      is = p.is;
      next = p.next;
      puts = p.puts (λ v. make_record (scoped v.scope unit_type) no_row)
          (λ v s. ap₂ (λ k l. make_record k (row_of (reading v) l)) (q.is v (sees-before _ _ v p.keeps s)) c.new.ensures.items);
    })
