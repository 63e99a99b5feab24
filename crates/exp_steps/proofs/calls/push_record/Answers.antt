use Rattle.std.proofs.Common.{ap, ◌∙◌}
use Rattle.label_rows.specs.Order.{sorted_by}
use Rattle.ir_plain.specs.Tree.{make_record}
use Rattle.plain_tree.specs.TreeOf.{row_of}
use Rattle.match_compile.specs.Compile.{scoped}
use Rattle.match_steps.specs.of_match_types.Views.{reading}
use Rattle.match_steps.proofs.of_match_types.Seeing.{sees-before}
use Rattle.exp_steps.proofs.Building.{record-makes, pushed-after}
use Rattle.exp_steps.proofs.calls.push_record.Goals as goal

pub returns : goal.returns
returns c = λ w ss fs makes.
    let q = c.in_ok-ty.ensures in
    let p = c.in_ok-a.ensures in
    record-makes c.args.fields.items c.in_ok-ordered.ordered.items (c.in_ok-ordered.ensures ∙ ap (sorted_by (λ f. f.label)) c.deref.ensures.value) makes
    (pushed-after q.keeps q.next (record {
      keeps = p.keeps;
      is = p.is;
      next = p.next;
      puts = p.puts (λ v. make_record (scoped v.scope (v.source.type c.args.u)) (row_of (reading v) c.in_ok-ordered.ordered.items))
          (λ v s. ap (λ k. make_record k (row_of (reading v) c.in_ok-ordered.ordered.items)) (q.is v (sees-before _ _ v p.keeps s)));
    }))
