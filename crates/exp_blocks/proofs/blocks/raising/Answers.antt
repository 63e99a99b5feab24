use Rattle.std.proofs.Common.{ap, ◌∙◌}
use Rattle.ir_plain.specs.Tree.{ret}
use Rattle.match_compile.specs.Compile.{atom, put, otherwise_op}
use Rattle.exp_steps.specs.of_match_types.Views.{value_type}
use Rattle.exp_steps.specs.of_match_steps.Steps.{stand}
use Rattle.exp_blocks.specs.Giving.{otherwise_of}
use Rattle.exp_blocks.proofs.blocks.raising.Goals as goal

pub returns-clause-gives : goal.returns-clause-gives
returns-clause-gives c =
    let p = c.in_ok-value.ensures in
    let o = otherwise_op c.args.matched (otherwise_of c.args.other) in
    record {
      gives = λ v s.
          c.in_ok-made.ensures v
          ∙ (p.puts (λ v. o) (λ v s. c.raising_operation-operation.ensures v)).leads v s (ret (atom c.in_ok-value.value))
          ∙ ap (λ l. stand v l (put v.scope c.args.work.now.next (value_type v c.args.t) o (ret (atom c.in_ok-value.value)))) c.new-steps.ensures.items
          ∙ ap (λ i. put v.scope c.args.work.now.next (value_type v c.args.t) o (ret (atom i))) p.is;
    }
