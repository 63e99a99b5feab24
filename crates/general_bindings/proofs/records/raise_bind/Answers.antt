use Rattle.std.proofs.Common.{[], refl, ap, ◌∙◌}
use Rattle.ir_plain.specs.Tree.{ret, let_in, raise_initial}
use Rattle.ir_values.specs.Primitives.{bind_name}
use Rattle.match_compile.specs.Compile.{atom}
use Rattle.pattern_tests.specs.of_match_steps.Steps.{stand}
use Rattle.general_bindings.proofs.records.raise_bind.Goals as goal

pub returns-clause-gives : goal.returns-clause-gives
returns-clause-gives c = λ t stands.
    let p = c.in_ok-value.ensures in
    let n = c.args.work.now.next in
    record {
      gives = λ v s.
          c.in_ok-made.ensures v
          ∙ (p.puts t (λ v. raise_initial bind_name) stands (λ v s. refl)).leads v s (ret (atom c.in_ok-value.value))
          ∙ ap (λ l. stand v l (let_in n [] (t v) (raise_initial bind_name) (ret (atom c.in_ok-value.value)))) c.new-steps.ensures.items
          ∙ ap (λ i. let_in n [] (t v) (raise_initial bind_name) (ret (atom i))) p.is;
    }
