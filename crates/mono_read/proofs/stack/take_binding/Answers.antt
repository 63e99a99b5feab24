use Rattle.std.proofs.Common.{◌∙◌, ◌∷◌, ap}
use Rattle.mono_read.specs.Reads.{item_in, stack_in}
use Rattle.mono_read.proofs.Given.{ok-is, err-is}
use Rattle.mono_read.proofs.stack.take_binding.Goals as goal
use Rattle.mono_read.proofs.stack.take_binding.Goals.{in-Binding, in_default}

pub returns : goal.returns
returns c =
    elim c.match-branch-2.branch [
      | in-Binding w ↦ ok-is _ _ _ w.result-is (λ types strings. c.in_ok-binding.ensures types strings ∙ ap (λ i. item_in types strings i ∷ stack_in types strings c.take.new.stack.items) w.in-Binding.is)
      | in_default w ↦ err-is _ _ _ w.result-is
    ]
