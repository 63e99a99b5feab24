use Rattle.std.proofs.Common.{[], ap, ◌∙◌}
use Rattle.monomorphise.specs.Number.{none_given, number}
use Rattle.mono_read.specs.Reads.{signs_of}
use Rattle.mono_number.specs.Walking.{at, along}
use Rattle.mono_number.proofs.Given.{if-ok}
use Rattle.mono_number.proofs.Numbering.{whole-numbered}
use Rattle.mono_number.proofs.tree.numbered_tree.Goals as goal

pub returns : goal.returns
returns c =
    if-ok _ _ c.read.result
    (λ made h types index strings H e N s. h types strings (number types index none_given 0 e)
    (ap (signs_of types strings) c.deref.ensures.value ∙ c.in_ok-numbered.ensures types index strings H N ∙ ap (λ ws. along types index ws (at none_given 0 [])) s ∙ whole-numbered types index e 0))
    c.read.ensures
