use Rattle.plain_tree.specs.declared.tree.Exception.TheVariants as exception
use Rattle.mono_state.specs.Seen.{seen}
use Rattle.mono_state.proofs.Going.{goes-nowhere}
use Rattle.mono_parts.proofs.Putting.{exception-noted}
use Rattle.mono_parts.proofs.arms.exception_of.Goals as goal

pub returns-in-Initial-clause-goes : goal.returns-in-Initial-clause-goes
returns-in-Initial-clause-goes c = λ sources. goes-nowhere sources c.args.copier.now c.requires

pub returns-in_ok-k-in-Held-clause-noted : goal.returns-in_ok-k-in-Held-clause-noted
returns-in_ok-k-in-Held-clause-noted c = λ t ss H l.
    exception-noted t c.args.exception (exception.Held c.in-Held.variable) (seen ss H c.args.copier.now) (seen ss H c.atom.new.copier) c.in-Held.is (c.in_ok-k-in-Held.ensures.noted ss H l)
