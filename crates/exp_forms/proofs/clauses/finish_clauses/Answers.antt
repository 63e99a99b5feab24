use Rattle.pat_elab.proofs.of_elab_steps.Changing.{if-ok}
use Rattle.sml_tree.specs.Derived.{first_pats}
use Rattle.std.proofs.Common.{length}
use Rattle.exp_forms.specs.Clauses.{fresh_from, body_of}
use Rattle.exp_forms.proofs.Clausing.{clauses_are}
use Rattle.exp_forms.proofs.clauses.finish_clauses.Goals as goal

pub returns : goal.returns
returns c =
    if-ok c.finish.result (λ r k. λ S M C D p cs rs h i e.
    clauses_are S M c.finish.new.state C D p cs rs c.args.entered.before.items c.args.entered.last c.args.entered.types.items r h e
    (k S M C D (fresh_from p 1 (length (first_pats cs))) (body_of p cs) h i)) c.finish.ensures
