use Rattle.std.proofs.Common.{Some, ap, ◌∙◌}
use Rattle.elab_context.proofs.of_elab_steps.Changing.{if-ok}
use Rattle.use_elab.proofs.used.entry_used.Goals as goal

pub returns-in-Constructor : goal.returns-in-Constructor
returns-in-Constructor c = if-ok c.constructor.result (λ r h place x e. h place x (e ∙ ap Some c.in-Constructor.is)) c.constructor.ensures

pub returns-in-Reference : goal.returns-in-Reference
returns-in-Reference c = if-ok c.reference.result (λ r h place x e. h place x (e ∙ ap Some c.in-Reference.is)) c.reference.ensures

pub returns-in-Initial : goal.returns-in-Initial
returns-in-Initial c = if-ok c.initial.result (λ r h place x e. h place x _ (e ∙ ap Some c.in-Initial.is)) c.initial.ensures

pub returns-in-Primitive : goal.returns-in-Primitive
returns-in-Primitive c = if-ok c.primitive.result (λ r h place x e. h place x (e ∙ ap Some c.in-Primitive.is)) c.primitive.ensures

pub returns-in-Raised : goal.returns-in-Raised
returns-in-Raised c = if-ok c.raised.result (λ r h place x e. h place x (e ∙ ap Some c.in-Raised.is)) c.raised.ensures

pub returns-in-Single : goal.returns-in-Single
returns-in-Single c = if-ok c.single.result (λ r h place x e. h place x (e ∙ ap Some c.in-Single.is)) c.single.ensures

pub returns-in-Own : goal.returns-in-Own
returns-in-Own c = if-ok c.own.result (λ r h place x e. h place x (e ∙ ap Some c.in-Own.is)) c.own.ensures

pub returns-in-General : goal.returns-in-General
returns-in-General c = if-ok c.general.result (λ r h place x e. h place x (e ∙ ap Some c.in-General.is)) c.general.ensures
