use Rattle.std.proofs.Common.{◌≡◌, ◌⊎◌, true, false, Bool, List, nat_eq, ap, subst, ◌∙◌}
use Rattle.std.specs.Prelude.{IfErr, IfOk}
use Rattle.core_rules.specs.Restrictions.{distinct}
use Rattle.core_rules.specs.Words.{same_vid}
use Rattle.elab_types.specs.declared.refused.Refused.TheVariants.{Broken, Memory}
use Rattle.exp_forms.specs.of_pat_elab.declared.bound.BoundVariable.{BoundVariable}
use Rattle.exp_forms.specs.Rules.{vids_of}
use Rattle.dec_forms.proofs.Listed.{named-once}
use Rattle.dec_forms.proofs.once.check_names.Goals as goal

pub returns-clause-once : goal.returns-clause-once
returns-clause-once c =
    let e : distinct same_vid (vids_of c.deref.result.now) ≡ distinct nat_eq c.args.names.now =
    ap (λ (bs : List BoundVariable). distinct same_vid (vids_of bs)) c.deref.ensures.value ∙ ap (distinct same_vid) c.in_ok-bound.ensures ∙ named-once c.args.names.now in
    subst (λ (b : Bool). IfOk c.check_once.result (λ x. b ≡ true)) e c.check_once.ensures.once

pub returns-clause-refused : goal.returns-clause-refused
returns-clause-refused c =
    let e : distinct same_vid (vids_of c.deref.result.now) ≡ distinct nat_eq c.args.names.now =
    ap (λ (bs : List BoundVariable). distinct same_vid (vids_of bs)) c.deref.ensures.value ∙ ap (distinct same_vid) c.in_ok-bound.ensures ∙ named-once c.args.names.now in
    subst (λ (b : Bool). IfErr c.check_once.result (λ x. (x ≡ Memory) ⊎ ((x ≡ Broken c.args.place) × (b ≡ false)))) e c.check_once.ensures.refused
