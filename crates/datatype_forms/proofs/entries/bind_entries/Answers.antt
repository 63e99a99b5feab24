use Rattle.std.proofs.Common.{◌∷◌, ap, ◌∙◌}
use Rattle.elab_types.specs.declared.scope.TypeScope.{TypeScope}
use Rattle.dec_forms.proofs.Bodies.{scope-same}
use Rattle.datatype_forms.proofs.InNames.{onto_next}
use Rattle.datatype_forms.proofs.entries.bind_entries.Goals as goal

pub loop-i-preserved : goal.loop-i-preserved
loop-i-preserved c =
    scope-same _ c.bind_type.new.self (c.bind_type.ensures.tyvars ∙ ap (λ (s : TypeScope). s.tyvars) c.loop-i.invariant)
    (c.in_ok-bind_type.ensures.bound ∙ ap (λ (s : TypeScope). c.index-entries-i.result ∷ s.types) c.loop-i.invariant
    ∙ onto_next c.args.scope.now.types c.args.entries.now c.loop-i.i c.index-entries-i.result c.loop-i-test.true c.index-entries-i.is)
