use Rattle.std.proofs.Common.{refl}
use Rattle.exp_forms.proofs.Recording.{more_fields_are}
use Rattle.exp_forms.proofs.fields.add_field.Goals as goal

pub returns : goal.returns
returns c S M T C ls es e h i = more_fields_are S M T C ls es c.args.label.now e c.args.fields.now _ c.args.one _ h i c.in_ok-push-2.ensures.items c.in_ok-push.ensures.items refl refl
