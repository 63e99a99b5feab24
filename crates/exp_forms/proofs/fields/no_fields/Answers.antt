use Rattle.exp_forms.proofs.Recording.{no_fields_are}
use Rattle.exp_forms.proofs.fields.no_fields.Goals as goal

pub returns : goal.returns
returns c S C = no_fields_are S C _ c.new.ensures.items c.new-2.ensures.items
