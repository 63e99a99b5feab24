use Rattle.std.proofs.Common.{map, ap, ◌++◌, ◌∙◌}
use Rattle.restrictions.proofs.DecNodes.{named-Abbreviation, named-Datatype}
use Rattle.restrictions.proofs.Standing.{if-ok}
use Rattle.restrictions.proofs.keys.push_named.Goals as goal

pub returns-in-Abbreviation : goal.returns-in-Abbreviation
returns-in-Abbreviation c =
    if-ok c.push_type_names.result
    (λ u k. k ∙ ap (λ l. c.args.keys.now.items ++ l) (ap (map (λ b. b.tycon)) c.deref.ensures.value ∙ named-Abbreviation c.args.dec.now c.in-Abbreviation.field-0 c.in-Abbreviation.binds c.in-Abbreviation.is))
    c.push_type_names.ensures

pub returns-in-Datatype : goal.returns-in-Datatype
returns-in-Datatype c =
    if-ok c.push_data_names.result
    (λ u k. k ∙ ap (λ l. c.args.keys.now.items ++ l) (ap (map (λ b. b.tycon)) c.deref-in-Datatype.ensures.value ∙ named-Datatype c.args.dec.now c.in-Datatype.field-0 c.in-Datatype.binds c.in-Datatype.is))
    c.push_data_names.ensures
