use Rattle.std.proofs.Common.{map, ◌∙◌}
use Rattle.std.proofs.lemmas.List.{length-map}
use Rattle.datatype_forms.proofs.Best.{arguments_placed}
use Rattle.datatype_forms.proofs.marks.best_marks.Goals as goal

pub equality_of_datatypes-requires : goal.equality_of_datatypes-requires
equality_of_datatypes-requires c =
    arguments_placed (map (λ ks. ks.items) c.args.rows.now) _ _ (c.deref.ensures.value ∙ c.in_ok-arguments.ensures) (length-map c.args.rows.now (λ ks. ks.items))
