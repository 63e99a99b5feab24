use Rattle.std.proofs.Common.{take, nat_eq, MatchOption, sym, ap, ◌∙◌, subst}
use Rattle.indexmap.specs.IndexMap.{get}
use Rattle.ty_solve.specs.Rows.{Among}
use Rattle.ty_solve.specs.Fields.{IsPlace}
use Rattle.ty_solve.proofs.places.place.Goals as goal

pub returns : goal.returns
returns c = λ ls n h. subst (λ o. MatchOption o (Among c.args.label (take n ls) → ⊥) (IsPlace ls n c.args.label)) (sym (c.copied.ensures ∙ c.get.ensures.value ∙ ap (get nat_eq c.args.places.now) c.key.ensures)) (h c.args.label)
