use Rattle.std.proofs.Common.{map, refl}
use Rattle.sml_tree.specs.TreeOf.{dec_of, decs_of}
use Rattle.mlb_reader.specs.PartOf.{part_of}
use Rattle.name_scopes.specs.declared.sought.What.TheVariants.{Unbound}
use Rattle.refusal_causes.proofs.Reaching.{is-unbound}
use Rattle.refusal_causes.proofs.certain.is_unbound.Goals as goal

pub returns : goal.returns
returns c = is-unbound c.is_found.result (decs_of (map dec_of c.args.prelude.now)) (map part_of c.args.parts.now) (record { what = Unbound; place = c.args.place }) refl c.is_found.ensures
