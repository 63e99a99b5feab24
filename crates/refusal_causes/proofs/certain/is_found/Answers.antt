use Rattle.std.proofs.Common.{map, ap, subst}
use Rattle.std.specs.Prelude.{IfSome}
use Rattle.sml_tree.specs.TreeOf.{dec_of, decs_of}
use Rattle.mlb_reader.specs.PartOf.{part_of}
use Rattle.name_scopes.specs.Covering.{Covers}
use Rattle.scope_walks.specs.Projects.{standard_env}
use Rattle.refusal_causes.proofs.Reaching.{basis-if}
use Rattle.refusal_causes.proofs.certain.is_found.Goals as goal

pub returns-in-Some : goal.returns-in-Some
returns-in-Some c =
    let prelude = decs_of (map dec_of c.args.prelude.now) in
    basis-if c.in_parts.result prelude c.args.parts.now c.index-parts-0.result c.args.sought.now c.in-Some.scope c.if-parts-eq0.false c.index-parts-0.is (ap part_of c.in-StandardBasis.is)
    (subst (λ o. IfSome o (λ s. Covers s (standard_env prelude))) c.in-Some.is c.in_ok-scope-in-StandardBasis.ensures.covers) c.in_parts.ensures
