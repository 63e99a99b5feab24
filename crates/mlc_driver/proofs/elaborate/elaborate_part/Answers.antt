use Rattle.std.proofs.Common.{◌≡◌, ◌∷◌, ◌++◌, [], List, IfOk, map, ap}
use Rattle.sml_tree.specs.BareTree.{Decs}
use Rattle.sml_tree.specs.TreeOf.{dec_of, decs_of}
use Rattle.core_rules.specs.Project as core
use Rattle.core_rules.specs.Restrictions.{broken_in}
use Rattle.mlb_reader.specs.PartOf.{part_of}
use Rattle.project_elab.specs.Elaborated.{HasElaborated}
use Rattle.mlc_driver.proofs.Joining.{joins_if}
use Rattle.mlc_driver.proofs.elaborate.elaborate_part.Goals as goal

pub returns-in-Source : goal.returns-in-Source
returns-in-Source c =
    let ds = decs_of (map dec_of c.in-Source.declarations.items) in
    let e = c.args.elaborating.now in
    let e' = c.elaborate_source.new.elaborating in
    let h : IfOk c.elaborate_source.result (λ _. (prelude : Decs) (parts : List core.Part) → HasElaborated prelude parts e → HasElaborated prelude (parts ++ core.source ds ∷ []) e') = rw (← c.deref.ensures.value) c.elaborate_source.ensures.elaborated in
    let lawful : IfOk c.elaborate_source.result (λ _. broken_in ds ≡ []) = rw (← c.deref.ensures.value) c.elaborate_source.ensures.lawful in
    joins_if c.elaborate_source.result (part_of c.args.part.now) ds e e' (ap part_of c.in-Source.is) lawful h
