use Rattle.std.proofs.Common.{subst}
use Rattle.std.proofs.lemmas.Result.{IfOk-weaker}
use Rattle.sml_tree.specs.TreeOf.{long_id_at_of}
use Rattle.core_rules.specs.Eval.{long_structure_in}
use Rattle.name_scopes.specs.Covering.{StructureFits}
use Rattle.name_scopes.specs.Entries.{member_entries}
use Rattle.name_scopes.proofs.Opening.{structure-brings}
use Rattle.name_scopes.proofs.datas.bind_structure.Goals as goal

pub returns-in-Some : goal.returns-in-Some
returns-in-Some c =
    IfOk-weaker c.bind_members.result _ _
    (λ u k. record {
      more = member_entries c.in-Some.members;
      is = k;
      brings = λ e h.
          let p = long_structure_in e (long_id_at_of c.args.long.now) in
          structure-brings c.in-Some.members p (subst (λ o. StructureFits o p) c.in-Some.is (c.find_structure.ensures e h));
    })
    c.bind_members.ensures
