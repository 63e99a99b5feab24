use Rattle.ir_values.proofs.EqualityLemmas.{same-same, field-same}
use Rattle.ir_values.proofs.PrimitiveLemmas.{perform-same, enter-same, reference-same, content-same, raise-same}
use Rattle.ir_values.proofs.MatchLemmas.{literal-same, con-same, con-of-same, exn-same, exn-of-same, record-same, ref-same}
use Rattle.ir_values.proofs.law.values_agree.Goals as goal

pub returns-clause-equality : goal.returns-clause-equality
returns-clause-equality g c h v u w z r q = let f = g.R.Related.forms in same-same f.tagging f.related f.by_kind h r q

pub returns-clause-primitives : goal.returns-clause-primitives
returns-clause-primitives g c h p vs zs w u r s = let f = g.R.Related.forms in perform-same f.tagging f.related f.by_kind h p w u r s

pub returns-clause-calls : goal.returns-clause-calls
returns-clause-calls g c go go' place h v h' z w u r q s k = let f = g.R.Related.forms in enter-same f.tagging f.related f.by_kind go go' place w u r q s k

pub returns-clause-references : goal.returns-clause-references
returns-clause-references g c h v z w u r s =
    let f = g.R.Related.forms in
    (reference-same f.tagging f.related f.by_kind h w u r s, content-same f.tagging f.related f.by_kind h w u (f.by_kind.kind _ _ r) s, raise-same f.tagging f.related f.by_kind w u r s)

pub returns-clause-fields : goal.returns-clause-fields
returns-clause-fields g c l fs gs s = let f = g.R.Related.forms in field-same f.related l s

pub returns-clause-tests : goal.returns-clause-tests
returns-clause-tests g c =
    let f = g.R.Related.forms in
    record {
      literals = λ l v z m n r h. literal-same f.tagging f.related f.by_kind f.same_env l r h;
      con = λ t k v z m n r h. con-same f.tagging f.related f.by_kind f.same_env t k r h;
      con_of = λ t k v z go go' r h. con-of-same f.tagging f.related f.by_kind f.same_env t k r h;
      exn = λ o q v z m n p r h. exn-same f.tagging f.related f.by_kind f.same_env p r h;
      exn_of = λ t o q v z go go' p r h. exn-of-same f.tagging f.related f.by_kind f.same_env t p r h;
      record_of = λ t size v z go go' r h. record-same f.tagging f.related f.by_kind f.same_env t size r h;
      ref = λ t vs zs v z go go' p r h. ref-same f.tagging f.related f.by_kind f.same_env t p r h;
    }
