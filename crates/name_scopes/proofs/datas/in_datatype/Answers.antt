use Rattle.std.proofs.Common.{[], ap, nat_eq}
use Rattle.std.specs.Prelude.{is_some}
use Rattle.std.specs.Map.{lookup}
use Rattle.std.proofs.lemmas.Result.{IfOk-weaker}
use Rattle.name_scopes.proofs.datas.in_datatype.Goals as goal

pub returns : goal.returns
returns c = IfOk-weaker c.in_declared.result _ _ (λ found k. k [] (λ x. ap (λ l. is_some (lookup (nat_eq x) l)) c.new-none.ensures)) c.in_declared.ensures
