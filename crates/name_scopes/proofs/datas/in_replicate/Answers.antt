use Rattle.std.proofs.Common.{refl}
use Rattle.sml_tree.specs.TreeOf.{long_id_at_of}
use Rattle.core_rules.specs.Eval.{long_tycon_in}
use Rattle.core_rules.specs.Unbound.{tycon_at}
use Rattle.name_scopes.proofs.Declaring.{at-unbound, declared-found}
use Rattle.name_scopes.proofs.datas.in_replicate.Goals as goal

pub returns-then-is_unbound_tycon : goal.returns-then-is_unbound_tycon
returns-then-is_unbound_tycon c =
    let y = long_id_at_of c.args.long.now in
    declared-found _ _ _ _ (λ e h. at-unbound c.args.sought.now (long_tycon_in e y) (tycon_at y.place y.long) (c.if-is_at.ensures refl) (c.if-is_unbound_tycon.ensures refl e h))
