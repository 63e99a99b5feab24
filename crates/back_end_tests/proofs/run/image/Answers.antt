use Rattle.std.proofs.Common.{rules, ◌≡◌, ◌<◌, length, true, All, sym, ap, subst}
use Rattle.back_end.specs.Lowered.{identifiers}
use Rattle.back_end_tests.proofs.run.image.Goals as goal

pub compile-requires : goal.compile-requires
compile-requires c =
    let yes : c.is_named.result ≡ true = search rules in
    let long : length c.in_ok-names.names ≡ 119 = ap length c.in_ok-names.ensures in
    record { named = subst (λ n. All (λ i. i < n) (identifiers c.args.program)) (sym long) (c.is_named.ensures yes) }
