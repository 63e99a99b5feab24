use Rattle.std.proofs.Common.{refl}
use Rattle.base_tests.proofs.mlc_prims_strings.of_sizes.Goals as goal

pub apply_prim-requires-clause-row : goal.apply_prim-requires-clause-row
apply_prim-requires-clause-row c = (_, refl)
