use Rattle.std.proofs.Common.{[], sym, ap, ◌∙◌}
use Rattle.ty_core.specs.Types.{labels}
use Rattle.ir_mono.specs.Types.{node}
use Rattle.monomorphise.specs.Table.{place}
use Rattle.mono_pass.proofs.Starting.{placed-first, true-length, first-entered}
use Rattle.mono_pass.proofs.first.first_types.Goals as goal

pub enter-requires-2 : goal.enter-requires-2
enter-requires-2 c =
    true-length c.put-3.new.types c.enter.new.self
    (placed-first c.new-types.result c.put.new.types c.put-2.new.types c.put-3.new.types c.new-types.ensures (ap (λ l. (place c.new-types.result (node (labels l) [])).0) (sym c.new.ensures.items) ∙ c.in_ok-put.ensures) c.in_ok-put-2.ensures c.in_ok-put-3.ensures)
    c.in_ok-enter.ensures.ok

pub returns : goal.returns
returns c =
    first-entered c.put-3.new.types c.enter.new.self c.enter-2.new.self
    (placed-first c.new-types.result c.put.new.types c.put-2.new.types c.put-3.new.types c.new-types.ensures (ap (λ l. (place c.new-types.result (node (labels l) [])).0) (sym c.new.ensures.items) ∙ c.in_ok-put.ensures) c.in_ok-put-2.ensures c.in_ok-put-3.ensures)
    c.in_ok-enter.ensures.ok c.in_ok-enter-2.ensures.ok
