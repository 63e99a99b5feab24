use Rattle.std.proofs.Common.{◌≡◌, ◌-◌, Some, slice_index_or, sym, ap, ◌∙◌, vec_len, arith}
use Rattle.match_names.proofs.Naming.{current-popped, last-popped}
use Rattle.match_names.proofs.names.Names.unbind.Goals as goal

pub invariant_of-self-2 : goal.invariant_of-self-2
invariant_of-self-2 c =
    let b = c.index-last.result.now in let xs = c.self.inside.bound in
    let r = c.pop.ensures.value b (omega (arith, c.len-len.ensures, c.if-len-eq0.false)) in
    let e : slice_index_or xs.items (vec_len xs - 1) b ≡ b = ap (λ n. slice_index_or xs.items (n - 1) b) (sym c.len-len.ensures) ∙ sym c.index-last.ensures in
    current-popped c.self.inside.current.entries c.insert.new.self.entries c.pop.new.self.items xs.items b c.self.invariant c.in_ok-insert.ensures.updates.0
    (last-popped c.pop.new.self.items xs.items b c.pop.result c.pop.ensures.items (r ∙ ap Some e))
