use Rattle.std.proofs.Common.{rules, ◌≡◌, ◌<◌, true, All, length, sym, ap, ◌∙◌, subst, map}
use Rattle.ssa_tree.specs.TreeOf.{fun_of}
use Rattle.ssa_tree.specs.Exceptions.{exceptions}
use Rattle.ssa_form.specs.Programs.{program_of}
use Rattle.machine_emit.specs.of_image_law.ImageOf.{has}
use Rattle.emit_known.proofs.Finding.{all-found}
use Rattle.vm_bench.proofs.emitted.image_of.Goals as goal

pub emit-requires : goal.emit-requires
emit-requires c =
    let program = program_of c.args.program.now in
    let found = c.in_ok-found.found.items in
    let same : (i : _) → has (exceptions program) i ≡ has found i =
    λ i. sym (c.in_ok-found.ensures i ∙ ap (λ l. has (exceptions (record { tables = program.tables; funs = map fun_of l })) i) c.deref.ensures.value) in
    let yes : c.are_standard.result ≡ true = search rules in
    let all : All (λ i. i < 119) found = subst (All (λ i. i < 119)) c.deref-2.ensures.value (c.are_standard.ensures yes) in
    let long : length c.in_ok-names.names ≡ 119 = ap length c.in_ok-names.ensures in
    subst (λ n. All (λ i. i < n) (exceptions program)) (sym long) (all-found (λ i. i < 119) found (exceptions program) same all)
