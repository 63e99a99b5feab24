use Rattle.std.proofs.Common.{◌&&◌, nat_lt, sym, ap, ◌∙◌}
use Rattle.match_compile.specs.Compile.{is_tuple, performed}
use Rattle.prog_tree.specs.TreeOf.{tree_of}
use Rattle.exp_steps.specs.Ways.{type_or_unit}
use Rattle.exp_steps.proofs.ways.application_way.Goals as goal

pub returns-in-Primitive : goal.returns-in-Primitive
returns-in-Primitive c = λ R.
    let p = c.in-Primitive.primitive in
    let k = type_or_unit c.in-Primitive.at R in
    let a = tree_of R c.args.argument.now in
    c.in-Primitive.ensures R a
    ∙ ap (λ n. performed (nat_lt 1 n && is_tuple n a) p k) (sym c.arity-count.ensures)
    ∙ ap (λ b. performed (nat_lt 1 c.arity-count.result && b) p k) (sym (c.is_tuple-written.ensures R)) ∙ sym (c.primitive_way.ensures R)
