use Rattle.std.proofs.Common.{◌&&◌, nat_lt, sym, ap, ◌∙◌}
use Rattle.match_compile.specs.Compile.{is_tuple, performed}
use Rattle.exp_steps.specs.Ways.{type_or_unit, operands}
use Rattle.exp_steps.proofs.Heads.{operands-two}
use Rattle.exp_steps.proofs.ways.pair_way.Goals as goal

pub returns-in-Primitive : goal.returns-in-Primitive
returns-in-Primitive c = λ R u d e.
    let p = c.in-Primitive.primitive in
    let k = type_or_unit c.in-Primitive.at R in
    c.in-Primitive.ensures R (operands u d e)
    ∙ ap (λ n. performed (nat_lt 1 n && is_tuple n (operands u d e)) p k) (sym c.arity-count.ensures)
    ∙ ap (λ b. performed (nat_lt 1 c.arity-count.result && b) p k) (operands-two c.arity-count.result u d e) ∙ sym (c.primitive_way.ensures R)
