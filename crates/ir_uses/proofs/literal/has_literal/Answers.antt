use Rattle.std.proofs.Common.{◌↔◌, ◌≡◌, IsTrue, subst}
use Rattle.ty_table.specs.TypeAt.{type_at}
use Rattle.ir_known.specs.of_ir_poly.Types.{of_name}
use Rattle.ir_uses.proofs.Deciding.{literal-decided, literal-fits}
use Rattle.ir_uses.proofs.literal.has_literal.Goals as goal

pub returns-clause-fits : goal.returns-clause-fits
returns-clause-fits c = λ ss. literal-fits ss c.args.constant (type_at c.args.types.now c.args.t) c.is_named.result
    (subst (λ n. IsTrue c.is_named.result ↔ (type_at c.args.types.now c.args.t ≡ of_name n)) c.type_name.ensures c.is_named.ensures)

pub returns-clause-decided : goal.returns-clause-decided
returns-clause-decided c = λ ss. literal-decided ss c.args.constant (type_at c.args.types.now c.args.t) c.is_named.result
    (subst (λ n. IsTrue c.is_named.result ↔ (type_at c.args.types.now c.args.t ≡ of_name n)) c.type_name.ensures c.is_named.ensures)
