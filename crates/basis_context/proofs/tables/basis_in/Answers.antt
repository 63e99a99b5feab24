use Rattle.basis_context.proofs.Making.{has_basis}
use Rattle.basis_context.proofs.tables.basis_in.Goals as goal

pub returns-clause-has : goal.returns-clause-has
returns-clause-has c =
    has_basis c.initial_schemes.new.types c.integer_schemes.new.types c.hidden_schemes.new.types c.bodies_in.new.types _ c.in_ok-values.ensures.held c.in_ok-values.ensures.are
    c.integer_schemes.ensures.earlier_stay c.in_ok-integers.ensures.held c.in_ok-integers.ensures.are c.hidden_schemes.ensures.earlier_stay c.in_ok-hidden.ensures.held
    c.in_ok-hidden.ensures.are c.bodies_in.ensures.earlier_stay c.in_ok-bodies.ensures.held c.in_ok-bodies.ensures.are
