use Rattle.std.proofs.Common.{sym, ◌∙◌, subst}
use Rattle.ir_tables.specs.Rows.{IsIndex}
use Rattle.ir_tables.proofs.Found.{index-kept, index-more}
use Rattle.ir_tables.proofs.constructors.Constructors.push.Goals as goal

pub invariant_of-self-then-contains_key : goal.invariant_of-self-then-contains_key
invariant_of-self-then-contains_key c = subst (λ ks. IsIndex ks c.self.inside.first.entries) (sym c.in_ok-push.ensures.items) (index-kept c.self.inside.rows.items c.args.constructor c.self.inside.first.entries c.self.invariant (sym c.contains_key.ensures ∙ c.if-contains_key.true))

pub invariant_of-self-in-Ok : goal.invariant_of-self-in-Ok
invariant_of-self-in-Ok c = subst (λ ks. IsIndex ks c.insert.new.self.entries) (sym c.in_ok-push.ensures.items) (index-more c.self.inside.rows.items c.args.constructor c.self.inside.first.entries c.insert.new.self.entries c.self.invariant (sym c.contains_key.ensures ∙ c.if-contains_key.false) c.in-Ok.ensures.updates.0)
