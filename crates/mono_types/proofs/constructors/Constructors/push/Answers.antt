use Rattle.std.proofs.Common.{sym, ◌∙◌}
use Rattle.ir_known.proofs.Reversed.{known-already, new-there, once-pushed, front, inserted}
use Rattle.mono_types.proofs.constructors.Constructors.push.Goals as goal

pub returns-then-contains_key-clause-new : goal.returns-then-contains_key-clause-new
returns-then-contains_key-clause-new c = known-already c.self.inside.entries.entries c.args.self.now c.args.number c.self.invariant c.self.view_is (sym c.contains_key.ensures ∙ c.if-contains_key.true)

pub invariant_of-self-2 : goal.invariant_of-self-2
invariant_of-self-2 c =
    let t = sym c.contains_key.ensures ∙ c.if-contains_key.false in
    once-pushed c.self.inside.entries.entries c.insert.new.self.entries c.args.number c.args.argument c.self.invariant t (c.in_ok-insert.ensures.entries ∙ inserted c.self.inside.entries c.args.number c.args.argument t)

pub returns-clause-new : goal.returns-clause-new
returns-clause-new c = new-there c.self.inside.entries.entries c.args.self.now c.args.number c.self.invariant c.self.view_is (sym c.contains_key.ensures ∙ c.if-contains_key.false)

pub returns-clause-pushed : goal.returns-clause-pushed
returns-clause-pushed c = λ _.
    let t = sym c.contains_key.ensures ∙ c.if-contains_key.false in
    front c.self.inside.entries.entries c.insert.new.self.entries c.args.self.now c.args.number c.args.argument c.self.view_is (c.in_ok-insert.ensures.entries ∙ inserted c.self.inside.entries c.args.number c.args.argument t)
