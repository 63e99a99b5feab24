use Rattle.mono_read.specs.declared.stack.Item.TheVariants as item
use Rattle.mono_read.proofs.Stacked.{top, first-top}
use Rattle.mono_read.proofs.stack.take_open.Goals as goal

pub returns-in-Exp : goal.returns-in-Exp
returns-in-Exp c = λ types strings. (top types strings _ _ c.in_ok-steps.field-0 (item.Exp c.in-Exp.steps c.in-Exp.end) (c.in_ok-steps.ensures types strings) c.in-Exp.is)

pub returns-in-First : goal.returns-in-First
returns-in-First c = λ types strings.
    first-top types strings _ _ c.new.result.items c.in_ok-end-in-First.end c.in-First.last c.in-First.attempts.items (top types strings _ _ c.in_ok-steps.field-0 (item.First c.in-First.attempts c.in-First.last) (c.in_ok-steps.ensures types strings) c.in-First.is) c.new.ensures.items (c.in_ok-end-in-First.ensures types strings)
