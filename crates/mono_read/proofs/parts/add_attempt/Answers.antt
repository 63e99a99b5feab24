use Rattle.ir_plain.specs.Tree as t
use Rattle.mono_bound.specs.Reads.{mono_of}
use Rattle.mono_read.specs.Reads.{open_in, first_in}
use Rattle.mono_read.specs.declared.stack.Item.TheVariants as item
use Rattle.mono_read.proofs.Given.{if-ok}
use Rattle.mono_read.proofs.Stacked.{top, stepped-is}
use Rattle.mono_read.proofs.parts.add_attempt.Goals as goal

pub returns-in-First : goal.returns-in-First
returns-in-First c = if-ok _ _ c.push_attempt.result (λ u h types strings. stepped-is types strings _ _ _ (first_in types strings c.in-First.attempts.items c.in-First.last) (t.first (mono_of types strings c.args.attempt)) (top types strings _ _ c.in_ok-attempts.field-0 (item.First c.in-First.attempts c.in-First.last) (c.in_ok-attempts.ensures types strings) c.in-First.is) (h types strings)) c.push_attempt.ensures

pub returns-in-Exp : goal.returns-in-Exp
returns-in-Exp c = if-ok _ _ c.push_both.result (λ u h types strings. stepped-is types strings _ _ _ (open_in types strings c.in-Exp.steps.items c.in-Exp.end) (t.first (mono_of types strings c.args.attempt)) (top types strings _ _ c.in_ok-attempts.field-0 (item.Exp c.in-Exp.steps c.in-Exp.end) (c.in_ok-attempts.ensures types strings) c.in-Exp.is) (h types strings)) c.push_both.ensures
