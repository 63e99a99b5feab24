use Rattle.std.proofs.Common.{reverse}
use Rattle.plain_tree.specs.TreeOf.{fun_of}
use Rattle.mono_bound.specs.Reads.{reading, mono_of}
use Rattle.mono_read.specs.declared.stack.Item.TheVariants as item
use Rattle.mono_read.proofs.Given.{if-ok}
use Rattle.mono_read.proofs.Stacked.{top, fn-put}
use Rattle.mono_read.proofs.parts.put_fn.Goals as goal

pub returns-in-Function : goal.returns-in-Function
returns-in-Function c = if-ok _ _ c.bind_function.result (λ u h types strings. fn-put types strings _ _ _ (fun_of (reading types strings) (reverse c.in-Function.parameters.items) c.in-Function.last (mono_of types strings c.in-Function.body)) (top types strings _ _ c.in_ok-parameters.field-0 (item.Function c.in-Function.parameters c.in-Function.last c.in-Function.body) (c.in_ok-parameters.ensures types strings) c.in-Function.is) (h types strings)) c.bind_function.ensures
