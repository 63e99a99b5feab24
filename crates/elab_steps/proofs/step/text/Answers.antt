use Rattle.std.proofs.Common.{◌++◌, refl, ap, ◌∙◌, arith}
use Rattle.elab_steps.proofs.Changing.{texted_is}
use Rattle.elab_steps.proofs.step.text.Goals as goal

pub returns-clause-is : goal.returns-clause-is
returns-clause-is c = texted_is c.args.state.now _ c.extend_from_slice.new.self c.len-number.result c.args.bytes.now (record {
  solver = refl;
  written = refl;
  namings = refl;
  types = refl;
  constructors = refl;
  lists = refl;
  strings = c.in_ok-push.ensures.items;
  next = refl;
  level = refl;
}) (omega (arith, c.len-number.ensures, c.args.state.now.tables.strings.ok.0)) (c.in_ok-extend_from_slice.ensures.items ∙ ap (λ l. l ++ c.args.bytes.now) c.new-copy.ensures.items)
