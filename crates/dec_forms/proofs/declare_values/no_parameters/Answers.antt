use Rattle.std.proofs.Common.{refl, arith}
use Rattle.dec_forms.proofs.Declaring.{listed_grows, listed_is}
use Rattle.dec_forms.proofs.declare_values.no_parameters.Goals as goal

pub returns-clause-grows : goal.returns-clause-grows
returns-clause-grows c = listed_grows c.args.state.now _ c.new.result (record {
  solver = refl;
  written = refl;
  namings = refl;
  types = refl;
  constructors = refl;
  lists = c.in_ok-push.ensures.items;
  strings = refl;
  next = refl;
  level = refl;
  none = c.new.ensures.items;
})

pub returns-clause-is : goal.returns-clause-is
returns-clause-is c =
    listed_is c.args.state.now.tables.parameters.items c.push.new.self.items c.new.result c.len-number.result c.in_ok-push.ensures.items c.new.ensures.items
    (omega (arith, c.len-number.ensures, c.args.state.now.tables.parameters.ok.0))
