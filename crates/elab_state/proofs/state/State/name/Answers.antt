use Rattle.std.proofs.Common.{arith}
use Rattle.elab_state.proofs.Reading.{written-named}
use Rattle.elab_state.proofs.Numbering.{namings-push, row-last, row-named, row-agrees, row-keeps}
use Rattle.elab_state.proofs.state.State.name.Goals as goal

pub invariant_of-self : goal.invariant_of-self
invariant_of-self c = record {
  held = written-named _ _ _ _ _ _ c.push.ensures.items c.args.self.now.held;
  ordered = namings-push _ _ _ _ c.push.ensures.items c.args.self.now.ordered (record { beyond = c.requires.beyond; later = c.requires.later });
  rows = c.args.self.now.rows;
}

pub returns-clause-last : goal.returns-clause-last
returns-clause-last c = row-last _ _ _ _ c.in_ok-push.ensures.items (omega (arith, c.len-naming.ensures, c.args.self.now.namings.ok.0))

pub returns-clause-named : goal.returns-clause-named
returns-clause-named c = row-named _ _ _ _ c.in_ok-push.ensures.items (omega (arith, c.len-naming.ensures, c.args.self.now.namings.ok.0))

pub returns-clause-agrees : goal.returns-clause-agrees
returns-clause-agrees c = row-agrees _ _ _ _ c.in_ok-push.ensures.items (omega (arith, c.len-naming.ensures, c.args.self.now.namings.ok.0))

pub returns-clause-keeps : goal.returns-clause-keeps
returns-clause-keeps c = row-keeps _ _ _ _ c.in_ok-push.ensures.items (omega (arith, c.len-naming.ensures, c.args.self.now.namings.ok.0)) c.args.self.now.ordered (record { beyond = c.requires.beyond; later = c.requires.later })
