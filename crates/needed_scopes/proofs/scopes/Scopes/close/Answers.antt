use Rattle.std.proofs.lemmas.Bool.{false≢true}
use Rattle.mono_sets.specs.Kept.{lists_of}
use Rattle.needed_scopes.proofs.Holding.{leaves, lists-there}
use Rattle.needed_scopes.proofs.scopes.Scopes.close.Goals as goal

pub returns-in-Some-pop-clause-kept : goal.returns-in-Some-pop-clause-kept
returns-in-Some-pop-clause-kept c = record {
  sets = c.in-Some-pop.ensures.kept;
  holds = (leaves c.requires.holds c.pop.new.self.items c.in-Some.scope (lists_of c.pop-2.new.self) c.in-Some-pop.lists.items c.truncate.new.self c.in-Some.ensures.items c.in-Some-pop.ensures.popped
      c.truncate.ensures).now.holds;
}

pub returns-in-Some-pop-clause-lists : goal.returns-in-Some-pop-clause-lists
returns-in-Some-pop-clause-lists c =
    (leaves c.requires.holds c.pop.new.self.items c.in-Some.scope (lists_of c.pop-2.new.self) c.in-Some-pop.lists.items c.truncate.new.self c.in-Some.ensures.items c.in-Some-pop.ensures.popped
    c.truncate.ensures).lists

pub returns-in-None-clause-kept : goal.returns-in-None-clause-kept
returns-in-None-clause-kept c =
    absurd (false≢true (c.in-None.ensures.variant.1 (lists-there c.requires.holds c.pop.new.self.items c.in-Some.scope c.in-Some.ensures.items)))
