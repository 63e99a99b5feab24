use Rattle.std.proofs.Common.{sym, ◌∙◌, arith}
use Rattle.needed_scopes.proofs.Holding.{scope-within, lists-within, notes-none, notes, on-both, got-index, told-none, told-same, told-other}
use Rattle.mono_sets.specs.Kept.{lists_of}
use Rattle.needed_scopes.proofs.scopes.Scopes.note.Goals as goal

pub returns-in_default-clause-noted : goal.returns-in_default-clause-noted
returns-in_default-clause-noted c = (notes-none c.requires.holds c.args.variable c.args.list c.find.result c.find.ensures c.in_default.is).is

pub index-requires : goal.index-requires
index-requires c = let h = scope-within c.requires.holds c.args.variable c.in-Some.at (sym c.find.ensures ∙ c.in-Some.is) in omega (arith, h, c.args.self.now.scopes.ok.0)

pub returns-in_default-unit-clause-noted : goal.returns-in_default-unit-clause-noted
returns-in_default-unit-clause-noted c =
    (notes c.requires.holds c.args.variable c.args.list c.in-Some.at c.index.result.now c.find.result (lists_of c.args.self.now.needed) c.find.ensures c.in-Some.is
    (got-index c.args.self.now.scopes.items c.in-Some.at c.index.result.now c.index.ensures (scope-within c.requires.holds c.args.variable c.in-Some.at (sym c.find.ensures ∙ c.in-Some.is)))
    (told-none _ _ _ _ c.in_default-unit.is)).is

pub returns-then-unit-list-clause-noted : goal.returns-then-unit-list-clause-noted
returns-then-unit-list-clause-noted c =
    (notes c.requires.holds c.args.variable c.args.list c.in-Some.at c.index.result.now c.find.result (lists_of c.args.self.now.needed) c.find.ensures c.in-Some.is
    (got-index c.args.self.now.scopes.items c.in-Some.at c.index.result.now c.index.ensures (scope-within c.requires.holds c.args.variable c.in-Some.at (sym c.find.ensures ∙ c.in-Some.is)))
    (told-same _ _ _ c.in-Some-unit.unit _ c.in-Some-unit.is c.if-unit-list.true)).is

pub add-requires-clause-within : goal.add-requires-clause-within
add-requires-clause-within c = lists-within c.requires.holds c.args.variable c.in-Some.at (sym c.find.ensures ∙ c.in-Some.is)

pub returns-clause-kept : goal.returns-clause-kept
returns-clause-kept c = on-both c.add.result
    (λ k a. record {
      sets = k;
      holds = (notes c.requires.holds c.args.variable c.args.list c.in-Some.at c.index.result.now c.find.result (lists_of c.add.new.self) c.find.ensures c.in-Some.is
          (got-index c.args.self.now.scopes.items c.in-Some.at c.index.result.now c.index.ensures (scope-within c.requires.holds c.args.variable c.in-Some.at (sym c.find.ensures ∙ c.in-Some.is)))
          (a ∙ told-other _ _ _ c.in-Some-unit.unit _ c.in-Some-unit.is c.if-unit-list.false)).holds;
    })
    c.add.ensures.kept c.add.ensures.added

pub returns-clause-noted : goal.returns-clause-noted
returns-clause-noted c = on-both c.add.result
    (λ k a. (notes c.requires.holds c.args.variable c.args.list c.in-Some.at c.index.result.now c.find.result (lists_of c.add.new.self) c.find.ensures c.in-Some.is
    (got-index c.args.self.now.scopes.items c.in-Some.at c.index.result.now c.index.ensures (scope-within c.requires.holds c.args.variable c.in-Some.at (sym c.find.ensures ∙ c.in-Some.is)))
    (a ∙ told-other _ _ _ c.in-Some-unit.unit _ c.in-Some-unit.is c.if-unit-list.false)).is)
    c.add.ensures.kept c.add.ensures.added
