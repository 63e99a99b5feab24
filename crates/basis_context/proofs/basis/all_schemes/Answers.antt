use Rattle.std.proofs.Common.{length, ap, ◌∙◌}
use Rattle.basis_context.proofs.Making.{constructors-three, marks-three}
use Rattle.basis_context.proofs.basis.all_schemes.Goals as goal

pub add_schemes-requires : goal.add_schemes-requires
add_schemes-requires c = ap length c.deref.ensures.value ∙ c.requires.values

pub add_schemes-requires-2 : goal.add_schemes-requires-2
add_schemes-requires-2 c = ap length c.deref-2.ensures.value ∙ c.requires.integers

pub add_schemes-requires-3 : goal.add_schemes-requires-3
add_schemes-requires-3 c = ap length c.deref-3.ensures.value ∙ c.requires.hidden

pub returns-clause-marks : goal.returns-clause-marks
returns-clause-marks c =
    marks-three _ _ _ _ _ _ _ c.args.basis.now.values.items c.args.basis.now.integers.items c.args.basis.now.hidden.items c.new-schemes.ensures.items
    c.in_ok-add_schemes.ensures.marks c.in_ok-add_schemes-2.ensures.marks c.in_ok-add_schemes-3.ensures.marks c.deref.ensures.value c.deref-2.ensures.value c.deref-3.ensures.value

pub returns-clause-constructors : goal.returns-clause-constructors
returns-clause-constructors c =
    constructors-three _ _ _ _ _ _ _ c.new-schemes.ensures.items c.in_ok-add_schemes.ensures.constructors c.in_ok-add_schemes-2.ensures.constructors c.in_ok-add_schemes-3.ensures.constructors
