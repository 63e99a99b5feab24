use Rattle.std.proofs.Common.{◌≡◌, ◌++◌, drop}
use Rattle.std.specs.Prelude.{flat_map}
use Rattle.scoped_tyvars.specs.Unguarded.{exp_tyvars, field_tyvars, plain, rule_tyvars}
use Rattle.scoped_tyvars.proofs.Chains.{TurnedSoFar}
use Rattle.scoped_tyvars.proofs.Listing.{BackSoFar}
use Rattle.scoped_tyvars.proofs.exps.+exps.Given as goal

abbrev pub invariant-of_exps-loop-i : goal.invariant-of_exps-loop-i
invariant-of_exps-loop-i l = l.found.items ++ flat_map exp_tyvars (drop l.i l.exps) ≡ l.fn.found.items ++ flat_map exp_tyvars l.exps

abbrev pub invariant-of_fields-loop-i : goal.invariant-of_fields-loop-i
invariant-of_fields-loop-i l = l.found.items ++ flat_map field_tyvars (drop l.i l.fields) ≡ l.fn.found.items ++ flat_map field_tyvars l.fields

abbrev pub invariant-of_rules-loop-i : goal.invariant-of_rules-loop-i
invariant-of_rules-loop-i l = l.found.items ++ flat_map rule_tyvars (drop l.i l.rules) ≡ l.fn.found.items ++ flat_map rule_tyvars l.rules

abbrev pub invariant-of_plain-loop-i : goal.invariant-of_plain-loop-i
invariant-of_plain-loop-i l = l.found.items ++ plain l.right (drop l.i l.parts) ≡ l.fn.found.items ++ plain l.right l.parts

abbrev pub invariant-of_back-loop-i : goal.invariant-of_back-loop-i
invariant-of_back-loop-i l = BackSoFar exp_tyvars l.exps l.i l.fn.found.items l.found.items

abbrev pub decreases-of_back-loop-i : goal.decreases-of_back-loop-i
decreases-of_back-loop-i l = l.i

abbrev pub invariant-of_turned-loop-i : goal.invariant-of_turned-loop-i
invariant-of_turned-loop-i l = TurnedSoFar l.right l.parts l.i l.fn.found.items l.found.items

abbrev pub decreases-of_turned-loop-i : goal.decreases-of_turned-loop-i
decreases-of_turned-loop-i l = l.i
