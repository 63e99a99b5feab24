use Rattle.std.proofs.Common.{◌≡◌, map, take}
use Rattle.prog_tree.specs.TreeOf.{Reading, tree_of, dec_of, rule_of, field_of, argument_of, join_of, bind_of}
use Rattle.prog_renumber.specs.Renumbered.{renumbered, argument_from, join_from, bind_from, member_of}
use Rattle.prog_renumber.proofs.body.+exps.Given as goal

abbrev pub invariant-all_expressions-loop-i : goal.invariant-all_expressions-loop-i
invariant-all_expressions-loop-i l = (Q : Reading) → map (tree_of Q) l.made.items ≡ map (tree_of (renumbered l.numbers Q)) (take l.i l.exps)

abbrev pub invariant-record_fields-loop-i : goal.invariant-record_fields-loop-i
invariant-record_fields-loop-i l = (Q : Reading) → map (field_of Q) l.made.items ≡ map (field_of (renumbered l.numbers Q)) (take l.i l.fields)

abbrev pub invariant-all_arguments-loop-i : goal.invariant-all_arguments-loop-i
invariant-all_arguments-loop-i l = (Q : Reading) → map (argument_of Q) l.made.items ≡ map (argument_from l.numbers Q) (take l.i l.arguments)

abbrev pub invariant-all_joins-loop-i : goal.invariant-all_joins-loop-i
invariant-all_joins-loop-i l = (Q : Reading) → map (join_of Q) l.made.items ≡ map (join_from l.numbers Q) (take l.i l.joins)

abbrev pub invariant-all_rules-loop-i : goal.invariant-all_rules-loop-i
invariant-all_rules-loop-i l = (Q : Reading) → map (rule_of Q) l.made.items ≡ map (rule_of (renumbered l.numbers Q)) (take l.i l.rules)

abbrev pub invariant-all_bindings-loop-i : goal.invariant-all_bindings-loop-i
invariant-all_bindings-loop-i l = (Q : Reading) → map (bind_of Q) l.made.items ≡ map (bind_from l.numbers Q) (take l.i l.bindings)

abbrev pub invariant-all_members-loop-i : goal.invariant-all_members-loop-i
invariant-all_members-loop-i l = (Q : Reading) → map (member_of Q) l.made.items ≡ map (member_of (renumbered l.numbers Q)) (take l.i l.members)

abbrev pub invariant-all_declarations-loop-i : goal.invariant-all_declarations-loop-i
invariant-all_declarations-loop-i l = (Q : Reading) → map (dec_of Q) l.made.items ≡ map (dec_of (renumbered l.numbers Q)) (take l.i l.decs)
