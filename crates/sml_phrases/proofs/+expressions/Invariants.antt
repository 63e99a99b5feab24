use Rattle.std.proofs.Common.{◌≤◌, ◌+◌, ◌*◌, length, ◌≡◌, ◌<◌, ◌-◌, map, true}
use Rattle.sml_grammar.specs.Expressions.{readers, read_binds, read_clauses, read_funs, atoms_turn, begins_atom, row_turn, rule_turn, part_turn, read_match, whole_parts}
use Rattle.phrase_base.specs.Left.{left}
use Rattle.sml_phrases.proofs.DecLoops.{DecsGoing, FunsGoing}
use Rattle.sml_phrases.proofs.ClauseLoops.{ClausesGoing}
use Rattle.sml_phrases.proofs.BindLoops.{BindsGoing}
use Rattle.sml_phrases.proofs.+expressions.Given as goal
use Rattle.sml_tree.specs.Bare.{exp_list, operands, joint_of}
use Rattle.sml_tree.specs.Depth.{depth_exps, depth_parts, depth_rules, depth_exp_fields}
use Rattle.sml_tree.specs.TreeOf.{exp_of, part_of, rule_of, exp_field_of}
use Rattle.sml_grammar.specs.Answer.{whole}
use Rattle.sml_grammar.specs.Terminals.{no_state, place_at}
use Rattle.sml_phrases.specs.Ties.{joint_from}
use Rattle.sml_phrases.specs.ExpressionsRead.{exps_turn, field_list, rule_list}
use Rattle.sml_phrases.proofs.Collect.{Collects}
use Rattle.sml_phrases.proofs.ExpSteps.{Seeking}

abbrev pub decreases-declarations::read_binds : goal.decreases-declarations::read_binds
decreases-declarations::read_binds l = 32 * l.n + 20

abbrev pub decreases-declarations::read_clauses : goal.decreases-declarations::read_clauses
decreases-declarations::read_clauses l = 32 * l.n + 21

abbrev pub decreases-declarations::read_functions : goal.decreases-declarations::read_functions
decreases-declarations::read_functions l = 32 * l.n + 22

abbrev pub decreases-declarations::read_dec : goal.decreases-declarations::read_dec
decreases-declarations::read_dec l = 32 * l.n + 27

abbrev pub decreases-declarations::read_decs : goal.decreases-declarations::read_decs
decreases-declarations::read_decs l = 32 * l.n + 28

abbrev pub decreases-declarations::read_local : goal.decreases-declarations::read_local
decreases-declarations::read_local l = 32 * l.n + 29

abbrev pub invariant-declarations::read_decs-decs : goal.invariant-declarations::read_decs-decs
invariant-declarations::read_decs-decs l = record {
  going : DecsGoing l.source l.n l.fn.fix l.fix (left l.source l.rest) l.all.items l.deepest ((readers l.n).decs l.fn.fix (left l.source l.tokens));
  short : length (left l.source l.rest) ≤ length (left l.source l.tokens);
}

abbrev pub decreases-declarations::read_decs-decs : goal.decreases-declarations::read_decs-decs
decreases-declarations::read_decs-decs l = length (left l.source l.rest)

abbrev pub invariant-declarations::read_functions-functions : goal.invariant-declarations::read_functions-functions
invariant-declarations::read_functions-functions l = record {
  going : FunsGoing l.source l.n l.fix (left l.source l.rest) l.all.items l.deepest (read_funs l.n (readers l.n).exp l.fix (left l.source l.tokens));
  short : length (left l.source l.rest) ≤ length (left l.source l.tokens);
}

abbrev pub decreases-declarations::read_functions-functions : goal.decreases-declarations::read_functions-functions
decreases-declarations::read_functions-functions l = length (left l.source l.rest)

abbrev pub invariant-declarations::read_binds-binds : goal.invariant-declarations::read_binds-binds
invariant-declarations::read_binds-binds l = record {
  going : BindsGoing l.source l.n l.fix (left l.source l.rest) l.lists.0.items l.lists.1.items l.after_rec l.deepest (read_binds l.n (readers l.n).exp l.fix (left l.source l.tokens));
  short : length (left l.source l.rest) ≤ length (left l.source l.tokens);
}

abbrev pub decreases-declarations::read_binds-binds : goal.decreases-declarations::read_binds-binds
decreases-declarations::read_binds-binds l = length (left l.source l.rest)

abbrev pub invariant-declarations::read_clauses-clauses : goal.invariant-declarations::read_clauses-clauses
invariant-declarations::read_clauses-clauses l = record {
  going : ClausesGoing l.source l.n l.fix l.shape (left l.source l.rest) l.clauses.items l.deepest (read_clauses l.n (readers l.n).exp l.fix (left l.source l.tokens));
  short : length (left l.source l.rest) ≤ length (left l.source l.tokens);
}

abbrev pub decreases-declarations::read_clauses-clauses : goal.decreases-declarations::read_clauses-clauses
decreases-declarations::read_clauses-clauses l = length (left l.source l.rest)

abbrev pub decreases-expressions::read_exp : goal.decreases-expressions::read_exp
decreases-expressions::read_exp l = 32 * l.n + 6

abbrev pub decreases-expressions::keyword_form : goal.decreases-expressions::keyword_form
decreases-expressions::keyword_form l = 32 * l.n + 30

abbrev pub decreases-expressions::conditional : goal.decreases-expressions::conditional
decreases-expressions::conditional l = 32 * l.n + 29

abbrev pub decreases-expressions::case : goal.decreases-expressions::case
decreases-expressions::case l = 32 * l.n + 29

abbrev pub decreases-expressions::read_after : goal.decreases-expressions::read_after
decreases-expressions::read_after l = 32 * l.n + 10

abbrev pub decreases-expressions::application : goal.decreases-expressions::application
decreases-expressions::application l = 32 * l.n + 36

abbrev pub decreases-expressions::read_atoms : goal.decreases-expressions::read_atoms
decreases-expressions::read_atoms l = 32 * l.n + 12

abbrev pub decreases-expressions::read_atom : goal.decreases-expressions::read_atom
decreases-expressions::read_atom l = 32 * l.n + 2

abbrev pub decreases-expressions::in_braces : goal.decreases-expressions::in_braces
decreases-expressions::in_braces l = 32 * l.n + 31

abbrev pub decreases-expressions::read_rows : goal.decreases-expressions::read_rows
decreases-expressions::read_rows l = 32 * l.n + 12

abbrev pub decreases-expressions::in_parens : goal.decreases-expressions::in_parens
decreases-expressions::in_parens l = 32 * l.n + 31

abbrev pub decreases-expressions::in_brackets : goal.decreases-expressions::in_brackets
decreases-expressions::in_brackets l = 32 * l.n + 31

abbrev pub decreases-expressions::read_let : goal.decreases-expressions::read_let
decreases-expressions::read_let l = 32 * l.n + 31

abbrev pub decreases-expressions::read_exps : goal.decreases-expressions::read_exps
decreases-expressions::read_exps l = 32 * l.n + 12

abbrev pub decreases-expressions::read_match : goal.decreases-expressions::read_match
decreases-expressions::read_match l = 32 * l.n + 12

abbrev pub decreases-expressions::read_parts : goal.decreases-expressions::read_parts
decreases-expressions::read_parts l = 32 * l.n + 12

abbrev pub decreases-expressions::go_on : goal.decreases-expressions::go_on
decreases-expressions::go_on l = 32 * l.n + 30

abbrev pub invariant-expressions::read_exp-suffixes : goal.invariant-expressions::read_exp-suffixes
invariant-expressions::read_exp-suffixes l = record {
  seeking : Seeking (readers (l.n - 1)).exp (l.n - 1) l.fix l.level l.source (place_at (left l.source l.tokens)) (left l.source l.rest) l.exp l.depth l.high ((readers l.n).exp l.fix l.level (left l.source l.tokens));
  short : length (left l.source l.rest) < length (left l.source l.tokens);
}

abbrev pub decreases-expressions::read_exp-suffixes : goal.decreases-expressions::read_exp-suffixes
decreases-expressions::read_exp-suffixes l = length (left l.source l.rest)

abbrev pub invariant-expressions::read_atoms-atoms : goal.invariant-expressions::read_atoms-atoms
invariant-expressions::read_atoms-atoms l = record {
  collects : Collects (exp_list l.source.file) depth_exps (atoms_turn (readers l.n).atom l.fix) no_state (left l.source l.rest) (map exp_of l.all.items) l.deepest (whole (atoms_turn (readers l.n).atom l.fix) no_state (left l.source l.tokens));
  begins : begins_atom l.fix (left l.source l.rest) ≡ true;
  short : length (left l.source l.rest) ≤ length (left l.source l.tokens);
  fits : l.deepest ≤ l.n;
}

abbrev pub decreases-expressions::read_atoms-atoms : goal.decreases-expressions::read_atoms-atoms
decreases-expressions::read_atoms-atoms l = length (left l.source l.rest)

abbrev pub invariant-expressions::read_rows-fields : goal.invariant-expressions::read_rows-fields
invariant-expressions::read_rows-fields l = record {
  collects : Collects (field_list l.source.file) depth_exp_fields (row_turn (readers l.n).exp l.fix) no_state (left l.source l.rest) (map exp_field_of l.all.items) l.deepest (whole (row_turn (readers l.n).exp l.fix) no_state (left l.source l.tokens));
  short : length (left l.source l.rest) ≤ length (left l.source l.tokens);
  fits : l.deepest ≤ l.n;
}

abbrev pub decreases-expressions::read_rows-fields : goal.decreases-expressions::read_rows-fields
decreases-expressions::read_rows-fields l = length (left l.source l.rest)

abbrev pub invariant-expressions::read_exps-exps : goal.invariant-expressions::read_exps-exps
invariant-expressions::read_exps-exps l = record {
  collects : Collects (exp_list l.source.file) depth_exps (exps_turn l.word (readers l.n).exp l.fix) no_state (left l.source l.rest) (map exp_of l.all.items) l.deepest (whole (exps_turn l.word (readers l.n).exp l.fix) no_state (left l.source l.tokens));
  short : length (left l.source l.rest) ≤ length (left l.source l.tokens);
  fits : l.deepest ≤ l.n;
}

abbrev pub decreases-expressions::read_exps-exps : goal.decreases-expressions::read_exps-exps
decreases-expressions::read_exps-exps l = length (left l.source l.rest)

abbrev pub invariant-expressions::read_match-rules : goal.invariant-expressions::read_match-rules
invariant-expressions::read_match-rules l = record {
  collects : Collects (rule_list l.source.file) depth_rules (rule_turn l.n (readers l.n).exp l.fix) no_state (left l.source l.rest) (map rule_of l.all.items) l.deepest (read_match l.n (readers l.n).exp l.fix (left l.source l.tokens));
  short : length (left l.source l.rest) ≤ length (left l.source l.tokens);
  fits : l.deepest ≤ l.n;
}

abbrev pub decreases-expressions::read_match-rules : goal.decreases-expressions::read_match-rules
decreases-expressions::read_match-rules l = length (left l.source l.rest)

abbrev pub invariant-expressions::read_parts-parts : goal.invariant-expressions::read_parts-parts
invariant-expressions::read_parts-parts l = record {
  collects : Collects (operands l.source.file) depth_parts (part_turn (readers l.n).exp l.fix l.level l.right) (joint_from l.joint) (left l.source l.rest) (map part_of l.all.items) l.deepest (whole_parts (readers l.n).exp l.fix (joint_from l.first) (left l.source l.tokens));
  file : joint_of l.source.file (joint_from l.joint) ≡ l.joint;
  short : length (left l.source l.rest) ≤ length (left l.source l.tokens);
  fits : l.deepest ≤ l.n;
}

abbrev pub decreases-expressions::read_parts-parts : goal.decreases-expressions::read_parts-parts
decreases-expressions::read_parts-parts l = length (left l.source l.rest)
