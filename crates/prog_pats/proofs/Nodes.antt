-- What is asked of each kind of pattern.
use Rattle.std.proofs.Common.{◌≡◌, ℕ, Bool, true, None, Vec, Box, Global, sym, ap, ◌∙◌}
use Rattle.ty_table.specs.TypeAt.{type_at}
use Rattle.ir_poly.specs.Prog as tree
use Rattle.ir_tables.specs.declared.tables.Tables.{Tables}
use Rattle.ir_tables.specs.declared.tables.Constant.{Constant}
use Rattle.ir_tables.specs.Tables.{literal_at, strings_of}
use Rattle.prog_known.specs.declared.environment.Environment.{Environment}
use Rattle.prog_known.specs.Environments.{table_in, parameters_in, variables_in}
use Rattle.prog_check.specs.Checking.{check_pat}
use Rattle.prog_check.specs.Deciding.{is_literal, argument_of, takes}
use Rattle.prog_tree.specs.Readings.{reading}
use Rattle.prog_tree.specs.TreeOf.{Reading, PatFieldTree, PatPartTree, pat_of, node_pat, node_pat_field, node_pat_part, exc_of}
use Rattle.prog_tree.specs.declared.tree.Exception.{Exception}
use Rattle.prog_tree.specs.declared.tree.Head.{Head}
use Rattle.prog_tree.specs.declared.tree.Pat.{Pat, Pat-F, fold-roll-Pat}
use Rattle.prog_tree.specs.declared.tree.Pat.TheVariants as patterns
use Rattle.prog_tree.specs.declared.tree.PatField.{PatField}
use Rattle.prog_tree.specs.declared.tree.PatPart.{PatPart}
use Rattle.prog_tree.specs.declared.tree.Side.{Side}
use Rattle.prog_parts.proofs.Holding.{head-holds, record-holds, chain-holds}
use Rattle.prog_pats.specs.Fits.{pat_fits, exception_fits, before_fits, record_fits, operands_fit}

module _ (R : Reading) where
  any-pat : pat_of R patterns.Any ≡ tree.any_pat
  any-pat = ap (pat_of R) (sym patterns.rolls-Any) ∙ fold-roll-Pat tree.Pat PatFieldTree PatPartTree (node_pat R) (node_pat_field R) (node_pat_part R) Pat-F.Any

  variable-pat : (x : ℕ) → pat_of R (patterns.Variable x) ≡ tree.variable_pat x
  variable-pat x = ap (pat_of R) (sym (patterns.rolls-Variable x)) ∙ fold-roll-Pat tree.Pat PatFieldTree PatPartTree (node_pat R) (node_pat_field R) (node_pat_part R) (Pat-F.Variable x)

  constant-pat : (c : Constant) → pat_of R (patterns.Constant c) ≡ tree.constant_pat (literal_at R.strings c)
  constant-pat c = ap (pat_of R) (sym (patterns.rolls-Constant c)) ∙ fold-roll-Pat tree.Pat PatFieldTree PatPartTree (node_pat R) (node_pat_field R) (node_pat_part R) (Pat-F.Constant c)

  constructor-pat : (c : ℕ) → pat_of R (patterns.Constructor c) ≡ tree.con_pat c
  constructor-pat c = ap (pat_of R) (sym (patterns.rolls-Constructor c)) ∙ fold-roll-Pat tree.Pat PatFieldTree PatPartTree (node_pat R) (node_pat_field R) (node_pat_part R) (Pat-F.Constructor c)

  exception-pat : (x : Exception) → pat_of R (patterns.Exception x) ≡ tree.exn_pat (exc_of x)
  exception-pat x = ap (pat_of R) (sym (patterns.rolls-Exception x)) ∙ fold-roll-Pat tree.Pat PatFieldTree PatPartTree (node_pat R) (node_pat_field R) (node_pat_part R) (Pat-F.Exception x)

  as-pat : (x : ℕ) (p : Box Pat Global) → pat_of R (patterns.As x p) ≡ tree.as_pat x (pat_of R p.value)
  as-pat x p = ap (pat_of R) (sym (patterns.rolls-As x p)) ∙ fold-roll-Pat tree.Pat PatFieldTree PatPartTree (node_pat R) (node_pat_field R) (node_pat_part R) (Pat-F.As x p)

module _ (t : Tables) (e : Environment) (u : ℕ) where
  abbrev asks : tree.Pat → Bool
  asks p = check_pat (table_in t) (parameters_in e) (variables_in t e) p (type_at t.types u)

  pub any-fits : true ≡ pat_fits t e patterns.Any u
  any-fits = ap asks (sym (any-pat (reading t)))

  pub variable-fits : (x : ℕ) → true ≡ pat_fits t e (patterns.Variable x) u
  variable-fits x = ap asks (sym (variable-pat (reading t) x))

  pub constant-fits : (c : Constant) → is_literal (literal_at (strings_of t) c) (type_at t.types u) ≡ pat_fits t e (patterns.Constant c) u
  constant-fits c = ap asks (sym (constant-pat (reading t) c))

  pub constructor-fits : (c : ℕ) → takes None (argument_of (table_in t) c (type_at t.types u)) ≡ pat_fits t e (patterns.Constructor c) u
  constructor-fits c = ap asks (sym (constructor-pat (reading t) c))

  pub exception-fits : (x : Exception) → exception_fits t e x u ≡ pat_fits t e (patterns.Exception x) u
  exception-fits x = ap asks (sym (exception-pat (reading t) x))

  pub as-fits : (x : ℕ) (p : Box Pat Global) → pat_fits t e p.value u ≡ pat_fits t e (patterns.As x p) u
  as-fits x p = ap asks (sym (as-pat (reading t) x p))

  pub before-fits : (h : Head) (a : ℕ) (p : Box Pat Global) → before_fits t e h a p.value u ≡ pat_fits t e (patterns.Before h a p) u
  before-fits h a p = sym (head-holds t (parameters_in e) (variables_in t e) h a p u)

  pub record-fits : (b : Bool) (fs : Vec PatField Global) → record_fits t e b fs.items u ≡ pat_fits t e (patterns.Record b fs) u
  record-fits b fs = sym (record-holds t (parameters_in e) (variables_in t e) b fs u)

  pub chain-fits : (s : Side) (p : Box Pat Global) (js : Vec PatPart Global) → operands_fit t e s p.value js.items u ≡ pat_fits t e (patterns.Chain s p js) u
  chain-fits s p js = sym (chain-holds t (parameters_in e) (variables_in t e) s p js u)
