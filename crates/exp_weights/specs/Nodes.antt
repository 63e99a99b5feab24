-- How many nodes a bare phrase has. Each phrase of an expression, a pattern or a declaration is one, each rule and each binding of values too, and a string
-- one more for each of its bytes. Types count nothing, nor do bindings of types and exceptions.
use Rattle.std.specs.Prelude.{ℕ, ◌+◌, ◌-◌, ◌^◌, length, min}
use Rattle.sml_tree.specs.Terminal.{Constant, string}
use Rattle.sml_tree.specs.BareTree.{Pat, wild_pat, constant_pat, vid_pat, built_pat, fields_pat, con_pat, built_con_pat, typed_pat, as_pat}
use Rattle.sml_tree.specs.BareTree.{PatFields, no_pat_fields, pat_field, ExpFields, no_exp_fields, exp_field, Rules, no_rules, rule}
use Rattle.sml_tree.specs.BareTree.{Exp, constant_exp, vid_exp, built_exp, fields_exp, let_in, app, typed, handle, raise, fn}
use Rattle.sml_tree.specs.BareTree.{Decs, no_decs, dec, Dec, val_dec, local_dec, sequence_dec, Binds, no_binds, bind}

-- what is written into the program: no number is larger than a usize can be
abbrev pub capped : ℕ → ℕ
capped n = min n (2 ^ 64 - 1)

abbrev pub constant_count : Constant → ℕ
constant_count (string s) = 1 + length s
constant_count c = 1

abbrev mutual
  pub pat_count : Pat → ℕ
  pat_count (wild_pat p) = 1
  pat_count (constant_pat p c) = constant_count c
  pat_count (vid_pat p x) = 1
  pat_count (built_pat p b) = 1
  pat_count (fields_pat p fs b) = 1 + pat_fields_count fs
  pat_count (con_pat p q x a) = 1 + pat_count a
  pat_count (built_con_pat p b a) = 1 + pat_count a
  pat_count (typed_pat p a t) = 1 + pat_count a
  pat_count (as_pat p v t a) = 1 + pat_count a

  pub pat_fields_count : PatFields → ℕ
  pat_fields_count no_pat_fields = 0
  pat_fields_count (pat_field l a fs) = pat_count a + pat_fields_count fs

abbrev mutual
  pub exp_count : Exp → ℕ
  exp_count (constant_exp p c) = constant_count c
  exp_count (vid_exp p x) = 1
  exp_count (built_exp p b) = 1
  exp_count (fields_exp p fs) = 1 + exp_fields_count fs
  exp_count (let_in p ds e) = 1 + (decs_count ds + exp_count e)
  exp_count (app p e a) = 1 + (exp_count e + exp_count a)
  exp_count (typed p e t) = 1 + exp_count e
  exp_count (handle p e rs) = 1 + (exp_count e + rules_count rs)
  exp_count (raise p e) = 1 + exp_count e
  exp_count (fn p rs) = 1 + rules_count rs

  pub exp_fields_count : ExpFields → ℕ
  exp_fields_count no_exp_fields = 0
  exp_fields_count (exp_field l e fs) = exp_count e + exp_fields_count fs

  pub rules_count : Rules → ℕ
  rules_count no_rules = 0
  rules_count (rule p a e rs) = 1 + (pat_count a + exp_count e) + rules_count rs

  pub decs_count : Decs → ℕ
  decs_count no_decs = 0
  decs_count (dec d ds) = dec_count d + decs_count ds

  pub dec_count : Dec → ℕ
  dec_count (val_dec p q as_ bs cs) = 1 + (binds_count bs + binds_count cs)
  dec_count (local_dec p ds es) = 1 + (decs_count ds + decs_count es)
  dec_count (sequence_dec p ds) = 1 + decs_count ds
  dec_count d = 1

  pub binds_count : Binds → ℕ
  binds_count no_binds = 0
  binds_count (bind p a e bs) = 1 + (pat_count a + exp_count e) + binds_count bs

-- The declarations that no expression encloses, with those that stand in `local` and in sequences of them: themselves alone, without their bindings.
abbrev mutual
  pub outer_count : Decs → ℕ
  outer_count no_decs = 0
  outer_count (dec d ds) = outer_dec_count d + outer_count ds

  pub outer_dec_count : Dec → ℕ
  outer_dec_count (local_dec p ds es) = 1 + (outer_count ds + outer_count es)
  outer_dec_count (sequence_dec p ds) = 1 + outer_count ds
  outer_dec_count d = 1

-- a rule or a binding: itself, its pattern and its right side
abbrev pub bound_count : Pat → Exp → ℕ
bound_count a e = 1 + (pat_count a + exp_count e)
