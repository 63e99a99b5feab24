-- The expansion along the code's steps: first the steps in a row, then what comes of them, and then the other arms of their tests, the last test's first.
use Rattle.std.specs.Prelude.{◌≡◌, ℕ, ◌+◌, false, List, [], ◌∷◌, map, length, Option, Some, None, slice_set}
use Rattle.ir_plain.specs.Tree as t
use Rattle.ir_mono.specs.Types as table
use Rattle.ir_mono.specs.Mono.{mono}
use Rattle.plain_tree.specs.declared.tree.Arm.{Arm}
use Rattle.plain_tree.specs.declared.tree.Step.{Step}
use Rattle.plain_tree.specs.declared.tree.Function.{Function}
use Rattle.plain_tree.specs.TreeOf.{StepTree, ArmTree, FunctionTree, let_step, exception_step, name_step, rec_step, test_step, counted_step, arms_of, funs_of, arm_of, function_of}
use Rattle.mono_bound.specs.Reads.{reading}
use Rattle.eta_parts.specs.Reads.{mono_step}
use Rattle.eta_expand.specs.Expand.{Names, is_given, name_takes, case_names, group_names, news, arms_news, op_news, funs_news, expand, expand_arms, expand_op, expand_fun, expand_funs}

module _ (types : List table.Row) where
  abbrev pub S : Type 0
  S = StepTree (mono types)

  -- the names in scope behind a step
  abbrev pub binds : S → Names → Names
  binds (let_step x ps t o) N = (x, false) ∷ N
  binds (exception_step x i t) N = (x, is_given t) ∷ N
  binds (name_step x y) N = (x, name_takes types N y) ∷ N
  binds (rec_step ps fs) N = group_names types fs N
  binds (test_step a u c others) N = case_names types c N
  binds (counted_step k) N = N

  -- a step, but for the other arms of a test, and its new variables
  abbrev pub front : Names → ℕ → S → S
  front N n (let_step x ps t o) = let_step x ps t (expand_op types N n t o)
  front N n (exception_step x i t) = exception_step x i t
  front N n (name_step x y) = name_step x y
  front N n (rec_step ps fs) = rec_step ps (expand_funs types (group_names types fs N) n fs)
  front N n (test_step a u c others) = test_step a u c t.no_arms
  front N n (counted_step k) = counted_step k

  abbrev pub front_news : Names → S → ℕ
  front_news N (let_step x ps t o) = op_news types N t o
  front_news N (exception_step x i t) = 0
  front_news N (name_step x y) = 0
  front_news N (rec_step ps fs) = funs_news types (group_names types fs N) fs
  front_news N (test_step a u c others) = 0
  front_news N (counted_step k) = 0

  -- a test with its other arms, and their new variables; g for another step
  abbrev pub filled : Names → ℕ → S → (g : S) → S
  filled N k (let_step x ps t o) g = g
  filled N k (exception_step x i t) g = g
  filled N k (name_step x y) g = g
  filled N k (rec_step ps fs) g = g
  filled N k (test_step a u c others) g = test_step a u c (expand_arms types N k others)
  filled N k (counted_step j) g = g

  abbrev pub back_news : Names → S → ℕ
  back_news N (let_step x ps t o) = 0
  back_news N (exception_step x i t) = 0
  back_news N (name_step x y) = 0
  back_news N (rec_step ps fs) = 0
  back_news N (test_step a u c others) = arms_news types N others
  back_news N (counted_step j) = 0

  -- steps in a row

  abbrev pub afters : Names → List S → Names
  afters N [] = N
  afters N (s ∷ ss) = afters (binds s N) ss

  -- how many names are in scope before each
  abbrev pub marks : Names → List S → List ℕ
  marks N [] = []
  marks N (s ∷ ss) = length N ∷ marks (binds s N) ss

  abbrev pub fronts : Names → ℕ → List S → List S
  fronts N n [] = []
  fronts N n (s ∷ ss) = front N n s ∷ fronts (binds s N) (n + front_news N s) ss

  abbrev pub fronts_news : Names → List S → ℕ
  fronts_news N [] = 0
  fronts_news N (s ∷ ss) = front_news N s + fronts_news (binds s N) ss

  abbrev pub backs_news : Names → List S → ℕ
  backs_news N [] = 0
  backs_news N (s ∷ ss) = backs_news (binds s N) ss + back_news N s

  -- whole, with new variables from n on, and from m on in the other arms
  abbrev pub wholes : Names → (n m : ℕ) → List S → List S
  wholes N n m [] = []
  wholes N n m (s ∷ ss) = filled N (m + backs_news (binds s N) ss) s (front N n s) ∷ wholes (binds s N) (n + front_news N s) m ss

  -- what there is when the steps are made but for the other arms of their tests, and are still in scope
  pub record IsFronted (N : Names) (n : ℕ) (names : Names) (seen : List ℕ) (made ss : List S) : Type 0 where
    pub names_are : names ≡ afters N ss
    pub seen_are : seen ≡ marks N ss
    pub made_are : made ≡ fronts N n ss

  -- arms and functions

  abbrev pub expand_group : Names → ℕ → t.Funs (mono types) → t.Funs (mono types)
  expand_group N n fs = expand_funs types (group_names types fs N) n fs

  abbrev pub group_news : Names → t.Funs (mono types) → ℕ
  group_news N fs = funs_news types (group_names types fs N) fs

  abbrev pub expand_arm : Names → ℕ → ArmTree (mono types) → ArmTree (mono types)
  expand_arm N n a = record { case = a.case; body = expand types (case_names types a.case N) n a.body }

  abbrev pub arm_news : Names → ArmTree (mono types) → ℕ
  arm_news N a = news types (case_names types a.case N) a.body

  abbrev pub expand_member : Names → ℕ → FunctionTree (mono types) → FunctionTree (mono types)
  expand_member N n f = record { variable = f.variable; type = f.type; function = expand_fun types N n f.function }

  module _ (strings : List (List ℕ)) where
    abbrev pub mono_arm : Arm → ArmTree (mono types)
    mono_arm = arm_of (reading types strings)

    abbrev pub arms_in : List Arm → t.Arms (mono types)
    arms_in as_ = arms_of (map mono_arm as_)

    -- a step that is found, or g
    abbrev pub found_or : Option Step → S → S
    found_or None g = g
    found_or (Some s) g = mono_step types strings s

    abbrev pub mono_function : Function → FunctionTree (mono types)
    mono_function = function_of (reading types strings)

    abbrev pub functions_in : List Function → t.Funs (mono types)
    functions_in fs = funs_of (map mono_function fs)

-- a step that is found, at a place
abbrev pub with_found : List Step → ℕ → Option Step → List Step
with_found ss i None = ss
with_found ss i (Some s) = slice_set ss i s
