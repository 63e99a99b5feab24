-- What a pattern does with a value. [Definition 6.7, rules 133 to 149] A value of a wrong kind, or one that was made at another type, is a mismatch, which
-- goes wrong.
use Rattle.std.specs.Prelude.{ℕ, Bool, true, false, List, Option, Some, None, option_and_then, nat_eq, slice_get, if◌then◌else◌}
use Rattle.mlc_runs.specs.Run.{World, Answer, fail}
use Rattle.mlc_prims.specs.LitOf.{Literal}
use Rattle.mlc_prims.specs.Table.{literal_eq}
use Rattle.ir_values.specs.Tags.{Tagging}
use Rattle.ir_values.specs.Values.{Value, record_of, con, con_of, exn, exn_of, address, cell, Fields, Env, literal_in, count}

-- the environment after a match
module _ (B C T : Type 0) where
  pub data Matched : Type 0 where
    matches : Env B C T → Matched
    no_match : Matched
    mismatch : Matched

module _ {B C T : Type 0} where
  abbrev pub then_match : Matched B C T → (Env B C T → Matched B C T) → Matched B C T
  then_match (matches env) go = go env
  then_match no_match go = no_match
  then_match mismatch go = mismatch

  abbrev pub after_match : {A : Type 0} → Matched B C T → World (Value B C T) → (Env B C T → World (Value B C T) → Answer (Value B C T) A)
      → (World (Value B C T) → Answer (Value B C T) A) → Answer (Value B C T) A
  after_match (matches env) w go otherwise = go env w
  after_match no_match w go otherwise = otherwise w
  after_match mismatch w go otherwise = fail w

  abbrev pub where_same : Option Bool → Matched B C T → Matched B C T
  where_same None m = mismatch
  where_same (Some true) m = m
  where_same (Some false) m = no_match

  abbrev pub on_found : Option (Value B C T) → (Value B C T → Matched B C T) → Matched B C T
  on_found None go = mismatch
  on_found (Some v) go = go v

  abbrev pub against_literal : Literal → Value B C T → Matched B C T → Matched B C T
  against_literal l v m = where_same (option_and_then (literal_eq l) (literal_in v)) m

  -- an exception name without an argument, and with one
  abbrev pub against_exn : Option (Value B C T) → Value B C T → Matched B C T → Matched B C T
  against_exn (Some (exn g i)) (exn h j) m = if nat_eq i j then m else no_match
  against_exn (Some (exn g i)) (exn_of h j v) m = if nat_eq i j then mismatch else no_match
  against_exn _ v m = mismatch

module _ (K : Tagging) {B C : Type 0} where
  -- taken apart at g what was made at h
  abbrev pub match_at : K.Tag → K.Tag → Matched B C K.Tag → Matched B C K.Tag
  match_at g h m = if K.same g h then m else mismatch

  abbrev pub under_exn : K.Tag → Option (Value B C K.Tag) → Value B C K.Tag → (Value B C K.Tag → Matched B C K.Tag) → Matched B C K.Tag
  under_exn g (Some (exn z i)) (exn h j) go = if nat_eq i j then mismatch else no_match
  under_exn g (Some (exn z i)) (exn_of h j v) go = if nat_eq i j then match_at g h (go v) else no_match
  under_exn g _ v go = mismatch

  -- a constructor without an argument, and with one
  abbrev pub against_con : K.Tag → ℕ → Value B C K.Tag → Matched B C K.Tag → Matched B C K.Tag
  against_con g c (con h d) m = match_at g h (if nat_eq c d then m else no_match)
  against_con g c (con_of h d v) m = match_at g h (if nat_eq c d then mismatch else no_match)
  against_con g c v m = mismatch

  abbrev pub under_con : K.Tag → ℕ → Value B C K.Tag → (Value B C K.Tag → Matched B C K.Tag) → Matched B C K.Tag
  under_con g c (con h d) go = match_at g h (if nat_eq c d then mismatch else no_match)
  under_con g c (con_of h d v) go = match_at g h (if nat_eq c d then go v else no_match)
  under_con g c v go = mismatch

  -- a record with so many fields, where a number is given
  abbrev pub of_size : Option ℕ → ℕ → Matched B C K.Tag → Matched B C K.Tag
  of_size None n m = m
  of_size (Some k) n m = if nat_eq k n then m else mismatch

  abbrev pub under_record : K.Tag → Option ℕ → Value B C K.Tag → (Fields B C K.Tag → Matched B C K.Tag) → Matched B C K.Tag
  under_record g size (record_of h fs) go = match_at g h (of_size size (count fs) (go fs))
  under_record g size v go = mismatch

  -- what a reference holds
  abbrev pub under_cell : K.Tag → Option (Value B C K.Tag) → (Value B C K.Tag → Matched B C K.Tag) → Matched B C K.Tag
  under_cell g (Some (cell h v)) go = match_at g h (go v)
  under_cell g o go = mismatch

  abbrev pub under_ref : K.Tag → List (Value B C K.Tag) → Value B C K.Tag → (Value B C K.Tag → Matched B C K.Tag) → Matched B C K.Tag
  under_ref g store (address a) go = under_cell g (slice_get store a) go
  under_ref g store v go = mismatch
