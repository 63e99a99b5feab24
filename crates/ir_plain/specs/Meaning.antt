-- What a program does. Types are ignored, but for what values keep of them.
use Rattle.std.specs.Prelude.{ℕ, zero, suc, List, [], ◌∷◌, Option, Some, None, option_and_then, slice_get, if◌then◌else◌}
use Rattle.ir_values.specs.of_mlc_runs.Outcome.{Outcome}
use Rattle.ir_values.specs.of_mlc_runs.Run.{World, Answer, gives, raises, stops, out_of_turns, start, then_do, or_handle, or_fail, fail, dereference, new_exception, outcome_of}
use Rattle.ir_values.specs.of_mlc_names.declared.label.Label.{Label}
use Rattle.mlc_base.specs.declared.place.Place.{Place}
use Rattle.ir_values.specs.Values.{Value, con, con_of, exn, exn_of, ref, primitive, record_of, closure, Fields, no_fields, field, Env, empty, bind, look_by, field_in, address_in, packet_name, value_of}
use Rattle.ir_values.specs.Match.{Matched, matches, after_match, against_literal, against_con, under_con, against_exn, under_exn, under_record}
use Rattle.ir_values.specs.Primitives.{marked, packet, perform, make_reference, content_of, raise_value}
use Rattle.ir_values.specs.Primitives as call
use Rattle.ir_plain.specs.Kind.{Kind}
use Rattle.ir_plain.specs.Tree.{Case, is_literal, is_con, is_con_of, is_exn, is_exn_of, is_record, Exception, fixed, held, Atoms, no_atoms, an_atom, Row, no_row, a_row, Exp, ret, let_in, exception_in, name_in, rec_in, switch, first, miss, counted, Arms, no_arms, arm, Op, use_of, const, con_alone, construct, ref_alone, refer, content, pack, make_record, select, prim_alone, prim, app, fn, block, handle, raise, raise_initial, Fun, last, more, Funs, no_funs, fun}

-- a function alone, or one of a group
pub data Code (F : Kind) : Type 0 where
  alone : Fun F → Code F
  one_of : Fun F → Funs F → Code F

abbrev pub V : Kind → Type 0
V F = Value F.Binder (Code F) F.tags.Tag

abbrev pub Scope : Kind → Type 0
Scope F = Env F.Binder (Code F) F.tags.Tag

abbrev pub Fits : Kind → Type 0
Fits F = Matched F.Binder (Code F) F.tags.Tag

abbrev pub Parts : Kind → Type 0
Parts F = Fields F.Binder (Code F) F.tags.Tag

abbrev pub Apply : Kind → Type 0
Apply F = Place → V F → V F → World (V F) → Answer (V F) (V F)

abbrev pub Go : Kind → Type 0
Go F = World (V F) → Answer (V F) (V F)

-- the tag of an exception's argument; one that has none keeps unit's
abbrev pub argument_tag : (F : Kind) → Option F.Type_of → F.tags.Tag
argument_tag F None = F.tags.of_unit
argument_tag F (Some t) = F.tag_of t

module _ {F : Kind} where
  abbrev pub look_up : F.Use → Scope F → Option (V F)
  look_up x env = look_by F.is_of x env

  abbrev pub in_front : Option (V F) → Option (List (V F)) → Option (List (V F))
  in_front (Some v) (Some vs) = Some (v ∷ vs)
  in_front (Some v) None = None
  in_front None vs = None

  abbrev pub look_all : Atoms F → Scope F → Option (List (V F))
  look_all no_atoms env = Some []
  look_all (an_atom a as_) env = in_front (look_up a env) (look_all as_ env)

  abbrev pub field_in_front : Label → Option (V F) → Option (Parts F) → Option (Parts F)
  field_in_front l (Some v) (Some fs) = Some (field l v fs)
  field_in_front l (Some v) None = None
  field_in_front l None fs = None

  abbrev pub look_row : Row F → Scope F → Option (Parts F)
  look_row no_row env = Some no_fields
  look_row (a_row l a row) env = field_in_front l (look_up a env) (look_row row env)

  -- the tag is that of what is switched on
  abbrev pub check : F.tags.Tag → Case F → V F → Scope F → Fits F
  check g (is_literal l) v env = against_literal l v (matches env)
  check g (is_con c) v env = against_con F.tags g c v (matches env)
  check g (is_con_of c x t) v env = under_con F.tags g c v (λ u. matches (bind x u env))
  check g (is_exn a) v env = against_exn (look_up a env) v (matches env)
  check g (is_exn_of a x t) v env = under_exn F.tags (F.tag_of t) (look_up a env) v (λ u. matches (bind x u env))
  check g (is_record size) v env = under_record F.tags g size v (λ fs. matches env)

  abbrev pub members_from : Funs F → Funs F → Scope F → Scope F
  members_from no_funs all env = env
  members_from (fun x t f fs) all env = bind x (closure (one_of f all) env) (members_from fs all env)

  abbrev pub members : Funs F → Scope F → Scope F
  members fs env = members_from fs fs env

  -- goes on with an exception's name
  abbrev pub on_name : Option (V F) → World (V F) → (V F → Answer (V F) (V F)) → Answer (V F) (V F)
  on_name (Some (exn g n)) w go = go (exn g n)
  on_name o w go = fail w

  abbrev pub exception_of : Exception F → Scope F → Option (V F)
  exception_of (fixed n) env = Some (packet F.tags n)
  exception_of (held x) env = look_up x env

  -- a packet of the exception with this name
  abbrev pub pack_value : Option Place → F.tags.Tag → V F → World (V F) → V F → Answer (V F) (V F)
  pack_value m g v w (exn h n) = marked m w (gives (exn_of g n v))
  pack_value m g v w u = fail w

  abbrev pub select_from : F.tags.Tag → Label → V F → World (V F) → Answer (V F) (V F)
  select_from g l (record_of h fs) w = if F.tags.same g h then or_fail (field_in l fs) w (λ v. gives v w) else fail w
  select_from g l v w = fail w

  -- what a reference holds
  abbrev pub read_reference : F.tags.Tag → V F → World (V F) → Answer (V F) (V F)
  read_reference g v w = or_fail (address_in v) w (λ a. dereference a w (content_of F.tags g w))

  -- `other` is what is done where the expression misses
  abbrev mutual
    pub eval : Apply F → Exp F → Scope F → World (V F) → Go F → Answer (V F) (V F)
    eval call (ret a) env w other = or_fail (look_up a env) w (λ v. gives v w)
    eval call (let_in x ps t o e) env w other = then_do (eval_op call o env w) (λ v w. eval call e (bind x v env) w other)
    eval call (exception_in x identifier t e) env w other = new_exception identifier w (λ n w. eval call e (bind x (exn (argument_tag F t) n) env) w other)
    eval call (name_in x y e) env w other = on_name (exception_of y env) w (λ v. eval call e (bind x v env) w other)
    eval call (rec_in ps fs e) env w other = eval call e (members fs env) w other
    eval call (switch a t arms) env w other = or_fail (look_up a env) w (λ v. eval_arms call (F.tag_of t) arms v env w other)
    eval call (first e d) env w other = eval call e env w (λ w. eval call d env w other)
    eval call miss env w other = other w
    eval call (counted n e) env w other = eval call e env w other

    -- the first arm that fits
    pub eval_arms : Apply F → F.tags.Tag → Arms F → V F → Scope F → World (V F) → Go F → Answer (V F) (V F)
    eval_arms call g no_arms v env w other = other w
    eval_arms call g (arm c e arms) v env w other =
        after_match (check g c v env) w (λ env' w. eval call e env' w other) (λ w. eval_arms call g arms v env w other)

    -- no operation misses
    pub eval_op : Apply F → Op F → Scope F → World (V F) → Answer (V F) (V F)
    eval_op call (use_of x) env w = or_fail (look_up x env) w (λ v. gives v w)
    eval_op call (const l) env w = gives (value_of F.tags l) w
    eval_op call (con_alone c t) env w = gives (con (F.tag_of t) c) w
    eval_op call (construct m c t a) env w = or_fail (look_up a env) w (λ v. marked m w (gives (con_of (F.tag_of t) c v)))
    eval_op call (ref_alone t) env w = gives (ref (F.tag_of t)) w
    eval_op call (refer m t a) env w = or_fail (look_up a env) w (λ v. marked m w (make_reference F.tags (F.tag_of t) v))
    eval_op call (content t a) env w = or_fail (look_up a env) w (λ v. read_reference (F.tag_of t) v w)
    eval_op call (pack m t x a) env w = or_fail (look_up a env) w (λ v. or_fail (look_up x env) w (pack_value m (F.tag_of t) v w))
    eval_op call (make_record t row) env w = or_fail (look_row row env) w (λ fs. gives (record_of (F.tag_of t) fs) w)
    eval_op call (select t l a) env w = or_fail (look_up a env) w (λ v. select_from (F.tag_of t) l v w)
    eval_op call (prim_alone p t) env w = gives (primitive (F.tag_of t) p) w
    eval_op call (prim m p t as_) env w = or_fail (look_all as_ env) w (λ vs. marked m w (perform F.tags (F.tag_of t) p vs))
    eval_op call (app place f a) env w = or_fail (look_up f env) w (λ g. or_fail (look_up a env) w (λ v. call place g v w))
    eval_op call (fn f) env w = gives (closure (alone f) env) w
    eval_op call (block e) env w = eval call e env w fail
    eval_op call (handle e x h) env w = or_handle (eval call e env w fail) (λ p w. eval call h (bind x p env) w fail)
    eval_op call (raise a) env w = or_fail (look_up a env) w (λ v. raise_value v w)
    eval_op call (raise_initial i) env w = raises (packet F.tags i) w

  -- a function is given one argument
  abbrev pub run_fun : Apply F → Fun F → Scope F → V F → World (V F) → Answer (V F) (V F)
  run_fun call (last x t e) env v w = eval call e (bind x v env) w fail
  run_fun call (more x t f) env v w = gives (closure (alone f) (bind x v env)) w

  abbrev pub body : (Fun F → Scope F → V F → World (V F) → Answer (V F) (V F)) → Code F → Scope F → V F → World (V F) → Answer (V F) (V F)
  body go (alone f) env v w = go f env v w
  body go (one_of f fs) env v w = go f (members fs env) v w

  abbrev pub enter : (Fun F → Scope F → V F → World (V F) → Answer (V F) (V F)) → Apply F
  enter go = call.enter F.tags (body go)

  -- calls nested at most k deep, which is no limit where k is at least the turns
  abbrev pub apply : ℕ → Apply F
  apply zero = enter (λ f env v w. stops out_of_turns w)
  apply (suc k) = enter (run_fun (apply k))

  abbrev pub identifier_of : V F → World (V F) → Option ℕ
  identifier_of v w = option_and_then (slice_get w.exceptions) (packet_name v)

  -- from the first turn on: the exceptions of the initial basis are there, with their identifiers
  abbrev pub run_at : ℕ → List ℕ → Exp F → ℕ → Outcome
  run_at k initial e m = outcome_of identifier_of (eval (apply k) e empty (record (start m) { exceptions = initial }) fail)

  abbrev pub run : List ℕ → Exp F → ℕ → Outcome
  run initial e m = run_at m initial e m
