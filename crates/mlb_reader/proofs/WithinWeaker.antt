-- What is asked of places and names in a project follows from what is asked more strictly.
use Rattle.std.proofs.Common.{ℕ, List, [], ◌∷◌}
use Rattle.std.specs.List.{AllByRecursion}
use Rattle.mlc_base.specs.declared.place.Place.{Place}
use Rattle.sml_tree.specs.declared.ident.Vid.{Vid}
use Rattle.sml_tree.specs.declared.ident.Vid.TheVariants.{Named, Equals, Fresh}
use Rattle.sml_tree.specs.BareTree.{Pat, wild_pat, constant_pat, vid_pat, built_pat, fields_pat, con_pat, built_con_pat, typed_pat, as_pat, PatFields, no_pat_fields, pat_field, TypeBind, ConBind, DataBind, ExBind, new_exn, same_exn, LongIdAt, Exp, constant_exp, vid_exp, built_exp, fields_exp, let_in, app, typed, handle, raise, fn, ExpFields, no_exp_fields, exp_field, Rules, no_rules, rule, Decs, no_decs, dec, Dec, val_dec, type_dec, datatype_dec, replicate_dec, exception_dec, local_dec, open_dec, sequence_dec, Binds, no_binds, bind}
use Rattle.mlb_reader.specs.Parts.{Part, standard_basis, source, cut}
use Rattle.mlb_reader.specs.Within.{VidIn, PatIn, PatFieldsIn, TypeBindIn, ConIn, DataBindIn, ExBindIn, LongIn, ExpIn, ExpFieldsIn, RulesIn, DecsIn, DecIn, BindsIn, PartIn, PartsIn}

each-weaker : {A : Type 0} (R S : A → Type 0) → ((a : A) → R a → S a) → (xs : List A) → AllByRecursion R xs → AllByRecursion S xs
each-weaker R S w [] h = tt
each-weaker R S w (x ∷ xs) h = (w x h.0, each-weaker R S w xs h.1)

module _ (P Q : Place → Type 0) (N M : ℕ → Type 0) (w : (p : Place) → P p → Q p) (v : (n : ℕ) → N n → M n) where
  vid-weaker : (x : Vid) → VidIn P N x → VidIn Q M x
  vid-weaker (Named x) h = v x h
  vid-weaker Equals h = tt
  vid-weaker (Fresh k) h = tt

  mutual
    pat-weaker : (a : Pat) → PatIn P N a → PatIn Q M a
    pat-weaker (wild_pat p) h = w p h
    pat-weaker (constant_pat p c) h = w p h
    pat-weaker (vid_pat p x) h = (w p h.0, vid-weaker x.vid h.1)
    pat-weaker (built_pat p b) h = w p h
    pat-weaker (fields_pat p fs b) h = (w p h.0, pat_fields-weaker fs h.1)
    pat-weaker (con_pat p q x a) h = (w p h.0, w q h.1, vid-weaker x.vid h.2, pat-weaker a h.3)
    pat-weaker (built_con_pat p b a) h = (w p h.0, pat-weaker a h.1)
    pat-weaker (typed_pat p a t) h = (w p h.0, pat-weaker a h.1)
    pat-weaker (as_pat p x t a) h = (w p h.0, vid-weaker x h.1, pat-weaker a h.2)

    pat_fields-weaker : (fs : PatFields) → PatFieldsIn P N fs → PatFieldsIn Q M fs
    pat_fields-weaker no_pat_fields h = tt
    pat_fields-weaker (pat_field l a fs) h = (pat-weaker a h.0, pat_fields-weaker fs h.1)

  type_bind-weaker : (b : TypeBind) → TypeBindIn P N b → TypeBindIn Q M b
  type_bind-weaker b h = w b.place h

  con-weaker : (c : ConBind) → ConIn P N c → ConIn Q M c
  con-weaker c h = (w c.place h.0, vid-weaker c.vid h.1)

  data_bind-weaker : (b : DataBind) → DataBindIn P N b → DataBindIn Q M b
  data_bind-weaker b h = (w b.place h.0, each-weaker (ConIn P N) (ConIn Q M) con-weaker b.cons h.1)

  ex_bind-weaker : (b : ExBind) → ExBindIn P N b → ExBindIn Q M b
  ex_bind-weaker (new_exn p x t) h = (w p h.0, vid-weaker x h.1)
  ex_bind-weaker (same_exn p x q y) h = (w p h.0, vid-weaker x h.1, w q h.2, vid-weaker y.vid h.3)

  long-weaker : (x : LongIdAt) → LongIn P N x → LongIn Q M x
  long-weaker x h = w x.place h

  mutual
    exp-weaker : (e : Exp) → ExpIn P N e → ExpIn Q M e
    exp-weaker (constant_exp p c) h = w p h
    exp-weaker (vid_exp p x) h = (w p h.0, vid-weaker x.vid h.1)
    exp-weaker (built_exp p b) h = w p h
    exp-weaker (fields_exp p fs) h = (w p h.0, exp_fields-weaker fs h.1)
    exp-weaker (let_in p ds e) h = (w p h.0, decs-weaker ds h.1, exp-weaker e h.2)
    exp-weaker (app p f a) h = (w p h.0, exp-weaker f h.1, exp-weaker a h.2)
    exp-weaker (typed p e t) h = (w p h.0, exp-weaker e h.1)
    exp-weaker (handle p e rs) h = (w p h.0, exp-weaker e h.1, rules-weaker rs h.2)
    exp-weaker (raise p e) h = (w p h.0, exp-weaker e h.1)
    exp-weaker (fn p rs) h = (w p h.0, rules-weaker rs h.1)

    exp_fields-weaker : (fs : ExpFields) → ExpFieldsIn P N fs → ExpFieldsIn Q M fs
    exp_fields-weaker no_exp_fields h = tt
    exp_fields-weaker (exp_field l e fs) h = (exp-weaker e h.0, exp_fields-weaker fs h.1)

    rules-weaker : (rs : Rules) → RulesIn P N rs → RulesIn Q M rs
    rules-weaker no_rules h = tt
    rules-weaker (rule p a e rs) h = (w p h.0, pat-weaker a h.1, exp-weaker e h.2, rules-weaker rs h.3)

    decs-weaker : (ds : Decs) → DecsIn P N ds → DecsIn Q M ds
    decs-weaker no_decs h = tt
    decs-weaker (dec d ds) h = (dec-weaker d h.0, decs-weaker ds h.1)

    dec-weaker : (d : Dec) → DecIn P N d → DecIn Q M d
    dec-weaker (val_dec p q as_ bs cs) h = (w p h.0, w q h.1, binds-weaker bs h.2, binds-weaker cs h.3)
    dec-weaker (type_dec p bs) h = (w p h.0, each-weaker (TypeBindIn P N) (TypeBindIn Q M) type_bind-weaker bs h.1)
    dec-weaker (datatype_dec p bs) h = (w p h.0, each-weaker (DataBindIn P N) (DataBindIn Q M) data_bind-weaker bs h.1)
    dec-weaker (replicate_dec p x c) h = (w p h.0, long-weaker c h.1)
    dec-weaker (exception_dec p bs) h = (w p h.0, each-weaker (ExBindIn P N) (ExBindIn Q M) ex_bind-weaker bs h.1)
    dec-weaker (local_dec p ds es) h = (w p h.0, decs-weaker ds h.1, decs-weaker es h.2)
    dec-weaker (open_dec p xs) h = (w p h.0, each-weaker (LongIn P N) (LongIn Q M) long-weaker xs h.1)
    dec-weaker (sequence_dec p ds) h = (w p h.0, decs-weaker ds h.1)

    binds-weaker : (bs : Binds) → BindsIn P N bs → BindsIn Q M bs
    binds-weaker no_binds h = tt
    binds-weaker (bind p a e bs) h = (w p h.0, pat-weaker a h.1, exp-weaker e h.2, binds-weaker bs h.3)

  part-weaker : (x : Part) → PartIn P N x → PartIn Q M x
  part-weaker standard_basis h = tt
  part-weaker (source ds) h = decs-weaker ds h
  part-weaker (cut ds p) h = (decs-weaker ds h.0, w p h.1)

  pub parts-weaker : (xs : List Part) → PartsIn P N xs → PartsIn Q M xs
  parts-weaker xs h = each-weaker (PartIn P N) (PartIn Q M) part-weaker xs h
