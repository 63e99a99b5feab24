-- Unbound identifiers.
use Rattle.std.proofs.Common.{◌≡◌, ℕ, List, [], ◌∷◌, refl, Some, None}
use Rattle.mlc_base.specs.declared.place.Place.{Place}
use Rattle.sml_tree.specs.Terminal.{LongVid}
use Rattle.sml_tree.specs.Derived.{short, tuple}
use Rattle.sml_tree.specs.BareTree.{Exp, vid_exp, let_in, typed, fn, no_rules, con_pat, vid_pat, as_pat, con as con_ty, no_tys, Dec, val_dec, datatype_dec, replicate_dec, exception_dec, same_exn, local_dec, open_dec, type_dec, no_binds, bind}
use Rattle.core_rules.specs.Unbound.{Unbound, value_at, tycon_at, structure_at, unbound_in}
use Rattle.core_rules.specs.Initial.{initial_env}
use Rattle.core_rules.specs.Values.{nothing}
use Rattle.mlc_names.specs.StandardWords.{word_Prim, word_nil, word_plus, word_quot}
use Rattle.core_rules.specs.Initial.{word_Int}
use Rattle.core_rules.proofs.Words.{at, num, v, vid, pv, val, fun, clause, decs, one_rule, ap as call, op, word_A, word_E, word_a, word_f, word_g, word_id, word_l, word_t, word_x, word_y}

abbrev place : ℕ → Place
place n = record { file = 1; byte = n }

abbrev at_place : ℕ → ℕ → Exp
at_place n x = vid_exp (place n) (short (vid x))

abbrev lost : List Dec → List Unbound
lost ds = unbound_in initial_env (decs ds)

abbrev lost_value : ℕ → ℕ → Unbound
lost_value n x = value_at (place n) (short (vid x))

-- fun id x = x val f = id f: f isn't bound in its own right side; val rec f = fn x => f x: it is
own_right_side : lost (fun word_id (clause (pv word_x ∷ []) (v word_x) ∷ []) ∷ val (pv word_f) (call (v word_id) (at_place 1 word_f)) ∷ []) ≡ lost_value 1 word_f ∷ []
own_right_side = refl

recursive : lost (val_dec at at [] no_binds (bind at (pv word_f) (fn at (one_rule (pv word_x) (call (v word_f) (v word_x)) no_rules)) no_binds) ∷ []) ≡ []
recursive = refl

-- y x + g: in the order of the text, and `+` is bound
in_order : lost (val (pv word_a) (op (call (at_place 1 word_y) (at_place 2 word_x)) word_plus (at_place 3 word_g)) ∷ []) ≡ lost_value 1 word_y ∷ lost_value 2 word_x ∷ lost_value 3 word_g ∷ []
in_order = refl

-- where nothing is in scope `+` isn't either
no_basis : unbound_in nothing (decs (val (pv word_x) (at_place 1 word_plus) ∷ [])) ≡ lost_value 1 word_plus ∷ []
no_basis = refl

-- let val x = 1 in x end, and x after it; local val x = 1 in val y = x end and x after it
after_let : lost (val (pv word_a) (tuple at (let_in at (decs (val (pv word_x) (num 1) ∷ [])) (v word_x) ∷ at_place 2 word_x ∷ [])) ∷ []) ≡ lost_value 2 word_x ∷ []
after_let = refl

after_local : lost (local_dec at (decs (val (pv word_x) (num 1) ∷ [])) (decs (val (pv word_y) (v word_x) ∷ [])) ∷ val (pv word_a) (tuple at (v word_y ∷ at_place 2 word_x ∷ [])) ∷ []) ≡ lost_value 2 word_x ∷ []
after_local = refl

-- fn A x => x: a constructor that isn't bound, before its argument; fn A => A binds A
constructor_lost : lost (val (pv word_f) (fn at (one_rule (con_pat at (place 1) (short (vid word_A)) (pv word_x)) (v word_x) no_rules)) ∷ []) ≡ lost_value 1 word_A ∷ []
constructor_lost = refl

variable_bound : lost (val (pv word_f) (fn at (one_rule (pv word_A) (v word_A) no_rules)) ∷ []) ≡ []
variable_bound = refl

-- fn nil => nil binds nothing, and so fn nil => x doesn't bind x; fn x as nil => x does
matched_only : lost (val (pv word_f) (fn at (one_rule (as_pat at (vid word_x) None (pv word_nil)) (tuple at (v word_x ∷ v word_nil ∷ [])) no_rules)) ∷ []) ≡ []
matched_only = refl

-- datatype t = A of t: t is bound in it, and A after it
own_type : lost (datatype_dec at (record { place = at; tyvars = []; tycon = word_t; cons = record { place = at; vid = vid word_A; of_ty = Some (con_ty at no_tys at (record { qualifiers = []; id = word_t })) } ∷ [] } ∷ [])
    ∷ val (pv word_x) (v word_A) ∷ []) ≡ []
own_type = refl

-- (1 : t), datatype l = datatype t, exception E = A, open Prim: none of them is there
others_lost : lost (val (pv word_x) (typed at (num 1) (con_ty at no_tys (place 1) (record { qualifiers = []; id = word_t })))
    ∷ replicate_dec at word_l (record { place = place 2; long = record { qualifiers = []; id = word_t } })
    ∷ exception_dec at (same_exn at (vid word_E) (place 3) (short (vid word_A)) ∷ [])
    ∷ open_dec at (record { place = place 4; long = record { qualifiers = []; id = word_Prim } } ∷ []) ∷ [])
    ≡ tycon_at (place 1) (record { qualifiers = []; id = word_t }) ∷ tycon_at (place 2) (record { qualifiers = []; id = word_t })
    ∷ lost_value 3 word_A ∷ structure_at (place 4) (record { qualifiers = []; id = word_Prim }) ∷ []
others_lost = refl

-- Int.quot is there, Int.x isn't
abbrev of_int : ℕ → LongVid
of_int x = record { qualifiers = word_Int ∷ []; vid = vid x }

members : lost (val (pv word_x) (tuple at (vid_exp (place 1) (of_int word_quot) ∷ vid_exp (place 2) (of_int word_x) ∷ [])) ∷ []) ≡ value_at (place 2) (of_int word_x) ∷ []
members = refl

-- val f = fn Int.x => 1: a long identifier in a pattern is never bound by it
long_in_pattern : lost (val (pv word_f) (fn at (one_rule (vid_pat (place 1) (of_int word_x)) (num 1) no_rules)) ∷ []) ≡ value_at (place 1) (of_int word_x) ∷ []
long_in_pattern = refl

-- a type abbreviation has no constructors, so that its replication brings none:
-- local datatype t = A in type l = t end datatype f = datatype l val x = A
abbrev abbreviated : List Dec
abbreviated = local_dec at (decs (datatype_dec at (record { place = at; tyvars = []; tycon = word_t; cons = record { place = at; vid = vid word_A; of_ty = None } ∷ [] } ∷ []) ∷ []))
    (decs (type_dec at (record { place = at; tyvars = []; tycon = word_l; ty = con_ty at no_tys at (record { qualifiers = []; id = word_t }) } ∷ []) ∷ []))
    ∷ replicate_dec at word_f (record { place = at; long = record { qualifiers = []; id = word_l } }) ∷ val (pv word_x) (at_place 1 word_A) ∷ []

no_constructors : lost abbreviated ≡ lost_value 1 word_A ∷ []
no_constructors = refl
