-- Worked examples: the bare trees of trees that were read, and their depths.
use Rattle.std.proofs.Common.{◌≡◌, ℕ, [], ◌∷◌, refl, true, false, Some, None}
use Rattle.std.specs.Prelude.{pos}
use Rattle.mlc_names.specs.declared.label.Label.TheVariants as label
use Rattle.sml_tree.specs.declared.ident.Vid.TheVariants.{Named, Fresh}
use Rattle.sml_tree.specs.declared.ident.BuiltIn.TheVariants.{True, False}
use Rattle.sml_tree.specs.Terminal.{int}
use Rattle.sml_tree.specs.BareTree
use Rattle.sml_tree.specs.Derived.{short}
use Rattle.sml_tree.specs.Depth.{depth}
use Rattle.sml_tree.specs.Bare.{at, bare_exp, bare_decs}
use Rattle.sml_tree.proofs.Examples

abbrev one : ℕ → BareTree.Exp
one p = BareTree.constant_exp (at 0 p) (int (pos 1))

abbrev variable : ℕ → ℕ → BareTree.Exp
variable p x = BareTree.vid_exp (at 0 p) (short (Named x))

abbrev pair : ℕ → BareTree.Exp → BareTree.Exp → BareTree.Exp
pair p a b = BareTree.fields_exp (at 0 p) (BareTree.exp_field (label.Number 1) a (BareTree.exp_field (label.Number 2) b BareTree.no_exp_fields))

-- infixr 5 ++: 1 ++ 2 ++ 3 is 1 ++ (2 ++ 3), and the inner application begins at the byte 5
bare_chain : bare_exp 0 Examples.tree_one_level_chain
    ≡ BareTree.app (at 0 0) (variable 2 Examples.plusplus) (pair 0 (one 0)
    (BareTree.app (at 0 5) (variable 7 Examples.plusplus) (pair 5 (BareTree.constant_exp (at 0 5) (int (pos 2))) (BareTree.constant_exp (at 0 10) (int (pos 3))))))
bare_chain = refl

-- a chain of one precedence counts once
depth_chain : depth Examples.tree_one_level_chain ≡ 2
depth_chain = refl

-- f x y is (f x) y; both applications begin at f, and count once
bare_applied : bare_exp 0 Examples.tree_applied_twice
    ≡ BareTree.app (at 0 0) (BareTree.app (at 0 0) (variable 0 Examples.name_f) (variable 2 Examples.name_x)) (variable 4 Examples.name_y)
bare_applied = refl

depth_applied : depth Examples.tree_applied_twice ≡ 2
depth_applied = refl

-- op + (1, 2) is what 1 + 2 is, but for places
bare_op : bare_exp 0 Examples.tree_op_plus
    ≡ BareTree.app (at 0 0) (variable 3 Examples.plus) (pair 5 (BareTree.constant_exp (at 0 6) (int (pos 1))) (BareTree.constant_exp (at 0 9) (int (pos 2))))
bare_op = refl

-- brackets are gone
bare_bracket : bare_exp 0 Examples.tree_op_plus_alone ≡ variable 4 Examples.plus
bare_bracket = refl

-- #1 x is (fn {1 = v, ...} => v) x
bare_select : bare_exp 0 Examples.tree_select_first
    ≡ BareTree.app (at 0 0)
    (BareTree.fn (at 0 0) (BareTree.rule (at 0 0)
    (BareTree.fields_pat (at 0 0) (BareTree.pat_field (label.Number 1) (BareTree.vid_pat (at 0 0) (short (Fresh 0))) BareTree.no_pat_fields) true)
    (BareTree.vid_exp (at 0 0) (short (Fresh 0))) BareTree.no_rules))
    (variable 3 Examples.name_x)
bare_select = refl

-- if a then b else c : t is (fn true => b | false => c : t) a
bare_if : bare_exp 0 Examples.tree_if_typed
    ≡ BareTree.app (at 0 0)
    (BareTree.fn (at 0 0)
    (BareTree.rule (at 0 0) (BareTree.built_pat (at 0 0) True) (variable 10 Examples.name_b)
    (BareTree.rule (at 0 0) (BareTree.built_pat (at 0 0) False)
    (BareTree.typed (at 0 17) (variable 17 Examples.name_c)
    (BareTree.con (at 0 21) BareTree.no_tys (at 0 21) (record { qualifiers = []; id = Examples.name_t })))
    BareTree.no_rules)))
    (variable 3 Examples.name_a)
bare_if = refl

-- fun (x ++ y) z = x is val rec ++ = fn v1 => fn v2 => case (v1, v2) of ((x, y), z) => x
bare_bracket_clause : bare_decs 0 Examples.tree_bracket_clause
    ≡ BareTree.dec (BareTree.val_dec (at 0 0) (at 0 0) [] BareTree.no_binds
    (BareTree.bind (at 0 4) (BareTree.vid_pat (at 0 7) (short (Named Examples.plusplus)))
    (BareTree.fn (at 0 4) (BareTree.rule (at 0 4) (BareTree.vid_pat (at 0 4) (short (Fresh 1)))
    (BareTree.fn (at 0 4) (BareTree.rule (at 0 4) (BareTree.vid_pat (at 0 4) (short (Fresh 2)))
    (BareTree.app (at 0 4)
    (BareTree.fn (at 0 4) (BareTree.rule (at 0 4)
    (BareTree.fields_pat (at 0 4)
    (BareTree.pat_field (label.Number 1)
    (BareTree.fields_pat (at 0 4)
    (BareTree.pat_field (label.Number 1) (BareTree.vid_pat (at 0 5) (short (Named Examples.name_x)))
    (BareTree.pat_field (label.Number 2) (BareTree.vid_pat (at 0 10) (short (Named Examples.name_y))) BareTree.no_pat_fields)) false)
    (BareTree.pat_field (label.Number 2) (BareTree.vid_pat (at 0 13) (short (Named Examples.name_z))) BareTree.no_pat_fields)) false)
    (variable 17 Examples.name_x) BareTree.no_rules))
    (pair 4 (BareTree.vid_exp (at 0 4) (short (Fresh 1))) (BareTree.vid_exp (at 0 4) (short (Fresh 2)))))
    BareTree.no_rules))
    BareTree.no_rules))
    BareTree.no_binds)) BareTree.no_decs
bare_bracket_clause = refl

-- the pattern op :: (x, y)
bare_op_cons : bare_exp 0 Examples.tree_op_cons
    ≡ BareTree.fn (at 0 0)
    (BareTree.rule (at 0 3)
    (BareTree.con_pat (at 0 3) (at 0 6) (short (Named Examples.cons_name))
    (BareTree.fields_pat (at 0 9)
    (BareTree.pat_field (label.Number 1) (BareTree.vid_pat (at 0 10) (short (Named Examples.name_x)))
    (BareTree.pat_field (label.Number 2) (BareTree.vid_pat (at 0 13) (short (Named Examples.name_y))) BareTree.no_pat_fields)) false))
    (variable 19 Examples.name_x)
    BareTree.no_rules)
bare_op_cons = refl

-- fun ('a) op ++ x = x is val ('a) rec ++ = fn v1 => case v1 of x => x
bare_op_name : bare_decs 0 Examples.tree_op_name
    ≡ BareTree.dec (BareTree.val_dec (at 0 0) (at 0 4) (record { name = Examples.name_a; equality = false } ∷ []) BareTree.no_binds
    (BareTree.bind (at 0 9) (BareTree.vid_pat (at 0 12) (short (Named Examples.plusplus)))
    (BareTree.fn (at 0 9) (BareTree.rule (at 0 9) (BareTree.vid_pat (at 0 9) (short (Fresh 1)))
    (BareTree.app (at 0 9)
    (BareTree.fn (at 0 9) (BareTree.rule (at 0 9) (BareTree.vid_pat (at 0 15) (short (Named Examples.name_x))) (variable 19 Examples.name_x) BareTree.no_rules))
    (BareTree.vid_exp (at 0 9) (short (Fresh 1))))
    BareTree.no_rules))
    BareTree.no_binds)) BareTree.no_decs
bare_op_name = refl

-- {a, b : int as 3} is {a = a, b = b : int as 3}
bare_puns : bare_decs 0 Examples.tree_puns
    ≡ BareTree.dec (BareTree.val_dec (at 0 0) (at 0 0) []
    (BareTree.bind (at 0 4)
    (BareTree.fields_pat (at 0 4)
    (BareTree.pat_field (label.Word Examples.name_a) (BareTree.vid_pat (at 0 5) (short (Named Examples.name_a)))
    (BareTree.pat_field (label.Word Examples.name_b)
    (BareTree.as_pat (at 0 8) (Named Examples.name_b) (Some (BareTree.con (at 0 12) BareTree.no_tys (at 0 12) (record { qualifiers = []; id = Examples.name_int })))
    (BareTree.constant_pat (at 0 19) (int (pos 3)))) BareTree.no_pat_fields)) false)
    (variable 24 Examples.name_x) BareTree.no_binds)
    BareTree.no_binds) BareTree.no_decs
bare_puns = refl

-- val rec f = .. and g = ..: both are recursive
bare_rec : bare_decs 0 Examples.tree_rec_and
    ≡ BareTree.dec (BareTree.val_dec (at 0 0) (at 0 0) [] BareTree.no_binds
    (BareTree.bind (at 0 8) (BareTree.vid_pat (at 0 8) (short (Named Examples.name_f)))
    (BareTree.fn (at 0 12) (BareTree.rule (at 0 15) (BareTree.vid_pat (at 0 15) (short (Named Examples.name_x))) (variable 20 Examples.name_x) BareTree.no_rules))
    (BareTree.bind (at 0 26) (BareTree.vid_pat (at 0 26) (short (Named Examples.name_g)))
    (BareTree.fn (at 0 30) (BareTree.rule (at 0 33) (BareTree.vid_pat (at 0 33) (short (Named Examples.name_y))) (variable 38 Examples.name_y) BareTree.no_rules))
    BareTree.no_binds))) BareTree.no_decs
bare_rec = refl

-- datatype 'a t = A | B of 'a u withtype 'a u = 'a * 'a t is datatype 'a t = A | B of 'a * 'a t; type 'a u = 'a * 'a t.
-- The argument 'a is that of the occurrence, at the byte 25.
abbrev right_side : ℕ → ℕ → BareTree.Ty
right_side p q = BareTree.fields (at 0 46)
    (BareTree.ty_field (label.Number 1) (BareTree.var (at 0 p) (record { name = Examples.name_a; equality = false }))
    (BareTree.ty_field (label.Number 2)
    (BareTree.con (at 0 51) (BareTree.ty (BareTree.var (at 0 q) (record { name = Examples.name_a; equality = false })) BareTree.no_tys) (at 0 54) (record { qualifiers = []; id = Examples.name_t }))
    BareTree.no_ty_fields))

bare_withtype : bare_decs 0 Examples.tree_withtype_example
    ≡ BareTree.dec (BareTree.sequence_dec (at 0 0)
    (BareTree.dec (BareTree.datatype_dec (at 0 0)
    (record {
      place = at 0 9;
      tyvars = record { name = Examples.name_a; equality = false } ∷ [];
      tycon = Examples.name_t;
      cons = record { place = at 0 16; vid = Named Examples.name_A; of_ty = None } ∷ record { place = at 0 20; vid = Named Examples.name_B; of_ty = Some (right_side 25 25) } ∷ [];
    } ∷ []))
    (BareTree.dec (BareTree.type_dec (at 0 0)
    (record { place = at 0 39; tyvars = record { name = Examples.name_a; equality = false } ∷ []; tycon = Examples.name_u; ty = right_side 46 51 } ∷ []))
    BareTree.no_decs)))
    BareTree.no_decs
bare_withtype = refl
