-- Worked examples: a derivation of the tree that each text has. The numbers are the places of first bytes in the text above.
use Rattle.std.proofs.Common.{ℕ, List, [], ◌∷◌, refl, arith, true, false, Some, None}
use Rattle.std.specs.Prelude.{pos}
use Rattle.mlc_names.specs.declared.label.Label.TheVariants as label
use Rattle.mlc_names.specs.declared.token.Reserved.TheVariants as res
use Rattle.sml_tree.specs.declared.ident.Vid.TheVariants.{Named, Equals}
use Rattle.sml_tree.specs.Fixity.{Fixity}
use Rattle.sml_tree.specs.Derived.{short}
use Rattle.sml_tree.specs.Terminal.{LongVid, int, Terminal, reserved, number, alpha, symbol, star, type_var, is_number, alpha_vid, symbol_vid, any_named, any_short, alpha_tycon, symbol_tycon, short_tycon, number_label, word_label}
use Rattle.sml_tree.specs.ReadTree.{Placed, var_ty, con_ty, product_ty, arrow_ty, no_tys, ty, constant_pat, vid_pat, record_pat, tuple_pat, con_pat, list_pat, paren_pat, chain_pat, no_pats, pat, no_pat_fields, pat_field, labelled, punned, punned_as, last_pat_part, and_also, or_else, infixed, prefix_head, infix_head, bracket_head, Exp, constant_exp, vid_exp, selector, tuple_exp, sequence, paren_exp, let_in, app, chain, typed, handle, raise, if_then, while, case, fn, no_exps, exp, last_part, part, last_rule, rule, Decs, no_decs, dec, val_dec, fun_dec, type_dec, withtype_dec, local_dec, fixity_dec, last_bind, bind, rec_binds, last_fun, last_clause, clause}
use Rattle.sml_tree.specs.Grammar.{of_tyvar, of_tycon, of_tycon_1, of_product, of_arrow, last_star, last_arrow, more_arrows, without_ty, with_ty, plain_vid, op_vid, plain_long, op_long, of_pat_constant, of_pat_vid, of_pat_row, of_tuple_pat, last_pat, of_con_pat, of_nil_pat, of_paren_pat, row_dots, last_row, more_row, of_labelled, of_punned, of_punned_as, of_atpat, of_chain_pat, of_last_pat_part, no_atpats, more_atpats, of_prefix_head, of_infix_head, of_bracket_head, no_tyvars, one_tyvar, at_tyvar, at_bracket, at_declaration, at_sequence, last_tyvar, tyvars_in_brackets, type_bind, last_type_bind, without_of, with_of, last_con, more_cons, data_bind, last_data_bind, last_vid, no_precedence, a_precedence, is_andalso, is_orelse, is_infix, is_infix_equals, of_constant, of_vid, of_selector, of_tuple, of_sequence, of_paren, of_let, last_exp, last_of_sequence, no_atoms, more_atoms, Reads, of_atom, of_app, of_chain, of_typed, of_handle, of_raise, of_if, of_while, of_case, of_fn, of_last_part, of_part, of_last_rule, of_rule, Declares, nothing_more, of_semicolon, of_dec, of_val, of_fun, of_type, of_withtype, of_local, of_infix, of_last_bind, of_bind, of_rec, of_last_fun, of_last_clause, of_clause}

-- an identifier and its place
abbrev pub name_at : ℕ → ℕ → Placed LongVid
name_at p x = record { place = p; it = short (Named x) }

abbrev pub plusplus : ℕ
plusplus = 1

abbrev pub name_x : ℕ
name_x = 2

abbrev pub name_y : ℕ
name_y = 3

abbrev pub name_z : ℕ
name_z = 4

abbrev pub name_int : ℕ
name_int = 5

abbrev pub name_e : ℕ
name_e = 6

abbrev pub name_m : ℕ
name_m = 7

abbrev pub name_a : ℕ
name_a = 8

abbrev pub name_b : ℕ
name_b = 9

abbrev pub name_c : ℕ
name_c = 10

abbrev pub name_t : ℕ
name_t = 11

abbrev pub name_f : ℕ
name_f = 12

abbrev pub name_E : ℕ
name_E = 13

abbrev pub name_F : ℕ
name_F = 14

abbrev pub plus : ℕ
plus = 15

abbrev pub name_g : ℕ
name_g = 16

abbrev pub name_r : ℕ
name_r = 17

abbrev pub cons_name : ℕ
cons_name = 18

abbrev pub name_list : ℕ
name_list = 19

abbrev pub times : ℕ
times = 20

abbrev pub name_A : ℕ
name_A = 21

abbrev pub name_B : ℕ
name_B = 22

abbrev pub name_u : ℕ
name_u = 23

abbrev pub name_w : ℕ
name_w = 24

abbrev pub no_fixities : Fixity
no_fixities = []

abbrev pub with_plus : Fixity
with_plus = record { vid = Named plus; status = Some (record { precedence = 6; right = false }) } ∷ []

abbrev pub with_plusplus : Fixity
with_plusplus = record { vid = Named plusplus; status = Some (record { precedence = 5; right = true }) } ∷ []

abbrev pub with_all : Fixity
with_all = record { vid = Named plus; status = Some (record { precedence = 6; right = false }) } ∷ record { vid = Named cons_name; status = Some (record { precedence = 5; right = true }) }
    ∷ record { vid = Equals; status = Some (record { precedence = 4; right = false }) } ∷ []

-- 1 ++ 2 ++ 3
abbrev pub text_one_level_chain : List Terminal
text_one_level_chain = number 0 (pos 1) true ∷ symbol 2 plusplus ∷ number 5 (pos 2) true ∷ symbol 7 plusplus ∷ number 10 (pos 3) true ∷ []

abbrev pub tree_one_level_chain : Exp
tree_one_level_chain = chain true (constant_exp 0 (int (pos 1))) (part (infixed (record { place = 2; it = Named plusplus })) (constant_exp 5 (int (pos 2))) (last_part (infixed (record { place = 7; it = Named plusplus })) (constant_exp 10 (int (pos 3)))))

pub one_level_chain : Reads with_plusplus text_one_level_chain tree_one_level_chain []
one_level_chain = of_chain 13 true (omega arith) refl (of_atom (of_constant (is_number 0 (pos 1) true))) (of_part (record { is = is_infix (symbol_vid 2 plusplus) refl; level = refl; right = refl }) (omega arith) refl (of_atom (of_constant (is_number 5 (pos 2) true))) (of_last_part (record { is = is_infix (symbol_vid 7 plusplus) refl; level = refl; right = refl }) (omega arith) (of_atom (of_constant (is_number 10 (pos 3) true)))))

-- case x of 1 => case y of 1 => 2 | z => 3
abbrev pub text_inner_case : List Terminal
text_inner_case = reserved 0 res.Case ∷ alpha 5 name_x ∷ reserved 7 res.Of ∷ number 10 (pos 1) true ∷ reserved 12 res.DoubleArrow ∷ reserved 15 res.Case ∷ alpha 20 name_y ∷ reserved 22 res.Of ∷ number 25 (pos 1) true ∷ reserved 27 res.DoubleArrow ∷ number 30 (pos 2) true ∷ reserved 32 res.Bar ∷ alpha 34 name_z ∷ reserved 36 res.DoubleArrow ∷ number 39 (pos 3) true ∷ []

abbrev pub tree_inner_case : Exp
tree_inner_case = case 0 (vid_exp 5 (name_at 5 name_x)) (last_rule (constant_pat 10 (int (pos 1))) (case 15 (vid_exp 20 (name_at 20 name_y)) (rule (constant_pat 25 (int (pos 1))) (constant_exp 30 (int (pos 2))) (last_rule (vid_pat 34 (name_at 34 name_z)) (constant_exp 39 (int (pos 3)))))))

pub inner_case : Reads no_fixities text_inner_case tree_inner_case []
inner_case = of_case 0 7 (of_atom (of_vid (plain_long (alpha_vid 5 name_x) refl))) (of_last_rule 12 (of_atpat (of_pat_constant (is_number 10 (pos 1) true))) (of_case 15 22 (of_atom (of_vid (plain_long (alpha_vid 20 name_y) refl))) (of_rule 27 32 (of_atpat (of_pat_constant (is_number 25 (pos 1) true))) refl (of_atom (of_constant (is_number 30 (pos 2) true))) (of_last_rule 36 (of_atpat (of_pat_vid (plain_long (alpha_vid 34 name_z) refl))) (of_atom (of_constant (is_number 39 (pos 3) true)))))))

-- case x of 1 => (case y of 1 => 2) | z => 3
abbrev pub text_bracketed_case : List Terminal
text_bracketed_case = reserved 0 res.Case ∷ alpha 5 name_x ∷ reserved 7 res.Of ∷ number 10 (pos 1) true ∷ reserved 12 res.DoubleArrow ∷ reserved 15 res.LeftParen ∷ reserved 16 res.Case ∷ alpha 21 name_y ∷ reserved 23 res.Of ∷ number 26 (pos 1) true ∷ reserved 28 res.DoubleArrow ∷ number 31 (pos 2) true ∷ reserved 32 res.RightParen ∷ reserved 34 res.Bar ∷ alpha 36 name_z ∷ reserved 38 res.DoubleArrow ∷ number 41 (pos 3) true ∷ []

abbrev pub tree_bracketed_case : Exp
tree_bracketed_case = case 0 (vid_exp 5 (name_at 5 name_x)) (rule (constant_pat 10 (int (pos 1))) (paren_exp 15 (case 16 (vid_exp 21 (name_at 21 name_y)) (last_rule (constant_pat 26 (int (pos 1))) (constant_exp 31 (int (pos 2)))))) (last_rule (vid_pat 36 (name_at 36 name_z)) (constant_exp 41 (int (pos 3)))))

pub bracketed_case : Reads no_fixities text_bracketed_case tree_bracketed_case []
bracketed_case = of_case 0 7 (of_atom (of_vid (plain_long (alpha_vid 5 name_x) refl))) (of_rule 12 34 (of_atpat (of_pat_constant (is_number 10 (pos 1) true))) refl (of_atom (of_paren 15 32 (of_case 16 23 (of_atom (of_vid (plain_long (alpha_vid 21 name_y) refl))) (of_last_rule 28 (of_atpat (of_pat_constant (is_number 26 (pos 1) true))) (of_atom (of_constant (is_number 31 (pos 2) true))))))) (of_last_rule 38 (of_atpat (of_pat_vid (plain_long (alpha_vid 36 name_z) refl))) (of_atom (of_constant (is_number 41 (pos 3) true)))))

-- fn x => x : int
abbrev pub text_fn_typed : List Terminal
text_fn_typed = reserved 0 res.Fn ∷ alpha 3 name_x ∷ reserved 5 res.DoubleArrow ∷ alpha 8 name_x ∷ reserved 10 res.Colon ∷ alpha 12 name_int ∷ []

abbrev pub tree_fn_typed : Exp
tree_fn_typed = fn 0 (last_rule (vid_pat 3 (name_at 3 name_x)) (typed (vid_exp 8 (name_at 8 name_x)) (con_ty 12 no_tys (record { place = 12; it = record { qualifiers = []; id = name_int } }))))

pub fn_typed : Reads no_fixities text_fn_typed tree_fn_typed []
fn_typed = of_fn 0 (of_last_rule 5 (of_atpat (of_pat_vid (plain_long (alpha_vid 3 name_x) refl))) (of_typed 10 (omega arith) refl (of_atom (of_vid (plain_long (alpha_vid 8 name_x) refl))) (of_tycon (short_tycon (alpha_tycon 12 name_int)))))

-- raise e handle m => 1
abbrev pub text_raise_handle : List Terminal
text_raise_handle = reserved 0 res.Raise ∷ alpha 6 name_e ∷ reserved 8 res.Handle ∷ alpha 15 name_m ∷ reserved 17 res.DoubleArrow ∷ number 20 (pos 1) true ∷ []

abbrev pub tree_raise_handle : Exp
tree_raise_handle = raise 0 (handle (vid_exp 6 (name_at 6 name_e)) (last_rule (vid_pat 15 (name_at 15 name_m)) (constant_exp 20 (int (pos 1)))))

pub raise_handle : Reads no_fixities text_raise_handle tree_raise_handle []
raise_handle = of_raise 0 (of_handle 8 refl (of_atom (of_vid (plain_long (alpha_vid 6 name_e) refl))) (of_last_rule 17 (of_atpat (of_pat_vid (plain_long (alpha_vid 15 name_m) refl))) (of_atom (of_constant (is_number 20 (pos 1) true)))))

-- if a then b else c : t
abbrev pub text_if_typed : List Terminal
text_if_typed = reserved 0 res.If ∷ alpha 3 name_a ∷ reserved 5 res.Then ∷ alpha 10 name_b ∷ reserved 12 res.Else ∷ alpha 17 name_c ∷ reserved 19 res.Colon ∷ alpha 21 name_t ∷ []

abbrev pub tree_if_typed : Exp
tree_if_typed = if_then 0 (vid_exp 3 (name_at 3 name_a)) (vid_exp 10 (name_at 10 name_b)) (typed (vid_exp 17 (name_at 17 name_c)) (con_ty 21 no_tys (record { place = 21; it = record { qualifiers = []; id = name_t } })))

pub if_typed : Reads no_fixities text_if_typed tree_if_typed []
if_typed = of_if 0 5 12 (of_atom (of_vid (plain_long (alpha_vid 3 name_a) refl))) (of_atom (of_vid (plain_long (alpha_vid 10 name_b) refl))) (of_typed 19 (omega arith) refl (of_atom (of_vid (plain_long (alpha_vid 17 name_c) refl))) (of_tycon (short_tycon (alpha_tycon 21 name_t))))

-- a andalso raise b orelse c
abbrev pub text_raise_in_andalso : List Terminal
text_raise_in_andalso = alpha 0 name_a ∷ reserved 2 res.Andalso ∷ reserved 10 res.Raise ∷ alpha 16 name_b ∷ reserved 18 res.Orelse ∷ alpha 25 name_c ∷ []

abbrev pub tree_raise_in_andalso : Exp
tree_raise_in_andalso = chain true (vid_exp 0 (name_at 0 name_a)) (last_part and_also (raise 10 (chain true (vid_exp 16 (name_at 16 name_b)) (last_part or_else (vid_exp 25 (name_at 25 name_c))))))

pub raise_in_andalso : Reads no_fixities text_raise_in_andalso tree_raise_in_andalso []
raise_in_andalso = of_chain 3 true (omega arith) refl (of_atom (of_vid (plain_long (alpha_vid 0 name_a) refl))) (of_last_part (record { is = is_andalso 2; level = refl; right = refl }) (omega arith) (of_raise 10 (of_chain 1 true (omega arith) refl (of_atom (of_vid (plain_long (alpha_vid 16 name_b) refl))) (of_last_part (record { is = is_orelse 18; level = refl; right = refl }) (omega arith) (of_atom (of_vid (plain_long (alpha_vid 25 name_c) refl)))))))

-- f x handle E => 1 | F => 2
abbrev pub text_two_handlers : List Terminal
text_two_handlers = alpha 0 name_f ∷ alpha 2 name_x ∷ reserved 4 res.Handle ∷ alpha 11 name_E ∷ reserved 13 res.DoubleArrow ∷ number 16 (pos 1) true ∷ reserved 18 res.Bar ∷ alpha 20 name_F ∷ reserved 22 res.DoubleArrow ∷ number 25 (pos 2) true ∷ []

abbrev pub tree_two_handlers : Exp
tree_two_handlers = handle (app (vid_exp 0 (name_at 0 name_f)) (vid_exp 2 (name_at 2 name_x)) no_exps) (rule (vid_pat 11 (name_at 11 name_E)) (constant_exp 16 (int (pos 1))) (last_rule (vid_pat 20 (name_at 20 name_F)) (constant_exp 25 (int (pos 2)))))

pub two_handlers : Reads no_fixities text_two_handlers tree_two_handlers []
two_handlers = of_handle 4 refl (of_app (of_vid (plain_long (alpha_vid 0 name_f) refl)) (of_vid (plain_long (alpha_vid 2 name_x) refl)) (no_atoms)) (of_rule 13 18 (of_atpat (of_pat_vid (plain_long (alpha_vid 11 name_E) refl))) refl (of_atom (of_constant (is_number 16 (pos 1) true))) (of_last_rule 22 (of_atpat (of_pat_vid (plain_long (alpha_vid 20 name_F) refl))) (of_atom (of_constant (is_number 25 (pos 2) true)))))

-- (a orelse b) handle m => 1
abbrev pub text_orelse_handle : List Terminal
text_orelse_handle = reserved 0 res.LeftParen ∷ alpha 1 name_a ∷ reserved 3 res.Orelse ∷ alpha 10 name_b ∷ reserved 11 res.RightParen ∷ reserved 13 res.Handle ∷ alpha 20 name_m ∷ reserved 22 res.DoubleArrow ∷ number 25 (pos 1) true ∷ []

abbrev pub tree_orelse_handle : Exp
tree_orelse_handle = handle (paren_exp 0 (chain true (vid_exp 1 (name_at 1 name_a)) (last_part or_else (vid_exp 10 (name_at 10 name_b))))) (last_rule (vid_pat 20 (name_at 20 name_m)) (constant_exp 25 (int (pos 1))))

pub orelse_handle : Reads no_fixities text_orelse_handle tree_orelse_handle []
orelse_handle = of_handle 13 refl (of_atom (of_paren 0 11 (of_chain 1 true (omega arith) refl (of_atom (of_vid (plain_long (alpha_vid 1 name_a) refl))) (of_last_part (record { is = is_orelse 3; level = refl; right = refl }) (omega arith) (of_atom (of_vid (plain_long (alpha_vid 10 name_b) refl))))))) (of_last_rule 22 (of_atpat (of_pat_vid (plain_long (alpha_vid 20 name_m) refl))) (of_atom (of_constant (is_number 25 (pos 1) true))))

-- a orelse b handle m => 1
abbrev pub text_bare_orelse_handle : List Terminal
text_bare_orelse_handle = alpha 0 name_a ∷ reserved 2 res.Orelse ∷ alpha 9 name_b ∷ reserved 11 res.Handle ∷ alpha 18 name_m ∷ reserved 20 res.DoubleArrow ∷ number 23 (pos 1) true ∷ []

abbrev pub tree_bare_orelse_handle : Exp
tree_bare_orelse_handle = handle (chain true (vid_exp 0 (name_at 0 name_a)) (last_part or_else (vid_exp 9 (name_at 9 name_b)))) (last_rule (vid_pat 18 (name_at 18 name_m)) (constant_exp 23 (int (pos 1))))

pub bare_orelse_handle : Reads no_fixities text_bare_orelse_handle tree_bare_orelse_handle []
bare_orelse_handle = of_handle 11 refl (of_chain 1 true (omega arith) refl (of_atom (of_vid (plain_long (alpha_vid 0 name_a) refl))) (of_last_part (record { is = is_orelse 2; level = refl; right = refl }) (omega arith) (of_atom (of_vid (plain_long (alpha_vid 9 name_b) refl))))) (of_last_rule 20 (of_atpat (of_pat_vid (plain_long (alpha_vid 18 name_m) refl))) (of_atom (of_constant (is_number 23 (pos 1) true))))

-- (x : t) + y
abbrev pub text_typed_plus : List Terminal
text_typed_plus = reserved 0 res.LeftParen ∷ alpha 1 name_x ∷ reserved 3 res.Colon ∷ alpha 5 name_t ∷ reserved 6 res.RightParen ∷ symbol 8 plus ∷ alpha 10 name_y ∷ []

abbrev pub tree_typed_plus : Exp
tree_typed_plus = chain false (paren_exp 0 (typed (vid_exp 1 (name_at 1 name_x)) (con_ty 5 no_tys (record { place = 5; it = record { qualifiers = []; id = name_t } })))) (last_part (infixed (record { place = 8; it = Named plus })) (vid_exp 10 (name_at 10 name_y)))

pub typed_plus : Reads with_plus text_typed_plus tree_typed_plus []
typed_plus = of_chain 14 false (omega arith) refl (of_atom (of_paren 0 6 (of_typed 3 (omega arith) refl (of_atom (of_vid (plain_long (alpha_vid 1 name_x) refl))) (of_tycon (short_tycon (alpha_tycon 5 name_t)))))) (of_last_part (record { is = is_infix (symbol_vid 8 plus) refl; level = refl; right = refl }) (omega arith) (of_atom (of_vid (plain_long (alpha_vid 10 name_y) refl))))

-- op + (1, 2)
abbrev pub text_op_plus : List Terminal
text_op_plus = reserved 0 res.Op ∷ symbol 3 plus ∷ reserved 5 res.LeftParen ∷ number 6 (pos 1) true ∷ reserved 7 res.Comma ∷ number 9 (pos 2) true ∷ reserved 10 res.RightParen ∷ []

abbrev pub tree_op_plus : Exp
tree_op_plus = app (vid_exp 0 (name_at 3 plus)) (tuple_exp 5 (exp (constant_exp 6 (int (pos 1))) (exp (constant_exp 9 (int (pos 2))) no_exps))) no_exps

pub op_plus : Reads with_plus text_op_plus tree_op_plus []
op_plus = of_app (of_vid (op_long 0 (any_short (any_named (symbol_vid 3 plus))))) (of_tuple 5 7 10 (of_atom (of_constant (is_number 6 (pos 1) true))) (last_exp (of_atom (of_constant (is_number 9 (pos 2) true))))) (no_atoms)

-- fun ('a) op ++ x = x: the type variables and the name after `op` have places of their own
abbrev pub text_op_name : List Terminal
text_op_name = reserved 0 res.Fun ∷ reserved 4 res.LeftParen ∷ type_var 5 (record { name = name_a; equality = false }) ∷ reserved 7 res.RightParen ∷ reserved 9 res.Op ∷ symbol 12 plusplus ∷ alpha 15 name_x ∷ reserved 17 res.Equals ∷ alpha 19 name_x ∷ []

abbrev pub tree_op_name : Decs
tree_op_name = dec (fun_dec 0 4 (record { name = name_a; equality = false } ∷ []) (last_fun (last_clause (prefix_head 9 (record { place = 12; it = Named plusplus }) (vid_pat 15 (name_at 15 name_x)) no_pats) None (vid_exp 19 (name_at 19 name_x))))) no_decs

pub op_name : Declares with_all text_op_name tree_op_name []
op_name = of_dec (of_fun 0 (tyvars_in_brackets 4 (last_tyvar 5 7 (record { name = name_a; equality = false }))) (at_sequence (at_bracket 4)) (of_last_fun (Named plusplus) 1 (of_last_clause 17 (of_prefix_head (op_vid 9 (any_named (symbol_vid 12 plusplus))) (of_pat_vid (plain_long (alpha_vid 15 name_x) refl)) (no_atpats)) refl refl (without_ty) (of_atom (of_vid (plain_long (alpha_vid 19 name_x) refl)))))) (nothing_more)

-- fn op :: (x, y) => x: the rule and its pattern begin at `op`, the constructor has its own place
abbrev pub text_op_cons : List Terminal
text_op_cons = reserved 0 res.Fn ∷ reserved 3 res.Op ∷ symbol 6 cons_name ∷ reserved 9 res.LeftParen ∷ alpha 10 name_x ∷ reserved 11 res.Comma ∷ alpha 13 name_y ∷ reserved 14 res.RightParen ∷ reserved 16 res.DoubleArrow ∷ alpha 19 name_x ∷ []

abbrev pub tree_op_cons : Exp
tree_op_cons = fn 0 (last_rule (con_pat 3 (name_at 6 cons_name) (tuple_pat 9 (pat (vid_pat 10 (name_at 10 name_x)) (pat (vid_pat 13 (name_at 13 name_y)) no_pats)))) (vid_exp 19 (name_at 19 name_x)))

pub op_cons : Reads with_all text_op_cons tree_op_cons []
op_cons = of_fn 0 (of_last_rule 16 (of_con_pat (op_long 3 (any_short (any_named (symbol_vid 6 cons_name)))) (of_tuple_pat 9 11 14 (of_atpat (of_pat_vid (plain_long (alpha_vid 10 name_x) refl))) (last_pat (of_atpat (of_pat_vid (plain_long (alpha_vid 13 name_y) refl)))))) (of_atom (of_vid (plain_long (alpha_vid 19 name_x) refl))))

-- (op +)
abbrev pub text_op_plus_alone : List Terminal
text_op_plus_alone = reserved 0 res.LeftParen ∷ reserved 1 res.Op ∷ symbol 4 plus ∷ reserved 5 res.RightParen ∷ []

abbrev pub tree_op_plus_alone : Exp
tree_op_plus_alone = paren_exp 0 (vid_exp 1 (name_at 4 plus))

pub op_plus_alone : Reads with_plus text_op_plus_alone tree_op_plus_alone []
op_plus_alone = of_atom (of_paren 0 5 (of_atom (of_vid (op_long 1 (any_short (any_named (symbol_vid 4 plus)))))))

-- val rec f = fn x => x and g = fn y => y
abbrev pub text_rec_and : List Terminal
text_rec_and = reserved 0 res.Val ∷ reserved 4 res.Rec ∷ alpha 8 name_f ∷ reserved 10 res.Equals ∷ reserved 12 res.Fn ∷ alpha 15 name_x ∷ reserved 17 res.DoubleArrow ∷ alpha 20 name_x ∷ reserved 22 res.And ∷ alpha 26 name_g ∷ reserved 28 res.Equals ∷ reserved 30 res.Fn ∷ alpha 33 name_y ∷ reserved 35 res.DoubleArrow ∷ alpha 38 name_y ∷ []

abbrev pub tree_rec_and : Decs
tree_rec_and = dec (val_dec 0 0 [] (rec_binds (bind (vid_pat 8 (name_at 8 name_f)) (fn 12 (last_rule (vid_pat 15 (name_at 15 name_x)) (vid_exp 20 (name_at 20 name_x)))) (last_bind (vid_pat 26 (name_at 26 name_g)) (fn 30 (last_rule (vid_pat 33 (name_at 33 name_y)) (vid_exp 38 (name_at 38 name_y)))))))) no_decs

pub rec_and : Declares no_fixities text_rec_and tree_rec_and []
rec_and = of_dec (of_val 0 (no_tyvars) at_declaration (of_rec 4 (of_bind 10 22 (of_atpat (of_pat_vid (plain_long (alpha_vid 8 name_f) refl))) (of_fn 12 (of_last_rule 17 (of_atpat (of_pat_vid (plain_long (alpha_vid 15 name_x) refl))) (of_atom (of_vid (plain_long (alpha_vid 20 name_x) refl))))) (of_last_bind 28 (of_atpat (of_pat_vid (plain_long (alpha_vid 26 name_g) refl))) (of_fn 30 (of_last_rule 35 (of_atpat (of_pat_vid (plain_long (alpha_vid 33 name_y) refl))) (of_atom (of_vid (plain_long (alpha_vid 38 name_y) refl))))))))) (nothing_more)

-- fun (x ++ y) z = x
abbrev pub text_bracket_clause : List Terminal
text_bracket_clause = reserved 0 res.Fun ∷ reserved 4 res.LeftParen ∷ alpha 5 name_x ∷ symbol 7 plusplus ∷ alpha 10 name_y ∷ reserved 11 res.RightParen ∷ alpha 13 name_z ∷ reserved 15 res.Equals ∷ alpha 17 name_x ∷ []

abbrev pub tree_bracket_clause : Decs
tree_bracket_clause = dec (fun_dec 0 0 [] (last_fun (last_clause (bracket_head 4 (vid_pat 5 (name_at 5 name_x)) (record { place = 7; it = plusplus }) (vid_pat 10 (name_at 10 name_y)) (pat (vid_pat 13 (name_at 13 name_z)) no_pats)) None (vid_exp 17 (name_at 17 name_x))))) no_decs

pub bracket_clause : Declares with_plusplus text_bracket_clause tree_bracket_clause []
bracket_clause = of_dec (of_fun 0 (no_tyvars) at_declaration (of_last_fun (Named plusplus) 2 (of_last_clause 15 (of_bracket_head 4 11 (of_pat_vid (plain_long (alpha_vid 5 name_x) refl)) (record { is = symbol_vid 7 plusplus; fix = record { precedence = 5; right = true }; status = refl }) (of_pat_vid (plain_long (alpha_vid 10 name_y) refl)) (more_atpats (of_pat_vid (plain_long (alpha_vid 13 name_z) refl)) (no_atpats))) refl refl (without_ty) (of_atom (of_vid (plain_long (alpha_vid 17 name_x) refl)))))) (nothing_more)

-- fun x ++ y = x
abbrev pub text_infix_clause : List Terminal
text_infix_clause = reserved 0 res.Fun ∷ alpha 4 name_x ∷ symbol 6 plusplus ∷ alpha 9 name_y ∷ reserved 11 res.Equals ∷ alpha 13 name_x ∷ []

abbrev pub tree_infix_clause : Decs
tree_infix_clause = dec (fun_dec 0 0 [] (last_fun (last_clause (infix_head (vid_pat 4 (name_at 4 name_x)) (record { place = 6; it = plusplus }) (vid_pat 9 (name_at 9 name_y))) None (vid_exp 13 (name_at 13 name_x))))) no_decs

pub infix_clause : Declares with_plusplus text_infix_clause tree_infix_clause []
infix_clause = of_dec (of_fun 0 (no_tyvars) at_declaration (of_last_fun (Named plusplus) 1 (of_last_clause 11 (of_infix_head (of_pat_vid (plain_long (alpha_vid 4 name_x) refl)) (record { is = symbol_vid 6 plusplus; fix = record { precedence = 5; right = true }; status = refl }) (of_pat_vid (plain_long (alpha_vid 9 name_y) refl))) refl refl (without_ty) (of_atom (of_vid (plain_long (alpha_vid 13 name_x) refl)))))) (nothing_more)

-- let infix 5 ++ in a ++ b end ++ c
abbrev pub text_scoped_fixity : List Terminal
text_scoped_fixity = reserved 0 res.Let ∷ reserved 4 res.Infix ∷ number 10 (pos 5) true ∷ symbol 12 plusplus ∷ reserved 15 res.In ∷ alpha 18 name_a ∷ symbol 20 plusplus ∷ alpha 23 name_b ∷ reserved 25 res.End ∷ symbol 29 plusplus ∷ alpha 32 name_c ∷ []

abbrev pub tree_scoped_fixity : Exp
tree_scoped_fixity = app (let_in 0 (dec (fixity_dec 4 (Some (record { precedence = 5; right = false })) (plusplus ∷ [])) no_decs) (exp (chain false (vid_exp 18 (name_at 18 name_a)) (last_part (infixed (record { place = 20; it = Named plusplus })) (vid_exp 23 (name_at 23 name_b)))) no_exps)) (vid_exp 29 (name_at 29 plusplus)) (exp (vid_exp 32 (name_at 32 name_c)) no_exps)

pub scoped_fixity : Reads no_fixities text_scoped_fixity tree_scoped_fixity []
scoped_fixity = of_app (of_let 0 15 25 (of_dec (of_infix 4 (a_precedence 10 5 (omega arith)) (last_vid (symbol_vid 12 plusplus))) (nothing_more)) (last_of_sequence (of_chain 13 false (omega arith) refl (of_atom (of_vid (plain_long (alpha_vid 18 name_a) refl))) (of_last_part (record { is = is_infix (symbol_vid 20 plusplus) refl; level = refl; right = refl }) (omega arith) (of_atom (of_vid (plain_long (alpha_vid 23 name_b) refl))))))) (of_vid (plain_long (symbol_vid 29 plusplus) refl)) (more_atoms (of_vid (plain_long (alpha_vid 32 name_c) refl)) (no_atoms))

-- val {a = 1, ...} = x
abbrev pub text_flexible : List Terminal
text_flexible = reserved 0 res.Val ∷ reserved 4 res.LeftBrace ∷ alpha 5 name_a ∷ reserved 7 res.Equals ∷ number 9 (pos 1) true ∷ reserved 10 res.Comma ∷ reserved 12 res.Dots ∷ reserved 15 res.RightBrace ∷ reserved 17 res.Equals ∷ alpha 19 name_x ∷ []

abbrev pub tree_flexible : Decs
tree_flexible = dec (val_dec 0 0 [] (last_bind (record_pat 4 (pat_field (labelled (label.Word name_a) (constant_pat 9 (int (pos 1)))) no_pat_fields) true) (vid_exp 19 (name_at 19 name_x)))) no_decs

pub flexible : Declares no_fixities text_flexible tree_flexible []
flexible = of_dec (of_val 0 (no_tyvars) at_declaration (of_last_bind 17 (of_atpat (of_pat_row 4 15 (more_row 10 (of_labelled 7 (word_label (alpha_vid 5 name_a)) (of_atpat (of_pat_constant (is_number 9 (pos 1) true)))) (row_dots 12)))) (of_atom (of_vid (plain_long (alpha_vid 19 name_x) refl))))) (nothing_more)

-- val {a, b : int as 3} = x
abbrev pub text_puns : List Terminal
text_puns = reserved 0 res.Val ∷ reserved 4 res.LeftBrace ∷ alpha 5 name_a ∷ reserved 6 res.Comma ∷ alpha 8 name_b ∷ reserved 10 res.Colon ∷ alpha 12 name_int ∷ reserved 16 res.As ∷ number 19 (pos 3) true ∷ reserved 20 res.RightBrace ∷ reserved 22 res.Equals ∷ alpha 24 name_x ∷ []

abbrev pub tree_puns : Decs
tree_puns = dec (val_dec 0 0 [] (last_bind (record_pat 4 (pat_field (punned 5 name_a None) (pat_field (punned_as 8 name_b (Some (con_ty 12 no_tys (record { place = 12; it = record { qualifiers = []; id = name_int } }))) (constant_pat 19 (int (pos 3)))) no_pat_fields)) false) (vid_exp 24 (name_at 24 name_x)))) no_decs

pub puns : Declares no_fixities text_puns tree_puns []
puns = of_dec (of_val 0 (no_tyvars) at_declaration (of_last_bind 22 (of_atpat (of_pat_row 4 20 (more_row 6 (of_punned (alpha_vid 5 name_a) refl (without_ty)) (last_row (of_punned_as 16 (alpha_vid 8 name_b) refl (with_ty 10 (of_tycon (short_tycon (alpha_tycon 12 name_int)))) (of_atpat (of_pat_constant (is_number 19 (pos 3) true)))))))) (of_atom (of_vid (plain_long (alpha_vid 24 name_x) refl))))) (nothing_more)

-- #1 x
abbrev pub text_select_first : List Terminal
text_select_first = reserved 0 res.Hash ∷ number 1 (pos 1) true ∷ alpha 3 name_x ∷ []

abbrev pub tree_select_first : Exp
tree_select_first = app (selector 0 (label.Number 1)) (vid_exp 3 (name_at 3 name_x)) no_exps

pub select_first : Reads no_fixities text_select_first tree_select_first []
select_first = of_app (of_selector 0 (number_label 1 0)) (of_vid (plain_long (alpha_vid 3 name_x) refl)) (no_atoms)

-- f x y
abbrev pub text_applied_twice : List Terminal
text_applied_twice = alpha 0 name_f ∷ alpha 2 name_x ∷ alpha 4 name_y ∷ []

abbrev pub tree_applied_twice : Exp
tree_applied_twice = app (vid_exp 0 (name_at 0 name_f)) (vid_exp 2 (name_at 2 name_x)) (exp (vid_exp 4 (name_at 4 name_y)) no_exps)

pub applied_twice : Reads no_fixities text_applied_twice tree_applied_twice []
applied_twice = of_app (of_vid (plain_long (alpha_vid 0 name_f) refl)) (of_vid (plain_long (alpha_vid 2 name_x) refl)) (more_atoms (of_vid (plain_long (alpha_vid 4 name_y) refl)) (no_atoms))

-- infix f val z = x f y
abbrev pub text_infix_f : List Terminal
text_infix_f = reserved 0 res.Infix ∷ alpha 6 name_f ∷ reserved 8 res.Val ∷ alpha 12 name_z ∷ reserved 14 res.Equals ∷ alpha 16 name_x ∷ alpha 18 name_f ∷ alpha 20 name_y ∷ []

abbrev pub tree_infix_f : Decs
tree_infix_f = dec (fixity_dec 0 (Some (record { precedence = 0; right = false })) (name_f ∷ [])) (dec (val_dec 8 8 [] (last_bind (vid_pat 12 (name_at 12 name_z)) (chain false (vid_exp 16 (name_at 16 name_x)) (last_part (infixed (record { place = 18; it = Named name_f })) (vid_exp 20 (name_at 20 name_y)))))) no_decs)

pub infix_f : Declares no_fixities text_infix_f tree_infix_f []
infix_f = of_dec (of_infix 0 (no_precedence) (last_vid (alpha_vid 6 name_f))) (of_dec (of_val 8 (no_tyvars) at_declaration (of_last_bind 14 (of_atpat (of_pat_vid (plain_long (alpha_vid 12 name_z) refl))) (of_chain 8 false (omega arith) refl (of_atom (of_vid (plain_long (alpha_vid 16 name_x) refl))) (of_last_part (record { is = is_infix (alpha_vid 18 name_f) refl; level = refl; right = refl }) (omega arith) (of_atom (of_vid (plain_long (alpha_vid 20 name_y) refl))))))) (nothing_more))

-- ;;val x = 1;;
abbrev pub text_semicolons : List Terminal
text_semicolons = reserved 0 res.Semicolon ∷ reserved 1 res.Semicolon ∷ reserved 2 res.Val ∷ alpha 6 name_x ∷ reserved 8 res.Equals ∷ number 10 (pos 1) true ∷ reserved 11 res.Semicolon ∷ reserved 12 res.Semicolon ∷ []

abbrev pub tree_semicolons : Decs
tree_semicolons = dec (val_dec 2 2 [] (last_bind (vid_pat 6 (name_at 6 name_x)) (constant_exp 10 (int (pos 1))))) no_decs

pub semicolons : Declares no_fixities text_semicolons tree_semicolons []
semicolons = of_semicolon 0 (of_semicolon 1 (of_dec (of_val 2 (no_tyvars) at_declaration (of_last_bind 8 (of_atpat (of_pat_vid (plain_long (alpha_vid 6 name_x) refl))) (of_atom (of_constant (is_number 10 (pos 1) true))))) (of_semicolon 11 (of_semicolon 12 (nothing_more)))))

-- fun f [] = 0 | f (x :: r) = 1 + f r
abbrev pub text_clauses_of_two : List Terminal
text_clauses_of_two = reserved 0 res.Fun ∷ alpha 4 name_f ∷ reserved 6 res.LeftBracket ∷ reserved 7 res.RightBracket ∷ reserved 9 res.Equals ∷ number 11 (pos 0) true ∷ reserved 13 res.Bar ∷ alpha 15 name_f ∷ reserved 17 res.LeftParen ∷ alpha 18 name_x ∷ symbol 20 cons_name ∷ alpha 23 name_r ∷ reserved 24 res.RightParen ∷ reserved 26 res.Equals ∷ number 28 (pos 1) true ∷ symbol 30 plus ∷ alpha 32 name_f ∷ alpha 34 name_r ∷ []

abbrev pub tree_clauses_of_two : Decs
tree_clauses_of_two = dec (fun_dec 0 0 [] (last_fun (clause (prefix_head 4 (record { place = 4; it = Named name_f }) (list_pat 6 no_pats) no_pats) None (constant_exp 11 (int (pos 0))) (last_clause (prefix_head 15 (record { place = 15; it = Named name_f }) (paren_pat 17 (chain_pat true (vid_pat 18 (name_at 18 name_x)) (last_pat_part (record { place = 20; it = cons_name }) (vid_pat 23 (name_at 23 name_r))))) no_pats) None (chain false (constant_exp 28 (int (pos 1))) (last_part (infixed (record { place = 30; it = Named plus })) (app (vid_exp 32 (name_at 32 name_f)) (vid_exp 34 (name_at 34 name_r)) no_exps))))))) no_decs

pub clauses_of_two : Declares with_all text_clauses_of_two tree_clauses_of_two []
clauses_of_two = of_dec (of_fun 0 (no_tyvars) at_declaration (of_last_fun (Named name_f) 1 (of_clause 9 13 (of_prefix_head (plain_vid (alpha_vid 4 name_f) refl) (of_nil_pat 6 7) (no_atpats)) refl refl (without_ty) refl (of_atom (of_constant (is_number 11 (pos 0) true))) (of_last_clause 26 (of_prefix_head (plain_vid (alpha_vid 15 name_f) refl) (of_paren_pat 17 24 (of_chain_pat 13 true (omega arith) (of_atpat (of_pat_vid (plain_long (alpha_vid 18 name_x) refl))) (of_last_pat_part (record { is = record { is = symbol_vid 20 cons_name; fix = record { precedence = 5; right = true }; status = refl }; level = refl; right = refl }) (omega arith) (of_atpat (of_pat_vid (plain_long (alpha_vid 23 name_r) refl)))))) (no_atpats)) refl refl (without_ty) (of_chain 14 false (omega arith) refl (of_atom (of_constant (is_number 28 (pos 1) true))) (of_last_part (record { is = is_infix (symbol_vid 30 plus) refl; level = refl; right = refl }) (omega arith) (of_app (of_vid (plain_long (alpha_vid 32 name_f) refl)) (of_vid (plain_long (alpha_vid 34 name_r) refl)) (no_atoms)))))))) (nothing_more)

-- type 'a t = 'a * int list -> int -> int
abbrev pub text_function_types : List Terminal
text_function_types = reserved 0 res.TypeWord ∷ type_var 5 (record { name = name_a; equality = false }) ∷ alpha 8 name_t ∷ reserved 10 res.Equals ∷ type_var 12 (record { name = name_a; equality = false }) ∷ star 15 times ∷ alpha 17 name_int ∷ alpha 21 name_list ∷ reserved 26 res.Arrow ∷ alpha 29 name_int ∷ reserved 33 res.Arrow ∷ alpha 36 name_int ∷ []

abbrev pub tree_function_types : Decs
tree_function_types = dec (type_dec 0 (record { place = 5; tyvars = ((record { name = name_a; equality = false }) ∷ []); tycon = name_t; ty = (arrow_ty (product_ty (var_ty 12 (record { name = name_a; equality = false })) (ty (con_ty 17 (ty (con_ty 17 no_tys (record { place = 17; it = record { qualifiers = []; id = name_int } })) no_tys) (record { place = 21; it = record { qualifiers = []; id = name_list } })) no_tys)) (ty (con_ty 29 no_tys (record { place = 29; it = record { qualifiers = []; id = name_int } })) (ty (con_ty 36 no_tys (record { place = 36; it = record { qualifiers = []; id = name_int } })) no_tys))) } ∷ [])) no_decs

pub function_types : Declares no_fixities text_function_types tree_function_types []
function_types = of_dec (of_type 0 (last_type_bind (type_bind 10 (at_tyvar 5 (record { name = name_a; equality = false })) (one_tyvar 5 (record { name = name_a; equality = false })) (alpha_tycon 8 name_t) (of_arrow (omega arith) (of_product (omega arith) (of_tyvar 12 (record { name = name_a; equality = false })) (last_star 15 times (omega arith) (of_tycon_1 (omega arith) (of_tycon (short_tycon (alpha_tycon 17 name_int))) (short_tycon (alpha_tycon 21 name_list)) refl))) (more_arrows 26 (omega arith) (of_tycon (short_tycon (alpha_tycon 29 name_int))) (last_arrow 33 (omega arith) (of_tycon (short_tycon (alpha_tycon 36 name_int))))))))) (nothing_more)

-- datatype 'a t = A | B of 'a u withtype 'a u = 'a * 'a t
abbrev pub text_withtype_example : List Terminal
text_withtype_example = reserved 0 res.Datatype ∷ type_var 9 (record { name = name_a; equality = false }) ∷ alpha 12 name_t ∷ reserved 14 res.Equals ∷ alpha 16 name_A ∷ reserved 18 res.Bar ∷ alpha 20 name_B ∷ reserved 22 res.Of ∷ type_var 25 (record { name = name_a; equality = false }) ∷ alpha 28 name_u ∷ reserved 30 res.Withtype ∷ type_var 39 (record { name = name_a; equality = false }) ∷ alpha 42 name_u ∷ reserved 44 res.Equals ∷ type_var 46 (record { name = name_a; equality = false }) ∷ star 49 times ∷ type_var 51 (record { name = name_a; equality = false }) ∷ alpha 54 name_t ∷ []

abbrev pub tree_withtype_example : Decs
tree_withtype_example = dec (withtype_dec 0 (record { place = 9; tyvars = ((record { name = name_a; equality = false }) ∷ []); tycon = name_t; cons = (record { place = 16; vid = (Named name_A); of_ty = None } ∷ (record { place = 20; vid = (Named name_B); of_ty = Some (con_ty 25 (ty (var_ty 25 (record { name = name_a; equality = false })) no_tys) (record { place = 28; it = record { qualifiers = []; id = name_u } })) } ∷ [])) } ∷ []) (record { place = 39; tyvars = ((record { name = name_a; equality = false }) ∷ []); tycon = name_u; ty = (product_ty (var_ty 46 (record { name = name_a; equality = false })) (ty (con_ty 51 (ty (var_ty 51 (record { name = name_a; equality = false })) no_tys) (record { place = 54; it = record { qualifiers = []; id = name_t } })) no_tys)) } ∷ [])) no_decs

pub withtype_example : Declares no_fixities text_withtype_example tree_withtype_example []
withtype_example = of_dec (of_withtype 0 30 (last_data_bind (data_bind 14 (at_tyvar 9 (record { name = name_a; equality = false })) (one_tyvar 9 (record { name = name_a; equality = false })) (alpha_tycon 12 name_t) (more_cons 18 (plain_vid (alpha_vid 16 name_A) refl) (without_of) (last_con (plain_vid (alpha_vid 20 name_B) refl) (with_of 22 (of_tycon_1 (omega arith) (of_tyvar 25 (record { name = name_a; equality = false })) (short_tycon (alpha_tycon 28 name_u)) refl)))))) (last_type_bind (type_bind 44 (at_tyvar 39 (record { name = name_a; equality = false })) (one_tyvar 39 (record { name = name_a; equality = false })) (alpha_tycon 42 name_u) (of_product (omega arith) (of_tyvar 46 (record { name = name_a; equality = false })) (last_star 49 times (omega arith) (of_tycon_1 (omega arith) (of_tyvar 51 (record { name = name_a; equality = false })) (short_tycon (alpha_tycon 54 name_t)) refl)))))) (nothing_more)

-- val b = x = y
abbrev pub text_equality : List Terminal
text_equality = reserved 0 res.Val ∷ alpha 4 name_b ∷ reserved 6 res.Equals ∷ alpha 8 name_x ∷ reserved 10 res.Equals ∷ alpha 12 name_y ∷ []

abbrev pub tree_equality : Decs
tree_equality = dec (val_dec 0 0 [] (last_bind (vid_pat 4 (name_at 4 name_b)) (chain false (vid_exp 8 (name_at 8 name_x)) (last_part (infixed (record { place = 10; it = Equals })) (vid_exp 12 (name_at 12 name_y)))))) no_decs

pub equality : Declares with_all text_equality tree_equality []
equality = of_dec (of_val 0 (no_tyvars) at_declaration (of_last_bind 6 (of_atpat (of_pat_vid (plain_long (alpha_vid 4 name_b) refl))) (of_chain 12 false (omega arith) refl (of_atom (of_vid (plain_long (alpha_vid 8 name_x) refl))) (of_last_part (record { is = is_infix_equals 10 refl; level = refl; right = refl }) (omega arith) (of_atom (of_vid (plain_long (alpha_vid 12 name_y) refl))))))) (nothing_more)

-- local infix 5 ++ in val z = x ++ y end val w = ++
abbrev pub text_local_fixity : List Terminal
text_local_fixity = reserved 0 res.Local ∷ reserved 6 res.Infix ∷ number 12 (pos 5) true ∷ symbol 14 plusplus ∷ reserved 17 res.In ∷ reserved 20 res.Val ∷ alpha 24 name_z ∷ reserved 26 res.Equals ∷ alpha 28 name_x ∷ symbol 30 plusplus ∷ alpha 33 name_y ∷ reserved 35 res.End ∷ reserved 39 res.Val ∷ alpha 43 name_w ∷ reserved 45 res.Equals ∷ symbol 47 plusplus ∷ []

abbrev pub tree_local_fixity : Decs
tree_local_fixity = dec (local_dec 0 (dec (fixity_dec 6 (Some (record { precedence = 5; right = false })) (plusplus ∷ [])) no_decs) (dec (val_dec 20 20 [] (last_bind (vid_pat 24 (name_at 24 name_z)) (chain false (vid_exp 28 (name_at 28 name_x)) (last_part (infixed (record { place = 30; it = Named plusplus })) (vid_exp 33 (name_at 33 name_y)))))) no_decs)) (dec (val_dec 39 39 [] (last_bind (vid_pat 43 (name_at 43 name_w)) (vid_exp 47 (name_at 47 plusplus)))) no_decs)

pub local_fixity : Declares no_fixities text_local_fixity tree_local_fixity []
local_fixity = of_dec (of_local 0 17 35 (of_dec (of_infix 6 (a_precedence 12 5 (omega arith)) (last_vid (symbol_vid 14 plusplus))) (nothing_more)) (of_dec (of_val 20 (no_tyvars) at_declaration (of_last_bind 26 (of_atpat (of_pat_vid (plain_long (alpha_vid 24 name_z) refl))) (of_chain 13 false (omega arith) refl (of_atom (of_vid (plain_long (alpha_vid 28 name_x) refl))) (of_last_part (record { is = is_infix (symbol_vid 30 plusplus) refl; level = refl; right = refl }) (omega arith) (of_atom (of_vid (plain_long (alpha_vid 33 name_y) refl))))))) (nothing_more))) (of_dec (of_val 39 (no_tyvars) at_declaration (of_last_bind 45 (of_atpat (of_pat_vid (plain_long (alpha_vid 43 name_w) refl))) (of_atom (of_vid (plain_long (symbol_vid 47 plusplus) refl))))) (nothing_more))

-- while a do (b; c)
abbrev pub text_loop : List Terminal
text_loop = reserved 0 res.While ∷ alpha 6 name_a ∷ reserved 8 res.Do ∷ reserved 11 res.LeftParen ∷ alpha 12 name_b ∷ reserved 13 res.Semicolon ∷ alpha 15 name_c ∷ reserved 16 res.RightParen ∷ []

abbrev pub tree_loop : Exp
tree_loop = while 0 (vid_exp 6 (name_at 6 name_a)) (sequence 11 (exp (vid_exp 12 (name_at 12 name_b)) (exp (vid_exp 15 (name_at 15 name_c)) no_exps)))

pub loop : Reads with_all text_loop tree_loop []
loop = of_while 0 8 (of_atom (of_vid (plain_long (alpha_vid 6 name_a) refl))) (of_atom (of_sequence 11 13 16 (of_atom (of_vid (plain_long (alpha_vid 12 name_b) refl))) (last_of_sequence (of_atom (of_vid (plain_long (alpha_vid 15 name_c) refl))))))

-- x : t + y
abbrev pub text_unbracketed_typed_plus : List Terminal
text_unbracketed_typed_plus = alpha 0 name_x ∷ reserved 2 res.Colon ∷ alpha 4 name_t ∷ symbol 6 plus ∷ alpha 8 name_y ∷ []

abbrev pub tree_unbracketed_typed_plus : Exp
tree_unbracketed_typed_plus = typed (vid_exp 0 (name_at 0 name_x)) (con_ty 4 (ty (con_ty 4 (ty (con_ty 4 no_tys (record { place = 4; it = record { qualifiers = []; id = name_t } })) no_tys) (record { place = 6; it = record { qualifiers = []; id = plus } })) no_tys) (record { place = 8; it = record { qualifiers = []; id = name_y } }))

pub unbracketed_typed_plus : Reads with_plus text_unbracketed_typed_plus tree_unbracketed_typed_plus []
unbracketed_typed_plus = of_typed 2 (omega arith) refl (of_atom (of_vid (plain_long (alpha_vid 0 name_x) refl))) (of_tycon_1 (omega arith) (of_tycon_1 (omega arith) (of_tycon (short_tycon (alpha_tycon 4 name_t))) (short_tycon (symbol_tycon 6 plus)) refl) (short_tycon (alpha_tycon 8 name_y)) refl)
