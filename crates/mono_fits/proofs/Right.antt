-- What fits is typed, named where it may be and bound nowhere twice; and what is so fits.
use Rattle.std.proofs.Common.{◌≡◌, ℕ, Bool, true, false, ◌&&◌, List, [], ◌∷◌, length, Option, Some, None, option_and_then, option_map, nat_eq, nat_lt, cond, refl, sym, ap, ap₂, ◌∙◌, subst}
use Rattle.std.proofs.lemmas.Bool.{eqb-true, and_parts, and_from}
use Rattle.mlc_names.specs.declared.label.Label.{Label}
use Rattle.ir_values.specs.Values.{same_label}
use Rattle.prog_check.specs.of_ir_poly.TestsChecked.{is_size}
use Rattle.ir_plain.specs.Tree.{Case, is_literal, is_con, is_con_of, is_exn as is_exn_case, is_exn_of, is_record, Exception, fixed, held, Atoms, no_atoms, an_atom, Row, no_row, a_row, Exp, ret, let_in, exception_in, name_in, rec_in, switch, first, miss, counted, Arms, no_arms, arm, Op, use_of, const, con_alone, construct, ref_alone, refer, content, pack, make_record, select, prim_alone, prim, app, fn, block, handle, raise, raise_initial, Fun, last, more, Funs, no_funs, fun}
use Rattle.ir_plain.specs.Scoped.{IsAmong, AtomsScoped, no_atoms_scoped, an_atom_scoped, RowScoped, no_row_scoped, a_row_scoped, CaseScoped, literal_scoped, con_scoped, con_of_scoped, exn_scoped, exn_of_scoped, record_scoped, IsScoped, ret_scoped, let_scoped, exception_scoped, name_scoped, rec_scoped, switch_scoped, first_scoped, miss_scoped, counted_scoped, ArmsScoped, no_arms_scoped, arm_scoped, OpScoped, use_scoped, const_scoped, con_alone_scoped, construct_scoped, ref_alone_scoped, refer_scoped, content_scoped, pack_scoped, make_record_scoped, select_scoped, prim_alone_scoped, prim_scoped, app_scoped, fn_scoped, block_scoped, handle_scoped, raise_scoped, raise_initial_scoped, FunScoped, last_scoped, more_scoped, FunsScoped, no_funs_scoped, fun_scoped, ReachesName, group_onto}
use Rattle.ir_plain.specs.Unique.{IsOutside, AreNew, none_new, one_new, CaseUnique, literal_unique, con_unique, con_of_unique, exn_unique, exn_of_unique, record_unique, IsUnique, ret_unique, let_unique, exception_unique, name_unique, rec_unique, switch_unique, first_unique, miss_unique, counted_unique, ArmsUnique, no_arms_unique, arm_unique, OpUnique, use_unique, const_unique, con_alone_unique, construct_unique, ref_alone_unique, refer_unique, content_unique, pack_unique, make_record_unique, select_unique, prim_alone_unique, prim_unique, app_unique, fn_unique, block_unique, handle_unique, raise_unique, raise_initial_unique, FunUnique, last_unique, more_unique, FunsUnique, no_funs_unique, fun_unique, funs_onto}
use Rattle.ty_core.specs.Types.{labels, name}
use Rattle.prog_check.specs.of_ir_poly.Types.{exn_name}
use Rattle.ir_mono.specs.Types as table
use Rattle.ir_mono.specs.Types.{node, node_at, constructor_at, part, IsExn, IsRef, IsTable, AreDistinct}
use Rattle.ir_mono.specs.Mono.{mono}
use Rattle.ir_mono.specs.Typing.{Sort, of_type, exception, Sorts, sort_of, group_sorts, ExceptionAt, AtomsTyped, no_atoms_typed, an_atom_typed, RowTyped, no_row_typed, a_row_typed, NameTyped, fixed_typed, held_typed, CaseTyped, literal_typed, con_typed, con_of_typed, exn_typed, exn_of_typed, record_typed, Typed, t_ret, t_let, t_exception, t_name, t_rec, t_switch, t_first, t_miss, t_counted, ArmsTyped, t_no_arms, t_arm, OpTyped, t_use, t_use_exception, t_const, t_con_alone, t_construct, t_ref_alone, t_refer, t_content, t_pack, t_make_record, t_select, t_prim_alone, t_prim, t_app, t_fn, t_block, t_handle, t_raise, t_raise_initial, FunTyped, t_last, t_more, FunsTyped, t_no_funs, t_fun}
use Rattle.prog_check.proofs.SameLemmas.{label-same, same-label, same-number}
use Rattle.mono_fits.specs.Asked.{given, same_argument, is_record_node, are_distinct, is_exn, is_reference, result_from, is_function, has_literal, has_constructor, is_alone, is_alone_use, is_exception, is_maker, field_of, is_sized, is_primitive, performs}
use Rattle.mono_fits.specs.Fits.{type_in, argument_in, type_of, argument_of, is_atom, is_exception_of, is_new, types_of, row_fits, name_argument, sort_fits, case_onto, case_fits, are_new, exp_fits, arms_fit, op_fits, fun_fits, funs_fit}
use Rattle.mono_fits.specs.Laws.{IsRight, FitsIsRight}
use Rattle.mono_fits.proofs.Deciding.{some-is, given-sound, given-since, then-sound, if-true, argument-same, same-argument, named-sound, named-since, reference-sound, reference-since, result-sound, result-since, function-sound, function-since, literal-sound, literal-since, constructor-sound, constructor-since, alone-sound, alone-since, exception-sound, exception-since, field-sound, field-since, record-sound, record-since, distinct-sound, distinct-since}
use Rattle.mono_fits.proofs.Primitives.{primitive-sound, primitive-since, performs-sound, performs-since}
use Rattle.mono_fits.proofs.Known.{keys, Within, within-none, within-more, within-group, known-among, among-within, new-outside, outside-new, group-scoped, group-unique}

-- What is known of a variable

sort-type : (s : Sort) (t : ℕ) → type_in s ≡ Some t → s ≡ of_type t
sort-type (of_type u) t e = ap of_type (some-is e)
sort-type (exception a) t e = absurd (cc)

sort-argument : (s : Sort) (a : Option ℕ) → argument_in s ≡ Some a → s ≡ exception a
sort-argument (of_type u) a e = absurd (cc)
sort-argument (exception b) a e = ap exception (some-is e)

pub type-is : (L : Sorts) (x t : ℕ) → type_of L x ≡ Some t → sort_of L x ≡ Some (of_type t)
type-is L x t e = let g = then-sound (sort_of L x) type_in t e in g.is ∙ ap Some (sort-type g.value t g.gives)

pub is-type : (L : Sorts) (x t : ℕ) → sort_of L x ≡ Some (of_type t) → type_of L x ≡ Some t
is-type L x t e = ap (option_and_then type_in) e

argument-is : (L : Sorts) (x : ℕ) (a : Option ℕ) → argument_of L x ≡ Some a → sort_of L x ≡ Some (exception a)
argument-is L x a e = let g = then-sound (sort_of L x) argument_in a e in g.is ∙ ap Some (sort-argument g.value a g.gives)

is-argument : (L : Sorts) (x : ℕ) (a : Option ℕ) → sort_of L x ≡ Some (exception a) → argument_of L x ≡ Some a
is-argument L x a e = ap (option_and_then argument_in) e

atom-is : (L : Sorts) (x t : ℕ) → is_atom L x t ≡ true → sort_of L x ≡ Some (of_type t)
atom-is L x t e = let g = given-sound (type_of L x) (nat_eq t) e in type-is L x t (g.is ∙ ap Some (sym (eqb-true t g.value g.so)))

is-atom : (L : Sorts) (x t : ℕ) → sort_of L x ≡ Some (of_type t) → is_atom L x t ≡ true
is-atom L x t e = given-since (type_of L x) (nat_eq t) t (is-type L x t e) (same-number t)

exception-is : (L : Sorts) (x : ℕ) (a : Option ℕ) → is_exception_of L x a ≡ true → sort_of L x ≡ Some (exception a)
exception-is L x a e = let g = given-sound (argument_of L x) (same_argument a) e in argument-is L x a (g.is ∙ ap Some (sym (argument-same a g.value g.so)))

is-exception : (L : Sorts) (x : ℕ) (a : Option ℕ) → sort_of L x ≡ Some (exception a) → is_exception_of L x a ≡ true
is-exception L x a e = given-since (argument_of L x) (same_argument a) a (is-argument L x a e) (same-argument a)

-- what is put into what is there
record IsMapped {A B : Type 0} (o : Option A) (f : A → B) (b : B) : Type 0 where
  value : A
  is : o ≡ Some value
  gives : f value ≡ b

map-sound : {A B : Type 0} (o : Option A) (f : A → B) (b : B) → option_map f o ≡ Some b → IsMapped o f b
map-sound None f b e = absurd (cc)
map-sound (Some a) f b e = record { value = a; is = refl; gives = some-is e }

-- An exception's name

name-lt : (n : ℕ) (a : Option ℕ) (b : Bool) → nat_lt n 7 ≡ b → cond b (Some None) None ≡ Some a → (nat_lt n 7 ≡ true) × (a ≡ None)
name-lt n a true d e = (d, sym (some-is e))
name-lt n a false d e = absurd (cc)

module _ (types : List table.Row) (exn : ℕ) where
  name-typed : (G : Sorts) (y : Exception (mono types)) (a : Option ℕ) → name_argument types exn G y ≡ Some a → NameTyped types G y a
  name-typed G (fixed n) a e = let p = name-lt n a (nat_lt n 7) refl e in subst (NameTyped types G (fixed n)) (sym p.1) (fixed_typed p.0)
  name-typed G (held x) a e = held_typed (argument-is G x a e)

  name-since : (G : Sorts) (y : Exception (mono types)) (a : Option ℕ) → NameTyped types G y a → name_argument types exn G y ≡ Some a
  name-since G (fixed n) a (fixed_typed e) = if-true (nat_lt n 7) (Some None) None e
  name-since G (held x) a (held_typed e) = is-argument G x a e

  name-scoped : (L : Sorts) (y : Exception (mono types)) → ReachesName (mono types) false y (keys L)
  name-scoped L (fixed n) = tt
  name-scoped L (held u) = tt

  -- Atoms

  types-typed : (L G : Sorts) (as_ : Atoms (mono types)) (ts : List ℕ) → Within L G → types_of types exn L as_ ≡ Some ts → AtomsTyped types G as_ ts
  types-typed L G no_atoms ts w e = subst (AtomsTyped types G no_atoms) (some-is e) no_atoms_typed
  types-typed L G (an_atom x as_) ts w e =
      let g = then-sound (type_of L x) (λ t. option_map (λ ts. t ∷ ts) (types_of types exn L as_)) ts e in
      let h = map-sound (types_of types exn L as_) (λ ts. g.value ∷ ts) ts g.gives in
      subst (AtomsTyped types G (an_atom x as_)) h.gives (an_atom_typed (w x (of_type g.value) (type-is L x g.value g.is)) (types-typed L G as_ h.value w h.is))

  types-scoped : (L : Sorts) (as_ : Atoms (mono types)) (ts : List ℕ) → types_of types exn L as_ ≡ Some ts → AtomsScoped (mono types) (keys L) as_
  types-scoped L no_atoms ts e = no_atoms_scoped
  types-scoped L (an_atom x as_) ts e =
      let g = then-sound (type_of L x) (λ t. option_map (λ ts. t ∷ ts) (types_of types exn L as_)) ts e in
      let h = map-sound (types_of types exn L as_) (λ ts. g.value ∷ ts) ts g.gives in
      an_atom_scoped (known-among types L x (of_type g.value) (type-is L x g.value g.is)) (types-scoped L as_ h.value h.is)

  types-since : (L G : Sorts) (as_ : Atoms (mono types)) (ts : List ℕ) → Within L G → AtomsTyped types G as_ ts → AtomsScoped (mono types) (keys L) as_ → types_of types exn L as_ ≡ Some ts
  types-since L G no_atoms ts w no_atoms_typed s = refl
  types-since L G (an_atom x as_) [] w p s = elim p [ ]
  types-since L G (an_atom x as_) (t ∷ ts) w (an_atom_typed e ps) (an_atom_scoped s ss) =
      ap (option_and_then (λ t. option_map (λ ts. t ∷ ts) (types_of types exn L as_))) (is-type L x t (among-within types L G x (of_type t) w s e))
      ∙ ap (option_map (λ ts. t ∷ ts)) (types-since L G as_ ts w ps ss)

  row-typed : (L G : Sorts) (row : Row (mono types)) (ls : List Label) (ts : List ℕ) → Within L G → row_fits types exn L row ls ts ≡ true → RowTyped types G row ls ts
  row-typed L G no_row [] [] w e = no_row_typed
  row-typed L G no_row [] (t ∷ ts) w e = absurd (cc)
  row-typed L G no_row (k ∷ ls) ts w e = absurd (cc)
  row-typed L G (a_row l x row) [] ts w e = absurd (cc)
  row-typed L G (a_row l x row) (k ∷ ls) [] w e = absurd (cc)
  row-typed L G (a_row l x row) (k ∷ ls) (t ∷ ts) w e =
      let a = and_parts (same_label l k) _ e in
      let b = and_parts (is_atom L x t) _ a.1 in
      subst (λ k. RowTyped types G (a_row l x row) (k ∷ ls) (t ∷ ts)) (label-same l k a.0) (a_row_typed (w x (of_type t) (atom-is L x t b.0)) (row-typed L G row ls ts w b.1))

  row-scoped : (L : Sorts) (row : Row (mono types)) (ls : List Label) (ts : List ℕ) → row_fits types exn L row ls ts ≡ true → RowScoped (mono types) (keys L) row
  row-scoped L no_row ls ts e = no_row_scoped
  row-scoped L (a_row l x row) [] ts e = absurd (cc)
  row-scoped L (a_row l x row) (k ∷ ls) [] e = absurd (cc)
  row-scoped L (a_row l x row) (k ∷ ls) (t ∷ ts) e =
      let a = and_parts (same_label l k) _ e in
      let b = and_parts (is_atom L x t) _ a.1 in
      a_row_scoped (known-among types L x (of_type t) (atom-is L x t b.0)) (row-scoped L row ls ts b.1)

  row-since : (L G : Sorts) (row : Row (mono types)) (ls : List Label) (ts : List ℕ) → Within L G → RowTyped types G row ls ts → RowScoped (mono types) (keys L) row → row_fits types exn L row ls ts ≡ true
  row-since L G no_row [] [] w no_row_typed s = refl
  row-since L G no_row [] (t ∷ ts) w p s = elim p [ ]
  row-since L G no_row (k ∷ ls) ts w p s = elim p [ ]
  row-since L G (a_row l x row) [] ts w p s = elim p [ ]
  row-since L G (a_row l x row) (k ∷ ls) [] w p s = elim p [ ]
  row-since L G (a_row l x row) (k ∷ ls) (t ∷ ts) w (a_row_typed e ps) (a_row_scoped s ss) =
      and_from (same_label l l) _ (same-label l) (and_from (is_atom L x t) _ (is-atom L x t (among-within types L G x (of_type t) w s e)) (row-since L G row ls ts w ps ss))

  -- Groups

  funs-new : (G : Sorts) (fs : Funs (mono types)) → are_new types exn G fs ≡ true → AreNew {F = mono types} (λ x. x) (keys G) fs
  funs-new G no_funs e = none_new
  funs-new G (fun x a f fs) e =
      let b = and_parts (are_new types exn G fs) _ e in
      one_new (subst (IsOutside x) (group-unique types fs G) (new-outside (group_sorts types fs G) x b.1)) (funs-new G fs b.0)

  new-funs : (G : Sorts) (fs : Funs (mono types)) → AreNew {F = mono types} (λ x. x) (keys G) fs → are_new types exn G fs ≡ true
  new-funs G no_funs n = refl
  new-funs G (fun x a f fs) (one_new n ns) =
      and_from (are_new types exn G fs) _ (new-funs G fs ns) (outside-new (group_sorts types fs G) x (subst (IsOutside x) (sym (group-unique types fs G)) n))

  -- Arms

  case-typed : (L G : Sorts) (c : Case (mono types)) (t : ℕ) → Within L G → case_fits types exn G L c t ≡ true → CaseTyped types G c t (case_onto types exn c G)
  case-typed L G (is_literal l) t w e = literal_typed (literal-sound types l t e)
  case-typed L G (is_con c) t w e = con_typed (constructor-sound types t c None e)
  case-typed L G (is_con_of c x a) t w e = let b = and_parts (has_constructor types t c (Some a)) _ e in con_of_typed (constructor-sound types t c (Some a) b.0)
  case-typed L G (is_exn_case y) t w e = let b = and_parts (is_exn types t) _ e in exn_typed (w y (exception None) (exception-is L y None b.1)) (named-sound types t exn_name b.0)
  case-typed L G (is_exn_of y x a) t w e =
      let b = and_parts (is_exn types t) _ e in
      let d = and_parts (is_exception_of L y (Some a)) _ b.1 in
      exn_of_typed (w y (exception (Some a)) (exception-is L y (Some a) d.0)) (named-sound types t exn_name b.0)
  case-typed L G (is_record size) t w e = let r = record-sound types t (λ ls ps. is_size size (length ls)) e in record_typed r.is r.so

  case-scoped : (L G : Sorts) (c : Case (mono types)) (t : ℕ) → case_fits types exn G L c t ≡ true → CaseScoped (mono types) (keys L) c (keys (case_onto types exn c L))
  case-scoped L G (is_literal l) t e = literal_scoped
  case-scoped L G (is_con c) t e = con_scoped
  case-scoped L G (is_con_of c x a) t e = con_of_scoped
  case-scoped L G (is_exn_case y) t e = let b = and_parts (is_exn types t) _ e in exn_scoped (known-among types L y (exception None) (exception-is L y None b.1))
  case-scoped L G (is_exn_of y x a) t e =
      let b = and_parts (is_exn types t) _ e in
      let d = and_parts (is_exception_of L y (Some a)) _ b.1 in
      exn_of_scoped (known-among types L y (exception (Some a)) (exception-is L y (Some a) d.0))
  case-scoped L G (is_record size) t e = record_scoped

  case-unique : (L G : Sorts) (c : Case (mono types)) (t : ℕ) → case_fits types exn G L c t ≡ true → CaseUnique {F = mono types} (λ x. x) (keys G) c (keys (case_onto types exn c G))
  case-unique L G (is_literal l) t e = literal_unique
  case-unique L G (is_con c) t e = con_unique
  case-unique L G (is_con_of c x a) t e = let b = and_parts (has_constructor types t c (Some a)) _ e in con_of_unique (new-outside G x b.1)
  case-unique L G (is_exn_case y) t e = exn_unique
  case-unique L G (is_exn_of y x a) t e =
      let b = and_parts (is_exn types t) _ e in
      let d = and_parts (is_exception_of L y (Some a)) _ b.1 in
      exn_of_unique (new-outside G x d.1)
  case-unique L G (is_record size) t e = record_unique

  within-case : (L G : Sorts) (c : Case (mono types)) → Within L G → Within (case_onto types exn c L) (case_onto types exn c G)
  within-case L G (is_literal l) w = w
  within-case L G (is_con c) w = w
  within-case L G (is_con_of c x a) w = within-more L G x (of_type a) w
  within-case L G (is_exn_case y) w = w
  within-case L G (is_exn_of y x a) w = within-more L G x (of_type a) w
  within-case L G (is_record size) w = w

  -- what an arm brings into scope is that
  record IsOnto (G G' L : Sorts) (xs bs : List ℕ) (c : Case (mono types)) : Type 0 where
    sorts : G' ≡ case_onto types exn c G
    scoped : xs ≡ keys (case_onto types exn c L)
    unique : bs ≡ keys (case_onto types exn c G)

  case-onto : (G G' L : Sorts) (xs bs : List ℕ) (c : Case (mono types)) (t : ℕ) → CaseTyped types G c t G' → CaseScoped (mono types) (keys L) c xs → CaseUnique {F = mono types} (λ x. x) (keys G) c bs → IsOnto G G' L xs bs c
  case-onto G G' L xs bs (is_literal l) t (literal_typed p) literal_scoped literal_unique = record { sorts = refl; scoped = refl; unique = refl }
  case-onto G G' L xs bs (is_con c) t (con_typed p) con_scoped con_unique = record { sorts = refl; scoped = refl; unique = refl }
  case-onto G G' L xs bs (is_con_of c x a) t (con_of_typed p) con_of_scoped (con_of_unique n) = record { sorts = refl; scoped = refl; unique = refl }
  case-onto G G' L xs bs (is_exn_case y) t (exn_typed p i) (exn_scoped s) exn_unique = record { sorts = refl; scoped = refl; unique = refl }
  case-onto G G' L xs bs (is_exn_of y x a) t (exn_of_typed p i) (exn_of_scoped s) (exn_of_unique n) = record { sorts = refl; scoped = refl; unique = refl }
  case-onto G G' L xs bs (is_record size) t (record_typed p i) record_scoped record_unique = record { sorts = refl; scoped = refl; unique = refl }

  case-since : (L G G' : Sorts) (xs bs : List ℕ) (c : Case (mono types)) (t : ℕ) → Within L G → CaseTyped types G c t G' → CaseScoped (mono types) (keys L) c xs → CaseUnique {F = mono types} (λ x. x) (keys G) c bs
      → case_fits types exn G L c t ≡ true
  case-since L G G' xs bs (is_literal l) t w (literal_typed p) literal_scoped literal_unique = literal-since types l t p
  case-since L G G' xs bs (is_con c) t w (con_typed p) con_scoped con_unique = constructor-since types t c None p
  case-since L G G' xs bs (is_con_of c x a) t w (con_of_typed p) con_of_scoped (con_of_unique n) = and_from (has_constructor types t c (Some a)) _ (constructor-since types t c (Some a) p) (outside-new G x n)
  case-since L G G' xs bs (is_exn_case y) t w (exn_typed p i) (exn_scoped s) exn_unique =
      and_from (is_exn types t) _ (named-since types t exn_name i) (is-exception L y None (among-within types L G y (exception None) w s p))
  case-since L G G' xs bs (is_exn_of y x a) t w (exn_of_typed p i) (exn_of_scoped s) (exn_of_unique n) =
      and_from (is_exn types t) _ (named-since types t exn_name i)
      (and_from (is_exception_of L y (Some a)) _ (is-exception L y (Some a) (among-within types L G y (exception (Some a)) w s p)) (outside-new G x n))
  case-since L G G' xs bs (is_record size) t w (record_typed {ls = ls} {ts = ts} p i) record_scoped record_unique = record-since types t (λ ls ps. is_size size (length ls)) ls ts p i

  -- Uses

  use-typed : (G : Sorts) (x t : ℕ) (s : Sort) → sort_of G x ≡ Some s → sort_fits types exn s t ≡ true → OpTyped types G (use_of x) t
  use-typed G x t (of_type u) e q = subst (OpTyped types G (use_of x)) (eqb-true u t q) (t_use e)
  use-typed G x t (exception a) e q = t_use_exception e (exception-sound types a t q)

  use-since : (G : Sorts) (x t : ℕ) → OpTyped types G (use_of x) t → given (sort_of G x) (λ s. sort_fits types exn s t) ≡ true
  use-since G x t (t_use e) = given-since (sort_of G x) (λ s. sort_fits types exn s t) (of_type t) e (same-number t)
  use-since G x t (t_use_exception {a = a} e i) = given-since (sort_of G x) (λ s. sort_fits types exn s t) (exception a) e (exception-since types a t i)

  record ExpRight (m : Bool) (G L : Sorts) (e : Exp (mono types)) (t : ℕ) : Type 0 where
    typed : Typed types m G e t
    scoped : IsScoped (mono types) false (keys L) e
    unique : IsUnique {F = mono types} (λ x. x) (keys G) e

  record ArmsRight (G L : Sorts) (arms : Arms (mono types)) (u t : ℕ) : Type 0 where
    typed : ArmsTyped types G arms u t
    scoped : ArmsScoped (mono types) false (keys L) arms
    unique : ArmsUnique {F = mono types} (λ x. x) (keys G) arms

  record OpRight (G L : Sorts) (o : Op (mono types)) (t : ℕ) : Type 0 where
    typed : OpTyped types G o t
    scoped : OpScoped (mono types) false (keys L) o
    unique : OpUnique {F = mono types} (λ x. x) (keys G) o

  record FunRight (G : Sorts) (f : Fun (mono types)) (t : ℕ) : Type 0 where
    typed : FunTyped types G f t
    scoped : FunScoped (mono types) false [] f
    unique : FunUnique {F = mono types} (λ x. x) (keys G) f

  record FunsRight (G : Sorts) (fs : Funs (mono types)) : Type 0 where
    typed : FunsTyped types G fs
    scoped : FunsScoped (mono types) false [] fs
    unique : FunsUnique {F = mono types} (λ x. x) (keys G) fs

  module _ (tab : IsTable types) (is : IsExn types exn) where
    mutual
      exp-right : (m : Bool) (G L : Sorts) (e : Exp (mono types)) (t : ℕ) → Within L G → exp_fits types exn m G L e t ≡ true → ExpRight m G L e t
      exp-right m G L (ret x) t w p = let q = atom-is L x t p in record { typed = t_ret (w x (of_type t) q); scoped = ret_scoped (known-among types L x (of_type t) q); unique = ret_unique }
      exp-right m G L (let_in x ps a o e) t w p =
          let b = and_parts (op_fits types exn G L o a) _ p in
          let d = and_parts (is_new G x) _ b.1 in
          let i = op-right G L o a w b.0 in
          let j = exp-right m ((x, of_type a) ∷ G) ((x, of_type a) ∷ L) e t (within-more L G x (of_type a) w) d.1 in
          record { typed = t_let i.typed j.typed; scoped = let_scoped i.scoped j.scoped; unique = let_unique (new-outside G x d.0) i.unique j.unique }
      exp-right m G L (exception_in x i a e) t w p =
          let d = and_parts (is_new G x) _ p in
          let j = exp-right m ((x, exception a) ∷ G) ((x, exception a) ∷ L) e t (within-more L G x (exception a) w) d.1 in
          record { typed = t_exception j.typed; scoped = exception_scoped j.scoped; unique = exception_unique (new-outside G x d.0) j.unique }
      exp-right m G L (name_in x y e) t w p =
          let g = given-sound (name_argument types exn G y) (λ a. is_new G x && exp_fits types exn m ((x, exception a) ∷ G) ((x, exception a) ∷ L) e t) p in
          let d = and_parts (is_new G x) _ g.so in
          let j = exp-right m ((x, exception g.value) ∷ G) ((x, exception g.value) ∷ L) e t (within-more L G x (exception g.value) w) d.1 in
          record { typed = t_name (name-typed G y g.value g.is) j.typed; scoped = name_scoped (name-scoped L y) j.scoped; unique = name_unique (new-outside G x d.0) j.unique }
      exp-right m G L (rec_in ps fs e) t w p =
          let b = and_parts (are_new types exn G fs) _ p in
          let d = and_parts (funs_fit types exn (group_sorts types fs G) fs) _ b.1 in
          let i = funs-right (group_sorts types fs G) fs d.0 in
          let j = exp-right m (group_sorts types fs G) (group_sorts types fs L) e t (within-group types fs L G w) d.1 in
          record {
            typed = t_rec i.typed j.typed;
            scoped = rec_scoped i.scoped (subst (λ xs. IsScoped (mono types) false xs e) (group-scoped types fs L) j.scoped);
            unique = rec_unique (funs-new G fs b.0) (subst (λ xs. FunsUnique {F = mono types} (λ x. x) xs fs) (group-unique types fs G) i.unique)
                (subst (λ xs. IsUnique {F = mono types} (λ x. x) xs e) (group-unique types fs G) j.unique);
          }
      exp-right m G L (switch x u arms) t w p =
          let b = and_parts m _ p in
          let d = and_parts (is_atom L x u) _ b.1 in
          let q = atom-is L x u d.0 in
          let i = arms-right G L arms u t w d.1 in
          record {
            typed = subst (λ m. Typed types m G (switch x u arms) t) (sym b.0) (t_switch (w x (of_type u) q) i.typed);
            scoped = switch_scoped (known-among types L x (of_type u) q) i.scoped;
            unique = switch_unique i.unique;
          }
      exp-right m G L (first e d) t w p =
          let b = and_parts (exp_fits types exn true G L e t) _ p in
          let i = exp-right true G L e t w b.0 in
          let j = exp-right m G L d t w b.1 in
          record { typed = t_first i.typed j.typed; scoped = first_scoped i.scoped j.scoped; unique = first_unique i.unique j.unique }
      exp-right m G L miss t w p = record { typed = subst (λ m. Typed types m G miss t) (sym p) t_miss; scoped = miss_scoped; unique = miss_unique }
      exp-right m G L (counted k e) t w p = let j = exp-right m G L e t w p in record { typed = t_counted j.typed; scoped = counted_scoped j.scoped; unique = counted_unique j.unique }

      arms-right : (G L : Sorts) (arms : Arms (mono types)) (u t : ℕ) → Within L G → arms_fit types exn G L arms u t ≡ true → ArmsRight G L arms u t
      arms-right G L no_arms u t w p = record { typed = t_no_arms; scoped = no_arms_scoped; unique = no_arms_unique }
      arms-right G L (arm c e arms) u t w p =
          let b = and_parts (case_fits types exn G L c u) _ p in
          let d = and_parts (exp_fits types exn true (case_onto types exn c G) (case_onto types exn c L) e t) _ b.1 in
          let i = exp-right true (case_onto types exn c G) (case_onto types exn c L) e t (within-case L G c w) d.0 in
          let j = arms-right G L arms u t w d.1 in
          record {
            typed = t_arm (case-typed L G c u w b.0) i.typed j.typed;
            scoped = arm_scoped (case-scoped L G c u b.0) i.scoped j.scoped;
            unique = arm_unique (case-unique L G c u b.0) i.unique j.unique;
          }

      op-right : (G L : Sorts) (o : Op (mono types)) (t : ℕ) → Within L G → op_fits types exn G L o t ≡ true → OpRight G L o t
      op-right G L (use_of x) t w p = let g = given-sound (sort_of G x) (λ s. sort_fits types exn s t) p in record { typed = use-typed G x t g.value g.is g.so; scoped = use_scoped tt; unique = use_unique }
      op-right G L (const l) t w p = record { typed = t_const (literal-sound types l t p); scoped = const_scoped; unique = const_unique }
      op-right G L (con_alone c u) t w p =
          let g = given-sound (constructor_at types u c) (λ a. is_alone types a u t) p in
          record { typed = t_con_alone g.is (alone-sound types g.value u t g.so); scoped = con_alone_scoped; unique = con_alone_unique }
      op-right G L (construct k c u x) t w p =
          let b = and_parts (nat_eq u t) _ p in
          let g = given-sound (type_of L x) (λ a. has_constructor types t c (Some a)) b.1 in
          let q = type-is L x g.value g.is in
          record {
            typed = subst (λ u. OpTyped types G (construct k c u x) t) (sym (eqb-true u t b.0)) (t_construct (constructor-sound types t c (Some g.value) g.so) (w x (of_type g.value) q));
            scoped = construct_scoped (known-among types L x (of_type g.value) q);
            unique = construct_unique;
          }
      op-right G L (ref_alone a) t w p =
          let g = given-sound (result_from types t a) (λ r. is_reference types r a) p in
          record { typed = t_ref_alone (result-sound types t a g.value g.is) (reference-sound types g.value a g.so); scoped = ref_alone_scoped; unique = ref_alone_unique }
      op-right G L (refer k a x) t w p =
          let b = and_parts (is_atom L x a) _ p in
          let q = atom-is L x a b.0 in
          record { typed = t_refer (w x (of_type a) q) (reference-sound types t a b.1); scoped = refer_scoped (known-among types L x (of_type a) q); unique = refer_unique }
      op-right G L (content u x) t w p =
          let b = and_parts (nat_eq u t) _ p in
          let g = given-sound (type_of L x) (λ r. is_reference types r t) b.1 in
          let q = type-is L x g.value g.is in
          record {
            typed = subst (λ u. OpTyped types G (content u x) t) (sym (eqb-true u t b.0)) (t_content (w x (of_type g.value) q) (reference-sound types g.value t g.so));
            scoped = content_scoped (known-among types L x (of_type g.value) q);
            unique = content_unique;
          }
      op-right G L (pack k a y x) t w p =
          let b = and_parts (is_exception_of L y (Some a)) _ p in
          let d = and_parts (is_atom L x a) _ b.1 in
          let q = exception-is L y (Some a) b.0 in
          let r = atom-is L x a d.0 in
          record {
            typed = t_pack (w y (exception (Some a)) q) (w x (of_type a) r) (named-sound types t exn_name d.1);
            scoped = pack_scoped (known-among types L y (exception (Some a)) q) (known-among types L x (of_type a) r);
            unique = pack_unique;
          }
      op-right G L (make_record u row) t w p =
          let b = and_parts (nat_eq u t) _ p in
          let r = record-sound types t (λ ls ts. row_fits types exn L row ls ts && are_distinct ls) b.1 in
          let d = and_parts (row_fits types exn L row r.names r.parts) _ r.so in
          record {
            typed = subst (λ u. OpTyped types G (make_record u row) t) (sym (eqb-true u t b.0)) (t_make_record (row-typed L G row r.names r.parts w d.0) r.is (distinct-sound r.names d.1));
            scoped = make_record_scoped (row-scoped L row r.names r.parts d.0);
            unique = make_record_unique;
          }
      op-right G L (select u l x) t w p =
          let b = and_parts (is_atom L x u) _ p in
          let q = atom-is L x u b.0 in
          let g = given-sound (field_of types u l) (nat_eq t) b.1 in
          let f = field-sound types u l g.value g.is in
          record { typed = t_select (w x (of_type u) q) f.is (f.there ∙ ap Some (sym (eqb-true t g.value g.so))); scoped = select_scoped (known-among types L x (of_type u) q); unique = select_unique }
      op-right G L (prim_alone q u) t w p = let r = primitive-sound types q u t p in record { typed = t_prim_alone r.at r.tuple r.function; scoped = prim_alone_scoped; unique = prim_alone_unique }
      op-right G L (prim k q u as_) t w p =
          let g = given-sound (types_of types exn L as_) (λ ts. performs types q u ts t) p in
          record { typed = t_prim (performs-sound types q u g.value t g.so) (types-typed L G as_ g.value w g.is); scoped = prim_scoped (types-scoped L as_ g.value g.is); unique = prim_unique }
      op-right G L (app place f x) t w p =
          let g = given-sound (type_of L f) (λ u. given (type_of L x) (λ a. is_function types u a t)) p in
          let h = given-sound (type_of L x) (λ a. is_function types g.value a t) g.so in
          let q = type-is L f g.value g.is in
          let r = type-is L x h.value h.is in
          record {
            typed = t_app (w f (of_type g.value) q) (function-sound types g.value h.value t h.so) (w x (of_type h.value) r);
            scoped = app_scoped (known-among types L f (of_type g.value) q) (known-among types L x (of_type h.value) r);
            unique = app_unique;
          }
      op-right G L (fn f) t w p = let i = fun-right G f t p in record { typed = t_fn i.typed; scoped = fn_scoped i.scoped; unique = fn_unique i.unique }
      op-right G L (block e) t w p = let i = exp-right false G L e t w p in record { typed = t_block i.typed; scoped = block_scoped i.scoped; unique = block_unique i.unique }
      op-right G L (handle e x d) t w p =
          let b = and_parts (exp_fits types exn false G L e t) _ p in
          let c = and_parts (is_new G x) _ b.1 in
          let i = exp-right false G L e t w b.0 in
          let j = exp-right false ((x, of_type exn) ∷ G) ((x, of_type exn) ∷ L) d t (within-more L G x (of_type exn) w) c.1 in
          record { typed = t_handle i.typed is j.typed; scoped = handle_scoped i.scoped j.scoped; unique = handle_unique i.unique (new-outside G x c.0) j.unique }
      op-right G L (raise x) t w p =
          let g = given-sound (type_of L x) (is_exn types) p in
          let q = type-is L x g.value g.is in
          record { typed = t_raise (w x (of_type g.value) q) (named-sound types g.value exn_name g.so); scoped = raise_scoped (known-among types L x (of_type g.value) q); unique = raise_unique }
      op-right G L (raise_initial n) t w p = record { typed = t_raise_initial p; scoped = raise_initial_scoped; unique = raise_initial_unique }

      fun-right : (G : Sorts) (f : Fun (mono types)) (t : ℕ) → fun_fits types exn G f t ≡ true → FunRight G f t
      fun-right G (last x a e) t p =
          let g = given-sound (result_from types t a) (λ u. is_new G x && exp_fits types exn false ((x, of_type a) ∷ G) ((x, of_type a) ∷ []) e u) p in
          let d = and_parts (is_new G x) _ g.so in
          let j = exp-right false ((x, of_type a) ∷ G) ((x, of_type a) ∷ []) e g.value (within-more [] G x (of_type a) (within-none G)) d.1 in
          record { typed = t_last (result-sound types t a g.value g.is) j.typed; scoped = last_scoped j.scoped; unique = last_unique (new-outside G x d.0) j.unique }
      fun-right G (more x a f) t p =
          let g = given-sound (result_from types t a) (λ u. is_new G x && fun_fits types exn ((x, of_type a) ∷ G) f u) p in
          let d = and_parts (is_new G x) _ g.so in
          let j = fun-right ((x, of_type a) ∷ G) f g.value d.1 in
          record { typed = t_more (result-sound types t a g.value g.is) j.typed; scoped = more_scoped j.scoped; unique = more_unique (new-outside G x d.0) j.unique }

      funs-right : (G : Sorts) (fs : Funs (mono types)) → funs_fit types exn G fs ≡ true → FunsRight G fs
      funs-right G no_funs p = record { typed = t_no_funs; scoped = no_funs_scoped; unique = no_funs_unique }
      funs-right G (fun x a f fs) p =
          let b = and_parts (fun_fits types exn G f a) _ p in
          let i = fun-right G f a b.0 in
          let j = funs-right G fs b.1 in
          record { typed = t_fun i.typed j.typed; scoped = fun_scoped i.scoped j.scoped; unique = fun_unique i.unique j.unique }

    mutual
      exp-fits : (m : Bool) (G L : Sorts) (e : Exp (mono types)) (t : ℕ) → Within L G → Typed types m G e t → IsScoped (mono types) false (keys L) e → IsUnique {F = mono types} (λ x. x) (keys G) e
          → exp_fits types exn m G L e t ≡ true
      exp-fits m G L (ret x) t w (t_ret p) (ret_scoped s) u = is-atom L x t (among-within types L G x (of_type t) w s p)
      exp-fits m G L (let_in x ps a o e) t w (t_let p q) (let_scoped s s') (let_unique n u u') =
          and_from (op_fits types exn G L o a) _ (op-fits G L o a w p s u)
          (and_from (is_new G x) _ (outside-new G x n) (exp-fits m ((x, of_type a) ∷ G) ((x, of_type a) ∷ L) e t (within-more L G x (of_type a) w) q s' u'))
      exp-fits m G L (exception_in x i a e) t w (t_exception q) (exception_scoped s) (exception_unique n u) =
          and_from (is_new G x) _ (outside-new G x n) (exp-fits m ((x, exception a) ∷ G) ((x, exception a) ∷ L) e t (within-more L G x (exception a) w) q s u)
      exp-fits m G L (name_in x y e) t w (t_name {a = a} p q) (name_scoped r s) (name_unique n u) =
          given-since (name_argument types exn G y) (λ a. is_new G x && exp_fits types exn m ((x, exception a) ∷ G) ((x, exception a) ∷ L) e t) a (name-since G y a p)
          (and_from (is_new G x) _ (outside-new G x n) (exp-fits m ((x, exception a) ∷ G) ((x, exception a) ∷ L) e t (within-more L G x (exception a) w) q s u))
      exp-fits m G L (rec_in ps fs e) t w (t_rec p q) (rec_scoped s s') (rec_unique n u u') =
          and_from (are_new types exn G fs) _ (new-funs G fs n)
          (and_from (funs_fit types exn (group_sorts types fs G) fs) _ (funs-fit (group_sorts types fs G) fs p s (subst (λ xs. FunsUnique {F = mono types} (λ x. x) xs fs) (sym (group-unique types fs G)) u))
          (exp-fits m (group_sorts types fs G) (group_sorts types fs L) e t (within-group types fs L G w) q (subst (λ xs. IsScoped (mono types) false xs e) (sym (group-scoped types fs L)) s')
          (subst (λ xs. IsUnique {F = mono types} (λ x. x) xs e) (sym (group-unique types fs G)) u')))
      exp-fits m G L (switch x u arms) t w (t_switch p q) (switch_scoped s s') (switch_unique v) =
          and_from true _ refl (and_from (is_atom L x u) _ (is-atom L x u (among-within types L G x (of_type u) w s p)) (arms-fit G L arms u t w q s' v))
      exp-fits m G L (first e d) t w (t_first p q) (first_scoped s s') (first_unique u u') =
          and_from (exp_fits types exn true G L e t) _ (exp-fits true G L e t w p s u) (exp-fits m G L d t w q s' u')
      exp-fits m G L miss t w t_miss miss_scoped u = refl
      exp-fits m G L (counted k e) t w (t_counted p) (counted_scoped s) (counted_unique u) = exp-fits m G L e t w p s u

      arms-fit : (G L : Sorts) (arms : Arms (mono types)) (u t : ℕ) → Within L G → ArmsTyped types G arms u t → ArmsScoped (mono types) false (keys L) arms → ArmsUnique {F = mono types} (λ x. x) (keys G) arms
          → arms_fit types exn G L arms u t ≡ true
      arms-fit G L no_arms u t w t_no_arms no_arms_scoped no_arms_unique = refl
      arms-fit G L (arm c e arms) u t w (t_arm {G' = G'} p q r) (arm_scoped {xs' = xs'} s s' ss) (arm_unique {bs' = bs'} n n' ns) =
          let same = case-onto G G' L xs' bs' c u p s n in
          and_from (case_fits types exn G L c u) _ (case-since L G G' xs' bs' c u w p s n)
          (and_from (exp_fits types exn true (case_onto types exn c G) (case_onto types exn c L) e t) _
          (exp-fits true (case_onto types exn c G) (case_onto types exn c L) e t (within-case L G c w) (subst (λ G. Typed types true G e t) same.sorts q) (subst (λ xs. IsScoped (mono types) false xs e) same.scoped s')
          (subst (λ bs. IsUnique {F = mono types} (λ x. x) bs e) same.unique n')) (arms-fit G L arms u t w r ss ns))

      op-fits : (G L : Sorts) (o : Op (mono types)) (t : ℕ) → Within L G → OpTyped types G o t → OpScoped (mono types) false (keys L) o → OpUnique {F = mono types} (λ x. x) (keys G) o → op_fits types exn G L o t ≡ true
      op-fits G L (use_of x) t w p s u = use-since G x t p
      op-fits G L (const l) t w (t_const p) s u = literal-since types l t p
      op-fits G L (con_alone c k) t w (t_con_alone {a = a} p q) s u = given-since (constructor_at types k c) (λ a. is_alone types a k t) a p (alone-since types a k t q)
      op-fits G L (construct m c k x) t w (t_construct {a = a} p q) (construct_scoped s) u =
          and_from (nat_eq t t) _ (same-number t)
          (given-since (type_of L x) (λ a. has_constructor types t c (Some a)) a (is-type L x a (among-within types L G x (of_type a) w s q)) (constructor-since types t c (Some a) p))
      op-fits G L (ref_alone a) t w (t_ref_alone {r = r} p q) s u = given-since (result_from types t a) (λ r. is_reference types r a) r (result-since types t a r p) (reference-since types r a q)
      op-fits G L (refer m a x) t w (t_refer p q) (refer_scoped s) u = and_from (is_atom L x a) _ (is-atom L x a (among-within types L G x (of_type a) w s p)) (reference-since types t a q)
      op-fits G L (content k x) t w (t_content {u = r} p q) (content_scoped s) u =
          and_from (nat_eq t t) _ (same-number t) (given-since (type_of L x) (λ r. is_reference types r t) r (is-type L x r (among-within types L G x (of_type r) w s p)) (reference-since types r t q))
      op-fits G L (pack m a y x) t w (t_pack p q i) (pack_scoped s s') u =
          and_from (is_exception_of L y (Some a)) _ (is-exception L y (Some a) (among-within types L G y (exception (Some a)) w s p))
          (and_from (is_atom L x a) _ (is-atom L x a (among-within types L G x (of_type a) w s' q)) (named-since types t exn_name i))
      op-fits G L (make_record k row) t w (t_make_record {ls = ls} {ts = ts} p i d) (make_record_scoped s) u =
          and_from (nat_eq t t) _ (same-number t)
          (record-since types t (λ ls ts. row_fits types exn L row ls ts && are_distinct ls) ls ts i (and_from (row_fits types exn L row ls ts) _ (row-since L G row ls ts w p s) (distinct-since ls d)))
      op-fits G L (select k l x) t w (t_select {ls = ls} {ts = ts} p i e) (select_scoped s) u =
          and_from (is_atom L x k) _ (is-atom L x k (among-within types L G x (of_type k) w s p)) (given-since (field_of types k l) (nat_eq t) t (field-since types k l t ls ts i e) (same-number t))
      op-fits G L (prim_alone q k) t w (t_prim_alone {a = a} {r = r} {ns = ns} p i f) s u = primitive-since types q k t a r ns p i f
      op-fits G L (prim m q k as_) t w (t_prim {ns = ns} p ps) (prim_scoped s) u =
          given-since (types_of types exn L as_) (λ ts. performs types q k ts t) ns (types-since L G as_ ns w ps s) (performs-since types q k ns t p)
      op-fits G L (app place f x) t w (t_app {u = k} {a = a} p i q) (app_scoped s s') u =
          given-since (type_of L f) (λ u. given (type_of L x) (λ a. is_function types u a t)) k (is-type L f k (among-within types L G f (of_type k) w s p))
          (given-since (type_of L x) (λ a. is_function types k a t) a (is-type L x a (among-within types L G x (of_type a) w s' q)) (function-since types k a t i))
      op-fits G L (fn f) t w (t_fn p) (fn_scoped s) (fn_unique u) = fun-fits G f t p s u
      op-fits G L (block e) t w (t_block p) (block_scoped s) (block_unique u) = exp-fits false G L e t w p s u
      op-fits G L (handle e x d) t w (t_handle {n = n} p i q) (handle_scoped s s') (handle_unique u o u') =
          and_from (exp_fits types exn false G L e t) _ (exp-fits false G L e t w p s u)
          (and_from (is_new G x) _ (outside-new G x o) (exp-fits false ((x, of_type exn) ∷ G) ((x, of_type exn) ∷ L) d t (within-more L G x (of_type exn) w)
          (subst (λ n. Typed types false ((x, of_type n) ∷ G) d t) (tab.once n exn (node (name exn_name) []) i is) q) s' u'))
      op-fits G L (raise x) t w (t_raise {u = k} p i) (raise_scoped s) u = given-since (type_of L x) (is_exn types) k (is-type L x k (among-within types L G x (of_type k) w s p)) (named-since types k exn_name i)
      op-fits G L (raise_initial n) t w (t_raise_initial p) s u = p

      fun-fits : (G : Sorts) (f : Fun (mono types)) (t : ℕ) → FunTyped types G f t → FunScoped (mono types) false [] f → FunUnique {F = mono types} (λ x. x) (keys G) f → fun_fits types exn G f t ≡ true
      fun-fits G (last x a e) t (t_last {b = r} i p) (last_scoped s) (last_unique n u) =
          given-since (result_from types t a) (λ u. is_new G x && exp_fits types exn false ((x, of_type a) ∷ G) ((x, of_type a) ∷ []) e u) r (result-since types t a r i)
          (and_from (is_new G x) _ (outside-new G x n) (exp-fits false ((x, of_type a) ∷ G) ((x, of_type a) ∷ []) e r (within-more [] G x (of_type a) (within-none G)) p s u))
      fun-fits G (more x a f) t (t_more {b = r} i p) (more_scoped s) (more_unique n u) =
          given-since (result_from types t a) (λ u. is_new G x && fun_fits types exn ((x, of_type a) ∷ G) f u) r (result-since types t a r i)
          (and_from (is_new G x) _ (outside-new G x n) (fun-fits ((x, of_type a) ∷ G) f r p s u))

      funs-fit : (G : Sorts) (fs : Funs (mono types)) → FunsTyped types G fs → FunsScoped (mono types) false [] fs → FunsUnique {F = mono types} (λ x. x) (keys G) fs → funs_fit types exn G fs ≡ true
      funs-fit G no_funs t_no_funs no_funs_scoped no_funs_unique = refl
      funs-fit G (fun x a f fs) (t_fun p ps) (fun_scoped s ss) (fun_unique u us) = and_from (fun_fits types exn G f a) _ (fun-fits G f a p s u) (funs-fit G fs ps ss us)

pub fits-is-right : FitsIsRight
fits-is-right types exn tab is m e t = (
  (λ p. let r = exp-right types exn tab is m [] [] e t (within-none []) p in record { typed = r.typed; local = r.scoped; unique = r.unique }),
  (λ r. exp-fits types exn tab is m [] [] e t (within-none []) r.typed r.local r.unique),
)
