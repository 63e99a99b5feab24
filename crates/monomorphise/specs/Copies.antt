-- The second program has, for each generalised binding of the first, one copy or more, at closed types. The first copy takes the turns of the binding; the
-- others, of a value, take none.
use Rattle.std.specs.Prelude.{◌≡◌, ℕ, Bool, true, false, List, [], map, Option, Some, None, nat_eq, ⊤}
use Rattle.mlc_names.specs.declared.label.Label.{Label}
use Rattle.mlc_base.specs.declared.place.Place.{Place}
use Rattle.mlc_prims.specs.LitOf.{Literal}
use Rattle.mlc_prims.specs.declared.basis.BasisPrimitive.{BasisPrimitive}
use Rattle.ty_core.specs.Types.{Typ, no_variable}
use Rattle.ty_core.specs.Statics.{replace}
use Rattle.ty_core.specs.declared.scheme.Quantified.{Quantified}
use Rattle.ir_mono.specs.of_ir_values.Tags.{Tagging}
use Rattle.ir_mono.specs.of_ir_plain.Kind.{Kind}
use Rattle.ir_mono.specs.of_ir_plain.Tree.{Case, is_literal, is_con, is_con_of, is_exn, is_exn_of, is_record, Exception, fixed, held, Atoms, no_atoms, an_atom, Row, no_row, a_row, Exp, ret, let_in, exception_in, name_in, rec_in, switch, first, miss, counted, Arms, no_arms, arm, Op, use_of, const, con_alone, construct, ref_alone, refer, content, pack, make_record, select, prim_alone, prim, app, fn, block, handle, raise, raise_initial, Fun, last, more, Funs, no_funs, fun, is_value_op}
use Rattle.ir_mono.specs.of_ir_plain.Copies.{strip_op}
use Rattle.ir_mono.specs.of_ir_poly.Tests.{inst, poly}
use Rattle.ir_mono.specs.of_ir_poly.Types.{changed, AreAllowed}

-- What copies are written in: names of variables, each its own use; types, with the closed type that each stands for; and what values keep of these. Whether a
-- type has a constructor.
pub record Target : Type 1 where
  pub Name : Type 0
  pub same : Name → Name → Bool
  pub Type_of : Type 0
  pub tags : Tagging
  pub tag_of : Type_of → tags.Tag
  pub Is : Type_of → Typ → Type 0
  pub Has : Type_of → ℕ → Type 0

abbrev pub kind_of : Target → Kind
kind_of T = record { Binder = T.Name; Use = T.Name; Type_of = T.Type_of; Params_of = ⊤; is_of = T.same; tags = T.tags; tag_of = T.tag_of }

-- a variable and its copy
pub data Pairs (M : Type 0) : Type 0 where
  no_pairs : Pairs M
  pair : ℕ → M → Pairs M → Pairs M

-- which copy stands for a variable at some types
pub data Copied (M : Type 0) : Type 0 where
  no_copies : Copied M
  entry : ℕ → List Typ → M → Copied M → Copied M

abbrev pub entries : {M : Type 0} → List Typ → Pairs M → Copied M → Copied M
entries a no_pairs r = r
entries a (pair x k qs) r = entry x a k (entries a qs r)

pub data Has {M : Type 0} (x : ℕ) (a : List Typ) (k : M) : Copied M → Type 0 where
  at_head : {r : Copied M} → Has x a k (entry x a k r)
  deeper : {y : ℕ} {b : List Typ} {j : M} {r : Copied M} → Has x a k r → Has x a k (entry y b j r)

-- nothing is said of the variable
pub data IsNewName {M : Type 0} (x : ℕ) : Copied M → Type 0 where
  new_name : IsNewName x no_copies
  newer_name : {y : ℕ} {b : List Typ} {j : M} {r : Copied M} → nat_eq y x ≡ false → IsNewName x r → IsNewName x (entry y b j r)

pub data IsNotAmong {M : Type 0} (x : ℕ) : Pairs M → Type 0 where
  among_none : IsNotAmong x no_pairs
  not_this : {y : ℕ} {j : M} {qs : Pairs M} → nat_eq y x ≡ false → IsNotAmong x qs → IsNotAmong x (pair y j qs)

-- the variables are new and distinct
pub data AreNewNames {M : Type 0} (r : Copied M) : Pairs M → Type 0 where
  no_names : AreNewNames r no_pairs
  a_new_name : {x : ℕ} {k : M} {qs : Pairs M} → IsNotAmong x qs → IsNewName x r → AreNewNames r qs → AreNewNames r (pair x k qs)

module _ (T : Target) where
  abbrev pub K : Kind
  K = kind_of T

  abbrev pub Names : Type 0
  Names = Copied T.Name

  pub data IsNewCopy (k : T.Name) : Names → Type 0 where
    new_copy : IsNewCopy k no_copies
    newer_copy : {y : ℕ} {b : List Typ} {j : T.Name} {r : Names} → T.same j k ≡ false → IsNewCopy k r → IsNewCopy k (entry y b j r)

  -- the copies are new and distinct
  pub data AreNewCopies (r : Names) (a : List Typ) : Pairs T.Name → Type 0 where
    none_copied : AreNewCopies r a no_pairs
    a_new_copy : {x : ℕ} {k : T.Name} {qs : Pairs T.Name} → IsNewCopy k (entries a qs r) → AreNewCopies r a qs → AreNewCopies r a (pair x k qs)

  -- atoms are variables that are not generalised
  pub data CopyAtoms (r : Names) : Atoms poly → Atoms K → Type 0 where
    copy_no_atoms : CopyAtoms r no_atoms no_atoms
    copy_an_atom : {x : ℕ} {k : T.Name} {as_ : Atoms poly} {as' : Atoms K} → Has x [] k r → CopyAtoms r as_ as'
        → CopyAtoms r (an_atom (inst x []) as_) (an_atom k as')

  pub data CopyRow (r : Names) : Row poly → Row K → Type 0 where
    copy_no_row : CopyRow r no_row no_row
    copy_a_row : (l : Label) {x : ℕ} {k : T.Name} {row : Row poly} {row' : Row K} → Has x [] k r → CopyRow r row row'
        → CopyRow r (a_row l (inst x []) row) (a_row l k row')

  pub data CopyName (r : Names) : Exception poly → Exception K → Type 0 where
    copy_fixed : (n : ℕ) → CopyName r (fixed n) (fixed n)
    copy_held : {y : ℕ} {j : T.Name} → Has y [] j r → CopyName r (held (inst y [])) (held j)

  -- the type of an exception's argument
  pub data CopyArgument (s : ℕ → Typ) : Option Typ → Option T.Type_of → Type 0 where
    copy_no_argument : CopyArgument s None None
    copy_argument : (t : Typ) (n : T.Type_of) → T.Is n (replace s t) → CopyArgument s (Some t) (Some n)

  -- an arm for values of the type u, and what is in scope where it fits
  pub data CopyCase (r : Names) (s : ℕ → Typ) (u : T.Type_of) : Case poly → Case K → Names → Type 0 where
    copy_is_literal : (l : Literal) → CopyCase r s u (is_literal l) (is_literal l) r
    copy_is_con : (c : ℕ) → T.Has u c → CopyCase r s u (is_con c) (is_con c) r
    copy_is_con_of : (c x : ℕ) (t : Typ) (k : T.Name) (n : T.Type_of) → T.Has u c → T.Is n (replace s t) → IsNewName x r → IsNewCopy k r
        → CopyCase r s u (is_con_of c x t) (is_con_of c k n) (entry x [] k r)
    copy_is_exn : {y : ℕ} {j : T.Name} → Has y [] j r → CopyCase r s u (is_exn (inst y [])) (is_exn j) r
    copy_is_exn_of : {y : ℕ} {j : T.Name} (x : ℕ) (t : Typ) (k : T.Name) (n : T.Type_of) → Has y [] j r → T.Is n (replace s t) → IsNewName x r → IsNewCopy k r
        → CopyCase r s u (is_exn_of (inst y []) x t) (is_exn_of j k n) (entry x [] k r)
    copy_is_record : (size : Option ℕ) → CopyCase r s u (is_record size) (is_record size) r

  mutual
    -- s says what type variables stand for
    pub data Copy : Names → (ℕ → Typ) → Exp poly → Exp K → Type 0 where
      copy_ret : {r : Names} {s : ℕ → Typ} {x : ℕ} {k : T.Name} → Has x [] k r → Copy r s (ret (inst x [])) (ret k)
      copy_let : {r : Names} {s : ℕ → Typ} {x : ℕ} {ps : List Quantified} {t : Typ} {o : Op poly} {e : Exp poly} {k : T.Name} {n : T.Type_of} {u : ⊤}
          {o' : Op K} {e' : Exp K} (a : List Typ)
          → AreAllowed no_variable ps a → T.Is n (replace (changed ps a s) t) → CopyOp r (changed ps a s) o o' → IsNewName x r → IsNewCopy k r
          → Rest r s x ps t o e (entry x a k r) e' → Copy r s (let_in x ps t o e) (let_in k u n o' e')
      copy_exception : {r : Names} {s : ℕ → Typ} (x i : ℕ) (k : T.Name) {t : Option Typ} {n : Option T.Type_of} {e : Exp poly} {e' : Exp K}
          → CopyArgument s t n → IsNewName x r → IsNewCopy k r
          → Copy (entry x [] k r) s e e' → Copy r s (exception_in x i t e) (exception_in k i n e')
      copy_name : {r : Names} {s : ℕ → Typ} {y : Exception poly} {j : Exception K} (x : ℕ) (k : T.Name) {e : Exp poly} {e' : Exp K} → CopyName r y j
          → IsNewName x r → IsNewCopy k r
          → Copy (entry x [] k r) s e e' → Copy r s (name_in x y e) (name_in k j e')
      copy_rec : {r : Names} {s : ℕ
          → Typ} {ps : List Quantified} {fs : Funs poly} {e : Exp poly} {u : ⊤} {fs' : Funs K} {e' : Exp K} {qs : Pairs T.Name} (a : List Typ)
          → AreAllowed no_variable ps a
          → CopyFuns (entries a qs r) (changed ps a s) fs fs' qs → AreNewNames r qs → AreNewCopies r a qs → RestGroups r s ps fs e (entries a qs r) e'
          → Copy r s (rec_in ps fs e) (rec_in u fs' e')
      copy_switch : {r : Names} {s : ℕ → Typ} {x : ℕ} {k : T.Name} (t : Typ) (n : T.Type_of) {arms : Arms poly} {arms' : Arms K} → Has x [] k r
          → T.Is n (replace s t) → CopyArms r s n arms arms'
          → Copy r s (switch (inst x []) t arms) (switch k n arms')
      copy_first : {r : Names} {s : ℕ → Typ} {e d : Exp poly} {e' d' : Exp K} → Copy r s e e' → Copy r s d d' → Copy r s (first e d) (first e' d')
      copy_miss : {r : Names} {s : ℕ → Typ} → Copy r s miss miss
      copy_counted : {r : Names} {s : ℕ → Typ} (n : ℕ) {e : Exp poly} {e' : Exp K} → Copy r s e e' → Copy r s (counted n e) (counted n e')

    pub data CopyArms : Names → (ℕ → Typ) → T.Type_of → Arms poly → Arms K → Type 0 where
      copy_no_arms : {r : Names} {s : ℕ → Typ} {u : T.Type_of} → CopyArms r s u no_arms no_arms
      copy_arm : {r r' : Names} {s : ℕ → Typ} {u : T.Type_of} {c : Case poly} {c' : Case K} {e : Exp poly} {e' : Exp K} {arms : Arms poly} {arms' : Arms K}
          → CopyCase r s u c c' r' → Copy r' s e e' → CopyArms r s u arms arms'
          → CopyArms r s u (arm c e arms) (arm c' e' arms')

    pub data CopyOp : Names → (ℕ → Typ) → Op poly → Op K → Type 0 where
      copy_use : {r : Names} {s : ℕ → Typ} {x : ℕ} {ts a : List Typ} {k : T.Name} → a ≡ map (replace s) ts → Has x a k r
          → CopyOp r s (use_of (inst x ts)) (use_of k)
      -- used at no types: a function in its own group, whose copy is the one that the group is copied to
      copy_own : {r : Names} {s : ℕ → Typ} {x : ℕ} (a : List Typ) {k : T.Name} → Has x a k r → CopyOp r s (use_of (inst x [])) (use_of k)
      copy_const : {r : Names} {s : ℕ → Typ} (l : Literal) → CopyOp r s (const l) (const l)
      copy_con_alone : {r : Names} {s : ℕ → Typ} (c : ℕ) (t : Typ) (n : T.Type_of) → T.Is n (replace s t) → T.Has n c
          → CopyOp r s (con_alone c t) (con_alone c n)
      copy_construct : {r : Names} {s : ℕ → Typ} (m : Option Place) (c : ℕ) (t : Typ) (n : T.Type_of) {x : ℕ} {k : T.Name} → T.Is n (replace s t) → T.Has n c
          → Has x [] k r
          → CopyOp r s (construct m c t (inst x [])) (construct m c n k)
      copy_ref_alone : {r : Names} {s : ℕ → Typ} (t : Typ) (n : T.Type_of) → T.Is n (replace s t) → CopyOp r s (ref_alone t) (ref_alone n)
      copy_refer : {r : Names} {s : ℕ → Typ} (m : Option Place) (t : Typ) (n : T.Type_of) {x : ℕ} {k : T.Name} → T.Is n (replace s t) → Has x [] k r
          → CopyOp r s (refer m t (inst x [])) (refer m n k)
      copy_content : {r : Names} {s : ℕ → Typ} (t : Typ) (n : T.Type_of) {x : ℕ} {k : T.Name} → T.Is n (replace s t) → Has x [] k r
          → CopyOp r s (content t (inst x [])) (content n k)
      copy_pack : {r : Names} {s : ℕ → Typ} (m : Option Place) (t : Typ) (n : T.Type_of) {y x : ℕ} {j k : T.Name} → T.Is n (replace s t) → Has y [] j r
          → Has x [] k r
          → CopyOp r s (pack m t (inst y []) (inst x [])) (pack m n j k)
      copy_make_record : {r : Names} {s : ℕ → Typ} (t : Typ) (n : T.Type_of) {row : Row poly} {row' : Row K} → T.Is n (replace s t) → CopyRow r row row'
          → CopyOp r s (make_record t row) (make_record n row')
      copy_select : {r : Names} {s : ℕ → Typ} (t : Typ) (n : T.Type_of) (l : Label) {x : ℕ} {k : T.Name} → T.Is n (replace s t) → Has x [] k r
          → CopyOp r s (select t l (inst x [])) (select n l k)
      copy_prim_alone : {r : Names} {s : ℕ → Typ} (p : BasisPrimitive) (t : Typ) (n : T.Type_of) → T.Is n (replace s t)
          → CopyOp r s (prim_alone p t) (prim_alone p n)
      copy_prim : {r : Names} {s : ℕ → Typ} (m : Option Place) (p : BasisPrimitive) (t : Typ) (n : T.Type_of) {as_ : Atoms poly} {as' : Atoms K}
          → T.Is n (replace s t) → CopyAtoms r as_ as'
          → CopyOp r s (prim m p t as_) (prim m p n as')
      copy_app : {r : Names} {s : ℕ → Typ} (place : Place) {f x : ℕ} {j k : T.Name} → Has f [] j r → Has x [] k r
          → CopyOp r s (app place (inst f []) (inst x [])) (app place j k)
      copy_fn : {r : Names} {s : ℕ → Typ} {f : Fun poly} {f' : Fun K} → CopyFun r s f f' → CopyOp r s (fn f) (fn f')
      copy_block : {r : Names} {s : ℕ → Typ} {e : Exp poly} {e' : Exp K} → Copy r s e e' → CopyOp r s (block e) (block e')
      copy_handle : {r : Names} {s : ℕ → Typ} (x : ℕ) (k : T.Name) {e d : Exp poly} {e' d' : Exp K} → Copy r s e e' → IsNewName x r → IsNewCopy k r
          → Copy (entry x [] k r) s d d' → CopyOp r s (handle e x d) (handle e' k d')
      copy_raise : {r : Names} {s : ℕ → Typ} {x : ℕ} {k : T.Name} → Has x [] k r → CopyOp r s (raise (inst x [])) (raise k)
      copy_raise_initial : {r : Names} {s : ℕ → Typ} (i : ℕ) → CopyOp r s (raise_initial i) (raise_initial i)

    pub data CopyFun : Names → (ℕ → Typ) → Fun poly → Fun K → Type 0 where
      copy_last : {r : Names} {s : ℕ → Typ} (x : ℕ) (t : Typ) (k : T.Name) (n : T.Type_of) {e : Exp poly} {e' : Exp K} → T.Is n (replace s t) → IsNewName x r
          → IsNewCopy k r → Copy (entry x [] k r) s e e'
          → CopyFun r s (last x t e) (last k n e')
      copy_more : {r : Names} {s : ℕ → Typ} (x : ℕ) (t : Typ) (k : T.Name) (n : T.Type_of) {f : Fun poly} {f' : Fun K} → T.Is n (replace s t) → IsNewName x r
          → IsNewCopy k r → CopyFun (entry x [] k r) s f f'
          → CopyFun r s (more x t f) (more k n f')

    -- the pairs are the functions of the group
    pub data CopyFuns : Names → (ℕ → Typ) → Funs poly → Funs K → Pairs T.Name → Type 0 where
      copy_no_funs : {r : Names} {s : ℕ → Typ} → CopyFuns r s no_funs no_funs no_pairs
      copy_fun : {r : Names} {s : ℕ
          → Typ} (x : ℕ) (t : Typ) (k : T.Name) (n : T.Type_of) {f : Fun poly} {f' : Fun K} {fs : Funs poly} {fs' : Funs K} {qs : Pairs T.Name}
          → T.Is n (replace s t) → CopyFun r s f f'
          → CopyFuns r s fs fs' qs → CopyFuns r s (fun x t f fs) (fun k n f' fs') (pair x k qs)

    -- further copies of the operation without its turns, and then what follows; the copies in scope are those around the binding, and those so far
    pub data Rest : Names → (ℕ → Typ) → ℕ → List Quantified → Typ → Op poly → Exp poly → Names → Exp K → Type 0 where
      no_more_copies : {r r' : Names} {s : ℕ → Typ} {x : ℕ} {ps : List Quantified} {t : Typ} {o : Op poly} {e : Exp poly} {e' : Exp K} → Copy r' s e e'
          → Rest r s x ps t o e r' e'
      one_more_copy : {r r' : Names} {s : ℕ → Typ} {x : ℕ} {ps : List Quantified} {t : Typ} {o : Op poly} {e : Exp poly} {k : T.Name} {n : T.Type_of} {u : ⊤}
          {o' : Op K} {e' : Exp K} (a : List Typ)
          → AreAllowed no_variable ps a → is_value_op o ≡ true → T.Is n (replace (changed ps a s) t) → CopyOp r (changed ps a s) (strip_op o) o'
          → IsNewCopy k r'
          → Rest r s x ps t o e (entry x a k r') e' → Rest r s x ps t o e r' (let_in k u n o' e')

    -- and of a group
    pub data RestGroups : Names → (ℕ → Typ) → List Quantified → Funs poly → Exp poly → Names → Exp K → Type 0 where
      no_more_groups : {r r' : Names} {s : ℕ → Typ} {ps : List Quantified} {fs : Funs poly} {e : Exp poly} {e' : Exp K} → Copy r' s e e'
          → RestGroups r s ps fs e r' e'
      one_more_group : {r r' : Names} {s : ℕ
          → Typ} {ps : List Quantified} {fs : Funs poly} {e : Exp poly} {u : ⊤} {fs' : Funs K} {e' : Exp K} {qs : Pairs T.Name} (a : List Typ)
          → AreAllowed no_variable ps a
          → CopyFuns (entries a qs r) (changed ps a s) fs fs' qs → AreNewNames r qs → AreNewCopies r' a qs → RestGroups r s ps fs e (entries a qs r') e'
          → RestGroups r s ps fs e r' (rec_in u fs' e')
