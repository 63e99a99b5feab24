-- Which programs are well typed. The Bool says whether a miss goes on somewhere: only there may an expression miss, and a miss has any type.
use Rattle.std.specs.Prelude.{◌≡◌, ℕ, Bool, true, false, List, [], ◌∷◌, length, Option, Some, None, nat_eq, nat_lt, ⊤}
use Rattle.std.specs.Map.{lookup}
use Rattle.ir_poly.specs.of_mlc_names.declared.label.Label.{Label}
use Rattle.mlc_base.specs.declared.place.Place.{Place}
use Rattle.ir_poly.specs.of_mlc_prims.LitOf.{Literal}
use Rattle.ir_poly.specs.of_mlc_prims.declared.basis.BasisPrimitive.{BasisPrimitive}
use Rattle.ir_poly.specs.of_ty_core.Types.{labels, name, typs_of}
use Rattle.ir_poly.specs.of_ty_core.Marks.{has, overloaded}
use Rattle.ir_poly.specs.of_ty_core.declared.mark.Class.{Class}
use Rattle.ir_poly.specs.of_ty_core.declared.mark.Mark.{Mark}
use Rattle.ir_poly.specs.of_ty_core.declared.mark.Mark.TheVariants.{Any, Equality, Class as OfClass}
use Rattle.ir_poly.specs.of_ir_plain.Tree.{Case, is_literal, is_con, is_con_of, is_exn, is_exn_of, is_record, Exception, fixed, held, Atoms, no_atoms, an_atom, Row, no_row, a_row, Exp, ret, let_in, exception_in, name_in, rec_in, switch, first, miss, counted, Arms, no_arms, arm, Op, use_of, const, con_alone, construct, ref_alone, refer, content, pack, make_record, select, prim_alone, prim, app, fn, block, handle, raise, raise_initial, Fun, last, more, Funs, no_funs, fun}
use Rattle.ir_poly.specs.Types.{prim_type}
use Rattle.ir_poly.specs.TestsChecked.{is_size}
use Rattle.ir_mono.specs.Types as table
use Rattle.ir_mono.specs.Types.{constructor_at, admits, part, Is, IsFunction, IsRef, IsExn, HasLiteral, AreDistinct, Stands, AllStand, IsTuple}
use Rattle.ir_mono.specs.Mono.{mono}

-- what a variable is: of a type; or an exception, with the type of its argument
pub data Sort : Type 0 where
  of_type : ℕ → Sort
  exception : Option ℕ → Sort

abbrev pub Sorts : Type 0
Sorts = List (ℕ × Sort)

abbrev pub sort_of : Sorts → ℕ → Option Sort
sort_of G x = lookup (nat_eq x) G

module _ (types : List table.Row) where
  -- the functions of a group
  abbrev pub group_sorts : Funs (mono types) → Sorts → Sorts
  group_sorts no_funs G = G
  group_sorts (fun x t f fs) G = (x, of_type t) ∷ group_sorts fs G

  -- a type of the class
  pub record IsOf (c : Class) (n : ℕ) : Type 0 where
    pub number : ℕ
    pub is : Is types n (name (overloaded number)) []
    pub held : has c number ≡ true

  -- a type that a primitive's mark allows
  abbrev pub Allows : Mark → ℕ → Type 0
  Allows Any n = ⊤
  Allows Equality n = admits types n ≡ true
  Allows (OfClass c) n = IsOf c n

  -- a primitive at the type u: the types of its arguments and of its result
  pub record PrimAt (p : BasisPrimitive) (u : ℕ) (ns : List ℕ) (r : ℕ) : Type 0 where
    pub mark : Allows (prim_type p).mark u
    pub arguments : AllStand types (λ v. u) ns (typs_of (prim_type p).arguments)
    pub result : Stands types (λ v. u) r (prim_type p).result

  -- an exception as a value: a packet, or a function to packets
  pub data ExceptionAt : Option ℕ → ℕ → Type 0 where
    packet_at : {n : ℕ} → IsExn types n → ExceptionAt None n
    to_packets_at : {a n e : ℕ} → IsFunction types n a e → IsExn types e → ExceptionAt (Some a) n

  -- a constructor alone: of its datatype, or a function to it
  pub data AloneAt : Option ℕ → (datatype type : ℕ) → Type 0 where
    value_at : {u : ℕ} → AloneAt None u u
    function_at : {a u n : ℕ} → IsFunction types n a u → AloneAt (Some a) u n

  pub data AtomsTyped (G : Sorts) : Atoms (mono types) → List ℕ → Type 0 where
    no_atoms_typed : AtomsTyped G no_atoms []
    an_atom_typed : {x t : ℕ} {as_ : Atoms (mono types)} {ts : List ℕ} → sort_of G x ≡ Some (of_type t) → AtomsTyped G as_ ts
        → AtomsTyped G (an_atom x as_) (t ∷ ts)

  pub data RowTyped (G : Sorts) : Row (mono types) → List Label → List ℕ → Type 0 where
    no_row_typed : RowTyped G no_row [] []
    a_row_typed : {l : Label} {x t : ℕ} {row : Row (mono types)} {ls : List Label} {ts : List ℕ} → sort_of G x ≡ Some (of_type t) → RowTyped G row ls ts
        → RowTyped G (a_row l x row) (l ∷ ls) (t ∷ ts)

  -- an exception's name: those of the initial basis have no argument
  pub data NameTyped (G : Sorts) : Exception (mono types) → Option ℕ → Type 0 where
    fixed_typed : {n : ℕ} → nat_lt n 7 ≡ true → NameTyped G (fixed n) None
    held_typed : {x : ℕ} {a : Option ℕ} → sort_of G x ≡ Some (exception a) → NameTyped G (held x) a

  -- an arm for values of the type, and what is known where it fits
  pub data CaseTyped (G : Sorts) : Case (mono types) → ℕ → Sorts → Type 0 where
    literal_typed : {l : Literal} {t : ℕ} → HasLiteral types l t → CaseTyped G (is_literal l) t G
    con_typed : {c t : ℕ} → constructor_at types t c ≡ Some None → CaseTyped G (is_con c) t G
    con_of_typed : {c x t a : ℕ} → constructor_at types t c ≡ Some (Some a) → CaseTyped G (is_con_of c x a) t ((x, of_type a) ∷ G)
    exn_typed : {x t : ℕ} → sort_of G x ≡ Some (exception None) → IsExn types t → CaseTyped G (is_exn x) t G
    exn_of_typed : {y x a t : ℕ} → sort_of G y ≡ Some (exception (Some a)) → IsExn types t → CaseTyped G (is_exn_of y x a) t ((x, of_type a) ∷ G)
    record_typed : {size : Option ℕ} {t : ℕ} {ls : List Label} {ts : List ℕ} → Is types t (labels ls) ts → is_size size (length ls) ≡ true
        → CaseTyped G (is_record size) t G

  mutual
    pub data Typed : Bool → Sorts → Exp (mono types) → ℕ → Type 0 where
      t_ret : {m : Bool} {G : Sorts} {x t : ℕ} → sort_of G x ≡ Some (of_type t) → Typed m G (ret x) t
      t_let : {m : Bool} {G : Sorts} {x a t : ℕ} {ps : ⊤} {o : Op (mono types)} {e : Exp (mono types)} → OpTyped G o a → Typed m ((x, of_type a) ∷ G) e t
          → Typed m G (let_in x ps a o e) t
      t_exception : {m : Bool} {G : Sorts} {x identifier t : ℕ} {a : Option ℕ} {e : Exp (mono types)} → Typed m ((x, exception a) ∷ G) e t
          → Typed m G (exception_in x identifier a e) t
      t_name : {m : Bool} {G : Sorts} {x t : ℕ} {y : Exception (mono types)} {a : Option ℕ} {e : Exp (mono types)} → NameTyped G y a
          → Typed m ((x, exception a) ∷ G) e t → Typed m G (name_in x y e) t
      t_rec : {m : Bool} {G : Sorts} {ps : ⊤} {fs : Funs (mono types)} {e : Exp (mono types)} {t : ℕ} → FunsTyped (group_sorts fs G) fs
          → Typed m (group_sorts fs G) e t → Typed m G (rec_in ps fs e) t
      t_switch : {G : Sorts} {x u t : ℕ} {arms : Arms (mono types)} → sort_of G x ≡ Some (of_type u) → ArmsTyped G arms u t → Typed true G (switch x u arms) t
      t_first : {m : Bool} {G : Sorts} {e d : Exp (mono types)} {t : ℕ} → Typed true G e t → Typed m G d t → Typed m G (first e d) t
      t_miss : {G : Sorts} {t : ℕ} → Typed true G miss t
      t_counted : {m : Bool} {G : Sorts} {n t : ℕ} {e : Exp (mono types)} → Typed m G e t → Typed m G (counted n e) t

    -- arms for values of the first type
    pub data ArmsTyped : Sorts → Arms (mono types) → ℕ → ℕ → Type 0 where
      t_no_arms : {G : Sorts} {u t : ℕ} → ArmsTyped G no_arms u t
      t_arm : {G G' : Sorts} {c : Case (mono types)} {e : Exp (mono types)} {arms : Arms (mono types)} {u t : ℕ} → CaseTyped G c u G' → Typed true G' e t
          → ArmsTyped G arms u t → ArmsTyped G (arm c e arms) u t

    pub data OpTyped : Sorts → Op (mono types) → ℕ → Type 0 where
      t_use : {G : Sorts} {x t : ℕ} → sort_of G x ≡ Some (of_type t) → OpTyped G (use_of x) t
      t_use_exception : {G : Sorts} {x t : ℕ} {a : Option ℕ} → sort_of G x ≡ Some (exception a) → ExceptionAt a t → OpTyped G (use_of x) t
      t_const : {G : Sorts} {l : Literal} {t : ℕ} → HasLiteral types l t → OpTyped G (const l) t
      t_con_alone : {G : Sorts} {c u t : ℕ} {a : Option ℕ} → constructor_at types u c ≡ Some a → AloneAt a u t → OpTyped G (con_alone c u) t
      t_construct : {G : Sorts} {m : Option Place} {c x t a : ℕ} → constructor_at types t c ≡ Some (Some a) → sort_of G x ≡ Some (of_type a)
          → OpTyped G (construct m c t x) t
      t_ref_alone : {G : Sorts} {a r t : ℕ} → IsFunction types t a r → IsRef types r a → OpTyped G (ref_alone a) t
      t_refer : {G : Sorts} {m : Option Place} {a x t : ℕ} → sort_of G x ≡ Some (of_type a) → IsRef types t a → OpTyped G (refer m a x) t
      t_content : {G : Sorts} {t u x : ℕ} → sort_of G x ≡ Some (of_type u) → IsRef types u t → OpTyped G (content t x) t
      t_pack : {G : Sorts} {m : Option Place} {y x a t : ℕ} → sort_of G y ≡ Some (exception (Some a)) → sort_of G x ≡ Some (of_type a) → IsExn types t
          → OpTyped G (pack m a y x) t
      t_make_record : {G : Sorts} {t : ℕ} {row : Row (mono types)} {ls : List Label} {ts : List ℕ} → RowTyped G row ls ts → Is types t (labels ls) ts
          → AreDistinct ls → OpTyped G (make_record t row) t
      t_select : {G : Sorts} {u x t : ℕ} {l : Label} {ls : List Label} {ts : List ℕ} → sort_of G x ≡ Some (of_type u) → Is types u (labels ls) ts
          → part l ls ts ≡ Some t → OpTyped G (select u l x) t
      t_prim_alone : {G : Sorts} {p : BasisPrimitive} {u a r t : ℕ} {ns : List ℕ} → PrimAt p u ns r → IsTuple types ns a → IsFunction types t a r
          → OpTyped G (prim_alone p u) t
      t_prim : {G : Sorts} {m : Option Place} {p : BasisPrimitive} {u t : ℕ} {as_ : Atoms (mono types)} {ns : List ℕ} → PrimAt p u ns t
          → AtomsTyped G as_ ns → OpTyped G (prim m p u as_) t
      t_app : {G : Sorts} {place : Place} {f x u a t : ℕ} → sort_of G f ≡ Some (of_type u) → IsFunction types u a t → sort_of G x ≡ Some (of_type a)
          → OpTyped G (app place f x) t
      t_fn : {G : Sorts} {f : Fun (mono types)} {t : ℕ} → FunTyped G f t → OpTyped G (fn f) t
      t_block : {G : Sorts} {e : Exp (mono types)} {t : ℕ} → Typed false G e t → OpTyped G (block e) t
      t_handle : {G : Sorts} {e d : Exp (mono types)} {x n t : ℕ} → Typed false G e t → IsExn types n → Typed false ((x, of_type n) ∷ G) d t
          → OpTyped G (handle e x d) t
      t_raise : {G : Sorts} {x u t : ℕ} → sort_of G x ≡ Some (of_type u) → IsExn types u → OpTyped G (raise x) t
      t_raise_initial : {G : Sorts} {n t : ℕ} → nat_lt n 7 ≡ true → OpTyped G (raise_initial n) t

    pub data FunTyped : Sorts → Fun (mono types) → ℕ → Type 0 where
      t_last : {G : Sorts} {x a b t : ℕ} {e : Exp (mono types)} → IsFunction types t a b → Typed false ((x, of_type a) ∷ G) e b → FunTyped G (last x a e) t
      t_more : {G : Sorts} {x a b t : ℕ} {f : Fun (mono types)} → IsFunction types t a b → FunTyped ((x, of_type a) ∷ G) f b → FunTyped G (more x a f) t

    pub data FunsTyped : Sorts → Funs (mono types) → Type 0 where
      t_no_funs : {G : Sorts} → FunsTyped G no_funs
      t_fun : {G : Sorts} {x t : ℕ} {f : Fun (mono types)} {fs : Funs (mono types)} → FunTyped G f t → FunsTyped G fs → FunsTyped G (fun x t f fs)
