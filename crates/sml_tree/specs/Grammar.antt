-- The grammar of the core (the Definition, sections 2.8 and 2.9, Appendices A and B). `Reads f i t o`: under the fixities f the terminals i begin
-- with the tree t, and o are the terminals after it. Each constructor is one production, which its comment names.
use Rattle.std.specs.Prelude.{ℕ, pos, ◌≤◌, ◌<◌, ◌≡◌, Bool, true, false, List, [], ◌∷◌, Option, Some, None}
use Rattle.mlc_names.specs.declared.label.Label.{Label}
use Rattle.mlc_names.specs.declared.token.Reserved.TheVariants as res
use Rattle.sml_tree.specs.Terminal.{Constant, LongVid, LongId, Terminal, reserved, number, type_var, star, IsConstant, IsVid, IsQualifiedVid, IsAnyVid, IsAnyLongVid, IsTycon, IsLongTycon, IsLongStrid, IsLabel}
use Rattle.sml_tree.specs.declared.ident.Tyvar.{Tyvar}
use Rattle.sml_tree.specs.declared.ident.Vid.{Vid}
use Rattle.sml_tree.specs.declared.ident.Vid.TheVariants.{Named, Equals}
use Rattle.sml_tree.specs.Fixity.{Fixity, fix_of}
use Rattle.sml_tree.specs.declared.fixity.Infix.{Infix}
use Rattle.sml_tree.specs.ReadTree.{Placed, Ty, var_ty, record_ty, con_ty, product_ty, arrow_ty, paren_ty, Tys, no_tys, ty, TyFields, no_ty_fields, ty_field, ty_place, Pat, wild_pat, constant_pat, vid_pat, record_pat, unit_pat, tuple_pat, list_pat, paren_pat, con_pat, chain_pat, typed_pat, as_pat, Pats, no_pats, pat, PatFields, no_pat_fields, pat_field, PatField, labelled, punned, punned_as, PatParts, last_pat_part, pat_part, Joint, and_also, or_else, infixed, Head, prefix_head, infix_head, bracket_head, head_vid, head_count, TypeBind, ConBind, DataBind, ExBind, new_exn, same_exn, Exp, constant_exp, vid_exp, record_exp, selector, unit_exp, tuple_exp, list_exp, sequence, paren_exp, let_in, app, chain, typed, handle, raise, if_then, while, case, fn, Exps, no_exps, exp, ExpFields, no_exp_fields, exp_field, Parts, last_part, part, Rules, last_rule, rule, Decs, no_decs, dec, Dec, val_dec, fun_dec, type_dec, datatype_dec, withtype_dec, replicate_dec, exception_dec, local_dec, open_dec, fixity_dec, Binds, last_bind, bind, rec_binds, Funs, last_fun, fun_and, Clauses, last_clause, clause}
use Rattle.sml_tree.specs.Levels.{after, after_dec, ty_level, vid_level, vid_right, pat_level, joint_level, joint_right, level, goes_on}

-- Types (section 2.9; Appendix A for products).
mutual
  pub data ReadsTy : List Terminal → Ty → List Terminal → Type 0 where
    -- ty ::= tyvar
    of_tyvar : {o : List Terminal} (p : ℕ) (a : Tyvar) → ReadsTy (type_var p a ∷ o) (var_ty p a) o
    -- ty ::= { [tyrow] }
    of_no_ty_row : {o : List Terminal} (p q : ℕ) → ReadsTy (reserved p res.LeftBrace ∷ reserved q res.RightBrace ∷ o) (record_ty p no_ty_fields) o
    of_ty_row : {i o : List Terminal} {fs : TyFields} (p q : ℕ) → TyRow i fs (reserved q res.RightBrace ∷ o)
        → ReadsTy (reserved p res.LeftBrace ∷ i) (record_ty p fs) o
    -- ty ::= tyseq longtycon, with no argument, with one, and with two or more in brackets; one type in brackets is a type in brackets
    of_tycon : {t : Terminal} {o : List Terminal} {p : ℕ} {c : LongId} → IsLongTycon t p c → ReadsTy (t ∷ o) (con_ty p no_tys (record { place = p; it = c })) o
    of_tycon_1 : {i o : List Terminal} {t : Terminal} {q : ℕ} {c : LongId} {a : Ty} {p : ℕ} → 2 ≤ ty_level a → ReadsTy i a (t ∷ o) → IsLongTycon t q c
        → ty_place a ≡ p → ReadsTy i (con_ty p (ty a no_tys) (record { place = q; it = c })) o
    of_tycon_n : {i m o : List Terminal} {t : Terminal} {q : ℕ} {c : LongId} {a : Ty} {as_ : Tys} (p r s : ℕ) → ReadsTy i a (reserved r res.Comma ∷ m)
        → TyCommas m as_ (reserved s res.RightParen ∷ t ∷ o) → IsLongTycon t q c
        → ReadsTy (reserved p res.LeftParen ∷ i) (con_ty p (ty a as_) (record { place = q; it = c })) o
    -- ty ::= ty * .. * ty
    of_product : {i m o : List Terminal} {a : Ty} {as_ : Tys} → 2 ≤ ty_level a → ReadsTy i a m → Stars m as_ o → ReadsTy i (product_ty a as_) o
    -- ty ::= ty -> ty, where `->` associates to the right
    of_arrow : {i m o : List Terminal} {a : Ty} {as_ : Tys} → 1 ≤ ty_level a → ReadsTy i a m → Arrows m as_ o → ReadsTy i (arrow_ty a as_) o
    -- ty ::= (ty)
    of_paren_ty : {i o : List Terminal} {a : Ty} (p q : ℕ) → ReadsTy i a (reserved q res.RightParen ∷ o)
        → ReadsTy (reserved p res.LeftParen ∷ i) (paren_ty p a) o

  -- tyrow ::= lab : ty [, tyrow]
  pub data TyRow : List Terminal → TyFields → List Terminal → Type 0 where
    last_ty_row : {t : Terminal} {i o : List Terminal} {l : Label} {a : Ty} (p : ℕ) → IsLabel t l → ReadsTy i a o
        → TyRow (t ∷ reserved p res.Colon ∷ i) (ty_field l a no_ty_fields) o
    more_ty_row : {t : Terminal} {i m o : List Terminal} {l : Label} {a : Ty} {fs : TyFields} (p q : ℕ) → IsLabel t l → ReadsTy i a (reserved q res.Comma ∷ m)
        → TyRow m fs o → TyRow (t ∷ reserved p res.Colon ∷ i) (ty_field l a fs) o

  -- types separated by commas, one or more
  pub data TyCommas : List Terminal → Tys → List Terminal → Type 0 where
    last_ty : {i o : List Terminal} {a : Ty} → ReadsTy i a o → TyCommas i (ty a no_tys) o
    more_tys : {i m o : List Terminal} {a : Ty} {as_ : Tys} (p : ℕ) → ReadsTy i a (reserved p res.Comma ∷ m) → TyCommas m as_ o → TyCommas i (ty a as_) o

  -- the further operands of a product
  pub data Stars : List Terminal → Tys → List Terminal → Type 0 where
    last_star : {i o : List Terminal} {a : Ty} (p x : ℕ) → 2 ≤ ty_level a → ReadsTy i a o → Stars (star p x ∷ i) (ty a no_tys) o
    more_stars : {i m o : List Terminal} {a : Ty} {as_ : Tys} (p x : ℕ) → 2 ≤ ty_level a → ReadsTy i a m → Stars m as_ o → Stars (star p x ∷ i) (ty a as_) o

  -- the further operands of a function type
  pub data Arrows : List Terminal → Tys → List Terminal → Type 0 where
    last_arrow : {i o : List Terminal} {a : Ty} (p : ℕ) → 1 ≤ ty_level a → ReadsTy i a o → Arrows (reserved p res.Arrow ∷ i) (ty a no_tys) o
    more_arrows : {i m o : List Terminal} {a : Ty} {as_ : Tys} (p : ℕ) → 1 ≤ ty_level a → ReadsTy i a m → Arrows m as_ o
        → Arrows (reserved p res.Arrow ∷ i) (ty a as_) o

-- [: ty]
pub data MaybeTy : List Terminal → Option Ty → List Terminal → Type 0 where
  without_ty : {o : List Terminal} → MaybeTy o None o
  with_ty : {i o : List Terminal} {a : Ty} (p : ℕ) → ReadsTy i a o → MaybeTy (reserved p res.Colon ∷ i) (Some a) o

-- [op] vid, where an infix identifier has `op` before it. The first place is that of `op`, where it is written; the other is the identifier's own.
pub data BindsVid : Fixity → List Terminal → ℕ → Placed Vid → List Terminal → Type 0 where
  plain_vid : {f : Fixity} {t : Terminal} {o : List Terminal} {p x : ℕ} → IsVid t p x → fix_of (Named x) f ≡ None
      → BindsVid f (t ∷ o) p (record { place = p; it = Named x }) o
  op_vid : {f : Fixity} {t : Terminal} {o : List Terminal} {q : ℕ} {v : Vid} (p : ℕ) → IsAnyVid t q v
      → BindsVid f (reserved p res.Op ∷ t ∷ o) p (record { place = q; it = v }) o

-- [op] longvid. `=` stands here only after `op`.
pub data NamesVid : Fixity → List Terminal → ℕ → Placed LongVid → List Terminal → Type 0 where
  plain_long : {f : Fixity} {t : Terminal} {o : List Terminal} {p x : ℕ} → IsVid t p x → fix_of (Named x) f ≡ None
      → NamesVid f (t ∷ o) p (record { place = p; it = record { qualifiers = []; vid = Named x } }) o
  qualified : {f : Fixity} {t : Terminal} {o : List Terminal} {p : ℕ} {x : LongVid} → IsQualifiedVid t p x
      → NamesVid f (t ∷ o) p (record { place = p; it = x }) o
  op_long : {f : Fixity} {t : Terminal} {o : List Terminal} {q : ℕ} {x : LongVid} (p : ℕ) → IsAnyLongVid t q x
      → NamesVid f (reserved p res.Op ∷ t ∷ o) p (record { place = q; it = x }) o

-- an infix identifier other than `=`
pub record IsInfixVid (f : Fixity) (t : Terminal) (x : Placed ℕ) : Type 0 where
  pub is : IsVid t x.place x.it
  pub fix : Infix
  pub status : fix_of (Named x.it) f ≡ Some fix

-- an infix identifier of this level that associates so
pub record PatFits (f : Fixity) (l : ℕ) (r : Bool) (t : Terminal) (x : Placed ℕ) : Type 0 where
  pub is : IsInfixVid f t x
  pub level : vid_level f (Named x.it) ≡ l
  pub right : vid_right f (Named x.it) ≡ r

-- Patterns (section 2.9; Appendix A for tuples and lists).
mutual
  pub data AtPat : Fixity → List Terminal → Pat → List Terminal → Type 0 where
    -- atpat ::= _
    of_wild : {f : Fixity} {o : List Terminal} (p : ℕ) → AtPat f (reserved p res.Underscore ∷ o) (wild_pat p) o
    -- atpat ::= scon
    of_pat_constant : {f : Fixity} {t : Terminal} {o : List Terminal} {p : ℕ} {c : Constant} → IsConstant t p c → AtPat f (t ∷ o) (constant_pat p c) o
    -- atpat ::= [op] longvid
    of_pat_vid : {f : Fixity} {i o : List Terminal} {p : ℕ} {x : Placed LongVid} → NamesVid f i p x o → AtPat f i (vid_pat p x) o
    -- atpat ::= { [patrow] }
    of_no_pat_row : {f : Fixity} {o : List Terminal} (p q : ℕ)
        → AtPat f (reserved p res.LeftBrace ∷ reserved q res.RightBrace ∷ o) (record_pat p no_pat_fields false) o
    of_pat_row : {f : Fixity} {i o : List Terminal} {fs : PatFields} {b : Bool} (p q : ℕ) → PatRow f i fs b (reserved q res.RightBrace ∷ o)
        → AtPat f (reserved p res.LeftBrace ∷ i) (record_pat p fs b) o
    -- atpat ::= () and (pat, .., pat)
    of_unit_pat : {f : Fixity} {o : List Terminal} (p q : ℕ) → AtPat f (reserved p res.LeftParen ∷ reserved q res.RightParen ∷ o) (unit_pat p) o
    of_tuple_pat : {f : Fixity} {i m o : List Terminal} {a : Pat} {as_ : Pats} (p q r : ℕ) → Pattern f i a (reserved q res.Comma ∷ m)
        → PatCommas f m as_ (reserved r res.RightParen ∷ o) → AtPat f (reserved p res.LeftParen ∷ i) (tuple_pat p (pat a as_)) o
    -- atpat ::= [pat, .., pat]
    of_nil_pat : {f : Fixity} {o : List Terminal} (p q : ℕ) → AtPat f (reserved p res.LeftBracket ∷ reserved q res.RightBracket ∷ o) (list_pat p no_pats) o
    of_list_pat : {f : Fixity} {i o : List Terminal} {as_ : Pats} (p q : ℕ) → PatCommas f i as_ (reserved q res.RightBracket ∷ o)
        → AtPat f (reserved p res.LeftBracket ∷ i) (list_pat p as_) o
    -- atpat ::= (pat)
    of_paren_pat : {f : Fixity} {i o : List Terminal} {a : Pat} (p q : ℕ) → Pattern f i a (reserved q res.RightParen ∷ o)
        → AtPat f (reserved p res.LeftParen ∷ i) (paren_pat p a) o

  -- patrow ::= ... | field [, patrow]
  pub data PatRow : Fixity → List Terminal → PatFields → Bool → List Terminal → Type 0 where
    row_dots : {f : Fixity} {o : List Terminal} (p : ℕ) → PatRow f (reserved p res.Dots ∷ o) no_pat_fields true o
    last_row : {f : Fixity} {i o : List Terminal} {a : PatField} → Field f i a o → PatRow f i (pat_field a no_pat_fields) false o
    more_row : {f : Fixity} {i m o : List Terminal} {a : PatField} {fs : PatFields} {b : Bool} (p : ℕ) → Field f i a (reserved p res.Comma ∷ m)
        → PatRow f m fs b o → PatRow f i (pat_field a fs) b o

  pub data Field : Fixity → List Terminal → PatField → List Terminal → Type 0 where
    -- lab = pat
    of_labelled : {f : Fixity} {t : Terminal} {i o : List Terminal} {l : Label} {a : Pat} (p : ℕ) → IsLabel t l → Pattern f i a o
        → Field f (t ∷ reserved p res.Equals ∷ i) (labelled l a) o
    -- vid [: ty] [as pat]
    of_punned : {f : Fixity} {t : Terminal} {i o : List Terminal} {p x : ℕ} {s : Option Ty} → IsVid t p x → fix_of (Named x) f ≡ None → MaybeTy i s o
        → Field f (t ∷ i) (punned p x s) o
    of_punned_as : {f : Fixity} {t : Terminal} {i m o : List Terminal} {p x : ℕ} {s : Option Ty} {a : Pat} (q : ℕ) → IsVid t p x → fix_of (Named x) f ≡ None
        → MaybeTy i s (reserved q res.As ∷ m) → Pattern f m a o → Field f (t ∷ i) (punned_as p x s a) o

  -- patterns separated by commas, one or more
  pub data PatCommas : Fixity → List Terminal → Pats → List Terminal → Type 0 where
    last_pat : {f : Fixity} {i o : List Terminal} {a : Pat} → Pattern f i a o → PatCommas f i (pat a no_pats) o
    more_pats : {f : Fixity} {i m o : List Terminal} {a : Pat} {as_ : Pats} (p : ℕ) → Pattern f i a (reserved p res.Comma ∷ m) → PatCommas f m as_ o
        → PatCommas f i (pat a as_) o

  pub data Pattern : Fixity → List Terminal → Pat → List Terminal → Type 0 where
    -- pat ::= atpat
    of_atpat : {f : Fixity} {i o : List Terminal} {a : Pat} → AtPat f i a o → Pattern f i a o
    -- pat ::= [op] longvid atpat
    of_con_pat : {f : Fixity} {i m o : List Terminal} {p : ℕ} {x : Placed LongVid} {a : Pat} → NamesVid f i p x m → AtPat f m a o
        → Pattern f i (con_pat p x a) o
    -- pat ::= pat vid pat
    of_chain_pat : {f : Fixity} {i m o : List Terminal} {a : Pat} {ps : PatParts} (l : ℕ) (r : Bool) → l < pat_level f a → Pattern f i a m
        → PatFollows f l r m ps o → Pattern f i (chain_pat r a ps) o
    -- pat ::= pat : ty
    of_typed_pat : {f : Fixity} {i m o : List Terminal} {a : Pat} {s : Ty} (p : ℕ) → 5 ≤ pat_level f a → Pattern f i a (reserved p res.Colon ∷ m)
        → ReadsTy m s o → Pattern f i (typed_pat a s) o
    -- pat ::= [op] vid [: ty] as pat
    of_as_pat : {f : Fixity} {i m n o : List Terminal} {p : ℕ} {v : Placed Vid} {s : Option Ty} {a : Pat} (q : ℕ) → BindsVid f i p v m
        → MaybeTy m s (reserved q res.As ∷ n) → Pattern f n a o → Pattern f i (as_pat p v s a) o

  -- the further operands of a chain
  pub data PatFollows : Fixity → ℕ → Bool → List Terminal → PatParts → List Terminal → Type 0 where
    of_last_pat_part : {f : Fixity} {l : ℕ} {r : Bool} {t : Terminal} {m o : List Terminal} {x : Placed ℕ} {b : Pat}
        → PatFits f l r t x → l < pat_level f b → Pattern f m b o → PatFollows f l r (t ∷ m) (last_pat_part x b) o
    of_pat_part : {f : Fixity} {l : ℕ} {r : Bool} {t : Terminal} {m n o : List Terminal} {x : Placed ℕ} {b : Pat} {ps : PatParts}
        → PatFits f l r t x → l < pat_level f b → Pattern f m b n → PatFollows f l r n ps o → PatFollows f l r (t ∷ m) (pat_part x b ps) o

-- atpat .. atpat, none or more
pub data AtPats : Fixity → List Terminal → Pats → List Terminal → Type 0 where
  no_atpats : {f : Fixity} {o : List Terminal} → AtPats f o no_pats o
  more_atpats : {f : Fixity} {i m o : List Terminal} {a : Pat} {as_ : Pats} → AtPat f i a m → AtPats f m as_ o → AtPats f i (pat a as_) o

-- The head of a clause of `fun` (Appendix A, and Appendix B's figure of function declarations). The identifier between two patterns is infix.
pub data ReadsHead : Fixity → List Terminal → Head → List Terminal → Type 0 where
  -- [op] vid atpat .. atpat
  of_prefix_head : {f : Fixity} {i m n o : List Terminal} {p : ℕ} {v : Placed Vid} {a : Pat} {as_ : Pats} → BindsVid f i p v m → AtPat f m a n
      → AtPats f n as_ o → ReadsHead f i (prefix_head p v a as_) o
  -- atpat vid atpat
  of_infix_head : {f : Fixity} {i m o : List Terminal} {t : Terminal} {x : Placed ℕ} {a b : Pat} → AtPat f i a (t ∷ m) → IsInfixVid f t x → AtPat f m b o
      → ReadsHead f i (infix_head a x b) o
  -- (atpat vid atpat) atpat .. atpat
  of_bracket_head : {f : Fixity} {i m n o : List Terminal} {t : Terminal} {x : Placed ℕ} {a b : Pat} {as_ : Pats} (p q : ℕ) → AtPat f i a (t ∷ m)
      → IsInfixVid f t x
      → AtPat f m b (reserved q res.RightParen ∷ n) → AtPats f n as_ o → ReadsHead f (reserved p res.LeftParen ∷ i) (bracket_head p a x b as_) o

-- tyvarseq (section 2.8): none, one, or one or more in brackets
pub data TyvarCommas : List Terminal → List Tyvar → List Terminal → Type 0 where
  last_tyvar : {o : List Terminal} (p q : ℕ) (a : Tyvar) → TyvarCommas (type_var p a ∷ reserved q res.RightParen ∷ o) (a ∷ []) o
  more_tyvars : {i o : List Terminal} {as_ : List Tyvar} (p q : ℕ) (a : Tyvar) → TyvarCommas i as_ o
      → TyvarCommas (type_var p a ∷ reserved q res.Comma ∷ i) (a ∷ as_) o

pub data Tyvars : List Terminal → List Tyvar → List Terminal → Type 0 where
  no_tyvars : {o : List Terminal} → Tyvars o [] o
  one_tyvar : {o : List Terminal} (p : ℕ) (a : Tyvar) → Tyvars (type_var p a ∷ o) (a ∷ []) o
  tyvars_in_brackets : {i o : List Terminal} {as_ : List Tyvar} (p : ℕ) → TyvarCommas i as_ o → Tyvars (reserved p res.LeftParen ∷ i) as_ o

-- the place of the first byte
pub data BeginsAt : List Terminal → ℕ → Type 0 where
  at_tyvar : {o : List Terminal} (p : ℕ) (a : Tyvar) → BeginsAt (type_var p a ∷ o) p
  at_bracket : {o : List Terminal} (p : ℕ) → BeginsAt (reserved p res.LeftParen ∷ o) p
  at_tycon : {t : Terminal} {o : List Terminal} {p x : ℕ} → IsTycon t p x → BeginsAt (t ∷ o) p

-- the place of a sequence in the declaration at p: that of its first byte, and p where it is empty
pub data TyvarsPlace (p : ℕ) : List Terminal → List Tyvar → ℕ → Type 0 where
  at_declaration : {i : List Terminal} → TyvarsPlace p i [] p
  at_sequence : {i : List Terminal} {q : ℕ} {a : Tyvar} {as_ : List Tyvar} → BeginsAt i q → TyvarsPlace p i (a ∷ as_) q

-- typbind ::= tyvarseq tycon = ty [and typbind]
pub data OneTypeBind : List Terminal → TypeBind → List Terminal → Type 0 where
  type_bind : {i m o : List Terminal} {t : Terminal} {as_ : List Tyvar} {p q x : ℕ} {a : Ty} (r : ℕ) → BeginsAt i p
      → Tyvars i as_ (t ∷ reserved r res.Equals ∷ m) → IsTycon t q x → ReadsTy m a o → OneTypeBind i (record { place = p; tyvars = as_; tycon = x; ty = a }) o

pub data TypeBinds : List Terminal → List TypeBind → List Terminal → Type 0 where
  last_type_bind : {i o : List Terminal} {b : TypeBind} → OneTypeBind i b o → TypeBinds i (b ∷ []) o
  more_type_binds : {i m o : List Terminal} {b : TypeBind} {bs : List TypeBind} (p : ℕ) → OneTypeBind i b (reserved p res.And ∷ m) → TypeBinds m bs o
      → TypeBinds i (b ∷ bs) o

-- [of ty]
pub data MaybeOf : List Terminal → Option Ty → List Terminal → Type 0 where
  without_of : {o : List Terminal} → MaybeOf o None o
  with_of : {i o : List Terminal} {a : Ty} (p : ℕ) → ReadsTy i a o → MaybeOf (reserved p res.Of ∷ i) (Some a) o

-- conbind ::= [op] vid [of ty] [| conbind]
pub data ConBinds : Fixity → List Terminal → List ConBind → List Terminal → Type 0 where
  last_con : {f : Fixity} {i m o : List Terminal} {p : ℕ} {v : Placed Vid} {s : Option Ty} → BindsVid f i p v m → MaybeOf m s o
      → ConBinds f i (record { place = v.place; vid = v.it; of_ty = s } ∷ []) o
  more_cons : {f : Fixity} {i m n o : List Terminal} {p : ℕ} {v : Placed Vid} {s : Option Ty} {cs : List ConBind} (q : ℕ) → BindsVid f i p v m
      → MaybeOf m s (reserved q res.Bar ∷ n) → ConBinds f n cs o → ConBinds f i (record { place = v.place; vid = v.it; of_ty = s } ∷ cs) o

-- datbind ::= tyvarseq tycon = conbind [and datbind]
pub data OneDataBind : Fixity → List Terminal → DataBind → List Terminal → Type 0 where
  data_bind : {f : Fixity} {i m o : List Terminal} {t : Terminal} {as_ : List Tyvar} {p q x : ℕ} {cs : List ConBind} (r : ℕ) → BeginsAt i p
      → Tyvars i as_ (t ∷ reserved r res.Equals ∷ m) → IsTycon t q x
      → ConBinds f m cs o → OneDataBind f i (record { place = p; tyvars = as_; tycon = x; cons = cs }) o

pub data DataBinds : Fixity → List Terminal → List DataBind → List Terminal → Type 0 where
  last_data_bind : {f : Fixity} {i o : List Terminal} {b : DataBind} → OneDataBind f i b o → DataBinds f i (b ∷ []) o
  more_data_binds : {f : Fixity} {i m o : List Terminal} {b : DataBind} {bs : List DataBind} (p : ℕ) → OneDataBind f i b (reserved p res.And ∷ m)
      → DataBinds f m bs o → DataBinds f i (b ∷ bs) o

-- exbind ::= [op] vid [of ty] [and exbind] | [op] vid = [op] longvid [and exbind]
pub data OneExBind : Fixity → List Terminal → ExBind → List Terminal → Type 0 where
  new_exception : {f : Fixity} {i m o : List Terminal} {p : ℕ} {v : Placed Vid} {s : Option Ty} → BindsVid f i p v m → MaybeOf m s o
      → OneExBind f i (new_exn v.place v.it s) o
  same_exception : {f : Fixity} {i m o : List Terminal} {p q : ℕ} {v : Placed Vid} {x : Placed LongVid} (r : ℕ) → BindsVid f i p v (reserved r res.Equals ∷ m)
      → NamesVid f m q x o → OneExBind f i (same_exn v.place v.it x) o

pub data ExBinds : Fixity → List Terminal → List ExBind → List Terminal → Type 0 where
  last_exn : {f : Fixity} {i o : List Terminal} {b : ExBind} → OneExBind f i b o → ExBinds f i (b ∷ []) o
  more_exns : {f : Fixity} {i m o : List Terminal} {b : ExBind} {bs : List ExBind} (p : ℕ) → OneExBind f i b (reserved p res.And ∷ m) → ExBinds f m bs o
      → ExBinds f i (b ∷ bs) o

pub data IsPlacedStrid : Terminal → Placed LongId → Type 0 where
  is_placed_strid : {t : Terminal} {p : ℕ} {x : LongId} → IsLongStrid t p x → IsPlacedStrid t (record { place = p; it = x })

-- longstrid .. longstrid, one or more
pub data Strids : List Terminal → List (Placed LongId) → List Terminal → Type 0 where
  last_strid : {t : Terminal} {o : List Terminal} {x : Placed LongId} → IsPlacedStrid t x → Strids (t ∷ o) (x ∷ []) o
  more_strids : {t : Terminal} {i o : List Terminal} {x : Placed LongId} {xs : List (Placed LongId)} → IsPlacedStrid t x → Strids i xs o
      → Strids (t ∷ i) (x ∷ xs) o

-- the identifiers of a directive, one or more; `op` isn't written
pub data DirectiveVids : List Terminal → List ℕ → List Terminal → Type 0 where
  last_vid : {t : Terminal} {o : List Terminal} {p x : ℕ} → IsVid t p x → DirectiveVids (t ∷ o) (x ∷ []) o
  more_vids : {t : Terminal} {i o : List Terminal} {p x : ℕ} {xs : List ℕ} → IsVid t p x → DirectiveVids i xs o → DirectiveVids (t ∷ i) (x ∷ xs) o

-- [d]: a precedence is one digit, and 0 where none is written (section 2.6)
pub data ReadsPrecedence : List Terminal → ℕ → List Terminal → Type 0 where
  no_precedence : {o : List Terminal} → ReadsPrecedence o 0 o
  a_precedence : {o : List Terminal} (p d : ℕ) → d ≤ 9 → ReadsPrecedence (number p (pos d) true ∷ o) d o

-- the token of a joint
pub data IsJoint (f : Fixity) : Terminal → Joint → Type 0 where
  is_andalso : (p : ℕ) → IsJoint f (reserved p res.Andalso) and_also
  is_orelse : (p : ℕ) → IsJoint f (reserved p res.Orelse) or_else
  is_infix : {t : Terminal} {p x : ℕ} {d : Infix} → IsVid t p x → fix_of (Named x) f ≡ Some d → IsJoint f t (infixed (record { place = p; it = Named x }))
  is_infix_equals : {d : Infix} (p : ℕ) → fix_of Equals f ≡ Some d → IsJoint f (reserved p res.Equals) (infixed (record { place = p; it = Equals }))

-- a joint of this level that associates so
pub record Fits (f : Fixity) (l : ℕ) (r : Bool) (t : Terminal) (j : Joint) : Type 0 where
  pub is : IsJoint f t j
  pub level : joint_level f j ≡ l
  pub right : joint_right f j ≡ r

-- Expressions and declarations (section 2.8; Appendix A for the derived forms).
mutual
  pub data Atom : Fixity → List Terminal → Exp → List Terminal → Type 0 where
    -- atexp ::= scon
    of_constant : {f : Fixity} {t : Terminal} {o : List Terminal} {p : ℕ} {c : Constant} → IsConstant t p c → Atom f (t ∷ o) (constant_exp p c) o
    -- atexp ::= [op] longvid; `=` that isn't infix stands alone too
    of_vid : {f : Fixity} {i o : List Terminal} {p : ℕ} {x : Placed LongVid} → NamesVid f i p x o → Atom f i (vid_exp p x) o
    of_equals : {f : Fixity} {o : List Terminal} (p : ℕ) → fix_of Equals f ≡ None
        → Atom f (reserved p res.Equals ∷ o) (vid_exp p (record { place = p; it = record { qualifiers = []; vid = Equals } })) o
    -- atexp ::= { [exprow] }
    of_no_row : {f : Fixity} {o : List Terminal} (p q : ℕ) → Atom f (reserved p res.LeftBrace ∷ reserved q res.RightBrace ∷ o) (record_exp p no_exp_fields) o
    of_row : {f : Fixity} {i o : List Terminal} {fs : ExpFields} (p q : ℕ) → ExpRow f i fs (reserved q res.RightBrace ∷ o)
        → Atom f (reserved p res.LeftBrace ∷ i) (record_exp p fs) o
    -- atexp ::= # lab
    of_selector : {f : Fixity} {t : Terminal} {o : List Terminal} {l : Label} (p : ℕ) → IsLabel t l → Atom f (reserved p res.Hash ∷ t ∷ o) (selector p l) o
    -- atexp ::= () and (exp, .., exp)
    of_unit : {f : Fixity} {o : List Terminal} (p q : ℕ) → Atom f (reserved p res.LeftParen ∷ reserved q res.RightParen ∷ o) (unit_exp p) o
    of_tuple : {f : Fixity} {i m o : List Terminal} {e : Exp} {es : Exps} (p q r : ℕ) → Reads f i e (reserved q res.Comma ∷ m)
        → Commas f m es (reserved r res.RightParen ∷ o) → Atom f (reserved p res.LeftParen ∷ i) (tuple_exp p (exp e es)) o
    -- atexp ::= [exp, .., exp]
    of_nil : {f : Fixity} {o : List Terminal} (p q : ℕ) → Atom f (reserved p res.LeftBracket ∷ reserved q res.RightBracket ∷ o) (list_exp p no_exps) o
    of_list : {f : Fixity} {i o : List Terminal} {es : Exps} (p q : ℕ) → Commas f i es (reserved q res.RightBracket ∷ o)
        → Atom f (reserved p res.LeftBracket ∷ i) (list_exp p es) o
    -- atexp ::= (exp; ..; exp), two or more
    of_sequence : {f : Fixity} {i m o : List Terminal} {e : Exp} {es : Exps} (p q r : ℕ) → Reads f i e (reserved q res.Semicolon ∷ m)
        → Semicolons f m es (reserved r res.RightParen ∷ o) → Atom f (reserved p res.LeftParen ∷ i) (sequence p (exp e es)) o
    -- atexp ::= (exp)
    of_paren : {f : Fixity} {i o : List Terminal} {e : Exp} (p q : ℕ) → Reads f i e (reserved q res.RightParen ∷ o)
        → Atom f (reserved p res.LeftParen ∷ i) (paren_exp p e) o
    -- atexp ::= let dec in exp; ..; exp end
    of_let : {f : Fixity} {i m o : List Terminal} {ds : Decs} {es : Exps} (p q r : ℕ) → Declares f i ds (reserved q res.In ∷ m)
        → Semicolons (after f ds) m es (reserved r res.End ∷ o) → Atom f (reserved p res.Let ∷ i) (let_in p ds es) o

  -- exprow ::= lab = exp [, exprow]
  pub data ExpRow : Fixity → List Terminal → ExpFields → List Terminal → Type 0 where
    last_exp_row : {f : Fixity} {t : Terminal} {i o : List Terminal} {l : Label} {e : Exp} (p : ℕ) → IsLabel t l → Reads f i e o
        → ExpRow f (t ∷ reserved p res.Equals ∷ i) (exp_field l e no_exp_fields) o
    more_exp_row : {f : Fixity} {t : Terminal} {i m o : List Terminal} {l : Label} {e : Exp} {fs : ExpFields} (p q : ℕ) → IsLabel t l
        → Reads f i e (reserved q res.Comma ∷ m) → ExpRow f m fs o → ExpRow f (t ∷ reserved p res.Equals ∷ i) (exp_field l e fs) o

  -- expressions separated by commas, one or more
  pub data Commas : Fixity → List Terminal → Exps → List Terminal → Type 0 where
    last_exp : {f : Fixity} {i o : List Terminal} {e : Exp} → Reads f i e o → Commas f i (exp e no_exps) o
    more_exps : {f : Fixity} {i m o : List Terminal} {e : Exp} {es : Exps} (p : ℕ) → Reads f i e (reserved p res.Comma ∷ m) → Commas f m es o
        → Commas f i (exp e es) o

  -- expressions separated by semicolons, one or more
  pub data Semicolons : Fixity → List Terminal → Exps → List Terminal → Type 0 where
    last_of_sequence : {f : Fixity} {i o : List Terminal} {e : Exp} → Reads f i e o → Semicolons f i (exp e no_exps) o
    more_of_sequence : {f : Fixity} {i m o : List Terminal} {e : Exp} {es : Exps} (p : ℕ) → Reads f i e (reserved p res.Semicolon ∷ m) → Semicolons f m es o
        → Semicolons f i (exp e es) o

  -- atexp .. atexp, none or more
  pub data Atoms : Fixity → List Terminal → Exps → List Terminal → Type 0 where
    no_atoms : {f : Fixity} {o : List Terminal} → Atoms f o no_exps o
    more_atoms : {f : Fixity} {i m o : List Terminal} {e : Exp} {es : Exps} → Atom f i e m → Atoms f m es o → Atoms f i (exp e es) o

  pub data Reads : Fixity → List Terminal → Exp → List Terminal → Type 0 where
    -- appexp ::= atexp
    of_atom : {f : Fixity} {i o : List Terminal} {e : Exp} → Atom f i e o → Reads f i e o
    -- appexp ::= appexp atexp
    of_app : {f : Fixity} {i m n o : List Terminal} {e a : Exp} {es : Exps} → Atom f i e m → Atom f m a n → Atoms f n es o → Reads f i (app e a es) o
    -- infexp ::= infexp vid infexp; exp ::= exp andalso exp | exp orelse exp
    of_chain : {f : Fixity} {i m o : List Terminal} {a : Exp} {ps : Parts} (l : ℕ) (r : Bool) → l < level f a → goes_on f a m ≡ false → Reads f i a m
        → Follows f l r m ps o → Reads f i (chain r a ps) o
    -- exp ::= exp : ty
    of_typed : {f : Fixity} {i m o : List Terminal} {e : Exp} {s : Ty} (p : ℕ) → 5 ≤ level f e → goes_on f e (reserved p res.Colon ∷ m) ≡ false
        → Reads f i e (reserved p res.Colon ∷ m) → ReadsTy m s o → Reads f i (typed e s) o
    -- exp ::= exp handle match
    of_handle : {f : Fixity} {i m o : List Terminal} {e : Exp} {rs : Rules} (p : ℕ) → goes_on f e (reserved p res.Handle ∷ m) ≡ false
        → Reads f i e (reserved p res.Handle ∷ m) → Match f m rs o → Reads f i (handle e rs) o
    -- exp ::= raise exp
    of_raise : {f : Fixity} {i o : List Terminal} {e : Exp} (p : ℕ) → Reads f i e o → Reads f (reserved p res.Raise ∷ i) (raise p e) o
    -- exp ::= if exp then exp else exp
    of_if : {f : Fixity} {i m n o : List Terminal} {a b c : Exp} (p q r : ℕ) → Reads f i a (reserved q res.Then ∷ m) → Reads f m b (reserved r res.Else ∷ n)
        → Reads f n c o → Reads f (reserved p res.If ∷ i) (if_then p a b c) o
    -- exp ::= while exp do exp
    of_while : {f : Fixity} {i m o : List Terminal} {a b : Exp} (p q : ℕ) → Reads f i a (reserved q res.Do ∷ m) → Reads f m b o
        → Reads f (reserved p res.While ∷ i) (while p a b) o
    -- exp ::= case exp of match
    of_case : {f : Fixity} {i m o : List Terminal} {e : Exp} {rs : Rules} (p q : ℕ) → Reads f i e (reserved q res.Of ∷ m) → Match f m rs o
        → Reads f (reserved p res.Case ∷ i) (case p e rs) o
    -- exp ::= fn match
    of_fn : {f : Fixity} {i o : List Terminal} {rs : Rules} (p : ℕ) → Match f i rs o → Reads f (reserved p res.Fn ∷ i) (fn p rs) o

  -- the further operands of a chain: every operand binds tighter than the chain, and all joints of it have one level and associate alike
  pub data Follows : Fixity → ℕ → Bool → List Terminal → Parts → List Terminal → Type 0 where
    of_last_part : {f : Fixity} {l : ℕ} {r : Bool} {t : Terminal} {m o : List Terminal} {j : Joint} {b : Exp}
        → Fits f l r t j → l < level f b → Reads f m b o → Follows f l r (t ∷ m) (last_part j b) o
    of_part : {f : Fixity} {l : ℕ} {r : Bool} {t : Terminal} {m n o : List Terminal} {j : Joint} {b : Exp} {ps : Parts}
        → Fits f l r t j → l < level f b → goes_on f b n ≡ false → Reads f m b n → Follows f l r n ps o → Follows f l r (t ∷ m) (part j b ps) o

  -- match ::= mrule [| match], mrule ::= pat => exp
  pub data Match : Fixity → List Terminal → Rules → List Terminal → Type 0 where
    of_last_rule : {f : Fixity} {i m o : List Terminal} {a : Pat} {e : Exp} (p : ℕ) → Pattern f i a (reserved p res.DoubleArrow ∷ m) → Reads f m e o
        → Match f i (last_rule a e) o
    of_rule : {f : Fixity} {i m n o : List Terminal} {a : Pat} {e : Exp} {rs : Rules} (p q : ℕ) → Pattern f i a (reserved p res.DoubleArrow ∷ m)
        → goes_on f e (reserved q res.Bar ∷ n) ≡ false → Reads f m e (reserved q res.Bar ∷ n) → Match f n rs o → Match f i (rule a e rs) o

  -- dec ::= empty | dec [;] dec: a `;` may stand first, last and several times in a row, and leaves nothing in the tree
  pub data Declares : Fixity → List Terminal → Decs → List Terminal → Type 0 where
    nothing_more : {f : Fixity} {o : List Terminal} → Declares f o no_decs o
    of_semicolon : {f : Fixity} {i o : List Terminal} {ds : Decs} (p : ℕ) → Declares f i ds o → Declares f (reserved p res.Semicolon ∷ i) ds o
    of_dec : {f : Fixity} {i m o : List Terminal} {d : Dec} {ds : Decs} → Declare f i d m → Declares (after_dec f d) m ds o → Declares f i (dec d ds) o

  pub data Declare : Fixity → List Terminal → Dec → List Terminal → Type 0 where
    -- dec ::= val tyvarseq valbind
    of_val : {f : Fixity} {i m o : List Terminal} {q : ℕ} {as_ : List Tyvar} {bs : Binds} (p : ℕ) → Tyvars i as_ m → TyvarsPlace p i as_ q → ReadsBinds f m bs o
        → Declare f (reserved p res.Val ∷ i) (val_dec p q as_ bs) o
    -- dec ::= fun tyvarseq fvalbind
    of_fun : {f : Fixity} {i m o : List Terminal} {q : ℕ} {as_ : List Tyvar} {fs : Funs} (p : ℕ) → Tyvars i as_ m → TyvarsPlace p i as_ q → ReadsFuns f m fs o
        → Declare f (reserved p res.Fun ∷ i) (fun_dec p q as_ fs) o
    -- dec ::= type typbind
    of_type : {f : Fixity} {i o : List Terminal} {bs : List TypeBind} (p : ℕ) → TypeBinds i bs o → Declare f (reserved p res.TypeWord ∷ i) (type_dec p bs) o
    -- dec ::= datatype datbind [withtype typbind]
    of_datatype : {f : Fixity} {i o : List Terminal} {bs : List DataBind} (p : ℕ) → DataBinds f i bs o
        → Declare f (reserved p res.Datatype ∷ i) (datatype_dec p bs) o
    of_withtype : {f : Fixity} {i m o : List Terminal} {bs : List DataBind} {cs : List TypeBind} (p q : ℕ) → DataBinds f i bs (reserved q res.Withtype ∷ m)
        → TypeBinds m cs o → Declare f (reserved p res.Datatype ∷ i) (withtype_dec p bs cs) o
    -- dec ::= datatype tycon = datatype longtycon
    of_replication : {f : Fixity} {t u : Terminal} {o : List Terminal} {x : Placed ℕ} {c : Placed LongId} (p q r : ℕ) → IsTycon t x.place x.it
        → IsLongTycon u c.place c.it → Declare f (reserved p res.Datatype ∷ t ∷ reserved q res.Equals ∷ reserved r res.Datatype ∷ u ∷ o) (replicate_dec p x c) o
    -- dec ::= exception exbind
    of_exception : {f : Fixity} {i o : List Terminal} {bs : List ExBind} (p : ℕ) → ExBinds f i bs o
        → Declare f (reserved p res.Exception ∷ i) (exception_dec p bs) o
    -- dec ::= local dec in dec end
    of_local : {f : Fixity} {i m o : List Terminal} {ds es : Decs} (p q r : ℕ) → Declares f i ds (reserved q res.In ∷ m)
        → Declares (after f ds) m es (reserved r res.End ∷ o) → Declare f (reserved p res.Local ∷ i) (local_dec p ds es) o
    -- dec ::= open longstrid .. longstrid
    of_open : {f : Fixity} {i o : List Terminal} {xs : List (Placed LongId)} (p : ℕ) → Strids i xs o → Declare f (reserved p res.Open ∷ i) (open_dec p xs) o
    -- dec ::= infix [d] vid .. vid | infixr [d] vid .. vid | nonfix vid .. vid
    of_infix : {f : Fixity} {i m o : List Terminal} {d : ℕ} {xs : List ℕ} (p : ℕ) → ReadsPrecedence i d m → DirectiveVids m xs o
        → Declare f (reserved p res.Infix ∷ i) (fixity_dec p (Some (record { precedence = d; right = false })) xs) o
    of_infixr : {f : Fixity} {i m o : List Terminal} {d : ℕ} {xs : List ℕ} (p : ℕ) → ReadsPrecedence i d m → DirectiveVids m xs o
        → Declare f (reserved p res.Infixr ∷ i) (fixity_dec p (Some (record { precedence = d; right = true })) xs) o
    of_nonfix : {f : Fixity} {i o : List Terminal} {xs : List ℕ} (p : ℕ) → DirectiveVids i xs o → Declare f (reserved p res.Nonfix ∷ i) (fixity_dec p None xs) o

  -- valbind ::= pat = exp [and valbind] | rec valbind
  pub data ReadsBinds : Fixity → List Terminal → Binds → List Terminal → Type 0 where
    of_last_bind : {f : Fixity} {i m o : List Terminal} {a : Pat} {e : Exp} (p : ℕ) → Pattern f i a (reserved p res.Equals ∷ m) → Reads f m e o
        → ReadsBinds f i (last_bind a e) o
    of_bind : {f : Fixity} {i m n o : List Terminal} {a : Pat} {e : Exp} {bs : Binds} (p q : ℕ) → Pattern f i a (reserved p res.Equals ∷ m)
        → Reads f m e (reserved q res.And ∷ n) → ReadsBinds f n bs o → ReadsBinds f i (bind a e bs) o
    of_rec : {f : Fixity} {i o : List Terminal} {bs : Binds} (p : ℕ) → ReadsBinds f i bs o → ReadsBinds f (reserved p res.Rec ∷ i) (rec_binds bs) o

  -- fvalbind ::= fun1 [and fvalbind]
  pub data ReadsFuns : Fixity → List Terminal → Funs → List Terminal → Type 0 where
    of_last_fun : {f : Fixity} {i o : List Terminal} {cs : Clauses} (v : Vid) (n : ℕ) → ReadsClauses f v n i cs o → ReadsFuns f i (last_fun cs) o
    of_fun_and : {f : Fixity} {i m o : List Terminal} {cs : Clauses} {fs : Funs} (v : Vid) (n p : ℕ) → ReadsClauses f v n i cs (reserved p res.And ∷ m)
        → ReadsFuns f m fs o → ReadsFuns f i (fun_and cs fs) o

  -- fun1 ::= clause [| fun1], clause ::= head [: ty] = exp: all clauses have the name v and n patterns, and each but the last ends as a rule does
  pub data ReadsClauses : Fixity → Vid → ℕ → List Terminal → Clauses → List Terminal → Type 0 where
    of_last_clause : {f : Fixity} {v : Vid} {n : ℕ} {i m k o : List Terminal} {h : Head} {s : Option Ty} {e : Exp} (p : ℕ) → ReadsHead f i h m → head_vid h ≡ v
        → head_count h ≡ n → MaybeTy m s (reserved p res.Equals ∷ k) → Reads f k e o → ReadsClauses f v n i (last_clause h s e) o
    of_clause : {f : Fixity} {v : Vid} {n : ℕ} {i m k g o : List Terminal} {h : Head} {s : Option Ty} {e : Exp} {cs : Clauses} (p q : ℕ) → ReadsHead f i h m
        → head_vid h ≡ v → head_count h ≡ n
        → MaybeTy m s (reserved p res.Equals ∷ k) → goes_on f e (reserved q res.Bar ∷ g) ≡ false → Reads f k e (reserved q res.Bar ∷ g)
        → ReadsClauses f v n g cs o → ReadsClauses f v n i (clause h s e cs) o
