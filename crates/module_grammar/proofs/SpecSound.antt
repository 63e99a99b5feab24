-- Lists of specifications that are read are in the grammar.
use Rattle.std.proofs.Common.{◌≡◌, ℕ, suc, List, [], ◌∷◌, length, Option, Some, None, inl, inr, refl, sym, subst, arith}
use Rattle.mlc_names.specs.declared.token.Reserved.{Reserved}
use Rattle.mlc_names.specs.declared.token.Reserved.TheVariants as res
use Rattle.sml_tree.specs.Terminal.{LongId, Terminal, reserved, alpha, IsVid, IsTycon, alpha_tycon, symbol_tycon, IsLongTycon}
use Rattle.sml_tree.specs.declared.ident.Tyvar.{Tyvar}
use Rattle.sml_tree.specs.ReadTree.{Placed, Ty}
use Rattle.sml_tree.specs.Grammar.{ReadsTy, MaybeOf, Tyvars, no_tyvars, one_tyvar, tyvars_in_brackets, BeginsAt, at_tyvar, at_bracket, at_tycon}
use Rattle.sml_grammar.specs.Answer.{Read, ok, Turn, many}
use Rattle.sml_grammar.specs.Terminals.{Taken, taken, place_of, place_at, first_as, as_vid, as_tycon, as_long_tycon, after_word, separated, NoState, no_state}
use Rattle.sml_grammar.specs.Types.{read_ty, maybe_ty}
use Rattle.sml_grammar.specs.Bindings.{read_tyvars, tyvars_place, put_more}
use Rattle.sml_grammar.proofs.Words.{WordAt, at_word, word-at}
use Rattle.sml_grammar.proofs.Answers.{got_some, not_some, then_ok, then_taken-ok, word_then-ok, on_some-split, separated-ok, GoodTurn, many-ok}
use Rattle.sml_grammar.proofs.Terminals.{Holds, holds, nothing, Front, front, front-is, vid-is, tycon-is, long_tycon-is}
use Rattle.sml_grammar.proofs.BindTyvars.{tyvars-sound, place-is, Bound, bound, bound-begins, bound-ok}
use Rattle.sml_grammar.proofs.MaybeTypes.{of-sound}
use Rattle.sml_grammar.proofs.ExpBelow.{Within}
use Rattle.sml_grammar.proofs.ExpGiven.{below}
use Rattle.sml_grammar.proofs.ExpTurns.{sep-good}
use Rattle.module_tree.specs.ReadModules.{TypeDesc, ConDesc, DataDesc, ValDesc, WhereType}
use Rattle.module_tree.specs.ModuleDepth.{depth_con_descs, depth_data_descs, depth_val_descs, depth_where_types}
use Rattle.module_tree.specs.ModuleGrammar.{IsModuleId, module_id, ValDescs, last_val, more_vals, OneTypeDesc, type_desc, TypeDescs, last_type, more_types, ConDescs, last_con, more_cons, OneDataDesc, data_desc, DataDescs, last_data, more_data, ExDescs, last_ex, more_exs, OneWhere, one_where, WhereTypes, last_where, more_wheres, SigIds, last_sig_id, more_sig_ids, LongTycons, last_tycon, more_tycons}
use Rattle.module_grammar.specs.Signatures.{as_module_id, val_desc_turn, type_desc_turn, con_desc_turn, read_con_descs, data_desc_turn, tycon_turn, and_type, where_turn, sig_id_turn}

-- identifiers of modules

pub data ModuleId : Terminal → ℕ → ℕ → Type 0 where
  is_module_id : (p x : ℕ) → ModuleId (alpha p x) p x

module-id-holds : (t : Terminal) → Holds (ModuleId t (place_of t)) (as_module_id t)
module-id-holds (alpha p x) = holds (is_module_id p x)
module-id-holds _ = nothing

pub module-id-is : (i : List Terminal) (x : Placed ℕ) (o : List Terminal) → first_as as_module_id i ≡ taken x o → Front ModuleId i x o
module-id-is = front-is as_module_id ModuleId module-id-holds

pub data IdAt : List Terminal → Placed ℕ → List Terminal → Type 0 where
  id_at : {t : Terminal} {o : List Terminal} {x : Placed ℕ} → IsModuleId t x → IdAt (t ∷ o) x o

pub id-at : {i : List Terminal} {x : Placed ℕ} {o : List Terminal} → Front ModuleId i x o → IdAt i x o
id-at (front (is_module_id p x)) = id_at (module_id p x)

pub id-is : (i : List Terminal) (x : Placed ℕ) (o : List Terminal) → first_as as_module_id i ≡ taken x o → IdAt i x o
id-is i x o h = id-at (module-id-is i x o h)

-- values

val-last : {i m k o : List Terminal} {x : Placed ℕ} {a : Ty} → Front IsVid i x m → WordAt res.Colon m k → ReadsTy k a o
    → ValDescs i (record { place = x.place; vid = x.it; ty = a } ∷ []) o
val-last (front v) (at_word q) d = last_val q v d

val-more : {i m k n j o : List Terminal} {x : Placed ℕ} {a : Ty} {vs : List ValDesc} → Front IsVid i x m → WordAt res.Colon m k → ReadsTy k a n
    → WordAt res.And n j → ValDescs j vs o → ValDescs i (record { place = x.place; vid = x.it; ty = a } ∷ vs) o
val-more (front v) (at_word q) d (at_word r) vs = more_vals q r v d vs

module _ (n : ℕ) where
  abbrev GoodVals : NoState → List Terminal → List ValDesc → List Terminal → Type 0
  GoodVals s i vs o = Within ValDescs depth_val_descs n i vs o

  val-turn : (s : NoState) (i : List Terminal) (y : Read (Turn (List ValDesc) NoState)) → val_desc_turn n s i ≡ ok y → GoodTurn GoodVals s i y.tree y.rest
  val-turn s i y h =
      let t = then_taken-ok (first_as as_vid i) _ y h in
      let v = vid-is i t.0 t.1 t.2 in
      let w = word_then-ok res.Colon _ t.1 y t.3 in
      let u = then_ok (read_ty n 0 w.0) _ y w.2 in
      let g = (below n).tys w.0 u.0 u.1 in
      sep-good GoodVals s s i u.0.rest res.And (λ vs. record { place = t.0.place; vid = t.0.it; ty = u.0.tree } ∷ vs)
      (record { place = t.0.place; vid = t.0.it; ty = u.0.tree } ∷ []) y u.2
      (λ e. record { reads = val-last v w.1 g.reads; fits = omega (arith, g.fits) })
      (λ m a b k r. record { reads = val-more v w.1 g.reads a r.reads; fits = omega (arith, g.fits, r.fits) })

  pub vals-sound : (k : ℕ) (i : List Terminal) (y : Read (List ValDesc)) → many (val_desc_turn n) k no_state i ≡ ok y → Within ValDescs depth_val_descs n i y.tree y.rest
  vals-sound k i y h = many-ok (val_desc_turn n) GoodVals val-turn k no_state i y h

-- types

type-begins : {i o : List Terminal} {x : Placed ℕ} {as_ : List Tyvar} {m : List Terminal} → Tyvars i as_ m → Front IsTycon m x o → BeginsAt i (place_at i)
type-begins no_tyvars (front (alpha_tycon p x)) = at_tycon (alpha_tycon p x)
type-begins no_tyvars (front (symbol_tycon p x)) = at_tycon (symbol_tycon p x)
type-begins (one_tyvar p a) c = at_tyvar p a
type-begins (tyvars_in_brackets p d) c = at_bracket p

one-type : {i o : List Terminal} {x : Placed ℕ} {as_ : List Tyvar} {m : List Terminal} {p : ℕ} → BeginsAt i p → Tyvars i as_ m → Front IsTycon m x o
    → OneTypeDesc i (record { place = p; tyvars = as_; tycon = x.it }) o
one-type b d (front c) = type_desc b d c

types-more : {i n j o : List Terminal} {d : TypeDesc} {ds : List TypeDesc} → OneTypeDesc i d n → WordAt res.And n j → TypeDescs j ds o → TypeDescs i (d ∷ ds) o
types-more d (at_word p) ds = more_types p d ds

abbrev GoodTypes : NoState → List Terminal → List TypeDesc → List Terminal → Type 0
GoodTypes s i ts o = TypeDescs i ts o

type-turn : (s : NoState) (i : List Terminal) (y : Read (Turn (List TypeDesc) NoState)) → type_desc_turn s i ≡ ok y → GoodTurn GoodTypes s i y.tree y.rest
type-turn s i y h =
    let t = then_ok (read_tyvars i) _ y h in
    let d = tyvars-sound i t.0 t.1 in
    let c = then_taken-ok (first_as as_tycon t.0.rest) _ y t.2 in
    let v = tycon-is t.0.rest c.0 c.1 c.2 in
    let one = one-type (type-begins d v) d v in
    sep-good GoodTypes s s i c.1 res.And (λ ds. record { place = place_at i; tyvars = t.0.tree; tycon = c.0.it } ∷ ds)
    (record { place = place_at i; tyvars = t.0.tree; tycon = c.0.it } ∷ []) y c.3
    (λ e. last_type one) (λ m a b k r. types-more one a r)

pub types-sound : (k : ℕ) (i : List Terminal) (y : Read (List TypeDesc)) → many type_desc_turn k no_state i ≡ ok y → TypeDescs i y.tree y.rest
types-sound k i y h = many-ok type_desc_turn GoodTypes type-turn k no_state i y h

-- constructors, parted by `|`, and exceptions, parted by `and`

abbrev con_of : Placed ℕ → Option Ty → ConDesc
con_of x t = record { place = x.place; vid = x.it; of_ty = t }

con-last : {i m o : List Terminal} {x : Placed ℕ} {t : Option Ty} → Front IsVid i x m → MaybeOf m t o → ConDescs i (con_of x t ∷ []) o
con-last (front v) d = last_con v d

con-more : {i m n j o : List Terminal} {x : Placed ℕ} {t : Option Ty} {cs : List ConDesc} → Front IsVid i x m → MaybeOf m t n → WordAt res.Bar n j
    → ConDescs j cs o → ConDescs i (con_of x t ∷ cs) o
con-more (front v) d (at_word q) cs = more_cons q v d cs

ex-last : {i m o : List Terminal} {x : Placed ℕ} {t : Option Ty} → Front IsVid i x m → MaybeOf m t o → ExDescs i (con_of x t ∷ []) o
ex-last (front v) d = last_ex v d

ex-more : {i m n j o : List Terminal} {x : Placed ℕ} {t : Option Ty} {cs : List ConDesc} → Front IsVid i x m → MaybeOf m t n → WordAt res.And n j
    → ExDescs j cs o → ExDescs i (con_of x t ∷ cs) o
ex-more (front v) d (at_word q) cs = more_exs q v d cs

module _ (n : ℕ) (w : Reserved) (R : List Terminal → List ConDesc → List Terminal → Type 0)
    (ends : (i m o : List Terminal) (x : Placed ℕ) (t : Option Ty) → Front IsVid i x m → MaybeOf m t o → R i (con_of x t ∷ []) o)
    (goes : (i m j k o : List Terminal) (x : Placed ℕ) (t : Option Ty) (cs : List ConDesc) → Front IsVid i x m → MaybeOf m t k → WordAt w k j → R j cs o
    → R i (con_of x t ∷ cs) o) where
  abbrev GoodCons : NoState → List Terminal → List ConDesc → List Terminal → Type 0
  GoodCons s i cs o = Within R depth_con_descs n i cs o

  con-turn : (s : NoState) (i : List Terminal) (y : Read (Turn (List ConDesc) NoState)) → con_desc_turn n w s i ≡ ok y → GoodTurn GoodCons s i y.tree y.rest
  con-turn s i y h =
      let t = then_taken-ok (first_as as_vid i) _ y h in
      let v = vid-is i t.0 t.1 t.2 in
      let u = then_ok (maybe_ty n (after_word res.Of t.1) t.1) _ y t.3 in
      let g = of-sound n t.1 u.0 u.1 in
      sep-good GoodCons s s i u.0.rest w (λ cs. con_of t.0 u.0.tree ∷ cs) (con_of t.0 u.0.tree ∷ []) y u.2
      (λ e. record { reads = ends i t.1 u.0.rest t.0 u.0.tree v g.reads; fits = omega (arith, g.fits) })
      (λ m a b k r. record { reads = goes i t.1 m u.0.rest k t.0 u.0.tree b v g.reads a r.reads; fits = omega (arith, g.fits, r.fits) })

  cons-by : (k : ℕ) (i : List Terminal) (y : Read (List ConDesc)) → many (con_desc_turn n w) k no_state i ≡ ok y → Within R depth_con_descs n i y.tree y.rest
  cons-by k i y h = many-ok (con_desc_turn n w) GoodCons con-turn k no_state i y h

pub cons-sound : (n : ℕ) (i : List Terminal) (y : Read (List ConDesc)) → read_con_descs n res.Bar i ≡ ok y → Within ConDescs depth_con_descs n i y.tree y.rest
cons-sound n i y h = cons-by n res.Bar ConDescs (λ i m o x t v d. con-last v d) (λ i m j k o x t cs v d a r. con-more v d a r) (suc (length i)) i y h

pub exs-sound : (n : ℕ) (i : List Terminal) (y : Read (List ConDesc)) → read_con_descs n res.And i ≡ ok y → Within ExDescs depth_con_descs n i y.tree y.rest
exs-sound n i y h = cons-by n res.And ExDescs (λ i m o x t v d. ex-last v d) (λ i m j k o x t cs v d a r. ex-more v d a r) (suc (length i)) i y h

-- datatypes

pub one-data : {i m o : List Terminal} {as_ : List Tyvar} {x p : ℕ} {cs : List ConDesc} → BeginsAt i p → Bound i as_ x m → ConDescs m cs o
    → OneDataDesc i (record { place = p; tyvars = as_; tycon = x; cons = cs }) o
one-data b (bound r d c) cs = data_desc r b d c cs

data-more : {i n j o : List Terminal} {d : DataDesc} {ds : List DataDesc} → OneDataDesc i d n → WordAt res.And n j → DataDescs j ds o → DataDescs i (d ∷ ds) o
data-more d (at_word p) ds = more_data p d ds

module _ (n : ℕ) where
  abbrev GoodData : NoState → List Terminal → List DataDesc → List Terminal → Type 0
  GoodData s i ds o = Within DataDescs depth_data_descs n i ds o

  data-turn : (s : NoState) (i : List Terminal) (y : Read (Turn (List DataDesc) NoState)) → data_desc_turn n s i ≡ ok y → GoodTurn GoodData s i y.tree y.rest
  data-turn s i y h =
      let b = bound-ok _ i y h in
      let u = then_ok (read_con_descs n res.Bar b.2) _ y b.4 in
      let g = cons-sound n b.2 u.0 u.1 in
      let one = one-data (bound-begins b.3) b.3 g.reads in
      sep-good GoodData s s i u.0.rest res.And (λ ds. record { place = place_at i; tyvars = b.0; tycon = b.1; cons = u.0.tree } ∷ ds)
      (record { place = place_at i; tyvars = b.0; tycon = b.1; cons = u.0.tree } ∷ []) y u.2
      (λ e. record { reads = last_data one; fits = omega (arith, g.fits) })
      (λ m a x k r. record { reads = data-more one a r.reads; fits = omega (arith, g.fits, r.fits) })

  pub data-sound : (k : ℕ) (i : List Terminal) (y : Read (List DataDesc)) → many (data_desc_turn n) k no_state i ≡ ok y → Within DataDescs depth_data_descs n i y.tree y.rest
  data-sound k i y h = many-ok (data_desc_turn n) GoodData data-turn k no_state i y h

-- type constructors that are shared

tycons-last : {i o : List Terminal} {c : Placed LongId} → Front IsLongTycon i c o → LongTycons i (c ∷ []) o
tycons-last (front v) = last_tycon v

tycons-more : {i n j o : List Terminal} {c : Placed LongId} {cs : List (Placed LongId)} → Front IsLongTycon i c n → WordAt res.Equals n j → LongTycons j cs o
    → LongTycons i (c ∷ cs) o
tycons-more (front v) (at_word q) cs = more_tycons q v cs

abbrev GoodTycons : NoState → List Terminal → List (Placed LongId) → List Terminal → Type 0
GoodTycons s i cs o = LongTycons i cs o

tycons-turn : (s : NoState) (i : List Terminal) (y : Read (Turn (List (Placed LongId)) NoState)) → tycon_turn s i ≡ ok y → GoodTurn GoodTycons s i y.tree y.rest
tycons-turn s i y h =
    let t = then_taken-ok (first_as as_long_tycon i) _ y h in
    let v = long_tycon-is i t.0 t.1 t.2 in
    sep-good GoodTycons s s i t.1 res.Equals (λ cs. t.0 ∷ cs) (t.0 ∷ []) y t.3 (λ e. tycons-last v) (λ m a b k r. tycons-more v a r)

pub tycons-sound : (k : ℕ) (i : List Terminal) (y : Read (List (Placed LongId))) → many tycon_turn k no_state i ≡ ok y → LongTycons i y.tree y.rest
tycons-sound k i y h = many-ok tycon_turn GoodTycons tycons-turn k no_state i y h

-- what `where type` binds

pub where-one : {i j m k l o : List Terminal} {as_ : List Tyvar} {c : Placed LongId} {a : Ty} → WordAt res.TypeWord i j → Tyvars j as_ m → Front IsLongTycon m c k
    → WordAt res.Equals k l → ReadsTy l a o → OneWhere i (record { place = place_at i; tyvars_place = tyvars_place (place_at i) j as_; tyvars = as_; tycon = c; ty = a }) o
where-one (at_word p) d (front c) (at_word r) t = one_where p r d (place-is p d) c t

-- `and` before `type`
pub data AndType : List Terminal → List Terminal → Type 0 where
  and_type_at : {o : List Terminal} (p q : ℕ) → AndType (reserved p res.And ∷ reserved q res.TypeWord ∷ o) (reserved q res.TypeWord ∷ o)

and-type-of : {i m o : List Terminal} → WordAt res.And i m → WordAt res.TypeWord m o → AndType i m
and-type-of (at_word p) (at_word q) = and_type_at p q

pub and-type-is : (i m : List Terminal) → and_type (after_word res.And i) ≡ Some m → AndType i m
and-type-is i m h = go (after_word res.And i) refl h
  where
    go : (v : Option (List Terminal)) → after_word res.And i ≡ v → and_type v ≡ Some m → AndType i m
    go None e h = not_some h
    go (Some k) e h =
        elim (on_some-split (after_word res.TypeWord k) _ None h) [
          | inl u ↦ subst (λ (z : List Terminal). AndType i z) (got_some u.2) (and-type-of (word-at res.And i k e) (word-at res.TypeWord k u.0 u.1))
          | inr u ↦ not_some u.1
        ]

wheres-more : {i n j o : List Terminal} {w : WhereType} {ws : List WhereType} → OneWhere i w n → AndType n j → WhereTypes j ws o → WhereTypes i (w ∷ ws) o
wheres-more w (and_type_at p q) ws = more_wheres p w ws

module _ (n : ℕ) where
  abbrev GoodWheres : NoState → List Terminal → List WhereType → List Terminal → Type 0
  GoodWheres s i ws o = Within WhereTypes depth_where_types n i ws o

  abbrev where_of : List Terminal → List Terminal → List Tyvar → Placed LongId → Ty → WhereType
  where_of i j as_ c a = record { place = place_at i; tyvars_place = tyvars_place (place_at i) j as_; tyvars = as_; tycon = c; ty = a }

  where-turn : (s : NoState) (i : List Terminal) (y : Read (Turn (List WhereType) NoState)) → where_turn n s i ≡ ok y → GoodTurn GoodWheres s i y.tree y.rest
  where-turn s i y h =
      let w = word_then-ok res.TypeWord _ i y h in
      let t = then_ok (read_tyvars w.0) _ y w.2 in
      let d = tyvars-sound w.0 t.0 t.1 in
      let c = then_taken-ok (first_as as_long_tycon t.0.rest) _ y t.2 in
      let v = long_tycon-is t.0.rest c.0 c.1 c.2 in
      let x = word_then-ok res.Equals _ c.1 y c.3 in
      let u = then_ok (read_ty n 0 x.0) _ y x.2 in
      let g = (below n).tys x.0 u.0 u.1 in
      let one = where-one w.1 d v x.1 g.reads in
      elim (separated-ok (and_type (after_word res.And u.0.rest)) (λ ws. where_of i w.0 t.0.tree c.0 u.0.tree ∷ ws) (where_of i w.0 t.0.tree c.0 u.0.tree ∷ []) s u.0.rest u.2) [
        | inl q ↦ subst (λ (z : Read (Turn (List WhereType) NoState)). GoodTurn GoodWheres s i z.tree z.rest) q.1
            (record { reads = last_where one; fits = omega (arith, g.fits) })
        | inr q ↦ subst (λ (z : Read (Turn (List WhereType) NoState)). GoodTurn GoodWheres s i z.tree z.rest) q.2
            (λ b k r. record { reads = wheres-more one (and-type-is u.0.rest q.0 q.1) r.reads; fits = omega (arith, g.fits, r.fits) })
      ]

  pub wheres-sound : (k : ℕ) (i : List Terminal) (y : Read (List WhereType)) → many (where_turn n) k no_state i ≡ ok y → Within WhereTypes depth_where_types n i y.tree y.rest
  wheres-sound k i y h = many-ok (where_turn n) GoodWheres where-turn k no_state i y h

-- identifiers of signatures

put-more-some : {B : Type 0} (x : Option (Taken B)) (o m : List Terminal) → put_more x o ≡ Some m → o ≡ m
put-more-some None o m h = not_some h
put-more-some (Some x) o m h = got_some h

ids-last : {i o : List Terminal} {x : Placed ℕ} → IdAt i x o → SigIds i (x ∷ []) o
ids-last (id_at v) = last_sig_id v

ids-more : {i m o : List Terminal} {x : Placed ℕ} {xs : List (Placed ℕ)} → IdAt i x m → SigIds m xs o → SigIds i (x ∷ xs) o
ids-more (id_at v) xs = more_sig_ids v xs

abbrev GoodIds : NoState → List Terminal → List (Placed ℕ) → List Terminal → Type 0
GoodIds s i xs o = SigIds i xs o

ids-turn : (s : NoState) (i : List Terminal) (y : Read (Turn (List (Placed ℕ)) NoState)) → sig_id_turn s i ≡ ok y → GoodTurn GoodIds s i y.tree y.rest
ids-turn s i y h =
    let t = then_taken-ok (first_as as_module_id i) (λ x o. separated (put_more (first_as as_module_id o) o) (λ xs. x ∷ xs) (x ∷ []) s o) y h in
    let v = id-is i t.0 t.1 t.2 in
    elim (separated-ok (put_more (first_as as_module_id t.1) t.1) (λ xs. t.0 ∷ xs) (t.0 ∷ []) s t.1 t.3) [
      | inl u ↦ subst (λ (z : Read (Turn (List (Placed ℕ)) NoState)). GoodTurn GoodIds s i z.tree z.rest) u.1 (ids-last v)
      | inr u ↦ subst (λ (z : Read (Turn (List (Placed ℕ)) NoState)). GoodTurn GoodIds s i z.tree z.rest) u.2
          (λ xs k d. ids-more v (subst (λ (z : List Terminal). SigIds z xs k) (sym (put-more-some (first_as as_module_id t.1) t.1 u.0 u.1)) d))
    ]

pub ids-sound : (k : ℕ) (i : List Terminal) (y : Read (List (Placed ℕ))) → many sig_id_turn k no_state i ≡ ok y → SigIds i y.tree y.rest
ids-sound k i y h = many-ok sig_id_turn GoodIds ids-turn k no_state i y h
