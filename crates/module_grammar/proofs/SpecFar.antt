-- Where lists of specifications are too deep, a partial one is there.
use Rattle.std.proofs.Common.{◌≡◌, ℕ, suc, List, [], ◌∷◌, length, Option, inl, inr, subst}
use Rattle.mlc_names.specs.declared.token.Reserved.{Reserved}
use Rattle.mlc_names.specs.declared.token.Reserved.TheVariants as res
use Rattle.sml_tree.specs.Terminal.{LongId, Terminal, IsVid, IsLongTycon}
use Rattle.sml_tree.specs.declared.ident.Tyvar.{Tyvar}
use Rattle.sml_tree.specs.ReadTree.{Placed, Ty}
use Rattle.sml_tree.specs.Grammar.{ReadsTy, MaybeOf, Tyvars}
use Rattle.sml_grammar.specs.Answer.{Read, ok, deep, Turn, many}
use Rattle.sml_grammar.specs.Terminals.{first_as, as_vid, as_tycon, as_long_tycon, after_word, separated, NoState, no_state}
use Rattle.sml_grammar.specs.Types.{read_ty, maybe_ty}
use Rattle.sml_grammar.specs.Bindings.{read_tyvars, put_more}
use Rattle.sml_grammar.specs.PartialTypes.{OpensTy}
use Rattle.sml_grammar.proofs.Words.{WordAt, at_word, word-at}
use Rattle.sml_grammar.proofs.Answers.{then_ok, then_deep, then_taken-ok, then_taken-deep, word_then-ok, word_then-deep, separated-ok, separated-deep, FarTurn, many-reach, many-far}
use Rattle.sml_grammar.proofs.Terminals.{Front, front, vid-is, long_tycon-is}
use Rattle.sml_grammar.proofs.BindTyvars.{tyvars-sound, tyvars-never-deep, Bound, bound, bound-begins, bound-ok, bound-deep}
use Rattle.sml_grammar.proofs.BindOf.{OpensOf, in_of, of-far}
use Rattle.sml_grammar.proofs.MaybeTypes.{of-sound}
use Rattle.sml_grammar.proofs.ExpGiven.{below, far_below}
use Rattle.module_tree.specs.ReadModules.{ConDesc, DataDesc, ValDesc, WhereType}
use Rattle.module_tree.specs.ModuleGrammar.{OneDataDesc, OneWhere}
use Rattle.module_grammar.specs.Signatures.{as_module_id, val_desc_turn, type_desc_turn, con_desc_turn, read_con_descs, data_desc_turn, tycon_turn, and_type, where_turn, sig_id_turn}
use Rattle.module_grammar.specs.PartialSignatures.{OpensVals, in_val_desc, past_val_desc, OpensConDescs, in_con_desc, past_con_desc, OpensDataDescs, in_data_desc, past_data_desc, OpensExDescs, in_ex_desc, past_ex_desc, OpensWheres, in_where, past_where}
use Rattle.module_grammar.proofs.SpecSound.{cons-sound, one-data, where-one, AndType, and_type_at, and-type-is}

-- an element of a list, and a separator or none after it
pub sep-far : {B S : Type 0} (Q : S → List Terminal → Type 0) (s s' : S) (i o : List Terminal) (w : Reserved) (put : B → B) (end : B) (y : Read (Turn B S))
    → separated (after_word w o) put end s' o ≡ ok y → ((m : List Terminal) → WordAt w o m → Q s' m → Q s i) → FarTurn Q s i y.tree y.rest
sep-far {B} {S} Q s s' i o w put end y h goes =
    elim (separated-ok (after_word w o) put end s' o h) [
      | inl q ↦ subst (λ (z : Read (Turn B S)). FarTurn Q s i z.tree z.rest) q.1 tt
      | inr q ↦ subst (λ (z : Read (Turn B S)). FarTurn Q s i z.tree z.rest) q.2 (goes q.0 (word-at w o q.0 q.1))
    ]

-- values

in-val : {i m k : List Terminal} {x : Placed ℕ} {d : ℕ} → Front IsVid i x m → WordAt res.Colon m k → OpensTy 0 k d → OpensVals i d
in-val (front v) (at_word q) o = in_val_desc q v o

past-val : {i m k n j : List Terminal} {x : Placed ℕ} {a : Ty} {d : ℕ} → Front IsVid i x m → WordAt res.Colon m k → ReadsTy k a n → WordAt res.And n j
    → OpensVals j d → OpensVals i d
past-val (front v) (at_word q) t (at_word r) o = past_val_desc q r v t o

module _ (n : ℕ) where
  abbrev Vals : NoState → List Terminal → Type 0
  Vals s i = OpensVals i (suc n)

  val-ends : (s : NoState) (i : List Terminal) → val_desc_turn n s i ≡ deep → Vals s i
  val-ends s i h =
      let t = then_taken-deep (first_as as_vid i) _ h in
      let w = word_then-deep res.Colon _ t.1 t.3 in
      elim (then_deep (read_ty n 0 w.0) _ w.2) [
        | inl e ↦ in-val (vid-is i t.0 t.1 t.2) w.1 ((far_below n).tys w.0 e)
        | inr u ↦ separated-deep (after_word res.And u.0.rest) _ _ s u.0.rest u.2
      ]

  val-goes : (s : NoState) (i : List Terminal) (y : Read (Turn (List ValDesc) NoState)) → val_desc_turn n s i ≡ ok y → FarTurn Vals s i y.tree y.rest
  val-goes s i y h =
      let t = then_taken-ok (first_as as_vid i) _ y h in
      let w = word_then-ok res.Colon _ t.1 y t.3 in
      let u = then_ok (read_ty n 0 w.0) _ y w.2 in
      let g = (below n).tys w.0 u.0 u.1 in
      sep-far Vals s s i u.0.rest res.And (λ vs. record { place = t.0.place; vid = t.0.it; ty = u.0.tree } ∷ vs)
      (record { place = t.0.place; vid = t.0.it; ty = u.0.tree } ∷ []) y u.2 (λ m a q. past-val (vid-is i t.0 t.1 t.2) w.1 g.reads a q)

  pub vals-far : (k : ℕ) (i : List Terminal) → many (val_desc_turn n) k no_state i ≡ deep → OpensVals i (suc n)
  vals-far k i h = many-reach (val_desc_turn n) Vals val-ends val-goes k no_state i h

-- lists of identifiers are never too deep

type-ends : {A : Type 0} (s : NoState) (i : List Terminal) → type_desc_turn s i ≡ deep → A
type-ends s i h =
    elim (then_deep (read_tyvars i) _ h) [
      | inl e ↦ tyvars-never-deep i e
      | inr t ↦ let c = then_taken-deep (first_as as_tycon t.0.rest) _ t.2 in separated-deep (after_word res.And c.1) _ _ s c.1 c.3
    ]

pub types-never-deep : {A : Type 0} (k : ℕ) (i : List Terminal) → many type_desc_turn k no_state i ≡ deep → A
types-never-deep {A} k i h = many-far type_desc_turn (λ s m. A) (λ s m e. type-ends s m e) (λ s m put t o e a. a) k no_state i h

tycon-ends : {A : Type 0} (s : NoState) (i : List Terminal) → tycon_turn s i ≡ deep → A
tycon-ends s i h = let t = then_taken-deep (first_as as_long_tycon i) _ h in separated-deep (after_word res.Equals t.1) _ _ s t.1 t.3

pub tycons-never-deep : {A : Type 0} (k : ℕ) (i : List Terminal) → many tycon_turn k no_state i ≡ deep → A
tycons-never-deep {A} k i h = many-far tycon_turn (λ s m. A) (λ s m e. tycon-ends s m e) (λ s m put t o e a. a) k no_state i h

id-ends : {A : Type 0} (s : NoState) (i : List Terminal) → sig_id_turn s i ≡ deep → A
id-ends s i h =
    let t = then_taken-deep (first_as as_module_id i) _ h in
    separated-deep (put_more (first_as as_module_id t.1) t.1) _ _ s t.1 t.3

pub ids-never-deep : {A : Type 0} (k : ℕ) (i : List Terminal) → many sig_id_turn k no_state i ≡ deep → A
ids-never-deep {A} k i h = many-far sig_id_turn (λ s m. A) (λ s m e. id-ends s m e) (λ s m put t o e a. a) k no_state i h

-- constructors and exceptions

in-con : {i m : List Terminal} {x : Placed ℕ} {d : ℕ} → Front IsVid i x m → OpensOf m d → OpensConDescs i d
in-con (front v) (in_of q o) = in_con_desc q v o

past-con : {i m n j : List Terminal} {x : Placed ℕ} {t : Option Ty} {d : ℕ} → Front IsVid i x m → MaybeOf m t n → WordAt res.Bar n j → OpensConDescs j d
    → OpensConDescs i d
past-con (front v) s (at_word q) o = past_con_desc q v s o

in-ex : {i m : List Terminal} {x : Placed ℕ} {d : ℕ} → Front IsVid i x m → OpensOf m d → OpensExDescs i d
in-ex (front v) (in_of q o) = in_ex_desc q v o

past-ex : {i m n j : List Terminal} {x : Placed ℕ} {t : Option Ty} {d : ℕ} → Front IsVid i x m → MaybeOf m t n → WordAt res.And n j → OpensExDescs j d
    → OpensExDescs i d
past-ex (front v) s (at_word q) o = past_ex_desc q v s o

module _ (n : ℕ) (w : Reserved) (Q : List Terminal → Type 0) (ends : (i m : List Terminal) (x : Placed ℕ) → Front IsVid i x m → OpensOf m (suc n) → Q i)
    (goes : (i m k j : List Terminal) (x : Placed ℕ) (t : Option Ty) → Front IsVid i x m → MaybeOf m t k → WordAt w k j → Q j → Q i) where
  abbrev Cons : NoState → List Terminal → Type 0
  Cons s i = Q i

  con-ends : (s : NoState) (i : List Terminal) → con_desc_turn n w s i ≡ deep → Cons s i
  con-ends s i h =
      let t = then_taken-deep (first_as as_vid i) _ h in
      elim (then_deep (maybe_ty n (after_word res.Of t.1) t.1) _ t.3) [
        | inl e ↦ ends i t.1 t.0 (vid-is i t.0 t.1 t.2) (of-far n t.1 e)
        | inr u ↦ separated-deep (after_word w u.0.rest) _ _ s u.0.rest u.2
      ]

  con-goes : (s : NoState) (i : List Terminal) (y : Read (Turn (List ConDesc) NoState)) → con_desc_turn n w s i ≡ ok y → FarTurn Cons s i y.tree y.rest
  con-goes s i y h =
      let t = then_taken-ok (first_as as_vid i) _ y h in
      let u = then_ok (maybe_ty n (after_word res.Of t.1) t.1) _ y t.3 in
      let g = of-sound n t.1 u.0 u.1 in
      sep-far Cons s s i u.0.rest w (λ cs. record { place = t.0.place; vid = t.0.it; of_ty = u.0.tree } ∷ cs)
      (record { place = t.0.place; vid = t.0.it; of_ty = u.0.tree } ∷ []) y u.2
      (λ m a q. goes i t.1 u.0.rest m t.0 u.0.tree (vid-is i t.0 t.1 t.2) g.reads a q)

  cons-by-far : (i : List Terminal) → read_con_descs n w i ≡ deep → Q i
  cons-by-far i h = many-reach (con_desc_turn n w) Cons con-ends con-goes (suc (length i)) no_state i h

pub cons-far : (n : ℕ) (i : List Terminal) → read_con_descs n res.Bar i ≡ deep → OpensConDescs i (suc n)
cons-far n i h = cons-by-far n res.Bar (λ z. OpensConDescs z (suc n)) (λ i m x v o. in-con v o) (λ i m k j x t v s a o. past-con v s a o) i h

pub exs-far : (n : ℕ) (i : List Terminal) → read_con_descs n res.And i ≡ deep → OpensExDescs i (suc n)
exs-far n i h = cons-by-far n res.And (λ z. OpensExDescs z (suc n)) (λ i m x v o. in-ex v o) (λ i m k j x t v s a o. past-ex v s a o) i h

-- datatypes

in-data : {i m : List Terminal} {as_ : List Tyvar} {x d : ℕ} → Bound i as_ x m → OpensConDescs m d → OpensDataDescs i d
in-data (bound r d c) o = in_data_desc r d c o

past-data : {i n j : List Terminal} {b : DataDesc} {d : ℕ} → OneDataDesc i b n → WordAt res.And n j → OpensDataDescs j d → OpensDataDescs i d
past-data b (at_word p) o = past_data_desc p b o

module _ (n : ℕ) where
  abbrev Data : NoState → List Terminal → Type 0
  Data s i = OpensDataDescs i (suc n)

  data-ends : (s : NoState) (i : List Terminal) → data_desc_turn n s i ≡ deep → Data s i
  data-ends s i h =
      let b = bound-deep _ i h in
      elim (then_deep (read_con_descs n res.Bar b.2) _ b.4) [
        | inl e ↦ in-data b.3 (cons-far n b.2 e)
        | inr u ↦ separated-deep (after_word res.And u.0.rest) _ _ s u.0.rest u.2
      ]

  data-goes : (s : NoState) (i : List Terminal) (y : Read (Turn (List DataDesc) NoState)) → data_desc_turn n s i ≡ ok y → FarTurn Data s i y.tree y.rest
  data-goes s i y h =
      let b = bound-ok _ i y h in
      let u = then_ok (read_con_descs n res.Bar b.2) _ y b.4 in
      let g = cons-sound n b.2 u.0 u.1 in
      let one = one-data (bound-begins b.3) b.3 g.reads in
      sep-far Data s s i u.0.rest res.And _ _ y u.2 (λ m a q. past-data one a q)

  pub data-far : (k : ℕ) (i : List Terminal) → many (data_desc_turn n) k no_state i ≡ deep → OpensDataDescs i (suc n)
  data-far k i h = many-reach (data_desc_turn n) Data data-ends data-goes k no_state i h

  -- what `where type` binds

  in-where : {i j m k l : List Terminal} {as_ : List Tyvar} {c : Placed LongId} {d : ℕ} → WordAt res.TypeWord i j → Tyvars j as_ m → Front IsLongTycon m c k
      → WordAt res.Equals k l → OpensTy 0 l d → OpensWheres i d
  in-where (at_word p) t (front c) (at_word r) o = in_where p r t c o

  past-where : {i n j : List Terminal} {w : WhereType} {d : ℕ} → OneWhere i w n → AndType n j → OpensWheres j d → OpensWheres i d
  past-where w (and_type_at p q) o = past_where p w o

  abbrev Wheres : NoState → List Terminal → Type 0
  Wheres s i = OpensWheres i (suc n)

  where-ends : (s : NoState) (i : List Terminal) → where_turn n s i ≡ deep → Wheres s i
  where-ends s i h =
      let w = word_then-deep res.TypeWord _ i h in
      elim (then_deep (read_tyvars w.0) _ w.2) [
        | inl e ↦ tyvars-never-deep w.0 e
        | inr t ↦
            let c = then_taken-deep (first_as as_long_tycon t.0.rest) _ t.2 in
            let x = word_then-deep res.Equals _ c.1 c.3 in
            elim (then_deep (read_ty n 0 x.0) _ x.2) [
              | inl e ↦ in-where w.1 (tyvars-sound w.0 t.0 t.1) (long_tycon-is t.0.rest c.0 c.1 c.2) x.1 ((far_below n).tys x.0 e)
              | inr u ↦ separated-deep (and_type (after_word res.And u.0.rest)) _ _ s u.0.rest u.2
            ]
      ]

  where-goes : (s : NoState) (i : List Terminal) (y : Read (Turn (List WhereType) NoState)) → where_turn n s i ≡ ok y → FarTurn Wheres s i y.tree y.rest
  where-goes s i y h =
      let w = word_then-ok res.TypeWord _ i y h in
      let t = then_ok (read_tyvars w.0) _ y w.2 in
      let c = then_taken-ok (first_as as_long_tycon t.0.rest) _ y t.2 in
      let x = word_then-ok res.Equals _ c.1 y c.3 in
      let u = then_ok (read_ty n 0 x.0) _ y x.2 in
      let g = (below n).tys x.0 u.0 u.1 in
      let one = where-one w.1 (tyvars-sound w.0 t.0 t.1) (long_tycon-is t.0.rest c.0 c.1 c.2) x.1 g.reads in
      elim (separated-ok (and_type (after_word res.And u.0.rest)) _ _ s u.0.rest u.2) [
        | inl q ↦ subst (λ (z : Read (Turn (List WhereType) NoState)). FarTurn Wheres s i z.tree z.rest) q.1 tt
        | inr q ↦ subst (λ (z : Read (Turn (List WhereType) NoState)). FarTurn Wheres s i z.tree z.rest) q.2
            (λ o. past-where one (and-type-is u.0.rest q.0 q.1) o)
      ]

  pub wheres-far : (k : ℕ) (i : List Terminal) → many (where_turn n) k no_state i ≡ deep → OpensWheres i (suc n)
  wheres-far k i h = many-reach (where_turn n) Wheres where-ends where-goes k no_state i h
