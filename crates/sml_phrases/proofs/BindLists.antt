-- The loops that read type variables in brackets and bindings.
use Rattle.std.proofs.Common.{◌≡◌, ℕ, ◌<◌, ◌≤◌, List, [], ◌∷◌, ◌++◌, length, map, max, Some, None, refl, sym, ap, ◌∙◌, subst, arith}
use Rattle.mlc_names.specs.declared.token.Token.{Token}
use Rattle.mlc_names.specs.declared.token.Reserved.{Reserved}
use Rattle.mlc_names.specs.declared.token.Reserved.TheVariants as res
use Rattle.sml_tree.specs.Terminal.{Terminal}
use Rattle.sml_tree.specs.Fixity.{Fixity}
use Rattle.sml_tree.specs.ReadTree as read_tree
use Rattle.sml_tree.specs.ReadTree.{Placed, new_exn, same_exn}
use Rattle.sml_tree.specs.Bare.{bare_type_bind, bare_con, bare_data_bind, bare_ex_bind}
use Rattle.sml_tree.specs.Depth.{depth_ty, depth_some, depth_type_binds, depth_cons, depth_data_binds, depth_ex_binds}
use Rattle.sml_tree.specs.TreeOf.{type_bind_of, con_bind_of, data_bind_of, ex_bind_of}
use Rattle.sml_tree.specs.declared.ident.Tyvar.{Tyvar}
use Rattle.sml_tree.specs.declared.tree.TypeBind.{TypeBind}
use Rattle.sml_tree.specs.declared.tree.ConBind.{ConBind}
use Rattle.sml_tree.specs.declared.tree.DataBind.{DataBind}
use Rattle.sml_tree.specs.declared.tree.ExBind.{ExBind}
use Rattle.sml_grammar.specs.Answer.{Read, Answer, ok, bad, read, Turn, last, more, whole}
use Rattle.sml_grammar.specs.Terminals.{taken, first_as, as_tyvar, after_word, NoState, no_state}
use Rattle.sml_grammar.specs.Bindings.{tyvar_turn, type_bind_turn, read_type_binds, con_turn, read_cons, data_bind_turn, read_data_binds, ex_bind_turn, read_ex_binds}
use Rattle.phrase_base.specs.declared.source.Source.{Source}
use Rattle.phrase_base.specs.declared.stop.Stop.{Stop}
use Rattle.phrase_base.specs.declared.stop.Stop.TheVariants as stop
use Rattle.phrase_base.specs.Gives.{Fails, Gave}
use Rattle.phrase_base.specs.Left.{left}
use Rattle.sml_phrases.specs.BindingsRead.{IsTyvars, IsTypeBind, read_type_bind, IsTypeBinds, IsCon, read_con, IsCons, IsDataBind, read_data_bind, IsDataBinds, IsExBind, read_ex_bind, depth_ex_bind, IsExBinds}
use Rattle.sml_phrases.proofs.BindForms.{type-turns, con-turns, data-turns, ex-turns}
use Rattle.phrase_base.proofs.Shorter.{word-shorter, first-shorter}
use Rattle.phrase_base.proofs.Elements.{Elements, elements-start, elements-more, elements-last, elements-fail, parted-more, parted-last, parted-fail}

-- what was read is one element longer, and less is left
pub record Further {X A V : Type 0} (step : NoState → List Terminal → Answer (Turn (List A) NoState)) (of : X → V) (view : A → V) (deps : List A → ℕ) (n : ℕ) (i m : List Terminal) (all : List X) (d : ℕ) (total : Answer (List A)) : Type 0 where
  pub going : Elements step of view deps n m all d total
  pub short : length m < length i

less-after : (s : Source) (w : Reserved) (i m o : List Terminal) (k : List Token) → left s k ≡ o → length o < length i → after_word w (left s k) ≡ Some m → length m < length i
less-after s w i m o k e lt sep = let p = word-shorter w (left s k) m sep in let q = ap length e in omega arith

-- Type variables.

abbrev pub TyvarsGoing : List Terminal → List Tyvar → Answer (List Tyvar) → Type 0
TyvarsGoing i all total = Elements tyvar_turn (λ a. a) (λ a. a) (λ as_. 0) 0 i all 0 total

pub tyvars-start : (i : List Terminal) (all : List Tyvar) → all ≡ [] → TyvarsGoing i all (whole tyvar_turn no_state i)
tyvars-start i all p = subst (λ (z : List Tyvar). TyvarsGoing i z (whole tyvar_turn no_state i)) (sym p) (elements-start tyvar_turn (λ a. a) (λ a. a) (λ as_. 0) 0 i)

map-same : {A : Type 0} (as_ : List A) → map (λ (a : A). a) as_ ≡ as_
map-same [] = refl
map-same (a ∷ as_) = ap (λ (z : List _). a ∷ z) (map-same as_)

module _ (i : List Terminal) (all : List Tyvar) (total : Answer (List Tyvar)) where
  pub tyvars-none : first_as as_tyvar i ≡ None → TyvarsGoing i all total → total ≡ bad
  tyvars-none h g = elements-fail tyvar_turn (λ a. a) (λ a. a) (λ as_. 0) 0 (stop.Bad 0) all (let one : tyvar_turn no_state i ≡ bad = rw h refl in one) g

  module _ (a : Placed Tyvar) (k : List Terminal) where
    pub tyvars-open : first_as as_tyvar i ≡ taken a k → after_word res.Comma k ≡ None → after_word res.RightParen k ≡ None → TyvarsGoing i all total → total ≡ bad
    tyvars-open h h2 h3 g = elements-fail tyvar_turn (λ x. x) (λ x. x) (λ as_. 0) 0 (stop.Bad 0) all (let one : tyvar_turn no_state i ≡ bad = rw (h, h2, h3) refl in one) g

    pub tyvars-more : (all2 : List Tyvar) {m : List Terminal} → first_as as_tyvar i ≡ taken a k → after_word res.Comma k ≡ Some m → all2 ≡ all ++ a.it ∷ [] → TyvarsGoing i all total → Further tyvar_turn (λ x. x) (λ x. x) (λ as_. 0) 0 i m all2 0 total
    tyvars-more all2 {m} h h2 p g =
        let one : tyvar_turn no_state i ≡ read (more (λ as_. a.it ∷ as_) no_state) m = rw (h, h2) refl in
        let lt = first-shorter as_tyvar i a k h in let lt2 = word-shorter res.Comma k m h2 in
        let l : length m < length i = omega arith in
        record { going = subst (λ (z : List Tyvar). TyvarsGoing m z total) (sym p) (elements-more tyvar_turn (λ x. x) (λ x. x) (λ as_. 0) 0 0 all one l refl (λ as_. refl) (omega arith) g); short = l }

    pub tyvars-last : (s : Source) (j : List Terminal) (all2 : List Tyvar) (o : List Token) → first_as as_tyvar i ≡ taken a k → after_word res.Comma k ≡ None → after_word res.RightParen k ≡ Some (left s o) → all2 ≡ all ++ a.it ∷ [] → length i ≤ length j →
        TyvarsGoing i all total → Gave (λ (as_ : List Tyvar) r. IsTyvars s j as_ 0 o r) all2 total
    tyvars-last s j all2 o h h2 h3 p le g =
        let one : tyvar_turn no_state i ≡ read (last (a.it ∷ [])) (left s o) = rw (h, h2, h3) refl in
        let lt = first-shorter as_tyvar i a k h in let lt2 = word-shorter res.RightParen k (left s o) h3 in
        let l = elements-last tyvar_turn (λ x. x) (λ x. x) (λ as_. 0) 0 0 all one refl refl (omega arith) g in
        record { got = record { tree = l.tree; rest = left s o }; is = l.is; same = record { rest = refl; same = p ∙ sym (map-same (all ++ a.it ∷ [])) ∙ l.bare ∙ map-same l.tree; depth = refl; shorter = omega arith } }

-- Bindings of types.

abbrev pub TypesGoing : Source → ℕ → List Terminal → List TypeBind → ℕ → Answer (List read_tree.TypeBind) → Type 0
TypesGoing s n i all d total = Elements (type_bind_turn n) type_bind_of (bare_type_bind s.file) depth_type_binds n i all d total

pub types-start : (s : Source) (n : ℕ) (i : List Terminal) (all : List TypeBind) → all ≡ [] → TypesGoing s n i all 0 (read_type_binds n i)
types-start s n i all p = subst (λ (z : List TypeBind). TypesGoing s n i z 0 (read_type_binds n i)) (sym p) (elements-start (type_bind_turn n) type_bind_of (bare_type_bind s.file) depth_type_binds n i)

module _ (s : Source) (n : ℕ) (i : List Terminal) (all : List TypeBind) (d : ℕ) (total : Answer (List read_tree.TypeBind)) where
  pub types-fail : (e : Stop) → Fails e (read_type_bind n i) → TypesGoing s n i all d total → Fails e total
  types-fail e h g = parted-fail (type_bind_turn n) (read_type_bind n) res.And (type-turns n) type_bind_of (bare_type_bind s.file) (λ b. depth_ty b.ty) depth_type_binds n (λ b bs. refl) refl e all h g

  module _ (all2 : List TypeBind) (d2 : ℕ) (x : TypeBind) (e : ℕ) (o : List Token) (got : Read read_tree.TypeBind) where
    pub types-more : {m : List Terminal} → read_type_bind n i ≡ ok got → IsTypeBind s n i x e o got → after_word res.And (left s o) ≡ Some m → all2 ≡ all ++ x ∷ [] → d2 ≡ max e d → TypesGoing s n i all d total →
        Further (type_bind_turn n) type_bind_of (bare_type_bind s.file) depth_type_binds n i m all2 d2 total
    types-more {m} h is sep p q g =
        record {
          going = subst (λ (k : ℕ). TypesGoing s n m all2 k total) (sym q) (subst (λ (z : List TypeBind). TypesGoing s n m z (max e d) total) (sym p)
              (parted-more (type_bind_turn n) (read_type_bind n) res.And (type-turns n) type_bind_of (bare_type_bind s.file) (λ b. depth_ty b.ty) depth_type_binds n (λ b bs. refl) refl all got h is.bare is.depth is.fits is.shorter
              (subst (λ (z : List Terminal). after_word res.And z ≡ Some m) is.rest sep) g));
          short = less-after s res.And i m got.rest o is.rest is.shorter sep;
        }

    pub types-last : (j : List Terminal) → read_type_bind n i ≡ ok got → IsTypeBind s n i x e o got → after_word res.And (left s o) ≡ None → all2 ≡ all ++ x ∷ [] → d2 ≡ max e d → length i ≤ length j → TypesGoing s n i all d total →
        Gave (λ (bs : List TypeBind) r. IsTypeBinds s n j bs d2 o r) all2 total
    types-last j h is sep p q le g =
        let l = parted-last (type_bind_turn n) (read_type_bind n) res.And (type-turns n) type_bind_of (bare_type_bind s.file) (λ b. depth_ty b.ty) depth_type_binds n (λ b bs. refl) refl all got h is.bare is.depth is.fits
        (subst (λ (z : List Terminal). after_word res.And z ≡ None) is.rest sep) g in
        let lt = is.shorter in
        record { got = record { tree = l.tree; rest = got.rest }; is = l.is; same = record { rest = is.rest; bare = ap (map type_bind_of) p ∙ l.bare; depth = q ∙ l.deep; fits = l.fits; shorter = omega arith } }

-- Constructors.

abbrev pub ConsGoing : Source → ℕ → Fixity → List Terminal → List ConBind → ℕ → Answer (List read_tree.ConBind) → Type 0
ConsGoing s n f i all d total = Elements (con_turn n f) con_bind_of (bare_con s.file) depth_cons n i all d total

pub cons-start : (s : Source) (n : ℕ) (f : Fixity) (i : List Terminal) (all : List ConBind) → all ≡ [] → ConsGoing s n f i all 0 (read_cons n f i)
cons-start s n f i all p = subst (λ (z : List ConBind). ConsGoing s n f i z 0 (read_cons n f i)) (sym p) (elements-start (con_turn n f) con_bind_of (bare_con s.file) depth_cons n i)

module _ (s : Source) (n : ℕ) (f : Fixity) (i : List Terminal) (all : List ConBind) (d : ℕ) (total : Answer (List read_tree.ConBind)) where
  pub cons-fail : (e : Stop) → Fails e (read_con n f i) → ConsGoing s n f i all d total → Fails e total
  cons-fail e h g = parted-fail (con_turn n f) (read_con n f) res.Bar (con-turns n f) con_bind_of (bare_con s.file) (λ c. depth_some c.of_ty) depth_cons n (λ b bs. refl) refl e all h g

  module _ (all2 : List ConBind) (d2 : ℕ) (x : ConBind) (e : ℕ) (o : List Token) (got : Read read_tree.ConBind) where
    pub cons-more : {m : List Terminal} → read_con n f i ≡ ok got → IsCon s n i x e o got → after_word res.Bar (left s o) ≡ Some m → all2 ≡ all ++ x ∷ [] → d2 ≡ max e d → ConsGoing s n f i all d total →
        Further (con_turn n f) con_bind_of (bare_con s.file) depth_cons n i m all2 d2 total
    cons-more {m} h is sep p q g =
        record {
          going = subst (λ (k : ℕ). ConsGoing s n f m all2 k total) (sym q) (subst (λ (z : List ConBind). ConsGoing s n f m z (max e d) total) (sym p)
              (parted-more (con_turn n f) (read_con n f) res.Bar (con-turns n f) con_bind_of (bare_con s.file) (λ c. depth_some c.of_ty) depth_cons n (λ b bs. refl) refl all got h is.bare is.depth is.fits is.shorter
              (subst (λ (z : List Terminal). after_word res.Bar z ≡ Some m) is.rest sep) g));
          short = less-after s res.Bar i m got.rest o is.rest is.shorter sep;
        }

    pub cons-last : (j : List Terminal) → read_con n f i ≡ ok got → IsCon s n i x e o got → after_word res.Bar (left s o) ≡ None → all2 ≡ all ++ x ∷ [] → d2 ≡ max e d → length i ≤ length j → ConsGoing s n f i all d total →
        Gave (λ (bs : List ConBind) r. IsCons s n j bs d2 o r) all2 total
    cons-last j h is sep p q le g =
        let l = parted-last (con_turn n f) (read_con n f) res.Bar (con-turns n f) con_bind_of (bare_con s.file) (λ c. depth_some c.of_ty) depth_cons n (λ b bs. refl) refl all got h is.bare is.depth is.fits
        (subst (λ (z : List Terminal). after_word res.Bar z ≡ None) is.rest sep) g in
        let lt = is.shorter in
        record { got = record { tree = l.tree; rest = got.rest }; is = l.is; same = record { rest = is.rest; bare = ap (map con_bind_of) p ∙ l.bare; depth = q ∙ l.deep; fits = l.fits; shorter = omega arith } }

-- Bindings of datatypes.

abbrev pub DatasGoing : Source → ℕ → Fixity → List Terminal → List DataBind → ℕ → Answer (List read_tree.DataBind) → Type 0
DatasGoing s n f i all d total = Elements (data_bind_turn n f) data_bind_of (bare_data_bind s.file) depth_data_binds n i all d total

pub datas-start : (s : Source) (n : ℕ) (f : Fixity) (i : List Terminal) (all : List DataBind) → all ≡ [] → DatasGoing s n f i all 0 (read_data_binds n f i)
datas-start s n f i all p = subst (λ (z : List DataBind). DatasGoing s n f i z 0 (read_data_binds n f i)) (sym p) (elements-start (data_bind_turn n f) data_bind_of (bare_data_bind s.file) depth_data_binds n i)

module _ (s : Source) (n : ℕ) (f : Fixity) (i : List Terminal) (all : List DataBind) (d : ℕ) (total : Answer (List read_tree.DataBind)) where
  pub datas-fail : (e : Stop) → Fails e (read_data_bind n f i) → DatasGoing s n f i all d total → Fails e total
  datas-fail e h g = parted-fail (data_bind_turn n f) (read_data_bind n f) res.And (data-turns n f) data_bind_of (bare_data_bind s.file) (λ b. depth_cons b.cons) depth_data_binds n (λ b bs. refl) refl e all h g

  module _ (all2 : List DataBind) (d2 : ℕ) (x : DataBind) (e : ℕ) (o : List Token) (got : Read read_tree.DataBind) where
    pub datas-more : {m : List Terminal} → read_data_bind n f i ≡ ok got → IsDataBind s n i x e o got → after_word res.And (left s o) ≡ Some m → all2 ≡ all ++ x ∷ [] → d2 ≡ max e d → DatasGoing s n f i all d total →
        Further (data_bind_turn n f) data_bind_of (bare_data_bind s.file) depth_data_binds n i m all2 d2 total
    datas-more {m} h is sep p q g =
        record {
          going = subst (λ (k : ℕ). DatasGoing s n f m all2 k total) (sym q) (subst (λ (z : List DataBind). DatasGoing s n f m z (max e d) total) (sym p)
              (parted-more (data_bind_turn n f) (read_data_bind n f) res.And (data-turns n f) data_bind_of (bare_data_bind s.file) (λ b. depth_cons b.cons) depth_data_binds n (λ b bs. refl) refl all got h is.bare is.depth is.fits is.shorter
              (subst (λ (z : List Terminal). after_word res.And z ≡ Some m) is.rest sep) g));
          short = less-after s res.And i m got.rest o is.rest is.shorter sep;
        }

    pub datas-last : (j : List Terminal) → read_data_bind n f i ≡ ok got → IsDataBind s n i x e o got → after_word res.And (left s o) ≡ None → all2 ≡ all ++ x ∷ [] → d2 ≡ max e d → length i ≤ length j → DatasGoing s n f i all d total →
        Gave (λ (bs : List DataBind) r. IsDataBinds s n j bs d2 o r) all2 total
    datas-last j h is sep p q le g =
        let l = parted-last (data_bind_turn n f) (read_data_bind n f) res.And (data-turns n f) data_bind_of (bare_data_bind s.file) (λ b. depth_cons b.cons) depth_data_binds n (λ b bs. refl) refl all got h is.bare is.depth is.fits
        (subst (λ (z : List Terminal). after_word res.And z ≡ None) is.rest sep) g in
        let lt = is.shorter in
        record { got = record { tree = l.tree; rest = got.rest }; is = l.is; same = record { rest = is.rest; bare = ap (map data_bind_of) p ∙ l.bare; depth = q ∙ l.deep; fits = l.fits; shorter = omega arith } }

-- Bindings of exceptions.

abbrev pub ExnsGoing : Source → ℕ → Fixity → List Terminal → List ExBind → ℕ → Answer (List read_tree.ExBind) → Type 0
ExnsGoing s n f i all d total = Elements (ex_bind_turn n f) ex_bind_of (bare_ex_bind s.file) depth_ex_binds n i all d total

pub exns-start : (s : Source) (n : ℕ) (f : Fixity) (i : List Terminal) (all : List ExBind) → all ≡ [] → ExnsGoing s n f i all 0 (read_ex_binds n f i)
exns-start s n f i all p = subst (λ (z : List ExBind). ExnsGoing s n f i z 0 (read_ex_binds n f i)) (sym p) (elements-start (ex_bind_turn n f) ex_bind_of (bare_ex_bind s.file) depth_ex_binds n i)

exn-deeper : (b : read_tree.ExBind) (bs : List read_tree.ExBind) → depth_ex_binds (b ∷ bs) ≡ max (depth_ex_bind b) (depth_ex_binds bs)
exn-deeper (new_exn p v t) bs = refl
exn-deeper (same_exn p v x) bs = omega arith

module _ (s : Source) (n : ℕ) (f : Fixity) (i : List Terminal) (all : List ExBind) (d : ℕ) (total : Answer (List read_tree.ExBind)) where
  pub exns-fail : (e : Stop) → Fails e (read_ex_bind n f i) → ExnsGoing s n f i all d total → Fails e total
  exns-fail e h g = parted-fail (ex_bind_turn n f) (read_ex_bind n f) res.And (ex-turns n f) ex_bind_of (bare_ex_bind s.file) depth_ex_bind depth_ex_binds n exn-deeper refl e all h g

  module _ (all2 : List ExBind) (d2 : ℕ) (x : ExBind) (e : ℕ) (o : List Token) (got : Read read_tree.ExBind) where
    pub exns-more : {m : List Terminal} → read_ex_bind n f i ≡ ok got → IsExBind s n i x e o got → after_word res.And (left s o) ≡ Some m → all2 ≡ all ++ x ∷ [] → d2 ≡ max e d → ExnsGoing s n f i all d total →
        Further (ex_bind_turn n f) ex_bind_of (bare_ex_bind s.file) depth_ex_binds n i m all2 d2 total
    exns-more {m} h is sep p q g =
        record {
          going = subst (λ (k : ℕ). ExnsGoing s n f m all2 k total) (sym q) (subst (λ (z : List ExBind). ExnsGoing s n f m z (max e d) total) (sym p)
              (parted-more (ex_bind_turn n f) (read_ex_bind n f) res.And (ex-turns n f) ex_bind_of (bare_ex_bind s.file) depth_ex_bind depth_ex_binds n exn-deeper refl all got h is.bare is.depth is.fits is.shorter
              (subst (λ (z : List Terminal). after_word res.And z ≡ Some m) is.rest sep) g));
          short = less-after s res.And i m got.rest o is.rest is.shorter sep;
        }

    pub exns-last : (j : List Terminal) → read_ex_bind n f i ≡ ok got → IsExBind s n i x e o got → after_word res.And (left s o) ≡ None → all2 ≡ all ++ x ∷ [] → d2 ≡ max e d → length i ≤ length j → ExnsGoing s n f i all d total →
        Gave (λ (bs : List ExBind) r. IsExBinds s n j bs d2 o r) all2 total
    exns-last j h is sep p q le g =
        let l = parted-last (ex_bind_turn n f) (read_ex_bind n f) res.And (ex-turns n f) ex_bind_of (bare_ex_bind s.file) depth_ex_bind depth_ex_binds n exn-deeper refl all got h is.bare is.depth is.fits
        (subst (λ (z : List Terminal). after_word res.And z ≡ None) is.rest sep) g in
        let lt = is.shorter in
        record { got = record { tree = l.tree; rest = got.rest }; is = l.is; same = record { rest = is.rest; bare = ap (map ex_bind_of) p ∙ l.bare; depth = q ∙ l.deep; fits = l.fits; shorter = omega arith } }
