-- A well formed program with no function by itself fits the numbering that is made for it: one case a construct.
use Rattle.std.proofs.Common.{◌≡◌, ℕ, zero, suc, Bool, true, false, List, [], ◌∷◌, ◌++◌, length, Option, Some, None, nat_eq, nat_lt, if◌then◌else◌, slice_get, refl, sym, ap, subst, ◌∙◌}
use Rattle.std.specs.Prelude.{option_map}
use Rattle.std.specs.Str.{bytes_eq}
use Rattle.std.proofs.lemmas.Slice.Eq.{bytes_eq-Decides}
use Rattle.mlc_names.specs.declared.label.Label.{Label}
use Rattle.mlc_prims.specs.LitOf.{Literal, int, word, char, string, truth}
use Rattle.ir_plain.specs.Tree.{Case, Exception, Atoms, Row, Exp, Arms, Op, Fun, Funs, no_funs, fun}
use Rattle.ir_mono.specs.Types as table
use Rattle.ir_mono.specs.Types.{node_at}
use Rattle.ir_mono.specs.Mono.{mono, Program}
use Rattle.ir_mono.specs.Explicit.{IsExplicit, ArmsExplicit, OpExplicit, FunExplicit, FunsExplicit}
use Rattle.ir_mono.specs.Typing as tt
use Rattle.ir_mono.specs.Typing.{Sort, of_type, exception, Sorts, sort_of, group_sorts, AtomsTyped, no_atoms_typed, an_atom_typed, RowTyped, no_row_typed, a_row_typed, NameTyped, fixed_typed, held_typed, CaseTyped, literal_typed, con_typed, con_of_typed, exn_typed, exn_of_typed, record_typed, FunTyped, t_last, t_more, FunsTyped, t_no_funs, t_fun}
use Rattle.ir_mono.specs.WellFormed.{IsWellFormed}
use Rattle.flow_sets.specs.Flow.{Flow}
use Rattle.flow_sets.specs.ByType.{What, value, name, parameter, Bound, bound_in, bound_case, bound, bound_arms, bound_op, bound_fun, bound_funs, gives, nothing}
use Rattle.flow_sets.proofs.Member.{nat_eq-to}
use Rattle.flow_sets.proofs.Sets.{AllKnown, known-left, known-right}
use Rattle.closure_convert.specs.Scope.{Table}
use Rattle.closure_meaning.specs.Fits.{Setting, IsValue, IsName, IsConstant, IsInitial, CaseFits, AtomsFit, RowFits, no_row_fits, a_row_fits, NameFits, Fits, ArmsFit, OpFits, FunFits, FunsFit}
use Rattle.closure_meaning.specs.Laws.{setting}
use Rattle.closure_whole.specs.Constants.{IsHeld, CaseHeld, AreHeld, ArmsHeld, OpHeld, FunHeld, FunsHeld}
use Rattle.closure_whole.specs.Converted.{text_index, names_exception, bound_as_name, numbering}

text-at : (s t : List ℕ) (ts : List (List ℕ)) (b : Bool) → bytes_eq s t ≡ b → ((i : ℕ) → slice_get ts i ≡ Some s → slice_get ts (text_index s ts) ≡ Some s) → (i : ℕ) → slice_get (t ∷ ts) i ≡ Some s
    → slice_get (t ∷ ts) (if b then zero else suc (text_index s ts)) ≡ Some s
text-at s t ts true q rest i e = ap Some (sym ((bytes_eq-Decides s t).0 q))
text-at s t ts false q rest zero e = let same : s ≡ t = cc in let yes : bytes_eq s t ≡ true = (bytes_eq-Decides s t).1 same in absurd (cc)
text-at s t ts false q rest (suc i) e = rest i e

-- a string that stands in the table is found there
text-found : (s : List ℕ) (strings : List (List ℕ)) (i : ℕ) → slice_get strings i ≡ Some s → slice_get strings (text_index s strings) ≡ Some s
text-found s [] i e = absurd (cc)
text-found s (t ∷ ts) i e = text-at s t ts (bytes_eq s t) refl (text-found s ts) i e

module _ (strings : List (List ℕ)) (p : Program) (flow : Flow) (captures : Table) (initial : length p.initial ≡ 7) where
  abbrev pub types : List table.Row
  types = p.types

  abbrev pub C : Setting
  C = setting (numbering strings flow p) strings flow captures p

  abbrev pub all : List Bound
  all = bound p.types p.body

  constant-held : (l : Literal) → IsHeld strings l → IsConstant C l
  constant-held (int z) h = ap (λ b. option_map int (if b then Some z else None)) h
  constant-held (word n) h = ap (λ b. option_map word (if b then Some n else None)) h
  constant-held (char n) h = ap (λ b. option_map char (if b then Some n else None)) h
  constant-held (string s) h = ap (option_map string) (text-found s strings h.0 h.1)
  constant-held (truth b) h = refl

  -- what is bound as
  is-value : (x : ℕ) {b : Bound} (w : What) → bound_in x all ≡ Some b → b.what ≡ w → names_exception w ≡ false → IsValue C x
  is-value x w e q h = ap bound_as_name e ∙ (ap names_exception q ∙ h)

  is-name : (x : ℕ) {b : Bound} → bound_in x all ≡ Some b → b.what ≡ name → IsName C x
  is-name x e q = ap bound_as_name e ∙ ap names_exception q

  abbrev pub Is : Sort → ℕ → Type 0
  Is (of_type t) x = IsValue C x
  Is (exception a) x = IsName C x

  pub record Agrees (G : Sorts) : Type 0 where
    pub are : (x : ℕ) (s : Sort) → sort_of G x ≡ Some s → Is s x

  agrees-at : (G : Sorts) (x : ℕ) (s : Sort) → Is s x → Agrees G → (y : ℕ) (r : Sort) (b : Bool) → nat_eq y x ≡ b → (if b then Some s else sort_of G y) ≡ Some r → Is r y
  agrees-at G x s h g y r true q e = subst (λ z. Is r z) (sym (nat_eq-to y x q)) (subst (λ z. Is z x) (cc) h)
  agrees-at G x s h g y r false q e = g.are y r e

  agrees-more : {G : Sorts} (x : ℕ) (s : Sort) → Is s x → Agrees G → Agrees ((x, s) ∷ G)
  agrees-more {G} x s h g = record { are = λ y r e. agrees-at G x s h g y r (nat_eq y x) refl e }

  is-initial : (i : ℕ) → nat_lt i 7 ≡ true → IsInitial C i
  is-initial i h = subst (λ n. nat_lt i n ≡ true) (sym initial) h

  atoms-fit : {G : Sorts} {as_ : Atoms (mono types)} {ts : List ℕ} → Agrees G → AtomsTyped types G as_ ts → AtomsFit C as_
  atoms-fit g no_atoms_typed = tt
  atoms-fit g (an_atom_typed {x = x} {t = t} e h) = (g.are x (of_type t) e, atoms-fit g h)

  row-fits : {G : Sorts} {row : Row (mono types)} {ls : List Label} {ts : List ℕ} → Agrees G → RowTyped types G row ls ts → RowFits C row ls ts
  row-fits g no_row_typed = no_row_fits
  row-fits g (a_row_typed {x = x} {t = t} e h) = a_row_fits (g.are x (of_type t) e) (row-fits g h)

  name-fits : {G : Sorts} {y : Exception (mono types)} {a : Option ℕ} → Agrees G → NameTyped types G y a → NameFits C y
  name-fits g (fixed_typed {n = n} h) = is-initial n h
  name-fits g (held_typed {x = x} {a = a} e) = g.are x (exception a) e

  case-fits : {G H : Sorts} {c : Case (mono types)} {u : ℕ} → Agrees G → AllKnown all (bound_case types c) → CaseHeld strings c → CaseTyped types G c u H → CaseFits C c × Agrees H
  case-fits g k h (literal_typed {l = l} e) = (constant-held l h, g)
  case-fits g k h (con_typed e) = (tt, g)
  case-fits g k h (con_of_typed {x = x} {a = a} e) = let v = is-value x (value a) k.0 refl refl in (v, agrees-more x (of_type a) v g)
  case-fits g k h (exn_typed {x = x} e i) = (g.are x (exception None) e, g)
  case-fits g k h (exn_of_typed {y = y} {x = x} {a = a} e i) =
      let v = is-value x (value a) k.0 refl refl in ((g.are y (exception (Some a)) e, v), agrees-more x (of_type a) v g)
  case-fits g k h (record_typed e i) = (tt, g)

  group-agrees : (fs : Funs (mono types)) {G : Sorts} → AllKnown all (bound_funs types fs) → Agrees G → Agrees (group_sorts types fs G)
  group-agrees no_funs k g = g
  group-agrees (fun x t f fs) k g = agrees-more x (of_type t) (is-value x (value t) k.0 refl refl) (group-agrees fs (known-right all (bound_fun types t f) (bound_funs types fs) k.1) g)

  mutual
    pub fits : {m : Bool} {G : Sorts} {e : Exp (mono types)} {t : ℕ} → Agrees G → AllKnown all (bound types e) → IsExplicit types G e → AreHeld strings e → tt.Typed types m G e t → Fits C e
    fits g k x h (tt.t_ret {x = y} {t = t} e) = g.are y (of_type t) e
    fits g k x h (tt.t_let {x = y} {a = a} {o = o} {e = e} d l) =
        let v = is-value y (value a) k.0 refl refl in
        (v, (op-fits g (known-left all (bound_op types a o) (bound types e) k.1) x.0 h.0 d, fits (agrees-more y (of_type a) v g) (known-right all (bound_op types a o) (bound types e) k.1) x.1 h.1 l))
    fits g k x h (tt.t_exception {x = y} {a = a} l) = let n = is-name y k.0 refl in (n, fits (agrees-more y (exception a) n g) k.1 x h l)
    fits g k x h (tt.t_name {x = y} {a = a} e l) = let n = is-name y k.0 refl in (n, (name-fits g e, fits (agrees-more y (exception a) n g) k.1 (x a e) h l))
    fits g k x h (tt.t_rec {fs = fs} {e = e} d l) =
        let kf = known-left all (bound_funs types fs) (bound types e) k in
        let g' = group-agrees fs kf g in
        (funs-fit g' kf x.0 h.0 d, fits g' (known-right all (bound_funs types fs) (bound types e) k) x.1 h.1 l)
    fits g k x h (tt.t_switch {x = y} {u = u} e arms) = (g.are y (of_type u) e, arms-fit g k x h arms)
    fits g k x h (tt.t_first {e = e} {d = d} l r) = (fits g (known-left all (bound types e) (bound types d) k) x.0 h.0 l, fits g (known-right all (bound types e) (bound types d) k) x.1 h.1 r)
    fits g k x h tt.t_miss = tt
    fits g k x h (tt.t_counted l) = fits g k x h l

    arms-fit : {G : Sorts} {arms : Arms (mono types)} {u t : ℕ} → Agrees G → AllKnown all (bound_arms types arms) → ArmsExplicit types G arms → ArmsHeld strings arms → tt.ArmsTyped types G arms u t → ArmsFit C arms
    arms-fit g k x h tt.t_no_arms = tt
    arms-fit g k x h (tt.t_arm {G' = H} {c = c} {e = e} {arms = arms} {u = u} d l r) =
        let kc = known-left all (bound_case types c) (bound types e ++ bound_arms types arms) k in
        let kr = known-right all (bound_case types c) (bound types e ++ bound_arms types arms) k in
        let both = case-fits g kc h.0 d in
        (both.0, (fits both.1 (known-left all (bound types e) (bound_arms types arms) kr) (x.0 u H d) h.1.0 l, arms-fit g (known-right all (bound types e) (bound_arms types arms) kr) x.1 h.1.1 r))

    op-fits : {G : Sorts} {o : Op (mono types)} {t : ℕ} → Agrees G → AllKnown all (bound_op types t o) → OpExplicit types G o → OpHeld strings o → tt.OpTyped types G o t → OpFits C o
    op-fits g k x h (tt.t_use e) = tt
    op-fits g k x h (tt.t_use_exception e i) = tt
    op-fits g k x h (tt.t_const {l = l} e) = constant-held l h
    op-fits g k x h (tt.t_con_alone e i) = x
    op-fits g k x h (tt.t_construct {x = y} {a = a} e d) = (record { argument = a; is = e }, g.are y (of_type a) d)
    op-fits g k x h (tt.t_ref_alone e i) = tt
    op-fits g k x h (tt.t_refer {a = a} {x = y} e i) = g.are y (of_type a) e
    op-fits g k x h (tt.t_content {u = u} {x = y} e i) = g.are y (of_type u) e
    op-fits g k x h (tt.t_pack {y = z} {x = y} {a = a} e d i) = (g.are z (exception (Some a)) e, g.are y (of_type a) d)
    op-fits g k x h (tt.t_make_record {ls = ls} {ts = ts} r i d) = record { labels_of = ls; types_of = ts; is = i; distinct = d; in_order = row-fits g r }
    op-fits g k x h (tt.t_select {u = u} {x = y} e i d) = g.are y (of_type u) e
    op-fits g k x h (tt.t_prim_alone a s i) = tt
    op-fits g k x h (tt.t_prim a d) = atoms-fit g d
    op-fits g k x h (tt.t_app {f = f} {x = y} {u = u} {a = a} e i d) = (g.are f (of_type u) e, g.are y (of_type a) d)
    op-fits {t = t} g k x h (tt.t_fn d) = fun-fits t g k x h d
    op-fits g k x h (tt.t_block l) = fits g k x h l
    op-fits g k x h (tt.t_handle {e = e} {d = d} {x = y} {n = n} l i r) =
        let v = is-value y (value (nothing types)) k.0 refl refl in
        (fits g (known-left all (bound types e) (bound types d) k.1) x.0 h.0 l, (v, fits (agrees-more y (of_type n) v g) (known-right all (bound types e) (bound types d) k.1) (x.1 n) h.1 r))
    op-fits g k x h (tt.t_raise {x = y} {u = u} e i) = g.are y (of_type u) e
    op-fits g k x h (tt.t_raise_initial {n = n} e) = is-initial n e

    fun-fits : {G : Sorts} {f : Fun (mono types)} {t : ℕ} (u : ℕ) → Agrees G → AllKnown all (bound_fun types u f) → FunExplicit types G f → FunHeld strings f → FunTyped types G f t → FunFits C f
    fun-fits u g k x h (t_last {x = y} {a = a} i l) = let v = is-value y (parameter u) k.0 refl refl in (v, fits (agrees-more y (of_type a) v g) k.1 x h l)
    fun-fits u g k x h (t_more {x = y} {a = a} i l) = let v = is-value y (parameter u) k.0 refl refl in (v, fun-fits (gives types (node_at types u)) (agrees-more y (of_type a) v g) k.1 x h l)

    funs-fit : {G : Sorts} {fs : Funs (mono types)} → Agrees G → AllKnown all (bound_funs types fs) → FunsExplicit types G fs → FunsHeld strings fs → FunsTyped types G fs → FunsFit C fs
    funs-fit g k x h t_no_funs = tt
    funs-fit g k x h (t_fun {x = y} {t = t} {f = f} {fs = fs} d r) =
        (is-value y (value t) k.0 refl refl, (fun-fits t g (known-left all (bound_fun types t f) (bound_funs types fs) k.1) x.0 h.0 d, funs-fit g (known-right all (bound_fun types t f) (bound_funs types fs) k.1) x.1 h.1 r))

  pub program-fits : IsWellFormed p → AllKnown all all → IsExplicit types [] p.body → AreHeld strings p.body → Fits C p.body
  program-fits w known x h = fits (record { are = λ y s e. absurd (cc) }) known x h w.typed
