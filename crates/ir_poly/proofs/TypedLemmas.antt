-- What a checker accepts is typed whatever its parameters stand for.
use Rattle.std.proofs.Common.{◌≡◌, ℕ, Bool, true, false, List, [], ◌∷◌, ◌++◌, map, Option, Some, None, nat_eq, if◌then◌else◌, refl, ap, subst, ◌∙◌}
use Rattle.ir_plain.specs.of_mlc_names.declared.label.Label.{Label}
use Rattle.ir_plain.specs.of_mlc_prims.LitOf.{Literal}
use Rattle.ty_basis.specs.of_ty_core.Types.{Typ, var, con, name}
use Rattle.ty_basis.specs.of_ty_core.Statics.{replace}
use Rattle.ty_basis.specs.of_ty_core.declared.scheme.Quantified.{Quantified}
use Rattle.ir_plain.specs.of_ir_values.Values.{same_label}
use Rattle.ir_plain.specs.Tree.{Case, Exception, Atoms, Row, Exp, Arms, Op, Fun, Funs}
use Rattle.ir_poly.specs.Tests.{Use, poly}
use Rattle.ir_poly.specs.Types.{ascend, in_scope, over, are_new, changed, AreAllowed, Constructor, prim_type, arguments_at}
use Rattle.ir_poly.specs.TestsChecked.{Known, of_type, general, own, exception, Knowns, at, HasLiteral, has_int, has_word, has_char, has_string, value_type, alone_type, group_knowns, bound, declared, AtomChecked, atom_checked, AtomsChecked, no_atoms_checked, an_atom_checked, RowChecked, no_row_checked, a_row_checked, NameChecked, fixed_checked, held_checked, is_size, HasConstructor, CaseChecked, literal_checked, con_checked, con_of_checked, exn_checked, exn_of_checked, record_checked, Checked, c_ret, c_let, c_exception, c_exception_alone, c_name, c_rec, c_switch, c_first, c_miss, c_counted, ArmsChecked, c_no_arms, c_arm, OpChecked, c_use, c_use_one, c_use_own, c_use_exception, c_const, c_con_alone, c_construct, c_ref_alone, c_refer, c_content, c_pack, c_make_record, c_select, c_prim_alone, c_prim, c_app, c_fn, c_block, c_handle, c_raise, c_raise_initial, FunChecked, c_last, c_more, FunsChecked, c_no_funs, c_fun}
use Rattle.ir_poly.specs.TestsTyped.{option_read, own_at, CaseTyped, literal_typed, con_typed, con_of_typed, exn_typed, exn_of_typed, record_typed, Typed, t_ret, t_let, t_exception, t_name, t_rec, t_switch, t_first, t_miss, t_counted, ArmsTyped, t_no_arms, t_arm, OpTyped, t_use, t_use_one, t_use_own, t_use_exception, t_const, t_con_alone, t_construct, t_ref_alone, t_refer, t_content, t_pack, t_make_record, t_select, t_prim_alone, t_prim, t_app, t_fn, t_block, t_handle, t_raise, t_raise_initial, FunTyped, t_last, t_more, FunsTyped, t_no_funs, t_fun}
use Rattle.ir_poly.proofs.ReplaceLemmas.{replace-agree, over-mono, Fits, allows-read, are-allowed-read, typs_of-read, row_read, row_type-read, labels-read, length-read, part-read, argument-read, arguments-read, result-read, tuple-read, more-scope, instance-read, changed-outside, changed-fits}

-- an exception's argument is over the parameters in scope
abbrev pub option_over : List Quantified → Option Typ → Bool
option_over D None = true
option_over D (Some a) = over D a

-- What is known, and what that is where parameters stand for types.
pub data KnownRead (D : List Quantified) (s : ℕ → Typ) : Known → Known → Type 0 where
  read_type : {t u : Typ} → over D t ≡ true → u ≡ replace s t → KnownRead D s (of_type t) (of_type u)
  -- outside its parameters a scheme is over those that were in scope
  read_general : (qs D0 : List Quantified) (s0 : ℕ → Typ) (b : Typ) → ((v : ℕ) → in_scope D0 v ≡ true → in_scope D v ≡ true) → over (qs ++ D0) b ≡ true → ((v : ℕ) → in_scope D0 v ≡ true → s0 v ≡ s v) → KnownRead D s (general qs var b) (general qs s0 b)
  read_own : {t u : Typ} → over D t ≡ true → u ≡ replace s t → KnownRead D s (own t) (own u)
  read_exception : {a b : Option Typ} → option_over D a ≡ true → b ≡ option_read s a → KnownRead D s (exception a) (exception b)

pub data Reads (D : List Quantified) (s : ℕ → Typ) : Knowns → Knowns → Type 0 where
  reads_none : Reads D s [] []
  reads_more : (x : ℕ) {k k' : Known} {G H : Knowns} → KnownRead D s k k' → Reads D s G H → Reads D s ((x, k) ∷ G) ((x, k') ∷ H)

pub data BothRead (D : List Quantified) (s : ℕ → Typ) : Option Known → Option Known → Type 0 where
  none_read : BothRead D s None None
  some_read : {k k' : Known} → KnownRead D s k k' → BothRead D s (Some k) (Some k')

module _ (D : List Quantified) (s : ℕ → Typ) where
  pub read-at : {G H : Knowns} (x : ℕ) → Reads D s G H → BothRead D s (at G x) (at H x)
  read-at x reads_none = none_read
  read-at x (reads_more y {k = k} {k' = k'} {G = G} {H = H} r rs) = choose (nat_eq x y) (read-at x rs)
    where
      choose : (b : Bool) → BothRead D s (at G x) (at H x) → BothRead D s (if b then Some k else at G x) (if b then Some k' else at H x)
      choose true h = some_read r
      choose false h = h

  pub type-found : {o o' : Option Known} {t : Typ} → BothRead D s o o' → o ≡ Some (of_type t) → o' ≡ Some (of_type (replace s t))
  type-found none_read e = absurd (cc)
  type-found {t = t} (some_read (read_type {t = t'} h u)) e = let same : t' ≡ t = cc in ap (λ x. Some (of_type x)) (u ∙ ap (replace s) same)
  type-found (some_read (read_general qs D0 s0 b i h k)) e = absurd (cc)
  type-found (some_read (read_own h u)) e = absurd (cc)
  type-found (some_read (read_exception h u)) e = absurd (cc)

  pub own-found : {o o' : Option Known} {t : Typ} → BothRead D s o o' → o ≡ Some (own t) → o' ≡ Some (own (replace s t))
  own-found none_read e = absurd (cc)
  own-found {t = t} (some_read (read_own {t = t'} h u)) e = let same : t' ≡ t = cc in ap (λ x. Some (own x)) (u ∙ ap (replace s) same)
  own-found (some_read (read_general qs D0 s0 b i h k)) e = absurd (cc)
  own-found (some_read (read_type h u)) e = absurd (cc)
  own-found (some_read (read_exception h u)) e = absurd (cc)

  pub exception-found : {o o' : Option Known} {a : Option Typ} → BothRead D s o o' → o ≡ Some (exception a) → (o' ≡ Some (exception (option_read s a))) × (option_over D a ≡ true)
  exception-found none_read e = absurd (cc)
  exception-found {a = a} (some_read (read_exception {a = a'} h u)) e = let same : a' ≡ a = cc in (ap (λ x. Some (exception x)) (u ∙ ap (option_read s) same), subst (λ x. option_over D x ≡ true) same h)
  exception-found (some_read (read_general qs D0 s0 b i h k)) e = absurd (cc)
  exception-found (some_read (read_type h u)) e = absurd (cc)
  exception-found (some_read (read_own h u)) e = absurd (cc)

  -- a generalised variable's instance
  abbrev pub Instance : Option Known → List Typ → (ℕ → Bool) → List Quantified → Typ → Type 0
  Instance o' ts m qs b = AreAllowed m qs ts → (s0 : ℕ → Typ) × (o' ≡ Some (general qs s0 b)) × (replace s (replace (changed qs ts var) b) ≡ replace (changed qs (map (replace s) ts) s0) b)

  pub general-found : {o o' : Option Known} {qs : List Quantified} {b : Typ} (ts : List Typ) (m : ℕ → Bool) → BothRead D s o o' → o ≡ Some (general qs var b) → Instance o' ts m qs b
  general-found ts m none_read e a = absurd (cc)
  general-found {o' = o'} {qs = ps} {b = c} ts m (some_read (read_general qs D0 s0 b i h k)) e a =
      let same : qs ≡ ps = cc in let one : b ≡ c = cc in subst (λ x. Instance o' ts m x c) same (subst (λ y. Instance o' ts m qs y) one (λ al. (s0, refl, instance-read D0 s s0 k qs ts m al b h))) a
  general-found ts m (some_read (read_type h u)) e a = absurd (cc)
  general-found ts m (some_read (read_own h u)) e a = absurd (cc)
  general-found ts m (some_read (read_exception h u)) e a = absurd (cc)

  module _ {G H : Knowns} (rs : Reads D s G H) where
    pub type-at : (x : ℕ) {t : Typ} → at G x ≡ Some (of_type t) → at H x ≡ Some (of_type (replace s t))
    type-at x e = type-found (read-at x rs) e

    pub exception-at : (x : ℕ) {a : Option Typ} → at G x ≡ Some (exception a) → at H x ≡ Some (exception (option_read s a))
    exception-at x e = (exception-found (read-at x rs) e).0

    atom-read : {a : Use} {t : Typ} → AtomChecked G a t → AtomChecked H a (replace s t)
    atom-read (atom_checked {x = x} e) = atom_checked (type-at x e)

    atoms-read : {as_ : Atoms poly} {ts : List Typ} → AtomsChecked G as_ ts → AtomsChecked H as_ (map (replace s) ts)
    atoms-read no_atoms_checked = no_atoms_checked
    atoms-read (an_atom_checked a as_) = an_atom_checked (atom-read a) (atoms-read as_)

    row-read : {row : Row poly} {r : List (Label × Typ)} → RowChecked G row r → RowChecked H row (row_read s r)
    row-read no_row_checked = no_row_checked
    row-read (a_row_checked a row) = a_row_checked (atom-read a) (row-read row)

    name-read : {y : Exception poly} {a : Option Typ} → NameChecked G y a → NameChecked H y (option_read s a)
    name-read (fixed_checked e) = fixed_checked e
    name-read (held_checked {x = x} e) = held_checked (exception-at x e)

    name-over : {y : Exception poly} {a : Option Typ} → NameChecked G y a → option_over D a ≡ true
    name-over (fixed_checked e) = refl
    name-over (held_checked {x = x} e) = (exception-found (read-at x rs) e).1

pub literal-read : (s : ℕ → Typ) {l : Literal} {t : Typ} → HasLiteral l t → HasLiteral l (replace s t)
literal-read s (has_int z) = has_int z
literal-read s (has_word n) = has_word n
literal-read s (has_char n) = has_char n
literal-read s (has_string t) = has_string t

pub value-read : (s : ℕ → Typ) (a : Option Typ) → replace s (value_type a) ≡ value_type (option_read s a)
value-read s None = refl
value-read s (Some a) = refl

pub alone-read : (s : ℕ → Typ) (a : Option Typ) (t : Typ) → replace s (alone_type a t) ≡ alone_type (option_read s a) (replace s t)
alone-read s None t = refl
alone-read s (Some a) t = refl

pub constructor-read : (s : ℕ → Typ) {table : List Constructor} {c : ℕ} {t : Typ} {a : Option Typ} → HasConstructor table c t a → HasConstructor table c (replace s t) (option_read s a)
constructor-read s h = record {
  datatype = h.datatype;
  arguments = map (replace s) h.arguments;
  row = h.row;
  found = h.found;
  same = h.same;
  type = ap (replace s) h.type ∙ ap (con (name h.datatype)) (typs_of-read s h.arguments);
  argument = argument-read s h.arguments h.row.argument ∙ ap (option_read s) h.argument;
}

-- what is known stays, where parameters are declared and stand for types
option-over-more : (D D' : List Quantified) → ((v : ℕ) → in_scope D v ≡ true → in_scope D' v ≡ true) → (a : Option Typ) → option_over D a ≡ true → option_over D' a ≡ true
option-over-more D D' k None h = refl
option-over-more D D' k (Some a) h = over-mono D D' k a h

option-agree : (D : List Quantified) (s s' : ℕ → Typ) → ((v : ℕ) → in_scope D v ≡ true → s v ≡ s' v) → (a : Option Typ) → option_over D a ≡ true → option_read s a ≡ option_read s' a
option-agree D s s' k None h = refl
option-agree D s s' k (Some a) h = ap Some (replace-agree D a h s s' k)

reads-changed : (D D' : List Quantified) (s s' : ℕ → Typ) → ((v : ℕ) → in_scope D v ≡ true → in_scope D' v ≡ true) → ((v : ℕ) → in_scope D v ≡ true → s v ≡ s' v) → {G H : Knowns} → Reads D s G H → Reads D' s' G H
reads-changed D D' s s' i k reads_none = reads_none
reads-changed D D' s s' i k (reads_more x (read_type {t = t} h u) rs) = reads_more x (read_type (over-mono D D' i t h) (u ∙ replace-agree D t h s s' k)) (reads-changed D D' s s' i k rs)
reads-changed D D' s s' i k (reads_more x (read_general qs D0 s0 b j h l) rs) = reads_more x (read_general qs D0 s0 b (λ v e. i v (j v e)) h (λ v e. l v e ∙ k v (j v e))) (reads-changed D D' s s' i k rs)
reads-changed D D' s s' i k (reads_more x (read_own {t = t} h u) rs) = reads_more x (read_own (over-mono D D' i t h) (u ∙ replace-agree D t h s s' k)) (reads-changed D D' s s' i k rs)
reads-changed D D' s s' i k (reads_more x (read_exception {a = a} h u) rs) = reads_more x (read_exception (option-over-more D D' i a h) (u ∙ option-agree D s s' k a h)) (reads-changed D D' s s' i k rs)

-- under the parameters of a declaration
pub under : (D : List Quantified) (s : ℕ → Typ) (qs : List Quantified) (ts : List Typ) → are_new qs D ≡ true → {G H : Knowns} → Reads D s G H → Reads (qs ++ D) (changed qs ts s) G H
under D s qs ts n rs = reads-changed D (qs ++ D) s (changed qs ts s) (more-scope qs D) (changed-outside D s qs ts n) rs

-- and after it
pub declared-read : (D : List Quantified) (s : ℕ → Typ) (qs : List Quantified) (a : Typ) → over (qs ++ D) a ≡ true → KnownRead D s (declared qs a) (bound qs s a)
declared-read D s [] a h = read_type h refl
declared-read D s (q ∷ qs) a h = read_general (q ∷ qs) D s a (λ v e. e) h (λ v e. refl)

module _ {table : List Constructor} where
  group-own : (D : List Quantified) (s : ℕ → Typ) {G' : Knowns} {fs : Funs poly} → FunsChecked table D G' fs → {G H : Knowns} → Reads D s G H → Reads D s (group_knowns own fs G) (group_knowns (own_at s) fs H)
  group-own D s c_no_funs rs = rs
  group-own D s (c_fun {x = x} h f fs) rs = reads_more x (read_own h refl) (group-own D s fs rs)

  group-declared : (D : List Quantified) (s : ℕ → Typ) (qs : List Quantified) {D' : List Quantified} {G' : Knowns} {fs : Funs poly} → D' ≡ qs ++ D → FunsChecked table D' G' fs → {G H : Knowns} → Reads D s G H → Reads D s (group_knowns (declared qs) fs G) (group_knowns (bound qs s) fs H)
  group-declared D s qs e c_no_funs rs = rs
  group-declared D s qs e (c_fun {x = x} {a = a} h f fs) rs = reads_more x (declared-read D s qs a (subst (λ d. over d a ≡ true) e h)) (group-declared D s qs e fs rs)

  case-read : (D : List Quantified) (s : ℕ → Typ) {G G' H : Knowns} {c : Case poly} {t : Typ} → CaseChecked table D G c t G' → Reads D s G H → (H' : Knowns) × CaseTyped table s H c (replace s t) H' × Reads D s G' H'
  case-read D s {H = H} (literal_checked h) rs = (H, literal_typed (literal-read s h), rs)
  case-read D s {H = H} (con_checked h) rs = (H, con_typed (constructor-read s h), rs)
  case-read D s {H = H} (con_of_checked {x = x} {a = a} h o) rs = ((x, of_type (replace s a)) ∷ H, con_of_typed (constructor-read s h), reads_more x (read_type o refl) rs)
  case-read D s {H = H} (exn_checked {x = x} e) rs = (H, exn_typed (exception-at D s rs x e), rs)
  case-read D s {H = H} (exn_of_checked {y = y} {x = x} {a = a} e o) rs = ((x, of_type (replace s a)) ∷ H, exn_of_typed (exception-at D s rs y e), reads_more x (read_type o refl) rs)
  case-read D s {H = H} (record_checked {size = size} r e n) rs = (H, record_typed (row_read s r) (ap (replace s) e ∙ row_type-read s r) (ap (is_size size) (length-read s r) ∙ n), rs)

  mutual
    pub typed-read : {m : Bool} {D : List Quantified} {G : Knowns} {e : Exp poly} {t : Typ} → Checked table m D G e t → (s : ℕ → Typ) → Fits D s → {H : Knowns} → Reads D s G H → Typed table m s H e (replace s t)
    typed-read (c_ret a) s f rs = t_ret (atom-read _ s rs a)
    typed-read (c_let {D = D} {qs = qs} {x = x} {a = a} g n h o e) s f rs =
        t_let g (λ ts al. op-read o (changed qs ts s) (changed-fits D s f qs ts al) (under D s qs ts n rs)) (typed-read e s f (reads_more x (declared-read D s qs a h) rs))
    typed-read (c_exception {x = x} h e) s f rs = t_exception (typed-read e s f (reads_more x (read_exception h refl) rs))
    typed-read (c_exception_alone {x = x} e) s f rs = t_exception (typed-read e s f (reads_more x (read_exception refl refl) rs))
    typed-read (c_name {x = x} n e) s f rs = t_name (name-read _ s rs n) (typed-read e s f (reads_more x (read_exception (name-over _ s rs n) refl) rs))
    typed-read (c_rec {D = D} {qs = qs} n fs e) s f rs =
        t_rec (λ ts al. funs-read fs (changed qs ts s) (changed-fits D s f qs ts al) (group-own (qs ++ D) (changed qs ts s) fs (under D s qs ts n rs))) (typed-read e s f (group-declared D s qs refl fs rs))
    typed-read (c_switch a arms) s f rs = t_switch (atom-read _ s rs a) refl (arms-read arms s f rs)
    typed-read (c_first e d) s f rs = t_first (typed-read e s f rs) (typed-read d s f rs)
    typed-read c_miss s f rs = t_miss
    typed-read (c_counted e) s f rs = t_counted (typed-read e s f rs)

    arms-read : {D : List Quantified} {G : Knowns} {arms : Arms poly} {u t : Typ} → ArmsChecked table D G arms u t → (s : ℕ → Typ) → Fits D s → {H : Knowns} → Reads D s G H → ArmsTyped table s H arms (replace s u) (replace s t)
    arms-read c_no_arms s f rs = t_no_arms
    arms-read (c_arm c e arms) s f rs = let k = case-read _ s c rs in t_arm k.1 (typed-read e s f k.2) (arms-read arms s f rs)

    pub op-read : {D : List Quantified} {G : Knowns} {o : Op poly} {t : Typ} → OpChecked table D G o t → (s : ℕ → Typ) → Fits D s → {H : Knowns} → Reads D s G H → OpTyped table s H o (replace s t)
    op-read (c_use {D = D} {qs = qs} {x = x} {ts = ts} e al o h) s f rs = let k = general-found D s ts _ (read-at D s x rs) e al in t_use k.1 (are-allowed-read D s f qs ts al) (ap (replace s) h ∙ k.2)
    op-read (c_use_one {x = x} e) s f rs = t_use_one (type-at _ s rs x e)
    op-read (c_use_own {x = x} e) s f rs = t_use_own (own-found _ s (read-at _ s x rs) e)
    op-read (c_use_exception {x = x} {a = a} e h) s f rs = t_use_exception (exception-at _ s rs x e) (ap (replace s) h ∙ value-read s a)
    op-read (c_const h) s f rs = t_const (literal-read s h)
    op-read (c_con_alone {u = u} {a = a} h e) s f rs = t_con_alone (constructor-read s h) (ap (replace s) e ∙ alone-read s a u)
    op-read (c_construct h a) s f rs = t_construct (constructor-read s h) (atom-read _ s rs a) refl
    op-read (c_ref_alone e) s f rs = t_ref_alone (ap (replace s) e)
    op-read (c_refer a e) s f rs = t_refer (atom-read _ s rs a) (ap (replace s) e)
    op-read (c_content a e) s f rs = t_content (atom-read _ s rs a) (ap (replace s) e) refl
    op-read (c_pack {x = x} e a h) s f rs = t_pack (exception-at _ s rs x e) (atom-read _ s rs a) (ap (replace s) h)
    op-read (c_make_record {r = r} row e a) s f rs = t_make_record (row-read _ s rs row) (ap (replace s) e ∙ row_type-read s r) (ap ascend (labels-read s r) ∙ a) refl
    op-read (c_select {t = t} {l = l} r a e h) s f rs = t_select (row_read s r) (atom-read _ s rs a) (ap (replace s) e ∙ row_type-read s r) (part-read s (same_label l) r t h) refl
    op-read (c_prim_alone {D = D} {p = p} {u = u} al e) s f rs =
        t_prim_alone (allows-read (prim_type p).mark D s f u al) (ap (replace s) e ∙ rw (tuple-read s (arguments_at p u), arguments-read s p u, result-read s p u) refl)
    op-read (c_prim {D = D} {p = p} {u = u} al as_ e h) s f rs = t_prim (allows-read (prim_type p).mark D s f u al) (atoms-read _ s rs as_) (ap (map (replace s)) e ∙ arguments-read s p u) (ap (replace s) h ∙ result-read s p u)
    op-read (c_app g a e) s f rs = t_app (atom-read _ s rs g) (atom-read _ s rs a) (ap (replace s) e)
    op-read (c_fn g) s f rs = t_fn (fun-read g s f rs)
    op-read (c_block e) s f rs = t_block (typed-read e s f rs)
    op-read (c_handle {x = x} e h) s f rs = t_handle (typed-read e s f rs) (typed-read h s f (reads_more x (read_type refl refl) rs))
    op-read (c_raise a e) s f rs = t_raise (atom-read _ s rs a) (ap (replace s) e)
    op-read (c_raise_initial h) s f rs = t_raise_initial h

    fun-read : {D : List Quantified} {G : Knowns} {g : Fun poly} {t : Typ} → FunChecked table D G g t → (s : ℕ → Typ) → Fits D s → {H : Knowns} → Reads D s G H → FunTyped table s H g (replace s t)
    fun-read (c_last {x = x} o e h) s f rs = t_last (typed-read e s f (reads_more x (read_type o refl) rs)) (ap (replace s) h)
    fun-read (c_more {x = x} o g h) s f rs = t_more (fun-read g s f (reads_more x (read_type o refl) rs)) (ap (replace s) h)

    funs-read : {D : List Quantified} {G : Knowns} {fs : Funs poly} → FunsChecked table D G fs → (s : ℕ → Typ) → Fits D s → {H : Knowns} → Reads D s G H → FunsTyped table s H fs
    funs-read c_no_funs s f rs = t_no_funs
    funs-read (c_fun o g fs) s f rs = t_fun (fun-read g s f rs) (funs-read fs s f rs)
