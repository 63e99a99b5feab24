-- What is known of variables in the two programs; patterns, bindings and groups.
use Rattle.std.proofs.Common.{◌≡◌, ℕ, suc, ◌<◌, ◌≤◌, Bool, true, false, ◌||◌, List, [], ◌∷◌, ◌++◌, Option, Some, None, nat_eq, if◌then◌else◌, refl, sym, ap, subst, ◌∙◌, arith}
use Rattle.std.specs.Prelude.{⊤}
use Rattle.std.specs.Map.{lookup}
use Rattle.std.proofs.lemmas.Bool.{eq-eqb, lt-ltb}
use Rattle.mlc_names.specs.declared.label.Label.{Label}
use Rattle.mlc_names.specs.declared.label.Label.TheVariants.{Number}
use Rattle.ty_core.specs.Types.{Typ, var}
use Rattle.ty_core.specs.declared.scheme.Quantified.{Quantified}
use Rattle.ir_poly.specs.of_ir_values.Values.{same_label}
use Rattle.ir_poly.specs.of_ir_plain.Tree as te
use Rattle.ir_poly.specs.of_ir_plain.Tree.{is_value, is_value_op}
use Rattle.ir_poly.specs.Prog.{Exc, Pat, PatFields, Fun, Funs, no_funs, a_fun}
use Rattle.ir_poly.specs.ProgMeaning.{size_of}
use Rattle.ir_poly.specs.ProgChecked as pr
use Rattle.ir_poly.specs.ProgChecked.{pat_onto, pats_onto, each_onto, funs_onto, ExcChecked}
use Rattle.ir_poly.specs.Tests.{inst, poly, Tests}
use Rattle.ir_poly.specs.Types.{row_type, labels_in, ascend, in_scope, over, are_new, Constructor}
use Rattle.ir_poly.specs.TestsChecked.{Known, of_type, general, own, exception, Knowns, at, exn_type, declared, may_generalise, group_knowns, is_size, AtomChecked, atom_checked, RowChecked, no_row_checked, a_row_checked, NameChecked, fixed_checked, held_checked, literal_checked, con_checked, con_of_checked, exn_checked, exn_of_checked, record_checked, Checked, c_ret, c_let, c_name, c_rec, c_switch, ArmsChecked, c_no_arms, c_arm, OpChecked, c_use, c_use_one, c_content, c_make_record, c_select, c_block, FunsChecked}
use Rattle.ir_poly.proofs.ReplaceLemmas.{both-true, over-mono, more-scope, row_read, row_type-read, length-read, part-read}
use Rattle.match_compile.specs.Compile as pass
use Rattle.match_compile.specs.Compile.{Names, named, each_named, funs_named, past_group, scoped, option_scoped, standing, unclassed, own_types, atom, put, excepted, Otherwise, otherwise, otherwise_op, initial, Spots, no_spots, spot, spots, field_spots, spots_named, past_pat, past_pats, tests, field_tests, row_of, spots_row, record_type, together, part, split, past_split, split_spots, function, past_fun, grouped}
use Rattle.match_compile.proofs.Numbers.{different, le-trans, le-suc, le-refl, le-less, less-of, pat-up, split-up, group-up}
use Rattle.match_compile.proofs.TypeLemmas.{scoped-over, scoped-more, own-instance, own-allowed, own-over, literal-scoped, constructor-scoped}

-- an exception's argument is over the parameters in scope
abbrev pub option_over : List Quantified → Option Typ → Bool
option_over S None = true
option_over S (Some a) = over S a

-- what a variable is in the two programs
pub data KnownAs (S D : List Quantified) : Known → Known → Type 0 where
  as_type : {t u : Typ} → over S t ≡ true → u ≡ scoped D t → KnownAs S D (of_type t) (of_type u)
  as_general : (qs : List Quantified) {b c : Typ} → over (qs ++ S) b ≡ true → c ≡ scoped (unclassed qs ++ D) b → KnownAs S D (general qs var b) (general (unclassed qs) var c)
  as_own : {t u : Typ} → over S t ≡ true → u ≡ scoped D t → KnownAs S D (own t) (own u)
  as_exception : {a b : Option Typ} → option_over S a ≡ true → b ≡ option_scoped D a → KnownAs S D (exception a) (exception b)

-- what is known of one is known of the variable that it has got, which lies below n
pub data Found (n : ℕ) (S D : List Quantified) (H : Knowns) (m : ℕ) (k : Known) : Type 0 where
  found_as : (k' : Known) → at H m ≡ Some k' → KnownAs S D k k' → m < n → Found n S D H m k

pub record SameKnowns (n : ℕ) (S D : List Quantified) (N : Names) (G H : Knowns) : Type 0 where
  pub known : (x : ℕ) (k : Known) → at G x ≡ Some k → Found n S D H (N x) k

-- the variables below n are what they were
abbrev pub Holds : ℕ → Knowns → Knowns → Type 0
Holds n H H' = (i : ℕ) → i < n → at H' i ≡ at H i

pub holds-refl : (n : ℕ) (H : Knowns) → Holds n H H
holds-refl n H i h = refl

pub holds-trans : (n m : ℕ) (A B C : Knowns) → n ≤ m → Holds n A B → Holds m B C → Holds n A C
holds-trans n m A B C le h k i lt = k i (less-of i n m lt le) ∙ h i lt

pub holds-bind : (n k : ℕ) (w : Known) (H : Knowns) → n ≤ k → Holds n H ((k, w) ∷ H)
holds-bind n k w H le i lt = rw (different i k (λ e. omega (arith, e, lt, le))) refl

pub here : (k : ℕ) (w : Known) (H : Knowns) → at ((k, w) ∷ H) k ≡ Some w
here k w H = rw (eq-eqb k k refl) refl

found-up : (n m : ℕ) {S D : List Quantified} {H H' : Knowns} {j : ℕ} {k : Known} → n ≤ m → Holds n H H' → Found n S D H j k → Found m S D H' j k
found-up n m {j = j} le h (found_as k' e a lt) = found_as k' (h j lt ∙ e) a (less-of j n m lt le)

pub knowns-up : (n m : ℕ) {S D : List Quantified} {N : Names} {G H H' : Knowns} → n ≤ m → Holds n H H' → SameKnowns n S D N G H → SameKnowns m S D N G H'
knowns-up n m le h s = record { known = λ x k e. found-up n m le h (s.known x k e) }

pub knowns-bind : {n : ℕ} {S D : List Quantified} {N : Names} {G H : Knowns} (x m : ℕ) {w w' : Known} → at H m ≡ Some w' → KnownAs S D w w' → m < n → SameKnowns n S D N G H → SameKnowns n S D (named x m N) ((x, w) ∷ G) H
knowns-bind {n} {S} {D} {N} {G} {H} x m {w} {w'} e a lt s = record { known = λ y k d. go y k (nat_eq y x) d }
  where
    go : (y : ℕ) (k : Known) (b : Bool) → (if b then Some w else at G y) ≡ Some k → Found n S D H (if b then m else N y) k
    go y k true d = let same : w ≡ k = cc in found_as w' e (subst (λ z. KnownAs S D z w') same a) lt
    go y k false d = s.known y k d

-- a parameter of a function, or another variable of one type
pub knowns-one : (n x : ℕ) {S D : List Quantified} {N : Names} {G H : Knowns} (t : Typ) → over S t ≡ true → SameKnowns n S D N G H → SameKnowns (suc n) S D (named x n N) ((x, of_type t) ∷ G) ((n, of_type (scoped D t)) ∷ H)
knowns-one n x {D = D} {H = H} t o s = knowns-bind x n (here n _ H) (as_type o refl) (omega arith) (knowns-up n (suc n) (le-suc n n (le-refl n)) (holds-bind n n _ H (le-refl n)) s)

-- under parameters

option-more : (qs S : List Quantified) (a : Option Typ) → option_over S a ≡ true → option_over (qs ++ S) a ≡ true
option-more qs S None h = refl
option-more qs S (Some a) h = over-mono S (qs ++ S) (more-scope qs S) a h

option-same : (qs D S : List Quantified) → are_new qs S ≡ true → (a : Option Typ) → option_over S a ≡ true → option_scoped D a ≡ option_scoped (unclassed qs ++ D) a
option-same qs D S n None h = refl
option-same qs D S n (Some a) h = ap Some (sym (scoped-more [] qs D S n a h))

more-inside : (ps qs S : List Quantified) (v : ℕ) → in_scope (ps ++ S) v ≡ true → in_scope (ps ++ (qs ++ S)) v ≡ true
more-inside [] qs S v e = more-scope qs S v e
more-inside (p ∷ ps) qs S v e = go (nat_eq p.variable v) (more-inside ps qs S v) e
  where
    go : (b : Bool) → (in_scope (ps ++ S) v ≡ true → in_scope (ps ++ (qs ++ S)) v ≡ true) → (b || in_scope (ps ++ S) v) ≡ true → (b || in_scope (ps ++ (qs ++ S)) v) ≡ true
    go true f e = refl
    go false f e = f e

known-more : (qs S D : List Quantified) → are_new qs S ≡ true → {k k' : Known} → KnownAs S D k k' → KnownAs (qs ++ S) (unclassed qs ++ D) k k'
known-more qs S D n (as_type {t = t} o e) = as_type (over-mono S (qs ++ S) (more-scope qs S) t o) (e ∙ sym (scoped-more [] qs D S n t o))
known-more qs S D n (as_general ps {b = b} o e) = as_general ps (over-mono (ps ++ S) (ps ++ (qs ++ S)) (more-inside ps qs S) b o) (e ∙ sym (scoped-more ps qs D S n b o))
known-more qs S D n (as_own {t = t} o e) = as_own (over-mono S (qs ++ S) (more-scope qs S) t o) (e ∙ sym (scoped-more [] qs D S n t o))
known-more qs S D n (as_exception {a = a} o e) = as_exception (option-more qs S a o) (e ∙ option-same qs D S n a o)

known-less : (qs S D : List Quantified) {k k' : Known} → KnownAs S D k k' → KnownAs (qs ++ S) D k k'
known-less qs S D (as_type {t = t} o e) = as_type (over-mono S (qs ++ S) (more-scope qs S) t o) e
known-less qs S D (as_general ps {b = b} o e) = as_general ps (over-mono (ps ++ S) (ps ++ (qs ++ S)) (more-inside ps qs S) b o) e
known-less qs S D (as_own {t = t} o e) = as_own (over-mono S (qs ++ S) (more-scope qs S) t o) e
known-less qs S D (as_exception {a = a} o e) = as_exception (option-more qs S a o) e

found-more : (qs S D : List Quantified) → are_new qs S ≡ true → {n m : ℕ} {H : Knowns} {k : Known} → Found n S D H m k → Found n (qs ++ S) (unclassed qs ++ D) H m k
found-more qs S D n (found_as k' e a lt) = found_as k' e (known-more qs S D n a) lt

found-less : (qs S D : List Quantified) {n m : ℕ} {H : Knowns} {k : Known} → Found n S D H m k → Found n (qs ++ S) D H m k
found-less qs S D (found_as k' e a lt) = found_as k' e (known-less qs S D a) lt

pub knowns-more : (qs S D : List Quantified) → are_new qs S ≡ true → {n : ℕ} {N : Names} {G H : Knowns} → SameKnowns n S D N G H → SameKnowns n (qs ++ S) (unclassed qs ++ D) N G H
knowns-more qs S D n s = record { known = λ x k e. found-more qs S D n (s.known x k e) }

pub knowns-less : (qs S D : List Quantified) {n : ℕ} {N : Names} {G H : Knowns} → SameKnowns n S D N G H → SameKnowns n (qs ++ S) D N G H
knowns-less qs S D s = record { known = λ x k e. found-less qs S D (s.known x k e) }

-- what a declared variable is
pub declared-known : (qs S D : List Quantified) (t : Typ) → over (qs ++ S) t ≡ true → KnownAs S D (declared qs t) (declared (unclassed qs) (scoped (unclassed qs ++ D) t))
declared-known [] S D t o = as_type o refl
declared-known (q ∷ qs) S D t o = as_general (q ∷ qs) o refl

-- what is found

pub type-found : {n : ℕ} {S D : List Quantified} {H : Knowns} {m : ℕ} {t : Typ} → Found n S D H m (of_type t) → at H m ≡ Some (of_type (scoped D t))
type-found (found_as _ e (as_type o d) lt) = e ∙ ap (λ u. Some (of_type u)) d

pub own-found : {n : ℕ} {S D : List Quantified} {H : Knowns} {m : ℕ} {t : Typ} → Found n S D H m (own t) → at H m ≡ Some (own (scoped D t))
own-found (found_as _ e (as_own o d) lt) = e ∙ ap (λ u. Some (own u)) d

pub exception-found : {n : ℕ} {S D : List Quantified} {H : Knowns} {m : ℕ} {a : Option Typ} → Found n S D H m (exception a) → at H m ≡ Some (exception (option_scoped D a))
exception-found (found_as _ e (as_exception o d) lt) = e ∙ ap (λ u. Some (exception u)) d

general-as : {S D : List Quantified} (H : Knowns) (m : ℕ) (qs : List Quantified) (b : Typ) (k k' : Known) → at H m ≡ Some k' → KnownAs S D k k' → k ≡ general qs var b → at H m ≡ Some (general (unclassed qs) var (scoped (unclassed qs ++ D) b))
general-as H m qs b _ _ e (as_type o d) h = absurd (cc)
general-as H m qs b _ _ e (as_own o d) h = absurd (cc)
general-as H m qs b _ _ e (as_exception o d) h = absurd (cc)
general-as {D = D} H m qs b _ _ e (as_general ps {b = c} o d) h =
    let one : ps ≡ qs = cc in let two : c ≡ b = cc in
    e ∙ (ap (λ u. Some (general (unclassed ps) var u)) d ∙ (ap (λ z. Some (general (unclassed z) var (scoped (unclassed z ++ D) c))) one ∙ ap (λ z. Some (general (unclassed qs) var (scoped (unclassed qs ++ D) z))) two))

pub general-found : {n : ℕ} {S D : List Quantified} {H : Knowns} {m : ℕ} {qs : List Quantified} {b : Typ} → Found n S D H m (general qs var b) → at H m ≡ Some (general (unclassed qs) var (scoped (unclassed qs ++ D) b))
general-found {H = H} {m = m} {qs = qs} {b = b} (found_as k' e a lt) = general-as H m qs b _ k' e a refl

-- Atoms

pub atom-holds : {H H' : Knowns} (k : ℕ) {t : Typ} → at H' k ≡ at H k → AtomChecked H (atom k) t → AtomChecked H' (atom k) t
atom-holds k e (atom_checked d) = atom_checked (e ∙ d)

pub atom-here : (k : ℕ) (t : Typ) (H : Knowns) → AtomChecked ((k, of_type t) ∷ H) (atom k) t
atom-here k t H = atom_checked (here k (of_type t) H)

pub may-general : (qs : List Quantified) (o : te.Op poly) → is_value_op o ≡ true → may_generalise qs o ≡ true
may-general [] o e = refl
may-general (q ∷ qs) o e = e

pub name-typed : {n : ℕ} {S D : List Quantified} {N : Names} {G H : Knowns} {x : Exc} {a : Option Typ} → ExcChecked G x a → SameKnowns n S D N G H → NameChecked H (excepted N x) (option_scoped D a)
name-typed (pr.fixed_checked e) s = fixed_checked e
name-typed (pr.held_checked {x = x} e) s = held_checked (exception-found (s.known x _ e))

module _ (table : List Constructor) where
  -- a new variable of type a, where what follows is well typed with it
  pub put-typed : (D : List Quantified) (n k : ℕ) {m : Bool} {o : te.Op poly} (a : Typ) {t : Typ} {H : Knowns} {rest : Tests} → n ≤ k → OpChecked table D H o (scoped D a) → ((H' : Knowns) → Holds n H H' → AtomChecked H' (atom k) (scoped D a) → Checked table m D H' rest t) → Checked table m D H (put D k a o rest) t
  put-typed D n k a {H = H} le w f = c_let {qs = []} refl refl (scoped-over D a) w (f ((k, of_type (scoped D a)) ∷ H) (holds-bind n k (of_type (scoped D a)) H le) (atom-here k (scoped D a) H))

  pub otherwise-typed : (D : List Quantified) (n a : ℕ) (o : Otherwise) {m : Bool} (u : Typ) {H : Knowns} → OpChecked table D H (otherwise_op a o) (scoped D u) → Checked table m D H (otherwise D n u a o) (scoped D u)
  otherwise-typed D n a o u w = put-typed D n n u (le-refl n) w (λ H' h k. c_ret k)

  -- Patterns

  -- where a pattern's variables are found, and what is known with them
  pub data Places (f : Typ → Known) (n : ℕ) (S D : List Quantified) (H : Knowns) (us : Spots) (G0 : Knowns) : Spots → Knowns → Type 0 where
    places_none : Places f n S D H us G0 us G0
    places_one : {x a : ℕ} {t : Typ} {vs : Spots} {G : Knowns} → a < n → over S t ≡ true → AtomChecked H (atom a) (scoped D t) → Places f n S D H us G0 vs G → Places f n S D H us G0 (spot x a t vs) ((x, f t) ∷ G)

  pub places-more : {f : Typ → Known} (n m : ℕ) {S D : List Quantified} {H H' : Knowns} {us : Spots} {G0 : Knowns} {vs : Spots} {G : Knowns} → n ≤ m → Holds n H H' → Places f n S D H us G0 vs G → Places f m S D H' us G0 vs G
  places-more n m le h places_none = places_none
  places-more n m le h (places_one {a = a} lt o w p) = places_one (less-of a n m lt le) o (atom-holds a (h a lt) w) (places-more n m le h p)

  -- arms for packets
  arms-of : (D : List Quantified) {H : Knowns} {arms : te.Arms poly} {t u : Typ} → t ≡ exn_type → ArmsChecked table D H arms exn_type u → ArmsChecked table D H arms (scoped D t) u
  arms-of D {H} {arms} {t} {u} e h = subst (λ z. ArmsChecked table D H arms z u) (sym (ap (scoped D) e)) h

  module _ (f : Typ → Known) (S D : List Quantified) (N : Names) (G : Knowns) (us : Spots) (G0 : Knowns) where
    abbrev Then : (n m : ℕ) (H : Knowns) → Spots → Knowns → Tests → Typ → Type 0
    Then n m H vs G' rest t = (H' : Knowns) → Holds n H H' → Places f m S D H' us G0 vs G' → Checked table true D H' rest t

    then-more : (n k m : ℕ) (H H1 : Knowns) {vs : Spots} {G' : Knowns} {rest : Tests} {t : Typ} → n ≤ k → Holds n H H1 → Then n m H vs G' rest t → Then k m H1 vs G' rest t
    then-more n k m H H1 le h g H' h' p = g H' (holds-trans n k H H1 H' le h h') p

    mutual
      pub tests-typed : {p : Pat} {t : Typ} → pr.PatChecked table S G p t → over S t ≡ true → (n k : ℕ) {H G' : Knowns} {vs : Spots} {rest : Tests} {u : Typ} → SameKnowns n S D N G H → AtomChecked H (atom k) (scoped D t) → k < n → Places f n S D H us G0 vs G'
          → Then n (past_pat p n) H (spots p t n k vs) (pat_onto f p t G') rest u → Checked table true D H (tests D N p t n k rest) u
      tests-typed pr.any_checked o n k {H} s w lt p g = g H (holds-refl n H) p
      tests-typed pr.variable_checked o n k {H} s w lt p g = g H (holds-refl n H) (places_one lt o w p)
      tests-typed (pr.constant_checked c) o n k {H} s w lt p g = c_switch w (c_arm (literal_checked (literal-scoped D c)) (g H (holds-refl n H) p) c_no_arms)
      tests-typed (pr.con_checked c) o n k {H} s w lt p g = c_switch w (c_arm (con_checked (constructor-scoped D c)) (g H (holds-refl n H) p) c_no_arms)
      tests-typed (pr.con_of_checked {a = a} {p = q} c oa d) o n k {H} s w lt p g =
          let H1 = (n, of_type (scoped D a)) ∷ H in let le = le-suc n n (le-refl n) in let h = holds-bind n n (of_type (scoped D a)) H (le-refl n) in
          c_switch w (c_arm (con_of_checked (constructor-scoped D c) (scoped-over D a)) (tests-typed d oa (suc n) n (knowns-up n (suc n) le h s) (atom-here n (scoped D a) H) (omega arith) (places-more n (suc n) le h p) (then-more n (suc n) _ H H1 le h g)) c_no_arms)
      tests-typed (pr.ref_of_checked {a = a} e oa d) o n k {H} s w lt p g =
          let le = le-suc n n (le-refl n) in
          put-typed D n n a (le-refl n) (c_content w (ap (scoped D) e)) (λ H1 h w1. tests-typed d oa (suc n) n (knowns-up n (suc n) le h s) w1 (omega arith) (places-more n (suc n) le h p) (then-more n (suc n) _ H H1 le h g))
      tests-typed (pr.exn_checked {x = x} c e) o n k {H} s w lt p g =
          let H1 = (n, exception None) ∷ H in let le = le-suc n n (le-refl n) in let h = holds-bind n n (exception None) H (le-refl n) in
          c_name (name-typed c s) (c_switch (atom-holds k (h k lt) w) (arms-of D e (c_arm (exn_checked (here n (exception None) H)) (g H1 h (places-more n (suc n) le h p)) c_no_arms)))
      tests-typed (pr.exn_of_checked {x = x} {a = a} c e oa d) o n k {H} s w lt p g =
          let H1 = (n, exception (Some (scoped D a))) ∷ H in let H2 = (suc n, of_type (scoped D a)) ∷ H1 in
          let h = holds-trans n (suc n) H H1 H2 (le-suc n n (le-refl n)) (holds-bind n n (exception (Some (scoped D a))) H (le-refl n)) (holds-bind (suc n) (suc n) (of_type (scoped D a)) H1 (le-refl (suc n))) in
          let le : n ≤ suc (suc n) = omega arith in
          c_name (name-typed c s) (c_switch (atom-holds k (holds-bind n n (exception (Some (scoped D a))) H (le-refl n) k lt) w)
          (arms-of D e
          (c_arm (exn_of_checked (here n (exception (Some (scoped D a))) H) (scoped-over D a))
          (tests-typed d oa (suc (suc n)) (suc n) (knowns-up n (suc (suc n)) le h s) (atom-here (suc n) (scoped D a) H1) (omega arith) (places-more n (suc (suc n)) le h p) (then-more n (suc (suc n)) _ H H2 le h g)) c_no_arms)))
      tests-typed (pr.fields_checked {further = further} {ps = ps} r e d z) o n k {H} s w lt p g =
          c_switch w (c_arm (record_checked (row_read (standing D) r) (ap (scoped D) e ∙ row_type-read (standing D) r) (ap (is_size (size_of further ps)) (length-read (standing D) r) ∙ z)) (field-tests-typed d _ e n k s w lt p g) c_no_arms)
      tests-typed (pr.as_checked d) o n k {H} s w lt p g = tests-typed d o n k s w lt (places_one lt o w p) g

      pub field-tests-typed : {ps : PatFields} {r : List (Label × Typ)} → pr.PatsChecked table S G ps r → (t : Typ) → t ≡ row_type r → (n k : ℕ) {H G' : Knowns} {vs : Spots} {rest : Tests} {u : Typ} → SameKnowns n S D N G H → AtomChecked H (atom k) (scoped D t) → k < n → Places f n S D H us G0 vs G'
          → Then n (past_pats ps n) H (field_spots ps n vs) (pats_onto f ps G') rest u → Checked table true D H (field_tests D N ps t n k rest) u
      field-tests-typed pr.no_pats_checked t e n k {H} s w lt p g = g H (holds-refl n H) p
      field-tests-typed {r = r} (pr.a_pat_checked {l = l} {a = a} {p = q} c oa d ds) t e n k {H} s w lt p g =
          let j = past_pat q (suc n) in let le = le-suc n n (le-refl n) in let lj : n ≤ j = le-less _ _ (pat-up q (suc n)) in
          put-typed D n n a (le-refl n) (c_select (row_read (standing D) r) w (ap (scoped D) e ∙ row_type-read (standing D) r) (part-read (standing D) (same_label l) r a c)) (λ H1 h w1.
          tests-typed d oa (suc n) n (knowns-up n (suc n) le h s) w1 (omega arith) (places-more n (suc n) le h p) (λ H2 h2 p2.
          let h3 = holds-trans n (suc n) H H1 H2 le h h2 in
          field-tests-typed ds t e j k (knowns-up n j lj h3 s) (atom-holds k (h3 k lt) w) (less-of k n j lt lj) p2 (then-more n j _ H H2 lj h3 g)))

  -- what is known of the variables of bindings, in front of what is known before
  pub data Bound (n : ℕ) (S D : List Quantified) (H G0 : Knowns) : Spots → Knowns → Type 0 where
    bound_none : Bound n S D H G0 no_spots G0
    bound_one : {x a : ℕ} {t : Typ} {k k' : Known} {vs : Spots} {G : Knowns} → a < n → at H a ≡ Some k' → KnownAs S D k k' → Bound n S D H G0 vs G → Bound n S D H G0 (spot x a t vs) ((x, k) ∷ G)

  pub bound-more : (n m : ℕ) {S D : List Quantified} {H H' G0 G : Knowns} {vs : Spots} → n ≤ m → Holds n H H' → Bound n S D H G0 vs G → Bound m S D H' G0 vs G
  bound-more n m le h bound_none = bound_none
  bound-more n m le h (bound_one {a = a} lt e w b) = bound_one (less-of a n m lt le) (h a lt ∙ e) w (bound-more n m le h b)

  pub bound-onto : {n : ℕ} {S D : List Quantified} {N : Names} {H G0 G : Knowns} {vs : Spots} → SameKnowns n S D N G0 H → Bound n S D H G0 vs G → SameKnowns n S D (spots_named vs N) G H
  bound-onto s bound_none = s
  bound-onto s (bound_one {x = x} {a = a} lt e w b) = knowns-bind x a e w lt (bound-onto s b)

  -- those of a pattern that isn't generalised
  pub bound-places : {f : Typ → Known} {n : ℕ} {S D : List Quantified} {H G0 G1 : Knowns} {us vs : Spots} {G : Knowns} → ((t : Typ) → f t ≡ of_type t) → Bound n S D H G0 us G1 → Places f n S D H us G1 vs G → Bound n S D H G0 vs G
  bound-places z b places_none = b
  bound-places {f} {n} {S} {D} z b (places_one {t = t} lt o (atom_checked e) p) = bound_one lt e (subst (λ k. KnownAs S D k (of_type (scoped D t))) (sym (z t)) (as_type o refl)) (bound-places z b p)

  -- a pattern's variables beside what is known with them
  pub data Along (f : Typ → Known) (S : List Quantified) (G0 : Knowns) : Spots → Knowns → Type 0 where
    along_none : Along f S G0 no_spots G0
    along_one : {x a : ℕ} {t : Typ} {vs : Spots} {G : Knowns} → over S t ≡ true → Along f S G0 vs G → Along f S G0 (spot x a t vs) ((x, f t) ∷ G)

  mutual
    pub along : {f : Typ → Known} {S : List Quantified} {G1 G0 G : Knowns} {p : Pat} {t : Typ} → pr.PatChecked table S G1 p t → over S t ≡ true → (n k : ℕ) {vs : Spots} → Along f S G0 vs G → Along f S G0 (spots p t n k vs) (pat_onto f p t G)
    along pr.any_checked o n k h = h
    along pr.variable_checked o n k h = along_one o h
    along (pr.constant_checked c) o n k h = h
    along (pr.con_checked c) o n k h = h
    along (pr.con_of_checked c oa d) o n k h = along d oa (suc n) n h
    along (pr.ref_of_checked e oa d) o n k h = along d oa (suc n) n h
    along (pr.exn_checked c e) o n k h = h
    along (pr.exn_of_checked c e oa d) o n k h = along d oa (suc (suc n)) (suc n) h
    along (pr.fields_checked r e d z) o n k h = fields-along d n h
    along (pr.as_checked d) o n k h = along d o n k (along_one o h)

    fields-along : {f : Typ → Known} {S : List Quantified} {G1 G0 G : Knowns} {ps : PatFields} {r : List (Label × Typ)} → pr.PatsChecked table S G1 ps r → (n : ℕ) {vs : Spots} → Along f S G0 vs G → Along f S G0 (field_spots ps n vs) (pats_onto f ps G)
    fields-along pr.no_pats_checked n h = h
    fields-along (pr.a_pat_checked {p = q} c oa d ds) n h = fields-along ds (past_pat q (suc n)) (along d oa (suc n) n h)

  -- Generalised patterns

  row-typed : {f : Typ → Known} {n : ℕ} {S D : List Quantified} {H G0 G : Knowns} {vs : Spots} → Places f n S D H no_spots G0 vs G → (l : ℕ) → RowChecked H (spots_row vs l) (row_read (standing D) (row_of vs l))
  row-typed places_none l = no_row_checked
  row-typed (places_one lt o w p) l = a_row_checked w (row-typed p (suc l))

  row-ascends : (s : ℕ → Typ) (vs : Spots) (l : ℕ) → ascend (labels_in (row_read s (row_of vs l))) ≡ true
  row-ascends s no_spots l = refl
  row-ascends s (spot x a t no_spots) l = refl
  row-ascends s (spot x a t (spot y b u vs)) l = both-true (lt-ltb l (suc l) (omega arith)) (row-ascends s (spot y b u vs) (suc l))

  pub together-typed : {f : Typ → Known} {n : ℕ} {S D : List Quantified} {H G0 G : Knowns} {vs : Spots} → Places f n S D H no_spots G0 vs G → (j : ℕ) → Checked table true D H (together D vs j) (scoped D (record_type vs))
  together-typed {D = D} {H = H} {vs = vs} p j = put-typed D j j (record_type vs) (le-refl j) (c_make_record (row-typed p 1) (row_type-read (standing D) (row_of vs 1)) (row-ascends (standing D) vs 1)) (λ H1 h w. c_ret w)

  -- the fields of a row are the variables', from l on
  pub data Fielded (q : List (Label × Typ)) : Spots → ℕ → Type 0 where
    fielded_none : {l : ℕ} → Fielded q no_spots l
    fielded_one : {x a l : ℕ} {t : Typ} {vs : Spots} → lookup (same_label (Number l)) q ≡ Some t → Fielded q vs (suc l) → Fielded q (spot x a t vs) l

  fielded-deeper : {q : List (Label × Typ)} {vs : Spots} {l : ℕ} (j : ℕ) (t : Typ) → j < l → Fielded q vs l → Fielded ((Number j, t) ∷ q) vs l
  fielded-deeper j t lt fielded_none = fielded_none
  fielded-deeper j t lt (fielded_one {l = l} e f) = fielded_one (rw (different l j (λ d. omega (arith, d, lt))) e) (fielded-deeper j t (omega (arith, lt)) f)

  fielded : (vs : Spots) (l : ℕ) → Fielded (row_of vs l) vs l
  fielded no_spots l = fielded_none
  fielded (spot x a t vs) l = fielded_one (rw (eq-eqb l l refl) refl) (fielded-deeper l t (omega arith) (fielded vs (suc l)))

  declared-use : (qs D : List Quantified) → are_new (unclassed qs) D ≡ true → (b : Typ) (r : ℕ) {H : Knowns} → at H r ≡ Some (declared (unclassed qs) b) → OpChecked table (unclassed qs ++ D) H (te.use_of (inst r (own_types (unclassed qs)))) b
  declared-use [] D n b r e = c_use_one e
  declared-use (q ∷ qs) D n b r e = c_use e (own-allowed (q ∷ qs) D n) (own-over (unclassed (q ∷ qs)) D) (own-instance (unclassed (q ∷ qs)) b)

  part-typed : (qs D : List Quantified) → are_new (unclassed qs) D ≡ true → (row : List (Label × Typ)) (r l : ℕ) (t : Typ) (k : ℕ) {H : Knowns} → at H r ≡ Some (declared (unclassed qs) (scoped (unclassed qs ++ D) (row_type row))) → lookup (same_label (Number l)) row ≡ Some t
      → Checked table false (unclassed qs ++ D) H (part (unclassed qs ++ D) (unclassed qs) (row_type row) r l t k) (scoped (unclassed qs ++ D) t)
  part-typed qs D n row r l t k {H} e q =
      let E = unclassed qs ++ D in
      put-typed E k k (row_type row) (le-refl k) (declared-use qs D n (scoped E (row_type row)) r e) (λ H1 h1 w1.
      put-typed E (suc k) (suc k) t (le-refl (suc k)) (c_select (row_read (standing E) row) w1 (row_type-read (standing E) row) (part-read (standing E) (same_label (Number l)) row t q)) (λ H2 h2 w2. c_ret w2))

  pub split-typed : (qs S D : List Quantified) → are_new (unclassed qs) D ≡ true → (row : List (Label × Typ)) (r : ℕ) {G1 : Knowns} {vs : Spots} {G : Knowns} → Along (declared qs) (qs ++ S) G1 vs G → (l k : ℕ) {G0 H : Knowns} {us : Spots} {rest : Tests} {t : Typ} → Fielded row vs l
      → at H r ≡ Some (declared (unclassed qs) (scoped (unclassed qs ++ D) (row_type row))) → r < k → Bound k S D H G0 us G1
      → ((H' : Knowns) → Holds k H H' → Bound (past_split vs k) S D H' G0 (split_spots vs k us) G → Checked table true D H' rest t) → Checked table true D H (split D (unclassed qs) (row_type row) r vs l k rest) t
  split-typed qs S D n row r along_none l k {H = H} z e lt b f = f H (holds-refl k H) b
  split-typed qs S D n row r (along_one {x = x} {t = c} {vs = vs} o a) l k {H = H} (fielded_one q z) e lt b f =
      let rs = unclassed qs in let E = rs ++ D in let w = declared rs (scoped E c) in let j = suc (suc k) in let m = suc j in let H1 = (j, w) ∷ H in let holds : Holds k H H1 = holds-bind k j w H (omega arith) in let le : k ≤ m = omega arith in
      c_let (may-general rs (te.block (part E rs (row_type row) r l c k)) refl) n (scoped-over E c) (c_block (part-typed qs D n row r l c k e q))
      (split-typed qs S D n row r a (suc l) m z (holds r lt ∙ e) (omega (arith, lt)) (bound-more k m le holds b) (λ H2 h2 b2.
      f H2 (holds-trans k m H H1 H2 le holds h2) (bound_one (less-of j m _ (omega arith) (split-up vs m)) (h2 j (omega arith) ∙ here j w H) (declared-known qs S D c o) b2)))

  pub record-split : (qs S D : List Quantified) → are_new (unclassed qs) D ≡ true → (r : ℕ) {G1 : Knowns} {vs : Spots} {G : Knowns} → Along (declared qs) (qs ++ S) G1 vs G → (k : ℕ) {G0 H : Knowns} {us : Spots} {rest : Tests} {t : Typ}
      → at H r ≡ Some (declared (unclassed qs) (scoped (unclassed qs ++ D) (record_type vs))) → r < k → Bound k S D H G0 us G1
      → ((H' : Knowns) → Holds k H H' → Bound (past_split vs k) S D H' G0 (split_spots vs k us) G → Checked table true D H' rest t) → Checked table true D H (split D (unclassed qs) (record_type vs) r vs 1 k rest) t
  record-split qs S D n r {vs = vs} a k e lt b f = split-typed qs S D n (row_of vs 1) r a 1 k (fielded vs 1) e lt b f

  -- Groups

  -- the functions' types are over the parameters
  pub data AllOver (S : List Quantified) : Funs → Type 0 where
    none_over : AllOver S no_funs
    one_over : {xs : List ℕ} {t : Typ} {f : Fun} {fs : Funs} → over S t ≡ true → AllOver S fs → AllOver S (a_fun xs t f fs)

  pub each-known : (xs : List ℕ) {n : ℕ} {S D : List Quantified} {N : Names} {G H : Knowns} (m : ℕ) {w w' : Known} → at H m ≡ Some w' → KnownAs S D w w' → m < n → SameKnowns n S D N G H → SameKnowns n S D (each_named xs m N) (each_onto xs w G) H
  each-known [] m e a lt s = s
  each-known (x ∷ xs) m e a lt s = knowns-bind x m e a lt (each-known xs m e a lt s)

  module _ (E : List Quantified) (M : Names) (f' : Typ → Known) where
    abbrev InGroup : Funs → (b : ℕ) → Knowns → Type 0
    InGroup no_funs b H = ⊤
    InGroup (a_fun xs t f fs) b H = (at H b ≡ Some (f' (scoped E t))) × InGroup fs (suc b) H

    in-more : (fs : Funs) (b c : ℕ) (w : Known) (H : Knowns) → c < b → InGroup fs b H → InGroup fs b ((c, w) ∷ H)
    in-more no_funs b c w H lt h = tt
    in-more (a_fun xs t f fs) b c w H lt h = (rw (different b c (λ e. omega (arith, e, lt))) h.0, in-more fs (suc b) c w H (omega (arith, lt)) h.1)

    in-all : (fs : Funs) (b k : ℕ) (H : Knowns) → InGroup fs b (group_knowns f' (pass.functions E M fs b k) H)
    in-all no_funs b k H = tt
    in-all (a_fun xs t f fs) b k H =
        let w = f' (scoped E t) in let H1 = group_knowns f' (pass.functions E M fs (suc b) (past_fun f k)) H in
        (here b w H1, in-more fs (suc b) b w H1 (omega arith) (in-all fs (suc b) (past_fun f k) H))

    pub group-holds : (fs : Funs) (n b k : ℕ) (H : Knowns) → n ≤ b → Holds n H (group_knowns f' (pass.functions E M fs b k) H)
    group-holds no_funs n b k H le = holds-refl n H
    group-holds (a_fun xs t f fs) n b k H le =
        let H1 = group_knowns f' (pass.functions E M fs (suc b) (past_fun f k)) H in
        holds-trans n n H H1 ((b, f' (scoped E t)) ∷ H1) (le-refl n) (group-holds fs n (suc b) (past_fun f k) H (le-suc _ _ le)) (holds-bind n b (f' (scoped E t)) H1 le)

    group-onto : (f : Typ → Known) (S0 S D : List Quantified) → ((t : Typ) → over S0 t ≡ true → KnownAs S D (f t) (f' (scoped E t))) → (fs : Funs) → AllOver S0 fs → (p b : ℕ) {N : Names} {G H : Knowns} → past_group fs b ≤ p → InGroup fs b H → SameKnowns p S D N G H → SameKnowns p S D (funs_named fs b N) (funs_onto f fs G) H
    group-onto f S0 S D z no_funs none_over p b lp h s = s
    group-onto f S0 S D z (a_fun xs t g fs) (one_over o os) p b lp h s = each-known xs b h.0 (z t o) (omega (arith, lp, group-up fs (suc b))) (group-onto f S0 S D z fs os p (suc b) lp h.1 s)

    pub group-known : (f : Typ → Known) (S0 S D : List Quantified) → ((t : Typ) → over S0 t ≡ true → KnownAs S D (f t) (f' (scoped E t))) → (fs : Funs) → AllOver S0 fs → (n b k : ℕ) {N : Names} {G H : Knowns} → n ≤ b → SameKnowns n S D N G H
        → SameKnowns (past_group fs b) S D (funs_named fs b N) (funs_onto f fs G) (group_knowns f' (pass.functions E M fs b k) H)
    group-known f S0 S D z fs os n b k {H = H} le s = group-onto f S0 S D z fs os (past_group fs b) b (le-refl _) (in-all fs b k H) (knowns-up n (past_group fs b) (le-trans _ _ _ le (group-up fs b)) (group-holds fs n b k H le) s)

  pub grouped-typed : (rs D : List Quantified) (fs : te.Funs poly) {m : Bool} {H : Knowns} {rest : Tests} {t : Typ} → are_new rs D ≡ true → FunsChecked table (rs ++ D) (group_knowns own fs H) fs → Checked table m D (group_knowns (declared rs) fs H) rest t → Checked table m D H (grouped rs fs rest) t
  grouped-typed rs D te.no_funs n h k = k
  grouped-typed rs D (te.fun x t f fs) n h k = c_rec n h k
