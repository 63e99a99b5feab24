-- The routine compares two values, or the heap is exhausted.
use Rattle.std.proofs.Common.{◌≡◌, ℕ, suc, ◌+◌, ◌<◌, ◌≤◌, List, [], ◌∷◌, ◌++◌, length, Option, Some, None, Bool, true, false, cond, ◌⊎◌, inl, inr, refl, sym, ap, ◌∙◌, subst, ⊎_elim, arith, append_assoc, append-nil, length-append, get_or}
use Rattle.std.specs.Prelude.{slice_get, nat_eq, min}
use Rattle.std.proofs.lemmas.Bool.{eqb-true, eq-eqb, ne_eqb, cases_Bool}
use Rattle.ir_code.specs.declared.instr.Instr.{Instr}
use Rattle.std.specs.Cmp.Lexicographic.{slice_cmp}
use Rattle.std.specs.Ordering.{nat_cmp}
use Rattle.ir_code.specs.declared.instr.Instr.TheVariants.{Li, Mov, Jmp, Brz, Switch, Ret, Alloc, Ld, St, Eq, SCmp}
use Rattle.ir_code.specs.Words.{one_if, same_word, order_code}
use Rattle.ir_code.specs.Machine.{State, Goes, act}
use Rattle.ir_code.specs.Laws.{ControlLaws, MemoryLaws, ArithmeticLaws, NextLaws}
use Rattle.mlc_prims.specs.LitOf.{Literal, int, word, char, string, truth}
use Rattle.std.specs.Str.{bytes_eq}
use Rattle.std.specs.Ordering.{int_eq}
use Rattle.std.proofs.lemmas.Bool.Decides.{Decides-int_eq}
use Rattle.ir_code.specs.Words.{word_of}
use Rattle.mlc_prims.specs.Table.{literal_eq}
use Rattle.machine_routines.proofs.IntWords.{words-apart}
use Rattle.first_values.specs.Values.{Value, literal, cell, reference, name, packet, Values, no_values, value}
use Rattle.first_values.specs.Equality.{Shape, numbers, texts, cells, references, opaque, equal_at, equal_parts, unless, is_text, unless_different}
use Rattle.machine_routines.specs.Layout.{Word, stays, is_reference, nth_at, TextAt, IsLiteral, Is, AreAt, Shows}
use Rattle.machine_routines.specs.EqualCode.{Way, by_word, as_last, as_inner, is_word, way_of, way_at, way_size, offset_of, place, way_code, parts_code, word_code, shape_code, equal_code}
use Rattle.machine_routines.specs.Runs.{HasAt, Frame, inside, returned, Leads, RunsOut}
use Rattle.machine_routines.specs.EqualLaw.{words, Answers, returns, exhausts}
use Rattle.machine_routines.proofs.Seams.{get_left, get_right, get_within}
use Rattle.machine_routines.proofs.LayoutLemmas.{nth_apart, shows_more, texts_compare}
use Rattle.machine_routines.proofs.Leads.{stays_here, trans, out_after, step_to, no_heap}
use Rattle.machine_routines.proofs.Steps.{does_li, does_mov, does_eq, does_ld, does_scmp, does_jmp, does_brz_zero, does_brz, does_switch, does_ret, does_alloc, no_words, does_st}
use Rattle.machine_routines.proofs.Stands.{Goes as TagGoes, to_parts, to_start, cell_goes, rest_stands, shape_stands}

-- both of two answers
and_split : (x y : Option Bool) (q : Bool) → unless_different x y ≡ Some q → ((x ≡ Some false) × (q ≡ false)) ⊎ ((x ≡ Some true) × (y ≡ Some q))
and_split None y q e = absurd (cc)
and_split (Some false) y q e = let f : false ≡ q = cc in inl (refl, sym f)
and_split (Some true) y q e = inr (refl, e)

last_true : (shapes : List Shape) (vs us : Values) (q : Bool) → equal_parts shapes [] vs us ≡ Some q → true ≡ q
last_true shapes no_values no_values q e = cc
last_true shapes no_values (value u us) q e = absurd (cc)
last_true shapes (value v vs) us q e = absurd (cc)

one_yes : (x y : ℕ) → nat_eq x y ≡ true → same_word x y ≡ 1
one_yes x y e = ap one_if e

one_no : (x y : ℕ) → nat_eq x y ≡ false → same_word x y ≡ 0
one_no x y e = ap one_if e

nat_eq_iff : (i j x y : ℕ) → (i ≡ j → x ≡ y) → (x ≡ y → i ≡ j) → nat_eq x y ≡ nat_eq i j
nat_eq_iff i j x y to from = cases (cases_Bool (nat_eq x y)) (cases_Bool (nat_eq i j))
  where
    cases : (nat_eq x y ≡ true) ⊎ (nat_eq x y ≡ false) → (nat_eq i j ≡ true) ⊎ (nat_eq i j ≡ false) → nat_eq x y ≡ nat_eq i j
    cases (inl a) (inl b) = a ∙ sym b
    cases (inl a) (inr b) = let c : nat_eq i j ≡ true = eq-eqb i j (from (eqb-true x y a)) in a ∙ sym c
    cases (inr a) (inl b) = let c : nat_eq x y ≡ true = eq-eqb x y (to (eqb-true i j b)) in c ∙ sym b
    cases (inr a) (inr b) = a ∙ sym b

-- numbers are equal where their words are
pub numbers_equal : (lay : List Word) (c d : Literal) (x y : ℕ) (q : Bool) → IsLiteral lay c x → IsLiteral lay d y → unless (is_text c) (literal_eq c d) ≡ Some q
    → nat_eq x y ≡ q
numbers_equal lay (int z) (int k) x y q i j e = let f : int_eq z k ≡ q = cc in by (int_eq z k) refl ∙ f
  where
    one_word : z ≡ k → x ≡ y
    one_word g = let h : Some x ≡ Some y = sym i ∙ ap word_of g ∙ j in cc

    by : (b : Bool) → int_eq z k ≡ b → nat_eq x y ≡ int_eq z k
    by true g = eq-eqb x y (one_word ((Decides-int_eq z k).0 g)) ∙ sym g
    by false g = ne_eqb x y (λ h. let t : int_eq z k ≡ true = (Decides-int_eq z k).1 (words-apart z k x y i j h) in absurd (cc)) ∙ sym g
numbers_equal lay (word m) (word n) x y q i j e = let f : nat_eq m n ≡ q = cc in ap (λ z. nat_eq z y) i.0 ∙ ap (λ z. nat_eq m z) j.0 ∙ f
numbers_equal lay (char m) (char n) x y q i j e = let f : nat_eq m n ≡ q = cc in ap (λ z. nat_eq z y) i.0 ∙ ap (λ z. nat_eq m z) j.0 ∙ f
numbers_equal lay (string s) d x y q i j e = absurd (cc)
numbers_equal lay (truth b) d x y q i j e = absurd i
numbers_equal lay c (truth b) x y q i j e = absurd j
numbers_equal lay c d x y q i j e = absurd (cc)

-- words are compared as the values are
pub word_equal : (shapes : List Shape) (lay : List Word) (sh : Shape) (v u : Value) (x y : ℕ) (q : Bool) → is_word sh ≡ true → Is lay v x → Is lay u y
    → equal_at shapes sh v u ≡ Some q → nat_eq x y ≡ q
word_equal shapes lay numbers (literal c) (literal d) x y q w i j e = numbers_equal lay c d x y q i j e
word_equal shapes lay references (reference m) (reference n) x y q w i j e =
    let f : nat_eq m n ≡ q = cc in
    nat_eq_iff m n x y
    (λ g. let h : Some x ≡ Some y = sym i ∙ ap (λ z. nth_at is_reference lay z) g ∙ j in cc)
    (λ g. nth_apart is_reference lay m n y (i ∙ ap Some g) j) ∙ f
word_equal shapes lay texts v u x y q w i j e = absurd (cc)
word_equal shapes lay (cells tags) v u x y q w i j e = absurd (cc)
word_equal shapes lay opaque v u x y q w i j e = absurd (cc)
word_equal shapes lay numbers v u x y q w i j e = absurd (cc)
word_equal shapes lay references v u x y q w i j e = absurd (cc)

-- two texts
pub record AreTexts (lay : List Word) (x y : ℕ) (q : Bool) : Type 0 where
  pub left : List ℕ
  pub right : List ℕ
  pub is_left : TextAt lay left x
  pub is_right : TextAt lay right y
  pub is : bytes_eq left right ≡ q

text_equal : (shapes : List Shape) (lay : List Word) (v u : Value) (x y : ℕ) (q : Bool) → Is lay v x → Is lay u y → equal_at shapes texts v u ≡ Some q
    → AreTexts lay x y q
text_equal shapes lay (literal (string s)) (literal (string t)) x y q i j e = record { left = s; right = t; is_left = i; is_right = j; is = cc }
text_equal shapes lay (literal c) (literal (truth b)) x y q i j e = absurd j
text_equal shapes lay v u x y q i j e = absurd (cc)

module _ (C : ControlLaws) (M : MemoryLaws) (A : ArithmeticLaws) (N : NextLaws) (shapes : List Shape) (start most : ℕ) (code : List Instr)
    (fits : length code ≤ most) (stands : HasAt code start (equal_code shapes start most)) (lay : List Word) (f : Frame) (behind : 0 < f.base)
    (back frame : ℕ) (above : List ℕ) where
  abbrev there : ℕ → ℕ
  there o = place shapes start most o

  abbrev at : ℕ → ℕ → ℕ → ℕ → ℕ → ℕ → List ℕ → List ℕ → State
  at pc a b p l r m free = inside f pc (words back frame above a b p l r) m free

  -- two values were compared: where they are equal, the routine is at its start with the pending comparisons of before
  pub data Compared (s : State) (m : List ℕ) (p : ℕ) : Bool → Type 0 where
    same : (a b l r : ℕ) (new free : List ℕ) → Leads code s (at start a b p l r (m ++ new) free) → Compared s m p true
    differs : (b p' l r : ℕ) (new free : List ℕ) → Leads code s (at (start + 7) 0 b p' l r (m ++ new) free) → Compared s m p false
    runs_out : (q : Bool) → RunsOut code s → Compared s m p q

  before : {s t : State} {m : List ℕ} {p : ℕ} {q : Bool} → Leads code s t → Compared t m p q → Compared s m p q
  before w (same a b l r new free x) = same a b l r new free (trans code w x)
  before w (differs b p' l r new free x) = differs b p' l r new free (trans code w x)
  before w (runs_out q x) = runs_out q (out_after code w x)

  does : {s t : State} {m : List ℕ} {p : ℕ} {q : Bool} (i : Instr) → slice_get code s.pc ≡ Some i → act s i ≡ Goes t → Compared t m p q → Compared s m p q
  does i e a x = before (step_to code N i e a) x

  -- more words were in use
  grown : {s : State} {p : ℕ} {q : Bool} (m more : List ℕ) → Compared s (m ++ more) p q → Compared s m p q
  grown {s} {p} m more (same a b l r new free x) = same a b l r (more ++ new) free
      (subst (λ z. Leads code s (at start a b p l r z free)) (append_assoc m more new) x)
  grown {s} {p} m more (differs b p' l r new free x) = differs b p' l r (more ++ new) free
      (subst (λ z. Leads code s (at (start + 7) 0 b p' l r z free)) (append_assoc m more new) x)
  grown m more (runs_out q x) = runs_out q x

  at_start : (a b p l r : ℕ) (m free : List ℕ) → Compared (at start a b p l r m free) m p true
  at_start a b p l r m free = same a b l r [] free (subst (λ z. Leads code (at start a b p l r m free) (at start a b p l r z free)) (sym (append-nil m))
      (stays_here code _))

  at_differ : (b p' l r : ℕ) (m free : List ℕ) (p : ℕ) → Compared (at (start + 7) 0 b p' l r m free) m p false
  at_differ b p' l r m free p = differs b p' l r [] free (subst (λ z. Leads code (at (start + 7) 0 b p' l r m free) (at (start + 7) 0 b p' l r z free))
      (sym (append-nil m)) (stays_here code _))

  -- a place reached in another way of counting
  put_at : {m : List ℕ} {p : ℕ} {q : Bool} (pc pc' a b p' l r : ℕ) (m' free : List ℕ) → pc ≡ pc' → Compared (at pc' a b p' l r m' free) m p q
      → Compared (at pc a b p' l r m' free) m p q
  put_at {m} {p} {q} pc pc' a b p' l r m' free e x = subst (λ z. Compared (at z a b p' l r m' free) m p q) (sym e) x

  -- after a test of two words: on where they are the same, else to the end
  tested : (x y : ℕ) (c q : Bool) (pc b p l r : ℕ) (m free : List ℕ) → nat_eq x y ≡ c → slice_get code pc ≡ Some (Brz 2 (start + 7)) → (c ≡ false → q ≡ false)
      → (c ≡ true → Compared (at (pc + 1) 1 b p l r m free) m p q) → Compared (at pc (same_word x y) b p l r m free) m p q
  tested x y true q pc b p l r m free e has unless then =
      subst (λ z. Compared (at pc z b p l r m free) m p q) (sym (one_yes x y e))
      (does (Brz 2 (start + 7)) has (does_brz C M A f pc (words back frame above 1 b p l r) m free 2 (start + 7) 1 refl (omega arith)) (then refl))
  tested x y false q pc b p l r m free e has unless then =
      subst (λ z. Compared (at pc z b p l r m free) m p q) (sym (one_no x y e))
      (does (Brz 2 (start + 7)) has (does_brz_zero C M A f pc (words back frame above 0 b p l r) m free 2 (start + 7) refl)
      (subst (λ z. Compared (at (start + 7) 0 b p l r m free) m p z) (sym (unless refl)) (at_differ b p l r m free p)))

  -- what the code of a type does with a value and any other
  abbrev pub Compares : Value → Type 0
  Compares v = (u : Value) (t : ℕ) (q : Bool) (a b p l r : ℕ) (m free : List ℕ) → Shows lay m → f.base ≤ length m → Is lay v l → Is lay u r
      → equal_at shapes (get_or shapes t opaque) v u ≡ Some q → Compared (at (there (offset_of shapes t)) a b p l r m free) m p q

  -- what the code of the parts of a cell from the j-th on does
  abbrev pub Follows : Values → Type 0
  Follows vs = (us : Values) (ts : List ℕ) (q : Bool) (o j a b p l r : ℕ) (m free : List ℕ) → HasAt code (there o) (parts_code shapes start most o j ts)
      → Shows lay m → f.base ≤ length m → AreAt lay vs (l + j) → AreAt lay us (r + j) → equal_parts shapes ts vs us ≡ Some q
      → Compared (at (there o) a b p l r m free) m p q

  -- Words and texts.

  words_compared : (x y : ℕ) (q : Bool) (pc a b p : ℕ) (m free : List ℕ) → nat_eq x y ≡ q → HasAt code pc (word_code shapes start most)
      → Compared (at pc a b p x y m free) m p q
  words_compared x y q pc a b p m free e has =
      does (Eq 2 5 6) has.0 (does_eq C M A f pc (words back frame above a b p x y) m free 2 5 6 x y (omega arith) refl refl)
      (tested x y q q (pc + 1) b p x y m free e has.1.0 (λ g. g)
      (λ g. subst (λ z. Compared (at (pc + 1 + 1) 1 b p x y m free) m p z) (sym g)
      (does (Jmp start) has.1.1.0 (does_jmp C M A f (pc + 1 + 1) (words back frame above 1 b p x y) m free start) (at_start 1 b p x y m free))))

  texts_compared : (x y : ℕ) (q : Bool) (o a b p : ℕ) (m free : List ℕ) → Shows lay m → AreTexts lay x y q
      → HasAt code (there o) (shape_code shapes start most o texts) → Compared (at (there o) a b p x y m free) m p q
  texts_compared x y q o a b p m free show t has =
      let pc = there o in
      let c = order_code (slice_cmp nat_cmp t.left t.right) in
      does (SCmp 2 5 6) has.0 (does_scmp C M A f pc (words back frame above a b p x y) m free lay 2 5 6 x y t.left t.right (omega arith) refl refl show
      t.is_left t.is_right)
      (does (Li 3 1) has.1.0 (does_li C M A f (pc + 1) (words back frame above c b p x y) m free 3 1 (omega arith))
      (does (Eq 2 2 3) has.1.1.0 (does_eq C M A f (pc + 1 + 1) (words back frame above c 1 p x y) m free 2 2 3 c 1 (omega arith) refl refl)
      (tested c 1 q q (pc + 1 + 1 + 1) 1 p x y m free (texts_compare t.left t.right ∙ t.is) has.1.1.1.0 (λ g. g)
      (λ g. subst (λ z. Compared (at (pc + 1 + 1 + 1 + 1) 1 1 p x y m free) m p z) (sym g)
      (does (Jmp start) has.1.1.1.1.0 (does_jmp C M A f (pc + 1 + 1 + 1 + 1) (words back frame above 1 1 p x y) m free start) (at_start 1 1 p x y m free))))))

  -- Cells.

  read : (m : List ℕ) (x c y : ℕ) → Shows lay m → slice_get lay (x + c) ≡ Some (stays y) → slice_get m (x + c) ≡ Some y
  read m x c y show e = show (x + c) y e

  read_tag : (m : List ℕ) (x y : ℕ) → Shows lay m → slice_get lay x ≡ Some (stays y) → slice_get m (x + 0) ≡ Some y
  read_tag m x y show e = let n : x ≡ x + 0 = omega arith in subst (λ z. slice_get m z ≡ Some y) n (show x y e)

  cells_compared : (i j : ℕ) (vs us : Values) → Follows vs → (tags : List (List ℕ)) (q : Bool) (o a b p l r : ℕ) (m free : List ℕ) → Shows lay m
      → f.base ≤ length m → Is lay (cell i vs) l → Is lay (cell j us) r → HasAt code (there o) (shape_code shapes start most o (cells tags))
      → equal_at shapes (cells tags) (cell i vs) (cell j us) ≡ Some q → Compared (at (there o) a b p l r m free) m p q
  cells_compared i j vs us go tags q o a b p l r m free show low hl hr has e =
      let pc = there o in
      does (Ld 2 5 0) has.0 (does_ld C M A f pc (words back frame above a b p l r) m free 2 5 0 l i (omega arith) refl (read_tag m l i show hl.0))
      (does (Ld 3 6 0) has.1.0 (does_ld C M A f (pc + 1) (words back frame above i b p l r) m free 3 6 0 r j (omega arith) refl (read_tag m r j show hr.0))
      (does (Eq 2 2 3) has.1.1.0 (does_eq C M A f (pc + 1 + 1) (words back frame above i j p l r) m free 2 2 3 i j (omega arith) refl refl)
      (tested i j (nat_eq i j) q (pc + 1 + 1 + 1) j p l r m free refl has.1.1.1.0 apart
      (λ g. does (Switch 3 (length tags)) has.1.1.1.1.0 (does_switch C M A f (pc + 1 + 1 + 1 + 1) (words back frame above 1 j p l r) m free 3 (length tags) j
      refl)
      (parts (one_tag g) (cell_goes shapes start most code tags o (pc + 1 + 1 + 1 + 1 + 1) j (omega arith) has.1.1.1.1.1))))))
    where
      apart : nat_eq i j ≡ false → q ≡ false
      apart g =
          let h : Some false ≡ Some q = sym (ap (λ c. cond c (equal_parts shapes (get_or tags i []) vs us) (Some false)) g) ∙ e in
          let k : false ≡ q = cc in sym k

      one_tag : nat_eq i j ≡ true → equal_parts shapes (get_or tags j []) vs us ≡ Some q
      one_tag g =
          let h : equal_parts shapes (get_or tags i []) vs us ≡ Some q =
          sym (ap (λ c. cond c (equal_parts shapes (get_or tags i []) vs us) (Some false)) g) ∙ e in
          subst (λ z. equal_parts shapes (get_or tags z []) vs us ≡ Some q) (eqb-true i j g) h

      parts : {pc : ℕ} → equal_parts shapes (get_or tags j []) vs us ≡ Some q → TagGoes shapes start most code tags j pc
          → Compared (at pc 1 j p l r m free) m p q
      parts {pc} h (to_parts d goes there_d) =
          does (Jmp (there d)) goes (does_jmp C M A f pc (words back frame above 1 j p l r) m free (there d))
          (go us (get_or tags j []) q d 1 1 j p l r m free there_d show low hl.1 hr.1 h)
      parts {pc} h (to_start goes none) =
          let k : true ≡ q = last_true shapes vs us q (subst (λ z. equal_parts shapes z vs us ≡ Some q) none h) in
          subst (λ z. Compared (at pc 1 j p l r m free) m p z) k
          (does (Jmp start) goes (does_jmp C M A f pc (words back frame above 1 j p l r) m free start) (at_start 1 j p l r m free))

  -- of a cell its parts
  abbrev CellFollows : Value → Type 0
  CellFollows (literal c) = Unit {0}
  CellFollows (cell i vs) = Follows vs
  CellFollows (reference i) = Unit {0}
  CellFollows (name i) = Unit {0}
  CellFollows (packet i v) = Unit {0}

  cell_case : (v u : Value) → CellFollows v → (tags : List (List ℕ)) (q : Bool) (o a b p l r : ℕ) (m free : List ℕ) → Shows lay m → f.base ≤ length m
      → Is lay v l → Is lay u r → HasAt code (there o) (shape_code shapes start most o (cells tags)) → equal_at shapes (cells tags) v u ≡ Some q
      → Compared (at (there o) a b p l r m free) m p q
  cell_case (cell i vs) (cell j us) go tags q o a b p l r m free show low hl hr has e =
      cells_compared i j vs us go tags q o a b p l r m free show low hl hr has e
  cell_case v u go tags q o a b p l r m free show low hl hr has e = absurd (cc)

  compare : (v : Value) → CellFollows v → Compares v
  compare v go u t q a b p l r m free show low hv hu e = by_shape (get_or shapes t opaque) (shape_stands shapes start most code stands t) e
    where
      o : ℕ
      o = offset_of shapes t

      by_shape : (sh : Shape) → HasAt code (there (offset_of shapes t)) (shape_code shapes start most (offset_of shapes t) sh)
          → equal_at shapes sh v u ≡ Some q → Compared (at (there (offset_of shapes t)) a b p l r m free) m p q
      by_shape numbers has g = words_compared l r q (there (offset_of shapes t)) a b p m free (word_equal shapes lay numbers v u l r q refl hv hu g) has
      by_shape texts has g = texts_compared l r q (offset_of shapes t) a b p m free show (text_equal shapes lay v u l r q hv hu g) has
      by_shape (cells tags) has g = cell_case v u go tags q (offset_of shapes t) a b p l r m free show low hv hu has g
      by_shape references has g = words_compared l r q (there (offset_of shapes t)) a b p m free (word_equal shapes lay references v u l r q refl hv hu g) has
      by_shape opaque has g = absurd (cc)

  -- Parts.

  follows_none : Follows no_values
  follows_none no_values [] q o j a b p l r m free has show low hl hr e =
      let k : true ≡ q = cc in
      subst (λ z. Compared (at (there o) a b p l r m free) m p z) k
      (does (Jmp start) has.0 (does_jmp C M A f (there o) (words back frame above a b p l r) m free start) (at_start a b p l r m free))
  follows_none (value u us) [] q o j a b p l r m free has show low hl hr e = absurd (cc)
  follows_none us (t ∷ ts) q o j a b p l r m free has show low hl hr e = absurd (cc)

  -- there is an instruction where parts are compared
  parts_begin : (pc o j : ℕ) (ts : List ℕ) → HasAt code pc (parts_code shapes start most o j ts) → pc < length code
  parts_begin pc o j [] has = get_within code pc (Jmp start) has.0
  parts_begin pc o j (t ∷ ts) has = first (way_at shapes t ts) has
    where
      first : (w : Way) → HasAt code pc (way_code shapes start most w o j t ++ parts_code shapes start most (o + way_size w) (suc j) ts) → pc < length code
      first by_word h = get_within code pc _ h.0
      first as_last h = get_within code pc _ h.0
      first as_inner h = get_within code pc _ h.0

  -- after a part that was compared with more in use, and perhaps more pending
  after : {s : State} {n : ℕ} {c : Bool} (q : Bool) (m more : List ℕ) (p : ℕ) → Compared s (m ++ more) n c → (c ≡ false → q ≡ false)
      → (c ≡ true → (a b l r : ℕ) (new free : List ℕ) → Compared (at start a b n l r ((m ++ more) ++ new) free) m p q) → Compared s m p q
  after {s} q m more p (same a b l r new free x) unless then = before x (then refl a b l r new free)
  after {s} q m more p (differs b p' l r new free x) unless then =
      subst (λ z. Compared s m p z) (sym (unless refl)) (differs b p' l r (more ++ new) free
      (subst (λ z. Leads code s (at (start + 7) 0 b p' l r z free)) (append_assoc m more new) x))
  after q m more p (runs_out c x) unless then = runs_out q x

  -- the next pending comparison
  pops : (k a b n l r l' r' p q' : ℕ) (m free : List ℕ) (m0 : List ℕ) (q : Bool) → 0 < n → slice_get m (n + 0) ≡ Some k → slice_get m (n + 1) ≡ Some l
      → slice_get m (n + 2) ≡ Some r → slice_get m (n + 3) ≡ Some p → k ≤ most → Compared (at (there k) k b p l r m free) m0 q' q
      → Compared (at start a b n l' r' m free) m0 q' q
  pops k a b n l r l' r' p q' m free m0 q pos e0 e1 e2 e3 le x =
      let pc = start in
      let goes : pc + 1 + 1 + 1 + 1 + 1 + 1 + min k most ≡ there k = omega arith in
      does (Brz 4 (start + 6)) stands.0 (does_brz C M A f pc (words back frame above a b n l' r') m free 4 (start + 6) n refl pos)
      (does (Ld 2 4 0) stands.1.0 (does_ld C M A f (pc + 1) (words back frame above a b n l' r') m free 2 4 0 n k (omega arith) refl e0)
      (does (Ld 5 4 1) stands.1.1.0 (does_ld C M A f (pc + 1 + 1) (words back frame above k b n l' r') m free 5 4 1 n l (omega arith) refl e1)
      (does (Ld 6 4 2) stands.1.1.1.0 (does_ld C M A f (pc + 1 + 1 + 1) (words back frame above k b n l r') m free 6 4 2 n r (omega arith) refl e2)
      (does (Ld 4 4 3) stands.1.1.1.1.0 (does_ld C M A f (pc + 1 + 1 + 1 + 1) (words back frame above k b n l r) m free 4 4 3 n p (omega arith) refl e3)
      (does (Switch 2 most) stands.1.1.1.1.1.0 (does_switch C M A f (pc + 1 + 1 + 1 + 1 + 1) (words back frame above k b p l r) m free 2 most k refl)
      (put_at (pc + 1 + 1 + 1 + 1 + 1 + 1 + min k most) (there k) k b p l r m free goes x))))))

  module _ (v u : Value) (vs us : Values) (go : Compares v) (rest : Follows vs) (t : ℕ) (q : Bool) (o j a b p l r : ℕ) (m : List ℕ) (show : Shows lay m)
      (low : f.base ≤ length m) (hl : AreAt lay (value v vs) (l + j)) (hr : AreAt lay (value u us) (r + j)) where
    abbrev x : ℕ
    x = hl.0

    abbrev y : ℕ
    y = hr.0

    rest_left : AreAt lay vs (l + suc j)
    rest_left = let n : l + j + 1 ≡ l + suc j = omega arith in subst (λ z. AreAt lay vs z) n hl.3

    rest_right : AreAt lay us (r + suc j)
    rest_right = let n : r + j + 1 ≡ r + suc j = omega arith in subst (λ z. AreAt lay us z) n hr.3

    abbrev Way_does : Way → List ℕ → List ℕ → Type 0
    Way_does w ts free = HasAt code (there o) (way_code shapes start most w o j t ++ parts_code shapes start most (o + way_size w) (suc j) ts)
        → equal_parts shapes (t ∷ ts) (value v vs) (value u us) ≡ Some q → Compared (at (there o) a b p l r m free) m p q

    as_a_word : (ts free : List ℕ) → is_word (get_or shapes t opaque) ≡ true → Way_does by_word ts free
    as_a_word ts free w has e =
        let pc = there o in
        does (Ld 2 5 j) has.0 (does_ld C M A f pc (words back frame above a b p l r) m free 2 5 j l x (omega arith) refl (read m l j x show hl.1))
        (does (Ld 3 6 j) has.1.0 (does_ld C M A f (pc + 1) (words back frame above x b p l r) m free 3 6 j r y (omega arith) refl (read m r j y show hr.1))
        (does (Eq 2 2 3) has.1.1.0 (does_eq C M A f (pc + 1 + 1) (words back frame above x y p l r) m free 2 2 3 x y (omega arith) refl refl)
        (⊎_elim
        (λ h. tested x y false q (pc + 1 + 1 + 1) y p l r m free (word_equal shapes lay (get_or shapes t opaque) v u x y false w hl.2 hr.2 h.0) has.1.1.1.0
        (λ g. h.1) (λ g. absurd (cc)))
        (λ h. tested x y true q (pc + 1 + 1 + 1) y p l r m free (word_equal shapes lay (get_or shapes t opaque) v u x y true w hl.2 hr.2 h.0) has.1.1.1.0
        (λ g. absurd (cc))
        (λ g. put_at (pc + 1 + 1 + 1 + 1) (there (o + 4)) 1 y p l r m free (omega arith)
        (rest us ts q (o + 4) (suc j) 1 y p l r m free (rest_stands shapes start most code by_word o j t ts has) show low rest_left rest_right h.1)))
        (and_split (equal_at shapes (get_or shapes t opaque) v u) (equal_parts shapes ts vs us) q e))))

    as_the_last : (free : List ℕ) → Way_does as_last [] free
    as_the_last free has e =
        let pc = there o in
        let to = there (offset_of shapes t) in
        does (Ld 5 5 j) has.0 (does_ld C M A f pc (words back frame above a b p l r) m free 5 5 j l x (omega arith) refl (read m l j x show hl.1))
        (does (Ld 6 6 j) has.1.0 (does_ld C M A f (pc + 1) (words back frame above a b p x r) m free 6 6 j r y (omega arith) refl (read m r j y show hr.1))
        (does (Jmp to) has.1.1.0 (does_jmp C M A f (pc + 1 + 1) (words back frame above a b p x y) m free to)
        (⊎_elim
        (λ h. subst (λ z. Compared (at to a b p x y m free) m p z) (sym h.1) (go u t false a b p x y m free show low hl.2 hr.2 h.0))
        (λ h. subst (λ z. Compared (at to a b p x y m free) m p z) (last_true shapes vs us q h.1) (go u t true a b p x y m free show low hl.2 hr.2 h.0))
        (and_split (equal_at shapes (get_or shapes t opaque) v u) (equal_parts shapes [] vs us) q e))))

    -- with the comparison of the parts after it pending
    as_an_inner : (ts free : List ℕ) → Way_does as_inner ts free
    as_an_inner ts [] has e = runs_out q (no_heap code N (at (there o) a b p l r m []) (Alloc 2 4) has.0
        (no_words C M A f (there o) (words back frame above a b p l r) m [] 2 4 (omega arith) (omega arith)))
    as_an_inner ts (w ∷ []) has e = runs_out q (no_heap code N (at (there o) a b p l r m (w ∷ [])) (Alloc 2 4) has.0
        (no_words C M A f (there o) (words back frame above a b p l r) m (w ∷ []) 2 4 (omega arith) (omega arith)))
    as_an_inner ts (w ∷ w' ∷ []) has e = runs_out q (no_heap code N (at (there o) a b p l r m (w ∷ w' ∷ [])) (Alloc 2 4) has.0
        (no_words C M A f (there o) (words back frame above a b p l r) m (w ∷ w' ∷ []) 2 4 (omega arith) (omega arith)))
    as_an_inner ts (w ∷ w' ∷ w'' ∷ []) has e = runs_out q (no_heap code N (at (there o) a b p l r m (w ∷ w' ∷ w'' ∷ [])) (Alloc 2 4) has.0
        (no_words C M A f (there o) (words back frame above a b p l r) m (w ∷ w' ∷ w'' ∷ []) 2 4 (omega arith) (omega arith)))
    as_an_inner ts (w0 ∷ w1 ∷ w2 ∷ w3 ∷ free) has e =
        let pc = there o in
        let n = length m in
        let k = o + 10 in
        let to = there (offset_of shapes t) in
        let entry = k ∷ l ∷ r ∷ p ∷ [] in
        let big = m ++ entry in
        let show' = shows_more lay m entry show in
        let low' : f.base ≤ length big = omega (arith, length-append m entry) in
        let stands_k : HasAt code (there k) (parts_code shapes start most k (suc j) ts) = rest_stands shapes start most code as_inner o j t ts has in
        let within : k ≤ most = let i = parts_begin (there k) k (suc j) ts stands_k in omega (arith, i, fits) in
        does (Alloc 2 4) has.0 (does_alloc C M A f pc (words back frame above a b p l r) m (w0 ∷ w1 ∷ w2 ∷ w3 ∷ free) 2 4 (w0 ∷ w1 ∷ w2 ∷ w3 ∷ []) free
        (omega arith) refl refl)
        (does (Li 3 k) has.1.0 (does_li C M A f (pc + 1) (words back frame above n b p l r) (m ++ w0 ∷ w1 ∷ w2 ∷ w3 ∷ []) free 3 k (omega arith))
        (does (St 2 0 3) has.1.1.0 (does_st M f (pc + 1 + 1) (words back frame above n k p l r) m (w0 ∷ w1 ∷ w2 ∷ w3 ∷ []) free 2 0 3 k low (omega arith) refl
        refl)
        (does (St 2 1 5) has.1.1.1.0 (does_st M f (pc + 1 + 1 + 1) (words back frame above n k p l r) m (k ∷ w1 ∷ w2 ∷ w3 ∷ []) free 2 1 5 l low (omega arith)
        refl refl)
        (does (St 2 2 6) has.1.1.1.1.0 (does_st M f (pc + 1 + 1 + 1 + 1) (words back frame above n k p l r) m (k ∷ l ∷ w2 ∷ w3 ∷ []) free 2 2 6 r low
        (omega arith) refl refl)
        (does (St 2 3 4) has.1.1.1.1.1.0 (does_st M f (pc + 1 + 1 + 1 + 1 + 1) (words back frame above n k p l r) m (k ∷ l ∷ r ∷ w3 ∷ []) free 2 3 4 p low
        (omega arith) refl refl)
        (does (Mov 4 2) has.1.1.1.1.1.1.0 (does_mov C M A f (pc + 1 + 1 + 1 + 1 + 1 + 1) (words back frame above n k p l r) big free 4 2 n (omega arith) refl)
        (does (Ld 5 5 j) has.1.1.1.1.1.1.1.0 (does_ld C M A f (pc + 1 + 1 + 1 + 1 + 1 + 1 + 1) (words back frame above n k n l r) big free 5 5 j l x
        (omega arith) refl (read big l j x show' hl.1))
        (does (Ld 6 6 j) has.1.1.1.1.1.1.1.1.0 (does_ld C M A f (pc + 1 + 1 + 1 + 1 + 1 + 1 + 1 + 1) (words back frame above n k n x r) big free 6 6 j r y
        (omega arith) refl (read big r j y show' hr.1))
        (does (Jmp to) has.1.1.1.1.1.1.1.1.1.0 (does_jmp C M A f (pc + 1 + 1 + 1 + 1 + 1 + 1 + 1 + 1 + 1) (words back frame above n k n x y) big free to)
        (⊎_elim
        (λ h. after q m entry p (go u t false n k n x y big free show' low' hl.2 hr.2 h.0) (λ g. h.1) (λ g. absurd (cc)))
        (λ h. after q m entry p (go u t true n k n x y big free show' low' hl.2 hr.2 h.0) (λ g. absurd (cc))
        (λ g a' b' l' r' new free'. popped a' b' l' r' new free' k stands_k within h.1))
        (and_split (equal_at shapes (get_or shapes t opaque) v u) (equal_parts shapes ts vs us) q e)))))))))))
      where
        popped : (a' b' l' r' : ℕ) (new free' : List ℕ) (k : ℕ) → HasAt code (there k) (parts_code shapes start most k (suc j) ts) → k ≤ most
            → equal_parts shapes ts vs us ≡ Some q → Compared (at start a' b' (length m) l' r' ((m ++ (k ∷ l ∷ r ∷ p ∷ [])) ++ new) free') m p q
        popped a' b' l' r' new free' k stands_k within h =
            let entry = k ∷ l ∷ r ∷ p ∷ [] in
            let big = (m ++ entry) ++ new in
            let show' = shows_more lay (m ++ entry) new (shows_more lay m entry show) in
            let low' : f.base ≤ length big = omega (arith, length-append (m ++ entry) new, length-append m entry) in
            let n = length m in
            pops k a' b' n l r l' r' p p big free' m q (omega (arith, low, behind))
            (get_left (m ++ entry) new (n + 0) k (get_right m entry 0))
            (get_left (m ++ entry) new (n + 1) l (get_right m entry 1))
            (get_left (m ++ entry) new (n + 2) r (get_right m entry 2))
            (get_left (m ++ entry) new (n + 3) p (get_right m entry 3))
            within
            (grown m entry (grown (m ++ entry) new (rest us ts q k (suc j) k b' p l r big free' stands_k show' low' rest_left rest_right h)))

    by_way : (ts free : List ℕ) (w : Bool) → is_word (get_or shapes t opaque) ≡ w → Way_does (way_of w ts) ts free
    by_way ts free true e = as_a_word ts free e
    by_way [] free false e = as_the_last free
    by_way (t' ∷ ts) free false e = as_an_inner (t' ∷ ts) free

  follows_more : (v : Value) (vs : Values) → Compares v → Follows vs → Follows (value v vs)
  follows_more v vs go rest no_values [] q o j a b p l r m free has show low hl hr e = absurd (cc)
  follows_more v vs go rest no_values (t ∷ ts) q o j a b p l r m free has show low hl hr e = absurd (cc)
  follows_more v vs go rest (value u us) [] q o j a b p l r m free has show low hl hr e = absurd (cc)
  follows_more v vs go rest (value u us) (t ∷ ts) q o j a b p l r m free has show low hl hr e =
      by_way v u vs us go rest t q o j a b p l r m show low hl hr ts free (is_word (get_or shapes t opaque)) refl has e

  mutual
    pub compares : (v : Value) → Compares v
    compares (literal c) = compare (literal c) tt
    compares (cell i vs) = compare (cell i vs) (follows vs)
    compares (reference i) = compare (reference i) tt
    compares (name i) = compare (name i) tt
    compares (packet i v) = compare (packet i v) tt

    pub follows : (vs : Values) → Follows vs
    follows no_values = follows_none
    follows (value v vs) = follows_more v vs (compares v) (follows vs)

  answers_from : {s : State} {m : List ℕ} {q : Bool} → Compared s m 0 q → Answers code f back frame s m q
  answers_from {s} {m} (same a b l r new free x) =
      let now = m ++ new in
      let at_yes : start + 6 ≡ start + 1 + 1 + 1 + 1 + 1 + 1 = omega arith in
      let yes = start + 1 + 1 + 1 + 1 + 1 + 1 in
      let y0 : Leads code (at start a b 0 l r now free) (at (start + 6) a b 0 l r now free) =
      step_to code N (Brz 4 (start + 6)) stands.0 (does_brz_zero C M A f start (words back frame above a b 0 l r) now free 4 (start + 6) refl) in
      let y1 : Leads code (at yes a b 0 l r now free) (at (yes + 1) 1 b 0 l r now free) =
      step_to code N (Li 2 1) stands.1.1.1.1.1.1.0 (does_li C M A f yes (words back frame above a b 0 l r) now free 2 1 (omega arith)) in
      let y2 : Leads code (at (yes + 1) 1 b 0 l r now free) (returned f back frame 1 (words back frame above 1 b 0 l r) now free) =
      step_to code N (Ret 2) stands.1.1.1.1.1.1.1.0 (does_ret C M A f (yes + 1) (words back frame above 1 b 0 l r) now free 2 1 back frame refl refl refl) in
      let y01 = subst (λ z. Leads code (at start a b 0 l r now free) (at z a b 0 l r now free)) at_yes y0 in
      returns (1 ∷ b ∷ 0 ∷ l ∷ r ∷ above) new free (trans code x (trans code y01 (trans code y1 y2)))
  answers_from {s} {m} (differs b p' l r new free x) =
      let now = m ++ new in
      let end = start + 1 + 1 + 1 + 1 + 1 + 1 + 1 in
      let at_end : end ≡ start + 7 = omega arith in
      let y : Leads code (at end 0 b p' l r now free) (returned f back frame 0 (words back frame above 0 b p' l r) now free) =
      step_to code N (Ret 2) stands.1.1.1.1.1.1.1.0 (does_ret C M A f end (words back frame above 0 b p' l r) now free 2 0 back frame refl refl refl) in
      returns (0 ∷ b ∷ p' ∷ l ∷ r ∷ above) new free (trans code x
      (subst (λ z. Leads code (at z 0 b p' l r now free) (returned f back frame 0 (words back frame above 0 b p' l r) now free)) at_end y))
  answers_from (runs_out q x) = exhausts x

  pub answers : (v u : Value) (t : ℕ) (q : Bool) (a b l r : ℕ) (m free : List ℕ) → Shows lay m → f.base ≤ length m → Is lay v l → Is lay u r
      → equal_at shapes (get_or shapes t opaque) v u ≡ Some q → Answers code f back frame (at (there (offset_of shapes t)) a b 0 l r m free) m q
  answers v u t q a b l r m free show low hv hu e = answers_from (compares v u t q a b 0 l r m free show low hv hu e)
