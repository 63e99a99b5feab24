-- What stays where the layout grows, and what the layout says of the memory.
use Rattle.std.proofs.Common.{◌≡◌, ℕ, zero, suc, ◌+◌, ◌<◌, ◌≤◌, List, [], ◌∷◌, ◌++◌, length, map, Option, Some, None, Bool, true, false, refl, sym, ap, ◌∙◌, subst, arith, append_assoc, append-nil, length-append}
use Rattle.std.specs.Prelude.{slice_get, slice_set}
use Rattle.mlc_prims.specs.LitOf.{Literal, int, word as word_literal, char, string, truth}
use Rattle.ir_ssa.specs.of_first_values.Values.{Value, literal, cell, reference, name, packet, Values, no_values, value, values_of, at}
use Rattle.machine_routines.specs.Layout.{IsLiteral, Word, stays, changes, names, is_reference, is_name, after_one, nth_step, nth_at, BytesAt, TextAt, Is, AreAt}
use Rattle.machine_routines.proofs.Seams.{get_left, get_here}
use Rattle.machine_routines.proofs.LayoutLemmas.{after_is}
use Rattle.machine_code.specs.Agrees.{Agrees, nothing, a_word, a_reference, a_name, AreAll, none, more, Begins}

pub begins_refl : (l : List Word) → Begins l l
begins_refl l = record { rest = []; is = sym (append-nil l) }

pub begins_trans : (a b c : List Word) → Begins a b → Begins b c → Begins a c
begins_trans a b c h k = record { rest = h.rest ++ k.rest; is = k.is ∙ ap (λ l. l ++ k.rest) h.is ∙ append_assoc a h.rest k.rest }

pub begins_more : (l new : List Word) → Begins l (l ++ new)
begins_more l new = record { rest = new; is = refl }

step_more : (b : Bool) (i x : ℕ) (f g : ℕ → Option ℕ) → ((i x : ℕ) → f i ≡ Some x → g i ≡ Some x) → nth_step b i f ≡ Some x → nth_step b i g ≡ Some x
step_more false i x f g h e = let a = after_is (f i) x e in ap after_one (h i a.0 a.1) ∙ ap Some (sym a.2)
step_more true zero x f g h e = e
step_more true (suc i) x f g h e = let a = after_is (f i) x e in ap after_one (h i a.0 a.1) ∙ ap Some (sym a.2)

nth_more : (is : Word → Bool) (l new : List Word) (i x : ℕ) → nth_at is l i ≡ Some x → nth_at is (l ++ new) i ≡ Some x
nth_more is [] new i x e = absurd (cc)
nth_more is (w ∷ l) new i x e = step_more (is w) i x (nth_at is l) (nth_at is (l ++ new)) (λ i x e. nth_more is l new i x e) e

bytes_more : (l new : List Word) (t : List ℕ) (x : ℕ) → BytesAt l t x → BytesAt (l ++ new) t x
bytes_more l new [] x h = tt
bytes_more l new (c ∷ t) x h = (get_left l new x (stays c) h.0, bytes_more l new t (x + 1) h.1)

text_more : (l new : List Word) (t : List ℕ) (x : ℕ) → TextAt l t x → TextAt (l ++ new) t x
text_more l new t x h = (get_left l new x _ h.0, bytes_more l new t (x + 1) h.1, h.2)

literal_more : (l new : List Word) (c : Literal) (x : ℕ) → IsLiteral l c x → IsLiteral (l ++ new) c x
literal_more l new (int z) x h = h
literal_more l new (word_literal n) x h = h
literal_more l new (char n) x h = h
literal_more l new (string t) x h = text_more l new t x h
literal_more l new (truth b) x h = absurd h

mutual
  is_more : (l new : List Word) (v : Value) (x : ℕ) → Is l v x → Is (l ++ new) v x
  is_more l new (literal c) x h = literal_more l new c x h
  is_more l new (cell t vs) x h = (get_left l new x (stays t) h.0, are_at_more l new vs (x + 1) h.1)
  is_more l new (reference i) x h = nth_more is_reference l new i x h
  is_more l new (name i) x h = nth_more is_name l new i x h
  is_more l new (packet i v) x h = (h.0, h.1, get_left l new x _ h.2, nth_more is_name l new i h.0 h.3, get_left l new (x + 1) _ h.4, is_more l new v h.1 h.5)

  are_at_more : (l new : List Word) (vs : Values) (x : ℕ) → AreAt l vs x → AreAt (l ++ new) vs x
  are_at_more l new no_values x h = tt
  are_at_more l new (value v vs) x h = (h.0, get_left l new x (stays h.0) h.1, is_more l new v h.0 h.2, are_at_more l new vs (x + 1) h.3)

pub is_kept : (l l' : List Word) (v : Value) (x : ℕ) → Begins l l' → Is l v x → Is l' v x
is_kept l l' v x k h = subst (λ m. Is m v x) (sym k.is) (is_more l k.rest v x h)

pub text_kept : (l l' : List Word) (t : List ℕ) (x : ℕ) → Begins l l' → TextAt l t x → TextAt l' t x
text_kept l l' t x k h = subst (λ m. TextAt m t x) (sym k.is) (text_more l k.rest t x h)

pub nth_kept : (is : Word → Bool) (l l' : List Word) (i x : ℕ) → Begins l l' → nth_at is l i ≡ Some x → nth_at is l' i ≡ Some x
nth_kept is l l' i x k h = subst (λ m. nth_at is m i ≡ Some x) (sym k.is) (nth_more is l k.rest i x h)

pub all_kept : (l l' : List Word) {vs : List Value} {xs : List ℕ} → Begins l l' → AreAll l vs xs → AreAll l' vs xs
all_kept l l' k none = none
all_kept l l' k (more v x i h) = more v x (is_kept l l' v x k i) (all_kept l l' k h)

pub all_length : {l : List Word} {vs : List Value} {xs : List ℕ} → AreAll l vs xs → length xs ≡ length vs
all_length none = refl
all_length (more v x i h) = ap suc (all_length h)

-- new words at the end
pub are_at_end : (l : List Word) {vs : List Value} {words : List ℕ} (pre big : List Word) (x : ℕ) → AreAll l vs words → big ≡ pre ++ map stays words → Begins l big → length pre ≡ x → AreAt big (values_of vs) x
are_at_end l pre big x none e k n = tt
are_at_end l pre big x (more v y {xs = words} i h) e k n = (
  y,
  subst (λ z. slice_get z x ≡ Some (stays y)) (sym e) (subst (λ z. slice_get (pre ++ stays y ∷ map stays words) z ≡ Some (stays y)) n (get_here pre (map stays words) (stays y))),
  is_kept l big v y k i,
  are_at_end l (pre ++ stays y ∷ []) big (x + 1) h (e ∙ sym (append_assoc pre (stays y ∷ []) (map stays words))) k (omega (arith, length-append pre (stays y ∷ []))),
)

-- a part of a cell
pub data FoundAt (l : List Word) (x : ℕ) : Option Value → Type 0 where
  no_part : FoundAt l x None
  at_part : (v : Value) (word : ℕ) → slice_get l x ≡ Some (stays word) → Is l v word → FoundAt l x (Some v)

module _ (text_of : ℕ → List ℕ) where
  pub agrees_kept : (all all' : List Word) {l : List Word} {m : List ℕ} {vs : List Value} {es : List ℕ} → Begins all all' → Agrees text_of all l m vs es → Agrees text_of all' l m vs es
  agrees_kept all all' k nothing = nothing
  agrees_kept all all' k (a_word x h) = a_word x (agrees_kept all all' k h)
  agrees_kept all all' k (a_reference v x i h) = a_reference v x (is_kept all all' v x k i) (agrees_kept all all' k h)
  agrees_kept all all' k (a_name e x t h) = a_name e x (text_kept all all' (text_of e) x k t) (agrees_kept all all' k h)

  pub agrees_append : (all : List Word) {l l' : List Word} {m m' : List ℕ} {vs us : List Value} {es ds : List ℕ} → Agrees text_of all l m vs es → Agrees text_of all l' m' us ds → Agrees text_of all (l ++ l') (m ++ m') (vs ++ us) (es ++ ds)
  agrees_append all nothing k = k
  agrees_append all (a_word x h) k = a_word x (agrees_append all h k)
  agrees_append all (a_reference v x i h) k = a_reference v x i (agrees_append all h k)
  agrees_append all (a_name e x t h) k = a_name e x t (agrees_append all h k)

  pub words_agree : (all : List Word) (ws : List ℕ) → Agrees text_of all (map stays ws) ws [] []
  words_agree all [] = nothing
  words_agree all (x ∷ ws) = a_word x (words_agree all ws)

  -- more words, which stay
  pub grown_by : (lay : List Word) (mem new : List ℕ) (vs : List Value) (es : List ℕ) → Agrees text_of lay lay mem vs es → Agrees text_of (lay ++ map stays new) (lay ++ map stays new) (mem ++ new) vs es
  grown_by lay mem new vs es h =
      let all = lay ++ map stays new in
      subst (λ z. Agrees text_of all all (mem ++ new) z es) (append-nil vs) (subst (λ z. Agrees text_of all all (mem ++ new) (vs ++ []) z) (append-nil es)
      (agrees_append all (agrees_kept lay all (begins_more lay (map stays new)) h) (words_agree all new)))

  pub agrees_length : {all l : List Word} {m : List ℕ} {vs : List Value} {es : List ℕ} → Agrees text_of all l m vs es → length m ≡ length l
  agrees_length nothing = refl
  agrees_length (a_word x h) = ap suc (agrees_length h)
  agrees_length (a_reference v x i h) = ap suc (agrees_length h)
  agrees_length (a_name e x t h) = ap suc (agrees_length h)

  -- a word that stays
  pub shown : {all l : List Word} {m : List ℕ} {vs : List Value} {es : List ℕ} → Agrees text_of all l m vs es → (x y : ℕ) → slice_get l x ≡ Some (stays y) → slice_get m x ≡ Some y
  shown nothing x y e = absurd (cc)
  shown (a_word z h) zero y e = let g : z ≡ y = cc in ap Some g
  shown (a_word z h) (suc x) y e = shown h x y e
  shown (a_reference v z i h) zero y e = absurd (cc)
  shown (a_reference v z i h) (suc x) y e = shown h x y e
  shown (a_name d z t h) zero y e = absurd (cc)
  shown (a_name d z t h) (suc x) y e = shown h x y e

  -- the word of a reference
  pub reference_word : {all l : List Word} {m : List ℕ} {vs : List Value} {es : List ℕ} → Agrees text_of all l m vs es → (i x : ℕ) (v : Value) → nth_at is_reference l i ≡ Some x → slice_get vs i ≡ Some v → (word : ℕ) × (slice_get m x ≡ Some word) × Is all v word
  reference_word nothing i x v e g = absurd (cc)
  reference_word {all} (a_word z {m = m} {vs = vs} h) i x v e g =
      let a = after_is _ x e in let r = reference_word h i a.0 v a.1 g in
      (r.0, subst (λ n. slice_get (z ∷ m) n ≡ Some r.0) (sym a.2) r.1, r.2)
  reference_word {all} (a_reference u z {m = m} is h) zero x v e g =
      let n : 0 ≡ x = cc in let same : u ≡ v = cc in
      (z, subst (λ n. slice_get (z ∷ m) n ≡ Some z) n refl, subst (λ w. Is all w z) same is)
  reference_word {all} (a_reference u z {m = m} is h) (suc i) x v e g =
      let a = after_is _ x e in let r = reference_word h i a.0 v a.1 g in
      (r.0, subst (λ n. slice_get (z ∷ m) n ≡ Some r.0) (sym a.2) r.1, r.2)
  reference_word {all} (a_name d z {m = m} t h) i x v e g =
      let a = after_is _ x e in let r = reference_word h i a.0 v a.1 g in
      (r.0, subst (λ n. slice_get (z ∷ m) n ≡ Some r.0) (sym a.2) r.1, r.2)

  -- it holds another value
  pub reference_set : {all l : List Word} {m : List ℕ} {vs : List Value} {es : List ℕ} → Agrees text_of all l m vs es → (i x word : ℕ) (v : Value) → nth_at is_reference l i ≡ Some x → Is all v word → Agrees text_of all l (slice_set m x word) (slice_set vs i v) es
  reference_set nothing i x word v e g = absurd (cc)
  reference_set {all} (a_word z {l = l} {m = m} {vs = vs} {es = es} h) i x word v e g =
      let a = after_is _ x e in
      subst (λ n. Agrees text_of all (stays z ∷ l) (slice_set (z ∷ m) n word) (slice_set vs i v) es) (sym a.2) (a_word z (reference_set h i a.0 word v a.1 g))
  reference_set {all} (a_reference u z {l = l} {m = m} {vs = vs} {es = es} is h) zero x word v e g =
      let n : 0 ≡ x = cc in
      subst (λ n. Agrees text_of all (changes ∷ l) (slice_set (z ∷ m) n word) (v ∷ vs) es) n (a_reference v word g h)
  reference_set {all} (a_reference u z {l = l} {m = m} {vs = vs} {es = es} is h) (suc i) x word v e g =
      let a = after_is _ x e in
      subst (λ n. Agrees text_of all (changes ∷ l) (slice_set (z ∷ m) n word) (u ∷ slice_set vs i v) es) (sym a.2) (a_reference u z is (reference_set h i a.0 word v a.1 g))
  reference_set {all} (a_name d z {l = l} {m = m} {vs = vs} {es = es} t h) i x word v e g =
      let a = after_is _ x e in
      subst (λ n. Agrees text_of all (names z ∷ l) (slice_set (z ∷ m) n word) (slice_set vs i v) (d ∷ es)) (sym a.2) (a_name d z t (reference_set h i a.0 word v a.1 g))

  -- the next reference, and the next name
  pub reference_new : {all l : List Word} {m : List ℕ} {vs : List Value} {es : List ℕ} → Agrees text_of all l m vs es → nth_at is_reference (l ++ changes ∷ []) (length vs) ≡ Some (length l)
  reference_new nothing = refl
  reference_new (a_word z h) = ap after_one (reference_new h)
  reference_new (a_reference u z is h) = ap after_one (reference_new h)
  reference_new (a_name d z t h) = ap after_one (reference_new h)

  pub name_new : {all l : List Word} {m : List ℕ} {vs : List Value} {es : List ℕ} (a : ℕ) → Agrees text_of all l m vs es → nth_at is_name (l ++ names a ∷ []) (length es) ≡ Some (length l)
  name_new a nothing = refl
  name_new a (a_word z h) = ap after_one (name_new a h)
  name_new a (a_reference u z is h) = ap after_one (name_new a h)
  name_new a (a_name d z t h) = ap after_one (name_new a h)

  -- the text of a name
  pub name_word : {all l : List Word} {m : List ℕ} {vs : List Value} {es : List ℕ} → Agrees text_of all l m vs es → (i x e : ℕ) → nth_at is_name l i ≡ Some x → slice_get es i ≡ Some e → (a : ℕ) × (slice_get m x ≡ Some a) × TextAt all (text_of e) a
  name_word nothing i x e g k = absurd (cc)
  name_word (a_word z {m = m} h) i x e g k =
      let a = after_is _ x g in let r = name_word h i a.0 e a.1 k in
      (r.0, subst (λ n. slice_get (z ∷ m) n ≡ Some r.0) (sym a.2) r.1, r.2)
  name_word (a_reference u z {m = m} is h) i x e g k =
      let a = after_is _ x g in let r = name_word h i a.0 e a.1 k in
      (r.0, subst (λ n. slice_get (z ∷ m) n ≡ Some r.0) (sym a.2) r.1, r.2)
  name_word {all} (a_name d z {m = m} t h) zero x e g k =
      let n : 0 ≡ x = cc in let same : d ≡ e = cc in
      (z, subst (λ n. slice_get (z ∷ m) n ≡ Some z) n refl, subst (λ w. TextAt all (text_of w) z) same t)
  name_word (a_name d z {m = m} t h) (suc i) x e g k =
      let a = after_is _ x g in let r = name_word h i a.0 e a.1 k in
      (r.0, subst (λ n. slice_get (z ∷ m) n ≡ Some r.0) (sym a.2) r.1, r.2)

-- a word of a kind lies in the layout
step_within : (b : Bool) (i x n : ℕ) (f : ℕ → Option ℕ) → ((i x : ℕ) → f i ≡ Some x → x < n) → nth_step b i f ≡ Some x → x < suc n
step_within false i x n f h e = let a = after_is (f i) x e in let r = h i a.0 a.1 in omega (arith, a.2, r)
step_within true zero x n f h e = let m : 0 ≡ x = cc in omega arith
step_within true (suc i) x n f h e = let a = after_is (f i) x e in let r = h i a.0 a.1 in omega (arith, a.2, r)

pub nth_within : (is : Word → Bool) (l : List Word) (i x : ℕ) → nth_at is l i ≡ Some x → x < length l
nth_within is [] i x e = absurd (cc)
nth_within is (w ∷ l) i x e = step_within (is w) i x (length l) (nth_at is l) (λ i x e. nth_within is l i x e) e

-- a layout without references
abbrev pub NoReferences : List Word → Type 0
NoReferences [] = Unit {0}
NoReferences (w ∷ l) = (is_reference w ≡ false) × NoReferences l

pub reference_low : (first l : List Word) (i x : ℕ) → NoReferences first → nth_at is_reference (first ++ l) i ≡ Some x → length first ≤ x
reference_low [] l i x h e = omega arith
reference_low (w ∷ first) l i x h e =
    let a = after_is _ x (subst (λ b. nth_step b i (nth_at is_reference (first ++ l)) ≡ Some x) h.0 e) in
    let r = reference_low first l i a.0 h.1 a.1 in omega (arith, a.2, r)

pub look_at : (l : List Word) (vs : Values) (x i : ℕ) → AreAt l vs x → FoundAt l (x + i) (at i vs)
look_at l no_values x i h = no_part
look_at l (value v vs) x zero h = let e : x ≡ x + 0 = omega arith in subst (λ y. FoundAt l y (Some v)) e (at_part v h.0 h.1 h.2)
look_at l (value v vs) x (suc i) h = let e : x + 1 + i ≡ x + suc i = omega arith in subst (λ y. FoundAt l y (at i vs)) e (look_at l vs (x + 1) i h.3)
