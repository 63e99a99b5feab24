-- What a layout says of the memory.
use Rattle.std.proofs.Common.{◌≡◌, ℕ, zero, suc, ◌+◌, ◌<◌, ◌≤◌, List, [], ◌∷◌, ◌++◌, length, Option, Some, None, Bool, true, false, ◌&&◌, refl, sym, ap, ◌∙◌, arith, take, drop, is_eq}
use Rattle.std.specs.Prelude.{slice_get, slice_index, nat_lt, nat_le, ◌==◌}
use Rattle.std.specs.Ordering.{nat_cmp}
use Rattle.std.specs.Cmp.Lexicographic.{slice_cmp}
use Rattle.std.specs.declared.cmp.Ordering.{Ordering}
use Rattle.std.specs.declared.cmp.Ordering.TheVariants.{Less, Equal, Greater}
use Rattle.std.specs.Str.{bytes_eq}
use Rattle.std.proofs.lemmas.Map.Text.{is_eq-slice_cmp}
use Rattle.std.proofs.lemmas.Bool.{lt-ltb, le-leb}
use Rattle.ir_code.specs.Machine.{string_at, has_string}
use Rattle.ir_code.specs.Words.{order_code}
use Rattle.machine_routines.specs.Layout.{Word, after_one, nth_step, nth_at, BytesAt, TextAt, Shows}
use Rattle.machine_routines.proofs.Seams.{get_left, get_within, index_of}

pub after_is : (o : Option ℕ) (x : ℕ) → after_one o ≡ Some x → (y : ℕ) × (o ≡ Some y) × (x ≡ suc y)
after_is None x e = absurd (cc)
after_is (Some y) x e = (y, refl, let f : suc y ≡ x = cc in sym f)

-- no two references, and no two names, have one address
apart_step : (b : Bool) (i j x : ℕ) (f : ℕ → Option ℕ) → ((i j x : ℕ) → f i ≡ Some x → f j ≡ Some x → i ≡ j) → nth_step b i f ≡ Some x
    → nth_step b j f ≡ Some x → i ≡ j
apart_step false i j x f h e g =
    let a = after_is (f i) x e in let b = after_is (f j) x g in
    let same : b.0 ≡ a.0 = omega (arith, a.2, b.2) in
    h i j a.0 a.1 (b.1 ∙ ap Some same)
apart_step true zero zero x f h e g = refl
apart_step true zero (suc j) x f h e g = let b = after_is (f j) x g in let n : 0 ≡ x = cc in absurd (omega (arith, b.2))
apart_step true (suc i) zero x f h e g = let b = after_is (f i) x e in let n : 0 ≡ x = cc in absurd (omega (arith, b.2))
apart_step true (suc i) (suc j) x f h e g =
    let a = after_is (f i) x e in let b = after_is (f j) x g in
    let same : b.0 ≡ a.0 = omega (arith, a.2, b.2) in
    ap suc (h i j a.0 a.1 (b.1 ∙ ap Some same))

pub nth_apart : (is : Word → Bool) (l : List Word) (i j x : ℕ) → nth_at is l i ≡ Some x → nth_at is l j ≡ Some x → i ≡ j
nth_apart is [] i j x e g = absurd (cc)
nth_apart is (w ∷ l) i j x e g = apart_step (is w) i j x (nth_at is l) (λ i j x e g. nth_apart is l i j x e g) e g

-- the memory in use grows
pub shows_more : (l : List Word) (m new : List ℕ) → Shows l m → Shows l (m ++ new)
shows_more l m new h = λ x y e. get_left m new x y (h x y e)

-- the bytes of a text in the memory
abbrev pub BytesIn : List ℕ → List ℕ → ℕ → Type 0
BytesIn m [] x = Unit {0}
BytesIn m (c ∷ t) x = (slice_get m x ≡ Some c) × BytesIn m t (x + 1)

pub bytes_in : (l : List Word) (m t : List ℕ) (x : ℕ) → Shows l m → BytesAt l t x → BytesIn m t x
bytes_in l m [] x h b = tt
bytes_in l m (c ∷ t) x h b = (h x c b.0, bytes_in l m t (x + 1) h b.1)

pub bytes_more : (m new t : List ℕ) (x : ℕ) → BytesIn m t x → BytesIn (m ++ new) t x
bytes_more m new [] x b = tt
bytes_more m new (c ∷ t) x b = (get_left m new x c b.0, bytes_more m new t (x + 1) b.1)

drop_get : (m : List ℕ) (x c : ℕ) → slice_get m x ≡ Some c → drop x m ≡ c ∷ drop (x + 1) m
drop_get [] x c e = absurd (cc)
drop_get (y ∷ m) zero c e = let f : y ≡ c = cc in ap (λ z. z ∷ m) f
drop_get (y ∷ m) (suc x) c e = let n : suc x + 1 ≡ suc (x + 1) = omega arith in drop_get m x c e ∙ ap (λ z. c ∷ drop z (y ∷ m)) (sym n)

pub take_bytes : (m t : List ℕ) (x : ℕ) → BytesIn m t x → take (length t) (drop x m) ≡ t
take_bytes m [] x b = refl
take_bytes m (c ∷ t) x b = ap (λ z. take (suc (length t)) z) (drop_get m x c b.0) ∙ ap (λ z. c ∷ z) (take_bytes m t (x + 1) b.1)

pub bytes_end : (m t : List ℕ) (x : ℕ) → x ≤ length m → BytesIn m t x → x + length t ≤ length m
bytes_end m [] x h b = omega arith
bytes_end m (c ∷ t) x h b =
    let n : x < length m = get_within m x c b.0 in
    let r = bytes_end m t (x + 1) (omega arith) b.1 in
    omega (arith, r)

-- a text, as the machine reads it
pub text_string : (l : List Word) (m free t : List ℕ) (x : ℕ) → Shows l m → TextAt l t x
    → (string_at (m ++ free) x ≡ t) × (has_string (m ++ free) (length m) x ≡ true)
text_string l m free t x h k =
    let first : slice_get m x ≡ Some (length t) = h x (length t) k.0 in
    let count : slice_index (m ++ free) x ≡ length t = index_of (m ++ free) x (length t) (get_left m free x (length t) first) in
    let bytes : BytesIn m t (x + 1) = bytes_in l m t (x + 1) h k.1 in
    let n : x < length m = get_within m x (length t) first in
    let last = bytes_end m t (x + 1) (omega arith) bytes in
    let in_first : nat_lt x (length m) ≡ true = lt-ltb _ _ n in
    let in_last : nat_le (x + 1 + length t) (length m) ≡ true = le-leb _ _ last in (
      ap (λ z. take z (drop (x + 1) (m ++ free))) count ∙ take_bytes (m ++ free) t (x + 1) (bytes_more m free t (x + 1) bytes),
      ap (λ b. b && nat_le (x + 1 + slice_index (m ++ free) x) (length m)) in_first ∙ ap (λ z. nat_le (x + 1 + z) (length m)) count ∙ in_last,
    )

-- texts are equal where the machine says so
code_one : (o : Ordering) → (order_code o == 1) ≡ is_eq o
code_one Less = refl
code_one Equal = refl
code_one Greater = refl

pub texts_compare : (s t : List ℕ) → (order_code (slice_cmp nat_cmp s t) == 1) ≡ bytes_eq s t
texts_compare s t = code_one (slice_cmp nat_cmp s t) ∙ is_eq-slice_cmp s t
