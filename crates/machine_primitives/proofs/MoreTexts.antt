-- Bytes of texts in a layout of the memory, and new texts at its end.
use Rattle.std.proofs.Common.{◌≡◌, ℕ, zero, suc, ◌+◌, ◌%◌, ◌<◌, ◌≤◌, ◌^◌, List, [], ◌∷◌, ◌++◌, length, map, take, drop, Some, Bool, true, false, ◌&&◌, refl, sym, ap, ◌∙◌, subst, arith, append_assoc, length-append}
use Rattle.std.specs.Prelude.{ℤ, pos, negsuc, slice_get, slice_index_or, nat_lt, unsigned_abs}
use Rattle.std.specs.Fmt.{decimal}
use Rattle.std.proofs.lemmas.Bool.{lt-ltb, ltb-true, and_from}
use Rattle.std.proofs.lemmas.List.Folds.{list_all-append}
use Rattle.std.proofs.lemmas.Fmt.{decimal_by_steps}
use Rattle.word_arithmetic.specs.Arithmetic.{signed_text}
use Rattle.ir_code.specs.Machine.{State, all_bytes}
use Rattle.mlc_prims.specs.LitOf.{string}
use Rattle.first_values.specs.Values.{literal}
use Rattle.machine_code.specs.of_machine_routines.Layout.{Word, stays, BytesAt, TextAt, Shows}
use Rattle.machine_code.specs.of_machine_routines.Runs.{Frame, inside, Leads}
use Rattle.machine_code.proofs.of_machine_routines.Seams.{get_here, get_within}
use Rattle.machine_code.proofs.of_machine_routines.LayoutLemmas.{BytesIn, bytes_in, bytes_end}
use Rattle.machine_code.specs.Rows.{Comes, comes}
use Rattle.ir_code.specs.declared.instr.Instr.{Instr}

-- Bytes.

pub all_two : (p q : Bool) → (p && q) ≡ true → (p ≡ true) × (q ≡ true)
all_two true q e = (refl, e)
all_two false q e = absurd (cc)

pub bytes_taken : (n : ℕ) (s : List ℕ) → all_bytes s ≡ true → all_bytes (take n s) ≡ true
bytes_taken zero s e = refl
bytes_taken (suc n) [] e = refl
bytes_taken (suc n) (c ∷ s) e = let h = all_two (nat_lt c 256) (all_bytes s) e in and_from (nat_lt c 256) (all_bytes (take n s)) h.0 (bytes_taken n s h.1)

pub bytes_dropped : (i : ℕ) (s : List ℕ) → all_bytes s ≡ true → all_bytes (drop i s) ≡ true
bytes_dropped zero s e = e
bytes_dropped (suc i) [] e = refl
bytes_dropped (suc i) (c ∷ s) e = bytes_dropped i s (let h = all_two (nat_lt c 256) (all_bytes s) e in h.1)

pub bytes_joined : (s t : List ℕ) → all_bytes s ≡ true → all_bytes t ≡ true → all_bytes (s ++ t) ≡ true
bytes_joined s t e h = list_all-append (λ w. nat_lt w 256) s t ∙ and_from (all_bytes s) (all_bytes t) e h

decimal_bytes : (n : ℕ) → n < 2 ^ 64 → all_bytes (decimal n) ≡ true
decimal_bytes = decimal_by_steps (λ n ds. all_bytes ds ≡ true)
    (λ n lt. and_from (nat_lt (48 + n) 256) true (lt-ltb (48 + n) 256 (omega arith)) refl)
    (λ n ds le h. bytes_joined ds ((48 + n % 10) ∷ []) h (and_from (nat_lt (48 + n % 10) 256) true (lt-ltb (48 + n % 10) 256 (omega arith)) refl))

pub text_bytes : (z : ℤ) → unsigned_abs z < 2 ^ 64 → all_bytes (signed_text z) ≡ true
text_bytes (pos n) lt = decimal_bytes n lt
text_bytes (negsuc n) lt = and_from true (all_bytes (decimal (suc n))) refl (decimal_bytes (suc n) lt)

-- the byte at a place
pub byte_there : (l : List Word) (s : List ℕ) (x n : ℕ) → BytesAt l s x → n < length s → slice_get l (x + n) ≡ Some (stays (slice_index_or s n 0))
byte_there l [] x n b lt = absurd (omega arith)
byte_there l (c ∷ s) x zero b lt = let e : x ≡ x + 0 = omega arith in subst (λ k. slice_get l k ≡ Some (stays c)) e b.0
byte_there l (c ∷ s) x (suc n) b lt = let e : x + 1 + n ≡ x + suc n = omega arith in subst (λ k. slice_get l k ≡ Some (stays (slice_index_or s n 0))) e (byte_there l s (x + 1) n b.1 (omega arith))

pub byte_below : (s : List ℕ) (n : ℕ) → all_bytes s ≡ true → n < length s → slice_index_or s n 0 < 256
byte_below [] n e lt = absurd (omega arith)
byte_below (c ∷ s) zero e lt = let h = all_two (nat_lt c 256) (all_bytes s) e in ltb-true c 256 h.0
byte_below (c ∷ s) (suc n) e lt = let h = all_two (nat_lt c 256) (all_bytes s) e in byte_below s n h.1 (omega arith)

-- a part of the bytes
pub bytes_part : (m s : List ℕ) (x i n : ℕ) → BytesIn m s x → BytesIn m (take n (drop i s)) (x + i)
bytes_part m [] x i zero b = tt
bytes_part m [] x zero (suc n) b = tt
bytes_part m [] x (suc i) (suc n) b = tt
bytes_part m (c ∷ s) x i zero b = tt
bytes_part m (c ∷ s) x zero (suc n) b =
    let e : x ≡ x + 0 = omega arith in
    let k : x + 1 + 0 ≡ x + 0 + 1 = omega arith in
    (subst (λ z. slice_get m z ≡ Some c) e b.0, subst (λ z. BytesIn m (take n s) z) k (bytes_part m s (x + 1) 0 n b.1))
bytes_part m (c ∷ s) x (suc i) (suc n) b = let e : x + 1 + i ≡ x + suc i = omega arith in subst (λ z. BytesIn m (take (suc n) (drop i s)) z) e (bytes_part m s (x + 1) i (suc n) b.1)

pub part_length : (s : List ℕ) (i n : ℕ) → i + n ≤ length s → length (take n (drop i s)) ≡ n
part_length s i zero le = refl
part_length [] zero (suc n) le = absurd (omega arith)
part_length [] (suc i) (suc n) le = absurd (omega arith)
part_length (c ∷ s) zero (suc n) le = ap suc (part_length s 0 n (omega arith))
part_length (c ∷ s) (suc i) (suc n) le = part_length s i (suc n) (omega arith)

-- A text as the machine has it: its length, which is small, and its bytes.
pub text_in : (f : Frame) (lay : List Word) (mem free : List ℕ) (s : List ℕ) (x : ℕ) → Shows lay mem → length (mem ++ free) < 2 ^ 31 → TextAt lay s x
    → (slice_get mem (x + 0) ≡ Some (length s)) × BytesIn mem s (x + 1) × (x + 1 + length s ≤ length mem) × (length mem < 2 ^ 31)
text_in f lay mem free s x show small t =
    let first : slice_get mem x ≡ Some (length s) = show x (length s) t.0 in
    let within = get_within mem x (length s) first in
    let bytes = bytes_in lay mem s (x + 1) show t.1 in
    let end = bytes_end mem s (x + 1) (omega arith) bytes in
    let n : x ≡ x + 0 = omega arith in
    (subst (λ z. slice_get mem z ≡ Some (length s)) n first, bytes, end, omega (arith, small, length-append mem free))

-- A new text at the end.

bytes_at_end : (pre : List Word) (t : List ℕ) → BytesAt (pre ++ map stays t) t (length pre)
bytes_at_end pre [] = tt
bytes_at_end pre (c ∷ t) = (
  get_here pre (map stays t) (stays c),
  (let n : length (pre ++ stays c ∷ []) ≡ length pre + 1 = omega (arith, length-append pre (stays c ∷ [])) in
      subst (λ k. BytesAt (pre ++ stays c ∷ map stays t) t k) n (subst (λ l. BytesAt l t (length (pre ++ stays c ∷ []))) (append_assoc pre (stays c ∷ []) (map stays t)) (bytes_at_end (pre ++ stays c ∷ []) t))),
)

text_at_end : (lay : List Word) (t : List ℕ) (x : ℕ) → length lay ≡ x → all_bytes t ≡ true → TextAt (lay ++ map stays (length t ∷ t)) t x
text_at_end lay t x e h = subst (λ k. TextAt (lay ++ map stays (length t ∷ t)) t k) e (
  get_here lay (map stays t) (stays (length t)),
  (let n : length (lay ++ stays (length t) ∷ []) ≡ length lay + 1 = omega (arith, length-append lay (stays (length t) ∷ [])) in
      subst (λ k. BytesAt (lay ++ stays (length t) ∷ map stays t) t k) n
      (subst (λ l. BytesAt l t (length (lay ++ stays (length t) ∷ []))) (append_assoc lay (stays (length t) ∷ []) (map stays t)) (bytes_at_end (lay ++ stays (length t) ∷ []) t))),
  h,
)

-- it comes to a place with a new text
pub new_text : (code : List Instr) (f : Frame) (lay : List Word) (front mem : List ℕ) (t rest free' : List ℕ) (place : ℕ) (s : State) → length lay ≡ length mem → all_bytes t ≡ true
    → (l : Leads code s (inside f place (front ++ length mem ∷ rest) (mem ++ (length t ∷ t)) free')) → 0 < l.steps → Comes code f lay front mem (literal (string t)) place s
new_text code f lay front mem t rest free' place s whole bytes l some =
    let e : inside f place (front ++ length mem ∷ rest) (mem ++ (length t ∷ t)) free' ≡ inside f place ((front ++ length mem ∷ []) ++ rest) (mem ++ (length t ∷ t)) free' =
    ap (λ z. inside f place z (mem ++ (length t ∷ t)) free') (sym (append_assoc front (length mem ∷ []) rest)) in
    let p : (a : Leads code s (inside f place ((front ++ length mem ∷ []) ++ rest) (mem ++ (length t ∷ t)) free')) × (0 < a.steps) =
    subst (λ t. (a : Leads code s t) × (0 < a.steps)) e (l, some) in
    comes (length mem) f.acc rest (length t ∷ t) free' (text_at_end lay t (length mem) whole bytes) p.0 p.1
