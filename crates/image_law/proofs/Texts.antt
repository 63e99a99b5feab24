-- Texts that are those of names where they are told.
use Rattle.std.proofs.Common.{◌≡◌, refl, ℕ, zero, suc, ◌+◌, ◌^◌, ◌<◌, ◌≤◌, List, [], ◌∷◌, length, Bool, true, false, ◌||◌, nat_eq, if◌then◌else◌, sym, ap, ◌∙◌, subst, arith, eq-eqb, get_or}
use Rattle.std.specs.Prelude.{Contains}
use Rattle.std.specs.List.{AllByRecursion}
use Rattle.ir_code.specs.Machine.{all_bytes}
use Rattle.ir_code.specs.Run.{run_of}
use Rattle.ir_ssa.specs.Meaning.{meaning}
use Rattle.same_runs.specs.SameRuns.{SameRuns}
use Rattle.ssa_tree.specs.Exceptions.{exceptions}
use Rattle.ssa_exceptions.specs.Texts.{TextsOfMadeAreEnough}
use Rattle.machine_code.specs.Image.{text_of, most_code, image_of}
use Rattle.machine_rows.specs.Table.{rows}
use Rattle.machine_rows.specs.Law.{ImagesAreRight}
use Rattle.image_law.specs.ImageOf.{has, ImageIsRight}

abbrev IsBytes : List ℕ → Type 0
IsBytes t = all_bytes t ≡ true

or-true : (b : Bool) → (b || true) ≡ true
or-true true = refl
or-true false = refl

contained-at : (xs : List ℕ) (i k : ℕ) → k < length xs → get_or xs k i ≡ i → has xs i ≡ true
contained-at [] i k lt e = absurd (omega (arith, lt))
contained-at (x ∷ xs) i zero lt e = ap (λ b. b || has xs i) (eq-eqb i x (sym e))
contained-at (x ∷ xs) i (suc k) lt e = ap (λ b. nat_eq i x || b) (contained-at xs i k (omega (arith, lt)) e) ∙ or-true (nat_eq i x)

contained : (xs : List ℕ) (i : ℕ) → Contains xs i → has xs i ≡ true
contained xs i h = contained-at xs i h.0 h.1 h.2

-- one of them, or the empty text
bytes-at : (ts : List (List ℕ)) (i : ℕ) → AllByRecursion IsBytes ts → IsBytes (text_of ts i)
bytes-at [] i h = refl
bytes-at (t ∷ ts) zero h = h.0
bytes-at (t ∷ ts) (suc i) h = bytes-at ts i h.1

if-bytes : (b : Bool) (t : List ℕ) → IsBytes t → IsBytes (if b then t else [])
if-bytes true t h = h
if-bytes false t h = refl

all-bytes : (ts : List (List ℕ)) → ((i : ℕ) → IsBytes (text_of ts i)) → AllByRecursion IsBytes ts
all-bytes [] h = tt
all-bytes (t ∷ ts) h = (h 0, all-bytes ts (λ i. h (suc i)))

pub image-is-right : ImagesAreRight → TextsOfMadeAreEnough → ImageIsRight
image-is-right right enough names p image of well bytes short never heap stack low room =
    let told : (i : ℕ) → Contains (exceptions p) i → text_of of.texts i ≡ text_of names i =
    λ i c. of.told i ∙ ap (λ b. if b then text_of names i else []) (contained (exceptions p) i c) in
    let fit-bytes : AllByRecursion IsBytes of.texts =
    all-bytes of.texts (λ i. subst IsBytes (sym (of.told i)) (if-bytes (has (exceptions p) i) (text_of names i) (bytes-at names i bytes))) in
    let long : length image.code ≤ 2 ^ 27 = omega (arith, short) in
    subst (λ z. SameRuns (text_of names) (meaning p) (run_of z heap stack)) (sym of.is)
    (enough p (text_of of.texts) (text_of names) (run_of (image_of rows of.texts p) heap stack) told
    (right of.texts p well (record { bytes = fit-bytes; fits = subst (λ z. length z.code ≤ most_code) of.is long }) never heap stack low
    (subst (λ z. length z.constants + heap < 2 ^ 31) of.is room)))
