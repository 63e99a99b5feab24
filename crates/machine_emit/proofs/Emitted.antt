-- An image of these constants and this code.
use Rattle.std.proofs.Common.{◌≡◌, refl, ℕ, zero, suc, ◌+◌, ◌*◌, ◌^◌, ◌<◌, ◌≤◌, Bool, true, false, ◌||◌, nat_eq, eq-eqb, List, [], ◌∷◌, length, get_or, if◌then◌else◌, sym, ap, ◌∙◌, Result, Ok, Err, IfOk, IfErr, arith}
use Rattle.std.specs.Prelude.{Contains}
use Rattle.std.specs.List.{AllByRecursion}
use Rattle.ir_code.specs.Machine.{all_bytes}
use Rattle.ir_code.specs.Run.{run_of}
use Rattle.ir_code.specs.declared.instr.Instr.{Instr}
use Rattle.ir_code.specs.Program as machine
use Rattle.ir_ssa.specs.Tree.{Program}
use Rattle.ssa_tree.specs.Exceptions.{exceptions}
use Rattle.ssa_exceptions.specs.Texts.{TextsOfMadeAreEnough}
use Rattle.machine_code.specs.Image.{constants_of, code_of, text_of}
use Rattle.machine_rows.specs.Table.{rows}
use Rattle.image_size.specs.of_image_law.ImageOf.{ImageIsRight, IsImageOf, has, text_in}
use Rattle.image_size.specs.Size.{LongMeansLarge, parts, words}
use Rattle.machine_emit.specs.Contract.{Does, IsTooLong}

-- what is an element is found

or-true : (b : Bool) → (b || true) ≡ true
or-true true = refl
or-true false = refl

contained-at : (xs : List ℕ) (i k : ℕ) → k < length xs → get_or xs k i ≡ i → has xs i ≡ true
contained-at [] i k lt e = absurd (omega (arith, lt))
contained-at (x ∷ xs) i zero lt e = ap (λ b. b || has xs i) (eq-eqb i x (sym e))
contained-at (x ∷ xs) i (suc k) lt e = ap (λ b. nat_eq i x || b) (contained-at xs i k (omega (arith, lt)) e) ∙ or-true (nat_eq i x)

contained : (xs : List ℕ) (i : ℕ) → Contains xs i → has xs i ≡ true
contained xs i h = contained-at xs i h.0 h.1 h.2

if-same : (b : Bool) (t u : List ℕ) → t ≡ (if b then u else []) → t ≡ (if b then t else [])
if-same true t u e = refl
if-same false t u e = e

module _ (names : List (List ℕ)) (p : Program) (found : List ℕ) (texts : List (List ℕ)) (same : (i : ℕ) → has found i ≡ has (exceptions p) i)
    (told : (i : ℕ) → text_of texts i ≡ text_in names found i) (ws : List ℕ) (c : List Instr) (ew : ws ≡ constants_of rows texts p) (ec : c ≡ code_of rows texts p) where
  pub is-image : (image : machine.Program) → image.constants ≡ ws → image.code ≡ c → IsImageOf names p image
  is-image image hw hc = record {
    texts = texts;
    told = λ i. told i ∙ ap (λ b. if b then text_of names i else []) (same i);
    is = λ k. record { constants = (hw ∙ ew) k; code = (hc ∙ ec) k };
  }

  told-as : (i : ℕ) → text_of texts i ≡ text_in names (exceptions p) i
  told-as i = told i ∙ ap (λ b. if b then text_of names i else []) (same i)

  -- of an exception of the program the image has the text of its name, of all others none
  same-text : (i : ℕ) → has (exceptions p) i ≡ true → text_of texts i ≡ text_of names i
  same-text i h = told-as i ∙ ap (λ b. if b then text_of names i else []) h

  own-text : (i : ℕ) → text_of texts i ≡ text_in texts (exceptions p) i
  own-text i = if-same (has (exceptions p) i) (text_of texts i) (text_of names i) (told-as i)

  is-own : (image : machine.Program) → image.constants ≡ ws → image.code ≡ c → IsImageOf texts p image
  is-own image hw hc = record { texts = texts; told = own-text; is = λ k. record { constants = (hw ∙ ew) k; code = (hc ∙ ec) k } }

  module _ {E : Type 0} (r : Result machine.Program E) where
    pub image-is : IfOk r (λ image. image.constants ≡ ws) → IfOk r (λ image. image.code ≡ c) → IfOk r (IsImageOf names p)
    image-is = at r
      where
        at : (r : Result machine.Program E) → IfOk r (λ image. image.constants ≡ ws) → IfOk r (λ image. image.code ≡ c) → IfOk r (IsImageOf names p)
        at (Ok image) hw hc = is-image image hw hc
        at (Err e) hw hc = tt

    pub image-does : ImageIsRight → TextsOfMadeAreEnough → AllByRecursion (λ t. all_bytes t ≡ true) texts → IfOk r (λ image. image.constants ≡ ws)
        → IfOk r (λ image. image.code ≡ c) → IfOk r (λ image. words image ≤ 2 ^ 27) → IfOk r (Does names p)
    image-does right enough bytes = at r
      where
        at : (r : Result machine.Program E) → IfOk r (λ image. image.constants ≡ ws) → IfOk r (λ image. image.code ≡ c) → IfOk r (λ image. words image ≤ 2 ^ 27)
            → IfOk r (Does names p)
        at (Ok image) hw hc small = λ well never heap stack low room.
            enough p (text_of texts) (text_of names) (run_of image heap stack) (λ i h. same-text i (contained (exceptions p) i h))
            (right texts p image (is-own image hw hc) well bytes small never heap stack low room)
        at (Err e) hw hc small = tt

  long : 2 ^ 27 < length ws + 4 * length c → IsTooLong names p
  long h = let image : machine.Program = record { constants = ws; code = c } in (image, is-image image refl refl, h)

  module _ {E : Type 0} (P : E → Type 0) (r : Result machine.Program E) where
    pub too-long : IfErr r (λ e. 2 ^ 27 < length ws + 4 * length c) → IfErr r (λ e. P e → IsTooLong names p)
    too-long = at r
      where
        at : (r : Result machine.Program E) → IfErr r (λ e. 2 ^ 27 < length ws + 4 * length c) → IfErr r (λ e. P e → IsTooLong names p)
        at (Ok image) h = tt
        at (Err e) h = λ _. long h

    pub short-enough : (¬ IsTooLong names p) → IfErr r (λ e. 2 ^ 27 < length ws + 4 * length c) → IfErr r P
    short-enough fits = at r
      where
        at : (r : Result machine.Program E) → IfErr r (λ e. 2 ^ 27 < length ws + 4 * length c) → IfErr r P
        at (Ok image) h = tt
        at (Err e) h = absurd (fits (long h))

    pub too-large : LongMeansLarge → IfErr r (λ e. 2 ^ 27 < length ws + 4 * length c) → IfErr r (λ e. P e → 2 ^ 20 < parts names p)
    too-large law = at r
      where
        at : (r : Result machine.Program E) → IfErr r (λ e. 2 ^ 27 < length ws + 4 * length c) → IfErr r (λ e. P e → 2 ^ 20 < parts names p)
        at (Ok image) h = tt
        at (Err e) h = λ _. let z = long h in law names p z.0 z.1 z.2
