-- A program has one image, whatever list has its texts.
use Rattle.std.proofs.Common.{◌≡◌, refl, ℕ, zero, suc, ◌+◌, ◌*◌, ◌^◌, ◌≤◌, List, [], ◌∷◌, ◌++◌, length, map, sym, ap, ◌∙◌, arith, Result, Ok, Err, IfOk}
use Rattle.std.proofs.Math.Path.{fun_ext}
use Rattle.ir_code.specs.declared.instr.Instr.TheVariants.{Call as CallRow, End}
use Rattle.ir_code.specs.Program as machine
use Rattle.ir_values.specs.Primitives.{raised_name}
use Rattle.ir_ssa.specs.Tree.{Program}
use Rattle.machine_routines.specs.EqualCode.{equal_code, offset_of, place}
use Rattle.machine_code.specs.Code.{Places}
use Rattle.machine_code.specs.Image.{text_word, text_words, place_of, text_place, text_of, packet_words, most_code, funs_code, sets_code, set_place, fun_at, funs_at, sets_at, image_of}
use Rattle.machine_rows.specs.Table.{rows}
use Rattle.image_size.specs.of_image_law.ImageOf.{IsImageOf}
use Rattle.image_size.specs.Size.{words}
use Rattle.machine_emit.specs.Contract.{IsTooLong}

abbrev Same : (ts us : List (List ℕ)) → Type 0
Same ts us = (i : ℕ) → text_of ts i ≡ text_of us i

words-same : (ts us : List (List ℕ)) → Same ts us → text_words ts ≡ text_words us
words-same [] [] h = refl
words-same [] (u ∷ us) h = words-same [] us (λ i. h (suc i)) ∙ ap (λ z. text_word z ++ text_words us) (h 0)
words-same (t ∷ ts) [] h = ap (λ z. text_word z ++ text_words ts) (h 0) ∙ words-same ts [] (λ i. h (suc i))
words-same (t ∷ ts) (u ∷ us) h = ap (λ z. text_word z ++ text_words ts) (h 0) ∙ ap (λ z. text_word u ++ z) (words-same ts us (λ i. h (suc i)))

places-same : (ts us : List (List ℕ)) (i x : ℕ) → Same ts us → text_place x ts i ≡ text_place x us i
places-same [] [] i x h = refl
places-same [] (u ∷ us) zero x h = ap (place_of x) (h 0)
places-same [] (u ∷ us) (suc i) x h = places-same [] us i (x + length (text_word u)) (λ j. h (suc j))
places-same (t ∷ ts) [] zero x h = ap (place_of x) (h 0)
places-same (t ∷ ts) [] (suc i) x h = places-same ts [] i (x + length (text_word t)) (λ j. h (suc j))
places-same (t ∷ ts) (u ∷ us) zero x h = ap (place_of x) (h 0)
places-same (t ∷ ts) (u ∷ us) (suc i) x h =
    places-same ts us i (x + length (text_word t)) (λ j. h (suc j)) ∙ ap (λ z. text_place (x + length (text_word z)) us i) (h 0)

module _ (p : Program) where
  abbrev names_from : ℕ
  names_from = 2 + length (text_words p.tables.strings)

  -- the image with these words of texts, which stand there
  abbrev image-by : List ℕ → (ℕ → ℕ) → machine.Program
  image-by ws at =
      let initial = names_from + length ws in
      let places : Places = record {
        rows = rows;
        types = p.tables.types;
        text_at = text_place 2 p.tables.strings;
        name_at = at;
        initial_at = λ n. initial + n;
        packet_at = λ e. initial + length p.tables.initial + 2 * raised_name e;
        fun_at = fun_at rows [] p;
        set_at = set_place p.funs (fun_at rows [] p) (sets_at rows [] p) p.tables.sets;
        type_at = λ t. place p.tables.types 2 most_code (offset_of p.tables.types t);
      } in
      record {
        constants = (0 ∷ 1 ∷ (text_words p.tables.strings ++ ws)) ++ (map at p.tables.initial ++ packet_words initial (length p.tables.initial));
        code = CallRow (fun_at rows [] p 0) 0 ∷ End
            ∷ (equal_code p.tables.types 2 most_code
            ++ (funs_code places (funs_at rows [] p) p.funs ++ sets_code p.funs (fun_at rows [] p) (sets_at rows [] p) p.tables.sets));
      }

  by-words : (ts : List (List ℕ)) → image_of rows ts p ≡ image-by (text_words ts) (text_place names_from ts)
  by-words ts = refl

  image-same : (ts us : List (List ℕ)) → Same ts us → image_of rows ts p ≡ image_of rows us p
  image-same ts us h =
      by-words ts ∙ ap (λ w. image-by w (text_place names_from ts)) (words-same ts us h)
      ∙ ap (λ f. image-by (text_words us) f) (fun_ext (λ i. places-same ts us i names_from h)) ∙ sym (by-words us)

  pub one-image : (names : List (List ℕ)) (a b : machine.Program) → IsImageOf names p a → IsImageOf names p b → a ≡ b
  one-image names a b h k = h.is ∙ image-same h.texts k.texts (λ i. h.told i ∙ sym (k.told i)) ∙ sym k.is

  pub not-long : {E : Type 0} (names : List (List ℕ)) (r : Result machine.Program E) → IfOk r (IsImageOf names p) → IfOk r (λ image. words image ≤ 2 ^ 27)
      → IfOk r (λ image. ¬ IsTooLong names p)
  not-long names (Ok image) is small = λ z. let same = ap words (one-image names z.0 image z.1 is) in let big = z.2 in omega (arith, same, big, small)
  not-long names (Err e) is small = tt
