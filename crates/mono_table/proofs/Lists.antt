-- Lists that are gone along.
use Rattle.std.proofs.Common.{◌≡◌, ℕ, zero, suc, ◌+◌, ◌<◌, ◌≤◌, Bool, true, false, ◌&&◌, List, [], ◌∷◌, map, reverse, length, drop, slice_get, slice_index_or, Option, option_map, refl, sym, ap, ◌∙◌, arith}
use Rattle.std.proofs.lemmas.List.{length-reverse}
use Rattle.ir_mono.specs.Types.{Row, constructor_at}
use Rattle.mono_table.specs.Right.{every, numbers_in, argument_flag, number_flag, arguments_admit}

module _ (f : ℕ → Bool) where
  abbrev pub Left : List ℕ → ℕ → Type 0
  Left ns i = every f ns ≡ every f (drop i ns)

  next : (ns : List ℕ) (i n : ℕ) → i < length ns → n ≡ slice_index_or ns i n → every f (drop i ns) ≡ (f n && every f (drop (suc i) ns))
  next [] i n lt e = absurd (omega arith)
  next (m ∷ ns) zero n lt e = ap (λ m. f m && every f ns) (sym e)
  next (m ∷ ns) (suc i) n lt e = next ns i n (omega arith) e

  more : (i : ℕ) → suc i ≡ i + 1
  more i = omega arith

  none-left : (ns : List ℕ) (i : ℕ) → length ns ≤ i → true ≡ every f (drop i ns)
  none-left [] zero le = refl
  none-left [] (suc i) le = refl
  none-left (n ∷ ns) zero le = absurd (omega arith)
  none-left (n ∷ ns) (suc i) le = none-left ns i (omega arith)

  pub left-next : (ns : List ℕ) (i n : ℕ) (b : Bool) → i < length ns → n ≡ slice_index_or ns i n → b ≡ f n → b ≡ true → Left ns i → Left ns (i + 1)
  left-next ns i n b lt e g t w = w ∙ next ns i n lt e ∙ ap (λ q. q && every f (drop (suc i) ns)) (sym g ∙ t) ∙ ap (λ k. every f (drop k ns)) (more i)

  pub left-stops : (ns : List ℕ) (i n : ℕ) (b : Bool) → i < length ns → n ≡ slice_index_or ns i n → b ≡ f n → b ≡ false → Left ns i → false ≡ every f ns
  left-stops ns i n b lt e g t w = sym (w ∙ next ns i n lt e ∙ ap (λ q. q && every f (drop (suc i) ns)) (sym g ∙ t))

  -- at the element that a loop reads
  any-default : (ns : List ℕ) (i d e : ℕ) → i < length ns → slice_index_or ns i d ≡ slice_index_or ns i e
  any-default [] i d e lt = absurd (omega arith)
  any-default (n ∷ ns) zero d e lt = refl
  any-default (n ∷ ns) (suc i) d e lt = any-default ns i d e (omega arith)

  pub next-read : (ns : List ℕ) (i d : ℕ) (b : Bool) → i < length ns → b ≡ f (slice_index_or ns i d) → b ≡ true → Left ns i → Left ns (i + 1)
  next-read ns i d b lt g t w = left-next ns i (slice_index_or ns i d) b lt (any-default ns i d (slice_index_or ns i d) lt) g t w

  pub stops-read : (ns : List ℕ) (i d : ℕ) (b : Bool) → i < length ns → b ≡ f (slice_index_or ns i d) → b ≡ false → Left ns i → false ≡ every f ns
  stops-read ns i d b lt g t w = left-stops ns i (slice_index_or ns i d) b lt (any-default ns i d (slice_index_or ns i d) lt) g t w

  pub left-none : (ns : List ℕ) (i : ℕ) → length ns ≤ i → Left ns i → true ≡ every f ns
  left-none ns i le w = none-left ns i le ∙ sym w

module _ (types : List Row) (n : ℕ) where
  abbrev flag : ℕ → Bool
  flag c = argument_flag types (constructor_at types n c)

  abbrev firsts : List (ℕ × Option ℕ) → List ℕ
  firsts = map (λ e. e.0)

  next-flag : (es : List (ℕ × Option ℕ)) (i : ℕ) (b : Bool) → i < length es → b ≡ number_flag types n (option_map (λ e. e.0) (slice_get es i))
      → every flag (drop i (firsts es)) ≡ (b && every flag (drop (suc i) (firsts es)))
  next-flag [] i b lt e = absurd (omega arith)
  next-flag (x ∷ es) zero b lt e = ap (λ q. q && every flag (firsts es)) (sym e)
  next-flag (x ∷ es) (suc i) b lt e = next-flag es i b (omega arith) e

  long : (es : List (ℕ × Option ℕ)) → length (firsts es) ≡ length es
  long [] = refl
  long (x ∷ es) = ap suc (long es)

  pub flags-next : (cs : List (ℕ × Option ℕ)) (i : ℕ) (b : Bool) → i < length cs → b ≡ number_flag types n (option_map (λ e. e.0) (slice_get (reverse cs) i)) → b ≡ true → Left flag (numbers_in cs) i → Left flag (numbers_in cs) (i + 1)
  flags-next cs i b lt e t w =
      let l = length-reverse cs in
      w ∙ next-flag (reverse cs) i b (omega arith) e ∙ ap (λ q. q && every flag (drop (suc i) (numbers_in cs))) t ∙ ap (λ k. every flag (drop k (numbers_in cs))) (more flag i)

  pub flags-stop : (cs : List (ℕ × Option ℕ)) (i : ℕ) (b : Bool) → i < length cs → b ≡ number_flag types n (option_map (λ e. e.0) (slice_get (reverse cs) i)) → b ≡ false → Left flag (numbers_in cs) i
      → false ≡ arguments_admit types n (numbers_in cs)
  flags-stop cs i b lt e t w = let l = length-reverse cs in sym (w ∙ next-flag (reverse cs) i b (omega arith) e ∙ ap (λ q. q && every flag (drop (suc i) (numbers_in cs))) t)

  pub flags-none : (cs : List (ℕ × Option ℕ)) (i : ℕ) → length cs ≤ i → Left flag (numbers_in cs) i → true ≡ arguments_admit types n (numbers_in cs)
  flags-none cs i le w = let l = length-reverse cs in let m = long (reverse cs) in left-none flag (numbers_in cs) i (omega arith) w
