-- Entries whose lists are parts of two lists that grow.
use Rattle.std.proofs.Common.{◌≡◌, ℕ, zero, suc, ◌+◌, ◌-◌, ◌<◌, ◌≤◌, List, [], ◌∷◌, ◌++◌, take, drop, length, get_or, slice_get, Some, None, refl, sym, ap, ap₂, subst, ◌∙◌, arith}
use Rattle.std.proofs.lemmas.List.{take-append-le, drop-append-le, take-take, length-drop, length-append}
use Rattle.closure_convert.specs.Capture as clean
use Rattle.closure_convert.specs.Capture.{captured_in, pieces_in}
use Rattle.capture_scope.specs.declared.piece.Piece as code_piece
use Rattle.capture_scope.specs.Found.{pieces_of}
use Rattle.capture_table.specs.declared.found.Part.{Part}
use Rattle.capture_table.specs.declared.found.Entry.{Entry}
use Rattle.capture_table.specs.Told.{entry}
use Rattle.capture_table.specs.Tables.{numbers_of}
use Rattle.capture_table.specs.Parts.{part, entry_in, entries_in, IsPart, AreWithin}
use Rattle.capture_table.proofs.Growing.{map-last}

part-kept : {A : Type 0} (xs ys : List A) (p : Part) → IsPart (length xs) p → part (xs ++ ys) p ≡ part xs p
part-kept xs ys p h =
    let f = h.0 in
    let t = h.1 in
    let d = length-drop p.from xs in
    ap (take (p.to - p.from)) (drop-append-le p.from xs ys (omega (arith, f, t))) ∙ take-append-le (p.to - p.from) (drop p.from xs) ys (omega (arith, f, t, d))

pub entries-kept : (vs ws : List ℕ) (ps qs : List code_piece.Piece) (es : List Entry) → AreWithin (length vs) (length ps) es → entries_in (vs ++ ws) (ps ++ qs) es ≡ entries_in vs ps es
entries-kept vs ws ps qs [] h = refl
entries-kept vs ws ps qs (e ∷ es) h =
    ap₂ (λ (z : clean.Entry) l. z ∷ l) (ap₂ (λ c p. record { number = e.number; captured = c; pieces = pieces_of p }) (part-kept vs ws e.captured h.0.0) (part-kept ps qs e.pieces h.0.1)) (entries-kept vs ws ps qs es h.1)

pub within-more : (n m n' m' : ℕ) (es : List Entry) → n ≤ n' → m ≤ m' → AreWithin n m es → AreWithin n' m' es
within-more n m n' m' [] a b h = tt
within-more n m n' m' (e ∷ es) a b h =
    let c = h.0.0.1 in
    let p = h.0.1.1 in
    (((h.0.0.0, omega (arith, a, c)), (h.0.1.0, omega (arith, b, p))), within-more n m n' m' es a b h.1)

pub within-last : (n m : ℕ) (es : List Entry) (e : Entry) → AreWithin n m es → IsPart n e.captured × IsPart m e.pieces → AreWithin n m (es ++ e ∷ [])
within-last n m [] e h k = (k, tt)
within-last n m (x ∷ es) e h k = (h.0, within-last n m es e h.1 k)

pub at-end : {A : Type 0} (xs ys : List A) → drop (length xs) (xs ++ ys) ≡ ys
at-end [] ys = refl
at-end (x ∷ xs) ys = at-end xs ys

take-whole : {A : Type 0} (xs : List A) → take (length xs) xs ≡ xs
take-whole [] = refl
take-whole (x ∷ xs) = ap (λ l. x ∷ l) (take-whole xs)

-- the last part
part-last : {A : Type 0} (xs ys all : List A) (from to : ℕ) → from ≡ length xs → all ≡ xs ++ ys → to ≡ length all → part all (record { from = from; to = to }) ≡ ys
part-last xs ys all from to f a t =
    let l = length-append xs ys in
    let u : length all ≡ length (xs ++ ys) = ap length a in
    ap₂ (λ n k. take n (drop k all)) (let e : to - from ≡ length ys = omega (arith, f, t, l, u) in e) f ∙ ap (λ z. take (length ys) (drop (length xs) z)) a ∙ ap (take (length ys)) (at-end xs ys) ∙ take-whole ys

part-within : {A : Type 0} (xs ys all : List A) (from to : ℕ) → from ≡ length xs → all ≡ xs ++ ys → to ≡ length all → IsPart (length all) (record { from = from; to = to })
part-within xs ys all from to f a t =
    let l = length-append xs ys in
    let u : length all ≡ length (xs ++ ys) = ap length a in
    (omega (arith, f, t, l, u), omega (arith, t))

pub longer : {A : Type 0} (xs ys all : List A) → all ≡ xs ++ ys → length xs ≤ length all
longer xs ys all a = let l = length-append xs ys in let u : length all ≡ length (xs ++ ys) = ap length a in omega (arith, l, u)

-- a list that was put behind
pub stands-last : {A : Type 0} (xs ys all : List A) (from : ℕ) → from ≡ length xs → all ≡ xs ++ ys → (part all (record { from = from; to = from + length ys }) ≡ ys) × (from + length ys ≤ length all)
stands-last xs ys all from f a =
    let l = length-append xs ys in
    let u : length all ≡ length (xs ++ ys) = ap length a in
    (part-last xs ys all from (from + length ys) f a (omega (arith, f, l, u)), omega (arith, f, l, u))

pub same-pieces : (vs ws vs' : List ℕ) (ps : List code_piece.Piece) (es : List Entry) → vs' ≡ vs ++ ws → AreWithin (length vs) (length ps) es → entries_in vs ps es ≡ entries_in vs' ps es
same-pieces vs ws vs' ps es v h = sym (ap₂ (λ a b. entries_in a b es) v (nothing ps) ∙ entries-kept vs ws ps [] es h)
  where
    nothing : (xs : List code_piece.Piece) → xs ≡ xs ++ []
    nothing [] = refl
    nothing (x ∷ xs) = ap (λ l. x ∷ l) (nothing xs)

-- one entry more, with its own lists

module _ (vs cs vs' : List ℕ) (ps qs ps' : List code_piece.Piece) (es es' : List Entry) (n from to first past : ℕ)
    (f : from ≡ length vs) (v : vs' ≡ vs ++ cs) (t : to ≡ length vs') (g : first ≡ length ps) (p : ps' ≡ ps ++ qs) (u : past ≡ length ps')
    (e : es' ≡ es ++ record { number = n; captured = record { from = from; to = to }; pieces = record { from = first; to = past } } ∷ []) (h : AreWithin (length vs) (length ps) es) where
  pub pushed-within : AreWithin (length vs') (length ps') es'
  pushed-within = subst (AreWithin (length vs') (length ps')) (sym e)
      (within-last (length vs') (length ps') es _ (within-more (length vs) (length ps) (length vs') (length ps') es (longer vs cs vs' v) (longer ps qs ps' p) h) (part-within vs cs vs' from to f v t, part-within ps qs ps' first past g p u))

  pub pushed-is : entries_in vs' ps' es' ≡ entries_in vs ps es ++ entry n (pieces_of qs) cs ∷ []
  pushed-is =
      ap (entries_in vs' ps') e ∙ map-last (entry_in vs' ps') es _
      ∙ ap₂ (λ l (z : clean.Entry). l ++ z ∷ []) (ap₂ (λ a b. entries_in a b es) v p ∙ entries-kept vs cs ps qs es h)
      (ap₂ (λ c b. entry n (pieces_of b) c) (part-last vs cs vs' from to f v t) (part-last ps qs ps' first past g p u))

-- one entry more, which captures a front of a list that stands there

module _ (vs innermost : List ℕ) (from : ℕ) (stands : part vs (record { from = from; to = from + length innermost }) ≡ innermost) (fits : from + length innermost ≤ length vs)
    (ps qs ps' : List code_piece.Piece) (es es' : List Entry) (n count first past : ℕ) (c : count ≤ length innermost)
    (g : first ≡ length ps) (p : ps' ≡ ps ++ qs) (u : past ≡ length ps')
    (e : es' ≡ es ++ record { number = n; captured = record { from = from; to = from + count }; pieces = record { from = first; to = past } } ∷ []) (h : AreWithin (length vs) (length ps) es) where
  pub front-within : AreWithin (length vs) (length ps') es'
  front-within = subst (AreWithin (length vs) (length ps')) (sym e)
      (within-last (length vs) (length ps') es _ (within-more (length vs) (length ps) (length vs) (length ps') es (omega arith) (longer ps qs ps' p) h) ((omega arith, omega (arith, c, fits)), part-within ps qs ps' first past g p u))

  front-is : part vs (record { from = from; to = from + count }) ≡ take count innermost
  front-is =
      ap (λ k. take k (drop from vs)) (let q : from + count - from ≡ count = omega arith in q) ∙ sym (take-take count (length innermost) (drop from vs) c)
      ∙ ap (λ k. take count (take k (drop from vs))) (let q : length innermost ≡ from + length innermost - from = omega arith in q) ∙ ap (take count) stands

  pub front-pushed : entries_in vs ps' es' ≡ entries_in vs ps es ++ entry n (pieces_of qs) (take count innermost) ∷ []
  front-pushed =
      ap (entries_in vs ps') e ∙ map-last (entry_in vs ps') es _
      ∙ ap₂ (λ l (z : clean.Entry). l ++ z ∷ []) (ap (λ b. entries_in vs b es) p ∙ same ∙ entries-kept vs [] ps qs es h)
      (ap₂ (λ c b. entry n (pieces_of b) c) front-is (part-last ps qs ps' first past g p u))
    where
      nothing : (xs : List ℕ) → xs ≡ xs ++ []
      nothing [] = refl
      nothing (x ∷ xs) = ap (λ l. x ∷ l) (nothing xs)

      same : entries_in vs (ps ++ qs) es ≡ entries_in (vs ++ []) (ps ++ qs) es
      same = ap (λ l. entries_in l (ps ++ qs) es) (nothing vs)

-- what is found at a place

module _ (vs : List ℕ) (ps : List code_piece.Piece) where
  pub entry-at : (es : List Entry) (i : ℕ) (e d : Entry) → i < length es → e ≡ get_or es i d → slice_get (entries_in vs ps es) i ≡ Some (entry_in vs ps e)
  entry-at [] i e d lt is = absurd (omega (arith, lt))
  entry-at (x ∷ es) zero e d lt is = ap (λ (z : Entry). Some (entry_in vs ps z)) (sym is)
  entry-at (x ∷ es) (suc i) e d lt is = entry-at es i e d (omega (arith, lt)) is

  pub entry-past : (es : List Entry) (i : ℕ) → length es ≤ i → slice_get (entries_in vs ps es) i ≡ None
  entry-past [] i le = refl
  entry-past (x ∷ es) zero le = absurd (omega (arith, le))
  entry-past (x ∷ es) (suc i) le = entry-past es i (omega (arith, le))

  pub number-at : (es : List Entry) (i : ℕ) (e d : Entry) → i < length es → e ≡ get_or es i d → e.number ≡ get_or (numbers_of (entries_in vs ps es)) i 0
  number-at [] i e d lt is = absurd (omega (arith, lt))
  number-at (x ∷ es) zero e d lt is = ap (λ (z : Entry). z.number) is
  number-at (x ∷ es) (suc i) e d lt is = number-at es i e d (omega (arith, lt)) is

pub within-at : (n m : ℕ) (es : List Entry) (i : ℕ) (e d : Entry) → i < length es → e ≡ get_or es i d → AreWithin n m es → IsPart n e.captured × IsPart m e.pieces
within-at n m [] i e d lt is h = absurd (omega (arith, lt))
within-at n m (x ∷ es) zero e d lt is h = subst (λ (z : Entry). IsPart n z.captured × IsPart m z.pieces) (sym is) h.0
within-at n m (x ∷ es) (suc i) e d lt is h = within-at n m es i e d (omega (arith, lt)) is h.1
