-- Functions, one behind the other, in any walk: where they stand, and where their labels do.
use Rattle.std.proofs.Common.{◌≡◌, refl, ℕ, suc, ◌+◌, ◌-◌, ◌<◌, List, [], ◌∷◌, ◌++◌, length, Bool, sym, ap, ◌∙◌, ⊎_elim, arith, append_assoc, append-nil, length-append, get_or, zero-add}
use Rattle.std.proofs.lemmas.Bool.{cases_lt}
use Rattle.std.proofs.lemmas.List.{get_or_append_left, get_or_push, get_or_past}
use Rattle.first_values.specs.Equality.{Shape}
use Rattle.ir_ssa.specs.Tree.{Fun}
use Rattle.machine_code.specs.Rows.{Rows}
use Rattle.machine_code.specs.Image.{fun_place, fun_size, funs_size}
use Rattle.walk_labels.specs.Labels.{Frame, blocked, labels, size_of}
use Rattle.walk_labels.specs.Marks.{Mark, Foretold, fun_labels, past_fun}
use Rattle.walk_labels.proofs.Marks.{fore-left, fore-right, fore-same, frame-is, mark-is}
use Rattle.machine_emit.specs.Labels.{frame_in, funs_labels}

abbrev pub no_frame : Frame
no_frame = record { depth = 0; scope = []; exits = [] }

own-frame : (f : Frame) (g : Fun) → f ≡ no_frame → blocked g.params f ≡ frame_in g
own-frame f g h =
    ap (blocked g.params) h ∙ frame-is (blocked g.params no_frame) (frame_in g) (zero-add (length g.params)) refl refl

module _ (rows : Rows) (types : List Shape) where
  own-labels : (g : Fun) (m : Mark) → m.frame ≡ no_frame → fun_labels rows types g.params g.body m ≡ labels rows types m.place (frame_in g) g.body
  own-labels g m h = ap (λ f. labels rows types m.place f g.body) (own-frame m.frame g h)

  past-one : (g : Fun) (m : Mark) → m.frame ≡ no_frame → past_fun rows types g.params g.body m
      ≡ record { place = m.place + fun_size rows types g; frame = no_frame; found = m.found ++ labels rows types m.place (frame_in g) g.body }
  past-one g m h =
      mark-is (past_fun rows types g.params g.body m)
      (record { place = m.place + fun_size rows types g; frame = no_frame; found = m.found ++ labels rows types m.place (frame_in g) g.body })
      (ap (λ f. m.place + size_of rows types f g.body) (own-frame m.frame g h)) h (ap (λ l. m.found ++ l) (own-labels g m h))

  module _ (funs : List Fun) (from : ℕ) where
    -- what was found, with the rest, is the whole; where functions stand, and where the rest is to stand
    pub record Laid (rest : List Fun) (m : Mark) (places : List ℕ) : Type 0 where
      pub frame : m.frame ≡ no_frame
      pub long : m.place + funs_size rows types rest ≡ from + funs_size rows types funs
      pub labels : m.found ++ funs_labels rows types m.place rest ≡ funs_labels rows types from funs
      pub found : (t e : ℕ) → t < length places → get_or places t e ≡ fun_place rows types from funs t
      pub behind : (t : ℕ) → fun_place rows types m.place rest t ≡ fun_place rows types from funs (length places + t)

    pub none-laid : (m : Mark) (places : List ℕ) → m.frame ≡ no_frame → m.place ≡ from → m.found ≡ [] → places ≡ [] → Laid funs m places
    none-laid m places hf hp hl none =
        let short : length places ≡ 0 = ap length none in
        record {
          frame = hf;
          long = ap (λ n. n + funs_size rows types funs) hp;
          labels = ap (λ l. l ++ funs_labels rows types m.place funs) hl ∙ ap (λ n. funs_labels rows types n funs) hp;
          found = λ t e lt. absurd (omega (arith, lt, short));
          behind = λ t. ap (λ n. fun_place rows types n funs t) hp ∙ ap (fun_place rows types from funs) (let z : t ≡ length places + t = omega (
            arith,
            short,
          ) in z);
        }

    pub laid-next : (g : Fun) (rest : List Fun) (m m' : Mark) (places places' : List ℕ) (p : ℕ) → Laid (g ∷ rest) m places
        → m' ≡ past_fun rows types g.params g.body m → p ≡ m.place → places' ≡ places ++ p ∷ [] → Laid rest m' places'
    laid-next g rest m m' places places' p f h ep el =
        let size = fun_size rows types g in
        let this = labels rows types m.place (frame_in g) g.body in
        let place = fun_place rows types from funs in
        let is = h ∙ past-one g m f.frame in
        let wide : m'.place ≡ m.place + size = ap (λ (z : Mark). z.place) is in
        let long : length places' ≡ length places + 1 = ap length el ∙ length-append places (p ∷ []) in
        let here : p ≡ place (length places) = ep ∙ f.behind 0 ∙ ap place (let z : length places + 0 ≡ length places = omega arith in z) in
        let far = f.long in
        record {
          frame = ap (λ (z : Mark). z.frame) is;
          long = omega (arith, wide, far);
          labels = ap (λ (z : Mark). z.found ++ funs_labels rows types z.place rest) is
              ∙ append_assoc m.found this (funs_labels rows types (m.place + size) rest) ∙ f.labels;
          found = λ i e lt.
              ⊎_elim (λ below. ap (λ l. get_or l i e) el ∙ get_or_append_left places (p ∷ []) e i below ∙ f.found i e below)
              (λ past.
              let same : length places ≡ i = omega (arith, past, lt, long) in
              ap (λ l. get_or l i e) el ∙ get_or_push places p e i same ∙ here ∙ ap place same)
              (cases_lt i (length places));
          behind = λ i. ap (λ n. fun_place rows types n rest i) wide ∙ f.behind (suc i)
              ∙ ap place (let z : length places + suc i ≡ length places' + i = omega (arith, long) in z);
        }

    -- what is told of all labels is told of the next function's
    pub laid-told : (g : Fun) (rest : List Fun) (m : Mark) (places : List ℕ) → Laid (g ∷ rest) m places → (sure : Bool) (all : List ℕ)
        → Foretold sure all 0 (funs_labels rows types from funs) → Foretold sure all (length m.found) (fun_labels rows types g.params g.body m)
    laid-told g rest m places f sure all told =
        let this = labels rows types m.place (frame_in g) g.body in
        let more = funs_labels rows types (m.place + fun_size rows types g) rest in
        fore-same sure all (length m.found) this (fun_labels rows types g.params g.body m) (sym (own-labels g m f.frame))
        (fore-left sure all (length m.found) this more
        (fore-right sure all 0 (length m.found) m.found (this ++ more) (sym (zero-add (length m.found)))
        (fore-same sure all 0 (funs_labels rows types from funs) (m.found ++ (this ++ more)) (sym f.labels) told)))

    pub all-places : (m : Mark) (places : List ℕ) (end : ℕ) → end ≡ m.place → Laid [] m places → (i : ℕ)
        → get_or places i end ≡ fun_place rows types from funs i
    all-places m places end e f i =
        ⊎_elim (λ below. f.found i end below)
        (λ past. get_or_past places i end past ∙ e ∙ f.behind (i - length places)
        ∙ ap (fun_place rows types from funs) (let z : length places + (i - length places) ≡ i = omega (arith, past) in z))
        (cases_lt i (length places))

    pub all-long : (m : Mark) (places : List ℕ) → Laid [] m places → m.place ≡ from + funs_size rows types funs
    all-long m places f = let h = f.long in omega (arith, h)

    pub all-labels : (m : Mark) (places : List ℕ) → Laid [] m places → m.found ≡ funs_labels rows types from funs
    all-labels m places f = sym (append-nil m.found) ∙ f.labels
