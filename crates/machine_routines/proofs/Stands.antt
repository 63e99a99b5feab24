-- Where the pieces of the routine stand.
use Rattle.std.proofs.Common.{◌≡◌, ℕ, zero, suc, ◌+◌, List, [], ◌∷◌, ◌++◌, length, Some, refl, ap, subst, arith, length-append, get_or}
use Rattle.std.specs.Prelude.{slice_get, min}
use Rattle.ir_code.specs.declared.instr.Instr.{Instr}
use Rattle.ir_code.specs.declared.instr.Instr.TheVariants.{Jmp}
use Rattle.first_values.specs.Equality.{Shape, numbers, texts, cells, references, opaque}
use Rattle.machine_routines.specs.EqualCode.{Way, by_word, as_last, as_inner, way_size, way_at, parts_size, tags_size, shape_size, offset_from, offset_of, place, way_code, parts_code, tag_table, tags_code, shape_code, shapes_code, equal_code}
use Rattle.machine_routines.specs.Runs.{HasAt}
use Rattle.machine_routines.proofs.Seams.{has_front, has_back}

module _ (shapes : List Shape) (start most : ℕ) where
  way_length : (w : Way) (o j t : ℕ) → length (way_code shapes start most w o j t) ≡ way_size w
  way_length by_word o j t = refl
  way_length as_last o j t = refl
  way_length as_inner o j t = refl

  parts_length : (o j : ℕ) (ts : List ℕ) → length (parts_code shapes start most o j ts) ≡ parts_size shapes ts
  parts_length o j [] = refl
  parts_length o j (t ∷ ts) =
      let w = way_at shapes t ts in
      omega (
        arith,
        length-append (way_code shapes start most w o j t) (parts_code shapes start most (o + way_size w) (suc j) ts),
        way_length w o j t,
        parts_length (o + way_size w) (suc j) ts,
      )

  table_length : (o : ℕ) (tags : List (List ℕ)) → length (tag_table shapes start most o tags) ≡ length tags
  table_length o [] = refl
  table_length o (ts ∷ rest) = ap suc (table_length (o + parts_size shapes ts) rest)

  tags_length : (o : ℕ) (tags : List (List ℕ)) → length (tags_code shapes start most o tags) ≡ tags_size shapes tags
  tags_length o [] = refl
  tags_length o (ts ∷ rest) =
      let n = o + parts_size shapes ts in
      omega (arith, length-append (parts_code shapes start most o 1 ts) (tags_code shapes start most n rest), parts_length o 1 ts, tags_length n rest)

  pub shape_length : (o : ℕ) (s : Shape) → length (shape_code shapes start most o s) ≡ shape_size shapes s
  shape_length o numbers = refl
  shape_length o texts = refl
  shape_length o (cells tags) =
      let n = o + 6 + length tags in
      omega (
        arith,
        length-append (tag_table shapes start most n tags) (Jmp start ∷ tags_code shapes start most n tags),
        table_length n tags,
        tags_length n
            tags,
      )
  shape_length o references = refl
  shape_length o opaque = refl

  module _ (code : List Instr) where
    -- the parts of a cell after the first of some
    pub rest_stands : (w : Way) (o j t : ℕ) (ts : List ℕ) → HasAt code (place shapes start most o) (way_code shapes start most w o j t
        ++ parts_code shapes start most (o + way_size w) (suc j) ts)
        → HasAt code (place shapes start most (o + way_size w)) (parts_code shapes start most (o + way_size w) (suc j) ts)
    rest_stands w o j t ts h = has_back code (place shapes start most o) (place shapes start most (o + way_size w)) (way_code shapes start most w o j t) _
        (omega (arith, way_length w o j t)) h

    shapes_stand : (ss : List Shape) (o t : ℕ) → HasAt code (place shapes start most o) (shapes_code shapes start most o ss)
        → HasAt code (place shapes start most (offset_from shapes o ss t)) (shape_code shapes start most (offset_from shapes o ss t) (get_or ss t opaque))
    shapes_stand [] o t h = tt
    shapes_stand (s ∷ ss) o zero h = has_front code (place shapes start most o) (shape_code shapes start most o s) _ h
    shapes_stand (s ∷ ss) o (suc t) h =
        shapes_stand ss (o + shape_size shapes s) t (has_back code (place shapes start most o) (place shapes start most (o + shape_size shapes s))
        (shape_code shapes start most o s) _ (omega (arith, shape_length o s)) h)

    -- the code of a type
    pub shape_stands : HasAt code start (equal_code shapes start most) → (t : ℕ)
        → HasAt code (place shapes start most (offset_of shapes t)) (shape_code shapes start most (offset_of shapes t) (get_or shapes t opaque))
    shape_stands h t =
        let n : start + 1 + 1 + 1 + 1 + 1 + 1 + 1 + 1 ≡ place shapes start most 2 = omega arith in
        shapes_stand shapes 2 t (subst (λ k. HasAt code k (shapes_code shapes start most 2 shapes)) n h.1.1.1.1.1.1.1.1)

    -- where the jump for a tag goes
    pub data Goes (tags : List (List ℕ)) (j pc : ℕ) : Type 0 where
      to_parts : (o : ℕ) → slice_get code pc ≡ Some (Jmp (place shapes start most o))
          → HasAt code (place shapes start most o) (parts_code shapes start most o 1 (get_or tags j [])) → Goes tags j pc
      to_start : slice_get code pc ≡ Some (Jmp start) → get_or tags j [] ≡ [] → Goes tags j pc

    pub tag_goes : (tags : List (List ℕ)) (o pc j : ℕ) → HasAt code pc (tag_table shapes start most o tags)
        → slice_get code (pc + length tags) ≡ Some (Jmp start) → HasAt code (place shapes start most o) (tags_code shapes start most o tags)
        → Goes tags j (pc + min j (length tags))
    tag_goes [] o pc j h e g = let n : pc + 0 ≡ pc + min j 0 = omega arith in subst (λ k. Goes [] j k) n (to_start e refl)
    tag_goes (ts ∷ rest) o pc zero h e g =
        let n : pc ≡ pc + min zero (suc (length rest)) = omega arith in
        subst (λ k. Goes (ts ∷ rest) zero k) n (to_parts o h.0 (has_front code (place shapes start most o) (parts_code shapes start most o 1 ts) _ g))
    tag_goes (ts ∷ rest) o pc (suc j) h e g =
        let n : pc + 1 + min j (length rest) ≡ pc + min (suc j) (suc (length rest)) = omega arith in
        let last : pc + suc (length rest) ≡ pc + 1 + length rest = omega arith in
        let more = tag_goes rest (o + parts_size shapes ts) (pc + 1) j h.1 (subst (λ k. slice_get code k ≡ Some (Jmp start)) last e)
        (has_back code (place shapes start most o) (place shapes start most (o + parts_size shapes ts)) (parts_code shapes start most o 1 ts) _
        (omega (arith, parts_length o 1 ts)) g) in
        subst (λ k. Goes (ts ∷ rest) (suc j) k) n (later more)
      where
        later : {pc : ℕ} → Goes rest j pc → Goes (ts ∷ rest) (suc j) pc
        later (to_parts d e h) = to_parts d e h
        later (to_start e h) = to_start e h

    -- the jump of a cell's code at its switch
    pub cell_goes : (tags : List (List ℕ)) (o pc j : ℕ) → pc ≡ place shapes start most o + 5
        → HasAt code pc (tag_table shapes start most (o + 6 + length tags) tags ++ (Jmp start ∷ tags_code shapes start most (o + 6 + length tags) tags))
        → Goes tags j (pc + min j (length tags))
    cell_goes tags o pc j n h =
        let d = o + 6 + length tags in
        let table = tag_table shapes start most d tags in
        let len = table_length d tags in
        let back = has_back code pc (pc + length tags) table (Jmp start ∷ tags_code shapes start most d tags) (omega (arith, len)) h in
        let at : pc + length tags + 1 ≡ place shapes start most d = omega (arith, n) in
        tag_goes tags d pc j (has_front code pc table _ h) back.0 (subst (λ k. HasAt code k (tags_code shapes start most d tags)) at back.1)
