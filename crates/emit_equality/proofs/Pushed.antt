-- What loops over parts, tags and types have pushed so far, and one step more of each.
use Rattle.std.proofs.Common.{◌≡◌, refl, ℕ, suc, ◌+◌, ◌-◌, ◌<◌, List, [], ◌∷◌, ◌++◌, length, sym, ap, ◌∙◌, ⊎_elim, arith, append_assoc, length-append, get_or}
use Rattle.std.proofs.lemmas.Bool.{cases_lt}
use Rattle.std.proofs.lemmas.List.{get_or_append_left, get_or_push, get_or_past}
use Rattle.ir_code.specs.declared.instr.Instr.{Instr}
use Rattle.ir_code.specs.declared.instr.Instr.TheVariants.{Jmp, Brz, Switch, Ld, Eq}
use Rattle.first_values.specs.Equality.{Shape, cells}
use Rattle.machine_routines.specs.EqualCode.{Way, by_word, as_last, as_inner, way_at, way_size, parts_size, shape_size, offset_from, offset_of, place, way_code, parts_code, tag_table, tags_code, shape_code, shapes_code, equal_code}
use Rattle.machine_routines.proofs.Stands.{shape_length}
use Rattle.emit_equality.specs.Ways.{most}

module _ (shapes : List Shape) where
  way-length : (w : Way) (o j t : ℕ) → length (way_code shapes 2 most w o j t) ≡ way_size w
  way-length by_word o j t = refl
  way-length as_last o j t = refl
  way-length as_inner o j t = refl

  parts-length : (o j : ℕ) (ts : List ℕ) → length (parts_code shapes 2 most o j ts) ≡ parts_size shapes ts
  parts-length o j [] = refl
  parts-length o j (t ∷ ts) =
      let w = way_at shapes t ts in
      omega (
        arith,
        length-append (way_code shapes 2 most w o j t) (parts_code shapes 2 most (o + way_size w) (suc j) ts),
        way-length w o j t,
        parts-length (o + way_size w) (suc j) ts,
      )

  -- what is pushed so far, with the rest, is the whole
  pub record PartsSoFar (ts rest : List ℕ) (old code : List Instr) (o j : ℕ) : Type 0 where
    pub offset : ℕ
    pub long : length code ≡ 8 + offset
    pub whole : code ++ parts_code shapes 2 most offset j rest ≡ old ++ parts_code shapes 2 most o 1 ts

  pub record TagsSoFar (tags rest : List (List ℕ)) (old code : List Instr) (o : ℕ) : Type 0 where
    pub offset : ℕ
    pub long : length code ≡ 8 + offset
    pub whole : code ++ tags_code shapes 2 most offset rest ≡ old ++ tags_code shapes 2 most o tags

  pub record TableSoFar (tags rest : List (List ℕ)) (old code : List Instr) (o first : ℕ) : Type 0 where
    pub offset : ℕ
    pub is : first ≡ place shapes 2 most offset
    pub whole : code ++ tag_table shapes 2 most offset rest ≡ old ++ tag_table shapes 2 most o tags

  pub record ShapesSoFar (rest : List Shape) (old code : List Instr) : Type 0 where
    pub offset : ℕ
    pub long : length code ≡ 8 + offset
    pub whole : code ++ shapes_code shapes 2 most offset rest ≡ old ++ equal_code shapes 2 most

  pub parts-next : (ts : List ℕ) (t : ℕ) (rest : List ℕ) (old code new : List Instr) (o j j' : ℕ) (s : PartsSoFar ts (t ∷ rest) old code o j)
      → new ≡ code ++ way_code shapes 2 most (way_at shapes t rest) s.offset j t → j' ≡ j + 1 → PartsSoFar ts rest old new o j'
  parts-next ts t rest old code new o j j' s e n =
      let w = way_at shapes t rest in
      let here = way_code shapes 2 most w s.offset j t in
      let jn : j' ≡ suc j = omega (arith, n) in
      record {
        offset = s.offset + way_size w;
        long = ap length e ∙ omega (arith, length-append code here, way-length w s.offset j t, s.long);
        whole = ap (λ k. new ++ parts_code shapes 2 most (s.offset + way_size w) k rest) jn
            ∙ ap (λ l. l ++ parts_code shapes 2 most (s.offset + way_size w) (suc j) rest) e
            ∙ append_assoc code here (parts_code shapes 2 most (s.offset + way_size w) (suc j) rest)
            ∙ s.whole;
      }

  pub tags-next : (tags : List (List ℕ)) (ts : List ℕ) (rest : List (List ℕ)) (old code new : List Instr) (o : ℕ) (s : TagsSoFar tags (ts ∷ rest) old code o)
      → new ≡ code ++ parts_code shapes 2 most s.offset 1 ts → TagsSoFar tags rest old new o
  tags-next tags ts rest old code new o s e =
      let here = parts_code shapes 2 most s.offset 1 ts in
      record {
        offset = s.offset + parts_size shapes ts;
        long = ap length e ∙ omega (arith, length-append code here, parts-length s.offset 1 ts, s.long);
        whole = ap (λ l. l ++ tags_code shapes 2 most (s.offset + parts_size shapes ts) rest) e
            ∙ append_assoc code here (tags_code shapes 2 most (s.offset + parts_size shapes ts) rest)
            ∙ s.whole;
      }

  pub table-next : (tags : List (List ℕ)) (ts : List ℕ) (rest : List (List ℕ)) (old code new : List Instr) (i : Instr) (o first first' size : ℕ)
      → TableSoFar tags (ts ∷ rest) old code o first
      → new ≡ code ++ i ∷ [] → i ≡ Jmp first → first' ≡ first + size → size ≡ parts_size shapes ts → TableSoFar tags rest old new o first'
  table-next tags ts rest old code new i o first first' size s e ei en es =
      let more = tag_table shapes 2 most (s.offset + parts_size shapes ts) rest in
      record {
        offset = s.offset + parts_size shapes ts;
        is = let at = s.is in omega (arith, at, en, es);
        whole = ap (λ l. l ++ more) (e ∙ ap (λ j. code ++ j ∷ []) (ei ∙ ap Jmp s.is))
            ∙ append_assoc code (Jmp (place shapes 2 most s.offset) ∷ []) more
            ∙ s.whole;
      }

  pub shapes-next : (s : Shape) (rest : List Shape) (old code new : List Instr) (f : ShapesSoFar (s ∷ rest) old code)
      → new ≡ code ++ shape_code shapes 2 most f.offset s → ShapesSoFar rest old new
  shapes-next s rest old code new f e =
      let here = shape_code shapes 2 most f.offset s in
      record {
        offset = f.offset + shape_size shapes s;
        long = ap length e ∙ omega (arith, length-append code here, shape_length shapes 2 most f.offset s, f.long);
        whole = ap (λ l. l ++ shapes_code shapes 2 most (f.offset + shape_size shapes s) rest) e
            ∙ append_assoc code here (shapes_code shapes 2 most (f.offset + shape_size shapes s) rest)
            ∙ f.whole;
      }

  -- where the code of the types so far stands, and that of the rest from here on
  pub record PlacesSoFar (rest : List Shape) (places : List ℕ) (next : ℕ) : Type 0 where
    pub offset : ℕ
    pub is : next ≡ place shapes 2 most offset
    pub found : (t e : ℕ) → t < length places → get_or places t e ≡ place shapes 2 most (offset_of shapes t)
    pub behind : (t : ℕ) → offset_from shapes offset rest t ≡ offset_of shapes (length places + t)

  pub places-none : PlacesSoFar shapes [] 10
  places-none = record { offset = 2; is = refl; found = λ t e lt. absurd (omega (arith, lt)); behind = λ t. ap (offset_of shapes) (let z : t ≡ 0 + t = omega arith in z) }

  pub places-next : (s : Shape) (rest : List Shape) (places places' : List ℕ) (next next' size : ℕ) → PlacesSoFar (s ∷ rest) places next → places' ≡ places ++ next ∷ []
      → next' ≡ next + size → size ≡ shape_size shapes s → PlacesSoFar rest places' next'
  places-next s rest places places' next next' size f ep en es =
      let long : length places' ≡ length places + 1 = ap length ep ∙ length-append places (next ∷ []) in
      let first : offset_of shapes (length places) ≡ f.offset = ap (offset_of shapes) (let z : length places ≡ length places + 0 = omega arith in z) ∙ sym (f.behind 0) in
      record {
        offset = f.offset + shape_size shapes s;
        is = let at = f.is in omega (arith, at, en, es);
        found = λ t e lt.
            ⊎_elim (λ below. ap (λ l. get_or l t e) ep ∙ get_or_append_left places (next ∷ []) e t below ∙ f.found t e below)
            (λ past.
            let same : length places ≡ t = omega (arith, past, lt, long) in
            ap (λ l. get_or l t e) ep ∙ get_or_push places next e t same ∙ f.is ∙ ap (place shapes 2 most) (sym first) ∙ ap (λ k. place shapes 2 most (offset_of shapes k)) same)
            (cases_lt t (length places));
        behind = λ t. f.behind (suc t) ∙ ap (offset_of shapes) (let z : length places + suc t ≡ length places' + t = omega (arith, long) in z);
      }

  pub places-done : (places : List ℕ) (next : ℕ) → PlacesSoFar [] places next → (t : ℕ) → get_or places t next ≡ place shapes 2 most (offset_of shapes t)
  places-done places next f t =
      ⊎_elim (λ below. f.found t next below)
      (λ past. get_or_past places t next past ∙ f.is ∙ ap (place shapes 2 most) (f.behind (t - length places) ∙ ap (offset_of shapes) (let z : length places + (t - length places) ≡ t = omega (arith, past) in z)))
      (cases_lt t (length places))

  table-length : (o : ℕ) (tags : List (List ℕ)) → length (tag_table shapes 2 most o tags) ≡ length tags
  table-length o [] = refl
  table-length o (ts ∷ rest) = ap suc (table-length (o + parts_size shapes ts) rest)

-- one piece more
pub onto : {A : Type 0} (old a b c d : List A) → b ≡ old ++ a → c ≡ b ++ d → c ≡ old ++ (a ++ d)
onto old a b c d h g = g ∙ ap (λ l. l ++ d) h ∙ append_assoc old a d

module _ (shapes : List Shape) (tags : List (List ℕ)) (old c1 c2 c3 : List Instr) (i1 i2 i3 i4 : Instr) (o count : ℕ) (h1 : c1 ≡ old ++ i1 ∷ i2 ∷ [])
    (e1 : i1 ≡ Ld 2 5 0) (e2 : i2 ≡ Ld 3 6 0) (h2 : c2 ≡ c1 ++ i3 ∷ i4 ∷ []) (e3 : i3 ≡ Eq 2 2 3) (e4 : i4 ≡ Brz 2 9) (h3 : c3 ≡ c2 ++ Switch 3 count ∷ [])
    (long : length old ≡ 8 + o) (en : count ≡ length tags) where
  -- before the table
  pub cells-head : c3 ≡ old ++ Ld 2 5 0 ∷ Ld 3 6 0 ∷ Eq 2 2 3 ∷ Brz 2 9 ∷ Switch 3 (length tags) ∷ []
  cells-head =
      let s1 : c1 ≡ old ++ Ld 2 5 0 ∷ Ld 3 6 0 ∷ [] = h1 ∙ ap (λ i. old ++ i ∷ i2 ∷ []) e1 ∙ ap (λ i. old ++ Ld 2 5 0 ∷ i ∷ []) e2 in
      let s2 : c2 ≡ c1 ++ Eq 2 2 3 ∷ Brz 2 9 ∷ [] = h2 ∙ ap (λ i. c1 ++ i ∷ i4 ∷ []) e3 ∙ ap (λ i. c1 ++ Eq 2 2 3 ∷ i ∷ []) e4 in
      let s3 : c3 ≡ c2 ++ Switch 3 (length tags) ∷ [] = h3 ∙ ap (λ n. c2 ++ Switch 3 n ∷ []) en in
      onto old (Ld 2 5 0 ∷ Ld 3 6 0 ∷ Eq 2 2 3 ∷ Brz 2 9 ∷ []) c2 c3 (Switch 3 (length tags) ∷ [])
      (onto old (Ld 2 5 0 ∷ Ld 3 6 0 ∷ []) c1 c2 (Eq 2 2 3 ∷ Brz 2 9 ∷ []) s1 s2) s3

  pub cells-first : (at with-count first : ℕ) → at ≡ length c3 → with-count ≡ at + count → first ≡ with-count + 1 → first ≡ place shapes 2 most (o + 6 + length tags)
  cells-first at with-count first h g f =
      omega (arith, h, g, f, en, long, ap length cells-head, length-append old (Ld 2 5 0 ∷ Ld 3 6 0 ∷ Eq 2 2 3 ∷ Brz 2 9 ∷ Switch 3 (length tags) ∷ []))

  module _ (c4 c5 : List Instr) (j : Instr) (h4 : c4 ≡ c3 ++ tag_table shapes 2 most (o + 6 + length tags) tags) (h5 : c5 ≡ c4 ++ j ∷ []) (ej : j ≡ Jmp 2) where
    whole : c5 ≡ old ++ Ld 2 5 0 ∷ Ld 3 6 0 ∷ Eq 2 2 3 ∷ Brz 2 9 ∷ Switch 3 (length tags) ∷ (tag_table shapes 2 most (o + 6 + length tags) tags ++ Jmp 2 ∷ [])
    whole =
        let head = Ld 2 5 0 ∷ Ld 3 6 0 ∷ Eq 2 2 3 ∷ Brz 2 9 ∷ Switch 3 (length tags) ∷ [] in
        onto old (head ++ tag_table shapes 2 most (o + 6 + length tags) tags) c4 c5 (Jmp 2 ∷ [])
        (onto old head c3 c4 (tag_table shapes 2 most (o + 6 + length tags) tags) cells-head h4) (h5 ∙ ap (λ i. c4 ++ i ∷ []) ej)

    pub cells-long : length c5 ≡ 8 + (o + 6 + length tags)
    cells-long =
        let table = tag_table shapes 2 most (o + 6 + length tags) tags in
        omega (
          arith,
          long,
          ap length h5,
          length-append c4 (j ∷ []),
          ap length h4,
          length-append c3 table,
          table-length shapes (o + 6 + length tags) tags,
          ap length cells-head,
          length-append old (Ld 2 5 0 ∷ Ld 3 6 0 ∷ Eq 2 2 3 ∷ Brz 2 9 ∷ Switch 3 (length tags) ∷ []),
        )

    pub cells-are : c5 ++ tags_code shapes 2 most (o + 6 + length tags) tags ≡ old ++ shape_code shapes 2 most o (cells tags)
    cells-are =
        let table = tag_table shapes 2 most (o + 6 + length tags) tags in
        let rest = tags_code shapes 2 most (o + 6 + length tags) tags in
        let head = Ld 2 5 0 ∷ Ld 3 6 0 ∷ Eq 2 2 3 ∷ Brz 2 9 ∷ Switch 3 (length tags) ∷ [] in
        ap (λ l. l ++ rest) whole ∙ append_assoc old (head ++ (table ++ Jmp 2 ∷ [])) rest
        ∙ ap (λ l. old ++ (head ++ l)) (append_assoc table (Jmp 2 ∷ []) rest)
