-- The routines are short.
use Rattle.std.proofs.Common.{◌≡◌, ℕ, zero, suc, ◌+◌, ◌-◌, ◌*◌, ◌/◌, ◌<◌, ◌≤◌, List, [], ◌∷◌, ◌++◌, length, take, drop, Bool, true, false, refl, sym, ap, ◌∙◌, subst, arith, length-append, take-append-drop, length-drop, length-take}
use Rattle.std.specs.Prelude.{nat_le, if◌then◌else◌}
use Rattle.std.proofs.lemmas.Bool.{leb-true}
use Rattle.ir_code.specs.declared.instr.Instr.TheVariants.{Jmp}
use Rattle.first_values.specs.Equality.{Shape, numbers, texts, cells, references, opaque}
use Rattle.machine_routines.specs.EqualCode.{shape_code, Way as PartWay, by_word, as_last, as_inner, way_size as part_size, way_at, parts_size, tags_size, shape_size, shapes_code}
use Rattle.machine_routines.specs.FindCode.{Target, Way, Search, only, exactly, node, search_size, search_code, half, joined, search_of, by_table, by_search, way_of, way_size, way_code, jumps}
use Rattle.machine_routines.specs.Sizes.{tags_nodes, shape_nodes, shapes_nodes, EqualIsShort, FindIsShort}
use Rattle.machine_routines.proofs.Stands.{shape_length}

part_bound : (w : PartWay) → part_size w ≤ 10
part_bound by_word = omega arith
part_bound as_last = omega arith
part_bound as_inner = omega arith

parts_bound : (shapes : List Shape) (ts : List ℕ) → parts_size shapes ts ≤ 1 + 10 * length ts
parts_bound shapes [] = omega arith
parts_bound shapes (t ∷ ts) = omega (arith, part_bound (way_at shapes t ts), parts_bound shapes ts)

tags_bound : (shapes : List Shape) (tags : List (List ℕ)) → tags_size shapes tags ≤ 10 * tags_nodes tags
tags_bound shapes [] = omega arith
tags_bound shapes (ts ∷ rest) = omega (arith, parts_bound shapes ts, tags_bound shapes rest)

tags_count : (tags : List (List ℕ)) → length tags ≤ tags_nodes tags
tags_count [] = omega arith
tags_count (ts ∷ rest) = omega (arith, tags_count rest)

pub shape_bound : (shapes : List Shape) (s : Shape) → shape_size shapes s ≤ 11 * shape_nodes s
shape_bound shapes numbers = omega arith
shape_bound shapes texts = omega arith
shape_bound shapes (cells tags) = omega (arith, tags_bound shapes tags, tags_count tags)
shape_bound shapes references = omega arith
shape_bound shapes opaque = omega arith

shapes_bound : (shapes : List Shape) (start most o : ℕ) (ss : List Shape) → length (shapes_code shapes start most o ss) ≤ 11 * shapes_nodes ss
shapes_bound shapes start most o [] = omega arith
shapes_bound shapes start most o (s ∷ ss) =
    let rest = shapes_code shapes start most (o + shape_size shapes s) ss in
    omega (
      arith,
      length-append (shape_code shapes start most o s) rest,
      shape_length shapes start most o s,
      shape_bound shapes s,
      shapes_bound shapes start most (o + shape_size shapes s) ss,
    )

pub equal_is_short : EqualIsShort
equal_is_short shapes start most = omega (arith, shapes_bound shapes start most 2 shapes)

-- Going to a tag's place.

joined_bound : (p : ℕ) (xs ys : List Target) (a b : Search) → length xs ≡ length (xs ++ ys) / 2 → 1 ≤ length (xs ++ ys)
    → (0 < length xs → search_size a + 3 ≤ 4 * length xs) → (0 < length xs → search_size b + 3 ≤ 4 * length ys)
    → search_size (joined false p xs ys a b) + 3 ≤ 4 * length (xs ++ ys)
joined_bound p [] [] a b n some l r = absurd (omega arith)
joined_bound p (x ∷ xs) [] a b n some l r = absurd (omega (arith, length-append (x ∷ xs) []))
joined_bound p [] (m ∷ ms) a b n some l r = omega arith
joined_bound p (x ∷ xs) (m ∷ ms) a b n some l r = let h = l (omega arith) in let k = r (omega arith) in omega (arith, h, k, length-append xs (m ∷ ms))

search_bound : (p k : ℕ) (set : List Target) → length set ≤ k → 1 ≤ length set → search_size (search_of false p k set) + 3 ≤ 4 * length set
search_bound p zero set le some = absurd (omega arith)
search_bound p (suc k) set le some =
    let n = half set in
    let xs = take n set in let ys = drop n set in
    let whole : xs ++ ys ≡ set = take-append-drop n set in
    let nx : length xs ≡ n = omega (arith, length-take n set) in
    let ny : length ys ≡ length set - n = length-drop n set in
    let half_of : length xs ≡ length (xs ++ ys) / 2 = nx ∙ ap (λ z. length z / 2) (sym whole) in
    subst (λ z. search_size (search_of false p (suc k) set) + 3 ≤ 4 * length z) whole
    (joined_bound p xs ys (search_of false p k xs) (search_of false p k ys) half_of (omega (arith, ap length whole))
    (λ h. search_bound p k xs (omega (arith, nx)) h)
    (λ h. search_bound p k ys (omega (arith, nx, ny)) (omega (arith, nx, ny))))

way_bound : (p n : ℕ) (set : List Target) → way_size (way_of false p n set) ≤ 2 + 4 * length set
way_bound p n set = by (nat_le n (2 * length set)) refl
  where
    searched : (set : List Target) → search_size (search_of false p (length set) set) ≤ 2 + 4 * length set
    searched [] = omega arith
    searched (m ∷ ms) = let h = search_bound p (length (m ∷ ms)) (m ∷ ms) (omega arith) (omega arith) in omega (arith, h)

    by : (b : Bool) → nat_le n (2 * length set) ≡ b → way_size (if b then by_table n else by_search (search_of false p (length set) set)) ≤ 2 + 4 * length set
    by true e = let h = leb-true n (2 * length set) e in omega (arith, h)
    by false e = searched set

search_length : (pc k e p : ℕ) (s : Search) → length (search_code pc k e p s) ≡ search_size s
search_length pc k e p (only q) = refl
search_length pc k e p (exactly u q) = refl
search_length pc k e p (node c a b) =
    let l = search_code (pc + 3) k e p a in let r = search_code (pc + 3 + search_size a) k e p b in
    omega (arith, length-append l r, search_length (pc + 3) k e p a, search_length (pc + 3 + search_size a) k e p b)

jumps_length : (set : List Target) (p i n : ℕ) → length (jumps set p i n) ≡ n
jumps_length set p i zero = refl
jumps_length set p i (suc n) = ap suc (jumps_length set p (suc i) n)

way_length : (set : List Target) (pc k e p : ℕ) (w : Way) → length (way_code set pc k e p w) ≡ way_size w
way_length set pc k e p (by_table n) = omega (arith, length-append (jumps set p 0 n) (Jmp p ∷ []), jumps_length set p 0 n)
way_length set pc k e p (by_search s) = search_length pc k e p s

pub find_is_short : FindIsShort
find_is_short set pc k e p n = omega (arith, way_length set pc k e p (way_of false p n set), way_bound p n set)
