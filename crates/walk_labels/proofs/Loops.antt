-- How far a walk comes with one more of what a loop goes over.
use Rattle.std.proofs.Common.{◌≡◌, refl, ℕ, suc, ◌+◌, ◌<◌, ◌≤◌, List, [], ◌∷◌, ◌++◌, length, map, take, drop, Bool, true, sym, ap, ◌∙◌, subst, arith, append_assoc, append-nil, length-append, get_or}
use Rattle.std.proofs.lemmas.List.{map_more, map-append, drop_more, drop_all, take_all, length-map, length-set, length-take, take-append-drop}
use Rattle.std.proofs.Math.ListN.{set}
use Rattle.first_values.specs.Equality.{Shape}
use Rattle.ir_ssa.specs.Tree.{Body}
use Rattle.ssa_tree.specs.TreeOf.{StepTree, ArmTree}
use Rattle.machine_code.specs.Rows.{Rows}
use Rattle.machine_code.specs.Code.{Choice, test_arm_size}
use Rattle.walk_labels.specs.Labels.{Frame, entered, entered_all, blank, size_of, labels, head_size, head_sizes, end_sizes, opened, closed, ended, opened_all, closed_all, ended_all, number_of, numbers_of, arms_from, arms_within, arms_long}
use Rattle.walk_labels.specs.Marks.{Mark, Foretold, past_body, past_head, past_heads, past_end, past_ends}
use Rattle.walk_labels.proofs.Sizes.{blank-length, opened-lengths}
use Rattle.walk_labels.proofs.Walks.{all-more, number-at, EndsMet, ends-begun, ends-at, ends-met, ArmsMet, arms-begun, arms-met, arms-done}
use Rattle.walk_labels.proofs.Told.{told-closed, told-ended, told-first, told-from, told-left, told-right, told-same}
use Rattle.walk_labels.proofs.Marks.{mark-is}

abbrev place_in : Mark → ℕ
place_in m = m.place

abbrev found_in : Mark → List ℕ
found_in m = m.found

module _ (rows : Rows) (types : List Shape) where
  heads-more : (f : Frame) (pre : List StepTree) (g : StepTree)
      → head_sizes rows types f (pre ++ g ∷ []) ≡ head_sizes rows types f pre + head_size rows types (entered_all f pre) g
  heads-more f [] g = omega arith
  heads-more f (x ∷ pre) g = omega (arith, heads-more (entered f x) pre g)

  opened-more : (f : Frame) (pre : List StepTree) (g : StepTree) (pc : ℕ)
      → opened_all rows types pc f (pre ++ g ∷ []) ≡ opened_all rows types pc f pre ++ opened rows types (pc + head_sizes rows types f pre) (entered_all f pre) g
  opened-more f [] g pc = append-nil _ ∙ ap (λ z. opened rows types z f g) (let e : pc ≡ pc + 0 = omega arith in e)
  opened-more f (x ∷ pre) g pc =
      let at = pc + head_size rows types f x in
      let same : at + head_sizes rows types (entered f x) pre ≡ pc + (head_size rows types f x + head_sizes rows types (entered f x) pre) = omega arith in
      ap (λ z. opened rows types pc f x ++ z)
      (opened-more (entered f x) pre g at
      ∙ ap (λ z. opened_all rows types at (entered f x) pre ++ opened rows types z (entered_all (entered f x) pre) g) same)
      ∙ sym (append_assoc (opened rows types pc f x) (opened_all rows types at (entered f x) pre) _)

  opened-both : (f : Frame) (pre : List StepTree) (rest : List StepTree) (pc : ℕ) → length (opened_all rows types pc f (pre ++ rest))
      ≡ length (opened_all rows types pc f pre) + length (opened_all rows types (pc + head_sizes rows types f pre) (entered_all f pre) rest)
  opened-both f [] rest pc =
      let same = ap (λ z. length (opened_all rows types z f rest)) (let e : pc ≡ pc + 0 = omega arith in e) in
      omega (arith, same)
  opened-both f (x ∷ pre) rest pc =
      let at = pc + head_size rows types f x in
      let same : at + head_sizes rows types (entered f x) pre ≡ pc + (head_size rows types f x + head_sizes rows types (entered f x) pre) = omega arith in
      let far = ap (λ z. length (opened_all rows types z (entered_all (entered f x) pre) rest)) same in
      omega (
        arith,
        length-append (opened rows types pc f x) (opened_all rows types at (entered f x) (pre ++ rest)),
        length-append (opened rows types pc f x) (opened_all rows types at (entered f x) pre),
        opened-both (entered f x) pre rest at,
        far,
      )

  numbers-more : (f : Frame) (pre : List StepTree) (g : StepTree) (n pc : ℕ)
      → numbers_of rows types n pc f (pre ++ g ∷ []) ≡ numbers_of rows types n pc f pre ++ number_of (n + length (opened_all rows types pc f pre)) g ∷ []
  numbers-more f [] g n pc = ap (λ z. number_of z g ∷ []) (let e : n ≡ n + 0 = omega arith in e)
  numbers-more f (x ∷ pre) g n pc =
      let at = pc + head_size rows types f x in
      let here = opened rows types pc f x in
      let more = opened_all rows types at (entered f x) pre in
      ap (λ z. number_of n x ∷ z)
      (numbers-more (entered f x) pre g (n + length here) at
      ∙ ap (λ z. numbers_of rows types (n + length here) at (entered f x) pre ++ number_of z g ∷ [])
      (let e : n + length here + length more ≡ n + length (here ++ more) = omega (arith, length-append here more) in e))

  past-more : (pre : List StepTree) (g : StepTree) (m : Mark) → past_heads rows types (pre ++ g ∷ []) m ≡ past_head rows types g (past_heads rows types pre m)
  past-more pre g m =
      mark-is (past_heads rows types (pre ++ g ∷ []) m) (past_head rows types g (past_heads rows types pre m))
      (omega (arith, heads-more m.frame pre g)) (all-more m.frame pre g)
      (ap (λ z. m.found ++ z) (opened-more m.frame pre g m.place) ∙ sym (append_assoc m.found (opened_all rows types m.place m.frame pre) _))

  module _ {X : Type 0} (step : X → StepTree) (xs : List X) (i : ℕ) (x : X) (lt : i < length xs) (is : x ≡ get_or xs i x) where
    abbrev pre : List StepTree
    pre = map step (take i xs)

    abbrev post : List StepTree
    post = map step (drop (i + 1) xs)

    more : map step (take (i + 1) xs) ≡ pre ++ step x ∷ []
    more = map_more step xs i x lt ∙ ap (λ z. pre ++ step z ∷ []) (sym is)

    behind : map step (drop i xs) ≡ step x ∷ post
    behind = ap (map step) (drop_more xs i x lt) ∙ ap (λ z. step z ∷ post) (sym is)

    whole : map step xs ≡ pre ++ step x ∷ post
    whole = ap (map step) (sym (take-append-drop i xs)) ∙ map-append step (take i xs) (drop i xs) ∙ ap (λ z. pre ++ z) behind

    pre-long : length pre ≡ i
    pre-long = length-map (take i xs) step ∙ length-take i xs ∙ (let e = lt in omega (arith, e))

    pub heads-marks : (m0 m m' : Mark) → m ≡ past_heads rows types pre m0 → m' ≡ past_head rows types (step x) m
        → m' ≡ past_heads rows types (map step (take (i + 1) xs)) m0
    heads-marks m0 m m' h k =
        k ∙ ap (past_head rows types (step x)) h ∙ sym (past-more pre (step x) m0) ∙ ap (λ z. past_heads rows types z m0) (sym more)

    pub heads-numbers : (ns ns' : List ℕ) (n : ℕ) (m0 m : Mark) → m ≡ past_heads rows types pre m0
        → ns ≡ numbers_of rows types (length m0.found) m0.place m0.frame pre → n ≡ number_of (length m.found) (step x) → ns' ≡ ns ++ n ∷ []
        → ns' ≡ numbers_of rows types (length m0.found) m0.place m0.frame (map step (take (i + 1) xs))
    heads-numbers ns ns' n m0 m h hs hn hl =
        let long : length m.found ≡ length m0.found + length (opened_all rows types m0.place m0.frame pre) =
        ap (λ (z : Mark). length z.found) h ∙ length-append m0.found (opened_all rows types m0.place m0.frame pre) in
        hl ∙ ap (λ z. z ++ n ∷ []) hs
        ∙ ap (λ z. numbers_of rows types (length m0.found) m0.place m0.frame pre ++ z ∷ []) (hn ∙ ap (λ z. number_of z (step x)) long)
        ∙ sym (numbers-more m0.frame pre (step x) (length m0.found) m0.place)
        ∙ ap (λ z. numbers_of rows types (length m0.found) m0.place m0.frame z) (sym more)

    pub heads-told : {A : Type 0} (sure : Bool) (all : List ℕ) (q : ℕ) (m0 m : Mark) → m ≡ past_heads rows types pre m0
        → Foretold sure all (length m0.found) (closed_all rows types q m0.place m0.frame (map step xs))
        → ((p : ℕ) → Foretold sure all (length m.found) (closed rows types p m.place m.frame (step x)) → A) → A
    heads-told sure all q m0 m h told k =
        let at = past_heads rows types pre m0 in
        let p = q + end_sizes rows types (entered at.frame (step x)) post in
        k p (subst (λ (z : Mark). Foretold sure all (length z.found) (closed rows types p z.place z.frame (step x))) (sym h)
        (λ s. told-from all (length m0.found + length (opened_all rows types m0.place m0.frame pre)) (length at.found) _
        (sym (length-append m0.found (opened_all rows types m0.place m0.frame pre)))
        (told-closed all rows types pre (length m0.found) q m0.place m0.frame (step x) post
        (told-same all (length m0.found) _ _ (ap (closed_all rows types q m0.place m0.frame) whole) (told s)))))

    -- a step ends, with those behind it ended
    module _ (left pc q n : ℕ) (ns : List ℕ) (f : Frame) (front back : List ℕ) (m m' : Mark) (hi : left ≡ i + 1)
        (met : EndsMet rows types (map step (take left xs)) (map step (drop left xs)) pc q m.place f m.frame front back m.found)
        (hs : ns ≡ numbers_of rows types (length front) pc f (map step xs)) (hn : n ≡ get_or ns i 0) where
      abbrev one : Frame
      one = entered_all f pre

      abbrev here : ℕ
      here = pc + head_sizes rows types f pre

      abbrev around : List ℕ
      around = closed_all rows types q (here + head_size rows types one (step x)) (entered one (step x)) post
          ++ (back ++ ended_all rows types q (entered one (step x)) post)

      abbrev before_ : List ℕ
      before_ = front ++ opened_all rows types pc f pre

      now-met : EndsMet rows types (pre ++ step x ∷ []) post pc q m.place f m.frame front back m.found
      now-met =
          subst (λ l. EndsMet rows types l post pc q m.place f m.frame front back m.found) more
          (subst (λ z. EndsMet rows types (map step (take z xs)) (map step (drop z xs)) pc q m.place f m.frame front back m.found) hi met)

      pub this-number : n ≡ number_of (length before_) (step x)
      this-number =
          hn ∙ ap (λ z. get_or z i 0) (hs ∙ ap (numbers_of rows types (length front) pc f) whole)
          ∙ ap (λ z. get_or (numbers_of rows types (length front) pc f (pre ++ step x ∷ post)) z 0) (sym pre-long)
          ∙ number-at rows types (length front) pc f pre (step x) post
          ∙ ap (λ z. number_of z (step x)) (sym (length-append front (opened_all rows types pc f pre)))

      pub ends-turn : ((a b : List ℕ) (p : ℕ) (k : Frame) → m.frame ≡ entered k (step x) → m.found ≡ a ++ (opened rows types p k (step x) ++ b)
          → n ≡ number_of (length a) (step x) → m' ≡ past_end rows types a b p m.place k (step x))
          → EndsMet rows types (map step (take i xs)) (map step (drop i xs)) pc q m'.place f m'.frame front back m'.found
      ends-turn k =
          let at = ends-at rows types pre (step x) post pc q m.place f m.frame front back m.found now-met in
          let done = k before_ around here one at.0 at.2 this-number in
          subst (λ l. EndsMet rows types pre l pc q m'.place f m'.frame front back m'.found) (sym behind)
          (ends-met rows types pre (step x) post pc q m.place m'.place f m'.frame front back m'.found at.1 (ap (λ (z : Mark). z.frame) done) (ap place_in done) (ap found_in done))

      pub ends-turn-told : {A : Type 0} (sure : Bool) (all : List ℕ) (n0 : ℕ) → n0 ≡ length front + (length (opened_all rows types pc f (map step xs)) + length back)
          → Foretold sure all (length front) (closed_all rows types q pc f (map step xs)) → Foretold sure all n0 (ended_all rows types q f (map step xs))
          → ((a b : List ℕ) (p : ℕ) (k : Frame) → m.frame ≡ entered k (step x) → m.found ≡ a ++ (opened rows types p k (step x) ++ b)
          → n ≡ number_of (length a) (step x) → Foretold sure all (length a) (closed rows types m.place p k (step x))
          → Foretold sure all (length m.found) (ended rows types m.place k (step x)) → A) → A
      ends-turn-told sure all n0 h0 told inside k =
          let at = ends-at rows types pre (step x) post pc q m.place f m.frame front back m.found now-met in
          let next = entered one (step x) in
          let opened_ = opened_all rows types pc f pre in
          let this = opened rows types here one (step x) in
          let places = closed_all rows types q (here + head_size rows types one (step x)) next post in
          let ended_ = ended_all rows types q next post in
          let long : length m.found ≡ n0 + length ended_ =
          omega (
            arith,
            h0,
            ap length at.2,
            length-append before_ (this ++ around),
            length-append front opened_,
            length-append this around,
            length-append places (back ++ ended_),
            length-append back ended_,
            ap (λ l. length (opened_all rows types pc f l)) whole,
            opened-both f pre (step x ∷ post) pc,
            length-append this (opened_all rows types (here + head_size rows types one (step x)) next post),
            opened-lengths rows types q (here + head_size rows types one (step x)) next post,
          ) in
          k before_ around here one at.0 at.2 this-number
          (λ s. told-from all (length front + length opened_) (length before_) _ (sym (length-append front opened_))
          (told-same all (length front + length opened_) _ _ (ap (λ z. closed rows types z here one (step x)) (sym at.1))
          (told-closed all rows types pre (length front) q pc f (step x) post (told-same all (length front) _ _ (ap (closed_all rows types q pc f) whole) (told s)))))
          (λ s. told-from all (n0 + length ended_) (length m.found) _ (sym long)
          (told-same all (n0 + length ended_) _ _ (ap (λ z. ended rows types z one (step x)) (sym at.1))
          (told-right all n0 ended_ (ended rows types (q + end_sizes rows types next post) one (step x))
          (told-ended all rows types pre n0 q f (step x ∷ post) (told-same all n0 _ _ (ap (ended_all rows types q f) whole) (inside s))))))

  pub ends-start : {X : Type 0} (step : X → StepTree) (xs : List X) (n pc q : ℕ) (f k : Frame) (front back now : List ℕ) → n ≡ length xs
      → k ≡ entered_all f (map step xs) → now ≡ front ++ (opened_all rows types pc f (map step xs) ++ back)
      → EndsMet rows types (map step (take n xs)) (map step (drop n xs)) pc q q f k front back now
  ends-start step xs n pc q f k front back now hn hk hl =
      subst (λ l. EndsMet rows types l (map step (drop n xs)) pc q q f k front back now) (ap (map step) (sym (take_all n xs (omega (arith, hn)))))
      (subst (λ l. EndsMet rows types (map step xs) l pc q q f k front back now) (ap (map step) (sym (drop_all n xs (omega (arith, hn)))))
      (ends-begun rows types (map step xs) pc q f k front back now hk hl))

  pub ends-finish : {X : Type 0} (step : X → StepTree) (xs : List X) (n pc q : ℕ) (f : Frame) (front back : List ℕ) (m : Mark) → n ≤ 0
      → EndsMet rows types (map step (take n xs)) (map step (drop n xs)) pc q m.place f m.frame front back m.found
      → m ≡ past_ends rows types front back pc q f (map step xs)
  ends-finish step xs n pc q f front back m le met =
      let z : n ≡ 0 = omega (arith, le) in
      let done = subst (λ k. EndsMet rows types (map step (take k xs)) (map step (drop k xs)) pc q m.place f m.frame front back m.found) z met in
      let same : pc + 0 ≡ pc = omega arith in
      mark-is m (past_ends rows types front back pc q f (map step xs)) done.place done.frame
      (done.found ∙ ap (λ k. front ++ (closed_all rows types q k f (map step xs) ++ (back ++ ended_all rows types q f (map step xs)))) same)

  pub heads-start : (m : Mark) → m ≡ past_heads rows types [] m
  heads-start m = mark-is m (past_heads rows types [] m) (omega arith) refl (sym (append-nil m.found))

  -- Arms.

  arms-from-long : (how : Choice) (f : Frame) (as_ : List ArmTree) (q : ℕ) → length (arms_from rows types how q f as_) ≡ length as_
  arms-from-long how f [] q = refl
  arms-from-long how f (a ∷ as_) q = ap suc (arms-from-long how f as_ (q + test_arm_size how + size_of rows types f a.body))

  now-told : (how : Choice) (as_ rest : List ArmTree) (a : ArmTree) (n m q p n0 : ℕ) (f k : Frame) (front back now : List ℕ) (sure : Bool) (all : List ℕ)
      → ArmsMet rows types how as_ (a ∷ rest) n m q p f k front back now → n0 ≡ length front + (length as_ + length back)
      → Foretold sure all (length front) (arms_from rows types how q f as_) → Foretold sure all n0 (arms_within rows types how q f as_)
      → (sure ≡ true → get_or all m 0 ≡ p) × Foretold sure all (length now) (labels rows types (p + test_arm_size how) k a.body)
  now-told how as_ rest a n m q p n0 f k front back now sure all so_far h0 places inside =
      let met = so_far.found.0 in
      let within = so_far.found.1 in
      let next = p + test_arm_size how + size_of rows types f a.body in
      let long : length now ≡ n0 + length within =
      omega (
        arith,
        h0,
        ap length so_far.found.2,
        length-append front (met ++ (blank (suc (length rest)) ++ (back ++ within))),
        length-append met (blank (suc (length rest)) ++ (back ++ within)),
        length-append (blank (suc (length rest))) (back ++ within),
        length-append back within,
        blank-length (suc (length rest)),
        ap length so_far.found.4,
        length-append met (arms_from rows types how p f (a ∷ rest)),
        arms-from-long how f rest next,
        arms-from-long how f as_ q,
      ) in (
        (λ s. ap (λ z. get_or all z 0) so_far.found.3
            ∙ told-first all (length front + length met) p (arms_from rows types how next f rest)
            (told-right all (length front) met (p ∷ arms_from rows types how next f rest) (told-same all (length front) _ _ (sym so_far.found.4) (places s)))),
        (λ s. told-from all (n0 + length within) (length now) _ (sym long)
            (told-same all (n0 + length within) _ _ (ap (λ z. labels rows types (p + test_arm_size how) z a.body) (sym so_far.frame))
            (told-left all (n0 + length within) (labels rows types (p + test_arm_size how) f a.body) (arms_within rows types how next f rest)
            (told-right all n0 within (labels rows types (p + test_arm_size how) f a.body ++ arms_within rows types how next f rest)
            (told-same all n0 _ _ (sym so_far.found.5) (inside s)))))),
      )

  module _ {X : Type 0} (arm : X → ArmTree) (xs : List X) where
    pub arms-start : (how : Choice) (n q : ℕ) (f : Frame) (front back now : List ℕ) → n ≡ length front → now ≡ front ++ (blank (length xs) ++ back)
        → ArmsMet rows types how (map arm xs) (map arm xs) n n q q f f front back now
    arms-start how n q f front back now hn hl =
        arms-begun rows types how (map arm xs) n q f front back now hn (hl ∙ ap (λ z. front ++ (blank z ++ back)) (sym (length-map xs arm)))

    pub arms-finish : (how : Choice) (i n m q : ℕ) (m0 : Mark) (f : Frame) (front back : List ℕ) → length xs ≤ i
        → ArmsMet rows types how (map arm xs) (map arm (drop i xs)) n m q m0.place f m0.frame front back m0.found
        → (m0 ≡ record {
          place = q + arms_long rows types how f (map arm xs);
          frame = f;
          found = front ++ (arms_from rows types how q f (map arm xs) ++ (back ++ arms_within rows types how q f (map arm xs)));
        }) × (m ≡ n + length xs)
    arms-finish how i n m q m0 f front back le met =
        let d = arms-done rows types how (map arm xs) (map arm (drop i xs)) n m q m0.place f m0.frame front back m0.found (ap (map arm) (drop_all i xs le)) met in (
          mark-is m0 _ d.1 d.0 d.3,
          d.2 ∙ ap (λ z. n + z) (length-map xs arm),
        )

    module _ (i : ℕ) (x : X) (lt : i < length xs) (is : x ≡ get_or xs i x) (how : Choice) (n m q : ℕ) (f : Frame) (front back : List ℕ) (m0 : Mark)
        (met : ArmsMet rows types how (map arm xs) (map arm (drop i xs)) n m q m0.place f m0.frame front back m0.found) where
      now-met-arms : ArmsMet rows types how (map arm xs) (arm x ∷ map arm (drop (i + 1) xs)) n m q m0.place f m0.frame front back m0.found
      now-met-arms =
          subst (λ l. ArmsMet rows types how (map arm xs) l n m q m0.place f m0.frame front back m0.found)
          (ap (map arm) (drop_more xs i x lt) ∙ ap (λ z. arm z ∷ map arm (drop (i + 1) xs)) (sym is)) met

      pub arms-turn : (b : Body) (mid : List ℕ) (p1 m' : ℕ) (m1 : Mark) → (arm x).body ≡ b → mid ≡ set m0.found m m0.place → p1 ≡ m0.place + test_arm_size how
          → m1 ≡ past_body rows types b (record { place = p1; frame = m0.frame; found = mid }) → m' ≡ suc m
          → ArmsMet rows types how (map arm xs) (map arm (drop (i + 1) xs)) n m' q m1.place f m1.frame front back m1.found
      arms-turn b mid p1 m' m1 hb hs hp h1 hm =
          let third : m1 ≡ past_body rows types (arm x).body (record { place = m0.place + test_arm_size how; frame = m0.frame; found = mid }) =
          h1 ∙ ap (λ z. past_body rows types b (record { place = z; frame = m0.frame; found = mid })) hp
          ∙ ap (λ z. past_body rows types z (record { place = m0.place + test_arm_size how; frame = m0.frame; found = mid })) (sym hb) in
          arms-met rows types how (map arm xs) (map arm (drop (i + 1) xs)) (arm x) n m m' q m0.place m1.place f m0.frame m1.frame front back m0.found mid m1.found
          now-met-arms hs (ap found_in third) hm (ap place_in third) (ap (λ (z : Mark). z.frame) third)

      pub arms-turn-told : (sure : Bool) (all : List ℕ) (n0 : ℕ) → n0 ≡ length front + (length xs + length back)
          → Foretold sure all (length front) (arms_from rows types how q f (map arm xs)) → Foretold sure all n0 (arms_within rows types how q f (map arm xs))
          → (sure ≡ true → get_or all m 0 ≡ m0.place) × Foretold sure all (length m0.found) (labels rows types (m0.place + test_arm_size how) m0.frame (arm x).body)
      arms-turn-told sure all n0 h0 places inside =
          now-told how (map arm xs) (map arm (drop (i + 1) xs)) (arm x) n m q m0.place n0 f m0.frame front back m0.found sure all now-met-arms
          (h0 ∙ ap (λ z. length front + (z + length back)) (sym (length-map xs arm))) places inside

      pub body-told : (sure : Bool) (all : List ℕ) (b : Body) (mid : List ℕ) (p1 : ℕ) → (arm x).body ≡ b → mid ≡ set m0.found m m0.place → p1 ≡ m0.place + test_arm_size how
          → Foretold sure all (length m0.found) (labels rows types (m0.place + test_arm_size how) m0.frame (arm x).body)
          → Foretold sure all (length mid) (labels rows types p1 m0.frame b)
      body-told sure all b mid p1 hb hs hp told s =
          told-from all (length m0.found) (length mid) _ (sym (ap length hs ∙ length-set m0.found m m0.place))
          (told-same all (length m0.found) _ _
          (ap (labels rows types (m0.place + test_arm_size how) m0.frame) hb ∙ ap (λ z. labels rows types z m0.frame b) (sym hp)) (told s))
