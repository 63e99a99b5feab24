-- A walk over steps, and over arms, one by one.
use Rattle.std.proofs.Common.{◌≡◌, refl, ℕ, suc, ◌+◌, List, [], ◌∷◌, ◌++◌, length, sym, ap, ◌∙◌, arith, append_assoc, append-nil, length-append, get_or}
use Rattle.std.proofs.Math.ListN.{set}
use Rattle.std.proofs.Math.Seq.{set-append_seam}
use Rattle.first_values.specs.Equality.{Shape}
use Rattle.ssa_tree.specs.TreeOf.{StepTree, ArmTree}
use Rattle.machine_code.specs.Rows.{Rows}
use Rattle.machine_code.specs.Code.{Choice, test_arm_size}
use Rattle.walk_labels.specs.Labels.{Frame, entered, entered_all, blank, size_of, labels, head_size, end_size, head_sizes, end_sizes, opened, closed, ended, opened_all, closed_all, ended_all, number_of, numbers_of, arms_from, arms_within, arms_long}

-- a label that has no place gets one
pub settled : (front back now new : List ℕ) (x n q : ℕ) → now ≡ front ++ (x ∷ back) → n ≡ length front → new ≡ set now n q → new ≡ front ++ (q ∷ back)
settled front back now new x n q h hn hs = hs ∙ ap (λ l. set l n q) h ∙ ap (λ k. set (front ++ x ∷ back) k q) hn ∙ set-append_seam front x back q

pub all-more : (f : Frame) (pre : List StepTree) (g : StepTree) → entered_all f (pre ++ g ∷ []) ≡ entered (entered_all f pre) g
all-more f [] g = refl
all-more f (x ∷ pre) g = all-more (entered f x) pre g

module _ (rows : Rows) (types : List Shape) where
  heads-more : (f : Frame) (pre : List StepTree) (g : StepTree)
      → head_sizes rows types f (pre ++ g ∷ []) ≡ head_sizes rows types f pre + head_size rows types (entered_all f pre) g
  heads-more f [] g = omega arith
  heads-more f (x ∷ pre) g = omega (arith, heads-more (entered f x) pre g)

  opened-more : (pc : ℕ) (f : Frame) (pre : List StepTree) (g : StepTree)
      → opened_all rows types pc f (pre ++ g ∷ []) ≡ opened_all rows types pc f pre ++ opened rows types (pc + head_sizes rows types f pre) (entered_all f pre) g
  opened-more pc f [] g = append-nil _ ∙ ap (λ z. opened rows types z f g) (let e : pc ≡ pc + 0 = omega arith in e)
  opened-more pc f (x ∷ pre) g =
      let at = pc + head_size rows types f x in
      let same : at + head_sizes rows types (entered f x) pre ≡ pc + (head_size rows types f x + head_sizes rows types (entered f x) pre) = omega arith in
      ap (λ z. opened rows types pc f x ++ z)
      (opened-more at (entered f x) pre g
      ∙ ap (λ z. opened_all rows types at (entered f x) pre ++ opened rows types z (entered_all (entered f x) pre) g) same)
      ∙ sym (append_assoc (opened rows types pc f x) (opened_all rows types at (entered f x) pre) _)

  pub number-at : (n pc : ℕ) (f : Frame) (pre : List StepTree) (g : StepTree) (post : List StepTree)
      → get_or (numbers_of rows types n pc f (pre ++ g ∷ post)) (length pre) 0 ≡ number_of (n + length (opened_all rows types pc f pre)) g
  number-at n pc f [] g post = ap (λ z. number_of z g) (let e : n ≡ n + 0 = omega arith in e)
  number-at n pc f (x ∷ pre) g post =
      let at = pc + head_size rows types f x in
      let more = opened_all rows types at (entered f x) pre in
      let here = opened rows types pc f x in
      number-at (n + length here) at (entered f x) pre g post
      ∙ ap (λ z. number_of z g) (let e : n + length here + length more ≡ n + length (here ++ more) = omega (arith, length-append here more) in e)

  -- the heads of some steps are there
  pub record HeadsMet (gs rest : List StepTree) (ns : List ℕ) (pc p : ℕ) (f k : Frame) (old now : List ℕ) : Type 0 where
    pub found : now ++ opened_all rows types p k rest ≡ old ++ opened_all rows types pc f gs
    pub frame : entered_all k rest ≡ entered_all f gs
    pub place : p + head_sizes rows types k rest ≡ pc + head_sizes rows types f gs
    pub numbers : ns ++ numbers_of rows types (length now) p k rest ≡ numbers_of rows types (length old) pc f gs

  pub heads-begun : (gs : List StepTree) (pc : ℕ) (f : Frame) (old : List ℕ) → HeadsMet gs gs [] pc pc f f old old
  heads-begun gs pc f old = record { found = refl; frame = refl; place = refl; numbers = refl }

  pub heads-met : (gs rest : List StepTree) (g : StepTree) (ns : List ℕ) (n pc p p' : ℕ) (f k k' : Frame) (old now new : List ℕ)
      → HeadsMet gs (g ∷ rest) ns pc p f k old now → n ≡ number_of (length now) g → p' ≡ p + head_size rows types k g → k' ≡ entered k g
      → new ≡ now ++ opened rows types p k g → HeadsMet gs rest (ns ++ n ∷ []) pc p' f k' old new
  heads-met gs rest g ns n pc p p' f k k' old now new met hn hp hk hl =
      let one = now ++ opened rows types p k g in
      let q = p + head_size rows types k g in
      let long : length new ≡ length now + length (opened rows types p k g) = ap length hl ∙ length-append now (opened rows types p k g) in
      record {
        found = ap (λ l. l ++ opened_all rows types p' k' rest) hl ∙ ap (λ z. one ++ opened_all rows types z k' rest) hp
            ∙ ap (λ z. one ++ opened_all rows types q z rest) hk ∙ append_assoc now (opened rows types p k g) (opened_all rows types q (entered k g) rest) ∙ met.found;
        frame = ap (λ z. entered_all z rest) hk ∙ met.frame;
        place = ap (λ z. p' + head_sizes rows types z rest) hk
            ∙ (let e : p' + head_sizes rows types (entered k g) rest ≡ p + (head_size rows types k g + head_sizes rows types (entered k g) rest) = omega (arith, hp) in e)
            ∙ met.place;
        numbers = append_assoc ns (n ∷ []) (numbers_of rows types (length new) p' k' rest)
            ∙ ap (λ z. ns ++ (z ∷ numbers_of rows types (length new) p' k' rest)) hn
            ∙ ap (λ z. ns ++ (number_of (length now) g ∷ numbers_of rows types z p' k' rest)) long
            ∙ ap (λ z. ns ++ (number_of (length now) g ∷ numbers_of rows types (length now + length (opened rows types p k g)) z k' rest)) hp
            ∙ ap (λ z. ns ++ (number_of (length now) g ∷ numbers_of rows types (length now + length (opened rows types p k g)) q z rest)) hk
            ∙ met.numbers;
      }

  -- some of the last steps have ended: q is behind the rest, and the labels before these steps and those of the rest are around
  pub record EndsMet (pre post : List StepTree) (pc q p : ℕ) (f k : Frame) (front rest now : List ℕ) : Type 0 where
    pub frame : k ≡ entered_all f pre
    pub place : p ≡ q + end_sizes rows types (entered_all f pre) post
    pub found : now ≡ front ++ (opened_all rows types pc f pre
        ++ (closed_all rows types q (pc + head_sizes rows types f pre) (entered_all f pre) post ++ (rest ++ ended_all rows types q (entered_all f pre) post)))

  pub ends-begun : (gs : List StepTree) (pc q : ℕ) (f k : Frame) (front rest now : List ℕ) → k ≡ entered_all f gs → now ≡ front ++ (opened_all rows types pc f gs ++ rest)
      → EndsMet gs [] pc q q f k front rest now
  ends-begun gs pc q f k front rest now hk hl = record {
    frame = hk;
    place = omega arith;
    found = hl ∙ ap (λ z. front ++ (opened_all rows types pc f gs ++ z)) (sym (append-nil rest));
  }

  -- what is so where a step ends
  pub ends-at : (pre : List StepTree) (g : StepTree) (post : List StepTree) (pc q p : ℕ) (f k : Frame) (front rest now : List ℕ)
      → EndsMet (pre ++ g ∷ []) post pc q p f k front rest now
      → (k ≡ entered (entered_all f pre) g) × (p ≡ q + end_sizes rows types (entered (entered_all f pre) g) post)
      × (now ≡ (front ++ opened_all rows types pc f pre) ++ (opened rows types (pc + head_sizes rows types f pre) (entered_all f pre) g
      ++ (closed_all rows types q (pc + head_sizes rows types f pre + head_size rows types (entered_all f pre) g) (entered (entered_all f pre) g) post
      ++ (rest ++ ended_all rows types q (entered (entered_all f pre) g) post))))
  ends-at pre g post pc q p f k front rest now met =
      let one = entered_all f pre in
      let at = pc + head_sizes rows types f pre in
      let before = opened_all rows types pc f pre in
      let this = opened rows types at one g in
      let places = λ (z : ℕ) (h : Frame). closed_all rows types q z h post ++ (rest ++ ended_all rows types q h post) in
      let far : pc + head_sizes rows types f (pre ++ g ∷ []) ≡ at + head_size rows types one g = omega (arith, heads-more f pre g) in (
        met.frame ∙ all-more f pre g,
        met.place ∙ ap (λ h. q + end_sizes rows types h post) (all-more f pre g),
        met.found ∙ ap (λ z. front ++ (z ++ places (pc + head_sizes rows types f (pre ++ g ∷ [])) (entered_all f (pre ++ g ∷ [])))) (opened-more pc f pre g)
            ∙ ap (λ h. front ++ ((before ++ this) ++ places (pc + head_sizes rows types f (pre ++ g ∷ [])) h)) (all-more f pre g)
            ∙ ap (λ z. front ++ ((before ++ this) ++ places z (entered one g))) far
            ∙ ap (λ z. front ++ z) (append_assoc before this (places (at + head_size rows types one g) (entered one g)))
            ∙ sym (append_assoc front before (this ++ places (at + head_size rows types one g) (entered one g))),
      )

  pub ends-met : (pre : List StepTree) (g : StepTree) (post : List StepTree) (pc q p p' : ℕ) (f k : Frame) (front rest new : List ℕ)
      → p ≡ q + end_sizes rows types (entered (entered_all f pre) g) post → k ≡ entered_all f pre → p' ≡ p + end_size rows types (entered_all f pre) g
      → new ≡ (front ++ opened_all rows types pc f pre) ++ (closed rows types p (pc + head_sizes rows types f pre) (entered_all f pre) g
      ++ ((closed_all rows types q (pc + head_sizes rows types f pre + head_size rows types (entered_all f pre) g) (entered (entered_all f pre) g) post
      ++ (rest ++ ended_all rows types q (entered (entered_all f pre) g) post)) ++ ended rows types p (entered_all f pre) g))
      → EndsMet pre (g ∷ post) pc q p' f k front rest new
  ends-met pre g post pc q p p' f k front rest new hp hk hq hl =
      let one = entered_all f pre in
      let at = pc + head_sizes rows types f pre in
      let far = q + end_sizes rows types (entered one g) post in
      let before = opened_all rows types pc f pre in
      let a = closed rows types far at one g in
      let b = closed_all rows types q (at + head_size rows types one g) (entered one g) post in
      let c = ended_all rows types q (entered one g) post in
      let d = ended rows types far one g in
      record {
        frame = hk;
        place = omega (arith, hq, hp);
        found = hl
            ∙ ap (λ z. (front ++ before) ++ (closed rows types z at one g ++ ((b ++ (rest ++ c)) ++ ended rows types z one g))) hp
            ∙ append_assoc front before (a ++ ((b ++ (rest ++ c)) ++ d))
            ∙ ap (λ z. front ++ (before ++ (a ++ z))) (append_assoc b (rest ++ c) d ∙ ap (λ z. b ++ z) (append_assoc rest c d))
            ∙ ap (λ z. front ++ (before ++ z)) (sym (append_assoc a b (rest ++ (c ++ d))));
      }

  -- some of the arms are there
  pub record ArmsMet (how : Choice) (as_ rest : List ArmTree) (n m q p : ℕ) (f k : Frame) (front back now : List ℕ) : Type 0 where
    pub frame : k ≡ f
    pub place : p + arms_long rows types how f rest ≡ q + arms_long rows types how f as_
    pub number : m + length rest ≡ n + length as_
    pub found : (met within : List ℕ) × (now ≡ front ++ (met ++ (blank (length rest) ++ (back ++ within)))) × (m ≡ length front + length met)
        × (met ++ arms_from rows types how p f rest ≡ arms_from rows types how q f as_) × (within ++ arms_within rows types how p f rest ≡ arms_within rows types how q f as_)

  pub arms-begun : (how : Choice) (as_ : List ArmTree) (n q : ℕ) (f : Frame) (front back now : List ℕ) → n ≡ length front → now ≡ front ++ (blank (length as_) ++ back)
      → ArmsMet how as_ as_ n n q q f f front back now
  arms-begun how as_ n q f front back now hn hl = record {
    frame = refl;
    place = refl;
    number = refl;
    found = ([], [], hl ∙ ap (λ z. front ++ (blank (length as_) ++ z)) (sym (append-nil back)), omega (arith, hn), refl, refl);
  }

  pub arms-met : (how : Choice) (as_ rest : List ArmTree) (a : ArmTree) (n m m' q p p' : ℕ) (f k k' : Frame) (front back now mid new : List ℕ)
      → ArmsMet how as_ (a ∷ rest) n m q p f k front back now → mid ≡ set now m p → new ≡ mid ++ labels rows types (p + test_arm_size how) k a.body
      → m' ≡ suc m → p' ≡ p + test_arm_size how + size_of rows types k a.body → k' ≡ k → ArmsMet how as_ rest n m' q p' f k' front back new
  arms-met how as_ rest a n m m' q p p' f k k' front back now mid new so_far hs hl hm hp hk =
      let met = so_far.found.0 in
      let within = so_far.found.1 in
      let this = labels rows types (p + test_arm_size how) f a.body in
      let tail_ = blank (length rest) ++ (back ++ within) in
      let next = p + test_arm_size how + size_of rows types f a.body in
      let hp' : p' ≡ next = hp ∙ ap (λ z. p + test_arm_size how + size_of rows types z a.body) so_far.frame in
      let mid-is : mid ≡ (front ++ met) ++ (p ∷ tail_) =
      settled (front ++ met) tail_ now mid 0 m p (so_far.found.2 ∙ sym (append_assoc front met (0 ∷ tail_))) (so_far.found.3 ∙ sym (length-append front met)) hs in
      record {
        frame = hk ∙ so_far.frame;
        place = (let e : p' + arms_long rows types how f rest ≡ p + (test_arm_size how + size_of rows types f a.body + arms_long rows types how f rest) = omega (arith, hp') in e) ∙ so_far.place;
        number = omega (arith, hm, so_far.number);
        found = (
          met ++ p ∷ [],
          within ++ this,
          hl ∙ ap (λ z. mid ++ labels rows types (p + test_arm_size how) z a.body) so_far.frame
              ∙ ap (λ z. z ++ this) mid-is
              ∙ append_assoc (front ++ met) (p ∷ tail_) this
              ∙ append_assoc front met (p ∷ (tail_ ++ this))
              ∙ ap (λ z. front ++ z) (sym (append_assoc met (p ∷ []) (tail_ ++ this)))
              ∙ ap (λ z. front ++ ((met ++ p ∷ []) ++ z))
              (append_assoc (blank (length rest)) (back ++ within) this ∙ ap (λ z. blank (length rest) ++ z) (append_assoc back within this)),
          omega (arith, hm, so_far.found.3, length-append met (p ∷ [])),
          append_assoc met (p ∷ []) (arms_from rows types how p' f rest) ∙ ap (λ z. met ++ (p ∷ arms_from rows types how z f rest)) hp' ∙ so_far.found.4,
          append_assoc within this (arms_within rows types how p' f rest) ∙ ap (λ z. within ++ (this ++ arms_within rows types how z f rest)) hp' ∙ so_far.found.5,
        );
      }

  pub arms-done : (how : Choice) (as_ rest : List ArmTree) (n m q p : ℕ) (f k : Frame) (front back now : List ℕ) → rest ≡ [] → ArmsMet how as_ rest n m q p f k front back now
      → (k ≡ f) × (p ≡ q + arms_long rows types how f as_) × (m ≡ n + length as_)
      × (now ≡ front ++ (arms_from rows types how q f as_ ++ (back ++ arms_within rows types how q f as_)))
  arms-done how as_ rest n m q p f k front back now none so_far =
      let met = so_far.found.0 in
      let within = so_far.found.1 in
      let all-met : met ≡ arms_from rows types how q f as_ =
      sym (append-nil met) ∙ ap (λ z. met ++ arms_from rows types how p f z) (sym none) ∙ so_far.found.4 in
      let all-within : within ≡ arms_within rows types how q f as_ =
      sym (append-nil within) ∙ ap (λ z. within ++ arms_within rows types how p f z) (sym none) ∙ so_far.found.5 in (
        so_far.frame,
        (let e : p ≡ p + arms_long rows types how f [] = omega arith in e) ∙ ap (λ z. p + arms_long rows types how f z) (sym none) ∙ so_far.place,
        (let e : m ≡ m + length {A = ArmTree} [] = omega arith in e) ∙ ap (λ z. m + length z) (sym none) ∙ so_far.number,
        so_far.found.2 ∙ ap (λ z. front ++ (met ++ (blank (length z) ++ (back ++ within)))) none
            ∙ ap (λ z. front ++ (z ++ (back ++ within))) all-met ∙ ap (λ z. front ++ (arms_from rows types how q f as_ ++ (back ++ z))) all-within,
      )
