-- Searches of targets.
use Rattle.std.proofs.Common.{◌≡◌, refl, ℕ, zero, suc, ◌+◌, ◌-◌, ◌*◌, ◌/◌, ◌<◌, ◌≤◌, List, [], ◌∷◌, ◌++◌, length, map, take, drop, append_assoc, length-append, Bool, true, false, sym, ap, ◌∙◌, arith, get_or}
use Rattle.std.proofs.Math.Nat.{mul_comm}
use Rattle.std.proofs.lemmas.List.{length-take-le, length-drop, drop_more}
use Rattle.machine_routines.specs.FindCode.{Target, only, node, half, leaf, joined, search_of, search_size, search_code}
use Rattle.ir_code.specs.declared.instr.Instr.{Instr}
use Rattle.ir_code.specs.declared.instr.Instr.TheVariants.{Li, ULt, Brz, Jmp}
use Rattle.machine_code.proofs.Sizes.{search_length}
use Rattle.emit_code.specs.declared.choice.Target.{Target as Choose}
use Rattle.emit_parts.specs.Labels.{numbered}
use Rattle.emit_code.specs.Tags.{each, target_of}

-- Searches.

pub search-node : (tests : Bool) (p k : ℕ) (set : List Target) (d : Target) → 2 ≤ length set
    → search_of tests p (suc k) set
    ≡ node (get_or (drop (half set) set) 0 d).tag (search_of tests p k (take (half set) set)) (search_of tests p k (drop (half set) set))
search-node tests p k set d h =
    both (take (half set) set) (drop (half set) set)
    (let t = length-take-le (half set) set (omega (arith, h)) in omega (arith, h, t))
    (let t = length-drop (half set) set in omega (arith, h, t))
  where
    both : (xs ys : List Target) → 1 ≤ length xs → 1 ≤ length ys
        → joined tests p xs ys (search_of tests p k (take (half set) set)) (search_of tests p k (drop (half set) set))
        ≡ node (get_or ys 0 d).tag (search_of tests p k (take (half set) set)) (search_of tests p k (drop (half set) set))
    both [] ys a b = absurd (omega (arith, a))
    both (x ∷ xs) [] a b = absurd (omega (arith, b))
    both (x ∷ xs) (y ∷ ys) a b = refl

pub search-one : (tests : Bool) (p k : ℕ) (m : Target) → search_of tests p (suc k) (m ∷ []) ≡ leaf tests m
search-one tests p k m = refl

pub search-none : (tests : Bool) (p k : ℕ) → search_of tests p k [] ≡ only p
search-none tests p zero = refl
search-none tests p (suc k) = refl

leaf-size : (tests : Bool) (m : Target) → search_size (leaf tests m) + 3 ≡ each tests
leaf-size true m = refl
leaf-size false m = refl

parts : (tests : Bool) (n a b : ℕ) → a + b ≡ n → each tests * n ≡ each tests * a + each tests * b
parts true n a b h = omega (arith, h)
parts false n a b h = omega (arith, h)

pub search-long : (tests : Bool) (p k : ℕ) (set : List Target) → 1 ≤ length set → length set ≤ k
    → search_size (search_of tests p k set) + 3 ≡ each tests * length set
search-long tests p zero set a b = absurd (omega (arith, a, b))
search-long tests p (suc k) [] a b = absurd (omega (arith, a))
search-long tests p (suc k) (m ∷ []) a b = leaf-size tests m ∙ one tests
  where
    one : (t : Bool) → each t ≡ each t * 1
    one true = refl
    one false = refl
search-long tests p (suc k) (m ∷ l ∷ set) a b =
    let all = m ∷ l ∷ set in
    let left = take (half all) all in
    let right = drop (half all) all in
    let ll = length-take-le (half all) all (omega arith) in
    let lr = length-drop (half all) all in
    let sum : length left + length right ≡ length all = omega (arith, ll, lr) in
    let sl = search-long tests p k left (omega (arith, ll)) (omega (arith, ll, b)) in
    let sr = search-long tests p k right (omega (arith, lr)) (omega (arith, lr, b)) in
    let shares = parts tests (length all) (length left) (length right) sum in
    ap (λ s. search_size s + 3) (search-node tests p k all m (omega arith)) ∙ omega (arith, sl, sr, shares)

-- Their code.

map-length : {A B : Type 0} (g : A → B) (l : List A) → length (map g l) ≡ length l
map-length g [] = refl
map-length g (x ∷ l) = ap suc (map-length g l)

map-take : {A B : Type 0} (g : A → B) (n : ℕ) (l : List A) → take n (map g l) ≡ map g (take n l)
map-take g zero l = refl
map-take g (suc n) [] = refl
map-take g (suc n) (x ∷ l) = ap (λ r. g x ∷ r) (map-take g n l)

map-drop : {A B : Type 0} (g : A → B) (n : ℕ) (l : List A) → drop n (map g l) ≡ map g (drop n l)
map-drop g zero l = refl
map-drop g (suc n) [] = refl
map-drop g (suc n) (x ∷ l) = map-drop g n l

map-get : {A B : Type 0} (g : A → B) (n : ℕ) (l : List A) (d : A) → get_or (map g l) n (g d) ≡ g (get_or l n d)
map-get g n [] d = refl
map-get g zero (x ∷ l) d = refl
map-get g (suc n) (x ∷ l) d = map-get g n l d

module _ (tests : Bool) (slot free other : ℕ) where
  abbrev pub code_for : ℕ → ℕ → List Choose → List Instr
  code_for pc fuel ts = search_code pc slot free other (search_of tests other fuel (map target_of ts))

  pub none-code : (pc fuel : ℕ) (ts : List Choose) → length ts ≡ 0 → code_for pc fuel ts ≡ Jmp other ∷ []
  none-code pc fuel [] h = ap (search_code pc slot free other) (search-none tests other fuel)
  none-code pc fuel (t ∷ ts) h = absurd (omega (arith, h))

  pub one-code : (pc fuel : ℕ) (ts : List Choose) (d : Choose) → length ts ≡ 1 → length ts ≤ fuel
      → code_for pc fuel ts ≡ search_code pc slot free other (leaf tests (target_of (get_or ts 0 d)))
  one-code pc zero ts d h le = absurd (omega (arith, h, le))
  one-code pc (suc k) [] d h le = absurd (omega (arith, h))
  one-code pc (suc k) (t ∷ []) d h le = refl
  one-code pc (suc k) (t ∷ u ∷ ts) d h le = absurd (omega (arith, h))

  -- the code of a node, put together
  pub node-code : (k n size behind : ℕ) (ts : List Choose) (d least : Choose) (i0 i1 i2 : Instr) (old test left : List Instr) → 2 ≤ length ts → length ts ≤ suc k
      → n ≡ length ts / 2 → least ≡ get_or (drop n ts) 0 d
      → ((fuel p : ℕ) (set : List Target) → length set ≡ length (take n ts) → length (take n ts) ≤ fuel → size ≡ search_size (search_of tests p fuel set))
      → behind ≡ length old + 3 + size → i0 ≡ Li free least.tag → i1 ≡ ULt free slot free → i2 ≡ Brz free behind → test ≡ old ++ i0 ∷ i1 ∷ i2 ∷ []
      → ((fuel : ℕ) → length (take n ts) ≤ fuel → left ≡ test ++ code_for (length test) fuel (take n ts))
      → (length (drop n ts) ≤ k) × (left ++ code_for (length left) k (drop n ts) ≡ old ++ code_for (length old) (suc k) ts)
  node-code k n size behind ts d least i0 i1 i2 old test left two le hn ht hs hb e0 e1 e2 h0 h1 =
      let all = map target_of ts in
      let long = map-length target_of ts in
      let same : half all ≡ n = ap (λ z. z / 2) long ∙ sym hn in
      let lt = length-take-le n ts (omega (arith, hn)) in
      let ld = length-drop n ts in
      let before = take n ts in
      let rest = drop n ts in
      let fa : length before ≤ k = omega (arith, lt, hn, two, le) in
      let fb : length rest ≤ k = omega (arith, ld, hn, two, le) in
      let a = search_of tests other k (map target_of before) in
      let b = search_of tests other k (map target_of rest) in
      let tag = least.tag in
      let whole : search_of tests other (suc k) all ≡ node tag a b =
      search-node tests other k all (target_of d) (omega (arith, long, two))
      ∙ ap (λ z. node (get_or (drop z all) 0 (target_of d)).tag (search_of tests other k (take z all)) (search_of tests other k (drop z all))) same
      ∙ ap (λ z. node (get_or z 0 (target_of d)).tag (search_of tests other k (take n all)) (search_of tests other k z)) (map-drop target_of n ts)
      ∙ ap (λ z. node (get_or (map target_of rest) 0 (target_of d)).tag (search_of tests other k z) b) (map-take target_of n ts)
      ∙ ap (λ z. node z.tag a b) (map-get target_of 0 rest d)
      ∙ ap (λ z. node z.tag a b) (sym ht) in
      let size-is = hs k other (map target_of before) (map-length target_of before) fa in
      let head = Li free tag ∷ ULt free slot free ∷ Brz free (length old + 3 + search_size a) ∷ [] in
      let first : test ≡ old ++ head =
      h0 ∙ ap (λ z. old ++ z ∷ i1 ∷ i2 ∷ []) e0 ∙ ap (λ z. old ++ Li free tag ∷ z ∷ i2 ∷ []) e1
      ∙ ap (λ z. old ++ Li free tag ∷ ULt free slot free ∷ z ∷ []) (e2 ∙ ap (Brz free) (hb ∙ ap (λ z. length old + 3 + z) size-is)) in
      let l3 : length test ≡ length old + 3 = omega (arith, ap length first, length-append old head) in
      let ca = search_code (length old + 3) slot free other a in
      let cb = search_code (length old + 3 + search_size a) slot free other b in
      let second : left ≡ old ++ (head ++ ca) =
      h1 k fa ∙ ap (λ z. test ++ search_code z slot free other a) l3 ∙ ap (λ l. l ++ ca) first ∙ append_assoc old head ca in
      let l4 : length left ≡ length old + 3 + search_size a =
      omega (arith, ap length second, length-append old (head ++ ca), length-append head ca, search_length (length old + 3) slot free other a) in (
        fb,
        ap (λ z. left ++ search_code z slot free other b) l4 ∙ ap (λ l. l ++ cb) second ∙ append_assoc old (head ++ ca) cb
            ∙ ap (λ l. old ++ l) (append_assoc head ca cb)
            ∙ ap (λ s. old ++ search_code (length old) slot free other s) (sym whole),
      )

pub rest-whole : {A : Type 0} (n : ℕ) (ts : List A) → take (length ts - n) (drop n ts) ≡ drop n ts
rest-whole n ts = all-before (drop n ts) (length ts - n) (let d = length-drop n ts in omega (arith, d))
  where
    all-before : {A : Type 0} (xs : List A) (i : ℕ) → length xs ≤ i → take i xs ≡ xs
    all-before [] zero h = refl
    all-before [] (suc i) h = refl
    all-before (x ∷ xs) zero h = absurd (omega (arith, h))
    all-before (x ∷ xs) (suc i) h = ap (λ l. x ∷ l) (all-before xs i (omega (arith, h)))

-- One more target.

pub times-swap : (a b : ℕ) → a * b ≡ b * a
times-swap a b = mul_comm a b

pub targets-next : (label : ℕ → ℕ) (ts more : List Choose) (t : Choose) (tags : List ℕ) (i n m x d : ℕ) (r : List Target)
    → map target_of ts ++ numbered label n (drop i tags) ≡ r → i < length tags → x ≡ get_or tags i d → more ≡ ts ++ t ∷ [] → t.tag ≡ x → t.place ≡ label n → m ≡ suc n
    → map target_of more ++ numbered label m (drop (i + 1) tags) ≡ r
targets-next label ts more t tags i n m x d r inv lt is hm ht hp hn =
    let rest = numbered label (suc n) (drop (i + 1) tags) in
    ap (λ l. map target_of l ++ numbered label m (drop (i + 1) tags)) hm
    ∙ ap (λ z. map target_of (ts ++ t ∷ []) ++ numbered label z (drop (i + 1) tags)) hn
    ∙ ap (λ l. l ++ rest) (map-last target_of ts t)
    ∙ append_assoc (map target_of ts) (target_of t ∷ []) rest
    ∙ ap (λ z. map target_of ts ++ record { tag = z; place = t.place } ∷ rest) ht
    ∙ ap (λ z. map target_of ts ++ record { tag = x; place = z } ∷ rest) hp
    ∙ ap (λ z. map target_of ts ++ record { tag = z; place = label n } ∷ rest) is
    ∙ ap (λ l. map target_of ts ++ numbered label n l) (sym (drop_more tags i d lt))
    ∙ inv
  where
    map-last : {A B : Type 0} (g : A → B) (xs : List A) (y : A) → map g (xs ++ y ∷ []) ≡ map g xs ++ g y ∷ []
    map-last g [] y = refl
    map-last g (z ∷ xs) y = ap (λ l. g z ∷ l) (map-last g xs y)
