-- The constants of an image: strings, what identifiers are written as, the names of the first exceptions and their packets, each at its place.
use Rattle.std.proofs.Common.{◌≡◌, ℕ, zero, suc, ◌+◌, ◌*◌, ◌<◌, List, [], ◌∷◌, ◌++◌, length, map, Some, true, refl, sym, ap, ◌∙◌, subst, arith, append_assoc, append-nil, length-append, get_or}
use Rattle.std.specs.Prelude.{slice_get, nat_lt}
use Rattle.std.specs.List.{AllByRecursion}
use Rattle.std.proofs.lemmas.Bool.{and_from}
use Rattle.std.proofs.lemmas.List.{length-map, map-append}
use Rattle.ir_code.specs.Machine.{all_bytes}
use Rattle.ir_ssa.specs.of_ir_values.Primitives.{raised_name}
use Rattle.mlc_prims.specs.declared.prim.PrimExn.{PrimExn}
use Rattle.mlc_prims.specs.declared.prim.PrimExn.TheVariants.{Overflow, Div, Subscript, Size, Chr}
use Rattle.ir_ssa.specs.of_first_values.Values.{packet, unit}
use Rattle.ir_ssa.specs.Tree.{Program}
use Rattle.machine_routines.specs.Layout.{Word, stays, names, is_name, after_one, nth_at, BytesAt, TextAt, Is}
use Rattle.machine_routines.proofs.Seams.{get_right, get_here}
use Rattle.machine_routines.proofs.LayoutLemmas.{BytesIn}
use Rattle.machine_code.specs.Agrees.{Agrees, nothing, a_name, Begins}
use Rattle.machine_code.specs.Rows.{Rows}
use Rattle.machine_code.specs.Image.{text_word, place_of, text_words, text_place, packet_words, text_of, names_at, initial_at, packets_at, first_texts, first_names, first_packets, constants_of}
use Rattle.machine_code.proofs.Kept.{text_kept, NoReferences, agrees_append, words_agree}

map_get : (xs : List ℕ) (i y : ℕ) → slice_get xs i ≡ Some y → slice_get (map stays xs) i ≡ Some (stays y)
map_get [] i y e = absurd (cc)
map_get (x ∷ xs) zero y e = let same : x ≡ y = cc in ap (λ z. Some (stays z)) same
map_get (x ∷ xs) (suc i) y e = map_get xs i y e

bytes_stay : (m t : List ℕ) (x : ℕ) → BytesIn m t x → BytesAt (map stays m) t x
bytes_stay m [] x h = tt
bytes_stay m (c ∷ t) x h = (map_get m x c h.0, bytes_stay m t (x + 1) h.1)

bytes_there : (pre t post : List ℕ) (x : ℕ) → length pre ≡ x → BytesIn (pre ++ (t ++ post)) t x
bytes_there pre [] post x e = tt
bytes_there pre (c ∷ t) post x e = (
  subst (λ n. slice_get (pre ++ c ∷ (t ++ post)) n ≡ Some c) e (get_here pre (t ++ post) c),
  subst (λ z. BytesIn z t (x + 1)) (append_assoc pre (c ∷ []) (t ++ post)) (bytes_there (pre ++ c ∷ []) t post (x + 1) (omega (arith, length-append pre (c ∷ [])))),
)

-- Texts.

abbrev pub AreBytes : List (List ℕ) → Type 0
AreBytes = AllByRecursion (λ t. all_bytes t ≡ true)

bytes_of : (t : List ℕ) → AllByRecursion (λ b. nat_lt b 256 ≡ true) t → all_bytes t ≡ true
bytes_of [] h = refl
bytes_of (b ∷ t) h = and_from (nat_lt b 256) (all_bytes t) h.0 (bytes_of t h.1)

pub all_bytes_of : (ts : List (List ℕ)) → AllByRecursion (AllByRecursion (λ b. nat_lt b 256 ≡ true)) ts → AreBytes ts
all_bytes_of [] h = tt
all_bytes_of (t ∷ ts) h = (bytes_of t h.0, all_bytes_of ts h.1)

-- a text's words, or the word 0
word_there : (pre post : List ℕ) (x : ℕ) (u : List ℕ) → length pre ≡ x → all_bytes u ≡ true → TextAt (map stays (pre ++ (text_word u ++ post))) [] 0
    → TextAt (map stays (pre ++ (text_word u ++ post))) u (place_of x u)
word_there pre post x [] n b z = z
word_there pre post x (c ∷ u) n b z =
    let t = c ∷ u in
    let m = pre ++ (length t ∷ (t ++ post)) in (
      map_get m x (length t) (subst (λ k. slice_get m k ≡ Some (length t)) n (get_here pre (t ++ post) (length t))),
      bytes_stay m t (x + 1) (subst (λ z. BytesIn z t (x + 1)) (append_assoc pre (length t ∷ []) (t ++ post))
          (bytes_there (pre ++ length t ∷ []) t post (x + 1) (omega (arith, n, length-append pre (length t ∷ []))))),
      b,
    )

any_there : (ts : List (List ℕ)) (pre : List ℕ) (x i : ℕ) → length pre ≡ x → AreBytes ts → TextAt (map stays (pre ++ text_words ts)) [] 0
    → TextAt (map stays (pre ++ text_words ts)) (get_or ts i []) (text_place x ts i)
any_there [] pre x i n b z = z
any_there (u ∷ ts) pre x zero n b z = word_there pre (text_words ts) x u n b.0 z
any_there (u ∷ ts) pre x (suc i) n b z =
    let front = text_word u in
    let whole : (pre ++ front) ++ text_words ts ≡ pre ++ (front ++ text_words ts) = append_assoc pre front (text_words ts) in
    subst (λ m. TextAt (map stays m) (get_or ts i []) (text_place (x + length front) ts i)) whole
    (any_there ts (pre ++ front) (x + length front) i (omega (arith, n, length-append pre front)) b.1 (subst (λ m. TextAt (map stays m) [] 0) (sym whole) z))

get_or_some : (ts : List (List ℕ)) (i : ℕ) (t : List ℕ) → slice_get ts i ≡ Some t → get_or ts i [] ≡ t
get_or_some [] i t e = absurd (cc)
get_or_some (u ∷ ts) zero t e = cc
get_or_some (u ∷ ts) (suc i) t e = get_or_some ts i t e

-- Names.

names_past : (cs : List ℕ) (l : List Word) (i x : ℕ) → nth_at is_name l i ≡ Some x → nth_at is_name (map stays cs ++ l) i ≡ Some (length cs + x)
names_past [] l i x e = let n : x ≡ 0 + x = omega arith in e ∙ ap Some n
names_past (c ∷ cs) l i x e = let n : suc (length cs + x) ≡ suc (length cs) + x = omega arith in ap after_one (names_past cs l i x e) ∙ ap Some n

names_here : (xs : List ℕ) (l : List Word) (n a : ℕ) → slice_get xs n ≡ Some a → nth_at is_name (map names xs ++ l) n ≡ Some n
names_here [] l n a e = absurd (cc)
names_here (b ∷ xs) l zero a e = refl
names_here (b ∷ xs) l (suc n) a e = ap after_one (names_here xs l n a e)

mapped : (f : ℕ → ℕ) (es : List ℕ) (n i : ℕ) → slice_get es n ≡ Some i → slice_get (map f es) n ≡ Some (f i)
mapped f [] n i e = absurd (cc)
mapped f (x ∷ es) zero i e = let same : x ≡ i = cc in ap (λ z. Some (f z)) same
mapped f (x ∷ es) (suc n) i e = mapped f es n i e

there_is : (es : List ℕ) (n : ℕ) → n < length es → (i : ℕ) × (slice_get es n ≡ Some i)
there_is [] n lt = absurd (omega arith)
there_is (x ∷ es) zero lt = (x, refl)
there_is (x ∷ es) (suc n) lt = there_is es n (omega arith)

no_references_in : (xs : List ℕ) (l : List Word) → NoReferences l → NoReferences (map stays xs ++ l)
no_references_in [] l h = h
no_references_in (x ∷ xs) l h = (refl, no_references_in xs l h)

no_references_among : (xs : List ℕ) (l : List Word) → NoReferences l → NoReferences (map names xs ++ l)
no_references_among [] l h = h
no_references_among (x ∷ xs) l h = (refl, no_references_among xs l h)

no_references_stay : (xs : List ℕ) → NoReferences (map stays xs)
no_references_stay [] = tt
no_references_stay (x ∷ xs) = (refl, no_references_stay xs)

names_agree : (text : ℕ → List ℕ) (all : List Word) (place : ℕ → ℕ) → ((e : ℕ) → TextAt all (text e) (place e)) → (es : List ℕ)
    → Agrees text all (map names (map place es)) (map place es) [] es
names_agree text all place h [] = nothing
names_agree text all place h (e ∷ es) = a_name e (place e) (h e) (names_agree text all place h es)

-- Packets.

packet_there : (n a i : ℕ) → i < n → (slice_get (packet_words a n) (2 * i) ≡ Some (a + i)) × (slice_get (packet_words a n) (2 * i + 1) ≡ Some 0)
packet_there zero a i lt = absurd (omega arith)
packet_there (suc n) a zero lt = let e : a ≡ a + 0 = omega arith in (ap Some e, refl)
packet_there (suc n) a (suc i) lt =
    let h = packet_there n (a + 1) i (omega arith) in
    let e : suc (suc (2 * i)) ≡ 2 * suc i = omega arith in
    let g : suc (suc (2 * i + 1)) ≡ 2 * suc i + 1 = omega arith in
    let s : a + 1 + i ≡ a + suc i = omega arith in
    let ws = a ∷ 0 ∷ packet_words (a + 1) n in
    (subst (λ z. slice_get ws z ≡ Some (a + suc i)) e (h.0 ∙ ap Some s), subst (λ z. slice_get ws z ≡ Some 0) g h.1)

raised_below : (e : PrimExn) → raised_name e < 7
raised_below Overflow = omega arith
raised_below Div = omega arith
raised_below Subscript = omega arith
raised_below Size = omega arith
raised_below Chr = omega arith

-- The first layout.

module _ (rows : Rows) (texts : List (List ℕ)) (p : Program) (strings_are : AreBytes p.tables.strings) (texts_are : AreBytes texts) (seven : length p.tables.initial ≡ 7) where
  abbrev pub first_lay : List Word
  first_lay = map stays (first_texts rows texts p) ++ (map names (first_names rows texts p) ++ map stays (first_packets rows texts p))

  after_texts : Begins (map stays (first_texts rows texts p)) first_lay
  after_texts = record { rest = map names (first_names rows texts p) ++ map stays (first_packets rows texts p); is = refl }

  pub texts_stand : (i : ℕ) (t : List ℕ) → slice_get p.tables.strings i ≡ Some t → TextAt first_lay t (text_place 2 p.tables.strings i)
  texts_stand i t e =
      let front = 0 ∷ 1 ∷ text_words p.tables.strings in
      let b : Begins (map stays front) (map stays (first_texts rows texts p)) = record { rest = map stays (text_words texts); is = map-append stays front (text_words texts) } in
      text_kept (map stays (first_texts rows texts p)) first_lay t (text_place 2 p.tables.strings i) after_texts
      (text_kept (map stays front) (map stays (first_texts rows texts p)) t (text_place 2 p.tables.strings i) b
      (subst (λ z. TextAt (map stays front) z (text_place 2 p.tables.strings i)) (get_or_some p.tables.strings i t e)
      (any_there p.tables.strings (0 ∷ 1 ∷ []) 2 i refl strings_are (refl, tt, refl))))

  pub names_stand : (i : ℕ) → TextAt first_lay (text_of texts i) (text_place (names_at rows texts p) texts i)
  names_stand i =
      text_kept (map stays (first_texts rows texts p)) first_lay (text_of texts i) (text_place (names_at rows texts p) texts i) after_texts
      (any_there texts (0 ∷ 1 ∷ text_words p.tables.strings) (names_at rows texts p) i refl' texts_are (refl, tt, refl))
    where
      refl' : length (0 ∷ 1 ∷ text_words p.tables.strings) ≡ 2 + length (text_words p.tables.strings)
      refl' = omega arith

  texts_length : length (first_texts rows texts p) ≡ initial_at rows texts p
  texts_length = omega (arith, length-append (text_words p.tables.strings) (text_words texts))

  pub first_names_stand : (n i : ℕ) → slice_get p.tables.initial n ≡ Some i → nth_at is_name first_lay n ≡ Some (initial_at rows texts p + n)
  first_names_stand n i e =
      names_past (first_texts rows texts p) (map names (first_names rows texts p) ++ map stays (first_packets rows texts p)) n n
      (names_here (first_names rows texts p) (map stays (first_packets rows texts p)) n (text_place (names_at rows texts p) texts i) (mapped (text_place (names_at rows texts p) texts) p.tables.initial n i e))
      ∙ ap (λ z. Some (z + n)) texts_length

  names_length : length (map names (first_names rows texts p)) ≡ length p.tables.initial
  names_length = length-map (first_names rows texts p) names ∙ length-map p.tables.initial (text_place (names_at rows texts p) texts)

  -- a word of the packets
  packet_word : (j y : ℕ) → slice_get (first_packets rows texts p) j ≡ Some y → slice_get first_lay (packets_at rows texts p + j) ≡ Some (stays y)
  packet_word j y e =
      let ts = map stays (first_texts rows texts p) in let ns = map names (first_names rows texts p) in let ps = map stays (first_packets rows texts p) in
      let n : length ts + (length ns + j) ≡ packets_at rows texts p + j = omega (arith, length-map (first_texts rows texts p) stays, texts_length, names_length) in
      subst (λ z. slice_get first_lay z ≡ Some (stays y)) n (get_right ts (ns ++ ps) (length ns + j) ∙ get_right ns ps j ∙ map_get (first_packets rows texts p) j y e)

  pub packets_stand : (e : PrimExn) → Is first_lay (packet (raised_name e) unit) (packets_at rows texts p + 2 * raised_name e)
  packets_stand e =
      let i = raised_name e in
      let lt : i < length p.tables.initial = let b = raised_below e in omega (arith, b, seven) in
      let h = packet_there (length p.tables.initial) (initial_at rows texts p) i lt in
      let x = there_is p.tables.initial i lt in
      let n : packets_at rows texts p + (2 * i + 1) ≡ packets_at rows texts p + 2 * i + 1 = omega arith in (
        initial_at rows texts p + i,
        0,
        packet_word (2 * i) (initial_at rows texts p + i) h.0,
        first_names_stand i x.0 x.1,
        subst (λ z. slice_get first_lay z ≡ Some (stays 0)) n (packet_word (2 * i + 1) 0 h.1),
        (refl, tt),
      )

  pub no_references_stand : NoReferences first_lay
  no_references_stand =
      no_references_in (first_texts rows texts p) (map names (first_names rows texts p) ++ map stays (first_packets rows texts p))
      (no_references_among (first_names rows texts p) (map stays (first_packets rows texts p)) (no_references_stay (first_packets rows texts p)))

  pub constants_agree : Agrees (text_of texts) first_lay first_lay (constants_of rows texts p) [] p.tables.initial
  constants_agree =
      let text = text_of texts in
      let ns = names_agree text first_lay (text_place (names_at rows texts p) texts) names_stand p.tables.initial in
      subst (λ z. Agrees text first_lay first_lay (constants_of rows texts p) [] z) (append-nil p.tables.initial)
      (agrees_append text first_lay (words_agree text first_lay (first_texts rows texts p))
      (agrees_append text first_lay ns (words_agree text first_lay (first_packets rows texts p))))
