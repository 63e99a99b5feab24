-- Parts of texts, and two texts as one.
use Rattle.std.proofs.Common.{◌≡◌, ℕ, ◌+◌, ◌-◌, ◌<◌, ◌≤◌, ◌^◌, List, [], ◌∷◌, ◌++◌, length, take, drop, Some, None, refl, sym, ap, ◌∙◌, subst, ⊎_elim, arith, append-nil}
use Rattle.std.specs.Prelude.{ℤ, pos, negsuc, slice_get, if◌then◌else◌}
use Rattle.std.proofs.lemmas.Bool.{cases_lt, lt-ltb, le-ltb, lt-leb, le-leb}
use Rattle.ir_code.specs.declared.instr.Instr.{Instr}
use Rattle.ir_code.specs.declared.instr.Instr.TheVariants.{Ld, St, Copy, WAdd, ULt}
use Rattle.ir_code.specs.declared.halt.Halt.TheVariants.{NoStack}
use Rattle.ir_code.specs.Words.{word_of, one_if, word_less}
use Rattle.ir_code.specs.Laws.{ControlLaws, MemoryLaws, ArithmeticLaws, NextLaws}
use Rattle.mlc_prims.specs.LitOf.{Literal, int, string, string_in}
use Rattle.mlc_prims.specs.PrimOf.{Gives, made, raised, joined}
use Rattle.mlc_prims.specs.Table.{two, string_part, or_subscript, bytes_from}
use Rattle.mlc_prims.specs.declared.basis.BasisPrimitive.TheVariants.{PartOf, Concat}
use Rattle.mlc_prims.specs.declared.prim.PrimExn.TheVariants.{Subscript}
use Rattle.first_values.specs.Values.{literal}
use Rattle.first_values.specs.Operations.{texts, row_at}
use Rattle.machine_code.specs.of_machine_routines.Layout.{Word, TextAt, Is}
use Rattle.machine_code.specs.of_machine_routines.Runs.{HasAt, Frame, inside, Leads}
use Rattle.machine_code.proofs.of_machine_routines.Seams.{cut_at}
use Rattle.machine_code.proofs.of_machine_routines.LayoutLemmas.{BytesIn}
use Rattle.machine_code.proofs.of_machine_routines.Leads.{trans, cut, out_after}
use Rattle.machine_code.specs.Rows.{Packets, HoldAll, no_operand, an_operand, Ready, Comes, given, way_on}
use Rattle.machine_code.specs.Rows as rows
use Rattle.machine_primitives.specs.RowLaws.{RowIsRight}
use Rattle.machine_primitives.specs.RowCode.{part_of}
use Rattle.machine_primitives.proofs.Orders.{word_of_int}
use Rattle.machine_primitives.proofs.Shapes.{same_comes}
use Rattle.machine_primitives.proofs.Window.{at, old, young, lacks, li, ld, brz, brz_zero, add, less, alloc_var, no_alloc_var, st, copy, comes_after}
use Rattle.machine_primitives.proofs.Window as window
use Rattle.machine_primitives.proofs.MoreTexts.{text_in, bytes_taken, bytes_dropped, bytes_part, part_length, new_text}
use Rattle.machine_primitives.proofs.Rows.{Two, both, at_kind}
use Rattle.machine_primitives.proofs.TextRows.{word_small}

-- Three operands.
data Three (front : List ℕ) (P : ℕ → ℕ → ℕ → Type 0) : List ℕ → Type 0 where
  all_three : (x y z m i n : ℕ) → slice_get front x ≡ Some m → slice_get front y ≡ Some i → slice_get front z ≡ Some n → P m i n → Three front P (x ∷ y ∷ z ∷ [])

texts_part : (ls : List Literal) → row_at texts PartOf ls ≡ at_kind texts (string_part (λ s i n. or_subscript string (bytes_from s i n))) ls
texts_part [] = refl
texts_part (l ∷ ls) = refl

pub texts_concat : (ls : List Literal) → row_at texts Concat ls ≡ at_kind texts (two string_in joined) ls
texts_concat [] = refl
texts_concat (l ∷ ls) = refl

abbrev InText : List Word → (List ℕ → ℤ → ℤ → Gives) → Gives → ℕ → ℕ → ℕ → Type 0
InText lay F g m i n = (s : List ℕ) × (u : ℤ) × (v : ℤ) × TextAt lay s m × (word_of u ≡ Some i) × (word_of v ≡ Some n) × (F s u v ≡ g)

text_span : (lay : List Word) (front : List ℕ) (F : List ℕ → ℤ → ℤ → Gives) (g : Gives) {xs : List ℕ} {ls : List Literal} → HoldAll lay front xs ls → at_kind texts (string_part F) ls ≡ Some g
    → Three front (InText lay F g) xs
text_span lay front F g (an_operand x (string s) m e i (an_operand y (int u) n e' i' (an_operand z (int v) k e'' i'' no_operand))) r =
    all_three x y z m n k e e' e'' (s, u, v, i, i', i'', (let q : F s u v ≡ g = cc in q))
text_span lay front F g (an_operand x (string s) m e i (an_operand y (int u) n e' i' (an_operand z l k e'' i'' no_operand))) r = absurd (cc)
text_span lay front F g (an_operand x (string s) m e i (an_operand y l n e' i' (an_operand z l' k e'' i'' no_operand))) r = absurd (cc)
text_span lay front F g h r = absurd (cc)

abbrev pub Both : List Word → (List ℕ → List ℕ → Gives) → Gives → ℕ → ℕ → Type 0
Both lay F g m n = (s : List ℕ) × (t : List ℕ) × TextAt lay s m × TextAt lay t n × (F s t ≡ g)

pub text_pair : (lay : List Word) (front : List ℕ) (F : List ℕ → List ℕ → Gives) (g : Gives) {xs : List ℕ} {ls : List Literal} → HoldAll lay front xs ls → at_kind texts (two string_in F) ls ≡ Some g
    → Two front (Both lay F g) xs
text_pair lay front F g (an_operand x (string s) m e i (an_operand y (string t) n e' i' no_operand)) r = both x y m n e e' (s, t, i, i', (let q : F s t ≡ g = cc in q))
text_pair lay front F g (an_operand x (string s) m e i (an_operand y l n e' i' no_operand)) r = absurd (cc)
text_pair lay front F g h r = absurd (cc)

-- the part that two words tell
part_is : (s : List ℕ) (u v : ℤ) (i n : ℕ) → word_of u ≡ Some i → word_of v ≡ Some n → i + n ≤ length s → length s < 2 ^ 31 → bytes_from s u v ≡ Some (take n (drop i s))
part_is s u v i n w w' le small =
    ap (λ z. bytes_from s z v) (word_small u i w (omega arith)) ∙ ap (bytes_from s (pos i)) (word_small v n w' (omega arith))
    ∙ ap (λ b. if b then Some (take n (drop i s)) else None) (le-leb (i + n) (length s) le)

no_part : (s : List ℕ) (u v : ℤ) (i n : ℕ) → word_of u ≡ Some i → word_of v ≡ Some n → length s < i + n → bytes_from s u v ≡ None
no_part s (pos j) (pos k) i n w w' lt =
    let e = word_of_int (pos j) i w in let h = word_of_int (pos k) n w' in
    ap (λ b. if b then Some (take k (drop j s)) else None) (lt-leb (j + k) (length s) (omega (arith, e.0, h.0)))
no_part s (pos j) (negsuc k) i n w w' lt = refl
no_part s (negsuc j) v i n w w' lt = refl

pub one_more : (ys : List ℕ) (n : ℕ) → length ys ≡ n + 1 → (j : ℕ) × (junk : List ℕ) × (ys ≡ j ∷ junk) × (length junk ≡ n)
one_more [] n e = absurd (omega arith)
one_more (j ∷ junk) n e = (j, junk, refl, omega arith)

module _ (C : ControlLaws) (M : MemoryLaws) (A : ArithmeticLaws) (N : NextLaws) (code : List Instr) (f : Frame) (front : List ℕ) where
  -- a copy up to the end of the new words
  pub copy_last : (pc : ℕ) (ws mem free don junk part : List ℕ) (a b c y x : ℕ) → f.base ≤ length mem → y ≡ length mem + length don → length junk ≡ length part → x ≤ length mem → BytesIn mem part x
      → slice_get (front ++ ws) a ≡ Some y → slice_get (front ++ ws) b ≡ Some x → slice_get (front ++ ws) c ≡ Some (length part) → slice_get code pc ≡ Some (Copy a b c)
      → Leads code (at C M A N code f front pc ws (mem ++ (don ++ junk)) free) (at C M A N code f front (pc + 1) ws (mem ++ (don ++ part)) free)
  copy_last pc ws mem free don junk part a b c y x low y_is l within bytes at_y at_x at_n has =
      subst (λ z. Leads code (at C M A N code f front pc ws (mem ++ (don ++ z)) free) (at C M A N code f front (pc + 1) ws (mem ++ (don ++ part)) free)) (append-nil junk)
      (subst (λ z. Leads code (at C M A N code f front pc ws (mem ++ (don ++ (junk ++ []))) free) (at C M A N code f front (pc + 1) ws (mem ++ (don ++ z)) free)) (append-nil part)
      (copy C M A N code f front pc ws mem free don junk [] part a b c y x low y_is l within bytes at_y at_x at_n has))

  -- A part, from where the new words are there.
  part_made : (lay : List Word) (mem rest free' junk s : List ℕ) (x y z m i n j k pc : ℕ) → length lay ≡ length mem → f.base ≤ length mem → length mem < 2 ^ 31 → TextAt lay s m
      → BytesIn mem s (m + 1) → m + 1 + length s ≤ length mem → slice_get front x ≡ Some m → slice_get front y ≡ Some i → slice_get front z ≡ Some n → i + n ≤ length s → length junk ≡ n
      → HasAt code pc
      (St (length front) 0 z ∷ WAdd (length front + 2) x y ∷ WAdd (length front + 2) (length front + 2) (length front + 1) ∷ WAdd (length front + 1) (length front) (length front + 1) ∷ Copy (length front + 1) (length front + 2) z ∷ [])
      → Leads code (at C M A N code f front pc (length mem ∷ 1 ∷ k ∷ rest) (mem ++ (j ∷ junk)) free')
      (at C M A N code f front (pc + 1 + 1 + 1 + 1 + 1) (length mem ∷ (length mem + 1) ∷ (m + i + 1) ∷ rest) (mem ++ (length (take n (drop i s)) ∷ take n (drop i s))) free')
  part_made lay mem rest free' junk s x y z m i n j k pc whole low small t bytes within e e' e'' le l has =
      let first : length front ≡ length front + 0 = omega arith in
      let part = take n (drop i s) in
      let long : length part ≡ n = part_length s i n le in
      let big = mem ++ (n ∷ junk) in
      let w1 = length mem ∷ 1 ∷ k ∷ rest in
      let w2 = length mem ∷ 1 ∷ (m + i) ∷ rest in
      let w3 = length mem ∷ 1 ∷ (m + i + 1) ∷ rest in
      let w4 = length mem ∷ (length mem + 1) ∷ (m + i + 1) ∷ rest in
      let from : m + 1 + i ≡ m + i + 1 = omega arith in
      let s1 = st C M A N code f front pc w1 mem free' (j ∷ junk) (length front) 0 z n low (omega arith) (young C M A N code f front w1 0 (length front) (length mem) first refl) (old C M A N code f front w1 z n e'') has.0 in
      let s2 = add C M A N code f front (pc + 1) 2 (length front + 2) w1 big free' refl (omega arith) x y m i (old C M A N code f front w1 x m e) (old C M A N code f front w1 y i e') (omega arith) has.1.0 in
      let s3 = add C M A N code f front (pc + 1 + 1) 2 (length front + 2) w2 big free' refl (omega arith) (length front + 2) (length front + 1) (m + i) 1
      (young C M A N code f front w2 2 (length front + 2) (m + i) refl refl) (young C M A N code f front w2 1 (length front + 1) 1 refl refl) (omega arith) has.1.1.0 in
      let s4 = add C M A N code f front (pc + 1 + 1 + 1) 1 (length front + 1) w3 big free' refl (omega arith) (length front) (length front + 1) (length mem) 1
      (young C M A N code f front w3 0 (length front) (length mem) first refl) (young C M A N code f front w3 1 (length front + 1) 1 refl refl) (omega arith) has.1.1.1.0 in
      let s5 = copy_last (pc + 1 + 1 + 1 + 1) w4 mem free' (n ∷ []) junk part (length front + 1) (length front + 2) z (length mem + 1) (m + i + 1) low refl (omega arith) (omega arith)
      (subst (λ q. BytesIn mem part q) from (bytes_part mem s (m + 1) i n bytes))
      (young C M A N code f front w4 1 (length front + 1) (length mem + 1) refl refl) (young C M A N code f front w4 2 (length front + 2) (m + i + 1) refl refl)
      (old C M A N code f front w4 z (length part) (e'' ∙ ap Some (sym long))) has.1.1.1.1.0 in
      subst (λ q. Leads code (at C M A N code f front pc w1 (mem ++ (j ∷ junk)) free') (at C M A N code f front (pc + 1 + 1 + 1 + 1 + 1) w4 (mem ++ (q ∷ part)) free')) (sym long)
      (trans code s1 (trans code s2 (trans code s3 (trans code s4 s5))))

module _ (C : ControlLaws) (M : MemoryLaws) (A : ArithmeticLaws) (N : NextLaws) where
  part_by : (code : List Instr) (f : Frame) (lay : List Word) (front above mem free : List ℕ) → Ready f lay mem free → (q : Gives) (packets : Packets) → Is lay (given (raised Subscript)) (packets Subscript)
      → (pc other : ℕ) {xs : List ℕ} → Three front (InText lay (λ s i n. or_subscript string (bytes_from s i n)) q) xs → HasAt code pc (part_of packets pc (length front) other xs)
      → Comes code f lay front mem (given q) (way_on q (pc + 17) other) (inside f pc (front ++ above) mem free)
  part_by code f lay front [] mem free ready q packets is pc other (all_three x y z m i n e e' e'' w) has =
      rows.Comes.lacks_stack (cut code N NoStack (inside f pc (front ++ []) mem free) (Ld (length front + 2) x 0) has.0 (lacks C M A N code f front pc 2 (length front + 2) [] mem free _ refl (omega arith)))
  part_by code f lay front (a ∷ []) mem free ready q packets is pc other (all_three x y z m i n e e' e'' w) has =
      rows.Comes.lacks_stack (cut code N NoStack (inside f pc (front ++ a ∷ []) mem free) (Ld (length front + 2) x 0) has.0 (lacks C M A N code f front pc 2 (length front + 2) (a ∷ []) mem free _ refl (omega arith)))
  part_by code f lay front (a ∷ b ∷ []) mem free ready q packets is pc other (all_three x y z m i n e e' e'' w) has =
      rows.Comes.lacks_stack (cut code N NoStack (inside f pc (front ++ a ∷ b ∷ []) mem free) (Ld (length front + 2) x 0) has.0 (lacks C M A N code f front pc 2 (length front + 2) (a ∷ b ∷ []) mem free _ refl (omega arith)))
  part_by code f lay front (a ∷ b ∷ c ∷ rest) mem free ready q packets is pc other (all_three x y z m i n e e' e'' w) has = ⊎_elim place_there (λ le. outside_of le) (cases_lt i (length w.0 + 1))
    where
      first : length front ≡ length front + 0
      first = omega arith

      known : (slice_get mem (m + 0) ≡ Some (length w.0)) × BytesIn mem w.0 (m + 1) × (m + 1 + length w.0 ≤ length mem) × (length mem < 2 ^ 31)
      known = text_in f lay mem free w.0 m ready.shows ready.small w.3

      start : Leads code (at C M A N code f front pc (a ∷ b ∷ c ∷ rest) mem free)
          (at C M A N code f front (pc + 1 + 1 + 1 + 1 + 1) (packets Subscript ∷ word_less i (length w.0 + 1) ∷ (length w.0 + 1) ∷ rest) mem free)
      start =
          let L = length w.0 in
          let k = packets Subscript in
          let within = known.2 in let small = known.3 in
          let w1 = a ∷ b ∷ L ∷ rest in
          let w2 = a ∷ 1 ∷ L ∷ rest in
          let w3 = a ∷ 1 ∷ (L + 1) ∷ rest in
          let w4 = k ∷ 1 ∷ (L + 1) ∷ rest in
          trans code (ld C M A N code f front pc 2 (length front + 2) (a ∷ b ∷ c ∷ rest) mem free refl (omega arith) x 0 m L (old C M A N code f front (a ∷ b ∷ c ∷ rest) x m e) known.0 has.0)
          (trans code (li C M A N code f front (pc + 1) 1 (length front + 1) w1 mem free refl (omega arith) 1 has.1.0)
          (trans code (add C M A N code f front (pc + 1 + 1) 2 (length front + 2) w2 mem free refl (omega arith) (length front + 2) (length front + 1) L 1
          (young C M A N code f front w2 2 (length front + 2) L refl refl) (young C M A N code f front w2 1 (length front + 1) 1 refl refl) (omega arith) has.1.1.0)
          (trans code (li C M A N code f front (pc + 1 + 1 + 1) 0 (length front) w3 mem free first (omega arith) k has.1.1.1.0)
          (window.two C M A N code f front (pc + 1 + 1 + 1 + 1) 1 (length front + 1) w4 mem free refl (omega arith) ULt word_less A.ult y (length front + 2) i (L + 1)
          (old C M A N code f front w4 y i e') (young C M A N code f front w4 2 (length front + 2) (L + 1) refl refl) has.1.1.1.1.0))))

      -- no such part
      raises : length w.0 < i + n → raised Subscript ≡ q
      raises lt = ap (or_subscript string) (sym (no_part w.0 w.1 w.2 i n w.4 w.5 lt)) ∙ w.6

      outside_of : length w.0 + 1 ≤ i → Comes code f lay front mem (given q) (way_on q (pc + 17) other) (inside f pc (front ++ a ∷ b ∷ c ∷ rest) mem free)
      outside_of le =
          let L = length w.0 in
          let k = packets Subscript in
          let told = word_less i (L + 1) in
          let ws = k ∷ told ∷ (L + 1) ∷ rest in
          let zero_is : word_less i (L + 1) ≡ 0 = ap one_if (le-ltb i (L + 1) le) in
          let s5 = brz_zero C M A N code f front (pc + 1 + 1 + 1 + 1 + 1) ws mem free (length front + 1) other (young C M A N code f front ws 1 (length front + 1) 0 refl (ap Some zero_is)) has.1.1.1.1.1.0 in
          subst (λ q. Comes code f lay front mem (given q) (way_on q (pc + 17) other) (inside f pc (front ++ a ∷ b ∷ c ∷ rest) mem free)) (raises (omega arith))
          (same_comes C M A N code f lay front mem free (given (raised Subscript)) k other (inside f pc (front ++ a ∷ b ∷ c ∷ rest) mem free) (told ∷ (L + 1) ∷ rest) is (trans code start s5) (omega arith))

      middle : i < length w.0 + 1 → Leads code (at C M A N code f front pc (a ∷ b ∷ c ∷ rest) mem free)
          (at C M A N code f front (pc + 1 + 1 + 1 + 1 + 1 + 1 + 1 + 1) (packets Subscript ∷ word_less n (length w.0 + 1 - i) ∷ (length w.0 + 1 - i) ∷ rest) mem free)
      middle lt =
          let L = length w.0 in
          let k = packets Subscript in
          let within = known.2 in let small = known.3 in
          let told = word_less i (L + 1) in
          let one : word_less i (L + 1) ≡ 1 = ap one_if (lt-ltb i (L + 1) lt) in
          let w5 = k ∷ told ∷ (L + 1) ∷ rest in
          let w6 = k ∷ told ∷ (L + 1 - i) ∷ rest in
          let pc5 = pc + 1 + 1 + 1 + 1 + 1 in
          trans code start
          (trans code (brz C M A N code f front pc5 w5 mem free (length front + 1) other told (young C M A N code f front w5 1 (length front + 1) told refl refl) (omega arith) has.1.1.1.1.1.0)
          (trans code (less C M A N code f front (pc5 + 1) 2 (length front + 2) w5 mem free refl (omega arith) (length front + 2) y (L + 1) i
          (young C M A N code f front w5 2 (length front + 2) (L + 1) refl refl) (old C M A N code f front w5 y i e') (omega arith) (omega arith) has.1.1.1.1.1.1.0)
          (window.two C M A N code f front (pc5 + 1 + 1) 1 (length front + 1) w6 mem free refl (omega arith) ULt word_less A.ult z (length front + 2) n (L + 1 - i)
          (old C M A N code f front w6 z n e'') (young C M A N code f front w6 2 (length front + 2) (L + 1 - i) refl refl) has.1.1.1.1.1.1.1.0)))

      place_there : i < length w.0 + 1 → Comes code f lay front mem (given q) (way_on q (pc + 17) other) (inside f pc (front ++ a ∷ b ∷ c ∷ rest) mem free)
      place_there lt = ⊎_elim (λ more. room_for lt more) (λ le. too_long lt le) (cases_lt n (length w.0 + 1 - i))
        where
          too_long : i < length w.0 + 1 → length w.0 + 1 - i ≤ n → Comes code f lay front mem (given q) (way_on q (pc + 17) other) (inside f pc (front ++ a ∷ b ∷ c ∷ rest) mem free)
          too_long lt le =
              let L = length w.0 in
              let k = packets Subscript in
              let told = word_less n (L + 1 - i) in
              let ws = k ∷ told ∷ (L + 1 - i) ∷ rest in
              let zero_is : word_less n (L + 1 - i) ≡ 0 = ap one_if (le-ltb n (L + 1 - i) le) in
              let s8 = brz_zero C M A N code f front (pc + 1 + 1 + 1 + 1 + 1 + 1 + 1 + 1) ws mem free (length front + 1) other (young C M A N code f front ws 1 (length front + 1) 0 refl (ap Some zero_is)) has.1.1.1.1.1.1.1.1.0 in
              subst (λ q. Comes code f lay front mem (given q) (way_on q (pc + 17) other) (inside f pc (front ++ a ∷ b ∷ c ∷ rest) mem free)) (raises (omega arith))
              (same_comes C M A N code f lay front mem free (given (raised Subscript)) k other (inside f pc (front ++ a ∷ b ∷ c ∷ rest) mem free) (told ∷ (L + 1 - i) ∷ rest) is (trans code (middle lt) s8) (omega arith))

          to_room : i < length w.0 + 1 → n < length w.0 + 1 - i → (l : Leads code (at C M A N code f front pc (a ∷ b ∷ c ∷ rest) mem free)
              (at C M A N code f front (pc + 1 + 1 + 1 + 1 + 1 + 1 + 1 + 1 + 1 + 1 + 1) (packets Subscript ∷ 1 ∷ (n + 1) ∷ rest) mem free)) × (0 < l.steps)
          to_room lt more =
              let L = length w.0 in
              let k = packets Subscript in
              let within = known.2 in let small = known.3 in
              let told = word_less n (L + 1 - i) in
              let one : word_less n (L + 1 - i) ≡ 1 = ap one_if (lt-ltb n (L + 1 - i) more) in
              let w8 = k ∷ told ∷ (L + 1 - i) ∷ rest in
              let w9 = k ∷ 1 ∷ (L + 1 - i) ∷ rest in
              let p = pc + 1 + 1 + 1 + 1 + 1 + 1 + 1 + 1 in (
                trans code (middle lt)
                    (trans code (brz C M A N code f front p w8 mem free (length front + 1) other told (young C M A N code f front w8 1 (length front + 1) told refl refl) (omega arith) has.1.1.1.1.1.1.1.1.0)
                    (trans code (li C M A N code f front (p + 1) 1 (length front + 1) w8 mem free refl (omega arith) 1 has.1.1.1.1.1.1.1.1.1.0)
                    (add C M A N code f front (p + 1 + 1) 2 (length front + 2) w9 mem free refl (omega arith) z (length front + 1) n 1
                    (old C M A N code f front w9 z n e'') (young C M A N code f front w9 1 (length front + 1) 1 refl refl) (omega arith) has.1.1.1.1.1.1.1.1.1.1.0))),
                omega arith,
              )

          room_for : i < length w.0 + 1 → n < length w.0 + 1 - i → Comes code f lay front mem (given q) (way_on q (pc + 17) other) (inside f pc (front ++ a ∷ b ∷ c ∷ rest) mem free)
          room_for lt more = ⊎_elim short enough (cases_lt (length free) (n + 1))
            where
              short : length free < n + 1 → Comes code f lay front mem (given q) (way_on q (pc + 17) other) (inside f pc (front ++ a ∷ b ∷ c ∷ rest) mem free)
              short little =
                  let ws = packets Subscript ∷ 1 ∷ (n + 1) ∷ rest in
                  let l = to_room lt more in
                  rows.Comes.lacks_heap (out_after code l.0 (no_alloc_var C M A N code f front (pc + 1 + 1 + 1 + 1 + 1 + 1 + 1 + 1 + 1 + 1 + 1) 0 (length front) ws mem free first (omega arith) (length front + 2) (n + 1)
                  (young C M A N code f front ws 2 (length front + 2) (n + 1) refl refl) little has.1.1.1.1.1.1.1.1.1.1.1.0))

              enough : n + 1 ≤ length free → Comes code f lay front mem (given q) (way_on q (pc + 17) other) (inside f pc (front ++ a ∷ b ∷ c ∷ rest) mem free)
              enough le =
                  let ws = packets Subscript ∷ 1 ∷ (n + 1) ∷ rest in
                  let l = to_room lt more in
                  let t = cut_at (n + 1) free le in
                  let o = one_more t.0 n t.3 in
                  let split : free ≡ (o.0 ∷ o.1) ++ t.1 = t.2 ∙ ap (λ z. z ++ t.1) o.2 in
                  let part = take n (drop i w.0) in
                  let fits : i + n ≤ length w.0 = omega arith in
                  let p = pc + 1 + 1 + 1 + 1 + 1 + 1 + 1 + 1 + 1 + 1 + 1 in
                  let s11 = alloc_var C M A N code f front p 0 (length front) ws mem free first (omega arith) (length front + 2) (n + 1) (o.0 ∷ o.1) t.1
                  (young C M A N code f front ws 2 (length front + 2) (n + 1) refl refl) split (omega (arith, o.3)) has.1.1.1.1.1.1.1.1.1.1.1.0 in
                  let end = part_made C M A N code f front lay mem rest t.1 o.1 w.0 x y z m i n o.0 (n + 1) (p + 1) ready.whole ready.low known.3 w.3 known.1 known.2 e e' e'' fits o.3 has.1.1.1.1.1.1.1.1.1.1.1.1 in
                  let n17 : p + 1 + 1 + 1 + 1 + 1 + 1 ≡ pc + 17 = omega arith in
                  let q_is : made (string part) ≡ q = ap (or_subscript string) (sym (part_is w.0 w.1 w.2 i n w.4 w.5 fits (let small = known.3 in let within = known.2 in omega arith))) ∙ w.6 in
                  let some = l.1 in
                  let bytes = w.3 in
                  subst (λ q. Comes code f lay front mem (given q) (way_on q (pc + 17) other) (inside f pc (front ++ a ∷ b ∷ c ∷ rest) mem free)) q_is
                  (subst (λ z. Comes code f lay front mem (literal (string part)) z (inside f pc (front ++ a ∷ b ∷ c ∷ rest) mem free)) n17
                  (new_text code f lay front mem part ((length mem + 1) ∷ (m + i + 1) ∷ rest) t.1 (p + 1 + 1 + 1 + 1 + 1 + 1) (inside f pc (front ++ a ∷ b ∷ c ∷ rest) mem free) ready.whole
                  (bytes_taken n (drop i w.0) (bytes_dropped i w.0 bytes.2)) (trans code l.0 (trans code s11 end)) (omega arith)))

  pub part : RowIsRight texts PartOf 17 part_of
  part = record {
    long = λ packets pc d other xs. refl;
    does = λ code f lay front above mem free ready xs ls q h r packets are pc other has.
        part_by code f lay front above mem free ready q packets (are Subscript) pc other (text_span lay front (λ s i n. or_subscript string (bytes_from s i n)) q h (sym (texts_part ls) ∙ r)) has;
  }
