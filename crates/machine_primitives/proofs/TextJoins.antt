-- Two texts as one.
use Rattle.std.proofs.Common.{◌≡◌, ℕ, ◌+◌, ◌<◌, ◌≤◌, ◌^◌, List, [], ◌∷◌, ◌++◌, length, Some, refl, sym, ap, ◌∙◌, subst, ⊎_elim, arith, length-append}
use Rattle.std.specs.Prelude.{slice_get, if◌then◌else◌}
use Rattle.std.proofs.lemmas.Bool.{cases_lt, lt-ltb, le-ltb, lt-leb, le-leb}
use Rattle.ir_code.specs.declared.instr.Instr.{Instr}
use Rattle.ir_code.specs.declared.instr.Instr.TheVariants.{Li, Ld, St, Copy, WAdd, ULt}
use Rattle.ir_code.specs.declared.halt.Halt.TheVariants.{NoStack}
use Rattle.ir_code.specs.Words.{one_if, word_less}
use Rattle.ir_code.specs.Laws.{ControlLaws, MemoryLaws, ArithmeticLaws, NextLaws}
use Rattle.mlc_prims.specs.LitOf.{string}
use Rattle.mlc_prims.specs.PrimOf.{Gives, made, raised, joined, max_size}
use Rattle.mlc_prims.specs.declared.prim.PrimExn.TheVariants.{Size}
use Rattle.first_values.specs.Values.{literal}
use Rattle.machine_code.specs.of_machine_routines.Layout.{Word, Is}
use Rattle.machine_code.specs.of_machine_routines.Runs.{HasAt, Frame, inside, Leads}
use Rattle.machine_code.proofs.of_machine_routines.Seams.{get_left, cut_at}
use Rattle.machine_code.proofs.of_machine_routines.LayoutLemmas.{BytesIn}
use Rattle.machine_code.proofs.of_machine_routines.Leads.{trans, cut, out_after}
use Rattle.machine_code.specs.Rows.{Packets, Ready, Comes, given, way_on}
use Rattle.machine_code.specs.Rows as rows
use Rattle.machine_primitives.specs.RowCode.{join_of}
use Rattle.machine_primitives.specs.Laws.{TextsAreRight}
use Rattle.machine_primitives.proofs.Shapes.{same_comes}
use Rattle.machine_primitives.proofs.Window.{at, old, young, lacks, li, ld, brz, brz_zero, add, alloc_var, no_alloc_var, st, copy}
use Rattle.machine_primitives.proofs.Window as window
use Rattle.machine_primitives.proofs.MoreTexts.{text_in, bytes_joined, new_text}
use Rattle.machine_primitives.proofs.Rows.{Two, both}
use Rattle.machine_primitives.proofs.TextRows.{char_at, string_of, text_of}
use Rattle.machine_primitives.proofs.TextParts.{Both, text_pair, texts_concat, one_more, copy_last, part}

fits_one : (s t : List ℕ) → length s + length t < 2 ^ 28 → joined s t ≡ made (string (s ++ t))
fits_one s t lt = ap (λ b. if b then made (string (s ++ t)) else raised Size) (le-leb (length s + length t) max_size (omega arith))

too_many : (s t : List ℕ) → 2 ^ 28 ≤ length s + length t → joined s t ≡ raised Size
too_many s t le = ap (λ b. if b then made (string (s ++ t)) else raised Size) (lt-leb (length s + length t) max_size (omega arith))

module _ (C : ControlLaws) (M : MemoryLaws) (A : ArithmeticLaws) (N : NextLaws) (code : List Instr) (f : Frame) (front : List ℕ) where
  -- Where the new words are there.
  joined_made : (mem rest free' junk1 junk2 s t : List ℕ) (x y m n j k o pc : ℕ) → f.base ≤ length mem → length mem + length s + 1 < 2 ^ 32
      → slice_get mem (n + 0) ≡ Some (length t) → BytesIn mem s (m + 1) → m + 1 + length s ≤ length mem → BytesIn mem t (n + 1) → n + 1 + length t ≤ length mem
      → slice_get front x ≡ Some m → slice_get front y ≡ Some n → length junk1 ≡ length s → length junk2 ≡ length t → k ≡ length s + length t
      → HasAt code pc
      (St (length front) 0 (length front + 1)
      ∷ Li (length front + 2) 1 ∷ WAdd (length front + 1) (length front) (length front + 2) ∷ WAdd (length front + 2) x (length front + 2) ∷ Copy (length front + 1) (length front + 2) (length front + 3)
      ∷ WAdd (length front + 1) (length front + 1) (length front + 3) ∷ Li (length front + 2) 1 ∷ WAdd (length front + 2) y (length front + 2) ∷ Ld (length front + 3) y 0 ∷ Copy (length front + 1) (length front + 2) (length front + 3) ∷ [])
      → Leads code (at C M A N code f front pc (length mem ∷ k ∷ o ∷ length s ∷ rest) (mem ++ (j ∷ (junk1 ++ junk2))) free')
      (at C M A N code f front (pc + 1 + 1 + 1 + 1 + 1 + 1 + 1 + 1 + 1 + 1) (length mem ∷ (length mem + 1 + length s) ∷ (n + 1) ∷ length t ∷ rest) (mem ++ (k ∷ (s ++ t))) free')
  joined_made mem rest free' junk1 junk2 s t x y m n j k o pc low small first_t bytes within bytes' within' e e' l1 l2 sum has =
      let first : length front ≡ length front + 0 = omega arith in
      let S = length s in
      let T = length t in
      let top = length mem in
      let w1 = top ∷ k ∷ o ∷ S ∷ rest in
      let w2 = top ∷ k ∷ 1 ∷ S ∷ rest in
      let w3 = top ∷ (top + 1) ∷ 1 ∷ S ∷ rest in
      let w4 = top ∷ (top + 1) ∷ (m + 1) ∷ S ∷ rest in
      let w5 = top ∷ (top + 1 + S) ∷ (m + 1) ∷ S ∷ rest in
      let w6 = top ∷ (top + 1 + S) ∷ 1 ∷ S ∷ rest in
      let w7 = top ∷ (top + 1 + S) ∷ (n + 1) ∷ S ∷ rest in
      let w8 = top ∷ (top + 1 + S) ∷ (n + 1) ∷ T ∷ rest in
      let big = mem ++ (k ∷ (junk1 ++ junk2)) in
      let more = mem ++ (k ∷ (s ++ junk2)) in
      let p4 = pc + 1 + 1 + 1 + 1 in
      let s0 = st C M A N code f front pc w1 mem free' (j ∷ (junk1 ++ junk2)) (length front) 0 (length front + 1) k low (omega arith)
      (young C M A N code f front w1 0 (length front) top first refl) (young C M A N code f front w1 1 (length front + 1) k refl refl) has.0 in
      let s1 = li C M A N code f front (pc + 1) 2 (length front + 2) w1 big free' refl (omega arith) 1 has.1.0 in
      let s2 = add C M A N code f front (pc + 1 + 1) 1 (length front + 1) w2 big free' refl (omega arith) (length front) (length front + 2) top 1
      (young C M A N code f front w2 0 (length front) top first refl) (young C M A N code f front w2 2 (length front + 2) 1 refl refl) (omega arith) has.1.1.0 in
      let s3 = add C M A N code f front (pc + 1 + 1 + 1) 2 (length front + 2) w3 big free' refl (omega arith) x (length front + 2) m 1
      (old C M A N code f front w3 x m e) (young C M A N code f front w3 2 (length front + 2) 1 refl refl) (omega arith) has.1.1.1.0 in
      let s4 = copy C M A N code f front p4 w4 mem free' (k ∷ []) junk1 junk2 s (length front + 1) (length front + 2) (length front + 3) (top + 1) (m + 1) low refl l1 (omega arith) bytes
      (young C M A N code f front w4 1 (length front + 1) (top + 1) refl refl) (young C M A N code f front w4 2 (length front + 2) (m + 1) refl refl) (young C M A N code f front w4 3 (length front + 3) S refl refl) has.1.1.1.1.0 in
      let s5 = add C M A N code f front (p4 + 1) 1 (length front + 1) w4 more free' refl (omega arith) (length front + 1) (length front + 3) (top + 1) S
      (young C M A N code f front w4 1 (length front + 1) (top + 1) refl refl) (young C M A N code f front w4 3 (length front + 3) S refl refl) (omega arith) has.1.1.1.1.1.0 in
      let s6 = li C M A N code f front (p4 + 1 + 1) 2 (length front + 2) w5 more free' refl (omega arith) 1 has.1.1.1.1.1.1.0 in
      let s7 = add C M A N code f front (p4 + 1 + 1 + 1) 2 (length front + 2) w6 more free' refl (omega arith) y (length front + 2) n 1
      (old C M A N code f front w6 y n e') (young C M A N code f front w6 2 (length front + 2) 1 refl refl) (omega arith) has.1.1.1.1.1.1.1.0 in
      let s8 = ld C M A N code f front (p4 + 1 + 1 + 1 + 1) 3 (length front + 3) w7 more free' refl (omega arith) y 0 n T (old C M A N code f front w7 y n e') (get_left mem (k ∷ (s ++ junk2)) (n + 0) T first_t) has.1.1.1.1.1.1.1.1.0 in
      let end : top + 1 + S ≡ length mem + length (k ∷ s) = omega arith in
      let s9 = copy_last C M A N code f front (p4 + 1 + 1 + 1 + 1 + 1) w8 mem free' (k ∷ s) junk2 t (length front + 1) (length front + 2) (length front + 3) (top + 1 + S) (n + 1) low end l2 (omega arith) bytes'
      (young C M A N code f front w8 1 (length front + 1) (top + 1 + S) refl refl) (young C M A N code f front w8 2 (length front + 2) (n + 1) refl refl) (young C M A N code f front w8 3 (length front + 3) T refl refl) has.1.1.1.1.1.1.1.1.1.0 in
      trans code s0 (trans code s1 (trans code s2 (trans code s3 (trans code s4 (trans code s5 (trans code s6 (trans code s7 (trans code s8 s9))))))))

module _ (C : ControlLaws) (M : MemoryLaws) (A : ArithmeticLaws) (N : NextLaws) where
  join_by : (code : List Instr) (f : Frame) (lay : List Word) (front above mem free : List ℕ) → Ready f lay mem free → (q : Gives) (packets : Packets) → Is lay (given (raised Size)) (packets Size)
      → (pc other : ℕ) {xs : List ℕ} → Two front (Both lay joined q) xs → HasAt code pc (join_of packets pc (length front) other xs)
      → Comes code f lay front mem (given q) (way_on q (pc + 20) other) (inside f pc (front ++ above) mem free)
  join_by code f lay front [] mem free ready q packets is pc other (both x y m n e e' w) has =
      rows.Comes.lacks_stack (cut code N NoStack (inside f pc (front ++ []) mem free) (Ld (length front + 3) x 0) has.0 (lacks C M A N code f front pc 3 (length front + 3) [] mem free _ refl (omega arith)))
  join_by code f lay front (a ∷ []) mem free ready q packets is pc other (both x y m n e e' w) has =
      rows.Comes.lacks_stack (cut code N NoStack (inside f pc (front ++ a ∷ []) mem free) (Ld (length front + 3) x 0) has.0 (lacks C M A N code f front pc 3 (length front + 3) (a ∷ []) mem free _ refl (omega arith)))
  join_by code f lay front (a ∷ b ∷ []) mem free ready q packets is pc other (both x y m n e e' w) has =
      rows.Comes.lacks_stack (cut code N NoStack (inside f pc (front ++ a ∷ b ∷ []) mem free) (Ld (length front + 3) x 0) has.0 (lacks C M A N code f front pc 3 (length front + 3) (a ∷ b ∷ []) mem free _ refl (omega arith)))
  join_by code f lay front (a ∷ b ∷ c ∷ []) mem free ready q packets is pc other (both x y m n e e' w) has =
      rows.Comes.lacks_stack (cut code N NoStack (inside f pc (front ++ a ∷ b ∷ c ∷ []) mem free) (Ld (length front + 3) x 0) has.0 (lacks C M A N code f front pc 3 (length front + 3) (a ∷ b ∷ c ∷ []) mem free _ refl (omega arith)))
  join_by code f lay front (a ∷ b ∷ c ∷ d ∷ rest) mem free ready q packets is pc other (both x y m n e e' w) has = ⊎_elim small_sum (λ le. large_sum le) (cases_lt (length w.0 + length w.1) (2 ^ 28))
    where
      first : length front ≡ length front + 0
      first = omega arith

      known : (slice_get mem (m + 0) ≡ Some (length w.0)) × BytesIn mem w.0 (m + 1) × (m + 1 + length w.0 ≤ length mem) × (length mem < 2 ^ 31)
      known = text_in f lay mem free w.0 m ready.shows ready.small w.2

      known' : (slice_get mem (n + 0) ≡ Some (length w.1)) × BytesIn mem w.1 (n + 1) × (n + 1 + length w.1 ≤ length mem) × (length mem < 2 ^ 31)
      known' = text_in f lay mem free w.1 n ready.shows ready.small w.3

      start : Leads code (at C M A N code f front pc (a ∷ b ∷ c ∷ d ∷ rest) mem free)
          (at C M A N code f front (pc + 1 + 1 + 1 + 1 + 1 + 1) (packets Size ∷ (length w.0 + length w.1) ∷ word_less (length w.0 + length w.1) (2 ^ 28) ∷ length w.0 ∷ rest) mem free)
      start =
          let S = length w.0 in
          let T = length w.1 in
          let within = known.2 in let within' = known'.2 in let small = known.3 in
          let w1 = a ∷ b ∷ c ∷ S ∷ rest in
          let w2 = a ∷ T ∷ c ∷ S ∷ rest in
          let w3 = a ∷ (S + T) ∷ c ∷ S ∷ rest in
          let w4 = a ∷ (S + T) ∷ 2 ^ 28 ∷ S ∷ rest in
          let w5 = a ∷ (S + T) ∷ word_less (S + T) (2 ^ 28) ∷ S ∷ rest in
          trans code (ld C M A N code f front pc 3 (length front + 3) (a ∷ b ∷ c ∷ d ∷ rest) mem free refl (omega arith) x 0 m S (old C M A N code f front (a ∷ b ∷ c ∷ d ∷ rest) x m e) known.0 has.0)
          (trans code (ld C M A N code f front (pc + 1) 1 (length front + 1) w1 mem free refl (omega arith) y 0 n T (old C M A N code f front w1 y n e') known'.0 has.1.0)
          (trans code (add C M A N code f front (pc + 1 + 1) 1 (length front + 1) w2 mem free refl (omega arith) (length front + 3) (length front + 1) S T
          (young C M A N code f front w2 3 (length front + 3) S refl refl) (young C M A N code f front w2 1 (length front + 1) T refl refl) (omega arith) has.1.1.0)
          (trans code (li C M A N code f front (pc + 1 + 1 + 1) 2 (length front + 2) w3 mem free refl (omega arith) (2 ^ 28) has.1.1.1.0)
          (trans code (window.two C M A N code f front (pc + 1 + 1 + 1 + 1) 2 (length front + 2) w4 mem free refl (omega arith) ULt word_less A.ult (length front + 1) (length front + 2) (S + T) (2 ^ 28)
          (young C M A N code f front w4 1 (length front + 1) (S + T) refl refl) (young C M A N code f front w4 2 (length front + 2) (2 ^ 28) refl refl) has.1.1.1.1.0)
          (li C M A N code f front (pc + 1 + 1 + 1 + 1 + 1) 0 (length front) w5 mem free first (omega arith) (packets Size) has.1.1.1.1.1.0)))))

      large_sum : 2 ^ 28 ≤ length w.0 + length w.1 → Comes code f lay front mem (given q) (way_on q (pc + 20) other) (inside f pc (front ++ a ∷ b ∷ c ∷ d ∷ rest) mem free)
      large_sum le =
          let S = length w.0 in
          let T = length w.1 in
          let told = word_less (S + T) (2 ^ 28) in
          let k = packets Size in
          let ws = k ∷ (S + T) ∷ told ∷ S ∷ rest in
          let zero_is : word_less (S + T) (2 ^ 28) ≡ 0 = ap one_if (le-ltb (S + T) (2 ^ 28) le) in
          let s6 = brz_zero C M A N code f front (pc + 1 + 1 + 1 + 1 + 1 + 1) ws mem free (length front + 2) other (young C M A N code f front ws 2 (length front + 2) 0 refl (ap Some zero_is)) has.1.1.1.1.1.1.0 in
          subst (λ q. Comes code f lay front mem (given q) (way_on q (pc + 20) other) (inside f pc (front ++ a ∷ b ∷ c ∷ d ∷ rest) mem free)) (sym (too_many w.0 w.1 le) ∙ w.4)
          (same_comes C M A N code f lay front mem free (given (raised Size)) k other (inside f pc (front ++ a ∷ b ∷ c ∷ d ∷ rest) mem free) ((S + T) ∷ told ∷ S ∷ rest) is (trans code start s6) (omega arith))

      to_room : length w.0 + length w.1 < 2 ^ 28 → (l : Leads code (at C M A N code f front pc (a ∷ b ∷ c ∷ d ∷ rest) mem free)
          (at C M A N code f front (pc + 1 + 1 + 1 + 1 + 1 + 1 + 1 + 1 + 1) (packets Size ∷ (length w.0 + length w.1) ∷ (length w.0 + length w.1 + 1) ∷ length w.0 ∷ rest) mem free)) × (0 < l.steps)
      to_room lt =
          let S = length w.0 in
          let T = length w.1 in
          let told = word_less (S + T) (2 ^ 28) in
          let k = packets Size in
          let w6 = k ∷ (S + T) ∷ told ∷ S ∷ rest in
          let w7 = k ∷ (S + T) ∷ 1 ∷ S ∷ rest in
          let one : word_less (S + T) (2 ^ 28) ≡ 1 = ap one_if (lt-ltb (S + T) (2 ^ 28) lt) in
          let p = pc + 1 + 1 + 1 + 1 + 1 + 1 in (
            trans code start
                (trans code (brz C M A N code f front p w6 mem free (length front + 2) other told (young C M A N code f front w6 2 (length front + 2) told refl refl) (omega arith) has.1.1.1.1.1.1.0)
                (trans code (li C M A N code f front (p + 1) 2 (length front + 2) w6 mem free refl (omega arith) 1 has.1.1.1.1.1.1.1.0)
                (add C M A N code f front (p + 1 + 1) 2 (length front + 2) w7 mem free refl (omega arith) (length front + 1) (length front + 2) (S + T) 1
                (young C M A N code f front w7 1 (length front + 1) (S + T) refl refl) (young C M A N code f front w7 2 (length front + 2) 1 refl refl) (omega arith) has.1.1.1.1.1.1.1.1.0))),
            omega arith,
          )

      small_sum : length w.0 + length w.1 < 2 ^ 28 → Comes code f lay front mem (given q) (way_on q (pc + 20) other) (inside f pc (front ++ a ∷ b ∷ c ∷ d ∷ rest) mem free)
      small_sum lt = ⊎_elim short enough (cases_lt (length free) (length w.0 + length w.1 + 1))
        where
          short : length free < length w.0 + length w.1 + 1 → Comes code f lay front mem (given q) (way_on q (pc + 20) other) (inside f pc (front ++ a ∷ b ∷ c ∷ d ∷ rest) mem free)
          short little =
              let S = length w.0 in
              let T = length w.1 in
              let ws = packets Size ∷ (S + T) ∷ (S + T + 1) ∷ S ∷ rest in
              let l = to_room lt in
              rows.Comes.lacks_heap (out_after code l.0 (no_alloc_var C M A N code f front (pc + 1 + 1 + 1 + 1 + 1 + 1 + 1 + 1 + 1) 0 (length front) ws mem free first (omega arith) (length front + 2) (S + T + 1)
              (young C M A N code f front ws 2 (length front + 2) (S + T + 1) refl refl) little has.1.1.1.1.1.1.1.1.1.0))

          enough : length w.0 + length w.1 + 1 ≤ length free → Comes code f lay front mem (given q) (way_on q (pc + 20) other) (inside f pc (front ++ a ∷ b ∷ c ∷ d ∷ rest) mem free)
          enough le =
              let S = length w.0 in
              let T = length w.1 in
              let ws = packets Size ∷ (S + T) ∷ (S + T + 1) ∷ S ∷ rest in
              let l = to_room lt in
              let t = cut_at (S + T + 1) free le in
              let o = one_more t.0 (S + T) t.3 in
              let u = cut_at S o.1 (omega (arith, o.3)) in
              let split : free ≡ (o.0 ∷ (u.0 ++ u.1)) ++ t.1 = t.2 ∙ ap (λ z. z ++ t.1) (o.2 ∙ ap (λ z. o.0 ∷ z) u.2) in
              let long : length u.1 ≡ T = omega (arith, ap length u.2, o.3, u.3, length-append u.0 u.1) in
              let p = pc + 1 + 1 + 1 + 1 + 1 + 1 + 1 + 1 + 1 in
              let small = known.3 in
              let within = known.2 in
              let within' = known'.2 in
              let s9 = alloc_var C M A N code f front p 0 (length front) ws mem free first (omega arith) (length front + 2) (S + T + 1) (o.0 ∷ (u.0 ++ u.1)) t.1
              (young C M A N code f front ws 2 (length front + 2) (S + T + 1) refl refl) split (omega (arith, long, u.3, length-append u.0 u.1)) has.1.1.1.1.1.1.1.1.1.0 in
              let end = joined_made C M A N code f front mem rest t.1 u.0 u.1 w.0 w.1 x y m n o.0 (S + T) (S + T + 1) (p + 1) ready.low (omega arith) known'.0 known.1 known.2 known'.1 known'.2 e e' u.3 long refl
              has.1.1.1.1.1.1.1.1.1.1 in
              let both_long : S + T ≡ length (w.0 ++ w.1) = sym (length-append w.0 w.1) in
              let n20 : p + 1 + 1 + 1 + 1 + 1 + 1 + 1 + 1 + 1 + 1 + 1 ≡ pc + 20 = omega arith in
              let some = l.1 in
              let first_bytes = w.2 in
              let second_bytes = w.3 in
              let w8 = length mem ∷ (length mem + 1 + S) ∷ (n + 1) ∷ T ∷ rest in
              let place = p + 1 + 1 + 1 + 1 + 1 + 1 + 1 + 1 + 1 + 1 + 1 in
              let run : Leads code (at C M A N code f front (p + 1) (length mem ∷ (S + T) ∷ (S + T + 1) ∷ S ∷ rest) (mem ++ (o.0 ∷ (u.0 ++ u.1))) t.1) (at C M A N code f front place w8 (mem ++ (length (w.0 ++ w.1) ∷ (w.0 ++ w.1))) t.1) =
              subst (λ k. Leads code (at C M A N code f front (p + 1) (length mem ∷ (S + T) ∷ (S + T + 1) ∷ S ∷ rest) (mem ++ (o.0 ∷ (u.0 ++ u.1))) t.1) (at C M A N code f front place w8 (mem ++ (k ∷ (w.0 ++ w.1))) t.1)) both_long end in
              subst (λ q. Comes code f lay front mem (given q) (way_on q (pc + 20) other) (inside f pc (front ++ a ∷ b ∷ c ∷ d ∷ rest) mem free)) (sym (fits_one w.0 w.1 lt) ∙ w.4)
              (subst (λ z. Comes code f lay front mem (literal (string (w.0 ++ w.1))) z (inside f pc (front ++ a ∷ b ∷ c ∷ d ∷ rest) mem free)) n20
              (new_text code f lay front mem (w.0 ++ w.1) ((length mem + 1 + S) ∷ (n + 1) ∷ T ∷ rest) t.1 place (inside f pc (front ++ a ∷ b ∷ c ∷ d ∷ rest) mem free) ready.whole
              (bytes_joined w.0 w.1 first_bytes.2 second_bytes.2) (trans code l.0 (trans code s9 run)) (omega arith)))

  pub text_rows : TextsAreRight
  text_rows = record {
    char_at = char_at C M A N;
    part = part C M A N;
    concat = record {
      long = λ packets pc d other xs. refl;
      does = λ code f lay front above mem free ready xs ls q h r packets are pc other has.
          join_by code f lay front above mem free ready q packets (are Size) pc other (text_pair lay front joined q h (sym (texts_concat ls) ∙ r)) has;
    };
    string_of = string_of C M A N;
    text_of = text_of C M A N;
  }
