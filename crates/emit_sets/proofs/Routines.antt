-- The routines of sets that are there so far.
use Rattle.std.proofs.Common.{◌≡◌, ℕ, suc, ◌+◌, ◌-◌, ◌<◌, List, [], ◌∷◌, ◌++◌, length, ap, ◌∙◌, ⊎_elim, arith, append_assoc, length-append, get_or}
use Rattle.std.proofs.lemmas.Bool.{cases_lt}
use Rattle.std.proofs.lemmas.List.{get_or_append_left, get_or_push, get_or_past}
use Rattle.first_values.specs.Operations.{Member}
use Rattle.ir_ssa.specs.Tree.{Fun}
use Rattle.ir_code.specs.declared.instr.Instr.{Instr}
use Rattle.ir_code.specs.declared.instr.Instr.TheVariants.{Jmp}
use Rattle.machine_routines.specs.FindCode.{Target, Way, by_table, by_search, way_size, way_code, jumps}
use Rattle.machine_code.specs.Image.{widest, placed, set_way, set_code, set_size, sets_code, set_place}
use Rattle.machine_code.proofs.Sizes.{search_length, jumps_length}

way-length : (set : List Target) (pc k e p : ℕ) (w : Way) → length (way_code set pc k e p w) ≡ way_size w
way-length set pc k e p (by_table n) = omega (arith, length-append (jumps set p 0 n) (Jmp p ∷ []), jumps_length set p 0 n)
way-length set pc k e p (by_search s) = search_length pc k e p s

pub set-length : (pc k : ℕ) (set : List Target) → length (set_code pc k set) ≡ set_size set
set-length pc k set = omega (arith, way-length set (pc + 2) (k + 2) (k + 3) 0 (set_way set))

module _ (funs : List Fun) (fun_at : ℕ → ℕ) (sets : List (List Member)) (old : List Instr) where
  -- what is there, with the rest, is the whole; where routines stand, and where those of the rest are to stand
  pub record SetsSoFar (rest : List (List Member)) (code : List Instr) (places : List ℕ) : Type 0 where
    pub whole : code ++ sets_code funs fun_at (length code) rest ≡ old ++ sets_code funs fun_at (length old) sets
    pub found : (t e : ℕ) → t < length places → get_or places t e ≡ set_place funs fun_at (length old) sets t
    pub behind : (t : ℕ) → set_place funs fun_at (length code) rest t ≡ set_place funs fun_at (length old) sets (length places + t)

  pub sets-next : (set : List Member) (rest : List (List Member)) (code code' : List Instr) (places places' : List ℕ) (p : ℕ) → SetsSoFar (set ∷ rest) code places
      → code' ≡ code ++ set_code (length code) (widest funs set) (placed fun_at set) → p ≡ length code → places' ≡ places ++ p ∷ [] → SetsSoFar rest code' places'
  sets-next set rest code code' places places' p f ec ep el =
      let this = set_code (length code) (widest funs set) (placed fun_at set) in
      let size = set_size (placed fun_at set) in
      let wide : length code' ≡ length code + size =
      ap length ec ∙ omega (arith, length-append code this, set-length (length code) (widest funs set) (placed fun_at set)) in
      let long : length places' ≡ length places + 1 = ap length el ∙ length-append places (p ∷ []) in
      let here : p ≡ set_place funs fun_at (length old) sets (length places) =
      ep ∙ f.behind 0 ∙ ap (set_place funs fun_at (length old) sets) (let z : length places + 0 ≡ length places = omega arith in z) in
      record {
        whole = ap (λ n. code' ++ sets_code funs fun_at n rest) wide ∙ ap (λ l. l ++ sets_code funs fun_at (length code + size) rest) ec
            ∙ append_assoc code this (sets_code funs fun_at (length code + size) rest) ∙ f.whole;
        found = λ i e lt.
            ⊎_elim (λ below. ap (λ l. get_or l i e) el ∙ get_or_append_left places (p ∷ []) e i below ∙ f.found i e below)
            (λ past.
            let same : length places ≡ i = omega (arith, past, lt, long) in
            ap (λ l. get_or l i e) el ∙ get_or_push places p e i same ∙ here ∙ ap (set_place funs fun_at (length old) sets) same)
            (cases_lt i (length places));
        behind = λ i. ap (λ n. set_place funs fun_at n rest i) wide ∙ f.behind (suc i)
            ∙ ap (set_place funs fun_at (length old) sets) (let z : length places + suc i ≡ length places' + i = omega (arith, long) in z);
      }

  pub sets-done : (code : List Instr) (places : List ℕ) (end : ℕ) → end ≡ length code → SetsSoFar [] code places
      → (i : ℕ) → get_or places i end ≡ set_place funs fun_at (length old) sets i
  sets-done code places end e f i =
      ⊎_elim (λ below. f.found i end below)
      (λ past. get_or_past places i end past ∙ e
      ∙ f.behind (i - length places)
      ∙ ap (set_place funs fun_at (length old) sets) (let z : length places + (i - length places) ≡ i = omega (arith, past) in z))
      (cases_lt i (length places))
