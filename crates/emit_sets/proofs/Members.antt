-- Members of a set.
use Rattle.std.proofs.Common.{◌≡◌, refl, ℕ, zero, suc, ◌+◌, ◌*◌, ◌≤◌, ◌<◌, List, [], ◌∷◌, ◌++◌, length, map, get_or, Bool, true, false, sym, ap, ◌∙◌, arith, append_assoc, length-append}
use Rattle.std.proofs.lemmas.Bool.{le-leb, lt-leb}
use Rattle.std.specs.Prelude.{nat_le, if◌then◌else◌}
use Rattle.first_values.specs.Operations.{Member}
use Rattle.ir_ssa.specs.Tree.{Fun}
use Rattle.ir_code.specs.declared.instr.Instr.{Instr}
use Rattle.ir_code.specs.declared.instr.Instr.TheVariants.{Li, Ld}
use Rattle.machine_routines.specs.FindCode.{Target, by_table, by_search, table_code, search_code, search_of, way_of, way_code}
use Rattle.machine_code.specs.Image.{params_of, widest, placed, set_code, tags_end}
use Rattle.std.proofs.lemmas.List.{map-append}
use Rattle.first_tables.specs.TablesOf.{member_of}
use Rattle.first_tables.specs.declared.tables.Member.{Member as CodeMember}
use Rattle.ssa_tree.specs.TreeOf.{fun_of}
use Rattle.ssa_tree.specs.declared.tree.Fun.{Fun as CodeFun}
use Rattle.emit_code.specs.Tags.{target_of}
use Rattle.emit_code.specs.declared.choice.Target.{Target as CodeTarget}

pub widest-least : (funs : List Fun) (set : List Member) → 1 ≤ widest funs set
widest-least funs [] = omega arith
widest-least funs (m ∷ ms) = omega (arith, widest-least funs ms)

-- a table where they are dense, else a search
by-table : (set : List Target) (pc k e n : ℕ) (b : Bool) → b ≡ true
    → way_code set pc k e 0 (if b then by_table n else by_search (search_of false 0 (length set) set)) ≡ table_code set k 0 n
by-table set pc k e n b h = ap (λ c. way_code set pc k e 0 (if c then by_table n else by_search (search_of false 0 (length set) set))) h

by-search : (set : List Target) (pc k e n : ℕ) (b : Bool) → b ≡ false
    → way_code set pc k e 0 (if b then by_table n else by_search (search_of false 0 (length set) set)) ≡ search_code pc k e 0 (search_of false 0 (length set) set)
by-search set pc k e n b h = ap (λ c. way_code set pc k e 0 (if c then by_table n else by_search (search_of false 0 (length set) set))) h

pub dense : (set : List Target) (pc k e n : ℕ) → n ≤ 2 * length set → table_code set k 0 n ≡ way_code set pc k e 0 (way_of false 0 n set)
dense set pc k e n h = sym (by-table set pc k e n (nat_le n (2 * length set)) (le-leb n (2 * length set) h))

pub sparse : (set : List Target) (pc k e n : ℕ) → 2 * length set < n
    → search_code pc k e 0 (search_of false 0 (length set) set) ≡ way_code set pc k e 0 (way_of false 0 n set)
sparse set pc k e n h = sym (by-search set pc k e n (nat_le n (2 * length set)) (lt-leb n (2 * length set) h))

-- the routine of a set: two instructions, and then the way
pub set-is : (set : List Target) (old c1 : List Instr) (i j : Instr) (k tag free end : ℕ) → c1 ≡ old ++ i ∷ j ∷ [] → i ≡ Li free 0 → j ≡ Ld tag 2 0 → tag ≡ k + 2
    → free ≡ tag + 1 → end ≡ tags_end set → c1 ++ way_code set (length c1) tag free 0 (way_of false 0 end set) ≡ old ++ set_code (length old) k set
set-is set old c1 i j k tag free end h ei ej et ef en =
    let f : free ≡ k + 3 = omega (arith, et, ef) in
    let long : length c1 ≡ length old + 2 = omega (arith, ap length h, length-append old (i ∷ j ∷ [])) in
    let way = λ (pc t e n : ℕ). way_code set pc t e 0 (way_of false 0 n set) in
    ap (λ n. c1 ++ way (length c1) tag free n) en
    ∙ ap (λ n. c1 ++ way n tag free (tags_end set)) long
    ∙ ap (λ n. c1 ++ way (length old + 2) n free (tags_end set)) et
    ∙ ap (λ n. c1 ++ way (length old + 2) (k + 2) n (tags_end set)) f
    ∙ ap (λ l. l ++ way (length old + 2) (k + 2) (k + 3) (tags_end set))
    (h ∙ ap (λ z. old ++ z ∷ j ∷ []) (ei ∙ ap (λ n. Li n 0) f) ∙ ap (λ z. old ++ Li (k + 3) 0 ∷ z ∷ []) (ej ∙ ap (λ n. Ld n 2 0) et))
    ∙ append_assoc old (Li (k + 3) 0 ∷ Ld (k + 2) 2 0 ∷ []) (way (length old + 2) (k + 2) (k + 3) (tags_end set))

-- a function's parameters, by its number
pub params-at : (funs : List CodeFun) (i : ℕ) (g d : CodeFun) → i < length funs → g ≡ get_or funs i d → length g.params.items ≡ params_of (map fun_of funs) i
params-at [] i g d lt h = absurd (omega (arith, lt))
params-at (f ∷ funs) zero g d lt h = ap (λ z. length z.params.items) h
params-at (f ∷ funs) (suc i) g d lt h = params-at funs i g d (omega (arith, lt)) h

pub no-params : (funs : List CodeFun) (i : ℕ) → length funs ≤ i → 0 ≡ params_of (map fun_of funs) i
no-params [] i h = refl
no-params (f ∷ funs) zero h = absurd (omega (arith, h))
no-params (f ∷ funs) (suc i) h = no-params funs i (omega (arith, h))

-- one target more
pub placed-next : (fun_at : ℕ → ℕ) (m : CodeMember) (ms : List CodeMember) (ts more : List CodeTarget) (t : CodeTarget) (all : List Target)
    → map target_of ts ++ placed fun_at (map member_of (m ∷ ms)) ≡ all → more ≡ ts ++ t ∷ [] → t.tag ≡ m.tag → t.place ≡ fun_at m.function
    → map target_of more ++ placed fun_at (map member_of ms) ≡ all
placed-next fun_at m ms ts more t all h em et ep =
    let rest = placed fun_at (map member_of ms) in
    let same : target_of t ≡ record { tag = m.tag; place = fun_at m.function } = λ k. record { tag = et k; place = ep k } in
    ap (λ l. map target_of l ++ rest) em
    ∙ ap (λ l. l ++ rest) (map-append target_of ts (t ∷ []))
    ∙ append_assoc (map target_of ts) (target_of t ∷ []) rest
    ∙ ap (λ z. map target_of ts ++ z ∷ rest) same
    ∙ h
