-- For what puts code together: the functions that are there so far, and the whole.
use Rattle.std.proofs.Common.{◌≡◌, refl, ℕ, suc, ◌+◌, ◌-◌, ◌<◌, List, [], ◌∷◌, ◌++◌, length, ap, ◌∙◌, ⊎_elim, arith, append_assoc, length-append, get_or}
use Rattle.std.proofs.lemmas.Bool.{cases_lt}
use Rattle.std.proofs.lemmas.List.{get_or_append_left, get_or_push, get_or_past}
use Rattle.std.proofs.Math.Path.{fun_ext}
use Rattle.ir_code.specs.declared.instr.Instr.{Instr}
use Rattle.ir_code.specs.declared.instr.Instr.TheVariants.{Call as CallRow, End}
use Rattle.mlc_prims.specs.declared.prim.PrimExn.{PrimExn}
use Rattle.first_values.specs.Equality.{Shape}
use Rattle.ir_ssa.specs.Tree.{Fun, Program}
use Rattle.machine_routines.specs.EqualCode.{shape_code, shape_size, shapes_code, equal_code}
use Rattle.machine_routines.proofs.Stands.{shape_length}
use Rattle.machine_code.specs.Rows.{Rows, AreRight}
use Rattle.machine_code.specs.Code.{Places, with_params, code_at}
use Rattle.machine_code.specs.Image.{fun_size, fun_place, funs_code, funs_size, most_code, sets_code, shapes_size, places_of, code_of}
use Rattle.machine_code.proofs.Sizes.{code_length}
use Rattle.image_law.specs.Assembled.{funs_from, sets_from, code_by}

abbrev pub fun_code : Places → ℕ → Fun → List Instr
fun_code at pc g = code_at at pc (length g.params) (with_params g.params 0 []) [] g.body

funs-length : (at : Places) → AreRight at.rows → (pc : ℕ) (funs : List Fun) → length (funs_code at pc funs) ≡ funs_size at.rows at.types funs
funs-length at right pc [] = refl
funs-length at right pc (g ∷ funs) =
    let c = fun_code at pc g in
    omega (
      arith,
      length-append c (funs_code at (pc + fun_size at.rows at.types g) funs),
      code_length at right g.body pc (length g.params) (with_params g.params 0 []) [],
      funs-length at right (pc + fun_size at.rows at.types g) funs,
    )

module _ (at : Places) (right : AreRight at.rows) (funs : List Fun) (old : List Instr) where
  -- what is there, with the rest, is the whole; where functions stand, and where the rest is to stand
  pub record FunsSoFar (rest : List Fun) (code : List Instr) (places : List ℕ) : Type 0 where
    pub whole : code ++ funs_code at (length code) rest ≡ old ++ funs_code at (length old) funs
    pub found : (t e : ℕ) → t < length places → get_or places t e ≡ fun_place at.rows at.types (length old) funs t
    pub behind : (t : ℕ) → fun_place at.rows at.types (length code) rest t ≡ fun_place at.rows at.types (length old) funs (length places + t)

  pub funs-next : (g : Fun) (rest : List Fun) (code code' : List Instr) (places places' : List ℕ) (p : ℕ) → FunsSoFar (g ∷ rest) code places
      → code' ≡ code ++ fun_code at (length code) g → p ≡ length code → places' ≡ places ++ p ∷ [] → FunsSoFar rest code' places'
  funs-next g rest code code' places places' p f ec ep el =
      let this = fun_code at (length code) g in
      let size = fun_size at.rows at.types g in
      let place = fun_place at.rows at.types (length old) funs in
      let wide : length code' ≡ length code + size =
      ap length ec ∙ omega (arith, length-append code this, code_length at right g.body (length code) (length g.params) (with_params g.params 0 []) []) in
      let long : length places' ≡ length places + 1 = ap length el ∙ length-append places (p ∷ []) in
      let here : p ≡ place (length places) = ep ∙ f.behind 0 ∙ ap place (let z : length places + 0 ≡ length places = omega arith in z) in
      record {
        whole = ap (λ n. code' ++ funs_code at n rest) wide ∙ ap (λ l. l ++ funs_code at (length code + size) rest) ec
            ∙ append_assoc code this (funs_code at (length code + size) rest) ∙ f.whole;
        found = λ i e lt.
            ⊎_elim (λ below. ap (λ l. get_or l i e) el ∙ get_or_append_left places (p ∷ []) e i below ∙ f.found i e below)
            (λ past.
            let same : length places ≡ i = omega (arith, past, lt, long) in
            ap (λ l. get_or l i e) el ∙ get_or_push places p e i same ∙ here ∙ ap place same)
            (cases_lt i (length places));
        behind = λ i. ap (λ n. fun_place at.rows at.types n rest i) wide ∙ f.behind (suc i)
            ∙ ap place (let z : length places + suc i ≡ length places' + i = omega (arith, long) in z);
      }

  pub funs-done : (code : List Instr) (places : List ℕ) (end : ℕ) → end ≡ length code → FunsSoFar [] code places
      → (i : ℕ) → get_or places i end ≡ fun_place at.rows at.types (length old) funs i
  funs-done code places end e f i =
      ⊎_elim (λ below. f.found i end below)
      (λ past. get_or_past places i end past ∙ e ∙ f.behind (i - length places)
      ∙ ap (fun_place at.rows at.types (length old) funs) (let z : length places + (i - length places) ≡ i = omega (arith, past) in z))
      (cases_lt i (length places))

shapes-length : (shapes ss : List Shape) (o : ℕ) → length (shapes_code shapes 2 most_code o ss) ≡ shapes_size shapes ss
shapes-length shapes [] o = refl
shapes-length shapes (s ∷ ss) o =
    omega (
      arith,
      length-append (shape_code shapes 2 most_code o s) (shapes_code shapes 2 most_code (o + shape_size shapes s) ss),
      shape_length shapes 2 most_code o s,
      shapes-length shapes ss (o + shape_size shapes s),
    )

-- the whole, piece by piece
module _ (at : Places) (right : AreRight at.rows) (p : Program) (c1 c2 c3 c4 : List Instr) (h1 : c1 ≡ CallRow (at.fun_at 0) 0 ∷ End ∷ [])
    (h2 : c2 ≡ c1 ++ equal_code p.tables.types 2 most_code) (h3 : c3 ≡ c2 ++ funs_code at (length c2) p.funs)
    (h4 : c4 ≡ c3 ++ sets_code p.funs at.fun_at (length c3) p.tables.sets) where
  pub before-funs : length c2 ≡ funs_from p
  before-funs =
      omega (arith, ap length h2, length-append c1 (equal_code p.tables.types 2 most_code), ap length h1, shapes-length p.tables.types p.tables.types 2)

  pub before-sets : length c3 ≡ sets_from at p
  before-sets = omega (arith, ap length h3, length-append c2 (funs_code at (length c2) p.funs), funs-length at right (length c2) p.funs, before-funs)

  pub assembled : c4 ≡ code_by at p
  assembled =
      let equal = equal_code p.tables.types 2 most_code in
      let funs = funs_code at (funs_from p) p.funs in
      let sets = sets_code p.funs at.fun_at (sets_from at p) p.tables.sets in
      h4 ∙ ap (λ n. c3 ++ sets_code p.funs at.fun_at n p.tables.sets) before-sets
      ∙ ap (λ l. l ++ sets) (h3 ∙ ap (λ n. c2 ++ funs_code at n p.funs) before-funs) ∙ append_assoc c2 funs sets
      ∙ ap (λ l. l ++ (funs ++ sets)) h2 ∙ append_assoc c1 equal (funs ++ sets) ∙ ap (λ l. l ++ (equal ++ (funs ++ sets))) h1

-- places are the same where all stands at the same places
pub same-places : (at to : Places) → at.rows ≡ to.rows → at.types ≡ to.types → ((i : ℕ) → at.text_at i ≡ to.text_at i) → ((i : ℕ) → at.name_at i ≡ to.name_at i)
    → ((i : ℕ) → at.initial_at i ≡ to.initial_at i) → ((e : PrimExn) → at.packet_at e ≡ to.packet_at e) → ((i : ℕ) → at.fun_at i ≡ to.fun_at i)
    → ((i : ℕ) → at.set_at i ≡ to.set_at i) → ((i : ℕ) → at.type_at i ≡ to.type_at i) → at ≡ to
same-places at to rows types text name initial packet fun set type = λ k. record {
  rows = rows k;
  types = types k;
  text_at = fun_ext text k;
  name_at = fun_ext name k;
  initial_at = fun_ext initial k;
  packet_at = fun_ext packet k;
  fun_at = fun_ext fun k;
  set_at = fun_ext set k;
  type_at = fun_ext type k;
}

pub code-is : (rows : Rows) (texts : List (List ℕ)) (p : Program) (at : Places) → at ≡ places_of rows texts p → code_by at p ≡ code_of rows texts p
code-is rows texts p at h = ap (λ z. code_by z p) h
