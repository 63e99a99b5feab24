-- The code of functions, one by one, and the whole.
use Rattle.std.proofs.Common.{◌≡◌, refl, ℕ, ◌+◌, List, [], ◌∷◌, ◌++◌, length, sym, ap, ◌∙◌, arith, append-nil, get_or, zero-add}
use Rattle.ir_code.specs.declared.instr.Instr.{Instr}
use Rattle.ir_code.specs.declared.instr.Instr.TheVariants.{Call as CallRow, End}
use Rattle.ir_ssa.specs.Tree.{Fun, Program}
use Rattle.first_tables.specs.TablesOf.{tables_of}
use Rattle.first_tables.specs.declared.tables.Tables.{Tables}
use Rattle.machine_routines.specs.EqualCode.{equal_code}
use Rattle.machine_code.specs.Rows.{AreRight}
use Rattle.machine_code.specs.Code as code
use Rattle.machine_code.specs.Code.{Scope, Spot, code_at, with_params}
use Rattle.machine_code.specs.Image.{code_of, fun_at, fun_place, funs_code, most_code, sets_at, sets_code, set_place, places_of as image_places}
use Rattle.machine_rows.specs.Table.{rows}
use Rattle.image_size.specs.of_image_law.Assembled.{code_by, funs_from, sets_from}
use Rattle.image_size.proofs.of_image_law.Assembling.{fun_code, FunsSoFar, funs-next, assembled, before-funs, same-places, code-is}
use Rattle.emit_code.specs.PlacesOf.{places_of}
use Rattle.emit_code.specs.declared.places.Places.{Places}
use Rattle.emit_walk.specs.Walk.{Env, Kept}
use Rattle.emit_known.specs.Known.{KnowsConstants}
use Rattle.machine_emit.specs.Begin.{IsEmpty}
use Rattle.machine_emit.proofs.SetPlaces.{same-place}

-- a function's code, where nothing of the frame is in use before it
pub fun-is : (at : code.Places) (pc d : ℕ) (scope : Scope) (spots : List Spot) (g : Fun) → d ≡ 0 → scope ≡ [] → spots ≡ []
    → code_at at pc (d + length g.params) (with_params g.params d scope) spots g.body ≡ fun_code at pc g
fun-is at pc d scope spots g ed es el =
    ap (λ n. code_at at pc (n + length g.params) (with_params g.params n scope) spots g.body) ed
    ∙ ap (λ n. code_at at pc n (with_params g.params 0 scope) spots g.body) (zero-add (length g.params))
    ∙ ap (λ s. code_at at pc (length g.params) (with_params g.params 0 s) spots g.body) es
    ∙ ap (λ l. code_at at pc (length g.params) (with_params g.params 0 []) l g.body) el

module _ (at : code.Places) (right : AreRight at.rows) (funs : List Fun) (old : List Instr) where
  -- the functions so far, with nothing of the frame in use
  pub record Walked (rest : List Fun) (env : Env) (code : List Instr) (places : List ℕ) : Type 0 where
    pub empty : IsEmpty env
    pub so-far : FunsSoFar at right funs old rest code places

  pub walked-next : (g : Fun) (rest : List Fun) (before after : Env) (code code' : List Instr) (places places' : List ℕ) (p : ℕ)
      → Walked (g ∷ rest) before code places
      → code' ≡ code ++ code_at at (length code) (before.depth + length g.params) (with_params g.params before.depth before.scope) before.spots g.body
      → Kept before after → p ≡ length code → places' ≡ places ++ p ∷ [] → Walked rest after code' places'
  walked-next g rest before after code code' places places' p w ec kept ep el = record {
    empty = record { depth = kept.depth ∙ w.empty.depth; scope = kept.scope ∙ w.empty.scope; spots = kept.spots ∙ w.empty.spots };
    so-far =
        funs-next at right funs old g rest code code' places places' p w.so-far
        (ec ∙ ap (λ l. code ++ l) (fun-is at (length code) before.depth before.scope before.spots g w.empty.depth w.empty.scope w.empty.spots)) ep el;
  }

  pub first-walked : (env : Env) (code : List Instr) → IsEmpty env → code ≡ old → Walked funs env code []
  first-walked env code empty same = record {
    empty = empty;
    so-far = record {
      whole = ap (λ l. l ++ funs_code at (length l) funs) same;
      found = λ t e lt. absurd (omega (arith, lt));
      behind = λ t. ap (λ l. fun_place at.rows at.types (length l) funs t) same ∙ ap (fun_place at.rows at.types (length old) funs) (sym (zero-add t));
    };
  }

  pub walked-code : (env : Env) (code : List Instr) (places : List ℕ) → Walked [] env code places → code ≡ old ++ funs_code at (length old) funs
  walked-code env code places w = sym (append-nil code) ∙ w.so-far.whole

-- the whole, from the start, the functions and the routines of sets
module _ (at : code.Places) (right : AreRight at.rows) (p : Program) (start with-funs all : List Instr)
    (h1 : start ≡ (CallRow (at.fun_at 0) 0 ∷ End ∷ []) ++ equal_code p.tables.types 2 most_code) (h2 : with-funs ≡ start ++ funs_code at (length start) p.funs) where
  pub start-long : length start ≡ funs_from p
  start-long = before-funs at right p (CallRow (at.fun_at 0) 0 ∷ End ∷ []) start with-funs (with-funs ++ sets_code p.funs at.fun_at (length with-funs) p.tables.sets) refl h1 h2 refl

  pub whole-code : all ≡ with-funs ++ sets_code p.funs at.fun_at (length with-funs) p.tables.sets → all ≡ code_by at p
  whole-code h = assembled at right p (CallRow (at.fun_at 0) 0 ∷ End ∷ []) start with-funs all refl h1 h2 h

-- the places are those of the image
module _ (texts : List (List ℕ)) (tables : Tables) (funs : List Fun) (at : Places) where
  abbrev program : Program
  program = record { tables = tables_of tables; funs = funs }

  pub settled : (known : KnowsConstants texts program at) (f : ℕ → ℕ)
      → ((i : ℕ) → get_or at.funs.items i at.funs_end ≡ fun_place rows (tables_of tables).types (funs_from program) funs i)
      → ((i : ℕ) → get_or at.sets.items i at.sets_end ≡ set_place funs f (sets_from (places_of tables at) program) (tables_of tables).sets i)
      → (c : List Instr) → c ≡ code_by (places_of tables at) program → c ≡ code_of rows texts program
  settled known f hf hs c h =
      let sets-same : (i : ℕ) → get_or at.sets.items i at.sets_end ≡ set_place funs (fun_at rows texts program) (sets_at rows texts program) (tables_of tables).sets i =
      λ i. hs i ∙ same-place f (fun_at rows texts program) funs (tables_of tables).sets (sets_at rows texts program) i in
      h ∙ code-is rows texts program (places_of tables at)
      (same-places (places_of tables at) (image_places rows texts program) refl refl known.text_at known.name_at (λ i. ap (λ n. n + i) known.first_at) known.packet_at hf sets-same
      known.type_at)
