-- Values of two programs, kind by kind. A pass says of its relation what it is on functions; all that is done with values agrees then.
use Rattle.std.specs.Prelude.{ℕ}
use Rattle.mlc_runs.specs.of_mlc_names.declared.label.Label.{Label}
use Rattle.mlc_prims.specs.LitOf.{Literal}
use Rattle.mlc_prims.specs.declared.basis.BasisPrimitive.{BasisPrimitive}
use Rattle.ir_values.specs.Values.{Value, literal, record_of, con, con_of, exn, exn_of, ref, address, cell, primitive, closure, Fields, no_fields, field, Env}
use Rattle.ir_values.specs.Match.{Matched, matches, no_match, mismatch}

module _ {B C D E T : Type 0} (R : Value B C T → Value D E T → Type 0) where
  pub data SameFields : Fields B C T → Fields D E T → Type 0 where
    same_none : SameFields no_fields no_fields
    same_more : (l : Label) {v : Value B C T} {w : Value D E T} {fs : Fields B C T} {gs : Fields D E T} → R v w → SameFields fs gs
        → SameFields (field l v fs) (field l w gs)

  -- values of one kind with related parts; functions aside
  pub data AreAlike : Value B C T → Value D E T → Type 0 where
    literals_alike : (l : Literal) → AreAlike (literal l) (literal l)
    records_alike : (g : T) {fs : Fields B C T} {gs : Fields D E T} → SameFields fs gs → AreAlike (record_of g fs) (record_of g gs)
    con_alike : (g : T) (c : ℕ) → AreAlike (con g c) (con g c)
    con_of_alike : (g : T) (c : ℕ) {v : Value B C T} {w : Value D E T} → R v w → AreAlike (con_of g c v) (con_of g c w)
    exn_alike : (g : T) (n : ℕ) → AreAlike (exn g n) (exn g n)
    exn_of_alike : (g : T) (n : ℕ) {v : Value B C T} {w : Value D E T} → R v w → AreAlike (exn_of g n v) (exn_of g n w)
    ref_alike : (g : T) → AreAlike (ref g) (ref g)
    address_alike : (a : ℕ) → AreAlike (address a) (address a)
    cell_alike : (g : T) {v : Value B C T} {w : Value D E T} → R v w → AreAlike (cell g v) (cell g w)
    primitive_alike : (g : T) (p : BasisPrimitive) → AreAlike (primitive g p) (primitive g p)

  pub data AreOfOneKind : Value B C T → Value D E T → Type 0 where
    alike : {v : Value B C T} {w : Value D E T} → AreAlike v w → AreOfOneKind v w
    functions : (c : C) (d : E) (e : Env B C T) (e' : Env D E T) → AreOfOneKind (closure c e) (closure d e')

  -- related values are of one kind, and those that are alike are related
  pub record IsByKind : Type 0 where
    pub kind : (v : Value B C T) (w : Value D E T) → R v w → AreOfOneKind v w
    pub related : (v : Value B C T) (w : Value D E T) → AreAlike v w → R v w

-- matches that agree, where environments are related by S
module _ {B C D E T : Type 0} (S : Env B C T → Env D E T → Type 0) where
  pub data SameMatched : Matched B C T → Matched D E T → Type 0 where
    both_match : {e : Env B C T} {e' : Env D E T} → S e e' → SameMatched (matches e) (matches e')
    neither_matches : SameMatched no_match no_match
    both_mismatch : SameMatched mismatch mismatch
