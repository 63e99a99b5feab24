-- What is written reads the same while a state grows.
use Rattle.std.proofs.Common.{◌≡◌, ◌<◌, ◌≤◌, ◌&&◌, ℕ, zero, suc, Bool, true, false, nat_eq, if◌then◌else◌, List, [], ◌∷◌, ◌++◌, map, length, get_or, Option, Some, None, refl, sym, ap, ap₂, subst, ◌∙◌, arith}
use Rattle.std.specs.Prelude.{slice_get, option_map}
use Rattle.std.proofs.lemmas.List.{length-append}
use mathlib.Core.Path.{fun_ext}
use Rattle.ty_core.specs.Types.{Typ}
use Rattle.ty_core.specs.declared.name.TyName.{TyName}
use Rattle.ty_core.specs.declared.scheme.Quantified.{Quantified}
use Rattle.ty_table.specs.TypeAt.{type_at}
use Rattle.ty_instance.specs.of_ty_solve.Substitution.{sub}
use Rattle.ty_instance.proofs.of_ty_solve.Holding.{type-stays}
use Rattle.prog_tree.specs.of_ir_poly.Types as clean
use Rattle.prog_tree.specs.of_ir_tables.Rows.{constructor_at, constructors_at}
use Rattle.prog_tree.specs.of_ir_tables.Tables.{parameters_at}
use Rattle.prog_tree.specs.of_ir_tables.declared.constructors.Constructor.{Constructor}
use Rattle.elab_typed.specs.Numbers.{type_as}
use Rattle.elab_state.specs.Namings.{number_in, IsAmong}
use Rattle.elab_state.specs.Readings.{type_of, type_if, AreWritten, IsHeldArgument, AreHeldRows}
use Rattle.elab_state.specs.Steps.{Begins}
use Rattle.elab_state.specs.declared.naming.Naming.{Naming}
use Rattle.elab_state.specs.declared.naming.Written.{Written}
use Rattle.elab_state.proofs.Begins.{begins-get, begins-index, begins-map, begins-split}
use Rattle.elab_state.proofs.Numbering.{number-stays}

pub type-of-stays : (ts us : List Typ) (g : ℕ → Typ) (rs qs : List Naming) (w : Written) → Begins ts us → Begins rs qs → w.ty < length ts → IsAmong (length rs) w.naming
    → type_of us g qs w ≡ type_of ts g rs w
type-of-stays ts us g rs qs w e p h i =
    ap (λ f. type_as f (sub g (type_at us w.ty))) (fun_ext (λ n. number-stays rs qs w.naming n p i)) ∙ ap (λ t. type_as (number_in rs w.naming) (sub g t)) (type-stays ts us w.ty e h)

pub written-stays : (ts us : List Typ) (g : ℕ → Typ) (rs qs : List Naming) (ws vs : List Written) (k : ℕ) (w : Written) → Begins ts us → Begins rs qs → Begins ws vs
    → slice_get ws k ≡ Some w → w.ty < length ts → IsAmong (length rs) w.naming → type_if us g qs (slice_get vs k) ≡ type_of ts g rs w
written-stays ts us g rs qs ws vs k w e p q s h i = ap (type_if us g qs) (begins-get ws vs k w q s) ∙ type-of-stays ts us g rs qs w e p h i

-- what is written is held still

among-more : (m n : ℕ) (o : Option ℕ) → m ≤ n → IsAmong m o → IsAmong n o
among-more m n None l h = tt
among-more m n (Some k) l h = omega arith

pub written-more : (m n j k : ℕ) (ws : List Written) → m ≤ n → j ≤ k → AreWritten m j ws → AreWritten n k ws
written-more m n j k [] l o h = tt
written-more m n j k (w ∷ ws) l o h = ((let a = h.0.0 in omega arith, among-more j k w.naming o h.0.1), written-more m n j k ws l o h.1)

written-append : (n k : ℕ) (ws : List Written) (w : Written) → AreWritten n k ws → w.ty < n → IsAmong k w.naming → AreWritten n k (ws ++ w ∷ [])
written-append n k [] w h i j = ((i, j), tt)
written-append n k (v ∷ ws) w h i j = (h.0, written-append n k ws w h.1 i j)

pub written-push : (b : Bool) (n k : ℕ) (ws new : List Written) (w : Written) → new ≡ (if b then ws ++ w ∷ [] else ws) → AreWritten n k ws → w.ty < n → IsAmong k w.naming
    → AreWritten n k new
written-push true n k ws new w e h i j = subst (AreWritten n k) (sym e) (written-append n k ws w h i j)
written-push false n k ws new w e h i j = subst (AreWritten n k) (sym e) h

-- more namings
pub written-named : (n : ℕ) (ws : List Written) (rs new : List Naming) (b : Bool) (r : Naming) → new ≡ (if b then rs ++ r ∷ [] else rs) → AreWritten n (length rs) ws → AreWritten n (length new) ws
written-named n ws rs new true r e h = written-more n n (length rs) (length new) ws (omega arith) (let a = ap length e in let c = length-append rs (r ∷ []) in omega arith) h
written-named n ws rs new false r e h = written-more n n (length rs) (length new) ws (omega arith) (let a = ap length e in omega arith) h

-- what was written last reads so in every list with more behind it
pub written-last : (ws new vs : List Written) (k : ℕ) (w : Written) → new ≡ ws ++ w ∷ [] → k ≡ length ws → Begins new vs → slice_get vs k ≡ Some w
written-last ws new vs k w e n h = begins-get new vs k w h (subst (λ j. slice_get new j ≡ Some w) (sym n) (subst (λ l. slice_get l (length ws) ≡ Some w) (sym e) (last ws)))
  where
    last : (l : List Written) → slice_get (l ++ w ∷ []) (length l) ≡ Some w
    last [] = refl
    last (x ∷ l) = last l

-- constructors that are found are found still

row-at-stays : (ts us : List Typ) (k : Constructor) → Begins ts us → IsHeldArgument (length ts) k.argument → constructor_at us k ≡ constructor_at ts k
row-at-stays ts us k e h = ap (λ a. record { datatype = k.datatype; number = k.number; argument = a }) (by k.argument h)
  where
    by : (o : Option ℕ) → IsHeldArgument (length ts) o → option_map (type_at us) o ≡ option_map (type_at ts) o
    by None h = refl
    by (Some a) h = ap Some (type-stays ts us a e h)

pub rows-at-stay : (ts us : List Typ) (ks : List Constructor) → Begins ts us → AreHeldRows (length ts) ks → constructors_at us ks ≡ constructors_at ts ks
rows-at-stay ts us [] e h = refl
rows-at-stay ts us (k ∷ ks) e h = ap₂ (λ x l. x ∷ l) (row-at-stays ts us k e h.0) (rows-at-stay ts us ks e h.1)

find-first : (ks more : List clean.Constructor) (y : TyName) (c : ℕ) (row : clean.Constructor) → clean.find ks y c ≡ Some row → clean.find (ks ++ more) y c ≡ Some row
find-first [] more y c row h = cc
find-first (k ∷ ks) more y c row h = by (nat_eq k.datatype.stamp y.stamp && nat_eq k.number c) h (find-first ks more y c row)
  where
    by : (b : Bool) → (if b then Some k else clean.find ks y c) ≡ Some row → (clean.find ks y c ≡ Some row → clean.find (ks ++ more) y c ≡ Some row)
        → (if b then Some k else clean.find (ks ++ more) y c) ≡ Some row
    by true h f = h
    by false h f = f h

pub table-finds : (ts us : List Typ) (ks js : List Constructor) (y : TyName) (c : ℕ) (row : clean.Constructor) → Begins ts us → Begins ks js → AreHeldRows (length ts) ks
    → clean.find (constructors_at ts ks) y c ≡ Some row → clean.find (constructors_at us js) y c ≡ Some row
table-finds ts us ks js y c row e p h q =
    subst (λ l. clean.find l y c ≡ Some row) (sym split) (find-first (constructors_at ts ks) _ y c row q)
  where
    split : constructors_at us js ≡ constructors_at ts ks ++ Rattle.std.proofs.Common.drop (length (constructors_at us ks)) (constructors_at us js)
    split = begins-split (constructors_at us ks) (constructors_at us js) (begins-map (constructor_at us) ks js p)
        ∙ ap (λ l. l ++ Rattle.std.proofs.Common.drop (length (constructors_at us ks)) (constructors_at us js)) (rows-at-stay ts us ks e h)

argument-more : (m n : ℕ) (o : Option ℕ) → m ≤ n → IsHeldArgument m o → IsHeldArgument n o
argument-more m n None l h = tt
argument-more m n (Some k) l h = omega arith

pub rows-more : (m n : ℕ) (ks : List Constructor) → m ≤ n → AreHeldRows m ks → AreHeldRows n ks
rows-more m n [] l h = tt
rows-more m n (k ∷ ks) l h = (argument-more m n k.argument l h.0, rows-more m n ks l h.1)

-- lists of parameters
pub parameters-stay : (ps qs : List (List Quantified)) (k : ℕ) → Begins ps qs → k < length ps → parameters_at qs k ≡ parameters_at ps k
parameters-stay ps qs k e h = begins-index ps qs k [] e h
