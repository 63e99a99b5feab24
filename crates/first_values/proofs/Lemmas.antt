-- Plain operations don't raise, and a run of all parts of a cell has its parts.
use Rattle.std.proofs.Common.{◌≡◌, ℕ, zero, suc, Bool, true, false, if◌then◌else◌, List, [], ◌∷◌, length, Option, Some, None, nat_lt, refl, ap, subst, ◌∙◌}
use Rattle.std.specs.Prelude.{⊤, get_or, slice_get}
use Rattle.ir_values.specs.of_mlc_runs.Run.{World, gives, raises, stops, fail, or_fail}
use Rattle.ir_values.specs.of_mlc_prims.LitOf.{int, word, char, string, truth}
use Rattle.ir_values.specs.of_mlc_prims.PrimOf.{Gives, made, raised}
use Rattle.first_values.specs.Values.{Value, literal, cell, reference, name, packet, Values, value, values_of, at, count, Run, in_front, first_some, parts_from, parts_of}
use Rattle.first_values.specs.Equality.{opaque, equal_at}
use Rattle.first_values.specs.Operations.{Plain, same, constant, field, refer, content, assign, exception, initial, pack, argument, compute, equal, print, Tables, literal_at, attempted, none, one, two, field_from, read, write, print_value, packet_of, argument_of, made_in, perform}
use Rattle.first_values.specs.Laws.{PlainNeverRaises, RunsAreParts}

abbrev Calm : {A : Type 0} → Run A → Type 0
Calm (gives a w) = ⊤
Calm (raises p w) = ⊥
Calm (stops cut w) = ⊤

found-calm : {A B : Type 0} (o : Option B) (w : World Value) (go : B → Run A) → ((b : B) → Calm (go b)) → Calm (or_fail o w go)
found-calm None w go h = tt
found-calm (Some b) w go h = h b

if-calm : {A : Type 0} (b : Bool) (r : Run A) (w : World Value) → Calm r → Calm (if b then r else fail w)
if-calm true r w h = h
if-calm false r w h = tt

none-calm : {A : Type 0} (vs : List Value) (w : World Value) (r : Run A) → Calm r → Calm (none vs w r)
none-calm [] w r h = h
none-calm (v ∷ vs) w r h = tt

one-calm : {A : Type 0} (vs : List Value) (w : World Value) (go : Value → Run A) → ((v : Value) → Calm (go v)) → Calm (one vs w go)
one-calm [] w go h = tt
one-calm (a ∷ []) w go h = h a
one-calm (a ∷ b ∷ vs) w go h = tt

two-calm : {A : Type 0} (vs : List Value) (w : World Value) (go : Value → Value → Run A) → ((v u : Value) → Calm (go v u)) → Calm (two vs w go)
two-calm [] w go h = tt
two-calm (a ∷ []) w go h = tt
two-calm (a ∷ b ∷ []) w go h = h a b
two-calm (a ∷ b ∷ c ∷ vs) w go h = tt

field-calm : (i : ℕ) (v : Value) (w : World Value) → Calm (field_from i v w)
field-calm i (cell t vs) w = found-calm (at i vs) w _ (λ v. tt)
field-calm i (literal l) w = tt
field-calm i (reference a) w = tt
field-calm i (name n) w = tt
field-calm i (packet n v) w = tt

read-calm : (v : Value) (w : World Value) → Calm (read v w)
read-calm (reference a) w = found-calm (slice_get w.store a) w _ (λ v. tt)
read-calm (literal l) w = tt
read-calm (cell t vs) w = tt
read-calm (name n) w = tt
read-calm (packet n v) w = tt

write-calm : (r v : Value) (w : World Value) → Calm (write r v w)
write-calm (reference a) v w = if-calm (nat_lt a (length w.store)) _ w tt
write-calm (literal l) v w = tt
write-calm (cell t vs) v w = tt
write-calm (name n) v w = tt
write-calm (packet n u) v w = tt

print-calm : (v : Value) (w : World Value) → Calm (print_value v w)
print-calm (literal (string s)) w = tt
print-calm (literal (int z)) w = tt
print-calm (literal (word n)) w = tt
print-calm (literal (char n)) w = tt
print-calm (literal (truth b)) w = tt
print-calm (reference a) w = tt
print-calm (cell t vs) w = tt
print-calm (name n) w = tt
print-calm (packet n u) w = tt

pack-calm : (n v : Value) (w : World Value) → Calm (packet_of n v w)
pack-calm (name n) v w = tt
pack-calm (literal l) v w = tt
pack-calm (reference a) v w = tt
pack-calm (cell t vs) v w = tt
pack-calm (packet n u) v w = tt

argument-calm : (v : Value) (w : World Value) → Calm (argument_of v w)
argument-calm (packet n v) w = tt
argument-calm (name n) w = tt
argument-calm (literal l) w = tt
argument-calm (reference a) w = tt
argument-calm (cell t vs) w = tt

made-calm : (g : Gives) (w : World Value) → Calm (made_in g w)
made-calm (made l) w = tt
made-calm (raised e) w = tt

perform-calm : (T : Tables) (p : Plain) (vs : List Value) (w : World Value) → Calm (perform T p vs w)
perform-calm T same vs w = one-calm vs w _ (λ v. tt)
perform-calm T (constant c) vs w = none-calm vs w _ (found-calm (literal_at T c) w _ (λ l. tt))
perform-calm T (field i) vs w = one-calm vs w _ (λ v. field-calm i v w)
perform-calm T refer vs w = one-calm vs w _ (λ v. tt)
perform-calm T content vs w = one-calm vs w _ (λ v. read-calm v w)
perform-calm T assign vs w = two-calm vs w _ (λ r v. write-calm r v w)
perform-calm T (exception identifier) vs w = none-calm vs w _ tt
perform-calm T (initial n) vs w = none-calm vs w _ (found-calm (slice_get T.initial n) w _ (λ identifier. tt))
perform-calm T pack vs w = two-calm vs w _ (λ n v. pack-calm n v w)
perform-calm T argument vs w = one-calm vs w _ (λ v. argument-calm v w)
perform-calm T (compute k p) vs w = found-calm (attempted k p vs) w _ (λ g. made-calm g w)
perform-calm T (equal t) vs w = two-calm vs w _ (λ a b. found-calm (equal_at T.types (get_or T.types t opaque) a b) w _ (λ q. tt))
perform-calm T print vs w = one-calm vs w _ (λ v. print-calm v w)

pub plain-never-raises : PlainNeverRaises
plain-never-raises T p vs w u q h = subst Calm h (perform-calm T p vs w)

parts-shift : (i n : ℕ) (v : Value) (vs : Values) (rest : Option (List Value)) → parts_from (suc i) n (value v vs) rest ≡ parts_from i n vs rest
parts-shift i zero v vs rest = refl
parts-shift i (suc n) v vs rest = ap (first_some (at i vs)) (parts-shift (suc i) n v vs rest)

all-parts : (vs : List Value) → parts_from 0 (count (values_of vs)) (values_of vs) (Some []) ≡ Some vs
all-parts [] = refl
all-parts (v ∷ vs) = ap (in_front v) (parts-shift 0 (count (values_of vs)) v (values_of vs) (Some []) ∙ all-parts vs)

pub runs-are-parts : RunsAreParts
runs-are-parts x tag vs env h = ap (λ o. parts_of 0 (count (values_of vs)) o (Some [])) h ∙ all-parts vs
