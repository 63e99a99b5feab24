-- The functions that ask of types answer yes exactly where the rules do.
use Rattle.std.proofs.Common.{◌≡◌, ℕ, Bool, true, false, List, [], ◌∷◌, map, Option, Some, None, nat_lt, option_map, if◌then◌else◌, refl, sym, ap, subst, ◌∙◌}
use Rattle.std.proofs.lemmas.Bool.{and_parts, and_from}
use Rattle.mlc_names.specs.declared.label.Label.{Label}
use Rattle.mlc_prims.specs.LitOf.{Literal, int, word, char, string, truth}
use Rattle.ty_core.specs.Types.{arrow, labels, name, Typ, var, con, Typs, none, more, typs_of}
use Rattle.ty_core.specs.Marks.{overloaded, has, IsOf, Allows}
use Rattle.ty_core.specs.declared.mark.Class.{Class}
use Rattle.ty_core.specs.declared.mark.Mark.{Mark}
use Rattle.ty_core.specs.declared.mark.Mark.TheVariants as mark
use Rattle.ty_core.specs.declared.name.TyName.{TyName}
use Rattle.ty_core.specs.declared.scheme.Quantified.{Quantified}
use Rattle.ir_poly.specs.Prog.{Exc, fixed, held}
use Rattle.ir_poly.specs.ProgChecked.{ExcChecked, fixed_checked, held_checked}
use Rattle.ir_poly.specs.Types.{int_name, word_name, char_name, string_name, of_name, row_type, AreAllowed, Constructor, find, argument_at}
use Rattle.ir_poly.specs.TestsChecked.{Known, of_type, general, own, exception, Knowns, at, HasLiteral, has_int, has_word, has_char, has_string, HasConstructor}
use Rattle.prog_check.specs.Same.{same_name}
use Rattle.prog_check.specs.Deciding.{list_of, is_literal, in_front, joined, row_in, on_row, row_argument, argument_of, takes, known_argument, exc_argument, is_of, allows, are_allowed}
use Rattle.prog_check.proofs.SameLemmas.{name-same, same-name, type-same, option-same, same-option-since}

typs-list : (ts : Typs) → typs_of (list_of ts) ≡ ts
typs-list none = refl
typs-list (more t ts) = ap (more t) (typs-list ts)

pub list-typs : (ts : List Typ) → list_of (typs_of ts) ≡ ts
list-typs [] = refl
list-typs (t ∷ ts) = ap (λ us. t ∷ us) (list-typs ts)

-- Constants

pub literal-sound : (l : Literal) (t : Typ) → is_literal l t ≡ true → HasLiteral l t
literal-sound (int z) t e = subst (λ u. HasLiteral (int z) u) (sym (type-same t (of_name int_name) e)) (has_int z)
literal-sound (word n) t e = subst (λ u. HasLiteral (word n) u) (sym (type-same t (of_name word_name) e)) (has_word n)
literal-sound (char n) t e = subst (λ u. HasLiteral (char n) u) (sym (type-same t (of_name char_name) e)) (has_char n)
literal-sound (string s) t e = subst (λ u. HasLiteral (string s) u) (sym (type-same t (of_name string_name) e)) (has_string s)
literal-sound (truth b) t e = absurd (cc)

pub literal-complete : {l : Literal} {t : Typ} → HasLiteral l t → is_literal l t ≡ true
literal-complete (has_int z) = refl
literal-complete (has_word n) = refl
literal-complete (has_char n) = refl
literal-complete (has_string s) = refl

-- Rows

joined-sound : (ls : List Label) (ts : Typs) (r : List (Label × Typ)) → joined ls ts ≡ Some r → (ls ≡ map (λ f. f.0) r) × (ts ≡ typs_of (map (λ f. f.1) r))
joined-sound [] none [] e = (refl, refl)
joined-sound [] none (f ∷ r) e = absurd (cc)
joined-sound [] (more t ts) r e = absurd (cc)
joined-sound (l ∷ ls) none r e = absurd (cc)
joined-sound (l ∷ ls) (more t ts) r e = go (joined ls ts) r (joined-sound ls ts) e
  where
    go : (o : Option (List (Label × Typ))) (r : List (Label × Typ)) → ((r' : List (Label × Typ)) → o ≡ Some r' → (ls ≡ map (λ f. f.0) r') × (ts ≡ typs_of (map (λ f. f.1) r')))
        → option_map (in_front l t) o ≡ Some r → ((l ∷ ls) ≡ map (λ f. f.0) r) × (more t ts ≡ typs_of (map (λ f. f.1) r))
    go None r h e = absurd (cc)
    go (Some r') [] h e = absurd (cc)
    go (Some r') (f ∷ r) h e =
        let k = h r' refl in let same : (l, t) ≡ f = cc in let rest : r' ≡ r = cc in
        (rw (ap (λ g. g.0) same, k.0, rest) refl, rw (ap (λ g. g.1) same, k.1, rest) refl)

joined-complete : (r : List (Label × Typ)) → joined (map (λ f. f.0) r) (typs_of (map (λ f. f.1) r)) ≡ Some r
joined-complete [] = refl
joined-complete (f ∷ r) = rw (joined-complete r) refl

pub row-sound : (t : Typ) (r : List (Label × Typ)) → row_in t ≡ Some r → t ≡ row_type r
row-sound (var v) r e = absurd (cc)
row-sound (con arrow ts) r e = absurd (cc)
row-sound (con (labels ls) ts) r e = let k = joined-sound ls ts r e in rw (k.0, k.1) refl
row-sound (con (name n) ts) r e = absurd (cc)

pub row-complete : (t : Typ) (r : List (Label × Typ)) → t ≡ row_type r → row_in t ≡ Some r
row-complete t r e = ap row_in e ∙ joined-complete r

pub on-row : (o : Option (List (Label × Typ))) (go : List (Label × Typ) → Bool) → on_row o go ≡ true → (r : List (Label × Typ)) × (o ≡ Some r) × (go r ≡ true)
on-row None go e = absurd (cc)
on-row (Some r) go e = (r, refl, e)

-- Arguments

pub takes-sound : (a : Option Typ) (o : Option (Option Typ)) → takes a o ≡ true → o ≡ Some a
takes-sound a None e = absurd (cc)
takes-sound a (Some b) e = ap Some (option-same b a e)

pub takes-complete : (a : Option Typ) (o : Option (Option Typ)) → o ≡ Some a → takes a o ≡ true
takes-complete a o e = rw e (same-option-since {a = a} {b = a} refl)

row-argument-sound : (y : TyName) (ts : List Typ) (o : Option Constructor) (a : Option Typ) → row_argument y ts o ≡ Some a → (k : Constructor) × (o ≡ Some k) × (k.datatype ≡ y) × (argument_at ts k.argument ≡ a)
row-argument-sound y ts None a e = absurd (cc)
row-argument-sound y ts (Some k) a e = go (same_name k.datatype y) refl e
  where
    go : (b : Bool) → same_name k.datatype y ≡ b → (if b then Some (argument_at ts k.argument) else None) ≡ Some a → (k' : Constructor) × (Some k ≡ Some k') × (k'.datatype ≡ y) × (argument_at ts k'.argument ≡ a)
    go true n e = (k, refl, name-same k.datatype y n, cc)
    go false n e = absurd (cc)

pub constructor-sound : (table : List Constructor) (c : ℕ) (t : Typ) (a : Option Typ) → argument_of table c t ≡ Some a → HasConstructor table c t a
constructor-sound table c (var v) a e = absurd (cc)
constructor-sound table c (con arrow ts) a e = absurd (cc)
constructor-sound table c (con (labels ls) ts) a e = absurd (cc)
constructor-sound table c (con (name y) ts) a e =
    let k = row-argument-sound y (list_of ts) (find table y c) a e in
    record { datatype = y; arguments = list_of ts; row = k.0; found = k.1; same = k.2; type = ap (con (name y)) (sym (typs-list ts)); argument = k.3 }

pub constructor-complete : {table : List Constructor} {c : ℕ} {t : Typ} {a : Option Typ} → HasConstructor table c t a → argument_of table c t ≡ Some a
constructor-complete {table = table} {c = c} {a = a} h =
    ap (argument_of table c) h.type
    ∙ rw (list-typs h.arguments, h.found) (rw h.same (rw (same-name h.datatype) (ap Some h.argument)))

known-argument : (o : Option Known) (a : Option Typ) → known_argument o ≡ Some a → o ≡ Some (exception a)
known-argument None a e = absurd (cc)
known-argument (Some (of_type t)) a e = absurd (cc)
known-argument (Some (general qs s t)) a e = absurd (cc)
known-argument (Some (own t)) a e = absurd (cc)
known-argument (Some (exception b)) a e = let same : b ≡ a = cc in ap (λ x. Some (exception x)) same

pub exc-sound : (G : Knowns) (x : Exc) (a : Option Typ) → exc_argument G x ≡ Some a → ExcChecked G x a
exc-sound G (fixed n) a e = go (nat_lt n 7) refl a e
  where
    go : (b : Bool) → nat_lt n 7 ≡ b → (a : Option Typ) → (if b then Some None else None) ≡ Some a → ExcChecked G (fixed n) a
    go true h None e = fixed_checked h
    go true h (Some t) e = absurd (cc)
    go false h a e = absurd (cc)
exc-sound G (held x) a e = held_checked (known-argument (at G x) a e)

pub exc-complete : {G : Knowns} {x : Exc} {a : Option Typ} → ExcChecked G x a → exc_argument G x ≡ Some a
exc-complete (fixed_checked h) = rw h refl
exc-complete (held_checked h) = rw h refl

-- Marks

of-sound : (c : Class) (t : Typ) → is_of c t ≡ true → IsOf c t
of-sound c (var v) e = absurd (cc)
of-sound c (con arrow ts) e = absurd (cc)
of-sound c (con (labels ls) ts) e = absurd (cc)
of-sound c (con (name n) none) e =
    let a = and_parts (has c n.stamp) _ e in record { number = n.stamp; is = ap (λ m. con (name m) none) (name-same n (overloaded n.stamp) a.1); held = a.0 }
of-sound c (con (name n) (more t ts)) e = absurd (cc)

of-complete : (c : Class) (t : Typ) → IsOf c t → is_of c t ≡ true
of-complete c t h = ap (is_of c) h.is ∙ and_from _ _ h.held (same-name (overloaded h.number))

pub allows-sound : (a : Mark) (m : ℕ → Bool) (t : Typ) → allows a m t ≡ true → Allows a m t
allows-sound mark.Any m t e = tt
allows-sound mark.Equality m t e = e
allows-sound (mark.Class c) m t e = of-sound c t e

pub allows-complete : (a : Mark) (m : ℕ → Bool) (t : Typ) → Allows a m t → allows a m t ≡ true
allows-complete mark.Any m t h = refl
allows-complete mark.Equality m t h = h
allows-complete (mark.Class c) m t h = of-complete c t h

pub are-allowed-sound : (m : ℕ → Bool) (qs : List Quantified) (ts : List Typ) → are_allowed m qs ts ≡ true → AreAllowed m qs ts
are-allowed-sound m [] [] e = tt
are-allowed-sound m [] (t ∷ ts) e = absurd (cc)
are-allowed-sound m (q ∷ qs) [] e = absurd (cc)
are-allowed-sound m (q ∷ qs) (t ∷ ts) e = let a = and_parts (allows q.mark m t) _ e in (allows-sound q.mark m t a.0, are-allowed-sound m qs ts a.1)

pub are-allowed-complete : (m : ℕ → Bool) (qs : List Quantified) (ts : List Typ) → AreAllowed m qs ts → are_allowed m qs ts ≡ true
are-allowed-complete m [] [] h = refl
are-allowed-complete m [] (t ∷ ts) h = absurd h
are-allowed-complete m (q ∷ qs) [] h = absurd h
are-allowed-complete m (q ∷ qs) (t ∷ ts) h = and_from _ _ (allows-complete q.mark m t h.0) (are-allowed-complete m qs ts h.1)
