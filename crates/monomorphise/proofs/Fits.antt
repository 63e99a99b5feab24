-- What a typed program needs, it needs at types that its parameters allow.
use Rattle.std.proofs.Common.{◌≡◌, ℕ, List, [], ◌∷◌, ◌++◌, map, Bool, true, false, ◌||◌, Option, Some, None, nat_eq, if◌then◌else◌, refl, sym, ap, subst, ◌∙◌}
use Rattle.std.proofs.lemmas.Bool.{eqb-true}
use Rattle.std.specs.Map.{lookup}
use Rattle.ty_core.specs.Types.{Typ, no_variable}
use Rattle.ty_core.specs.Marks.{Allows, IsOf, is_inhabited, overloaded}
use Rattle.ty_core.specs.Statics.{replace}
use Rattle.ty_core.specs.declared.mark.Class.{Class}
use Rattle.ty_core.specs.declared.mark.Mark.{Mark}
use Rattle.ty_core.specs.declared.mark.Mark.TheVariants.{Any, Equality, Class as OfClass}
use Rattle.ty_core.specs.declared.scheme.Quantified.{Quantified}
use Rattle.ir_mono.specs.of_ir_plain.Tree.{Case, Exception, Atoms, no_atoms, an_atom, Row, no_row, a_row, Exp, ret, let_in, exception_in, name_in, rec_in, switch, first, miss, counted, Arms, no_arms, arm, Op, use_of, const, con_alone, construct, ref_alone, refer, content, pack, make_record, select, prim_alone, prim, app, fn, block, handle, raise, raise_initial, Fun, last, more as more_of, Funs, no_funs, fun, is_value_op}
use Rattle.ir_mono.specs.of_ir_plain.Unique as un
use Rattle.ir_mono.specs.of_ir_plain.Unique.{IsOutside, outside_none, outside_more}
use Rattle.ir_mono.specs.of_ir_poly.Tests.{Use, inst, poly}
use Rattle.ir_mono.specs.of_ir_poly.Types.{Constructor, of_name, changed, AreAllowed}
use Rattle.ir_mono.specs.of_ir_poly.TestsChecked.{Known, of_type, general, own, exception, Knowns, at, exn_type, group_knowns, may_generalise, bound, AtomChecked, atom_checked, AtomsChecked, no_atoms_checked, an_atom_checked, RowChecked, no_row_checked, a_row_checked, NameChecked, fixed_checked, held_checked}
use Rattle.ir_mono.specs.of_ir_poly.TestsTyped as tt
use Rattle.ir_mono.specs.of_ir_poly.TestsTyped.{own_at}
use Rattle.monomorphise.specs.Monomorphise.{Name, copy_of, of_class, unit_for, units, same_types, is_among, others, without, Groups, fun_vars, group_at, own_or, atom, all_needs, atoms_needs, row_needs, name_needs, case_vars, case_needs, needs, arms_needs, op_needs, fun_needs, funs_needs, AllInhabited, Inhabited, ArmsInhabited, OpInhabited, FunInhabited, FunsInhabited}
use Rattle.monomorphise.proofs.Names.{AllNames, all_none, all_one, EachOf, each_none, each_one, each-map, join, join-all, others-each}

-- the first copy's types are allowed
class-fit : (c : Class) → is_inhabited (OfClass c) ≡ true → IsOf c (of_class c)
class-fit c h = go c.int c.word c.char c.string refl refl refl refl h
  where
    go : (i w ch st : Bool) → c.int ≡ i → c.word ≡ w → c.char ≡ ch → c.string ≡ st → (i || (w || (ch || st))) ≡ true
        → IsOf c (if i then of_name (overloaded 0) else (if w then of_name (overloaded 1) else (if ch then of_name (overloaded 2) else of_name (overloaded 3))))
    go true w ch st a b d f h = record { number = 0; is = refl; held = a }
    go false true ch st a b d f h = record { number = 1; is = refl; held = b }
    go false false true st a b d f h = record { number = 2; is = refl; held = d }
    go false false false true a b d f h = record { number = 3; is = refl; held = f }
    go false false false false a b d f h = absurd (cc)

mark-fit : (a : Mark) → is_inhabited a ≡ true → Allows a no_variable (unit_for a)
mark-fit Any h = tt
mark-fit Equality h = refl
mark-fit (OfClass c) h = class-fit c h

pub units-fit : (qs : List Quantified) → AllInhabited qs → AreAllowed no_variable qs (units qs)
units-fit [] h = tt
units-fit (q ∷ qs) h = (mark-fit q.mark h.0, units-fit qs h.1)

-- other types come only where there is something to generalise over
pub must-be-value : (qs : List Quantified) (o : Op poly) (a : List Typ) → may_generalise qs o ≡ true → AreAllowed no_variable qs a → same_types (units qs) a ≡ false → is_value_op o ≡ true
must-be-value [] o [] i f n = absurd (cc)
must-be-value [] o (t ∷ ts) i f n = absurd f
must-be-value (q ∷ qs) o a i f n = i

-- the functions of groups around, and what is known of them
pub data OwnedAs : Known → Option (List Typ) → Type 0 where
  owned_own : {t : Typ} {a : List Typ} → OwnedAs (own t) (Some a)
  owned_one : {t : Typ} → OwnedAs (of_type t) None
  owned_general : {qs : List Quantified} {s : ℕ → Typ} {b : Typ} → OwnedAs (general qs s b) None
  owned_exception : {o : Option Typ} → OwnedAs (exception o) None

pub general-not-own : {qs : List Quantified} {s : ℕ → Typ} {b : Typ} {o : Option (List Typ)} → OwnedAs (general qs s b) o → o ≡ None
general-not-own owned_general = refl

pub bound-owned : (qs : List Quantified) (s : ℕ → Typ) (b : Typ) → OwnedAs (bound qs s b) None
bound-owned [] s b = owned_one
bound-owned (q ∷ qs) s b = owned_general

pub record Owned (g : Groups) (G : Knowns) : Type 0 where
  pub is : (x : ℕ) (σ : Known) → at G x ≡ Some σ → OwnedAs σ (lookup (nat_eq x) g)

pub record KeysIn (g : Groups) (bs : List ℕ) : Type 0 where
  pub none : (x : ℕ) → IsOutside x bs → lookup (nat_eq x) g ≡ None

abbrev pub vars_onto : List ℕ → List ℕ → List ℕ
vars_onto [] bs = bs
vars_onto (x ∷ vs) bs = x ∷ vars_onto vs bs

pub outside-base : {x : ℕ} (vs : List ℕ) {bs : List ℕ} → IsOutside x (vars_onto vs bs) → IsOutside x bs
outside-base [] h = h
outside-base (y ∷ vs) (outside_more e h) = outside-base vs h

pub funs-vars : (fs : Funs poly) (bs : List ℕ) → un.funs_onto (λ x. x) fs bs ≡ vars_onto (fun_vars fs) bs
funs-vars no_funs bs = refl
funs-vars (fun x t f fs) bs = ap (λ l. x ∷ l) (funs-vars fs bs)

pub outside-funs : {x : ℕ} (fs : Funs poly) {bs : List ℕ} → IsOutside x (un.funs_onto (λ x. x) fs bs) → IsOutside x bs
outside-funs no_funs h = h
outside-funs (fun y t f fs) (outside_more e h) = outside-funs fs h

pub keys-more : (y : ℕ) {g : Groups} {bs : List ℕ} → KeysIn g bs → KeysIn g (y ∷ bs)
keys-more y k = record { none = λ x o. k.none x (tail o) }
  where
    tail : {x : ℕ} {bs : List ℕ} → IsOutside x (y ∷ bs) → IsOutside x bs
    tail (outside_more e h) = h

pub keys-funs : (fs : Funs poly) {g : Groups} {bs : List ℕ} → KeysIn g bs → KeysIn g (un.funs_onto (λ x. x) fs bs)
keys-funs fs k = record { none = λ x h. k.none x (outside-funs fs h) }

no-key : {A : Type 0} (b : Bool) (v : A) (o : Option A) → b ≡ false → o ≡ None → (if b then Some v else o) ≡ None
no-key true v o e h = absurd (cc)
no-key false v o e h = h

turned : (x y : ℕ) → nat_eq y x ≡ false → nat_eq x y ≡ false
turned x y e = go (nat_eq x y) refl
  where
    go : (b : Bool) → nat_eq x y ≡ b → b ≡ false
    go true q = let same : x ≡ y = eqb-true x y q in let one : nat_eq y y ≡ false = subst (λ z. nat_eq y z ≡ false) same e in let two : nat_eq y y ≡ true = subst (λ z. nat_eq z y ≡ true) same q in absurd (cc)
    go false q = refl

none-inside : (fs : Funs poly) (a : List Typ) {g : Groups} {bs : List ℕ} → KeysIn g bs → (x : ℕ) → IsOutside x (un.funs_onto (λ x. x) fs bs) → lookup (nat_eq x) (group_at fs a g) ≡ None
none-inside no_funs a k x h = k.none x h
none-inside (fun y t f fs) a {g} k x (outside_more e h) = no-key (nat_eq x y) a (lookup (nat_eq x) (group_at fs a g)) (turned x y e) (none-inside fs a k x h)

pub keys-inside : (fs : Funs poly) (a : List Typ) {g : Groups} {bs : List ℕ} → KeysIn g bs → KeysIn (group_at fs a g) (un.funs_onto (λ x. x) fs bs)
keys-inside fs a k = record { none = none-inside fs a k }

pub owned-more : (y : ℕ) (τ : Known) {g : Groups} {G : Knowns} {bs : List ℕ} → IsOutside y bs → KeysIn g bs → OwnedAs τ None → Owned g G → Owned g ((y, τ) ∷ G)
owned-more y τ {g} {G} o k h q = record { is = λ x σ e. go x σ (nat_eq x y) refl e }
  where
    go : (x : ℕ) (σ : Known) (b : Bool) → nat_eq x y ≡ b → (if b then Some τ else at G x) ≡ Some σ → OwnedAs σ (lookup (nat_eq x) g)
    go x σ true i e =
        let same : x ≡ y = eqb-true x y i in
        let one : τ ≡ σ = cc in
        subst (λ z. OwnedAs z (lookup (nat_eq x) g)) one (subst (λ z. OwnedAs τ (lookup (nat_eq z) g)) (sym same) (subst (OwnedAs τ) (sym (k.none y o)) h))
    go x σ false i e = q.is x σ e

pub owned-after : (qs : List Quantified) (s : ℕ → Typ) (fs : Funs poly) {g : Groups} {G : Knowns} {bs : List ℕ} → un.AreNew (λ x. x) bs fs → KeysIn g bs → Owned g G → Owned g (group_knowns (bound qs s) fs G)
owned-after qs s no_funs un.none_new k q = q
owned-after qs s (fun y t f fs) (un.one_new o h) k q = owned-more y (bound qs s t) (outside-funs fs o) k (bound-owned qs s t) (owned-after qs s fs h k q)

inside-is : (f : ℕ → Typ) (fs : Funs poly) (a : List Typ) {g : Groups} {G : Knowns} → Owned g G → (x : ℕ) (σ : Known) → at (group_knowns (own_at f) fs G) x ≡ Some σ → OwnedAs σ (lookup (nat_eq x) (group_at fs a g))
inside-is f no_funs a q x σ e = q.is x σ e
inside-is f (fun y t h fs) a {g} {G} q x σ e = go (nat_eq x y) e (λ d. inside-is f fs a q x σ d)
  where
    go : (b : Bool) → (if b then Some (own_at f t) else at (group_knowns (own_at f) fs G) x) ≡ Some σ → (at (group_knowns (own_at f) fs G) x ≡ Some σ → OwnedAs σ (lookup (nat_eq x) (group_at fs a g)))
        → OwnedAs σ (if b then Some a else lookup (nat_eq x) (group_at fs a g))
    go true e h = let one : own_at f t ≡ σ = cc in subst (λ z. OwnedAs z (Some a)) one owned_own
    go false e h = h e

pub owned-inside : (f : ℕ → Typ) (fs : Funs poly) (a : List Typ) {g : Groups} {G : Knowns} → Owned g G → Owned (group_at fs a g) (group_knowns (own_at f) fs G)
owned-inside f fs a q = record { is = inside-is f fs a q }

-- what is known of others stays
pub single-past : (x y : ℕ) (σ : Known) (G : Knowns) → is_among x (y ∷ []) ≡ false → at ((y, σ) ∷ G) x ≡ at G x
single-past x y σ G e = go (nat_eq x y) e
  where
    go : (b : Bool) → (if b then true else false) ≡ false → (if b then Some σ else at G x) ≡ at G x
    go true e = absurd (cc)
    go false e = refl

pub single-among : (x y : ℕ) (σ : Known) (G : Knowns) → is_among x (y ∷ []) ≡ true → at ((y, σ) ∷ G) x ≡ Some σ
single-among x y σ G e = go (nat_eq x y) e
  where
    go : (b : Bool) → (if b then true else false) ≡ true → (if b then Some σ else at G x) ≡ Some σ
    go true e = refl
    go false e = absurd (cc)

group-past : (x : ℕ) (f : Typ → Known) (fs : Funs poly) (G : Knowns) → is_among x (fun_vars fs) ≡ false → at (group_knowns f fs G) x ≡ at G x
group-past x f no_funs G e = refl
group-past x f (fun y t h fs) G e = go (nat_eq x y) e (group-past x f fs G)
  where
    go : (b : Bool) → (if b then true else is_among x (fun_vars fs)) ≡ false → (is_among x (fun_vars fs) ≡ false → at (group_knowns f fs G) x ≡ at G x) → (if b then Some (f t) else at (group_knowns f fs G) x) ≡ at G x
    go true e h = absurd (cc)
    go false e h = h e

group-key-past : (x : ℕ) (a : List Typ) (fs : Funs poly) (g : Groups) → is_among x (fun_vars fs) ≡ false → lookup (nat_eq x) (group_at fs a g) ≡ lookup (nat_eq x) g
group-key-past x a no_funs g e = refl
group-key-past x a (fun y t h fs) g e = go (nat_eq x y) e (group-key-past x a fs g)
  where
    go : (b : Bool) → (if b then true else is_among x (fun_vars fs)) ≡ false → (is_among x (fun_vars fs) ≡ false → lookup (nat_eq x) (group_at fs a g) ≡ lookup (nat_eq x) g) → (if b then Some a else lookup (nat_eq x) (group_at fs a g)) ≡ lookup (nat_eq x) g
    go true e h = absurd (cc)
    go false e h = h e

pub group-among : (x : ℕ) (f : Typ → Known) (fs : Funs poly) (G : Knowns) → is_among x (fun_vars fs) ≡ true → (b : Typ) × (at (group_knowns f fs G) x ≡ Some (f b))
group-among x f no_funs G e = absurd (cc)
group-among x f (fun y t h fs) G e = go (nat_eq x y) e (group-among x f fs G)
  where
    go : (b : Bool) → (if b then true else is_among x (fun_vars fs)) ≡ true → (is_among x (fun_vars fs) ≡ true → (c : Typ) × (at (group_knowns f fs G) x ≡ Some (f c))) → (c : Typ) × ((if b then Some (f t) else at (group_knowns f fs G) x) ≡ Some (f c))
    go true e h = (t, refl)
    go false e h = h e

pub group-key : (x : ℕ) (a : List Typ) (fs : Funs poly) (g : Groups) → is_among x (fun_vars fs) ≡ true → lookup (nat_eq x) (group_at fs a g) ≡ Some a
group-key x a no_funs g e = absurd (cc)
group-key x a (fun y t h fs) g e = go (nat_eq x y) e (group-key x a fs g)
  where
    go : (b : Bool) → (if b then true else is_among x (fun_vars fs)) ≡ true → (is_among x (fun_vars fs) ≡ true → lookup (nat_eq x) (group_at fs a g) ≡ Some a) → (if b then Some a else lookup (nat_eq x) (group_at fs a g)) ≡ Some a
    go true e h = refl
    go false e h = h e

-- a variable at types that it may be used at
pub record FitsAt (g : Groups) (G : Knowns) (x : ℕ) (a : List Typ) : Type 0 where
  pub there : (σ : Known) × (at G x ≡ Some σ)
  pub general : (qs : List Quantified) (s : ℕ → Typ) (b : Typ) → at G x ≡ Some (general qs s b) → AreAllowed no_variable qs a
  pub one : (t : Typ) → at G x ≡ Some (of_type t) → [] ≡ a
  pub own : (t : Typ) (b : List Typ) → at G x ≡ Some (own t) → lookup (nat_eq x) g ≡ Some b → b ≡ a
  pub exception : (o : Option Typ) → at G x ≡ Some (exception o) → [] ≡ a

past : {g g' : Groups} {G G' : Knowns} {x : ℕ} {a : List Typ} → at G' x ≡ at G x → lookup (nat_eq x) g' ≡ lookup (nat_eq x) g → FitsAt g' G' x a → FitsAt g G x a
past e l h = record {
  there = (h.there.0, sym e ∙ h.there.1);
  general = λ qs s b d. h.general qs s b (e ∙ d);
  one = λ t d. h.one t (e ∙ d);
  own = λ t b d k. h.own t b (e ∙ d) (l ∙ k);
  exception = λ o d. h.exception o (e ∙ d);
}

at-one : {g : Groups} {G : Knowns} {x : ℕ} {t : Typ} → at G x ≡ Some (of_type t) → FitsAt g G x []
at-one e = record { there = (_, e); general = λ qs s b d. absurd (cc); one = λ t d. refl; own = λ t b d k. absurd (cc); exception = λ o d. refl }

at-exception : {g : Groups} {G : Knowns} {x : ℕ} {o : Option Typ} → at G x ≡ Some (exception o) → FitsAt g G x []
at-exception e = record { there = (_, e); general = λ qs s b d. absurd (cc); one = λ t d. refl; own = λ t b d k. absurd (cc); exception = λ o d. refl }

at-general : {g : Groups} {G : Knowns} {x : ℕ} {a : List Typ} {qs : List Quantified} {s : ℕ → Typ} {b : Typ} → at G x ≡ Some (general qs s b) → AreAllowed no_variable qs a → FitsAt g G x a
at-general {a = a} {qs = qs} e f = record {
  there = (_, e);
  general = λ ps s b d. let same : qs ≡ ps = cc in subst (λ z. AreAllowed no_variable z a) same f;
  one = λ t d. absurd (cc);
  own = λ t b d k. absurd (cc);
  exception = λ o d. absurd (cc);
}

at-own : {g : Groups} {G : Knowns} {x : ℕ} {a : List Typ} {t : Typ} → at G x ≡ Some (own t) → lookup (nat_eq x) g ≡ Some a → FitsAt g G x a
at-own {a = a} e l = record { there = (_, e); general = λ qs s b d. absurd (cc); one = λ t d. absurd (cc); own = λ t b d k. let same : b ≡ a = cc in same; exception = λ o d. absurd (cc) }

without-fit : (vs : List ℕ) {g g' : Groups} {G G' : Knowns} {w : List Name} → ((x : ℕ) → is_among x vs ≡ false → at G' x ≡ at G x) → ((x : ℕ) → is_among x vs ≡ false → lookup (nat_eq x) g' ≡ lookup (nat_eq x) g) → AllNames (FitsAt g' G') w → AllNames (FitsAt g G) (without vs w)
without-fit vs p l all_none = all_none
without-fit vs {g} {g'} {G} {G'} p l (all_one {x = x} {a = a} {w = w} h hs) = go (is_among x vs) refl (without-fit vs p l hs)
  where
    go : (b : Bool) → is_among x vs ≡ b → AllNames (FitsAt g G) (without vs w) → AllNames (FitsAt g G) (if b then without vs w else copy_of x a ∷ without vs w)
    go true e k = k
    go false e k = all_one (past (p x e) (l x e) h) k

-- behind a variable
behind : (y : ℕ) (σ : Known) {g : Groups} {G : Knowns} {w : List Name} → AllNames (FitsAt g ((y, σ) ∷ G)) w → AllNames (FitsAt g G) (without (y ∷ []) w)
behind y σ {G = G} h = without-fit (y ∷ []) (λ x e. single-past x y σ G e) (λ x e. refl) h

pub bound-allowed : (qs : List Quantified) (s : ℕ → Typ) (b : Typ) {g : Groups} {G : Knowns} {x : ℕ} {a : List Typ} → at G x ≡ Some (bound qs s b) → FitsAt g G x a → AreAllowed no_variable qs a
bound-allowed [] s b {a = a} e h = subst (λ z. AreAllowed no_variable [] z) (h.one (replace s b) e) tt
bound-allowed (q ∷ qs) s b e h = h.general (q ∷ qs) s b e

-- those at which a generalised variable is needed are allowed
pub others-fit : (qs : List Quantified) (s : ℕ → Typ) (y : ℕ) (b : Typ) (u : List Typ) {g : Groups} (G : Knowns) {w : List Name} → AllNames (FitsAt g ((y, bound qs s b) ∷ G)) w → EachOf (λ a. AreAllowed no_variable qs a) (others (y ∷ []) u w)
others-fit qs s y b u G h = others-each (y ∷ []) u (λ x a e p. bound-allowed qs s b (single-among x y (bound qs s b) G e) p) h

pub group-others-fit : (qs : List Quantified) (s : ℕ → Typ) (fs : Funs poly) (u : List Typ) {g : Groups} (G : Knowns) {w : List Name} → AllNames (FitsAt g (group_knowns (bound qs s) fs G)) w → EachOf (λ a. AreAllowed no_variable qs a) (others (fun_vars fs) u w)
group-others-fit qs s fs u G h = others-each (fun_vars fs) u (λ x a e p. let q = group-among x (bound qs s) fs G e in bound-allowed qs s q.0 q.1 p) h

pub without-join : (vs : List ℕ) (w w' : List Name) → without vs (w ++ w') ≡ without vs w ++ without vs w'
without-join vs [] w' = refl
without-join vs (copy_of x a ∷ w) w' = go (is_among x vs) (without-join vs w w')
  where
    go : (b : Bool) → without vs (w ++ w') ≡ without vs w ++ without vs w' → (if b then without vs (w ++ w') else copy_of x a ∷ without vs (w ++ w')) ≡ (if b then without vs w else copy_of x a ∷ without vs w) ++ without vs w'
    go true e = e
    go false e = ap (λ l. copy_of x a ∷ l) e

group-fit : (qs : List Quantified) (fs : Funs poly) (s : ℕ → Typ) (g : Groups) (G : Knowns) {ts : List (List Typ)} → EachOf (λ a. AreAllowed no_variable qs a) ts
    → ((a : List Typ) → AreAllowed no_variable qs a → AllNames (FitsAt (group_at fs a g) (group_knowns (own_at (changed qs a s)) fs G)) (funs_needs (group_at fs a g) (changed qs a s) fs))
    → AllNames (FitsAt g G) (without (fun_vars fs) (all_needs (λ a. funs_needs (group_at fs a g) (changed qs a s) fs) ts))
group-fit qs fs s g G each_none h = all_none
group-fit qs fs s g G (each_one {a = a} {ts = ts} f l) h =
    subst (AllNames (FitsAt g G)) (sym (without-join (fun_vars fs) (funs_needs (group_at fs a g) (changed qs a s) fs) (all_needs (λ a. funs_needs (group_at fs a g) (changed qs a s) fs) ts)))
    (join (without-fit (fun_vars fs) (λ x e. group-past x (own_at (changed qs a s)) fs G e) (λ x e. group-key-past x a fs g e) (h a f)) (group-fit qs fs s g G l h))

atom-fit : {g : Groups} {G : Knowns} {u : Use} {t : Typ} {w : List Name} → AtomChecked G u t → AllNames (FitsAt g G) w → AllNames (FitsAt g G) (atom u ∷ w)
atom-fit (atom_checked e) h = all_one (at-one e) h

atoms-fit : (as_ : Atoms poly) {g : Groups} {G : Knowns} {ts : List Typ} → AtomsChecked G as_ ts → AllNames (FitsAt g G) (atoms_needs as_)
atoms-fit no_atoms no_atoms_checked = all_none
atoms-fit (an_atom u as_) (an_atom_checked a k) = atom-fit a (atoms-fit as_ k)

row-fit : (row : Row poly) {g : Groups} {G : Knowns} {r : _} → RowChecked G row r → AllNames (FitsAt g G) (row_needs row)
row-fit no_row no_row_checked = all_none
row-fit (a_row l u row) (a_row_checked a k) = atom-fit a (row-fit row k)

name-fit : {y : Exception poly} {g : Groups} {G : Knowns} {a : Option Typ} → NameChecked G y a → AllNames (FitsAt g G) (name_needs y)
name-fit (fixed_checked e) = all_none
name-fit (held_checked e) = all_one (at-exception e) all_none

none-without : {P : ℕ → List Typ → Type 0} {w : List Name} → AllNames P w → AllNames P (without [] w)
none-without all_none = all_none
none-without (all_one p h) = all_one p (none-without h)

module _ (table : List Constructor) where
  -- what an arm's test needs, and what is left of what the arm needs
  case-fit : {s : ℕ → Typ} {g : Groups} {G G' : Knowns} {c : Case poly} {u : Typ} {w : List Name} → tt.CaseTyped table s G c u G' → AllNames (FitsAt g G') w → AllNames (FitsAt g G) (case_needs c ++ without (case_vars c) w)
  case-fit (tt.literal_typed k) h = none-without h
  case-fit (tt.con_typed k) h = none-without h
  case-fit {s = s} (tt.con_of_typed {x = x} {a = a} k) h = behind x (of_type (replace s a)) h
  case-fit (tt.exn_typed e) h = all_one (at-exception e) (none-without h)
  case-fit {s = s} (tt.exn_of_typed {x = x} {a = a} e) h = all_one (at-exception e) (behind x (of_type (replace s a)) h)
  case-fit (tt.record_typed r e n) h = none-without h

  pub case-owned : {s : ℕ → Typ} {g : Groups} {G G' : Knowns} {c : Case poly} {u : Typ} {bs bs' : List ℕ} → tt.CaseTyped table s G c u G' → un.CaseUnique (λ x. x) bs c bs' → KeysIn g bs → Owned g G → KeysIn g bs' × Owned g G'
  case-owned (tt.literal_typed k) un.literal_unique d q = (d, q)
  case-owned (tt.con_typed k) un.con_unique d q = (d, q)
  case-owned {s = s} (tt.con_of_typed {x = x} {a = a} k) (un.con_of_unique o) d q = (keys-more x d, owned-more x (of_type (replace s a)) o d owned_one q)
  case-owned (tt.exn_typed e) un.exn_unique d q = (d, q)
  case-owned {s = s} (tt.exn_of_typed {x = x} {a = a} e) (un.exn_of_unique o) d q = (keys-more x d, owned-more x (of_type (replace s a)) o d owned_one q)
  case-owned (tt.record_typed r e n) un.record_unique d q = (d, q)

  three : {P : ℕ → List Typ → Type 0} (w w' : List Name) {w'' : List Name} → AllNames P (w ++ w') → AllNames P w'' → AllNames P (w ++ (w' ++ w''))
  three [] w' h k = join h k
  three (copy_of x a ∷ w) w' (all_one p h) k = all_one p (three w w' h k)

  use-fit : {g : Groups} {G : Knowns} {x : ℕ} (a : List Typ) {qs : List Quantified} {s : ℕ → Typ} {b : Typ} (o : Option (List Typ)) → o ≡ None → at G x ≡ Some (general qs s b) → AreAllowed no_variable qs a → FitsAt g G x (own_or o a)
  use-fit a None q e f = at-general e f
  use-fit a (Some z) q e f = absurd (cc)

  none-fit : {g : Groups} {G : Knowns} {x : ℕ} (o : Option (List Typ)) → o ≡ None → FitsAt g G x [] → FitsAt g G x (own_or o [])
  none-fit None q f = f
  none-fit (Some z) q f = absurd (cc)

  own-fit : {g : Groups} {G : Knowns} {x : ℕ} {t : Typ} (o : Option (List Typ)) → lookup (nat_eq x) g ≡ o → OwnedAs (own t) o → at G x ≡ Some (own t) → FitsAt g G x (own_or o [])
  own-fit (Some a) l owned_own e = at-own e l
  own-fit None l h e = elim h [ ]

  one-none : {t : Typ} {o : Option (List Typ)} → OwnedAs (of_type t) o → o ≡ None
  one-none owned_one = refl

  exception-none : {a : Option Typ} {o : Option (List Typ)} → OwnedAs (exception a) o → o ≡ None
  exception-none owned_exception = refl

  mutual
    pub needs-fit : (e : Exp poly) {m : Bool} {s : ℕ → Typ} {g : Groups} {G : Knowns} {t : Typ} {bs : List ℕ} → tt.Typed table m s G e t → un.IsUnique (λ x. x) bs e → Inhabited e → KeysIn g bs → Owned g G → AllNames (FitsAt g G) (needs g s e)
    needs-fit (ret u) (tt.t_ret a) n i d q = atom-fit a all_none
    needs-fit (let_in x ps t o e) {s = s} {g = g} {G = G} (tt.t_let v k l) (un.let_unique new uo ue) i d q =
        let w = needs-fit e l ue i.2 (keys-more x d) (owned-more x (bound ps s t) new d (bound-owned ps s t) q) in
        let f = others-fit ps s x t (units ps) G w in
        join (join-all (each-map (λ a l. op-fit o (k a l) uo i.1 d q) (each_one (units-fit ps i.0) f))) (behind x (bound ps s t) w)
    needs-fit (exception_in x id t e) {s = s} (tt.t_exception l) (un.exception_unique new ue) i d q = behind x (exception (tt.option_read s t)) (needs-fit e l ue i (keys-more x d) (owned-more x _ new d owned_exception q))
    needs-fit (name_in x y e) {s = s} {g = g} (tt.t_name {a = a} n l) (un.name_unique new ue) i d q =
        join (name-fit n) (behind x (exception a) (needs-fit e l ue i (keys-more x d) (owned-more x _ new d owned_exception q)))
    needs-fit (rec_in ps fs e) {s = s} {g = g} {G = G} (tt.t_rec k l) (un.rec_unique new uf ue) i d q =
        let w = needs-fit e l ue i.2 (keys-funs fs d) (owned-after ps s fs new d q) in
        let f = group-others-fit ps s fs (units ps) G w in
        join (group-fit ps fs s g G (each_one (units-fit ps i.0) f) (λ a l. funs-fit fs (k a l) uf i.1 (keys-inside fs a d) (owned-inside (changed ps a s) fs a q))) (without-fit (fun_vars fs) (λ x e. group-past x (bound ps s) fs G e) (λ x e. refl) w)
    needs-fit (switch u t arms) (tt.t_switch a e ks) (un.switch_unique ua) i d q = atom-fit a (arms-fit arms ks ua i d q)
    needs-fit (first e f) (tt.t_first l k) (un.first_unique ue uf) i d q = join (needs-fit e l ue i.0 d q) (needs-fit f k uf i.1 d q)
    needs-fit miss tt.t_miss n i d q = all_none
    needs-fit (counted k e) (tt.t_counted l) (un.counted_unique ue) i d q = needs-fit e l ue i d q

    pub arms-fit : (arms : Arms poly) {s : ℕ → Typ} {g : Groups} {G : Knowns} {u t : Typ} {bs : List ℕ} → tt.ArmsTyped table s G arms u t → un.ArmsUnique (λ x. x) bs arms → ArmsInhabited arms → KeysIn g bs → Owned g G → AllNames (FitsAt g G) (arms_needs g s arms)
    arms-fit no_arms tt.t_no_arms n i d q = all_none
    arms-fit (arm c e arms) {s = s} {g = g} (tt.t_arm k l ks) (un.arm_unique uc ue ua) i d q =
        let z = case-owned k uc d q in
        three (case_needs c) (without (case_vars c) (needs g s e)) (case-fit k (needs-fit e l ue i.0 z.0 z.1)) (arms-fit arms ks ua i.1 d q)

    pub op-fit : (o : Op poly) {s : ℕ → Typ} {g : Groups} {G : Knowns} {t : Typ} {bs : List ℕ} → tt.OpTyped table s G o t → un.OpUnique (λ x. x) bs o → OpInhabited o → KeysIn g bs → Owned g G → AllNames (FitsAt g G) (op_needs g s o)
    op-fit (use_of (inst x ts)) {s = s} {g = g} (tt.t_use e f h) n i d q = all_one (use-fit (map (replace s) ts) (lookup (nat_eq x) g) (general-not-own (q.is x _ e)) e f) all_none
    op-fit (use_of (inst x ts)) {g = g} (tt.t_use_one e) n i d q = all_one (none-fit (lookup (nat_eq x) g) (one-none (q.is x _ e)) (at-one e)) all_none
    op-fit (use_of (inst x ts)) {g = g} (tt.t_use_own e) n i d q = all_one (own-fit (lookup (nat_eq x) g) refl (q.is x _ e) e) all_none
    op-fit (use_of (inst x ts)) {g = g} (tt.t_use_exception e h) n i d q = all_one (none-fit (lookup (nat_eq x) g) (exception-none (q.is x _ e)) (at-exception e)) all_none
    op-fit (const l) k n i d q = all_none
    op-fit (con_alone c t) k n i d q = all_none
    op-fit (construct m c t u) (tt.t_construct e a h) n i d q = atom-fit a all_none
    op-fit (ref_alone t) k n i d q = all_none
    op-fit (refer m t u) (tt.t_refer a h) n i d q = atom-fit a all_none
    op-fit (content t u) (tt.t_content a h e) n i d q = atom-fit a all_none
    op-fit (pack m t (inst y ts) u) (tt.t_pack e a h) n i d q = all_one (at-exception e) (atom-fit a all_none)
    op-fit (make_record t row) (tt.t_make_record k e o h) n i d q = row-fit row k
    op-fit (select t l u) (tt.t_select r a e f h) n i d q = atom-fit a all_none
    op-fit (prim_alone p t) k n i d q = all_none
    op-fit (prim m p t as_) (tt.t_prim f k e h) n i d q = atoms-fit as_ k
    op-fit (app place f u) (tt.t_app a b e) n i d q = atom-fit a (atom-fit b all_none)
    op-fit (fn f) (tt.t_fn k) (un.fn_unique n) i d q = fun-fit f k n i d q
    op-fit (block e) (tt.t_block l) (un.block_unique n) i d q = needs-fit e l n i d q
    op-fit (handle e x f) (tt.t_handle l k) (un.handle_unique ue new uf) i d q = join (needs-fit e l ue i.0 d q) (behind x (of_type exn_type) (needs-fit f k uf i.1 (keys-more x d) (owned-more x _ new d owned_one q)))
    op-fit (raise u) (tt.t_raise a e) n i d q = atom-fit a all_none
    op-fit (raise_initial k) h n i d q = all_none

    pub fun-fit : (f : Fun poly) {s : ℕ → Typ} {g : Groups} {G : Knowns} {t : Typ} {bs : List ℕ} → tt.FunTyped table s G f t → un.FunUnique (λ x. x) bs f → FunInhabited f → KeysIn g bs → Owned g G → AllNames (FitsAt g G) (fun_needs g s f)
    fun-fit (last x t e) {s = s} (tt.t_last l h) (un.last_unique new ue) i d q = behind x (of_type (replace s t)) (needs-fit e l ue i (keys-more x d) (owned-more x _ new d owned_one q))
    fun-fit (more_of x t f) {s = s} (tt.t_more l h) (un.more_unique new uf) i d q = behind x (of_type (replace s t)) (fun-fit f l uf i (keys-more x d) (owned-more x _ new d owned_one q))

    pub funs-fit : (fs : Funs poly) {s : ℕ → Typ} {g : Groups} {G : Knowns} {bs : List ℕ} → tt.FunsTyped table s G fs → un.FunsUnique (λ x. x) bs fs → FunsInhabited fs → KeysIn g bs → Owned g G → AllNames (FitsAt g G) (funs_needs g s fs)
    funs-fit no_funs tt.t_no_funs n i d q = all_none
    funs-fit (fun x t f fs) (tt.t_fun k ks) (un.fun_unique n ns) i d q = join (fun-fit f k n i.0 d q) (funs-fit fs ks ns i.1 d q)
