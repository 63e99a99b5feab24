-- Values and environments of the source, and of a program that resolves it.
use Rattle.std.proofs.Common.{◌≡◌, ℕ, suc, ◌<◌, ◌≤◌, Bool, true, false, if◌then◌else◌, Some, refl, ◌∙◌, arith, eqb-true, eq-eqb}
use Rattle.std.specs.Prelude.{nat_eq}
use Rattle.mlc_names.specs.declared.label.Label.{Label}
use Rattle.mlc_prims.specs.LitOf.{Literal}
use Rattle.mlc_prims.specs.declared.basis.BasisPrimitive.{BasisPrimitive}
use Rattle.core_rules.specs.of_sml_tree.declared.ident.Vid.{Vid}
use Rattle.core_rules.specs.of_sml_tree.BareTree.{Rules, Binds, no_binds}
use Rattle.ty_core.specs.declared.env.Status.{Status}
use Rattle.ty_core.specs.declared.env.Status.TheVariants as status
use Rattle.core_rules.specs.Values.{Con, Value, literal, record_of, con, con_of, ref, address, exn, exn_of, primitive, closure, Fields, no_fields, field, Env, nothing, value, tycon, structure, plus}
use Rattle.core_rules.specs.Match.{bound_to}
use Rattle.ir_poly.specs.of_ir_values.Values as made
use Rattle.ir_poly.specs.of_ir_values.Values.{bind}
use Rattle.ir_poly.specs.Prog.{fixed, held, Fun, Funs}
use Rattle.ir_poly.specs.ProgMeaning.{V, Scope as Bound, Parts, alone, one_of, look_up}
use Rattle.core_elab.specs.Scopes.{Denotes, variable, constructor, reference, exception, primitive as performed, Scope, empty, scoped, typed_by, inside, plus_scope, con_number}
use Rattle.core_elab.specs.Resolves.{FunTo, FunsTo, HeadsTo}

-- a field among others, past those of other labels
pub data Among (l : Label) (u : V) : Parts → Parts → Type 0 where
  among_here : {gs : Parts} → Among l u gs (made.field l u gs)
  among_past : (k : Label) (z : V) {gs hs : Parts} → made.same_label l k ≡ false → Among l u gs hs → Among l u (made.field k z gs) (made.field k z hs)

mutual
  pub data Rel : Value → V → Type 0 where
    rel_literal : (l : Literal) → Rel (literal l) (made.literal l)
    rel_record : {fs : Fields} {gs : Parts} → RelFields fs gs → Rel (record_of fs) (made.record_of tt gs)
    rel_con : (c : Con) {n : ℕ} → con_number c ≡ Some n → Rel (con c) (made.con tt n)
    rel_con_of : (c : Con) {n : ℕ} {v : Value} {u : V} → con_number c ≡ Some n → Rel v u → Rel (con_of c v) (made.con_of tt n u)
    rel_ref : Rel ref (made.ref tt)
    rel_address : (a : ℕ) → Rel (address a) (made.address a)
    rel_exn : (n : ℕ) → Rel (exn n) (made.exn tt n)
    rel_exn_of : (n : ℕ) {v : Value} {u : V} → Rel v u → Rel (exn_of n v) (made.exn_of tt n u)
    rel_primitive : (q : BasisPrimitive) → Rel (primitive q) (made.primitive tt q)
    rel_alone : {s : Scope} {k : ℕ} {rs : Rules} {f : Fun} {e : Env} {t : Bound} → Covers k t s e → FunTo s k rs f
        → Rel (closure rs e no_binds) (made.closure (alone f) t)
    rel_one_of : {s r : Scope} {k j : ℕ} {rs : Rules} {f : Fun} {e : Env} {t : Bound} {bs : Binds} {fs : Funs} → Covers k t s e → HeadsTo k bs fs r j
        → FunsTo (plus_scope s r) j bs fs → FunTo (plus_scope s r) j rs f → Rel (closure rs e bs) (made.closure (one_of f fs) t)

  -- the program's fields may stand in another order
  pub data RelFields : Fields → Parts → Type 0 where
    rel_no_fields : RelFields no_fields made.no_fields
    rel_field : (l : Label) {v : Value} {u : V} {fs : Fields} {gs hs : Parts} → Rel v u → RelFields fs gs → Among l u gs hs → RelFields (field l v fs) hs

  -- what an identifier stands for has its value; variables are below k
  pub data Known : ℕ → Bound → Denotes → Status → Value → Type 0 where
    known_variable : {k : ℕ} {t : Bound} (n : ℕ) {v : Value} {u : V} → n < k → look_up n t ≡ Some u → Rel v u → Known k t (variable n) status.Variable v
    known_constructor : {k : ℕ} {t : Bound} (c : Con) {n : ℕ} → con_number c ≡ Some n → Known k t (constructor n) status.Constructor (con c)
    known_reference : {k : ℕ} {t : Bound} → Known k t reference status.Constructor ref
    known_fixed : {k : ℕ} {t : Bound} (n : ℕ) → Known k t (exception (fixed n)) status.Exception (exn n)
    known_held : {k : ℕ} {t : Bound} (n : ℕ) {i : ℕ} → n < k → look_up n t ≡ Some (made.exn tt i) → Known k t (exception (held n)) status.Exception (exn i)
    known_primitive : {k : ℕ} {t : Bound} (q : BasisPrimitive) → Known k t (performed q) status.Variable (primitive q)

  pub data Covers : ℕ → Bound → Scope → Env → Type 0 where
    covers_nothing : {k : ℕ} {t : Bound} → Covers k t empty nothing
    covers_value : {k : ℕ} {t : Bound} (x : Vid) {d : Denotes} {q : Status} {v : Value} {s : Scope} {e : Env} → Known k t d q v → Covers k t s e
        → Covers k t (scoped x d s) (value x q v e)
    covers_tycon : {k : ℕ} {t : Bound} (x : ℕ) {c : Scope} {f : Env} {s : Scope} {e : Env} → Covers k t c f → Covers k t s e
        → Covers k t (typed_by x c s) (tycon x f e)
    covers_structure : {k : ℕ} {t : Bound} (x : ℕ) {c : Scope} {f : Env} {s : Scope} {e : Env} → Covers k t c f → Covers k t s e
        → Covers k t (inside x c s) (structure x f e)

-- what the store has, which the program keeps in a cell
pub data Stored : Value → V → Type 0 where
  in_cell : {v : Value} {u : V} → Rel v u → Stored v (made.cell tt u)

-- the variables below k have the same values
pub record SameBelow (k : ℕ) (t u : Bound) : Type 0 where
  pub same : (n : ℕ) → n < k → look_up n u ≡ look_up n t

pub known-more : {k j : ℕ} {t u : Bound} {d : Denotes} {q : Status} {v : Value} → k ≤ j → SameBelow k t u → Known k t d q v → Known j u d q v
known-more h m (known_variable n i e r) = known_variable n (omega arith) (m.same n i ∙ e) r
known-more h m (known_constructor c e) = known_constructor c e
known-more h m known_reference = known_reference
known-more h m (known_fixed n) = known_fixed n
known-more h m (known_held n i e) = known_held n (omega arith) (m.same n i ∙ e)
known-more h m (known_primitive q) = known_primitive q

pub covers-more : {k j : ℕ} {t u : Bound} {s : Scope} {e : Env} → k ≤ j → SameBelow k t u → Covers k t s e → Covers j u s e
covers-more h m covers_nothing = covers_nothing
covers-more h m (covers_value x n c) = covers_value x (known-more h m n) (covers-more h m c)
covers-more h m (covers_tycon x b c) = covers_tycon x (covers-more h m b) (covers-more h m c)
covers-more h m (covers_structure x b c) = covers_structure x (covers-more h m b) (covers-more h m c)

pub covers-plus : {k : ℕ} {t : Bound} {s r : Scope} {e d : Env} → Covers k t s e → Covers k t r d → Covers k t (plus_scope s r) (plus e d)
covers-plus c covers_nothing = c
covers-plus c (covers_value x n b) = covers_value x n (covers-plus c b)
covers-plus c (covers_tycon x f b) = covers_tycon x f (covers-plus c b)
covers-plus c (covers_structure x f b) = covers_structure x f (covers-plus c b)

-- What is bound anew, from k up to j, over t.
pub record Anew (k j : ℕ) (t : Bound) (s : Scope) (d : Env) (u : Bound) : Type 0 where
  pub up : k ≤ j
  pub same : SameBelow k t u
  pub covers : Covers j u s d

pub same-refl : (k : ℕ) (t : Bound) → SameBelow k t t
same-refl k t = record { same = λ n h. refl }

pub same-trans : {k j : ℕ} {t u v : Bound} → k ≤ j → SameBelow k t u → SameBelow j u v → SameBelow k t v
same-trans le a b = record { same = λ n h. b.same n (omega arith) ∙ a.same n h }

pub anew-nothing : (k : ℕ) (t : Bound) → Anew k k t empty nothing t
anew-nothing k t = record { up = omega arith; same = same-refl k t; covers = covers_nothing }

-- an environment that needs no variables
pub anew-closed : (k : ℕ) (t : Bound) {s : Scope} {d : Env} → Covers k t s d → Anew k k t s d t
anew-closed k t c = record { up = omega arith; same = same-refl k t; covers = c }

pub anew-scope : {k j : ℕ} {t u : Bound} {s r : Scope} {e d : Env} → Covers k t s e → Anew k j t r d u → Covers j u (plus_scope s r) (plus e d)
anew-scope c a = covers-plus (covers-more a.up a.same c) a.covers

-- one after the other
pub anew-then : {k j i : ℕ} {t u v : Bound} {r q : Scope} {d f : Env} → Anew k j t r d u → Anew j i u q f v → Anew k i t (plus_scope r q) (plus d f) v
anew-then a b = record { up = omega (arith, a.up, b.up); same = same-trans a.up a.same b.same; covers = anew-scope a.covers b }

-- the first is hidden
pub anew-hide : {k j i : ℕ} {t u v : Bound} {r q : Scope} {d f : Env} → Anew k j t r d u → Anew j i u q f v → Anew k i t q f v
anew-hide a b = record { up = omega (arith, a.up, b.up); same = same-trans a.up a.same b.same; covers = b.covers }

-- one variable

pub look-here : (n : ℕ) (t : Bound) (v : V) → look_up n (bind n v t) ≡ Some v
look-here n t v = go (nat_eq n n) (eq-eqb n n refl)
  where
    go : (b : Bool) → b ≡ true → (if b then Some v else look_up n t) ≡ Some v
    go true e = refl
    go false e = absurd (cc)

pub bind-same : {k : ℕ} (n : ℕ) (t : Bound) (v : V) → k ≤ n → SameBelow k t (bind n v t)
bind-same {k} n t v le = record { same = λ m h. skip m h (nat_eq m n) refl }
  where
    skip : (m : ℕ) → m < k → (b : Bool) → nat_eq m n ≡ b → (if b then Some v else look_up m t) ≡ look_up m t
    skip m h true e = absurd (omega (arith, eqb-true m n e))
    skip m h false e = refl

pub anew-one : {k : ℕ} (x : Vid) (n : ℕ) (t : Bound) {v : Value} {u : V} → k ≤ n → Rel v u
    → Anew k (suc n) t (scoped x (variable n) empty) (bound_to x v) (bind n u t)
anew-one x n t {v} {u} le r = record {
  up = omega arith;
  same = bind-same n t u le;
  covers = covers_value x (known_variable n (omega arith) (look-here n t u) r) covers_nothing;
}

-- a variable that nothing in scope stands for
pub anew-unnamed : {k : ℕ} (n : ℕ) (t : Bound) (u : V) → k ≤ n → Anew k (suc n) t empty nothing (bind n u t)
anew-unnamed n t u le = record { up = omega arith; same = bind-same n t u le; covers = covers_nothing }
