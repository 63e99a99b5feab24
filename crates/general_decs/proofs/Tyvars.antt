-- A pattern elaborates as well where more type variables are in scope.
use Rattle.std.proofs.Common.{◌≡◌, ℕ, Bool, true, false, cond, List, [], ◌∷◌, map, Option, Some, None, nat_eq, refl, sym, ap, ap₂, ◌∙◌}
use Rattle.std.specs.Prelude.{option_map, option_and_then}
use Rattle.std.specs.Option.{option_zip}
use Rattle.sml_tree.specs.BareTree as bare
use Rattle.sml_tree.specs.declared.ident.Vid.{Vid}
use Rattle.ty_core.specs.Types.{Typ, Typs}
use Rattle.ty_core.specs.Statics.{replace}
use Rattle.ty_basis.specs.Types.{Row}
use Rattle.core_rules.specs.Choices.{Choices}
use Rattle.core_rules.specs.Elaborated.{type_of, types_of, row_of}
use Rattle.core_rules.specs.Objects.{at, Context, Map, Value}
use Rattle.core_rules.specs.Typing.{Bound}
use Rattle.ir_poly.specs.Prog as prog
use Rattle.ir_poly.specs.Types.{Constructor}
use Rattle.core_elab.specs.Scopes.{Denotes, Scope}
use Rattle.elab_typed.specs.Contexts.{Around, Kept, context_under}
use Rattle.elab_typed.specs.Elaborates.{Binds, Stands, StandsIf, PatElab, PatsElab, wild_elab, constant_elab, variable_elab, alone_elab, built_elab, fields_elab, open_elab, con_elab, built_con_elab, typed_elab, as_elab, no_pats_elab, a_pat_elab}
use Rattle.elab_typed.specs.Instances.{IsGivenAt, AloneElab, BeforeElab, alone_constructor, alone_exception, alone_given_exception, before_constructor, before_reference, before_exception}
use Rattle.general_decs.specs.Inside.{Keeps}

-- answers that stay

map-wider : {A B : Type 0} (f : A → B) (o p : Option A) (b : B) → ((a : A) → o ≡ Some a → p ≡ Some a) → option_map f o ≡ Some b → option_map f p ≡ Some b
map-wider f None p b h e = cc
map-wider f (Some a) p b h e = ap (option_map f) (h a refl) ∙ e

then-wider : {A B : Type 0} (f : A → Option B) (o p : Option A) (b : B) → ((a : A) → o ≡ Some a → p ≡ Some a) → option_and_then f o ≡ Some b → option_and_then f p ≡ Some b
then-wider f None p b h e = cc
then-wider f (Some a) p b h e = ap (option_and_then f) (h a refl) ∙ e

zip-wider : {A B : Type 0} (o o' : Option A) (p p' : Option B) (r : A × B) → ((a : A) → o ≡ Some a → o' ≡ Some a) → ((b : B) → p ≡ Some b → p' ≡ Some b)
    → option_zip o p ≡ Some r → option_zip o' p' ≡ Some r
zip-wider None o' p p' r h k e = cc
zip-wider (Some a) o' None p' r h k e = cc
zip-wider (Some a) o' (Some b) p' r h k e = ap₂ option_zip (h a refl) (k b refl) ∙ e

-- a type that is written stands for what it did

module _ (c : Context) (m : Map ℕ Typ) (k : Keeps c.tyvars m) where
  abbrev d : Context
  d = record c { tyvars = m }

  mutual
    ty-wider : (ty : bare.Ty) (t : Typ) → type_of c ty ≡ Some t → type_of d ty ≡ Some t
    ty-wider (bare.var p a) t e = k a.name t e
    ty-wider (bare.fields p fs) t e = map-wider _ (row_of c fs) (row_of d fs) t (row-wider fs) e
    ty-wider (bare.con p ts q x) t e = then-wider _ (types_of c ts) (types_of d ts) t (tys-wider ts) e
    ty-wider (bare.arrow p a b) t e =
        map-wider _ (option_zip (type_of c a) (type_of c b)) (option_zip (type_of d a) (type_of d b)) t
        (λ r. zip-wider (type_of c a) (type_of d a) (type_of c b) (type_of d b) r (ty-wider a) (ty-wider b)) e
    ty-wider (bare.ill p) t e = cc

    tys-wider : (tys : bare.Tys) (ts : Typs) → types_of c tys ≡ Some ts → types_of d tys ≡ Some ts
    tys-wider bare.no_tys ts e = e
    tys-wider (bare.ty a as_) ts e =
        map-wider _ (option_zip (type_of c a) (types_of c as_)) (option_zip (type_of d a) (types_of d as_)) ts
        (λ r. zip-wider (type_of c a) (type_of d a) (types_of c as_) (types_of d as_) r (ty-wider a) (tys-wider as_)) e

    row-wider : (fs : bare.TyFields) (row : Row) → row_of c fs ≡ Some row → row_of d fs ≡ Some row
    row-wider bare.no_ty_fields row e = e
    row-wider (bare.ty_field l a fs) row e =
        map-wider _ (option_zip (type_of c a) (row_of c fs)) (option_zip (type_of d a) (row_of d fs)) row
        (λ r. zip-wider (type_of c a) (type_of d a) (row_of c fs) (row_of d fs) r (ty-wider a) (row-wider fs)) e

at-mapped : (s : ℕ → Typ) (m : Map ℕ Typ) (a : ℕ) → at nat_eq (map (λ (b : ℕ × Typ). (b.0, replace s b.1)) m) a ≡ option_map (replace s) (at nat_eq m a)
at-mapped s [] a = refl
at-mapped s (b ∷ m) a = by (nat_eq a b.0) (at-mapped s m a)
  where
    by : (c : Bool) → at nat_eq (map (λ (b : ℕ × Typ). (b.0, replace s b.1)) m) a ≡ option_map (replace s) (at nat_eq m a)
        → cond c (Some (replace s b.1)) (at nat_eq (map (λ (b : ℕ × Typ). (b.0, replace s b.1)) m) a) ≡ option_map (replace s) (cond c (Some b.1) (at nat_eq m a))
    by true h = refl
    by false h = h

keeps-mapped : (s : ℕ → Typ) (old new : Map ℕ Typ) → Keeps old new
    → Keeps (map (λ (b : ℕ × Typ). (b.0, replace s b.1)) old) (map (λ (b : ℕ × Typ). (b.0, replace s b.1)) new)
keeps-mapped s old new k a t e =
    at-mapped s new a ∙ map-wider (replace s) (at nat_eq old a) (at nat_eq new a) t (k a) (sym (at-mapped s old a) ∙ e)

module _ (A : Around) (m : Map ℕ Typ) (k : Keeps A.tyvars m) where
  abbrev wider : Around
  wider = record A { tyvars = m }

  stands-wider : (ty : bare.Ty) (t : Typ) → Stands A ty t → Stands wider ty t
  stands-wider ty t h s = ty-wider (context_under s A) (map (λ (b : ℕ × Typ). (b.0, replace s b.1)) m) (keeps-mapped s A.tyvars m k) ty (replace s t) (h s)

  if-wider : (o : Option bare.Ty) (t : Typ) → StandsIf A o t → StandsIf wider o t
  if-wider None t h = tt
  if-wider (Some ty) t h = stands-wider ty t h

  binds-wider : (x : Vid) (t : Typ) → Binds A x t → Binds wider x t
  binds-wider x t b = record { unmatched = b.unmatched; unkept = b.unkept; free = b.free; over = b.over }

  given-wider : {v : Value} {ts : List Typ} {t : Typ} {c : Choices} → IsGivenAt A v ts t c → IsGivenAt wider v ts t c
  given-wider g = record { allowed = g.allowed; over = g.over; is = g.is; chosen = g.chosen }

  module _ (table : List Constructor) where
    alone-wider : {v : Kept} {d : Denotes} {p : prog.Pat} {t : Typ} → AloneElab table A v d p t → AloneElab table wider v d p t
    alone-wider (alone_constructor c ts n us i g h) = alone_constructor c ts n us i (given-wider g) h
    alone-wider (alone_exception x f o) = alone_exception x f o
    alone-wider (alone_given_exception x ts i g f) = alone_given_exception x ts i (given-wider g) f

    before-wider : {v : Kept} {d : Denotes} {b b' : prog.Pat} {u t : Typ} → BeforeElab table A v d b b' u t → BeforeElab table wider v d b b' u t
    before-wider (before_constructor c ts n us i g h o) = before_constructor c ts n us i (given-wider g) h o
    before-wider (before_reference ts i g o) = before_reference ts i (given-wider g) o
    before-wider (before_exception x f o v) = before_exception x f o v

    mutual
      pub pat-wider : {n j : ℕ} {a : bare.Pat} {p : prog.Pat} {t : Typ} {vs : Bound} {c : Choices} {r : Scope} → PatElab table A n a p t vs c r j
          → PatElab table wider n a p t vs c r j
      pat-wider (wild_elab p o) = wild_elab p o
      pat-wider (constant_elab p c) = constant_elab p c
      pat-wider (variable_elab p x n {t = t} le b) = variable_elab p x n le (binds-wider x t b)
      pat-wider (alone_elab p e d x) = alone_elab p e d (alone-wider x)
      pat-wider (built_elab p b ts g x) = built_elab p b ts (given-wider g) x
      pat-wider (fields_elab p fs n) = fields_elab p (pats-wider fs) n
      pat-wider (open_elab p others fs d o) = open_elab p others (pats-wider fs) d o
      pat-wider (con_elab p q e d b a) = con_elab p q e d (before-wider b) (pat-wider a)
      pat-wider (built_con_elab p b ts g x o a) = built_con_elab p b ts (given-wider g) x o (pat-wider a)
      pat-wider (typed_elab p {ty = ty} {t = t} a s) = typed_elab p (pat-wider a) (stands-wider ty t s)
      pat-wider (as_elab p x n {ty = ty} {t = t} le b s a) = as_elab p x n le (binds-wider x t b) (if-wider ty t s) (pat-wider a)

      pats-wider : {whole : Row} {n j : ℕ} {fs : bare.PatFields} {gs : prog.PatFields} {w : Row} {vs : Bound} {c : Choices} {r : Scope}
          → PatsElab table A whole n fs gs w vs c r j → PatsElab table wider whole n fs gs w vs c r j
      pats-wider no_pats_elab = no_pats_elab
      pats-wider (a_pat_elab l f o a fs) = a_pat_elab l f o (pat-wider a) (pats-wider fs)
