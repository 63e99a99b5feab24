-- Parts of an expression are less deep than it.
use Rattle.std.proofs.Common.{◌≡◌, ◌<◌, ◌≤◌, ℕ, Bool, List, Vec, Box, Global, length, get_or, ap, arith}
use denote.Param.Weighed.{most, at_most}
use Rattle.mlc_base.specs.declared.place.Place.{Place}
use Rattle.sml_tree.specs.declared.tree.Ty.{Ty}
use Rattle.sml_tree.specs.declared.tree.TyvarSeq.{TyvarSeq}
use Rattle.sml_tree.specs.declared.tree.Exp.{Exp, size-Exp}
use Rattle.sml_tree.specs.declared.tree.Exp.TheVariants as exps
use Rattle.sml_tree.specs.declared.tree.Dec.{Dec, size-Dec}
use Rattle.sml_tree.specs.declared.tree.Dec.TheVariants as decs
use Rattle.sml_tree.specs.declared.tree.Dec.TheViews.{sized-Apply, sized-Chain, sized-Fn, sized-Handle, sized-Let, sized-Raise, sized-Record, sized-Sequence, sized-Tuple, sized-Typed, sized-Val}
use Rattle.sml_tree.specs.declared.tree.Bind.{Bind, size-Bind, size_is-Bind}
use Rattle.sml_tree.specs.declared.tree.ExpField.{ExpField, size-ExpField, size_is-ExpField}
use Rattle.sml_tree.specs.declared.tree.Part.{Part, size-Part, size_is-Part}
use Rattle.sml_tree.specs.declared.tree.Rule.{Rule, size-Rule, size_is-Rule}

-- elements of lists

pub field-size : (fs : List ExpField) (i : ℕ) (d : ExpField) → i < length fs → size-Exp (get_or fs i d).exp ≤ most size-ExpField fs
field-size fs i d lt = omega (arith, at_most size-ExpField fs i d lt, size_is-ExpField (get_or fs i d))

pub part-size : (ps : List Part) (i : ℕ) (d : Part) → i < length ps → size-Exp (get_or ps i d).exp ≤ most size-Part ps
part-size ps i d lt = omega (arith, at_most size-Part ps i d lt, size_is-Part (get_or ps i d))

pub rule-size : (rs : List Rule) (i : ℕ) (d : Rule) → i < length rs → size-Exp (get_or rs i d).exp ≤ most size-Rule rs
rule-size rs i d lt = omega (arith, at_most size-Rule rs i d lt, size_is-Rule (get_or rs i d))

pub bind-size : (bs : List Bind) (i : ℕ) (d : Bind) → i < length bs → size-Exp (get_or bs i d).exp ≤ most size-Bind bs
bind-size bs i d lt = omega (arith, at_most size-Bind bs i d lt, size_is-Bind (get_or bs i d))

pub exp-size : (es : List Exp) (i : ℕ) (e : Exp) → i < length es → e ≡ get_or es i e → size-Exp e ≤ most size-Exp es
exp-size es i e lt q = omega (arith, at_most size-Exp es i e lt, ap size-Exp q)

pub dec-size : (ds : List Dec) (i : ℕ) (d : Dec) → i < length ds → d ≡ get_or ds i d → size-Dec d ≤ most size-Dec ds
dec-size ds i d lt q = omega (arith, at_most size-Dec ds i d lt, ap size-Dec q)

-- nodes

module _ (e : Exp) (q : Place) where
  pub fields-size : (fs : Vec ExpField Global) (xs : List ExpField) → e ≡ exps.Record q fs → xs ≡ fs.items → most size-ExpField xs < size-Exp e
  fields-size fs xs is x = omega (arith, sized-Record q fs, ap size-Exp is, ap (most size-ExpField) x)

  pub tuple-size : (es : Vec Exp Global) (xs : List Exp) → e ≡ exps.Tuple q es → xs ≡ es.items → most size-Exp xs < size-Exp e
  tuple-size es xs is x = omega (arith, sized-Tuple q es, ap size-Exp is, ap (most size-Exp) x)

  pub first-size : (a : Box Exp Global) (es : Vec Exp Global) (f : Exp) → e ≡ exps.Sequence q a es → f ≡ a.value → size-Exp f < size-Exp e
  first-size a es f is x = omega (arith, sized-Sequence q a es, ap size-Exp is, ap size-Exp x)

  pub rest-size : (a : Box Exp Global) (es : Vec Exp Global) (xs : List Exp) → e ≡ exps.Sequence q a es → xs ≡ es.items → most size-Exp xs < size-Exp e
  rest-size a es xs is x = omega (arith, sized-Sequence q a es, ap size-Exp is, ap (most size-Exp) x)

  pub decs-size : (ds : Vec Dec Global) (b : Box Exp Global) (xs : List Dec) → e ≡ exps.Let q ds b → xs ≡ ds.items → most size-Dec xs < size-Exp e
  decs-size ds b xs is x = omega (arith, sized-Let q ds b, ap size-Exp is, ap (most size-Dec) x)

  pub body-size : (ds : Vec Dec Global) (b : Box Exp Global) (f : Exp) → e ≡ exps.Let q ds b → f ≡ b.value → size-Exp f < size-Exp e
  body-size ds b f is x = omega (arith, sized-Let q ds b, ap size-Exp is, ap size-Exp x)

  pub operator-size : (a : Box Exp Global) (es : Vec Exp Global) (f : Exp) → e ≡ exps.Apply q a es → f ≡ a.value → size-Exp f < size-Exp e
  operator-size a es f is x = omega (arith, sized-Apply q a es, ap size-Exp is, ap size-Exp x)

  pub arguments-size : (a : Box Exp Global) (es : Vec Exp Global) (xs : List Exp) → e ≡ exps.Apply q a es → xs ≡ es.items → most size-Exp xs < size-Exp e
  arguments-size a es xs is x = omega (arith, sized-Apply q a es, ap size-Exp is, ap (most size-Exp) x)

  pub operand-size : (r : Bool) (a : Box Exp Global) (ps : Vec Part Global) (f : Exp) → e ≡ exps.Chain q r a ps → f ≡ a.value → size-Exp f < size-Exp e
  operand-size r a ps f is x = omega (arith, sized-Chain q r a ps, ap size-Exp is, ap size-Exp x)

  pub parts-size : (r : Bool) (a : Box Exp Global) (ps : Vec Part Global) (xs : List Part) → e ≡ exps.Chain q r a ps → xs ≡ ps.items → most size-Part xs < size-Exp e
  parts-size r a ps xs is x = omega (arith, sized-Chain q r a ps, ap size-Exp is, ap (most size-Part) x)

  pub typed-size : (a : Box Exp Global) (t : Ty) (f : Exp) → e ≡ exps.Typed q a t → f ≡ a.value → size-Exp f < size-Exp e
  typed-size a t f is x = omega (arith, sized-Typed q a t, ap size-Exp is, ap size-Exp x)

  pub handled-size : (a : Box Exp Global) (rs : Vec Rule Global) (f : Exp) → e ≡ exps.Handle q a rs → f ≡ a.value → size-Exp f < size-Exp e
  handled-size a rs f is x = omega (arith, sized-Handle q a rs, ap size-Exp is, ap size-Exp x)

  pub handler-size : (a : Box Exp Global) (rs : Vec Rule Global) (xs : List Rule) → e ≡ exps.Handle q a rs → xs ≡ rs.items → most size-Rule xs < size-Exp e
  handler-size a rs xs is x = omega (arith, sized-Handle q a rs, ap size-Exp is, ap (most size-Rule) x)

  pub packet-size : (a : Box Exp Global) (f : Exp) → e ≡ exps.Raise q a → f ≡ a.value → size-Exp f < size-Exp e
  packet-size a f is x = omega (arith, sized-Raise q a, ap size-Exp is, ap size-Exp x)

  pub rules-size : (rs : Vec Rule Global) (xs : List Rule) → e ≡ exps.Fn q rs → xs ≡ rs.items → most size-Rule xs < size-Exp e
  rules-size rs xs is x = omega (arith, sized-Fn q rs, ap size-Exp is, ap (most size-Rule) x)

pub binds-size : (d : Dec) (q : Place) (as_ : TyvarSeq) (bs cs : Vec Bind Global) (xs : List Bind) → d ≡ decs.Val q as_ bs cs → xs ≡ bs.items → most size-Bind xs < size-Dec d
binds-size d q as_ bs cs xs is x = omega (arith, sized-Val q as_ bs cs, ap size-Dec is, ap (most size-Bind) x)
