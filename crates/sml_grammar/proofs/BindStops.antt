-- What bindings of types and exceptions could go on with.
use Rattle.std.proofs.Common.{◌≡◌, ℕ, List, [], ◌∷◌, Option, Some, None, Bool, false, ◌||◌, refl}
use Rattle.std.specs.Option.{is_some}
use Rattle.mlc_names.specs.declared.token.Reserved.TheVariants as res
use Rattle.sml_tree.specs.Terminal.{Terminal, reserved}
use Rattle.sml_grammar.specs.Terminals.{after_word}
use Rattle.sml_grammar.specs.Types.{ty_could_go_on}
use Rattle.sml_grammar.proofs.Answers.{or_split}

none-is : {A : Type 0} (x : Option A) → is_some x ≡ false → x ≡ None
none-is None e = refl
none-is (Some a) e = absurd (cc)

-- `|`, `of`, or what goes on with a type: what a datatype's constructors could go on with
abbrev pub cons_go_on : List Terminal → Bool
cons_go_on o = ty_could_go_on 0 o || (is_some (after_word res.Bar o) || is_some (after_word res.Of o))

-- and `and`, and `=` after an exception: what bindings could go on with
abbrev pub binds_go_on : List Terminal → Bool
binds_go_on o = cons_go_on o || (is_some (after_word res.And o) || is_some (after_word res.Equals o))

abbrev pub ConsStop : List Terminal → Type 0
ConsStop o = cons_go_on o ≡ false

abbrev pub BindStops : List Terminal → Type 0
BindStops o = binds_go_on o ≡ false

pub record ConsEnd (o : List Terminal) : Type 0 where
  pub ty : ty_could_go_on 0 o ≡ false
  pub bar : after_word res.Bar o ≡ None
  pub of_ : after_word res.Of o ≡ None

pub cons-end : (o : List Terminal) → ConsStop o → ConsEnd o
cons-end o h =
    let a = or_split (ty_could_go_on 0 o) (is_some (after_word res.Bar o) || is_some (after_word res.Of o)) h in
    let b = or_split (is_some (after_word res.Bar o)) (is_some (after_word res.Of o)) a.1 in
    record { ty = a.0; bar = none-is (after_word res.Bar o) b.0; of_ = none-is (after_word res.Of o) b.1 }

pub record BindsEnd (o : List Terminal) : Type 0 where
  pub cons : ConsStop o
  pub and_ : after_word res.And o ≡ None
  pub equals : after_word res.Equals o ≡ None

pub binds-end : (o : List Terminal) → BindStops o → BindsEnd o
binds-end o h =
    let a = or_split (cons_go_on o) (is_some (after_word res.And o) || is_some (after_word res.Equals o)) h in
    let b = or_split (is_some (after_word res.And o)) (is_some (after_word res.Equals o)) a.1 in
    record { cons = a.0; and_ = none-is (after_word res.And o) b.0; equals = none-is (after_word res.Equals o) b.1 }

pub stops-cons : (o : List Terminal) → BindStops o → ConsStop o
stops-cons o h = (binds-end o h).cons

pub stops-ty : (o : List Terminal) → BindStops o → ty_could_go_on 0 o ≡ false
stops-ty o h = (cons-end o (stops-cons o h)).ty

-- By computation: at the end, and where a declaration or a phrase around declarations begins or ends.

pub infix-stops : (p : ℕ) (o : List Terminal) → BindStops (reserved p res.Infix ∷ o)
infix-stops p o = refl
