-- How types are read. `ty n l` reads a type of a level of at least l that is at most n deep.
use Rattle.std.specs.Prelude.{ℕ, zero, suc, List, ◌∷◌, Option, Some, None, Bool, true, false, nat_le, if◌then◌else◌}
use Rattle.mlc_names.specs.declared.token.Reserved.TheVariants as res
use Rattle.sml_tree.specs.Terminal.{LongId, Terminal, reserved, type_var}
use Rattle.sml_tree.specs.declared.ident.Tyvar.{Tyvar}
use Rattle.sml_tree.specs.ReadTree.{Placed, Ty, var_ty, record_ty, con_ty, product_ty, arrow_ty, paren_ty, Tys, no_tys, ty, TyFields, no_ty_fields, ty_field, ty_place}
use Rattle.sml_tree.specs.Depth.{depth_ty}
use Rattle.sml_grammar.specs.Answer.{Answer, bad, deep, read, then_read, deep_if, Turn, last, more, whole}
use Rattle.sml_grammar.specs.Terminals.{Taken, first_as, as_label, as_long_tycon, after_word, after_star, on_some, on_taken, then_taken, word_then, separated, NoState, no_state}

-- what a type begins with
pub data TyStart : Type 0 where
  var_start : ℕ → Tyvar → List Terminal → TyStart
  con_start : Placed LongId → List Terminal → TyStart
  brace_start : ℕ → List Terminal → TyStart
  paren_start : ℕ → List Terminal → TyStart
  no_start : TyStart

abbrev pub con_if : Option (Taken (Placed LongId)) → TyStart
con_if None = no_start
con_if (Some x) = con_start x.it x.rest

abbrev pub ty_start : List Terminal → TyStart
ty_start (type_var p a ∷ o) = var_start p a o
ty_start (reserved p res.LeftBrace ∷ o) = brace_start p o
ty_start (reserved p res.LeftParen ∷ o) = paren_start p o
ty_start i = con_if (first_as as_long_tycon i)

abbrev pub is_ty_start : TyStart → Bool
is_ty_start (var_start p a o) = true
is_ty_start (con_start c o) = true
is_ty_start (brace_start p o) = true
is_ty_start (paren_start p o) = true
is_ty_start no_start = false

abbrev pub begins_ty : List Terminal → Bool
begins_ty i = is_ty_start (ty_start i)

abbrev pub TyReader : Type 0
TyReader = ℕ → List Terminal → Answer Ty

abbrev pub ty_field_turn : TyReader → NoState → List Terminal → Answer (Turn TyFields NoState)
ty_field_turn self s i =
    then_taken (first_as as_label i)
    (λ l m. word_then res.Colon (λ k. then_read (self 0 k) (λ t o. separated (after_word res.Comma o) (ty_field l.it t) (ty_field l.it t no_ty_fields) s o)) m)

abbrev pub ty_commas_turn : TyReader → NoState → List Terminal → Answer (Turn Tys NoState)
ty_commas_turn self s i = then_read (self 0 i) (λ t o. separated (after_word res.Comma o) (ty t) (ty t no_tys) s o)

abbrev pub star_turn : TyReader → NoState → List Terminal → Answer (Turn Tys NoState)
star_turn self s i = then_read (self 2 i) (λ t o. separated (after_star o) (ty t) (ty t no_tys) s o)

abbrev pub arrow_turn : TyReader → NoState → List Terminal → Answer (Turn Tys NoState)
arrow_turn self s i = then_read (self 1 i) (λ t o. separated (after_word res.Arrow o) (ty t) (ty t no_tys) s o)

-- after `{`
abbrev pub brace_ty : TyReader → ℕ → List Terminal → Answer Ty
brace_ty self p i =
    on_some (after_word res.RightBrace i) (λ o. read (record_ty p no_ty_fields) o)
    (then_read (whole (ty_field_turn self) no_state i) (λ fs m. word_then res.RightBrace (λ o. read (record_ty p fs) o) m))

-- after `(t,`
abbrev pub arguments : TyReader → ℕ → Ty → List Terminal → Answer Ty
arguments self p t i =
    then_read (whole (ty_commas_turn self) no_state i)
    (λ ts m. word_then res.RightParen (λ k. then_taken (first_as as_long_tycon k) (λ c o. read (con_ty p (ty t ts) c) o)) m)

-- after `(t`
abbrev pub paren_rest : TyReader → ℕ → Ty → List Terminal → Answer Ty
paren_rest self p t i = on_some (after_word res.Comma i) (arguments self p t) (word_then res.RightParen (λ o. read (paren_ty p t) o) i)

abbrev pub ty_atom : TyReader → TyStart → Answer Ty
ty_atom self (var_start p a o) = read (var_ty p a) o
ty_atom self (con_start c o) = read (con_ty c.place no_tys c) o
ty_atom self (brace_start p i) = brace_ty self p i
ty_atom self (paren_start p i) = then_read (self 0 i) (paren_rest self p)
ty_atom self no_start = bad

-- type constructors after their one argument; the argument is one only if there is room for it
abbrev pub postfix_turn : ℕ → Ty → List Terminal → Answer (Turn Ty Ty)
postfix_turn n a i =
    on_taken (first_as as_long_tycon i) (λ c o. if nat_le (depth_ty a) n then read (more (λ b. b) (con_ty (ty_place a) (ty a no_tys) c)) o else deep)
    (read (last a) i)

-- after the first operand
abbrev pub product_rest : TyReader → ℕ → ℕ → Ty → List Terminal → Answer Ty
product_rest self n l a i =
    if nat_le l 1
    then on_some (after_star i)
    (λ m. if nat_le (depth_ty a) n then then_read (whole (star_turn self) no_state m) (λ ts o. read (product_ty a ts) o) else deep) (read a i)
    else read a i

abbrev pub arrow_rest : TyReader → ℕ → ℕ → Ty → List Terminal → Answer Ty
arrow_rest self n l a i =
    if nat_le l 0
    then on_some (after_word res.Arrow i)
    (λ m. if nat_le (depth_ty a) n then then_read (whole (arrow_turn self) no_state m) (λ ts o. read (arrow_ty a ts) o) else deep) (read a i)
    else read a i

abbrev pub ty_from : TyReader → ℕ → ℕ → List Terminal → Answer Ty
ty_from self n l i =
    then_read (ty_atom self (ty_start i)) (λ a m. then_read (whole (postfix_turn n) a m) (λ b k. then_read (product_rest self n l b k) (arrow_rest self n l)))

unfoldable pub read_ty : ℕ → TyReader
read_ty zero l i = deep_if (begins_ty i)
read_ty (suc n) l i = ty_from (read_ty n) n l i

-- [: ty] and [of ty]
abbrev pub maybe_ty : ℕ → Option (List Terminal) → List Terminal → Answer (Option Ty)
maybe_ty n (Some m) i = then_read (read_ty n 0 m) (λ t o. read (Some t) o)
maybe_ty n None i = read None i

-- a type that has to have level l or more, and ended before these terminals, could go on with them
abbrev pub ty_could_go_on : ℕ → List Terminal → Bool
ty_could_go_on l i = on_taken (first_as as_long_tycon i) (λ c o. true)
    (on_some (after_star i) (λ o. nat_le l 1) (on_some (after_word res.Arrow i) (λ o. nat_le l 0) false))
