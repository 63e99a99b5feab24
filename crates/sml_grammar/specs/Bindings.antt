-- How type variables, bindings of types and exceptions, and what directives and `open` name, are read. Types are at most n deep.
use Rattle.std.specs.Prelude.{ℕ, ℤ, pos, List, [], ◌∷◌, Option, Some, None, Bool, true, nat_le, if◌then◌else◌}
use Rattle.mlc_names.specs.declared.token.Reserved.TheVariants as res
use Rattle.sml_tree.specs.Terminal.{LongId, Terminal, number}
use Rattle.sml_tree.specs.declared.ident.Tyvar.{Tyvar}
use Rattle.sml_tree.specs.declared.ident.Vid.{Vid}
use Rattle.sml_tree.specs.Fixity.{Fixity}
use Rattle.sml_tree.specs.ReadTree.{Placed, TypeBind, ConBind, DataBind, ExBind, new_exn, same_exn}
use Rattle.sml_grammar.specs.Answer.{Answer, read, then_read, Turn, last, more, whole}
use Rattle.sml_grammar.specs.Terminals.{first_as, as_tyvar, as_tycon, as_long_strid, as_vid, place_at, after_word, on_some, on_taken, then_taken, word_then, separated, NoState, no_state, binds_vid, names_vid}
use Rattle.sml_grammar.specs.Types.{read_ty, maybe_ty}

-- type variables in brackets, after the bracket
abbrev pub tyvar_turn : NoState → List Terminal → Answer (Turn (List Tyvar) NoState)
tyvar_turn s i =
    then_taken (first_as as_tyvar i)
    (λ a m. on_some (after_word res.Comma m) (λ o. read (more (λ as_. a.it ∷ as_) s) o) (word_then res.RightParen (λ o. read (last (a.it ∷ [])) o) m))

-- a bracket with no type variable after it isn't the bracket of a tyvarseq
abbrev pub bracketed_tyvars : List Terminal → List Terminal → Answer (List Tyvar)
bracketed_tyvars i m = on_taken (first_as as_tyvar m) (λ a o. whole tyvar_turn no_state m) (read [] i)

abbrev pub read_tyvars : List Terminal → Answer (List Tyvar)
read_tyvars i = on_taken (first_as as_tyvar i) (λ a o. read (a.it ∷ []) o) (on_some (after_word res.LeftParen i) (bracketed_tyvars i) (read [] i))

-- the place of type variables that begin at i, in the declaration at p
abbrev pub tyvars_place : ℕ → List Terminal → List Tyvar → ℕ
tyvars_place p i [] = p
tyvars_place p i (a ∷ as_) = place_at i

-- type variables, a type constructor and `=`, and then what g reads
abbrev pub bound_tycon : {A : Type 0} → (List Tyvar → ℕ → List Terminal → Answer A) → List Terminal → Answer A
bound_tycon g i = then_read (read_tyvars i) (λ as_ m. then_taken (first_as as_tycon m) (λ t k. word_then res.Equals (g as_ t.it) k))

abbrev pub type_bind_turn : ℕ → NoState → List Terminal → Answer (Turn (List TypeBind) NoState)
type_bind_turn n s i =
    bound_tycon (λ as_ t k. then_read (read_ty n 0 k) (λ a o.
    separated (after_word res.And o) (λ bs. record { place = place_at i; tyvars = as_; tycon = t; ty = a } ∷ bs)
    (record { place = place_at i; tyvars = as_; tycon = t; ty = a } ∷ []) s o)) i

abbrev pub read_type_binds : ℕ → List Terminal → Answer (List TypeBind)
read_type_binds n i = whole (type_bind_turn n) no_state i

abbrev pub con_turn : ℕ → Fixity → NoState → List Terminal → Answer (Turn (List ConBind) NoState)
con_turn n f s i =
    then_taken (binds_vid f i) (λ v m. then_read (maybe_ty n (after_word res.Of m) m) (λ t o.
    separated (after_word res.Bar o) (λ cs. record { place = v.place; vid = v.it; of_ty = t } ∷ cs)
    (record { place = v.place; vid = v.it; of_ty = t } ∷ []) s o))

abbrev pub read_cons : ℕ → Fixity → List Terminal → Answer (List ConBind)
read_cons n f i = whole (con_turn n f) no_state i

abbrev pub data_bind_turn : ℕ → Fixity → NoState → List Terminal → Answer (Turn (List DataBind) NoState)
data_bind_turn n f s i =
    bound_tycon (λ as_ t k. then_read (read_cons n f k) (λ cs o.
    separated (after_word res.And o) (λ bs. record { place = place_at i; tyvars = as_; tycon = t; cons = cs } ∷ bs)
    (record { place = place_at i; tyvars = as_; tycon = t; cons = cs } ∷ []) s o)) i

abbrev pub read_data_binds : ℕ → Fixity → List Terminal → Answer (List DataBind)
read_data_binds n f i = whole (data_bind_turn n f) no_state i

-- after the exception's name
abbrev pub ex_bind_rest : ℕ → Fixity → Placed Vid → List Terminal → Answer ExBind
ex_bind_rest n f v m =
    on_some (after_word res.Equals m) (λ k. then_taken (names_vid f k) (λ x o. read (same_exn v.place v.it x) o))
    (then_read (maybe_ty n (after_word res.Of m) m) (λ t o. read (new_exn v.place v.it t) o))

abbrev pub ex_bind_turn : ℕ → Fixity → NoState → List Terminal → Answer (Turn (List ExBind) NoState)
ex_bind_turn n f s i =
    then_taken (binds_vid f i) (λ v m. then_read (ex_bind_rest n f v m) (λ b o. separated (after_word res.And o) (λ bs. b ∷ bs) (b ∷ []) s o))

abbrev pub read_ex_binds : ℕ → Fixity → List Terminal → Answer (List ExBind)
read_ex_binds n f i = whole (ex_bind_turn n f) no_state i

abbrev pub put_more : {A : Type 0} → Option A → List Terminal → Option (List Terminal)
put_more (Some a) o = Some o
put_more None o = None

-- structures' identifiers, one or more
abbrev pub strid_turn : NoState → List Terminal → Answer (Turn (List (Placed LongId)) NoState)
strid_turn s i = then_taken (first_as as_long_strid i) (λ x o. separated (put_more (first_as as_long_strid o) o) (λ xs. x ∷ xs) (x ∷ []) s o)

abbrev pub read_strids : List Terminal → Answer (List (Placed LongId))
read_strids i = whole strid_turn no_state i

-- the identifiers of a directive, one or more
abbrev pub vid_turn : NoState → List Terminal → Answer (Turn (List ℕ) NoState)
vid_turn s i = then_taken (first_as as_vid i) (λ x o. separated (put_more (first_as as_vid o) o) (λ xs. x.it ∷ xs) (x.it ∷ []) s o)

abbrev pub read_vids : List Terminal → Answer (List ℕ)
read_vids i = whole vid_turn no_state i

-- a directive's precedence, 0 where none is written
abbrev pub digit : ℤ → Bool → Option ℕ
digit (pos d) true = if nat_le d 9 then Some d else None
digit _ _ = None

abbrev pub as_digit : Terminal → Option ℕ
as_digit (number p n plain) = digit n plain
as_digit _ = None

-- a precedence, if there is one, and then what g reads
abbrev pub precedence_then : {A : Type 0} → (ℕ → List Terminal → Answer A) → List Terminal → Answer A
precedence_then g i = on_taken (first_as as_digit i) (λ d o. g d.it o) (g 0 i)
