-- What patterns, heads and bindings begin with, where type variables, `rec` or a datatype's replication may stand.
use Rattle.std.proofs.Common.{◌≡◌, ℕ, List, [], ◌∷◌, Option, Some, None, true, false, refl, sym, ap, ◌∙◌, nat_eq}
use Rattle.std.proofs.lemmas.Bool.{eq-eqb}
use Rattle.mlc_names.specs.declared.token.Reserved.TheVariants as res
use Rattle.sml_tree.specs.declared.ident.Tyvar.{Tyvar}
use Rattle.sml_tree.specs.declared.ident.Vid.{Vid}
use Rattle.sml_tree.specs.declared.ident.Vid.TheVariants.{Named, Equals, Fresh}
use Rattle.sml_tree.specs.Terminal.{LongVid, Terminal, reserved, is_number, is_constant, alpha_vid, symbol_vid, star_vid, long_alpha_vid, long_symbol_vid, long_star_vid, IsTycon, alpha_tycon, symbol_tycon}
use Rattle.sml_tree.specs.Fixity.{Fixity, is_vid}
use Rattle.sml_tree.specs.ReadTree.{Placed, Ty, Pat, Head, head_vid, head_count, ConBind, DataBind, Binds, Funs, Clauses}
use Rattle.sml_tree.specs.Grammar.{MaybeTy, without_ty, with_ty, BindsVid, plain_vid, op_vid, NamesVid, plain_long, qualified, op_long, AtPat, of_wild, of_pat_constant, of_pat_vid, of_no_pat_row, of_pat_row, of_unit_pat, of_tuple_pat, of_nil_pat, of_list_pat, of_paren_pat, Pattern, of_atpat, of_con_pat, of_chain_pat, of_typed_pat, of_as_pat, ReadsHead, of_prefix_head, of_infix_head, of_bracket_head, Tyvars, no_tyvars, one_tyvar, tyvars_in_brackets, ConBinds, last_con, more_cons, OneDataBind, data_bind, DataBinds, last_data_bind, more_data_binds, ReadsBinds, of_last_bind, of_bind, of_rec, ReadsFuns, of_last_fun, of_fun_and, ReadsClauses, of_last_clause, of_clause}
use Rattle.sml_grammar.specs.Answer.{read}
use Rattle.sml_grammar.specs.Terminals.{first_as, as_tyvar, after_word, infix_vid}
use Rattle.sml_grammar.specs.Patterns.{begins_pat}
use Rattle.sml_grammar.specs.Bindings.{read_tyvars}
use Rattle.sml_grammar.specs.Expressions.{Shape, shape_of, agrees, replicated}
use Rattle.sml_grammar.proofs.PatStarts.{begins-no_word}
use Rattle.sml_grammar.proofs.PatShapes.{pat-begins}

-- no type variables are here
record NoTyvars (i : List Terminal) : Type 0 where
  all : read_tyvars i ≡ read [] i
  first : first_as as_tyvar i ≡ None

names-no_tyvars : {f : Fixity} {i o : List Terminal} {p : ℕ} {x : Placed LongVid} → NamesVid f i p x o → NoTyvars i
names-no_tyvars (plain_long (alpha_vid p x) e) = record { all = refl; first = refl }
names-no_tyvars (plain_long (symbol_vid p x) e) = record { all = refl; first = refl }
names-no_tyvars (plain_long (star_vid p x) e) = record { all = refl; first = refl }
names-no_tyvars (qualified (long_alpha_vid p qs x)) = record { all = refl; first = refl }
names-no_tyvars (qualified (long_symbol_vid p qs x)) = record { all = refl; first = refl }
names-no_tyvars (qualified (long_star_vid p qs x)) = record { all = refl; first = refl }
names-no_tyvars (op_long p v) = record { all = refl; first = refl }

binds-no_tyvars : {f : Fixity} {i o : List Terminal} {p : ℕ} {v : Placed Vid} → BindsVid f i p v o → NoTyvars i
binds-no_tyvars (plain_vid (alpha_vid p x) e) = record { all = refl; first = refl }
binds-no_tyvars (plain_vid (symbol_vid p x) e) = record { all = refl; first = refl }
binds-no_tyvars (plain_vid (star_vid p x) e) = record { all = refl; first = refl }
binds-no_tyvars (op_vid p v) = record { all = refl; first = refl }

-- after a bracket, a type variable would begin type variables
after-paren : (p : ℕ) {i : List Terminal} → NoTyvars i → NoTyvars (reserved p res.LeftParen ∷ i)
after-paren p w = record { all = let h = w.first in rw h refl; first = refl }

mutual
  atpat-no_tyvars : {f : Fixity} {i o : List Terminal} {a : Pat} → AtPat f i a o → NoTyvars i
  atpat-no_tyvars (of_wild p) = record { all = refl; first = refl }
  atpat-no_tyvars (of_pat_constant (is_number p n b)) = record { all = refl; first = refl }
  atpat-no_tyvars (of_pat_constant (is_constant p c)) = record { all = refl; first = refl }
  atpat-no_tyvars (of_pat_vid v) = names-no_tyvars v
  atpat-no_tyvars (of_no_pat_row p q) = record { all = refl; first = refl }
  atpat-no_tyvars (of_pat_row p q d) = record { all = refl; first = refl }
  atpat-no_tyvars (of_unit_pat p q) = record { all = refl; first = refl }
  atpat-no_tyvars (of_tuple_pat p q r d ds) = after-paren p (pat-no_tyvars d)
  atpat-no_tyvars (of_nil_pat p q) = record { all = refl; first = refl }
  atpat-no_tyvars (of_list_pat p q d) = record { all = refl; first = refl }
  atpat-no_tyvars (of_paren_pat p q d) = after-paren p (pat-no_tyvars d)

  pat-no_tyvars : {f : Fixity} {i o : List Terminal} {a : Pat} → Pattern f i a o → NoTyvars i
  pat-no_tyvars (of_atpat d) = atpat-no_tyvars d
  pat-no_tyvars (of_con_pat v d) = names-no_tyvars v
  pat-no_tyvars (of_chain_pat l r lt d fs) = pat-no_tyvars d
  pat-no_tyvars (of_typed_pat p le d t) = pat-no_tyvars d
  pat-no_tyvars (of_as_pat q v t d) = binds-no_tyvars v

head-no_tyvars : {f : Fixity} {i o : List Terminal} {h : Head} → ReadsHead f i h o → NoTyvars i
head-no_tyvars (of_prefix_head v d ds) = binds-no_tyvars v
head-no_tyvars (of_infix_head d x e) = atpat-no_tyvars d
head-no_tyvars (of_bracket_head p q d x e ds) = after-paren p (atpat-no_tyvars d)

-- a pattern does not begin with `rec`
pub begins_pat-no_rec : (f : Fixity) (i : List Terminal) → begins_pat f i ≡ true → after_word res.Rec i ≡ None
begins_pat-no_rec f i h = begins-no_word f res.Rec i (λ p o. refl) h

pub pat-no_rec : {f : Fixity} {i o : List Terminal} {a : Pat} → Pattern f i a o → after_word res.Rec i ≡ None
pat-no_rec {f} {i} d = begins_pat-no_rec f i (pat-begins d)

pub binds-tyvars : {f : Fixity} {i o : List Terminal} {bs : Binds} → ReadsBinds f i bs o → read_tyvars i ≡ read [] i
binds-tyvars (of_last_bind p a d) = (pat-no_tyvars a).all
binds-tyvars (of_bind p q a d b) = (pat-no_tyvars a).all
binds-tyvars (of_rec p b) = refl

clauses-tyvars : {f : Fixity} {v : Vid} {n : ℕ} {i o : List Terminal} {cs : Clauses} → ReadsClauses f v n i cs o → read_tyvars i ≡ read [] i
clauses-tyvars (of_last_clause p h a b t d) = (head-no_tyvars h).all
clauses-tyvars (of_clause p q h a b t e d c) = (head-no_tyvars h).all

pub funs-tyvars : {f : Fixity} {i o : List Terminal} {fs : Funs} → ReadsFuns f i fs o → read_tyvars i ≡ read [] i
funs-tyvars (of_last_fun v n c) = clauses-tyvars c
funs-tyvars (of_fun_and v n p c d) = clauses-tyvars c

-- A datatype that is bound isn't replicated.

pub binds-no_datatype : {f : Fixity} {i o : List Terminal} {p : ℕ} {v : Placed Vid} → BindsVid f i p v o → after_word res.Datatype i ≡ None
binds-no_datatype (plain_vid (alpha_vid p x) e) = refl
binds-no_datatype (plain_vid (symbol_vid p x) e) = refl
binds-no_datatype (plain_vid (star_vid p x) e) = refl
binds-no_datatype (op_vid p v) = refl

cons-no_datatype : {f : Fixity} {i o : List Terminal} {cs : List ConBind} → ConBinds f i cs o → after_word res.Datatype i ≡ None
cons-no_datatype (last_con v s) = binds-no_datatype v
cons-no_datatype (more_cons q v s d) = binds-no_datatype v

pub bind-not_replicated : {f : Fixity} {i o : List Terminal} {b : DataBind} → OneDataBind f i b o → replicated i ≡ None
bind-not_replicated (data_bind {m} r at as_ tycon cons) = go as_ tycon (cons-no_datatype cons)
  where
    go : {i : List Terminal} {t : Terminal} {ys : List Tyvar} {q x : ℕ} → Tyvars i ys (t ∷ reserved r res.Equals ∷ m) → IsTycon t q x → after_word res.Datatype m ≡ None → replicated i ≡ None
    go no_tyvars (alpha_tycon p x) h = rw h refl
    go no_tyvars (symbol_tycon p x) h = rw h refl
    go (one_tyvar p a) c h = refl
    go (tyvars_in_brackets p d) c h = refl

pub data-not_replicated : {f : Fixity} {i o : List Terminal} {bs : List DataBind} → DataBinds f i bs o → replicated i ≡ None
data-not_replicated (last_data_bind d) = bind-not_replicated d
data-not_replicated (more_data_binds p d ds) = bind-not_replicated d

-- Clauses.

pub is_vid-self : (v : Vid) → is_vid v v ≡ true
is_vid-self (Named x) = eq-eqb x x refl
is_vid-self (Fresh x) = eq-eqb x x refl
is_vid-self Equals = refl

-- heads of this name and count agree
abbrev pub Agree : Option Shape → Vid → ℕ → Type 0
Agree s v c = (h : Head) → head_vid h ≡ v → head_count h ≡ c → agrees s h ≡ true

pub agree-none : (v : Vid) (c : ℕ) → Agree None v c
agree-none v c h a b = refl

pub agree-some : (v : Vid) (c : ℕ) (g : Head) → head_vid g ≡ v → head_count g ≡ c → Agree (Some (shape_of g)) v c
agree-some v c g a b h a' b' =
    let x : is_vid (head_vid h) (head_vid g) ≡ true = ap (λ z. is_vid z (head_vid g)) a' ∙ ap (is_vid v) a ∙ is_vid-self v in
    let y : nat_eq (head_count h) (head_count g) ≡ true = eq-eqb (head_count h) (head_count g) (b' ∙ sym b) in
    rw (x, y) refl

-- what follows a head
pub maybe-head : (f : Fixity) {m o : List Terminal} {s : Option Ty} → MaybeTy m s o → begins_pat f o ≡ false → infix_vid f o ≡ None → (begins_pat f m ≡ false) × (infix_vid f m ≡ None)
maybe-head f without_ty a b = (a, b)
maybe-head f (with_ty p d) a b = (refl, refl)
