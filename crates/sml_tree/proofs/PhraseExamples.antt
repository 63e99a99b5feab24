-- Walks over small trees.
use Rattle.std.proofs.Common.{◌≡◌, ℕ, [], ◌∷◌, Bool, true, false, Some, refl}
use Rattle.mlc_base.specs.declared.place.Place.{Place}
use Rattle.sml_tree.specs.declared.ident.Tyvar.{Tyvar}
use Rattle.sml_tree.specs.declared.ident.Vid.TheVariants.{Named}
use Rattle.sml_tree.specs.BareTree.{var, Pat, vid_pat, typed_pat, Exp, vid_exp, app, typed, let_in, Dec, val_dec, datatype_dec, exception_dec, new_exn, no_binds, bind, no_decs, dec}
use Rattle.sml_tree.specs.Phrases as phrases
use Rattle.sml_tree.specs.Phrases.{Phrase, parts, never, has_scope, inside_until, unguarded, count, TyvarAt}

abbrev at : ℕ → Place
at p = record { file = 0; byte = p }

abbrev tyvar : ℕ → Tyvar
tyvar a = record { name = a; equality = false }

abbrev name : ℕ → ℕ → Exp
name p x = vid_exp (at p) (record { qualifiers = []; vid = Named x })

abbrev variable : ℕ → ℕ → Pat
variable p x = vid_pat (at p) (record { qualifiers = []; vid = Named x })

-- f a, with f the name 1 and a the name 2
abbrev applied : Exp
applied = app (at 0) (name 0 1) (name 2 2)

three : phrases.phrases (phrases.exp applied) ≡ phrases.exp applied ∷ phrases.exp (name 0 1) ∷ phrases.exp (name 2 2) ∷ []
three = refl

two_parts : parts (phrases.exp applied) ≡ phrases.exp (name 0 1) ∷ phrases.exp (name 2 2) ∷ []
two_parts = refl

-- val y : 'a = z, with 'a the name 5
abbrev inner : Dec
inner = val_dec (at 10) (at 10) [] (bind (at 14) (typed_pat (at 14) (variable 14 3) (var (at 18) (tyvar 5))) (name 23 4) no_binds) no_binds

-- val x = let val y : 'a = z in y : 'b end, with 'b the name 6
abbrev outer : Dec
outer = val_dec (at 0) (at 0) [] (bind (at 4) (variable 4 7) (let_in (at 8) (dec inner no_decs) (typed (at 30) (name 30 3) (var (at 34) (tyvar 6)))) no_binds) no_binds

of_inner : unguarded inner ≡ record { place = at 18; tyvar = tyvar 5 } ∷ []
of_inner = refl

of_outer : unguarded outer ≡ record { place = at 34; tyvar = tyvar 6 } ∷ []
of_outer = refl

-- datatype 'a t = C of 'a, and exception E of 'a, in a declaration: the exception's alone is its own
abbrev boxes : Dec
boxes = datatype_dec (at 40) (record { place = at 49; tyvars = tyvar 5 ∷ []; tycon = 8; cons = record { place = at 56; vid = Named 9; of_ty = Some (var (at 61) (tyvar 5)) } ∷ [] } ∷ [])

abbrev raises : Dec
raises = exception_dec (at 70) (new_exn (at 80) (Named 10) (Some (var (at 85) (tyvar 5))) ∷ [])

abbrev around : Dec
around = val_dec (at 0) (at 0) [] (bind (at 4) (variable 4 7) (let_in (at 8) (dec boxes (dec raises no_decs)) (name 90 3)) no_binds) no_binds

of_exception : unguarded around ≡ record { place = at 85; tyvar = tyvar 5 } ∷ []
of_exception = refl

abbrev is_exp : Phrase → Bool
is_exp (phrases.exp e) = true
is_exp (phrases.pat a) = false
is_exp (phrases.ty t) = false
is_exp (phrases.dec d) = false
is_exp (phrases.rule p a e) = false
is_exp (phrases.bind p a e) = false
is_exp (phrases.type_bind b) = false
is_exp (phrases.data_bind b) = false
is_exp (phrases.con_bind c) = false
is_exp (phrases.ex_bind b) = false

-- let .. end, z, y : 'b and y
four_expressions : count is_exp (phrases.phrases (phrases.dec outer)) ≡ 4
four_expressions = refl
