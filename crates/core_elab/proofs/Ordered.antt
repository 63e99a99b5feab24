-- A record that is written in another order than that of its labels, and a program that resolves it; by computation both do the same.
use Rattle.std.proofs.Common.{◌≡◌, ℕ, false, [], ◌∷◌, refl}
use Rattle.std.specs.Prelude.{pos}
use Rattle.mlc_names.specs.StandardWords.{word_quot}
use Rattle.mlc_names.specs.declared.label.Label.TheVariants.{Number, Word}
use Rattle.mlc_base.specs.declared.place.Place.{Place}
use Rattle.mlc_prims.specs.declared.basis.BasisPrimitive.TheVariants.{Quotient}
use Rattle.mlc_prims.specs.LitOf.{int}
use Rattle.ty_core.specs.Types.{Typ, var}
use Rattle.core_rules.specs.of_sml_tree.Terminal as term
use Rattle.core_rules.specs.of_sml_tree.Derived.{short}
use Rattle.core_rules.specs.of_sml_tree.declared.ident.Vid.TheVariants.{Named}
use Rattle.core_rules.specs.of_sml_tree.BareTree.{LongIdAt}
use Rattle.core_rules.specs.of_sml_tree.BareTree as bare
use Rattle.core_rules.specs.Initial.{word_Int}
use Rattle.core_rules.specs.Meaning.{meaning}
use Rattle.ir_poly.specs.Prog as prog
use Rattle.ir_poly.specs.ProgMeaning.{run}
use Rattle.core_elab.specs.Scopes.{Scope, initial_scope}
use Rattle.core_elab.specs.Resolves.{use_primitive, wild_to, called_vid, constant_exp_to, vid_to, fields_exp_to, app_to, no_fields_to, field_to, DecsTo, no_decs_to, dec_to, val_to, open_to, no_binds_to, bind_to, no_funs_to, no_heads_to}
use Rattle.core_elab.specs.Laws.{initial_identifiers}

abbrev at : ℕ → Place
at n = record { file = 0; byte = n }

abbrev p : Place
p = at 0

-- the labels a and b
abbrev a : ℕ
a = 300

abbrev b : ℕ
b = 301

abbrev one : bare.Exp
one = bare.constant_exp p (term.int (pos 1))

-- quot (1, 1), with a turn at the place n
abbrev quot : ℕ → bare.Exp
quot n = bare.app (at n) (bare.vid_exp p (short (Named word_quot))) (bare.fields_exp p (bare.exp_field (Number 1) one (bare.exp_field (Number 2) one bare.no_exp_fields)))

abbrev two : bare.Exp → bare.Exp → bare.Exp
two e d = bare.fields_exp p (bare.exp_field (Word b) e (bare.exp_field (Word a) d bare.no_exp_fields))

abbrev val : bare.Exp → bare.Decs → bare.Decs
val e ds = bare.dec (bare.val_dec p p [] (bare.bind p (bare.wild_pat p) e bare.no_binds) bare.no_binds) ds

-- open Int; val _ = {b = quot (1, 1), a = quot (1, 1)}
abbrev source : bare.Decs
source = bare.dec (bare.open_dec p (record { place = p; long = record { qualifiers = []; id = word_Int } } ∷ []))
    (val (two (quot 1) (quot 2)) bare.no_decs)

abbrev t : Typ
t = var 0

abbrev one_to : prog.Exp
one_to = prog.constant_exp (int (pos 1)) t

abbrev quot_to : ℕ → prog.Exp
quot_to n = prog.app_exp (at n) t (prog.prim_exp Quotient [] t)
    (prog.fields_exp t (prog.a_field (Number 1) one_to (prog.a_field (Number 2) one_to prog.no_fields)))

abbrev program : prog.Decs
program = prog.val_dec [] (prog.a_bind p false prog.any_pat t
    (prog.fields_exp t (prog.a_field (Word b) (quot_to 1) (prog.a_field (Word a) (quot_to 2) prog.no_fields))) prog.no_binds) prog.no_funs prog.no_decs

resolves : (r : Scope) × DecsTo initial_scope 0 source program r 0
resolves = (
  _,
  dec_to (open_to p refl)
      (dec_to (val_to p p [] no_heads_to no_funs_to (bind_to p p false t (wild_to p)
      (fields_exp_to p t (field_to (Word b) (app_to (at 1) t (called_vid _ _) (vid_to p refl (use_primitive Quotient [] t))
      (fields_exp_to p t (field_to (Number 1) (constant_exp_to p _ t) (field_to (Number 2) (constant_exp_to p _ t) no_fields_to))))
      (field_to (Word a) (app_to (at 2) t (called_vid _ _) (vid_to p refl (use_primitive Quotient [] t))
      (fields_exp_to p t (field_to (Number 1) (constant_exp_to p _ t) (field_to (Number 2) (constant_exp_to p _ t) no_fields_to)))) no_fields_to))) no_binds_to)) no_decs_to),
)

-- the turns are taken in the order written
source-turns : (meaning source 9).turns ≡ at 1 ∷ at 2 ∷ []
source-turns = refl

program-turns : (run initial_identifiers program 9).turns ≡ at 1 ∷ at 2 ∷ []
program-turns = refl
