-- Projects over a small prelude.
use Rattle.std.proofs.Common.{◌≡◌, ℕ, List, [], ◌∷◌, codes, refl, None}
use Rattle.mlc_runs.specs.Outcome.{Outcome, ended, uncaught, going, wrong}
use Rattle.sml_tree.specs.Derived.{tuple}
use Rattle.sml_tree.specs.BareTree.{Exp, vid_exp, handle, raise, Decs, exception_dec, new_exn, same_exn, no_rules}
use Rattle.sml_tree.specs.Derived.{short}
use Rattle.core_rules.specs.Project.{Part, source, standard_basis, project_meaning}
use Rattle.mlc_names.specs.StandardWords.{word_Div, word_print, word_quot}
use Rattle.core_rules.specs.Initial.{word_Int}
use Rattle.core_rules.proofs.Words.{at, num, str, vid, v, prim, pv, ap as call, val, print, do_, clause, fun, decs, one_rule, word_A, word_E, word_f, word_id, word_x}

-- exception E val f = Prim.print fun id x = x val () = Prim.print "p"
abbrev prelude : Decs
prelude = decs (exception_dec at (new_exn at (vid word_E) None ∷ []) ∷ val (pv word_f) (prim word_print) ∷ fun word_id (clause (pv word_x ∷ []) (v word_x) ∷ []) ∷ do_ (print (str (codes "p"))) ∷ [])

abbrev runs : List Part → ℕ → Outcome
runs parts m = project_meaning prelude parts m

abbrev writes : List ℕ → Part
writes s = source (decs (do_ (call (v word_f) (str s)) ∷ []))

-- nothing at all
empty_ends : (runs [] 0).end ≡ ended
empty_ends = refl

-- what the prelude declares is seen after it, and it runs where the standard basis stands first
prelude_runs : (runs (standard_basis ∷ writes (codes "a") ∷ standard_basis ∷ writes (codes "b") ∷ []) 3).output ≡ codes "pab"
prelude_runs = refl

prelude_ends : (runs (standard_basis ∷ writes (codes "a") ∷ standard_basis ∷ writes (codes "b") ∷ []) 3).end ≡ ended
prelude_ends = refl

prelude_takes_turns : (runs (standard_basis ∷ writes (codes "a") ∷ standard_basis ∷ writes (codes "b") ∷ []) 2).end ≡ going
prelude_takes_turns = refl

-- a source sees what stands before it, and no structure `Prim`
unseen_before : (runs (writes (codes "a") ∷ standard_basis ∷ []) 9).end ≡ wrong
unseen_before = refl

hidden_prim : (runs (standard_basis ∷ source (decs (do_ (print (str (codes "a"))) ∷ [])) ∷ []) 9).end ≡ wrong
hidden_prim = refl

-- the standard basis is one, however often it stands there: exception A = E, the standard basis, raise E handle A => f "h"
one_basis : (runs (standard_basis ∷ source (decs (exception_dec at (same_exn at (vid word_A) at (short (vid word_E)) ∷ []) ∷ []))
    ∷ standard_basis ∷ source (decs (do_ (handle at (raise at (v word_E)) (one_rule (pv word_A) (call (v word_f) (str (codes "h"))) no_rules)) ∷ [])) ∷ []) 2).output ≡ codes "ph"
one_basis = refl

-- Int.quot (~7, 2) = ~3 by the structure `Int`
abbrev of_int : ℕ → Exp
of_int s = vid_exp at (record { qualifiers = word_Int ∷ []; vid = vid s })

quotients : (runs (standard_basis ∷ source (decs (val (pv word_x) (call (of_int word_quot) (tuple at (num 7 ∷ num 0 ∷ []))) ∷ [])) ∷ []) 2).end ≡ uncaught word_Div
quotients = refl
