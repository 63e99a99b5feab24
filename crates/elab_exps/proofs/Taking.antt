-- Parameters of functions, and the patterns of their clauses.
use Rattle.std.proofs.Common.{◌≡◌, ◌+◌, ◌==◌, ℕ, true, false, List, [], ◌∷◌, ◌++◌, map, length, get_or, refl, sym, ap, ◌∙◌, arith}
use Rattle.std.proofs.lemmas.Bool.{eqb-true, eqb-false}
use Rattle.std.proofs.lemmas.List.{length-map, map-append}
use Rattle.mlc_base.specs.declared.place.Place.{Place}
use Rattle.sml_tree.specs.BareTree as bare
use Rattle.sml_tree.specs.Derived.{first_pats, one_or_tuple_pat, tuple_pat}
use Rattle.sml_tree.specs.Derived as derived
use Rattle.sml_tree.specs.TreeOf.{clause_of, pat_of}
use Rattle.sml_tree.specs.declared.tree.Clause.{Clause}
use Rattle.sml_tree.specs.declared.tree.Pat.{Pat}
use Rattle.vid_scope.specs.Entries.{mark_of}
use Rattle.vid_scope.specs.declared.vids.VidMark.{VidMark}
use Rattle.elab_state.specs.declared.state.State.{State}
use Rattle.elab_context.specs.declared.context.Context.{Context}
use Rattle.elab_context.specs.declared.entry.Entry.TheVariants.{Single}
use Rattle.pat_elab.specs.declared.bound.BoundVariable.{BoundVariable}
use Rattle.scope_decs.specs.of_exp_forms.Within.{entries_of, within}
use Rattle.scope_decs.specs.of_exp_forms.declared.functions_made.Entered.{Entered}
use Rattle.scope_decs.proofs.of_exp_forms.Clausing.{SoFar}
use Rattle.scope_decs.specs.of_dec_forms.Telling.{with_all}
use Rattle.general_decs.proofs.of_rec_groups.Entering.{all-both}
use Rattle.elab_exps.specs.Groups.{HasVariables}
use Rattle.elab_exps.proofs.Sources.{clause-is}

-- how many patterns the first clause has

pub no-clauses : (cs : List Clause) → (length cs == 0) ≡ true → 0 ≡ length (first_pats (map clause_of cs))
no-clauses [] e = refl
no-clauses (c ∷ cs) e = let n = eqb-true (length (c ∷ cs)) 0 e in absurd (omega (arith, n))

pub some-clauses : (cs : List Clause) (d : Clause) → (length cs == 0) ≡ false → length (get_or cs 0 d).pats.items ≡ length (first_pats (map clause_of cs))
some-clauses [] d n = let k = eqb-false (length {A = Clause} []) 0 n in absurd (k refl)
some-clauses (x ∷ cs) d n = sym (ap (λ (k : derived.Clause). length k.pats) (clause-is x) ∙ length-map x.pats.items pat_of)

-- variables in scope

within-both : (C : Context) (bs cs : List BoundVariable) → within (within C bs) cs ≡ within C (bs ++ cs)
within-both C bs cs = sym (all-both C (entries_of bs) (entries_of cs)) ∙ ap (with_all C) (sym (map-append (λ (b : BoundVariable). (b.vid, Single b.ty b.number)) bs cs))

further-on : (C D E : Context) → HasVariables C D → HasVariables D E → HasVariables C E
further-on C D E h k = record {
  variables = h.variables ++ k.variables;
  is = k.is ∙ ap (λ z. within z k.variables) h.is ∙ within-both C h.variables k.variables;
}

pub record EnteredSoFar (S : State) (C : Context) (p : Place) (n : ℕ) (T : State) (D : Context) (made : Entered) : Type 0 where
  pub so_far : SoFar S C p n T D made
  pub within : HasVariables C D

pub entered_more : (S M T : State) (C D E : Context) (p : Place) (i : ℕ) (old new : Entered) → EnteredSoFar S C p i M D old → HasVariables D E → SoFar S C p (i + 1) T E new
    → EnteredSoFar S C p (i + 1) T E new
entered_more S M T C D E p i old new h k so = record { so_far = so; within = further-on C D E h.within k }

-- and left again
pub variables_left : (C D E F : Context) (m : VidMark) → HasVariables C D → E ≡ D → m ≡ mark_of C.values
    → ((C : Context) (bs : List BoundVariable) → m ≡ mark_of C.values → E ≡ within C bs → F ≡ C) → F ≡ C
variables_left C D E F m h q e left = left C h.variables e (q ∙ h.is)

-- the patterns of a clause

pub one-pat : (p : Place) (as_ : List Pat) (a : Pat) → length as_ ≡ 1 → a ≡ get_or as_ 0 a → pat_of a ≡ one_or_tuple_pat p (map pat_of as_)
one-pat p [] a n e = absurd (omega (arith, n))
one-pat p (x ∷ []) a n e = ap pat_of e
one-pat p (x ∷ y ∷ as_) a n e = absurd (omega (arith, n))

several : (p : Place) (as_ : List bare.Pat) → (length as_ ≡ 1 → ⊥) → tuple_pat p as_ ≡ one_or_tuple_pat p as_
several p [] n = refl
several p (a ∷ []) n = absurd (n refl)
several p (a ∷ b ∷ as_) n = refl

pub several-pats : (p : Place) (as_ : List Pat) → (length as_ ≡ 1 → ⊥) → tuple_pat p (map pat_of as_) ≡ one_or_tuple_pat p (map pat_of as_)
several-pats p as_ n = several p (map pat_of as_) (λ e. n (sym (length-map as_ pat_of) ∙ e))
