-- Declarations behind which the state goes on.
use Rattle.std.proofs.Common.{◌≡◌, ◌↔◌, ◌⊎◌, ◌&&◌, Bool, true, false, IsTrue, List, map, inl, inr, refl, sym, subst, ◌∙◌}
use Rattle.sml_tree.specs.BareTree as bare
use Rattle.prog_tree.specs.TreeOf.{dec_of, decs_of}
use Rattle.prog_tree.specs.declared.tree.Dec.{Dec}
use Rattle.elab_state.specs.declared.state.State.{State}
use Rattle.elab_steps.specs.Growing.{Grows}
use Rattle.elab_steps.proofs.Growing.{comes_before, grows_on}
use Rattle.elab_context.specs.Numbered.{IsNumbered}
use Rattle.elab_context.specs.declared.context.Context.{Context}
use Rattle.elab_context.proofs.Reading.{context_later}
use Rattle.run_end.specs.of_dec_forms.Bringing.{ElaborateWith}
use Rattle.run_end.specs.of_dec_forms.Decs.{ElaboratesDecs, IsDecs}
use Rattle.run_end.specs.of_dec_forms.declared.brought.Brought.{Brought}
use Rattle.elab_exps.specs.Decs.{AreDeclared}

module _ (S T U : State) (C D : Context) (ds : List bare.Dec) (g : Grows T U) (e : U.next ≡ T.next) where
  decs-later : (decs : List Dec) → IsDecs S C ds T D decs → IsDecs S C ds U D decs
  decs-later decs h = record {
    grows = grows_on S T U h.grows g;
    gives = λ W c A t.
        subst (ElaboratesDecs W A S.next ds (decs_of (map (dec_of W.reading) decs)) D) (sym e) (h.gives W (comes_before T U W g c) A t);
  }

  -- what was said of declarations stays, where no further variables of the program were made
  pub declared-later : (old new : List Dec) (a b : Brought) → AreDeclared S C ds T D old new a b → AreDeclared S C ds U D old new a b
  declared-later old new a b h = let i = h.bring in record {
    decs = h.decs;
    all = h.all;
    bring = record {
      values = i.values;
      types = i.types;
      all_values = i.all_values;
      all_types = i.all_types;
      adds = i.adds;
      grows = grows_on S T U i.grows g;
      numbered = λ n. subst (λ k. IsNumbered k D) (sym e) (i.numbered n);
      gives = λ n W c A t.
          subst (ElaborateWith W A S.next ds (decs_of (map (dec_of W.reading) h.decs)) D i.values i.types) (sym e) (i.gives n W (comes_before T U W g c) A t);
      plain = λ n. decs-later h.decs (i.plain n);
    };
    stands = record { context = context_later T U D g h.stands.context; level = g.level ∙ h.stands.level };
    schemes = h.schemes;
  }

-- what two answers say together
pub both-answer : (a b : Bool) (P Q R : Type 0) → IsTrue a ↔ P → (b ≡ true → Q) → (b ≡ false → R) → ((a && b) ≡ true → P × Q) × ((a && b) ≡ false → (P → ⊥) ⊎ R)
both-answer true true P Q R h q r = ((λ e. (h.0 refl, q refl)), (λ e. cc))
both-answer true false P Q R h q r = ((λ e. cc), (λ e. inr (r refl)))
both-answer false b P Q R h q r = ((λ e. cc), (λ e. inl (λ p. let t = h.1 p in cc)))
