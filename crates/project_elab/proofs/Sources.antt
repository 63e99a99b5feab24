-- The standard basis alone, and one source more.
use Rattle.std.proofs.Common.{◌≡◌, ◌+◌, List, [], ◌∷◌, ◌++◌, map, sym, ap, subst, ◌∙◌, arith}
use Rattle.std.specs.List.{AllByRecursion}
use Rattle.std.proofs.lemmas.List.{map-append}
use Rattle.std.proofs.lemmas.List.Sums.{sum_by-cons, sum_by_push}
use Rattle.sml_tree.specs.BareTree as bare
use Rattle.sml_tree.specs.TreeOf as trees
use Rattle.core_rules.specs.Project.{Part, standard_basis, source}
use Rattle.ir_poly.specs.Types.{IsConstructor}
use Rattle.core_elab.specs.Resolves.{joined}
use Rattle.prog_tree.specs.TreeOf.{dec_of, decs_of}
use Rattle.prog_tree.specs.declared.tree.Dec.{Dec}
use Rattle.elab_typed.specs.Contexts.{after}
use Rattle.project_typed.specs.Elaborates.{ProjectElab}
use Rattle.project_typed.proofs.Appending.{one-more}
use Rattle.elab_state.specs.States.{table_in}
use Rattle.elab_state.specs.declared.state.State.{State}
use Rattle.elab_steps.specs.World.{World, Comes}
use Rattle.elab_steps.proofs.Growing.{comes_before}
use Rattle.elab_context.specs.Telling.{Tells}
use Rattle.run_end.specs.of_dec_forms.declared.brought.Brought.{Brought}
use Rattle.run_end.proofs.of_dec_forms.Several.{decs-append}
use Rattle.run_end.proofs.of_dec_forms.Sequencing.{decs-do}
use Rattle.elab_exps.specs.Decs.{StandsIn, AreDeclared}
use Rattle.exp_weights.specs.Nodes.{capped, outer_count}
use Rattle.project_elab.specs.Counted.{part_count}
use Rattle.project_elab.specs.Standard.{ElaboratesParts, IsStandard}
use Rattle.project_elab.specs.Elaborated.{HasElaborated}
use Rattle.project_elab.specs.declared.project.Elaborating.{Elaborating}

-- behind a new state
pub begun : (N : State) (e : Elaborating) (prelude : bare.Decs) (decs : List Dec) → table_in N ≡ [] → e.body.items ≡ decs
    → e.nodes ≡ capped (outer_count prelude) → IsStandard N prelude e.state e.context decs → HasElaborated prelude (standard_basis ∷ []) e
begun N e prelude decs none is n h = record {
  stands = h.stands;
  constructors = h.grows.constructors (subst (AllByRecursion IsConstructor) (sym none) tt);
  nodes = let c = sum_by-cons (part_count prelude) standard_basis [] in omega (arith, c, n);
  gives = λ W c i p.
      subst (λ l. ElaboratesParts W prelude (standard_basis ∷ []) (decs_of (map (dec_of W.reading) l)) e.context e.state.next) (sym is) (h.gives W c i p);
}

module _ (e f : Elaborating) (ds : List bare.Dec) (a b : Brought) (stands : StandsIn e.state e.context)
    (n : f.nodes ≡ capped (e.nodes + outer_count (trees.decs_of ds)))
    (h : AreDeclared e.state e.context ds f.state f.context e.body.items f.body.items a b) where
  -- in one world
  more-in : (W : World) (prelude : bare.Decs) (parts : List Part) → Comes f.state W
      → ElaboratesParts W prelude parts (decs_of (map (dec_of W.reading) e.body.items)) e.context e.state.next
      → ElaboratesParts W prelude (parts ++ source (trees.decs_of ds) ∷ []) (decs_of (map (dec_of W.reading) f.body.items)) f.context f.state.next
  more-in W prelude parts c g =
      let s = (h.bring.plain stands.context.numbered).gives W c g.around g.tells in
      let u = s.elab g.next g.most in
      let d = decs-do u.elab in
      record {
        around = after g.around d.made d.number d.env d.scope d.known;
        next = u.next;
        most = u.most;
        elab = subst
            (λ y. ProjectElab W.table prelude (parts ++ source (trees.decs_of ds) ∷ []) y (after g.around d.made d.number d.env d.scope d.known) u.next)
            (ap (joined (decs_of (map (dec_of W.reading) e.body.items))) s.whole ∙ sym (decs-append (map (dec_of W.reading) e.body.items) (map (dec_of W.reading) h.decs))
            ∙ ap decs_of (sym (map-append (dec_of W.reading) e.body.items h.decs)) ∙ ap (λ l. decs_of (map (dec_of W.reading) l)) (sym h.all))
            (one-more d.elab g.elab);
        tells = subst (Tells f.context W) (sym d.is) s.tells;
      }

  pub source-more : (prelude : bare.Decs) (parts : List Part) → HasElaborated prelude parts e → HasElaborated prelude (parts ++ source (trees.decs_of ds) ∷ []) f
  source-more prelude parts k = record {
    stands = h.stands;
    constructors = h.bring.grows.constructors k.constructors;
    nodes = let c = sum_by_push (part_count prelude) parts (source (trees.decs_of ds)) in let o = k.nodes in omega (arith, c, n, o);
    gives = λ W c i p. more-in W prelude parts c (k.gives W (comes_before e.state f.state W h.bring.grows c) i p);
  }
