-- Tasks that are done one after the other.
use Rattle.std.proofs.Common.{◌≡◌, ℕ, List, [], ◌∷◌, ◌++◌, refl, sym, ap, ap₂, ◌∙◌}
use Rattle.ir_poly.specs.Prog as t
use Rattle.ir_poly.specs.Tests.{Tests}
use Rattle.prog_tree.specs.TreeOf.{Reading}
use Rattle.match_compile.specs.Compile.{Spots, spot, no_spots, past_pat, spots, tests}
use Rattle.match_steps.specs.of_match_types.Views.{View, value_type, Sees, Keeps}
use Rattle.match_steps.specs.of_match_types.declared.work.ValueType.{ValueType}
use Rattle.match_steps.specs.Steps.{stand, Puts}
use Rattle.match_steps.specs.of_match_types.declared.work.Work.{Work}
use Rattle.match_steps.proofs.of_match_types.Seeing.{keeps-same, keeps-on, sees-before}
use Rattle.pattern_tests.specs.Spots.{spots_onto}
use Rattle.pattern_tests.specs.Tasks.{Task, Done, both, finished, pat_task}
use Rattle.pattern_tests.specs.declared.made.Made.{Made}
use Rattle.pattern_tests.specs.declared.spots.Spot.{Spot}

-- f, then g
pub done-then : {w0 w1 w2 : Work} {m0 m1 m2 : Made} {f g h : Task} → Done w0 w1 m0 m1 f g → Done w1 w2 m1 m2 g h → Done w0 w2 m0 m2 f h
done-then {w0 = w0} {w1 = w1} {w2 = w2} p q = record {
  keeps = keeps-on w0 w1 w2 p.keeps q.keeps;
  next = λ v. q.next v ∙ p.next v;
  found = λ v. q.found v ∙ p.found v;
  leads = record { leads = λ v sees rest. q.leads.leads v sees rest ∙ p.leads.leads v (sees-before w1 w2 v q.keeps sees) rest };
}

-- with something behind that isn't touched
pub done-both : {w0 w1 : Work} {m0 m1 : Made} {f g : Task} (h : Task) → Done w0 w1 m0 m1 f g → Done w0 w1 m0 m1 (both f h) (both g h)
done-both {w0 = w0} {w1 = w1} {m0 = m0} {m1 = m1} {f = f} {g = g} h p = record {
  keeps = p.keeps;
  next = λ v. ap (h.past v) (p.next v);
  found = λ v. ap₂ (h.found v) (p.next v) (p.found v);
  leads = record {
    leads = λ v sees rest.
        p.leads.leads v sees (h.made v (g.past v w1.next) rest) ∙ ap (λ n. stand v m0.steps.items (f.made v w0.next (h.made v n rest))) (p.next v);
  };
}

-- the first of two
pub done-first : {w0 w1 : Work} {m0 m1 : Made} {f : Task} (h : Task) → Done w0 w1 m0 m1 f finished → Done w0 w1 m0 m1 (both f h) h
done-first h p = done-both h p

pub done-nothing : (w : Work) (m : Made) (f : Task) → Done w w m m f f
done-nothing w m f = record { keeps = keeps-same w; next = λ v. refl; found = λ v. refl; leads = record { leads = λ v sees rest. refl } }

-- by steps that were put behind others
pub done-by-steps : (w0 w1 : Work) (m0 m1 : Made) (f g : Task) (h : View → Tests → Tests) → Keeps w0 w1 → m1.spots.items ≡ m0.spots.items → Puts w1 m0.steps.items m1.steps.items h
    → ((v : View) → g.past v w1.next ≡ f.past v w0.next) → ((v : View) (us : Spots) → g.found v w1.next us ≡ f.found v w0.next us)
    → ((v : View) → Sees w1 v → (rest : Tests) → h v (g.made v w1.next rest) ≡ f.made v w0.next rest) → Done w0 w1 m0 m1 f g
done-by-steps w0 w1 m0 m1 f g h keeps same puts next found made = record {
  keeps = keeps;
  next = next;
  found = λ v. ap (λ ss. g.found v w1.next (spots_onto v ss no_spots)) same ∙ found v (spots_onto v m0.spots.items no_spots);
  leads = record { leads = λ v sees rest. puts.leads v sees (g.made v w1.next rest) ∙ ap (stand v m0.steps.items) (made v sees rest) };
}

-- one variable more
pub spots-pushed : (v : View) (ss : List Spot) (s : Spot) (us : Spots) → spots_onto v (ss ++ s ∷ []) us ≡ spot s.variable s.number (value_type v s.ty) (spots_onto v ss us)
spots-pushed v [] s us = refl
spots-pushed v (r ∷ ss) s us = spots-pushed v ss s (spot r.variable r.number (value_type v r.ty) us)

pub done-by-spot : (w : Work) (m0 m1 : Made) (f g : Task) (s : Spot) → m1.spots.items ≡ m0.spots.items ++ s ∷ [] → m1.steps.items ≡ m0.steps.items
    → ((v : View) (n : ℕ) → g.past v n ≡ f.past v n)
    → ((v : View) (n : ℕ) (us : Spots) → g.found v n (spot s.variable s.number (value_type v s.ty) us) ≡ f.found v n us)
    → ((v : View) (n : ℕ) (rest : Tests) → g.made v n rest ≡ f.made v n rest) → Done w w m0 m1 f g
done-by-spot w m0 m1 f g s more same next found made = record {
  keeps = keeps-same w;
  next = λ v. next v w.next;
  found = λ v.
      ap (λ ss. g.found v w.next (spots_onto v ss no_spots)) more ∙ ap (g.found v w.next) (spots-pushed v m0.spots.items s no_spots)
      ∙ found v w.next (spots_onto v m0.spots.items no_spots);
  leads = record { leads = λ v sees rest. ap (λ l. stand v l (g.made v w.next rest)) same ∙ ap (stand v m0.steps.items) (made v w.next rest) };
}

-- the same pattern said otherwise
pub done-pat : {w0 w1 : Work} {m0 m1 : Made} {g : Task} (p q : Reading → t.Pat) (u : ValueType) (a : ℕ) → ((R : Reading) → q R ≡ p R) → Done w0 w1 m0 m1 (pat_task q u a) g → Done w0 w1 m0 m1 (pat_task p u a) g
done-pat {w0 = w0} {w1 = w1} {m0 = m0} {m1 = m1} {g = g} p q u a e d = record {
  keeps = d.keeps;
  next = λ v. d.next v ∙ ap (λ x. past_pat x w0.next) (e v.source);
  found = λ v. d.found v ∙ ap (λ x. spots x (value_type v u) w0.next a (spots_onto v m0.spots.items no_spots)) (e v.source);
  leads = record {
    leads = λ v sees rest.
        d.leads.leads v sees rest ∙ ap (λ x. stand v m0.steps.items (tests v.scope v.names x (value_type v u) w0.next a rest)) (e v.source);
  };
}

-- the pattern that is left said otherwise
pub left-pat : {w0 w1 : Work} {m0 m1 : Made} {f : Task} (h : Task) (p q : Reading → t.Pat) (u : ValueType) (a : ℕ) → ((R : Reading) → q R ≡ p R) → Done w0 w1 m0 m1 f (both (pat_task q u a) h)
    → Done w0 w1 m0 m1 f (both (pat_task p u a) h)
left-pat {w0 = w0} {w1 = w1} {m0 = m0} {m1 = m1} {f = f} h p q u a e d = record {
  keeps = d.keeps;
  next = λ v. ap (λ x. h.past v (past_pat x w1.next)) (sym (e v.source)) ∙ d.next v;
  found = λ v. ap (λ x. h.found v (past_pat x w1.next) (spots x (value_type v u) w1.next a (spots_onto v m1.spots.items no_spots))) (sym (e v.source)) ∙ d.found v;
  leads = record {
    leads = λ v sees rest.
        ap (λ x. stand v m1.steps.items (tests v.scope v.names x (value_type v u) w1.next a (h.made v (past_pat x w1.next) rest))) (sym (e v.source)) ∙ d.leads.leads v sees rest;
  };
}
