-- Fields, one after the other.
use Rattle.std.proofs.Common.{◌≡◌, ℕ, suc, List, [], ◌∷◌, ◌++◌, refl, sym, ap, ap₂, ◌∙◌}
use Rattle.mlc_names.specs.declared.label.Label.{Label}
use Rattle.ty_core.specs.declared.scheme.Quantified.{Quantified}
use Rattle.ir_plain.specs.Tree as te
use Rattle.ir_poly.specs.Prog as t
use Rattle.ir_poly.specs.Tests.{Tests, poly, Use}
use Rattle.match_compile.specs.Compile.{Names, making, making_all, value_at, past_fields, field_row, field_atoms, atom}
use Rattle.plain_tree.specs.TreeOf as plain
use Rattle.plain_tree.specs.declared.tree.Field.{Field}
use Rattle.plain_tree.specs.declared.tree.Step.{Step}
use Rattle.prog_tree.specs.TreeOf.{Reading}
use Rattle.match_steps.specs.of_match_types.Views.{View, reading, Sees}
use Rattle.match_steps.specs.of_match_types.declared.work.Work.{Work}
use Rattle.match_steps.proofs.of_match_types.Seeing.{keeps-same, keeps-on, sees-before}
use Rattle.match_steps.proofs.Pushed.{two-puts, puts-as}
use Rattle.exp_steps.specs.Making.{Makes, MakesAll, MakesTuple, atoms_in}
use Rattle.exp_steps.specs.Made.{with_field, one_more, recorded}

past-more : (fs : t.Fields) (l : Label) (e : t.Exp) (n : ℕ) → past_fields (with_field fs l e) n ≡ suc (value_at e (past_fields fs n))
past-more t.no_fields l e n = refl
past-more (t.a_field k d fs) l e n = past-more fs l e (suc (value_at d n))

making-more : (D : List Quantified) (N : Names) (fs : t.Fields) (l : Label) (e : t.Exp) (n : ℕ) (rest : Tests)
    → making_all D N (with_field fs l e) n rest ≡ making_all D N fs n (making D N e (past_fields fs n) rest)
making-more D N t.no_fields l e n rest = refl
making-more D N (t.a_field k d fs) l e n rest = ap (making D N d n) (making-more D N fs l e (suc (value_at d n)) rest)

abbrev row_with : te.Row poly → Label → Use → te.Row poly
row_with te.no_row l x = te.a_row l x te.no_row
row_with (te.a_row k y r) l x = te.a_row k y (row_with r l x)

row-more : (fs : t.Fields) (l : Label) (e : t.Exp) (n : ℕ) → field_row (with_field fs l e) n ≡ row_with (field_row fs n) l (atom (value_at e (past_fields fs n)))
row-more t.no_fields l e n = refl
row-more (t.a_field k d fs) l e n = ap (te.a_row k (atom (value_at d n))) (row-more fs l e (suc (value_at d n)))

row-of-more : (R : plain.Reading poly) (made : List Field) (f : Field) → plain.row_of R (made ++ f ∷ []) ≡ row_with (plain.row_of R made) f.label (R.atom f.atom)
row-of-more R [] f = refl
row-of-more R (g ∷ made) f = ap (te.a_row g.label (R.atom g.atom)) (row-of-more R made f)

pub all-none : (w : Work) (s : List Step) → MakesAll w w s s (λ R. t.no_fields) []
all-none w s = record { keeps = keeps-same w; next = λ v sees. refl; row = λ v sees. refl; puts = record { leads = λ v sees rest. refl } }

-- one field more
pub all-more : {w v w1 : Work} {s m a : List Step} {fs : Reading → t.Fields} {made : List Field} {e : Reading → t.Exp} {x : ℕ} (l : Label) → MakesAll w v s m fs made → Makes v w1 m a e x
    → MakesAll w w1 s a (one_more fs l e) (made ++ record { label = l; atom = x } ∷ [])
all-more {w = w} {v = v} {w1 = w1} {s = s} {m = m} {a = a} {fs = fs} {made = made} {e = e} {x = x} l p q = record {
  keeps = keeps-on w v w1 p.keeps q.keeps;
  next = λ o sees. q.next ∙ ap suc (sym (value o sees)) ∙ sym (past-more (fs o.source) l (e o.source) w.next);
  row = λ o sees.
      row-of-more (reading o) made (record { label = l; atom = x })
      ∙ ap₂ (λ r y. row_with r l (atom y)) (p.row o (sees-before v w1 o q.keeps sees)) (sym (value o sees)) ∙ sym (row-more (fs o.source) l (e o.source) w.next);
  puts = puts-as (λ o rest. making_all o.scope o.names (with_field (fs o.source) l (e o.source)) w.next rest)
      (λ o sees rest.
      ap (λ i. making_all o.scope o.names (fs o.source) w.next (making o.scope o.names (e o.source) i rest)) (p.next o (sees-before v w1 o q.keeps sees))
      ∙ sym (making-more o.scope o.names (fs o.source) l (e o.source) w.next rest))
      (two-puts v w1 s m a (λ o rest. making_all o.scope o.names (fs o.source) w.next rest) (λ o rest. making o.scope o.names (e o.source) v.next rest) q.keeps p.puts q.puts);
}
  where
    value : (o : View) → Sees w1 o → value_at (e o.source) (past_fields (fs o.source) w.next) ≡ x
    value o sees = ap (value_at (e o.source)) (sym (p.next o (sees-before v w1 o q.keeps sees))) ∙ q.is o sees

-- the same fields said otherwise
pub all-as : {w v : Work} {s m : List Step} {made : List Field} (fs gs : Reading → t.Fields) → ((R : Reading) → fs R ≡ gs R) → MakesAll w v s m fs made → MakesAll w v s m gs made
all-as {w = w} {v = v} {s = s} {m = m} {made = made} fs gs e p = record {
  keeps = p.keeps;
  next = λ o sees. p.next o sees ∙ ap (λ f. past_fields f w.next) (e o.source);
  row = λ o sees. p.row o sees ∙ ap (λ f. field_row f w.next) (e o.source);
  puts = puts-as (λ o rest. making_all o.scope o.names (gs o.source) w.next rest) (λ o sees rest. ap (λ f. making_all o.scope o.names f w.next rest) (e o.source)) p.puts;
}

pub all-made-as : {w v : Work} {s m : List Step} {fs : Reading → t.Fields} (made now : List Field) → now ≡ made → MakesAll w v s m fs made → MakesAll w v s m fs now
all-made-as {w = w} {v = v} {s = s} {m = m} {fs = fs} made now e p = record {
  keeps = p.keeps;
  next = p.next;
  row = λ o sees. ap (plain.row_of (reading o)) e ∙ p.row o sees;
  puts = p.puts;
}

abbrev row_atoms : te.Row poly → te.Atoms poly
row_atoms te.no_row = te.no_atoms
row_atoms (te.a_row l x r) = te.an_atom x (row_atoms r)

made-atoms : (R : plain.Reading poly) (made : List Field) → row_atoms (plain.row_of R made) ≡ plain.atoms_of R (atoms_in made)
made-atoms R [] = refl
made-atoms R (f ∷ made) = ap (te.an_atom (R.atom f.atom)) (made-atoms R made)

field-atoms : (fs : t.Fields) (n : ℕ) → row_atoms (field_row fs n) ≡ field_atoms fs n
field-atoms t.no_fields n = refl
field-atoms (t.a_field l e fs) n = ap (te.an_atom (atom (value_at e n))) (field-atoms fs (suc (value_at e n)))

-- a record that is written, as a tuple
pub tuple-of-all : {w v : Work} {s m : List Step} {fs : Reading → t.Fields} {made : List Field} (u : ℕ) → MakesAll w v s m fs made → MakesTuple w v s m (recorded u fs) made
tuple-of-all {w = w} {v = v} {s = s} {m = m} {fs = fs} {made = made} u p = record {
  keeps = p.keeps;
  next = p.next;
  atoms = λ o sees. sym (made-atoms (reading o) made) ∙ ap row_atoms (p.row o sees) ∙ field-atoms (fs o.source) w.next;
  puts = p.puts;
}
