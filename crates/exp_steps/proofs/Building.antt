-- Records, constructions and primitives on the values of parts.
use Rattle.std.proofs.Common.{◌≡◌, ℕ, suc, List, Option, Some, refl, sym, ap, ap₂, ◌∙◌}
use Rattle.mlc_base.specs.declared.place.Place.{Place}
use Rattle.mlc_prims.specs.declared.basis.BasisPrimitive.{BasisPrimitive}
use Rattle.ty_core.specs.Types.{Typ}
use Rattle.label_rows.specs.Order.{sorted_by}
use Rattle.ir_plain.specs.Tree as te
use Rattle.ir_poly.specs.Prog as t
use Rattle.ir_poly.specs.Tests.{Tests, poly}
use Rattle.match_compile.specs.Compile as clean
use Rattle.match_compile.specs.Compile.{making, making_all, making_tuple, value_at, past_fields, past_tuple, past_built, tuple_atoms, sorted_row, weighed, beginning, building, put, scoped, along, Way, by_building, by_performing}
use Rattle.plain_tree.specs.TreeOf as plain
use Rattle.plain_tree.specs.declared.tree.Field.{Field}
use Rattle.plain_tree.specs.declared.tree.Step.{Step}
use Rattle.prog_tree.specs.TreeOf.{Reading}
use Rattle.match_steps.specs.of_match_types.Views.{View, reading, Sees, Keeps}
use Rattle.match_steps.specs.of_match_types.declared.work.ValueType.{ValueType}
use Rattle.match_steps.specs.of_match_types.declared.work.ValueType.TheVariants.{Source}
use Rattle.match_steps.specs.of_match_types.declared.work.Work.{Work}
use Rattle.match_steps.proofs.of_match_types.Seeing.{keeps-on, keeps-same, sees-before}
use Rattle.match_steps.proofs.Pushed.{two-puts, puts-as}
use Rattle.exp_steps.specs.Making.{Makes, MakesAll, MakesTuple, Weighs, Begun, Pushed, putting, atoms_in}
use Rattle.exp_steps.specs.Made.{applied, recorded}
use Rattle.exp_steps.specs.Ways.{built_of, type_or_unit}
use Rattle.exp_steps.specs.declared.ways.Built.{Built}
use Rattle.exp_steps.specs.declared.ways.Built.TheVariants as builts
use Rattle.prog_tree.specs.declared.tree.Exception.{Exception}
use Rattle.match_steps.specs.Steps.{Puts}
use Rattle.match_steps.specs.Made.{naming}
use Rattle.exp_steps.proofs.Ordered.{row-sorted}

-- after what makes neither steps nor numbers
pub pushed-after : {w0 w1 w2 : Work} {b a : List Step} {u : ValueType} {g : View → te.Op poly} {n : ℕ} → Keeps w0 w1 → w1.next ≡ w0.next → Pushed w1 w2 b a u g n → Pushed w0 w2 b a u g n
pushed-after {w0 = w0} {w1 = w1} {w2 = w2} {u = u} {g = g} k same p = record {
  keeps = keeps-on w0 w1 w2 k p.keeps;
  is = p.is ∙ same;
  next = p.next ∙ ap suc same;
  puts = puts-as (putting u w0.next g) (λ v sees rest. ap (λ i. putting u i g v rest) same) p.puts;
}

-- a record of fields whose values were made, in the order of their labels
pub record-makes : {w w0 w1 : Work} {s b a : List Step} {u n : ℕ} {fs : Reading → t.Fields} (made ordered : List Field) → ordered ≡ sorted_by (λ f. f.label) made → MakesAll w w0 s b fs made
    → Pushed w0 w1 b a (Source u) (λ o. te.make_record (scoped o.scope (o.source.type u)) (plain.row_of (reading o) ordered)) n → Makes w w1 s a (recorded u fs) n
record-makes {w = w} {w0 = w0} {w1 = w1} {s = s} {b = b} {a = a} {u = u} {n = n} {fs = fs} made ordered order p q = record {
  keeps = keeps-on w w0 w1 p.keeps q.keeps;
  is = λ o sees. sym (p.next o (sees-before w0 w1 o q.keeps sees)) ∙ sym q.is;
  next = q.next ∙ ap suc (sym q.is);
  puts = puts-as (λ o rest. making o.scope o.names (t.fields_exp (o.source.type u) (fs o.source)) w.next rest)
      (λ o sees rest.
      ap₂ (λ i r. making_all o.scope o.names (fs o.source) w.next (put o.scope i (o.source.type u) (te.make_record (scoped o.scope (o.source.type u)) r) rest))
      (p.next o (sees-before w0 w1 o q.keeps sees))
      (ap (plain.row_of (reading o)) order ∙ row-sorted (reading o) made ∙ ap sorted_row (p.row o (sees-before w0 w1 o q.keeps sees))))
      (two-puts w0 w1 s b a (λ o rest. making_all o.scope o.names (fs o.source) w.next rest) (putting (Source u) w0.next (λ o. te.make_record (scoped o.scope (o.source.type u)) (plain.row_of (reading o) ordered))) q.keeps p.puts q.puts);
}

pub along-built : {A : Type 0} (w : Way) (x : A) (g : clean.Built → A) (h : BasisPrimitive → Typ → A) (b : clean.Built) → w ≡ by_building b → along w x g h ≡ g b
along-built w x g h b e = ap (λ y. along y x g h) e

pub along-performed : {A : Type 0} (w : Way) (x : A) (g : clean.Built → A) (h : BasisPrimitive → Typ → A) (p : BasisPrimitive) (u : Typ) → w ≡ by_performing p u → along w x g h ≡ h p u
along-performed w x g h p u e = ap (λ y. along y x g h) e

-- a construction from the value of an argument
pub built-makes : {w v w0 w1 : Work} {s m b a : List Step} {u name x n : ℕ} {f d : Reading → t.Exp} (built : Built) (place : Place) (argument : ℕ)
    → ((R : Reading) → clean.way (f R) (d R) ≡ by_building (built_of built R)) → ((R : Reading) → R.type argument ≡ t.type_of (d R)) → Begun w v s m f built name → Makes v w0 m b d x
    → Pushed w0 w1 b a (Source u) (λ o. building o.scope (built_of built o.source) place (o.source.type u) (o.source.type argument) name x) n → Makes w w1 s a (applied place u f d) n
built-makes {w = w} {v = v} {w0 = w0} {w1 = w1} {s = s} {m = m} {b = b} {a = a} {u = u} {name = name} {x = x} {n = n} {f = f} {d = d} built place argument goes type p q r = record {
  keeps = keeps-on w v w1 p.keeps (keeps-on v w0 w1 q.keeps r.keeps);
  is = λ o sees. along-built _ _ _ _ (built_of built o.source) (goes o.source) ∙ ap suc (value o sees) ∙ sym (r.is ∙ q.next);
  next = r.next ∙ ap suc (sym r.is);
  puts = puts-as (λ o rest. making o.scope o.names (t.app_exp place (o.source.type u) (f o.source) (d o.source)) w.next rest)
      (λ o sees rest.
      ap (λ i. made o rest i w0.next (o.source.type argument) name x) (p.next o)
      ∙ ap₂ (λ j k. made o rest (past o) j k name x) (q.next ∙ ap suc (sym (value o sees))) (type o.source)
      ∙ ap₂ (λ k y. made o rest (past o) (suc (value_at (d o.source) (past o))) (t.type_of (d o.source)) k y) p.is (sym (value o sees))
      ∙ sym (along-built _ _ _ _ (built_of built o.source) (goes o.source)))
      (two-puts v w1 s m a (λ o rest. beginning o.names (built_of built o.source) w.next (weighed (f o.source) rest)) (λ o rest. making o.scope o.names (d o.source) v.next (putting (Source u) w0.next (op) o rest))
      (keeps-on v w0 w1 q.keeps r.keeps) p.puts
      (two-puts w0 w1 m b a (λ o rest. making o.scope o.names (d o.source) v.next rest) (putting (Source u) w0.next op) r.keeps q.puts r.puts));
}
  where
    op : View → te.Op poly
    op o = building o.scope (built_of built o.source) place (o.source.type u) (o.source.type argument) name x

    past : View → ℕ
    past o = past_built (built_of built o.source) w.next

    made : View → Tests → (i j : ℕ) → Typ → (k y : ℕ) → Tests
    made o rest i j z k y =
        beginning o.names (built_of built o.source) w.next
        (weighed (f o.source) (making o.scope o.names (d o.source) i (put o.scope j (o.source.type u) (building o.scope (built_of built o.source) place (o.source.type u) z k y) rest)))

    value : (o : View) → Sees w1 o → value_at (d o.source) (past o) ≡ x
    value o sees = ap (value_at (d o.source)) (sym (p.next o)) ∙ q.is o (sees-before w0 w1 o r.keeps sees)

-- a primitive on the parts of a tuple
pub performed-makes : {w v w0 w1 : Work} {s m b a : List Step} {u n : ℕ} {f d : Reading → t.Exp} (primitive : BasisPrimitive) (at : Option ℕ) (place : Place) (made : List Field)
    → ((R : Reading) → clean.way (f R) (d R) ≡ by_performing primitive (type_or_unit at R)) → Weighs w v s m f → MakesTuple v w0 m b d made
    → Pushed w0 w1 b a (Source u) (λ o. te.prim (Some place) primitive (scoped o.scope (type_or_unit at o.source)) (plain.atoms_of (reading o) (atoms_in made))) n → Makes w w1 s a (applied place u f d) n
performed-makes {w = w} {v = v} {w0 = w0} {w1 = w1} {s = s} {m = m} {b = b} {a = a} {u = u} {n = n} {f = f} {d = d} primitive at place made goes p q r = record {
  keeps = keeps-on w v w1 p.keeps (keeps-on v w0 w1 q.keeps r.keeps);
  is = λ o sees. along-performed _ _ _ _ primitive (type_or_unit at o.source) (goes o.source) ∙ sym (r.is ∙ past o sees);
  next = r.next ∙ ap suc (sym r.is);
  puts = puts-as (λ o rest. making o.scope o.names (t.app_exp place (o.source.type u) (f o.source) (d o.source)) w.next rest)
      (λ o sees rest.
      ap (λ i. all o rest i w0.next (plain.atoms_of (reading o) (atoms_in made))) p.next
      ∙ ap₂ (λ j k. all o rest w.next j k) (past o sees) (q.atoms o (sees-before w0 w1 o r.keeps sees) ∙ ap (tuple_atoms (d o.source)) p.next)
      ∙ sym (along-performed _ _ _ _ primitive (type_or_unit at o.source) (goes o.source)))
      (two-puts v w1 s m a (λ o rest. weighed (f o.source) rest) (λ o rest. making_tuple o.scope o.names (d o.source) v.next (putting (Source u) w0.next op o rest))
      (keeps-on v w0 w1 q.keeps r.keeps) p.puts
      (two-puts w0 w1 m b a (λ o rest. making_tuple o.scope o.names (d o.source) v.next rest) (putting (Source u) w0.next op) r.keeps q.puts r.puts));
}
  where
    op : View → te.Op poly
    op o = te.prim (Some place) primitive (scoped o.scope (type_or_unit at o.source)) (plain.atoms_of (reading o) (atoms_in made))

    all : View → Tests → (i j : ℕ) → te.Atoms poly → Tests
    all o rest i j k =
        weighed (f o.source) (making_tuple o.scope o.names (d o.source) i (put o.scope j (o.source.type u) (te.prim (Some place) primitive (scoped o.scope (type_or_unit at o.source)) k) rest))

    past : (o : View) → Sees w1 o → w0.next ≡ past_tuple (d o.source) w.next
    past o sees = q.next o (sees-before w0 w1 o r.keeps sees) ∙ ap (past_tuple (d o.source)) p.next

-- what a construction begins with
pub begun-plain : (w : Work) (s a : List Step) (f : Reading → t.Exp) (b : Built) → ((R : Reading) (n : ℕ) → past_built (built_of b R) n ≡ n)
    → ((v : View) (n : ℕ) (rest : Tests) → beginning v.names (built_of b v.source) n rest ≡ rest) → Weighs w w s a f → Begun w w s a f b w.next
begun-plain w s a f b past none p = record {
  keeps = keeps-same w;
  is = refl;
  next = λ v. sym (past v.source w.next);
  puts = puts-as (λ v rest. beginning v.names (built_of b v.source) w.next (weighed (f v.source) rest)) (λ v sees rest. sym (none v w.next (weighed (f v.source) rest))) p.puts;
}

pub begun-named : (w w1 : Work) (s m a : List Step) (f : Reading → t.Exp) (b : Built) (x : Exception) (name : ℕ) → b ≡ builts.Exception x → Keeps w w1 → name ≡ w.next → w1.next ≡ suc w.next
    → Puts w1 s m (naming x w.next) → Weighs w1 w1 m a f → Begun w w1 s a f b name
begun-named w w1 s m a f b x name e k is next p q = record {
  keeps = k;
  is = is;
  next = λ v. next ∙ ap (λ y. past_built (built_of y v.source) w.next) (sym e);
  puts = puts-as (λ v rest. beginning v.names (built_of b v.source) w.next (weighed (f v.source) rest))
      (λ v sees rest. ap (λ y. beginning v.names (built_of y v.source) w.next (weighed (f v.source) rest)) (sym e))
      (two-puts w1 w1 s m a (naming x w.next) (λ v rest. weighed (f v.source) rest) (keeps-same w1) p q.puts);
}
