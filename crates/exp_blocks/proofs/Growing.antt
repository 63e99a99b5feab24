-- Works whose names or scope changed, seen from later on.
use Rattle.std.proofs.Common.{◌≡◌, ◌<◌, ◌≤◌, ◌-◌, ◌+◌, ℕ, zero, suc, List, [], ◌∷◌, map, length, take, drop, refl, sym, ap, ◌∙◌, subst, arith}
use Rattle.std.proofs.lemmas.List.{take-take}
use Rattle.std.proofs.Math.Seq.{take-length}
use Rattle.ty_core.specs.declared.scheme.Quantified.{Quantified}
use Rattle.ty_table.specs.TypeAt.{type_at}
use Rattle.ir_poly.specs.Types.{in_scope}
use Rattle.ir_known.specs.Knows.{marks_of}
use Rattle.match_compile.specs.Compile.{Names}
use Rattle.match_names.specs.Bindings.{names_of}
use Rattle.exp_steps.specs.of_match_types.Views.{View, Sees, Keeps, Stands, in_view}
use Rattle.exp_steps.specs.of_match_types.declared.work.Work.{Work}
use Rattle.exp_steps.specs.of_match_types.declared.work.ValueType.{ValueType}
use Rattle.exp_steps.specs.of_match_types.declared.work.ValueType.TheVariants as value
use Rattle.exp_blocks.specs.Giving.{Grows, Ends, over}

pub grows-same : (w : Work) → Grows w w
grows-same w = record { types = take-length w.tables.types; longer = omega arith; first = refl; initial = refl; constructors = refl; parameters = refl; strings = refl }

pub grows-by : (old new : Work) → Keeps old new → Grows old new
grows-by old new k = record { types = k.types; longer = k.longer; first = k.first; initial = k.initial; constructors = k.constructors; parameters = k.parameters; strings = k.strings }

-- nothing changed but names and scope
pub grows-equal : (old new : Work) → new.tables.types ≡ old.tables.types → new.first ≡ old.first → new.tables.initial ≡ old.tables.initial → new.tables.constructors ≡ old.tables.constructors
    → new.tables.parameters ≡ old.tables.parameters → new.tables.strings ≡ old.tables.strings → Grows old new
grows-equal old new e f i c p s = record {
  types = ap (take (length old.tables.types)) e ∙ take-length old.tables.types;
  longer = (let h = ap length e in omega arith);
  first = f;
  initial = i;
  constructors = c;
  parameters = p;
  strings = s;
}

pub grows-on : (a b c : Work) → Grows a b → Grows b c → Grows a c
grows-on a b c h k = record {
  types = sym (take-take (length a.tables.types) (length b.tables.types) c.tables.types h.longer) ∙ ap (take (length a.tables.types)) k.types ∙ h.types;
  longer = (let p = h.longer in let q = k.longer in omega arith);
  first = k.first ∙ h.first;
  initial = k.initial ∙ h.initial;
  constructors = k.constructors ∙ h.constructors;
  parameters = k.parameters ∙ h.parameters;
  strings = k.strings ∙ h.strings;
}

pub keeps-grown : (old new : Work) → Grows old new → new.scope ≡ old.scope → new.names ≡ old.names → Keeps old new
keeps-grown old new g s n = record {
  types = g.types;
  longer = g.longer;
  first = g.first;
  initial = g.initial;
  constructors = g.constructors;
  parameters = g.parameters;
  strings = g.strings;
  scope = s;
  names = n;
}

-- an earlier work is seen with its own scope and names
pub sees-through : (old new : Work) (v : View) (D : List Quantified) (N : Names) → Grows old new → Sees new v → N ≡ names_of old.names
    → ((x : ℕ) → in_scope D x ≡ in_scope (marks_of old.scope) x) → Sees old (over v D N)
sees-through old new v D N g s names scope = record {
  grown = sym (take-take (length old.tables.types) (length new.tables.types) v.types g.longer) ∙ ap (take (length old.tables.types)) s.grown ∙ g.types;
  are_parameters = s.are_parameters ∙ ap (λ ps. map (λ p. p.items) ps.items) g.parameters;
  are_strings = s.are_strings ∙ ap (λ ps. map (λ p. p.items) ps.items) g.strings;
  source_known = λ n lt. s.source_known n (subst (λ i. n < i) (sym g.first) lt);
  source_unknown = λ n le. s.source_unknown n (subst (λ i. i ≤ n) (sym g.first) le);
  source_parameters = s.source_parameters;
  source_strings = s.source_strings;
  same_names = names;
  same_scope = scope;
}

-- with other names alone
pub sees-named : (old new : Work) (v : View) → Grows old new → new.scope ≡ old.scope → Sees new v → Sees old (over v v.scope (names_of old.names))
sees-named old new v g e s = sees-through old new v v.scope (names_of old.names) g s refl (λ x. s.same_scope x ∙ ap (λ l. in_scope (marks_of l) x) e)

-- what a value's type is doesn't hang on names
pub stands-named : (old new : Work) (k : ℕ) (t : ValueType) → Grows old new → new.scope ≡ old.scope → Stands old k (in_view t) → Stands new k (in_view t)
stands-named old new k t g e is v s = by-type t (is (over v v.scope (names_of old.names)) (sees-named old new v g e s))
  where
    by-type : (t : ValueType) → type_at v.types k ≡ in_view t (over v v.scope (names_of old.names)) → type_at v.types k ≡ in_view t v
    by-type (value.Source u) e = e
    by-type value.Exception e = e
    by-type value.Bool e = e
    by-type value.Unit e = e

module _ {A : Type 0} where
  pub ends-same : (xs : List A) → Ends xs xs
  ends-same xs = record { longer = omega arith; ends = ap (λ n. drop n xs) (let e : length xs - length xs ≡ 0 = omega arith in e) }

  pub ends-more : (x : A) (old new : List A) → Ends old new → Ends old (x ∷ new)
  ends-more x old new e = record {
    longer = (let p = e.longer in omega arith);
    ends = ap (λ n. drop n (x ∷ new)) (let p = e.longer in let q : suc (length new) - length old ≡ suc (length new - length old) = omega arith in q) ∙ e.ends;
  }

  drop-none : (n : ℕ) → drop {A = A} n [] ≡ []
  drop-none zero = refl
  drop-none (suc n) = refl

  drop-drop : (i j : ℕ) (xs : List A) → drop i (drop j xs) ≡ drop (j + i) xs
  drop-drop i zero xs = ap (λ n. drop n xs) (let e : i ≡ 0 + i = omega arith in e)
  drop-drop i (suc j) [] = drop-none i ∙ sym (drop-none (suc j + i))
  drop-drop i (suc j) (x ∷ xs) = drop-drop i j xs ∙ ap (λ n. drop n (x ∷ xs)) (let e : suc (j + i) ≡ suc j + i = omega arith in e)

  pub ends-on : (a b c : List A) → Ends a b → Ends b c → Ends a c
  ends-on a b c p q = record {
    longer = (let h = p.longer in let k = q.longer in omega arith);
    ends = ap (λ n. drop n c) (let h = p.longer in let k = q.longer in let e : length c - length a ≡ (length c - length b) + (length b - length a) = omega arith in e)
        ∙ sym (drop-drop (length b - length a) (length c - length b) c) ∙ ap (drop (length b - length a)) q.ends ∙ p.ends;
  }

  pub ends-as : (old new now : List A) → now ≡ new → Ends old new → Ends old now
  ends-as old new now e p = subst (Ends old) (sym e) p
