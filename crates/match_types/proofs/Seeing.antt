-- A work is seen as it was before.
use Rattle.std.proofs.Common.{◌≡◌, ◌<◌, ◌≤◌, ℕ, List, [], map, length, take, Some, slice_get, refl, sym, ap, ◌∙◌, subst, arith}
use Rattle.std.proofs.lemmas.List.{get_or-take, take-take, get_or_past, length-take}
use Rattle.std.proofs.Math.Seq.{take-length}
use Rattle.std.proofs.lemmas.Option.{slice_get_within, get_or_from_slice_get}
use Rattle.ty_core.specs.Types.{Typ, var}
use Rattle.ty_core.specs.declared.scheme.Quantified.{Quantified}
use Rattle.ty_table.specs.TypeAt.{type_at}
use Rattle.ir_poly.specs.Types.{in_scope}
use Rattle.ir_known.specs.Knows.{marks_of}
use Rattle.ir_tables.specs.Tables.{parameters_at}
use Rattle.match_names.specs.Bindings.{names_of}
use Rattle.match_types.specs.Views.{View, Sees, Keeps, Stands}
use Rattle.match_types.specs.declared.work.Work.{Work}

-- earlier types stay
pub earlier-stays : (ts us : List Typ) (k : ℕ) → take (length ts) us ≡ ts → k < length ts → type_at us k ≡ type_at ts k
earlier-stays ts us k e lt = sym (get_or-take (length ts) us k (var 0) lt) ∙ ap (λ l. type_at l k) e

pub held-within : (ts : List Typ) (k : ℕ) (t : Typ) → slice_get ts k ≡ Some t → k < length ts
held-within ts k t e = slice_get_within ts k t e

pub held-is : (ts : List Typ) (k : ℕ) (t : Typ) → slice_get ts k ≡ Some t → type_at ts k ≡ t
held-is ts k t e = get_or_from_slice_get ts k t (var 0) e

pub keeps-same : (w : Work) → Keeps w w
keeps-same w = record { types = take-length w.tables.types; longer = omega arith; first = refl; initial = refl; constructors = refl; parameters = refl; strings = refl; scope = refl; names = refl }

pub sees-before : (old new : Work) (v : View) → Keeps old new → Sees new v → Sees old v
sees-before old new v k s = record {
  grown = sym (take-take (length old.tables.types) (length new.tables.types) v.types k.longer) ∙ ap (take (length old.tables.types)) s.grown ∙ k.types;
  are_parameters = s.are_parameters ∙ ap (λ ps. map (λ p. p.items) ps.items) k.parameters;
  are_strings = s.are_strings ∙ ap (λ ps. map (λ p. p.items) ps.items) k.strings;
  source_known = λ n lt. s.source_known n (subst (λ i. n < i) (sym k.first) lt);
  source_unknown = λ n le. s.source_unknown n (subst (λ i. i ≤ n) (sym k.first) le);
  source_parameters = s.source_parameters;
  source_strings = s.source_strings;
  same_names = s.same_names ∙ ap names_of k.names;
  same_scope = λ x. s.same_scope x ∙ ap (λ l. in_scope (marks_of l) x) k.scope;
}

pub keeps-on : (a b c : Work) → Keeps a b → Keeps b c → Keeps a c
keeps-on a b c h k = record {
  types = sym (take-take (length a.tables.types) (length b.tables.types) c.tables.types h.longer) ∙ ap (take (length a.tables.types)) k.types ∙ h.types;
  longer = (let p = h.longer in let q = k.longer in omega arith);
  first = k.first ∙ h.first;
  initial = k.initial ∙ h.initial;
  constructors = k.constructors ∙ h.constructors;
  parameters = k.parameters ∙ h.parameters;
  strings = k.strings ∙ h.strings;
  scope = k.scope ∙ h.scope;
  names = k.names ∙ h.names;
}

-- what a number stands for it goes on to stand for
pub stands-on : (old new : Work) (k : ℕ) (t : View → Typ) → Keeps old new → Stands old k t → Stands new k t
stands-on old new k t h is v s = is v (sees-before old new v h s)

-- a type of the table
pub stands-at : (w : Work) (v : View) (k : ℕ) → Sees w v → k < length w.tables.types → type_at v.types k ≡ type_at w.tables.types k
stands-at w v k s lt = earlier-stays w.tables.types v.types k s.grown lt

-- the number after those of a list stands for none
pub none-past : (ps : List (List Quantified)) → parameters_at ps (length ps) ≡ []
none-past ps = get_or_past ps (length ps) [] (omega arith)

pub longer-by : (ts us : List Typ) → take (length ts) us ≡ ts → length ts ≤ length us
longer-by ts us e = let h = length-take (length ts) us in let k = ap length e in omega arith

-- types were added, and nothing else but the next number changed
pub keeps-by : (old new : Work) → take (length old.tables.types) new.tables.types ≡ old.tables.types → new.first ≡ old.first → new.tables.initial ≡ old.tables.initial
    → new.tables.constructors ≡ old.tables.constructors → new.tables.parameters ≡ old.tables.parameters → new.tables.strings ≡ old.tables.strings → new.scope ≡ old.scope
    → new.names ≡ old.names → Keeps old new
keeps-by old new e f i c p s sc n = record {
  types = e;
  longer = longer-by old.tables.types new.tables.types e;
  first = f;
  initial = i;
  constructors = c;
  parameters = p;
  strings = s;
  scope = sc;
  names = n;
}

-- nothing changed
pub keeps-equal : (old new : Work) → new.tables.types ≡ old.tables.types → new.first ≡ old.first → new.tables.initial ≡ old.tables.initial → new.tables.constructors ≡ old.tables.constructors
    → new.tables.parameters ≡ old.tables.parameters → new.tables.strings ≡ old.tables.strings → new.scope ≡ old.scope → new.names ≡ old.names → Keeps old new
keeps-equal old new e f i c p s sc n = keeps-by old new (ap (take (length old.tables.types)) e ∙ take-length old.tables.types) f i c p s sc n
