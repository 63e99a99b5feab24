-- References, packets, fields and calls.
use Rattle.std.proofs.Common.{◌≡◌, ℕ, zero, suc, List, [], ◌∷◌, map, Option, Some, None, Bool, true, false, ◌||◌, if◌then◌else◌, nat_eq, get_or, refl, sym, ap, subst}
use Rattle.mlc_runs.specs.Run.{World, Answer, gives, raises, fail, or_fail}
use Rattle.mlc_runs.specs.Run as run
use Rattle.mlc_runs.specs.Refinement.{Refines, both_give, both_raise, first_wrong}
use Rattle.mlc_names.specs.declared.label.Label.{Label}
use Rattle.mlc_base.specs.declared.place.Place.{Place}
use Rattle.mlc_runs.proofs.RefineLaws.{dereference-refines, take_turn-refines}
use Rattle.ir_values.specs.Values.{field_in, same_label}
use Rattle.ir_values.specs.Primitives.{marked, content_of, raise_value}
use Rattle.ir_plain.specs.Meaning.{Parts, read_reference, select_from}
use Rattle.ir_explicit.specs.of_ir_mono.Types.{node_at, by_number, IsTable}
use Rattle.ir_explicit.specs.of_ir_mono.Mono.{mono}
use Rattle.first_values.specs.Values as cells
use Rattle.first_values.specs.Operations as op
use Rattle.ir_first.specs.Tree as out
use Rattle.ir_first.specs.Meaning.{Calls}
use Rattle.ir_first.specs.Continued as tgt
use Rattle.closure_convert.specs.of_flow_sets.Member.{is_in}
use Rattle.closure_convert.specs.of_flow_sets.Flow as spots
use Rattle.closure_convert.specs.of_flow_sets.Flow.{at}
use Rattle.closure_convert.proofs.of_flow_sets.Member.{nat_eq-to, nat_eq-same, or_left}
use Rattle.closure_meaning.specs.Convert.{Numbering, label_index, labels_in, set_of}
use Rattle.closure_meaning.specs.Convert as conv
use Rattle.closure_meaning.specs.Fits.{Setting}
use Rattle.closure_meaning.proofs.Related.{Val, IsOneOf, Same, same_record, same_exn, same_exn_of, same_address, same_cell, SameFields, no_fields_same, a_field_same, R}
use Rattle.closure_meaning.proofs.Equality.{labels-one}
use Rattle.closure_meaning.proofs.Performed.{T, Worlds, Re, turn-then}

-- the function of a set's member is found by its tag, which no other of the set has
pub member-found : (n : Numbering) (k : ℕ) (ks : List ℕ) → is_in k ks ≡ true → ((j : ℕ) → is_in j ks ≡ true → n.tag k ≡ n.tag j → k ≡ j) → op.member_at (n.tag k) (set_of n ks) ≡ Some (n.function k)
member-found n k [] h apart = absurd (cc)
member-found n k (l ∷ ks) h apart = by (nat_eq (n.tag k) (n.tag l)) refl (λ i. member-found n k ks i (λ j q. apart j (among j q)))
  where
    later : (b : Bool) → nat_eq k l ≡ b → (b || is_in k ks) ≡ true → nat_eq (n.tag k) (n.tag l) ≡ false → is_in k ks ≡ true
    later true e i d = absurd (let s : nat_eq (n.tag k) (n.tag l) ≡ true = subst (λ z. nat_eq (n.tag k) (n.tag z) ≡ true) (nat_eq-to k l e) (nat_eq-same (n.tag k)) in cc)
    later false e i d = i

    among : (j : ℕ) → is_in j ks ≡ true → is_in j (l ∷ ks) ≡ true
    among j i = either (nat_eq j l) i
      where
        either : (b : Bool) {d : Bool} → d ≡ true → (b || d) ≡ true
        either true e = refl
        either false e = e

    by : (b : Bool) → nat_eq (n.tag k) (n.tag l) ≡ b → (is_in k ks ≡ true → op.member_at (n.tag k) (set_of n ks) ≡ Some (n.function k)) → (if b then Some (n.function l) else op.member_at (n.tag k) (set_of n ks)) ≡ Some (n.function k)
    by true e rest = sym (ap (λ z. Some (n.function z)) (apart l (or_left (nat_eq l l) (is_in l ks) (nat_eq-same l)) (nat_eq-to (n.tag k) (n.tag l) e)))
    by false e rest = rest (later (nat_eq k l) refl h e)

pub set-at : (n : Numbering) (sets : List (List ℕ)) (i : ℕ) → get_or (map (set_of n) sets) i [] ≡ set_of n (get_or sets i [])
set-at n [] i = refl
set-at n (s ∷ sets) zero = refl
set-at n (s ∷ sets) (suc i) = set-at n sets i

module _ (C : Setting) (all : List out.Fun) (sound : IsTable C.types) where
  abbrev S : Val C.types → cells.Value → Type 0
  S = Same C all

  abbrev W : World (Val C.types) → World cells.Value → Type 0
  W = Worlds C all sound

  abbrev Q : List ℕ → Answer (Val C.types) (Val C.types) → cells.Run cells.Value → Type 0
  Q = Re C all sound

  -- at a type what was made at it
  if-made : {A : Type 0} {G : A → cells.Value → Type 0} (g h : ℕ) {r : Answer (Val C.types) A} {r' : cells.Run cells.Value} (w : World (Val C.types)) → (g ≡ h → Refines (R C all) G r r') → Refines (R C all) G (if nat_eq g h then r else fail w) r'
  if-made {A} {G} g h {r} {r'} w k = go (nat_eq g h) (nat_eq-to g h)
    where
      go : (b : Bool) → (b ≡ true → g ≡ h) → Refines (R C all) G (if b then r else fail w) r'
      go true e = k (e refl)
      go false e = first_wrong _

  content-same : (g : ℕ) {v : Val C.types} {v' : cells.Value} (w : World (Val C.types)) (u : World cells.Value) → S v v' → W w u → Q (at C.flow (spots.content g)) (content_of (by_number C.types) g w v) (gives v' u)
  content-same g w u (same_cell h {v = v} x i) s = if-made g h w (λ e. both_give (record { same = x; is = subst (λ z. IsOneOf C.types v (at C.flow (spots.content z))) (sym e) i }) s)
  content-same g w u _ s = first_wrong _

  pub read-same : (g : ℕ) {v : Val C.types} {v' : cells.Value} (w : World (Val C.types)) (u : World cells.Value) → S v v' → W w u → Q (at C.flow (spots.content g)) (read_reference g v w) (op.read v' u)
  read-same g w u (same_address a) s = dereference-refines (R C all) _ a w u _ _ s (λ v v' r. content-same g w u r.same s)
  read-same g w u _ s = first_wrong _

  field-same : (h : ℕ) (l : Label) {ls : List Label} {ts : List ℕ} {fs : Parts (mono C.types)} {us : cells.Values} (w : World (Val C.types)) (u : World cells.Value) → SameFields C all h ls ts fs us → W w u → Q (at C.flow (spots.field h l)) (or_fail (field_in l fs) w (λ v. gives v w)) (or_fail (cells.at (label_index l ls) us) u (λ v. gives v u))
  field-same h l w u no_fields_same s = first_wrong _
  field-same h l w u (a_field_same k {v = v} {u = z} {ls = ls} {fs = fs} {us = us} x i rest) s = go (same_label l k) (labels-one l k) (field-same h l w u rest s)
    where
      go : (b : Bool) → (b ≡ true → l ≡ k) → Q (at C.flow (spots.field h l)) (or_fail (field_in l fs) w (λ v. gives v w)) (or_fail (cells.at (label_index l ls) us) u (λ v. gives v u))
          → Q (at C.flow (spots.field h l)) (or_fail (if b then Some v else field_in l fs) w (λ v. gives v w)) (or_fail (cells.at (if b then zero else suc (label_index l ls)) (cells.value z us)) u (λ v. gives v u))
      go true e more = both_give (record { same = x; is = subst (λ m. IsOneOf C.types v (at C.flow (spots.field h m))) (sym (e refl)) i }) s
      go false e more = more

  pub select-same : (g : ℕ) (l : Label) {v : Val C.types} {v' : cells.Value} (w : World (Val C.types)) (u : World cells.Value) → S v v' → W w u → Q (at C.flow (spots.field g l)) (select_from g l v w) (op.field_from (label_index l (labels_in (node_at C.types g))) v' u)
  select-same g l w u (same_record h {ls = ls} {ts = ts} {fs = fs} {us = us} is d sf) s =
      if-made g h w (λ e. subst (λ z. Q (at C.flow (spots.field z l)) (or_fail (field_in l fs) w (λ v. gives v w)) (or_fail (cells.at (label_index l (labels_in (node_at C.types z))) us) u (λ v. gives v u))) (sym e)
      (subst (λ o. Q (at C.flow (spots.field h l)) (or_fail (field_in l fs) w (λ v. gives v w)) (or_fail (cells.at (label_index l (labels_in o)) us) u (λ v. gives v u))) (sym is) (field-same h l w u sf s)))
  select-same g l w u _ s = first_wrong _

  pub raise-same : {v : Val C.types} {v' : cells.Value} {ks : List ℕ} (w : World (Val C.types)) (u : World cells.Value) → S v v' → W w u → Q ks (raise_value v w) (op.raised_from v' u (raises v' u))
  raise-same w u (same_exn g i) s = both_raise (record { same = same_exn g i; is = tt }) s
  raise-same w u (same_exn_of g i x j) s = both_raise (record { same = same_exn_of g i x j; is = tt }) s
  raise-same w u _ s = first_wrong _

  -- a turn before an operation, where it has a place
  pub marked-same : {A : Type 0} {G : Val C.types → cells.Value → Type 0} (calls : Calls) (m : Option Place) (w : World (Val C.types)) (u : World cells.Value) (f : World (Val C.types) → Answer (Val C.types) A) (go : A → World (Val C.types) → Answer (Val C.types) (Val C.types)) (e : out.Exp) (ρ : cells.Env) (other : World cells.Value → cells.Run cells.Value) → W w u
      → ((w' : World (Val C.types)) (u' : World cells.Value) → W w' u' → Refines (R C all) G (run.then_do (f w') go) (tgt.eval (T C all sound) calls e ρ u' other))
      → Refines (R C all) G (run.then_do (marked m w f) go) (tgt.eval (T C all sound) calls (conv.marked m e) ρ u other)
  marked-same calls None w u f go e ρ other s h = h w u s
  marked-same {G = G} calls (Some place) w u f go e ρ other s h =
      subst (λ r. Refines (R C all) G r (run.take_turn place u (λ z. tgt.eval (T C all sound) calls e ρ z other))) (sym (turn-then w.left place w f go))
      (take_turn-refines (R C all) G place w u (λ z. run.then_do (f z) go) (λ z. tgt.eval (T C all sound) calls e ρ z other) s h)
