-- What a state says comes true in the world of a generic solution, and there is one.
use Rattle.std.proofs.Common.{◌≡◌, ◌<◌, ℕ, zero, suc, true, nat_eq, if◌then◌else◌, List, [], ◌∷◌, ◌++◌, length, Option, Some, None, slice_get, refl, sym, ap, subst, ◌∙◌, arith}
use Rattle.std.proofs.lemmas.Option.{get_or_from_slice_get}
use Rattle.std.proofs.lemmas.List.{append_assoc, append-nil, length-append}
use Rattle.ty_core.specs.Types.{Typ}
use Rattle.ty_core.specs.declared.scheme.Quantified.{Quantified}
use Rattle.ty_solve.proofs.Holding.{type-stays}
use Rattle.ir_tables.specs.Tables.{parameters_of, strings_of}
use Rattle.elab_state.specs.Namings.{number_in, IsAbove, ComesBefore, IsNext, AreNext, AreNamings, IsAmong}
use Rattle.elab_state.specs.Readings.{type_if}
use Rattle.elab_state.specs.States.{types_in, limit_in}
use Rattle.elab_state.specs.Generic.{IsGeneric}
use Rattle.elab_state.specs.Steps.{Grows}
use Rattle.elab_state.specs.declared.naming.Naming.{Naming}
use Rattle.elab_state.specs.declared.state.State.{State}
use Rattle.elab_state.proofs.Begins.{begins-get, begins-push}
use Rattle.elab_state.proofs.Numbering.{number-stays, new-number}
use Rattle.elab_state.proofs.Reading.{table-finds}
use Rattle.elab_steps.specs.Ordered.{is_ordered}
use Rattle.elab_steps.specs.World.{Comes}
use Rattle.elab_worlds.specs.Worlds.{world_of}
use Rattle.elab_worlds.proofs.Names.{over-static}

-- the numbers of a row of namings

pub next-at : (qs before after : List Naming) (r : Naming) → AreNext qs (before ++ r ∷ after) → IsNext (qs ++ before) r
next-at qs [] after r h = subst (λ l. IsNext l r) (sym (append-nil qs)) h.0
next-at qs (q ∷ before) after r h = subst (λ l. IsNext l r) (append_assoc qs (q ∷ []) before) (next-at (qs ++ q ∷ []) before after r h.1)

pub among-found : (rs : List Naming) (k n : ℕ) → IsAbove n (slice_get rs k) → k < length rs
among-found [] k n h = absurd h
among-found (r ∷ rs) zero n h = omega arith
among-found (r ∷ rs) (suc k) n h = let l = among-found rs k n h in omega (arith, l)

before-among : (rs : List Naming) (o : Option ℕ) (n : ℕ) → ComesBefore rs o n → IsAmong (length rs) o
before-among rs None n h = tt
before-among rs (Some k) n h = among-found rs k n h

row-number : (before after : List Naming) (r : Naming) (x : ℕ) → AreNamings (before ++ r ∷ after)
    → number_in (before ++ r ∷ after) (Some (length before)) x ≡ (if nat_eq r.stamp x then r.number else number_in (before ++ r ∷ after) r.before x)
row-number before after r x h =
    number-stays (before ++ r ∷ []) (before ++ r ∷ after) (Some (length before)) x (begins-push (before ++ r ∷ []) (before ++ r ∷ after) after (sym (append_assoc before (r ∷ []) after)))
    (let n = length-append before (r ∷ []) in omega (arith, n))
    ∙ new-number before r x
    ∙ ap (λ n. if nat_eq r.stamp x then r.number else n)
    (sym (number-stays before (before ++ r ∷ after) r.before x (begins-push before (before ++ r ∷ after) (r ∷ after) refl)
    (before-among before r.before r.stamp (next-at [] before after r h).later)))

pub record Split (rs : List Naming) (k : ℕ) (r : Naming) : Type 0 where
  pub before : List Naming
  pub after : List Naming
  pub is : rs ≡ before ++ r ∷ after
  pub at : k ≡ length before

pub split : (rs : List Naming) (k : ℕ) (r : Naming) → slice_get rs k ≡ Some r → Split rs k r
split [] k r e = cc
split (q ∷ rs) zero r e = let s : q ≡ r = cc in record { before = []; after = rs; is = ap (λ x. x ∷ rs) s; at = refl }
split (q ∷ rs) (suc k) r e = let s = split rs k r e in record { before = q ∷ s.before; after = s.after; is = ap (λ l. q ∷ l) s.is; at = ap suc s.at }

pub numbers-at : (rs : List Naming) (k : ℕ) (r : Naming) (x : ℕ) → AreNamings rs → slice_get rs k ≡ Some r → number_in rs (Some k) x ≡ (if nat_eq r.stamp x then r.number else number_in rs r.before x)
numbers-at rs k r x h e =
    let s = split rs k r e in
    subst (λ j. number_in rs (Some j) x ≡ (if nat_eq r.stamp x then r.number else number_in rs r.before x)) (sym s.at)
    (subst (λ l. number_in l (Some (length s.before)) x ≡ (if nat_eq r.stamp x then r.number else number_in l r.before x)) (sym s.is)
    (row-number s.before s.after r x (subst AreNamings s.is h)))

-- where a later state tells the world

pub comes-of : (S later : State) → Grows S later → (D : ℕ → List Quantified) (g : ℕ → Typ) (h : IsGeneric S D g) (o : (v : ℕ) → is_ordered (g v) ≡ true)
    → Comes S (world_of S later D g h o)
comes-of S later e D g h o = record {
  solves = h.solves;
  names = λ v l. over-static (limit_in S v).names (g v) (h.names v l);
  within = h.within;
  itself = h.itself;
  apart = h.apart;
  types = λ k l. type-stays (types_in S) (types_in later) k e.types l;
  written = λ k w s. ap (type_if (types_in later) g later.namings.items) (begins-get S.written.items later.written.items k w e.written s);
  namings = λ k r s x. numbers-at later.namings.items k r x later.ordered (begins-get S.namings.items later.namings.items k r e.namings s);
  lists = λ k qs s. get_or_from_slice_get (parameters_of later.tables) k qs [] (begins-get (parameters_of S.tables) (parameters_of later.tables) k qs e.parameters s);
  strings = λ k t s. get_or_from_slice_get (strings_of later.tables) k t [] (begins-get (strings_of S.tables) (strings_of later.tables) k t e.strings s);
  rows = λ y c row s. table-finds S.tables.types later.tables.types S.tables.constructors later.tables.constructors y c row e.table_types e.constructors S.rows s;
}
