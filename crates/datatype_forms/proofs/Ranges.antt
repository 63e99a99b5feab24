-- The constructors that a range of schemes names.
use Rattle.std.proofs.Common.{◌≡◌, ◌≤◌, ◌<◌, ◌+◌, ℕ, zero, suc, List, [], ◌∷◌, length, take, drop, Option, Some, None, slice_get, refl, sym, ap, ap₂, ◌∙◌, arith}
use Rattle.std.proofs.lemmas.Option.{slice_get_within}
use Rattle.ty_core.specs.Types.{Typ}
use Rattle.ty_core.specs.declared.name.TyName.{TyName}
use Rattle.sml_tree.specs.declared.ident.Vid.{Vid}
use Rattle.sml_tree.specs.BareTree.{ConBind, DataBind}
use Rattle.elab_types.specs.declared.scope.TypeEntry.{TypeEntry}
use Rattle.elab_context.specs.Entries.{constructor_entry, constructors_in}
use Rattle.elab_context.specs.declared.entry.Built.{Built}
use Rattle.elab_context.specs.declared.entry.Built.TheVariants.{Declared}
use Rattle.elab_context.specs.declared.entry.Entry.{Entry}
use Rattle.elab_context.specs.declared.entry.Entry.TheVariants.{Constructor}
use Rattle.elab_context.specs.declared.entry.Scheme as code
use Rattle.dec_forms.specs.Entries.{constructing_name}
use Rattle.dec_forms.proofs.Listed.{constructing-is}
use Rattle.datatype_forms.specs.Constructed.{EachScheme, no_scheme, a_scheme, ranged}
use Rattle.datatype_forms.specs.Reading.{AreNameEntries}

dropped : {A : Type 0} (xs : List A) (k : ℕ) (a : A) → slice_get xs k ≡ Some a → drop k xs ≡ a ∷ drop (suc k) xs
dropped [] zero a e = cc
dropped [] (suc k) a e = cc
dropped (x ∷ xs) zero a e = let same : x ≡ a = cc in ap (λ z. z ∷ xs) same
dropped (x ∷ xs) (suc k) a e = dropped xs k a e

one-in : (k : ℕ) (s : code.Scheme) (ss : List code.Scheme) (c : Built) → s.constructor ≡ Some c → constructors_in k (s ∷ ss) ≡ constructor_entry k c ∷ constructors_in (suc k) ss
one-in k s ss c h = by s.constructor h
  where
    by : (o : Option Built) → o ≡ Some c
        → elim o [ None ↦ constructors_in (suc k) ss | Some d ↦ constructor_entry k d ∷ constructors_in (suc k) ss ] ≡ constructor_entry k c ∷ constructors_in (suc k) ss
    by None q = cc
    by (Some d) q = let same : d ≡ c = cc in ap (λ z. constructor_entry k z ∷ constructors_in (suc k) ss) same

entry-is : (k n : ℕ) (y : TyName) (v : Vid) (e : Vid × Entry) → constructing_name v ≡ Some n → e ≡ (v, Constructor k n y) → constructor_entry k (Declared n y) ≡ e
entry-is k n y v e may is = ap (λ x. (x, Constructor k n y)) (sym (constructing-is v n may)) ∙ sym is

pub each-named : {ts : List Typ} (ss : List code.Scheme) {y : TyName} {k j : ℕ} {bs : List ConBind} {os : List (Option Typ)} {es : List (Vid × Entry)} → EachScheme ts ss y k bs os es j
    → constructors_in k (take (length bs) (drop k ss)) ≡ es
each-named ss no_scheme = refl
each-named ss {y = y} (a_scheme {k = k} {b = b} {e = e} {bs = bs} h hs) =
    ap (λ l. constructors_in k (take (suc (length bs)) l)) (dropped ss k h.code h.found)
    ∙ one-in k h.code (take (length bs) (drop (suc k) ss)) (Declared h.number y) h.built
    ∙ ap₂ (λ x l. x ∷ l) (entry-is k h.number y b.vid e h.may h.is) (each-named ss hs)

pub each-ends : {ts : List Typ} {ss : List code.Scheme} {y : TyName} {k j : ℕ} {bs : List ConBind} {os : List (Option Typ)} {es : List (Vid × Entry)} → EachScheme ts ss y k bs os es j
    → j ≡ k + length bs
each-ends no_scheme = omega arith
each-ends (a_scheme h hs) = let q = each-ends hs in omega (arith, q)

pub each-within : {ts : List Typ} (ss : List code.Scheme) {y : TyName} {k j : ℕ} {bs : List ConBind} {os : List (Option Typ)} {es : List (Vid × Entry)} → k ≤ length ss
    → EachScheme ts ss y k bs os es j → k + length bs ≤ length ss
each-within ss le no_scheme = omega (arith, le)
each-within ss le (a_scheme {k = k} h hs) =
    let lt : k < length ss = slice_get_within ss k h.code h.found in
    let q = each-within ss (omega (arith, lt)) hs in
    omega (arith, q)

-- type constructors with their ranges

pub ranged_entries : (us : List Typ) (k : ℕ) (bs : List DataBind) (ns : List TyName) (ts : List (ℕ × TypeEntry)) → AreNameEntries us bs ns ts → AreNameEntries us bs ns (ranged k bs ts)
ranged_entries us k [] [] [] h = tt
ranged_entries us k [] [] (t ∷ ts) h = absurd h
ranged_entries us k [] (n ∷ ns) ts h = absurd h
ranged_entries us k (b ∷ bs) [] ts h = absurd h
ranged_entries us k (b ∷ bs) (n ∷ ns) [] h = absurd h
ranged_entries us k (b ∷ bs) (n ∷ ns) (t ∷ ts) h = ((h.0.0, record { arity = h.0.1.arity; body = h.0.1.body }), ranged_entries us (k + length b.cons) bs ns ts h.1)
